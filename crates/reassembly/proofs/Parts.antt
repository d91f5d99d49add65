-- A list after a write to its part from a on.
use Rattle.std.proofs.Common.{◌≡◌, ℕ, ◌+◌, ◌-◌, ◌<◌, ◌≤◌, ap, ◌∙◌, arith, List, ◌++◌, length, get_or, take, drop, length-drop, length-append}
use Rattle.std.proofs.lemmas.List.{get_or_append_left, get_or-append_right, length-take-le, get_or-take, get_or-drop}
use borrow.Rule.Slice.PartMut.{put_mid, post_of}

pub mid_below : {X : Type 0} (a k : ℕ) (xs ys : List X) (i : ℕ) (d : X) → a ≤ length xs → i < a → get_or (put_mid a k xs ys) i d ≡ get_or xs i d
mid_below a k xs ys i d la l =
    let len : length (take a xs) ≡ a = length-take-le a xs la in
    get_or_append_left (take a xs) (ys ++ post_of a k xs) d i (omega arith) ∙ get_or-take a xs i d l

pub mid_in : {X : Type 0} (a k : ℕ) (xs ys : List X) (i : ℕ) (d : X) → a ≤ length xs → a ≤ i → i < a + length ys → get_or (put_mid a k xs ys) i d ≡ get_or ys (i - a) d
mid_in a k xs ys i d la l h =
    let len : length (take a xs) ≡ a = length-take-le a xs la in
    get_or-append_right (take a xs) (ys ++ post_of a k xs) a i d len l ∙ get_or_append_left ys (post_of a k xs) d (i - a) (omega arith)

pub mid_above : {X : Type 0} (a k : ℕ) (xs ys : List X) (i : ℕ) (d : X) → a ≤ length xs → length ys ≡ k → a + k ≤ i → get_or (put_mid a k xs ys) i d ≡ get_or xs i d
mid_above a k xs ys i d la e h =
    let len : length (take a xs) ≡ a = length-take-le a xs la in
    get_or-append_right (take a xs) (ys ++ post_of a k xs) a i d len (omega arith)
    ∙ get_or-append_right ys (post_of a k xs) k (i - a) d e (omega arith)
    ∙ get_or-drop k (drop a xs) (i - a - k) d
    ∙ get_or-drop a xs (k + (i - a - k)) d
    ∙ ap (λ j. get_or xs j d) (let j : a + (k + (i - a - k)) ≡ i = omega arith in j)

-- an element of a part
pub part_at : {X : Type 0} (a e : ℕ) (xs : List X) (i : ℕ) (d : X) → i < e - a → get_or (take (e - a) (drop a xs)) i d ≡ get_or xs (a + i) d
part_at a e xs i d l = get_or-take (e - a) (drop a xs) i d l ∙ get_or-drop a xs i d

pub length-mid : {X : Type 0} (a k : ℕ) (xs ys : List X) → a + k ≤ length xs → length ys ≡ k → length (put_mid a k xs ys) ≡ length xs
length-mid a k xs ys l e =
    let front : length (take a xs) ≡ a = length-take-le a xs (omega arith) in
    let back : length (drop a xs) ≡ length xs - a = length-drop a xs in
    let rest : length (post_of a k xs) ≡ length (drop a xs) - k = length-drop k (drop a xs) in
    let inner : length (ys ++ post_of a k xs) ≡ length ys + length (post_of a k xs) = length-append ys (post_of a k xs) in
    length-append (take a xs) (ys ++ post_of a k xs) ∙ (omega arith)
