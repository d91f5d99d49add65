-- The records that were merged so far, and those that wait.
use Rattle.std.proofs.Common.{◌≡◌, ◌<◌, ◌+◌, ℕ, zero, suc, Bool, true, false, Some, List, [], ◌∷◌, ◌++◌, length, set, refl, sym, ap, ◌∙◌, subst, arith, ⊎_elim, get_or-set_same, get_or-set_other, append_assoc}
use Rattle.std.specs.Prelude.{if◌then◌else◌, ◌==◌, filter}
use Rattle.std.specs.List.{All}
use Rattle.std.proofs.lemmas.List.{map-append, get_or_past}
use Rattle.std.proofs.lemmas.List.Elements.{All-nil, All-cons, All-head, All-tail, All-push, All-weaker}
use Rattle.std.proofs.lemmas.Bool.{cases_eq, cases_lt, eq-eqb, ne_eqb}
use Rattle.lane_core.specs.declared.under_way.RecordUnderWay.{RecordUnderWay}
use Rattle.run_outcome.specs.Rising.{Rises}
use Rattle.lane_composition.specs.Merge.{list_at, names_in as names_by, AreOfLanes}
use Rattle.lane_join.specs.Queues.{first_name, kept_name, Moves}

abbrev names_in : List RecordUnderWay → List ℕ
names_in records = names_by kept_name records

-- how many records wait
abbrev pub left : List (List RecordUnderWay) → ℕ
left [] = 0
left (l ∷ ls) = length l + left ls

left_less : (ls : List (List RecordUnderWay)) (i : ℕ) (r : RecordUnderWay) (rest : List RecordUnderWay) → list_at ls i ≡ r ∷ rest → left (set ls i rest) + 1 ≡ left ls
left_less [] i r rest e = absurd (cc)
left_less (l ∷ ls) zero r rest e = let long = ap length e in omega arith
left_less (l ∷ ls) (suc i) r rest e = let before = left_less ls i r rest e in omega arith

pub left_moved : (old new : List (List RecordUnderWay)) (before after : List RecordUnderWay) → Moves old new before after → left new < left old
left_moved old new before after moves = let less = left_less old moves.place moves.moved moves.rest moves.was in let e = ap left moves.new_is in omega arith

pub record IsSoFar (of : ℕ → ℕ) (ls queues : List (List RecordUnderWay)) (merged : List RecordUnderWay) : Type 0 where
  pub rises : Rises (names_in merged)
  pub parts : (l : ℕ) → filter (λ r. of r.name == l) merged ++ list_at queues l ≡ list_at ls l
  pub above : (l : ℕ) → All (λ n. All (λ m. m < n) (names_in merged)) (names_in (list_at queues l))

all_above_none : (ns : List ℕ) → All (λ n. All (λ m. m < n) []) ns
all_above_none [] = All-nil (λ n. All (λ m. m < n) [])
all_above_none (n ∷ ns) = All-cons (λ k. All (λ m. m < k) []) n ns (All-nil (λ m. m < n)) (all_above_none ns)

no_fall : Rises []
unfolding Rises
no_fall = tt

pub so_far_none : (of : ℕ → ℕ) (ls : List (List RecordUnderWay)) → IsSoFar of ls ls []
so_far_none of ls = record { rises = no_fall; parts = λ l. refl; above = λ l. all_above_none (names_in (list_at ls l)) }

Rises-push : (ns : List ℕ) (n : ℕ) → Rises ns → All (λ m. m < n) ns → Rises (ns ++ n ∷ [])
unfolding Rises
Rises-push [] n rises below = (All-nil (λ k. n < k), tt)
Rises-push (m ∷ ns) n rises below =
    (All-push (λ k. m < k) ns n rises.0 (All-head (λ k. k < n) m ns below), Rises-push ns n rises.1 (All-tail (λ k. k < n) m ns below))

Rises-end : (xs ys : List ℕ) → Rises (xs ++ ys) → Rises ys
unfolding Rises
Rises-end [] ys rises = rises
Rises-end (x ∷ xs) ys rises = Rises-end xs ys rises.1

Rises-head : (n : ℕ) (ns : List ℕ) → Rises (n ∷ ns) → All (λ k. n < k) ns
unfolding Rises
Rises-head n ns rises = rises.0

All-end : (P : RecordUnderWay → Type 0) (xs ys : List RecordUnderWay) → All P (xs ++ ys) → All P ys
All-end P [] ys all = all
All-end P (x ∷ xs) ys all = All-end P xs ys (All-tail P x (xs ++ ys) all)

above_push : (ms : List ℕ) (x : ℕ) (ns : List ℕ) → All (λ n. All (λ m. m < n) ms) ns → All (λ n. x < n) ns → All (λ n. All (λ m. m < n) (ms ++ x ∷ [])) ns
above_push ms x [] above less = All-nil (λ n. All (λ m. m < n) (ms ++ x ∷ []))
above_push ms x (n ∷ ns) above less =
    All-cons (λ k. All (λ m. m < k) (ms ++ x ∷ [])) n ns
    (All-push (λ m. m < n) ms x (All-head (λ k. All (λ m. m < k) ms) n ns above) (All-head (λ k. x < k) n ns less))
    (above_push ms x ns (All-tail (λ k. All (λ m. m < k) ms) n ns above) (All-tail (λ k. x < k) n ns less))

kept_by : (b : Bool) (x : RecordUnderWay) (xs more ys : List RecordUnderWay) → ys ≡ xs ++ more → (if b then x ∷ ys else ys) ≡ (if b then x ∷ xs else xs) ++ more
kept_by true x xs more ys e = ap (λ y. x ∷ y) e
kept_by false x xs more ys e = e

module _ (of : ℕ → ℕ) (l : ℕ) where
  kept_last : (xs : List RecordUnderWay) (r : RecordUnderWay) → of r.name ≡ l → filter (λ q. of q.name == l) (xs ++ r ∷ []) ≡ filter (λ q. of q.name == l) xs ++ r ∷ []
  kept_last [] r own = let e = eq-eqb (of r.name) l own in rw e refl
  kept_last (x ∷ xs) r own = kept_by (of x.name == l) x (filter (λ q. of q.name == l) xs) (r ∷ []) (filter (λ q. of q.name == l) (xs ++ r ∷ [])) (kept_last xs r own)

  dropped_last : (xs : List RecordUnderWay) (r : RecordUnderWay) → (of r.name ≡ l → ⊥) → filter (λ q. of q.name == l) (xs ++ r ∷ []) ≡ filter (λ q. of q.name == l) xs
  dropped_last [] r other = let e = ne_eqb (of r.name) l other in rw e refl
  dropped_last (x ∷ xs) r other = ap (λ y. if of x.name == l then x ∷ y else y) (dropped_last xs r other)

some_name : {a b : ℕ} → Some a ≡ Some b → a ≡ b
some_name e = cc

nil_is_cons : (x : RecordUnderWay) (xs : List RecordUnderWay) → [] ≡ x ∷ xs → ⊥
nil_is_cons x xs e = cc

module _ (of : ℕ → ℕ) (ls old new : List (List RecordUnderWay)) (before after : List RecordUnderWay) (are : AreOfLanes kept_name of ls) (so_far : IsSoFar of ls old before) (moves : Moves old new before after) where
  abbrev part : ℕ → List RecordUnderWay
  part l = filter (λ r. of r.name == l) before

  -- the records that wait are of their lane, and their names_in rise
  wait_own : (l : ℕ) → All (λ r. of r.name ≡ l) (list_at old l)
  wait_own l = All-end (λ r. of r.name ≡ l) (part l) (list_at old l) (subst (All (λ r. of r.name ≡ l)) (sym (so_far.parts l)) (are.own l))

  wait_rise : (l : ℕ) → Rises (names_in (list_at old l))
  wait_rise l = Rises-end (names_in (part l)) (names_in (list_at old l)) (subst Rises (ap names_in (sym (so_far.parts l)) ∙ map-append (λ r. r.name) (part l) (list_at old l)) (are.rise l))

  own : of moves.moved.name ≡ moves.place
  own = All-head (λ r. of r.name ≡ moves.place) moves.moved moves.rest (subst (All (λ r. of r.name ≡ moves.place)) moves.was (wait_own moves.place))

  name_is : moves.moved.name ≡ moves.name
  name_is = some_name (ap first_name (sym moves.was) ∙ moves.lowest.own)

  here : list_at new moves.place ≡ moves.rest
  here = ap (λ x. list_at x moves.place) moves.new_is ∙ get_or-set_same old moves.place moves.rest [] moves.lowest.below

  there : (l : ℕ) → (l ≡ moves.place → ⊥) → list_at new l ≡ list_at old l
  there l other = ap (λ x. list_at x l) moves.new_is ∙ get_or-set_other old moves.place l moves.rest [] other

  behind_here : All (λ n. moves.moved.name < n) (names_in moves.rest)
  behind_here = Rises-head moves.moved.name (names_in moves.rest) (subst (λ x. Rises (names_in x)) moves.was (wait_rise moves.place))

  behind_by : (l : ℕ) → (l ≡ moves.place → ⊥) → (rs : List RecordUnderWay) → list_at old l ≡ rs → All (λ n. moves.moved.name < n) (names_in rs)
  behind_by l other [] is = All-nil (λ n. moves.moved.name < n)
  behind_by l other (x ∷ xs) is =
      let of_x = All-head (λ r. of r.name ≡ l) x xs (subst (All (λ r. of r.name ≡ l)) is (wait_own l)) in
      let within : l < length old = ⊎_elim (λ lt. lt) (λ le. absurd (nil_is_cons x xs (sym (get_or_past old l [] le) ∙ is))) (cases_lt l (length old)) in
      let least = moves.lowest.least l x.name within (ap first_name is) in
      let apart : moves.moved.name ≡ x.name → ⊥ = λ e. other (sym of_x ∙ ap of (sym e) ∙ own) in
      let first : moves.moved.name < x.name = ⊎_elim (λ e. absurd (apart e)) (λ ne. let is_name = name_is in omega arith) (cases_eq moves.moved.name x.name) in
      All-cons (λ n. moves.moved.name < n) x.name (names_in xs) first
      (All-weaker (λ n. x.name < n) (λ n. moves.moved.name < n) (λ n lt. omega arith) (names_in xs) (Rises-head x.name (names_in xs) (subst (λ y. Rises (names_in y)) is (wait_rise l))))

  behind : (l : ℕ) → All (λ n. moves.moved.name < n) (names_in (list_at new l))
  behind l = ⊎_elim
      (λ same. subst (λ k. All (λ n. moves.moved.name < n) (names_in (list_at new k))) (sym same) (subst (λ x. All (λ n. moves.moved.name < n) (names_in x)) (sym here) behind_here))
      (λ other. subst (λ x. All (λ n. moves.moved.name < n) (names_in x)) (sym (there l other)) (behind_by l other (list_at old l) refl)) (cases_eq l moves.place)

  above_old : All (λ n. All (λ m. m < n) (names_in before)) (names_in (moves.moved ∷ moves.rest))
  above_old = subst (λ x. All (λ n. All (λ m. m < n) (names_in before)) (names_in x)) moves.was (so_far.above moves.place)

  above_before : (l : ℕ) → All (λ n. All (λ m. m < n) (names_in before)) (names_in (list_at new l))
  above_before l = ⊎_elim
      (λ same. subst (λ k. All (λ n. All (λ m. m < n) (names_in before)) (names_in (list_at new k))) (sym same)
      (subst (λ x. All (λ n. All (λ m. m < n) (names_in before)) (names_in x)) (sym here) (All-tail (λ n. All (λ m. m < n) (names_in before)) moves.moved.name (names_in moves.rest) above_old)))
      (λ other. subst (λ x. All (λ n. All (λ m. m < n) (names_in before)) (names_in x)) (sym (there l other)) (so_far.above l)) (cases_eq l moves.place)

  names_after : names_in after ≡ names_in before ++ moves.moved.name ∷ []
  names_after = ap names_in moves.after_is ∙ map-append (λ r. r.name) before (moves.moved ∷ [])

  parts_here : (l : ℕ) → l ≡ moves.place → filter (λ r. of r.name == l) after ++ list_at new l ≡ list_at ls l
  parts_here l same =
      ap (λ x. filter (λ r. of r.name == l) x ++ list_at new l) moves.after_is
      ∙ ap (λ x. x ++ list_at new l) (kept_last of l before moves.moved (own ∙ sym same))
      ∙ append_assoc (part l) (moves.moved ∷ []) (list_at new l)
      ∙ ap (λ x. part l ++ moves.moved ∷ x) (ap (list_at new) same ∙ here)
      ∙ ap (λ x. part l ++ x) (sym moves.was ∙ ap (list_at old) (sym same))
      ∙ so_far.parts l

  parts_there : (l : ℕ) → (l ≡ moves.place → ⊥) → filter (λ r. of r.name == l) after ++ list_at new l ≡ list_at ls l
  parts_there l other =
      ap (λ x. filter (λ r. of r.name == l) x ++ list_at new l) moves.after_is
      ∙ ap (λ x. x ++ list_at new l) (dropped_last of l before moves.moved (λ e. other (sym e ∙ own)))
      ∙ ap (λ x. part l ++ x) (there l other)
      ∙ so_far.parts l

  pub so_far_moved : IsSoFar of ls new after
  so_far_moved = record {
    rises = subst Rises (sym names_after)
        (Rises-push (names_in before) moves.moved.name so_far.rises (All-head (λ n. All (λ m. m < n) (names_in before)) moves.moved.name (names_in moves.rest) above_old));
    parts = λ l. ⊎_elim (parts_here l) (parts_there l) (cases_eq l moves.place);
    above = λ l. subst (λ ms. All (λ n. All (λ m. m < n) ms) (names_in (list_at new l))) (sym names_after)
        (above_push (names_in before) moves.moved.name (names_in (list_at new l)) (above_before l) (behind l));
  }
