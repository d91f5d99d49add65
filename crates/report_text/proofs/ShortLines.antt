-- A line that is put together in an array: how it begins before the middle, and the words and the ending behind it.
use Rattle.std.proofs.Common.{◌≡◌, ℕ, ◌+◌, ◌/◌, ◌%◌, ◌^◌, ◌<◌, ◌≤◌, List, [], ◌∷◌, ◌++◌, length, take, drop, set, refl, ap, sym, ◌∙◌, arith, length-append, length-set, append_assoc, codes}
use Rattle.std.specs.Fmt.{decimal}
use Rattle.std.proofs.lemmas.Fmt.{decimal_digit, decimal_step, length-decimal-le}
use Rattle.std.proofs.lemmas.List.{take-append-le, take_at, drop_at, take_more_set, take-set, take-set-le, take-take, drop-set, drop-take, drop-append-le, length-take-le, length-drop}
use Rattle.std.proofs.lemmas.Grind.{take-set_at}
use Rattle.std.proofs.Math.Seq.{take-add}
use Rattle.std.proofs.lemmas.Slice.{take-put_mid_below}
use borrow.Rule.Slice.PartMut.{put_mid, post_of}
use Rattle.native_filters.specs.declared.facts.Hook.{Hook}
use Rattle.native_filters.specs.declared.facts.Hook.TheVariants.{Snd, Rcv}
use Rattle.app_api.specs.declared.entry.Entry.{Entry}
use Rattle.app_api.specs.declared.entry.Seen.TheVariants.{Nothing}
use Rattle.report_text.specs.Lines.{callback_line}
use Rattle.app_api.specs.Names.{IsLabel}
use Rattle.std.specs.Option.{unwrap_or}
use Rattle.report_text.specs.ShortWords.{hook_word}
use Rattle.report_text.specs.Words.{hook_text, event_text, seen_text}

pub width_one : (n : ℕ) → n < 10 → 1 ≡ length (decimal n)
width_one n low = ap length (sym (decimal_digit n low))

pub width_two : (n : ℕ) → 10 ≤ n → n < 100 → 2 ≡ length (decimal n)
width_two n high low = rw (decimal_step n high (omega arith), decimal_digit (n / 10) (omega arith)) refl

pub width_three : (n : ℕ) → 100 ≤ n → n < 256 → 3 ≡ length (decimal n)
width_three n high low =
    let two = width_two (n / 10) (omega arith) (omega arith) in
    rw (decimal_step n (omega arith) (omega arith)) (omega (arith, two, length-append (decimal (n / 10)) ((48 + n % 10) ∷ [])))

pub length_index : (n : ℕ) → n < 2 ^ 64 → length (decimal n) ≤ 20
length_index n fits = length-decimal-le 20 n (omega arith) (omega arith) fits

-- three bytes before a number that ends at the middle
pub begins : (bytes digits rest : List ℕ) (at a b c : ℕ) → a + 1 ≡ at → b + 1 ≡ a → c + 1 ≡ b → at < length bytes → at + length digits ≡ 24
    → drop at bytes ≡ digits ++ rest
    → drop c (take 24 (set (set (set bytes a 32) b 98) c 99)) ≡ 99 ∷ 98 ∷ 32 ∷ digits
begins bytes digits rest at a b c is_a is_b is_c within ends stands =
    let one = set bytes a 32 in
    let two = set one b 98 in
    let three = set two c 99 in
    let long_one : length one ≡ length bytes = length-set bytes a 32 in
    let long_two : length two ≡ length one = length-set one b 98 in
    let whole : drop c three ≡ 99 ∷ 98 ∷ 32 ∷ (digits ++ rest) =
    drop-set two c 99 (omega arith) ∙ ap (λ k. 99 ∷ drop k two) is_c
    ∙ ap (λ l. 99 ∷ l) (drop-set one b 98 (omega arith) ∙ ap (λ k. 98 ∷ drop k one) is_b
    ∙ ap (λ l. 98 ∷ l) (drop-set bytes a 32 (omega arith) ∙ ap (λ k. 32 ∷ drop k bytes) is_a ∙ ap (λ l. 32 ∷ l) stands)) in
    let count : 24 ≡ c + length (99 ∷ 98 ∷ 32 ∷ digits) = omega arith in
    ap (λ k. drop c (take k three)) count ∙ drop-take c (length (99 ∷ 98 ∷ 32 ∷ digits)) three
    ∙ ap (take (length (99 ∷ 98 ∷ 32 ∷ digits))) whole ∙ take_at (99 ∷ 98 ∷ 32 ∷ digits) rest _ refl

-- words copied whole to a place
worded : (bytes words : List ℕ) (at size len : ℕ) → length words ≡ size → len ≤ size → at ≤ length bytes
    → take (at + len) (put_mid at size bytes words) ≡ take at bytes ++ take len words
worded bytes words at size len long few within =
    let behind : drop at (put_mid at size bytes words) ≡ words ++ post_of at size bytes =
    drop_at (take at bytes) (words ++ post_of at size bytes) at (length-take-le at bytes within) in
    take-add at len (put_mid at size bytes words)
    ∙ (ap (λ l. l ++ take len (drop at (put_mid at size bytes words))) (take-put_mid_below at size bytes words at (omega arith) within)
    ∙ ap (λ l. take at bytes ++ l) (ap (take len) behind ∙ take-append-le len words (post_of at size bytes) (omega (arith, long, few))))

-- the word for a hook behind the middle, and a name with blanks behind it
pub two_words : (bytes hook name one two : List ℕ) (len end : ℕ) → one ≡ hook ++ codes "   " → two ≡ take 16 name → end ≡ 29 + len
    → length hook ≡ 5 → 16 ≤ length name → len ≤ 16 → 29 ≤ length (put_mid 24 8 bytes one) → 24 ≤ length bytes
    → take end (put_mid 29 16 (put_mid 24 8 bytes one) two) ≡ take 24 bytes ++ (hook ++ take len name)
two_words bytes hook name one two len end is_hook is_name is_end five long few room within =
    let whole : length one ≡ 8 = ap length is_hook ∙ (length-append hook (codes "   ") ∙ ap (λ n. n + 3) five) in
    let word : take 5 one ≡ hook = ap (take 5) is_hook ∙ take_at hook (codes "   ") 5 five in
    let cut : length two ≡ 16 = ap length is_name ∙ length-take-le 16 name long in
    ap (λ k. take k (put_mid 29 16 (put_mid 24 8 bytes one) two)) is_end
    ∙ (worded (put_mid 24 8 bytes one) two 29 16 len cut few room
    ∙ (ap (λ l. l ++ take len two) (worded bytes one 24 8 5 whole (omega arith) within ∙ ap (λ l. take 24 bytes ++ l) word)
    ∙ (ap (λ l. (take 24 bytes ++ hook) ++ l) (ap (take len) is_name ∙ take-take len 16 name few) ∙ append_assoc (take 24 bytes) hook (take len name))))

pub hook_long : (hook : Hook) → length (hook_word hook) ≡ 5
hook_long Snd = refl
hook_long Rcv = refl

-- what is before both stays
pub two_before : (bytes one two : List ℕ) → 24 ≤ length bytes → 29 ≤ length (put_mid 24 8 bytes one)
    → take 24 (put_mid 29 16 (put_mid 24 8 bytes one) two) ≡ take 24 bytes
two_before bytes one two within room =
    take-put_mid_below 29 16 (put_mid 24 8 bytes one) two 24 (omega arith) room ∙ take-put_mid_below 24 8 bytes one 24 (omega arith) within

-- the name of an event and a blank, of its label
pub named : (bytes : List ℕ) (count event : ℕ) → IsLabel bytes count event → take (count + 1) bytes ≡ event_text event ++ codes " "
unfolding event_text
named bytes count event is =
    take-add count 1 bytes ∙ (ap (λ l. take count bytes ++ take 1 l) is.blanks ∙ ap (λ name. unwrap_or name (decimal event) ++ codes " ") (sym is.name))

pub label_long : (bytes : List ℕ) (count event : ℕ) → IsLabel bytes count event → 16 ≤ length bytes
label_long bytes count event is = omega (arith, length-drop count bytes, ap length is.blanks)

-- a number's digits and one byte behind so many others
pub ended : (bytes new digits rest : List ℕ) (at end last : ℕ) → at + length digits ≡ end → end < length new
    → take at new ≡ take at bytes → drop at new ≡ digits ++ rest
    → take (end + 1) (set new end last) ≡ take at bytes ++ (digits ++ last ∷ [])
ended bytes new digits rest at end last ends within before stands =
    let numbered : take end new ≡ take at bytes ++ digits =
    ap (λ k. take k new) (sym ends) ∙ take-add at (length digits) new
    ∙ (ap (λ l. l ++ take (length digits) (drop at new)) before
    ∙ ap (λ l. take at bytes ++ l) (ap (take (length digits)) stands ∙ take_at digits rest _ refl)) in
    take-add end 1 (set new end last)
    ∙ (ap (λ l. l ++ take 1 (drop end (set new end last))) (take-set new end last ∙ numbered)
    ∙ (ap (λ l. (take at bytes ++ digits) ++ take 1 l) (drop-set new end last within) ∙ append_assoc (take at bytes) digits (last ∷ [])))

-- a number of one digit and one byte behind so many others
pub one_digit : (bytes : List ℕ) (at n : ℕ) → at + 1 < length bytes → n < 10
    → take (at + 2) (set (set bytes at (48 + n)) (at + 1) 10) ≡ take at bytes ++ (decimal n ++ 10 ∷ [])
one_digit bytes at n within low =
    let put = set bytes at (48 + n) in
    take-set_at put (at + 1) (at + 2) 10 (omega arith) (omega (arith, within, length-set bytes at (48 + n)))
    ∙ (ap (λ l. l ++ 10 ∷ []) (take_more_set bytes at (48 + n) (omega (arith, within)))
    ∙ (append_assoc (take at bytes) ((48 + n) ∷ []) (10 ∷ [])
    ∙ ap (λ digits. take at bytes ++ (digits ++ 10 ∷ [])) (sym (decimal_digit n low))))

-- how a line begins, and what is behind it
pub joined : (bytes begin behind : List ℕ) (start : ℕ) (line : List ℕ) → start ≤ 24 → 24 ≤ length bytes → drop start (take 24 bytes) ≡ begin
    → line ≡ take 24 bytes ++ behind → drop start line ≡ begin ++ behind
joined bytes begin behind start line within long begins is =
    ap (drop start) is ∙ drop-append-le start (take 24 bytes) behind (omega (arith, length-take-le 24 bytes long))
    ∙ ap (λ l. l ++ behind) begins

-- what is before the middle stays
pub kept_before : (bytes new : List ℕ) (at end last : ℕ) → 24 ≤ at → at ≤ end → take at new ≡ take at bytes → take 24 (set new end last) ≡ take 24 bytes
kept_before bytes new at end last far later before =
    take-set-le 24 new end last (omega arith) ∙ (sym (take-take 24 at new far) ∙ (ap (take 24) before ∙ take-take 24 at bytes far))

pub kept_digit : (bytes : List ℕ) (at digit : ℕ) → 24 ≤ at → take 24 (set (set bytes at digit) (at + 1) 10) ≡ take 24 bytes
kept_digit bytes at digit far =
    take-set-le 24 (set bytes at digit) (at + 1) 10 (omega (arith, far)) ∙ take-set-le 24 bytes at digit far

regroup : (d h e r end : List ℕ)
    → (99 ∷ 98 ∷ 32 ∷ d) ++ (((32 ∷ (h ++ 32 ∷ [])) ++ (e ++ 32 ∷ [])) ++ (r ++ end))
    ≡ 99 ∷ 98 ∷ 32 ∷ (d ++ (32 ∷ (h ++ (32 ∷ (e ++ (32 ∷ (r ++ end)))))))
regroup d h e r end =
    ap (λ l. 99 ∷ 98 ∷ 32 ∷ (d ++ (32 ∷ l)))
    (append_assoc (h ++ 32 ∷ []) (e ++ 32 ∷ []) (r ++ end)
    ∙ (append_assoc h (32 ∷ []) ((e ++ 32 ∷ []) ++ (r ++ end)) ∙ ap (λ l. h ++ (32 ∷ l)) (append_assoc e (32 ∷ []) (r ++ end))))

-- a line of its parts is that of a callback which saw nothing
pub whole_line : (e : Entry) (name : List ℕ) (count : ℕ) (line : List ℕ) → IsLabel name count e.event → e.seen ≡ Nothing
    → line ≡ (codes "cb " ++ decimal e.index) ++ ((hook_word e.hook ++ take (count + 1) name) ++ (decimal e.reg ++ codes "\n")) → line ≡ callback_line e
unfolding callback_line
whole_line e name count line label nothing is =
    is
    ∙ (ap (λ n. (codes "cb " ++ decimal e.index) ++ ((hook_word e.hook ++ n) ++ (decimal e.reg ++ codes "\n"))) (named name count e.event label)
    ∙ (regroup (decimal e.index) (hook_text e.hook) (event_text e.event) (decimal e.reg) (codes "\n")
    ∙ ap (λ s. codes "cb " ++ (decimal e.index ++ (codes " " ++ (hook_text e.hook ++ (codes " " ++ (event_text e.event
    ++ (codes " " ++ (decimal e.reg ++ (seen_text s ++ codes "\n"))))))))) (sym nothing)))
