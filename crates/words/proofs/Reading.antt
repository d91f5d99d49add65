-- The walk of `clap` reads the items of the definition, word by word.
use Rattle.std.proofs.Common.{◌≡◌, ◌∙◌, inl, inr, ℕ, Bool, true, false, cond, not, ◌&&◌, ◌==◌, List, [], ◌∷◌, ◌++◌, map, Option, Some, None, IfSome, option_map, option_and_then, bytes_eq, refl, ap}
use Rattle.std.proofs.lemmas.List.{append-nil}
use Rattle.clap.specs.Lexer.{long_of, long_of_rest, name_and_value, short_of, short_of_rest, strip_byte}
use Rattle.clap.specs.Walk.{Row, Text, arg_by_id, arg_by_long, idle, option}
use Rattle.words.specs.Found.{has_dashes}
use Rattle.words.specs.Words.{Item, begun, has_name, is_value, items_from, names_of, option_of, with_item}
use Rattle.words.proofs.Names.{opt, by_id, by_long, has_row-names, item, neither, row, used-fresh}
use Rattle.words.proofs.Items.{Good, by_values, good-more, through, through-again, through-bad, through-more, through-unknown}
use Rattle.words.proofs.Turns.{awaiting-ends, ends, found_or_not, full-again, full-fresh, held, idle-end, idle-other, idle-word, open-end, open-long, option-short, option-word, stands, then_ends, unknown-ends, valued-again, valued-ends}

-- a walk ends with the rows of items whose names are known and differ, and these are accepted where each value is one
pub record Reads (ns : List (List ℕ)) (accepted : Option (List Item)) (end : Option (List Row)) : Type 0 where
  pub items : Option (List Item)
  pub rows : end ≡ option_map (map row) items
  pub good : IfSome items (Good ns)
  pub tested : accepted ≡ option_and_then by_values items

reads-none : (ns : List (List ℕ)) (accepted : Option (List Item)) (end : Option (List Row)) → accepted ≡ None → end ≡ None → Reads ns accepted end
reads-none ns accepted end none nothing = record { items = None; rows = nothing; good = tt; tested = none }

reads-by : (ns : List (List ℕ)) (accepted same : Option (List Item)) (end now : Option (List Row)) → accepted ≡ same → end ≡ now → Reads ns same now → Reads ns accepted end
reads-by ns accepted same end now a e r = record { items = r.items; rows = e ∙ r.rows; good = r.good; tested = a ∙ r.tested }

abbrev Idle : List (List ℕ) → List Text → List Item → Type 0
Idle ns ws done = Reads ns (through ns done (items_from None ws)) (ends ns (stands (held (map row done) None) idle) ws)

abbrev Open : List (List ℕ) → List Text → List Item → Text → Type 0
Open ns ws done n = Reads ns (through ns done (items_from (Some n) ws)) (ends ns (stands (held (map row done) (Some (n, []))) (option n)) ws)

-- the words, read with nothing waiting and with a name that awaits its value
abbrev Read : List (List ℕ) → List Text → Type 0
Read ns ws = (done : List Item) → Good ns done → Idle ns ws done × ((n : Text) → has_name ns n ≡ true → Open ns ws done n)

module _ (ns : List (List ℕ)) (word : Text) (ws : List Text) (no_dashes : has_dashes ws ≡ false) (more : Read ns ws) (done : List Item) (good : Good ns done) where
  id_of : (n : Text) → has_name ns n ≡ true → arg_by_id (map opt ns) n ≡ Some (opt n)
  id_of n e = by_id ns n ∙ ap (λ b. cond b (Some (opt n)) None) e

  long_for : (n : Text) (b : Bool) → has_name ns n ≡ b → arg_by_long (map opt ns) n ≡ cond b (Some (opt n)) None
  long_for n b e = by_long ns n ∙ ap (λ t. cond t (Some (opt n)) None) e

  -- one item more
  one_more : (n v : Text) → has_name ns n ≡ true → has_name (names_of done) n ≡ false → Idle ns ws (done ++ item n v ∷ [])
  one_more n v is_known fresh = (more (done ++ item n v ∷ []) (good-more ns done n v good is_known fresh)).0

  -- a value that is still to be settled
  full-at : (n v : Text) (b : Bool) → has_name ns n ≡ true → has_name (names_of done) n ≡ b
      → Reads ns (through ns done (with_item n v (items_from None ws))) (ends ns (stands (held (map row done) (Some (n, v ∷ []))) idle) ws)
  full-at n v true is_known again = reads-none ns _ _ (through-again ns done n v (items_from None ws) again)
      (full-again ns (map row done) n v (id_of n is_known) ws no_dashes (has_row-names done n ∙ again))
  full-at n v false is_known fresh = reads-by ns _ _ _ _ (through-more ns done n v (items_from None ws))
      (full-fresh ns (map row done) n v (id_of n is_known) ws no_dashes (has_row-names done n ∙ fresh)
      ∙ ap (λ rows. ends ns (stands (held rows None) idle) ws) (used-fresh done n v fresh))
      (one_more n v is_known fresh)

  -- a word where nothing waits
  valued-at : (x v : Text) (b : Bool) → has_name ns x ≡ true → has_name (names_of done) x ≡ b
      → Reads ns (through ns done (with_item x v (items_from None ws))) (then_ends ns idle word (Some (x, Some v)) (held (map row done) None) ws)
  valued-at x v true is_known again = reads-none ns _ _ (through-again ns done x v (items_from None ws) again)
      (valued-again ns word x ws (map row done) v (long_for x true is_known) (has_row-names done x ∙ again))
  valued-at x v false is_known fresh = reads-by ns _ _ _ _ (through-more ns done x v (items_from None ws))
      (valued-ends ns word x ws (map row done) v (long_for x true is_known) (has_row-names done x ∙ fresh)
      ∙ ap (λ rows. ends ns (stands (held rows None) idle) ws) (used-fresh done x v fresh))
      (one_more x v is_known fresh)

  unknown-awaits : (x : Text) (rest : List Text) → has_name ns x ≡ false → through ns done (items_from (Some x) rest) ≡ None
  unknown-awaits x [] e = refl
  unknown-awaits x (w ∷ rest) e = through-unknown ns done x w (items_from None rest) e

  long-at : (x : Text) (v : Option Text) (b : Bool) → has_name ns x ≡ b
      → Reads ns (through ns done (begun (Some (x, v)) (items_from None ws) (λ name. items_from (Some name) ws))) (then_ends ns idle word (Some (x, v)) (held (map row done) None) ws)
  long-at x None false e = reads-none ns _ _ (unknown-awaits x ws e) (unknown-ends ns word x ws idle None (held (map row done) None) (long_for x false e))
  long-at x (Some v) false e = reads-none ns _ _ (through-unknown ns done x v (items_from None ws) e) (unknown-ends ns word x ws idle (Some v) (held (map row done) None) (long_for x false e))
  long-at x None true e = reads-by ns _ _ _ _ refl (awaiting-ends ns word x ws (map row done) (long_for x true e)) ((more done good).1 x e)
  long-at x (Some v) true e = valued-at x v (has_name (names_of done) x) e refl

  idle-at : (l : Option (Text × Option Text))
      → Reads ns (through ns done (begun l (items_from None ws) (λ name. items_from (Some name) ws))) (then_ends ns idle word l (held (map row done) None) ws)
  idle-at None = reads-none ns _ _ refl (idle-other ns word (map row done) None ws)
  idle-at (Some p) = long-at p.0 p.1 (has_name ns p.0) refl

  -- a word where a name awaits its value
  begins-long : (bs : Text) (t : Bool) (p : Text × Option Text) → option_and_then long_of_rest (option_and_then (strip_byte 45) (cond t (Some bs) None)) ≡ Some p → not t ≡ false
  begins-long bs true p e = refl
  begins-long bs false p e = absurd (cc)

  long-no_value : (w : Text) (p : Text × Option Text) → long_of w ≡ Some p → is_value w ≡ false
  long-no_value [] p e = refl
  long-no_value (b ∷ bs) p e = begins-long bs (b == 45) p e

  begins-short : (bs : Text) (t : Bool) (f : Text) → option_and_then short_of_rest (cond t (Some bs) None) ≡ Some f → not t ≡ false
  begins-short bs true f e = refl
  begins-short bs false f e = absurd (cc)

  short-no_value : (w f : Text) → short_of w ≡ Some f → is_value w ≡ false
  short-no_value [] f e = refl
  short-no_value (b ∷ bs) f e = begins-short bs (b == 45) f e

  open-at : (n : Text) (l : Option (Text × Option Text)) → has_name ns n ≡ true → long_of word ≡ l
      → Reads ns (through ns done (with_item n word (items_from None ws))) (then_ends ns (option n) word l (held (map row done) (Some (n, []))) ws)
  open-at n (Some p) is_known e = reads-none ns _ _ (through-bad ns done n word (items_from None ws) (long-no_value word p e))
      (elim (found_or_not ns p.0) [
        | inl none ↦ unknown-ends ns word p.0 ws (option n) p.1 (held (map row done) (Some (n, []))) none
        | inr some ↦ open-long ns word p.0 ws (map row done) n p.1 some (id_of n is_known)
      ])
  open-at n None is_known e = elim (option-short ns word n (short_of word) (map row done) ws (id_of n is_known)) [
    | inl short ↦ reads-none ns _ _ (through-bad ns done n word (items_from None ws) (short-no_value word short.0 short.1)) short.2
    | inr value ↦ reads-by ns _ _ _ _ refl value (full-at n word (has_name (names_of done) n) is_known refl)
  ]

-- ---- the definition's options are those of `clap`, but for `--` alone

pub same_option : (w : Text) → bytes_eq w (45 ∷ 45 ∷ []) ≡ false → option_of w ≡ long_of w
same_option [] e = refl
same_option (b ∷ []) e = one (b == 45)
  where
    one : (t : Bool) → option_map name_and_value (cond t None None) ≡ option_and_then long_of_rest (option_and_then (strip_byte 45) (cond t (Some []) None))
    one true = refl
    one false = refl
same_option (b ∷ c ∷ rest) e = outer (b == 45) e
  where
    inner : (u : Bool) (text : Text) → (u && bytes_eq text []) ≡ false → option_map name_and_value (cond u (Some text) None) ≡ option_and_then long_of_rest (cond u (Some text) None)
    inner true [] e = absurd (cc)
    inner true (x ∷ xs) e = refl
    inner false text e = refl

    outer : (t : Bool) → (t && ((c == 45) && bytes_eq rest [])) ≡ false
        → option_map name_and_value (cond t (cond (c == 45) (Some rest) None) None)
        ≡ option_and_then long_of_rest (option_and_then (strip_byte 45) (cond t (Some (c ∷ rest)) None))
    outer true e = inner (c == 45) rest e
    outer false e = refl

-- ---- all words

pub reading : (ns : List (List ℕ)) (ws : List Text) → has_dashes ws ≡ false → Read ns ws
reading ns [] no_dashes done good = (
  record {
    items = Some done;
    rows = idle-end ns (map row done);
    good = good;
    tested = rw append-nil (rw (good.known, good.differ) refl);
  },
  λ n is_known. reads-none ns _ _ refl (open-end ns (map row done) n (by_id ns n ∙ ap (λ b. cond b (Some (opt n)) None) is_known)),
)
reading ns (word ∷ ws) no_dashes done good =
    let parts = neither (bytes_eq word (45 ∷ 45 ∷ [])) (has_dashes ws) no_dashes in
    let more = reading ns ws parts.1 in (
      reads-by ns _ _ _ _ (ap (λ l. through ns done (begun l (items_from None ws) (λ name. items_from (Some name) ws))) (same_option word parts.0))
          (idle-word ns (held (map row done) None) word ws parts.0) (idle-at ns word ws parts.1 more done good (long_of word)),
      λ n is_known. reads-by ns _ _ _ _ refl (option-word ns n (held (map row done) (Some (n, []))) word ws parts.0)
          (open-at ns word ws parts.1 more done good n (long_of word) is_known refl),
    )
