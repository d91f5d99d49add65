-- The walk of `clap`, word by word, for a command of plain options: what it ends with, where nothing fails.
use Rattle.std.proofs.Common.{◌≡◌, ◌∙◌, ◌⊎◌, inl, inr, ℕ, zero, suc, Bool, true, false, cond, List, [], ◌∷◌, map, length, fold, Option, Some, None, slice_get, chars, bytes_eq, refl, sym}
use Rattle.std.specs.Option.{option_map_or}
use Rattle.clap.specs.Lexer.{long_of, short_of}
use Rattle.clap.specs.Kinds.{Kinds, or_else}
use Rattle.clap.specs.Walk.{Held, Row, Text, Waiting, Walk, after_step, arg_by_id, arg_by_long, bundle_met, has_row, idle, long_or_other, option, plain, settled_rows, short_or_plain, used, walked}
use Rattle.clap.specs.Simple.{Shape, built}
use Rattle.clap.specs.Faults.{bundle_fault, flag_word_fault, flags_fault, settle_fault, step_fault, turn_fault, walk_fault}
use Rattle.clap.specs.declared.error.kind.ErrorKind.TheVariants.{UnknownArgument}
use Rattle.words.specs.Command.{the_app}
use Rattle.words.specs.Words.{has_name}
use Rattle.words.specs.Found.{has_dashes}
use Rattle.words.proofs.Names.{opt, by_index, by_long, by_short, neither, text_itself}

abbrev pub the_shape : List (List ℕ) → Shape
the_shape ns = record (built the_app).top { rules = map opt ns }

abbrev pub held : List Row → Option (Text × List Text) → Held
held rows p = record { rows = rows; pending = p; skip = 0 }

abbrev pub stands : Held → Waiting → Walk
stands h q = record { held = h; waiting = q; position = 1; is_trailing = false; stopped = None }

-- the rows at the end, where nothing fails
abbrev pub ends_by : Kinds → List Row → Option (List Row)
ends_by [] rows = Some rows
ends_by (k ∷ ks) rows = None

abbrev pub end_of : List (List ℕ) → Walk → List Text → Held
end_of ns w ws = (fold (walked (map opt ns) []) w ws).held

-- what a walk over the words ends with
abbrev pub ends : List (List ℕ) → Walk → List Text → Option (List Row)
ends ns w ws = ends_by (or_else (walk_fault (the_shape ns) [] w ws) (settle_fault (map opt ns) false (end_of ns w ws)))
    (settled_rows (map opt ns) (end_of ns w ws).pending (end_of ns w ws).rows)

-- what comes after a turn, where it doesn't fail
abbrev pub after : Kinds → Option (List Row) → Option (List Row)
after [] e = e
after (k ∷ ks) e = None

ends-at : (t f s : Kinds) (rows : List Row) → ends_by (or_else (or_else t f) s) rows ≡ after t (ends_by (or_else f s) rows)
ends-at [] f s rows = refl
ends-at (k ∷ ks) f s rows = refl

ends-step : (ns : List (List ℕ)) (w : Walk) (word : Text) (ws : List Text) → ends ns w (word ∷ ws) ≡ after (turn_fault (the_shape ns) [] w word) (ends ns (walked (map opt ns) [] w word) ws)
unfolding walk_fault
ends-step ns w word ws = ends-at (turn_fault (the_shape ns) [] w word) _ _ _

-- ---- a turn, by what the word looks like

abbrev pub turn : List (List ℕ) → Waiting → Text → Option (Text × Option Text) → Held → Kinds
turn ns q word l h = or_else (flag_word_fault (map opt ns) false l word h)
    (step_fault (the_shape ns) 1 (long_or_other (map opt ns) q word l h).0 (long_or_other (map opt ns) q word l h).1)

abbrev pub onward : List (List ℕ) → Waiting → Text → Option (Text × Option Text) → Held → Walk
onward ns q word l h = after_step (map opt ns) word (stands h q) (long_or_other (map opt ns) q word l h).0 (long_or_other (map opt ns) q word l h).1

abbrev pub then_ends : List (List ℕ) → Waiting → Text → Option (Text × Option Text) → Held → List Text → Option (List Row)
then_ends ns q word l h ws = after (turn ns q word l h) (ends ns (onward ns q word l h) ws)

pub idle-word : (ns : List (List ℕ)) (h : Held) (word : Text) (ws : List Text) → bytes_eq word (45 ∷ 45 ∷ []) ≡ false
    → ends ns (stands h idle) (word ∷ ws) ≡ then_ends ns idle word (long_of word) h ws
unfolding walked
idle-word ns h word ws no_dashes = ends-step ns (stands h idle) word ws ∙ rw no_dashes refl

pub option-word : (ns : List (List ℕ)) (n : Text) (h : Held) (word : Text) (ws : List Text) → bytes_eq word (45 ∷ 45 ∷ []) ≡ false
    → ends ns (stands h (option n)) (word ∷ ws) ≡ then_ends ns (option n) word (long_of word) h ws
unfolding walked
option-word ns n h word ws no_dashes = ends-step ns (stands h (option n)) word ws ∙ rw no_dashes refl

-- ---- a long option

module _ (ns : List (List ℕ)) (word : Text) (x : Text) (ws : List Text) where
  pub unknown-ends : (q : Waiting) (v : Option Text) (h : Held) → arg_by_long (map opt ns) x ≡ None → then_ends ns q word (Some (x, v)) h ws ≡ None
  unknown-ends q v h found = rw found refl

  pub valued-again : (rows : List Row) (v : Text) → arg_by_long (map opt ns) x ≡ Some (opt x) → has_row x rows ≡ true → then_ends ns idle word (Some (x, Some v)) (held rows None) ws ≡ None
  valued-again rows v found again = rw (found, again) refl

  pub valued-ends : (rows : List Row) (v : Text) → arg_by_long (map opt ns) x ≡ Some (opt x) → has_row x rows ≡ false
      → then_ends ns idle word (Some (x, Some v)) (held rows None) ws ≡ ends ns (stands (held (used (opt x) (v ∷ []) rows) None) idle) ws
  valued-ends rows v found fresh = rw (found, fresh) refl

  pub awaiting-ends : (rows : List Row) → arg_by_long (map opt ns) x ≡ Some (opt x)
      → then_ends ns idle word (Some (x, None)) (held rows None) ws ≡ ends ns (stands (held rows (Some (x, []))) (option x)) ws
  awaiting-ends rows found = rw found refl

  -- an option whose name still awaits its value
  pub open-long : (rows : List Row) (n : Text) (v : Option Text) → arg_by_long (map opt ns) x ≡ Some (opt x) → arg_by_id (map opt ns) n ≡ Some (opt n)
      → then_ends ns (option n) word (Some (x, v)) (held rows (Some (n, []))) ws ≡ None
  open-long rows n None found is = rw (found, is) refl
  open-long rows n (Some v) found is = rw (found, is) refl

pub open-end : (ns : List (List ℕ)) (rows : List Row) (n : Text) → arg_by_id (map opt ns) n ≡ Some (opt n) → ends ns (stands (held rows (Some (n, []))) (option n)) [] ≡ None
unfolding walk_fault
open-end ns rows n is = rw is refl

pub idle-end : (ns : List (List ℕ)) (rows : List Row) → ends ns (stands (held rows None) idle) [] ≡ Some rows
unfolding walk_fault
idle-end ns rows = refl

-- ---- a word that is no long option

-- a bundle of flags is refused, or has no first character
bundle-on : (ns : List (List ℕ)) (k : ℕ) (flags : Text) (o : Option ℕ) (h : Held) → slice_get (chars flags) 0 ≡ o
    → (flags_fault (map opt ns) false (suc k) flags 0 h ≡ UnknownArgument ∷ [])
    ⊎ ((flags_fault (map opt ns) false (suc k) flags 0 h ≡ []) × (bundle_met (map opt ns) (suc k) flags 0 plain h ≡ (h, plain)))
unfolding flags_fault bundle_met
bundle-on ns k flags None h e = inr (rw e refl, rw e refl)
bundle-on ns k flags (Some ch) h e = inl (rw (e, by_short ns ch) refl)

bundle-one : (ns : List (List ℕ)) (k : ℕ) (flags : Text) (h : Held)
    → (flags_fault (map opt ns) false k flags 0 h ≡ UnknownArgument ∷ [])
    ⊎ ((flags_fault (map opt ns) false k flags 0 h ≡ []) × (bundle_met (map opt ns) k flags 0 plain h ≡ (h, plain)))
unfolding flags_fault bundle_met
bundle-one ns zero flags h = inr (refl, refl)
bundle-one ns (suc k) flags h = bundle-on ns k flags (slice_get (chars flags) 0) h refl

-- the same, by what follows the word's dash
abbrev other_turn : List (List ℕ) → Waiting → Text → Option Text → Held → Kinds
other_turn ns q word s h = or_else (option_map_or (λ flags. bundle_fault (map opt ns) false flags h) s [])
    (step_fault (the_shape ns) 1 (short_or_plain (map opt ns) q word s h).0 (short_or_plain (map opt ns) q word s h).1)

abbrev pub other_ends : List (List ℕ) → Waiting → Text → Option Text → Held → List Text → Option (List Row)
other_ends ns q word s h ws = after (other_turn ns q word s h)
    (ends ns (after_step (map opt ns) word (stands h q) (short_or_plain (map opt ns) q word s h).0 (short_or_plain (map opt ns) q word s h).1) ws)

-- where nothing waits for a value, the word is refused
idle-short : (ns : List (List ℕ)) (word : Text) (s : Option Text) (rows : List Row) (p : Option (Text × List Text)) (ws : List Text) → other_ends ns idle word s (held rows p) ws ≡ None
idle-short ns word None rows p ws = rw (by_index ns 1) refl
idle-short ns word (Some flags) rows p ws = elim (bundle-one ns (length flags) flags (held rows p)) [
  | inl refused ↦ rw refused refl
  | inr passed ↦ rw (passed.0, passed.1, by_index ns 1) refl
]

pub idle-other : (ns : List (List ℕ)) (word : Text) (rows : List Row) (p : Option (Text × List Text)) (ws : List Text) → then_ends ns idle word None (held rows p) ws ≡ None
idle-other ns word rows p ws = idle-short ns word (short_of word) rows p ws

-- where an option waits, the word is its value
option-plain : (ns : List (List ℕ)) (word n : Text) (rows : List Row) (ws : List Text) → arg_by_id (map opt ns) n ≡ Some (opt n)
    → other_ends ns (option n) word None (held rows (Some (n, []))) ws ≡ ends ns (stands (held rows (Some (n, word ∷ []))) idle) ws
option-plain ns word n rows ws is = rw (is, text_itself n) refl

pub option-short : (ns : List (List ℕ)) (word n : Text) (s : Option Text) (rows : List Row) (ws : List Text) → arg_by_id (map opt ns) n ≡ Some (opt n)
    → ((f : Text) × (s ≡ Some f) × (other_ends ns (option n) word s (held rows (Some (n, []))) ws ≡ None))
    ⊎ (other_ends ns (option n) word s (held rows (Some (n, []))) ws ≡ ends ns (stands (held rows (Some (n, word ∷ []))) idle) ws)
option-short ns word n None rows ws is = inr (option-plain ns word n rows ws is)
option-short ns word n (Some flags) rows ws is = elim (bundle-one ns (length flags) flags (held rows (Some (n, [])))) [
  | inl refused ↦ inl (flags, refl, rw refused refl)
  | inr passed ↦ inr (rw (passed.0, passed.1) (option-plain ns word n rows ws is))
]

-- ---- an option whose value is still to be settled

-- the name is no option's, or it finds its rule
abbrev Found : List (List ℕ) → Text → Type 0
Found ns x = (arg_by_long (map opt ns) x ≡ None) ⊎ (arg_by_long (map opt ns) x ≡ Some (opt x))

pub found_or_not : (ns : List (List ℕ)) (x : Text) → Found ns x
found_or_not ns x = go (has_name ns x) (by_long ns x)
  where
    go : (b : Bool) → arg_by_long (map opt ns) x ≡ cond b (Some (opt x)) None → Found ns x
    go true e = inr e
    go false e = inl e

module _ (ns : List (List ℕ)) (rows : List Row) (n v : Text) (is : arg_by_id (map opt ns) n ≡ Some (opt n)) where
  again-long : (word x : Text) (w : Option Text) (ws : List Text) → Found ns x → has_row n rows ≡ true → then_ends ns idle word (Some (x, w)) (held rows (Some (n, v ∷ []))) ws ≡ None
  again-long word x w ws (inl none) again = rw none refl
  again-long word x None ws (inr some) again = rw (some, is, again) refl
  again-long word x (Some t) ws (inr some) again = rw (some, is, again) refl

  fresh-long : (word x : Text) (w : Option Text) (ws : List Text) → Found ns x → has_row n rows ≡ false
      → then_ends ns idle word (Some (x, w)) (held rows (Some (n, v ∷ []))) ws ≡ then_ends ns idle word (Some (x, w)) (held (used (opt n) (v ∷ []) rows) None) ws
  fresh-long word x w ws (inl none) fresh = rw none refl
  fresh-long word x None ws (inr some) fresh = rw (some, is, fresh) refl
  fresh-long word x (Some t) ws (inr some) fresh = rw (some, is, fresh) refl

  again-word : (word : Text) (l : Option (Text × Option Text)) (ws : List Text) → has_row n rows ≡ true → then_ends ns idle word l (held rows (Some (n, v ∷ []))) ws ≡ None
  again-word word None ws again = idle-other ns word rows (Some (n, v ∷ [])) ws
  again-word word (Some p) ws again = again-long word p.0 p.1 ws (found_or_not ns p.0) again

  fresh-word : (word : Text) (l : Option (Text × Option Text)) (ws : List Text) → has_row n rows ≡ false
      → then_ends ns idle word l (held rows (Some (n, v ∷ []))) ws ≡ then_ends ns idle word l (held (used (opt n) (v ∷ []) rows) None) ws
  fresh-word word None ws fresh = idle-other ns word rows (Some (n, v ∷ [])) ws ∙ sym (idle-other ns word (used (opt n) (v ∷ []) rows) None ws)
  fresh-word word (Some p) ws fresh = fresh-long word p.0 p.1 ws (found_or_not ns p.0) fresh

  -- it was used before: that is refused once it is settled
  pub full-again : (ws : List Text) → has_dashes ws ≡ false → has_row n rows ≡ true → ends ns (stands (held rows (Some (n, v ∷ []))) idle) ws ≡ None
  unfolding walk_fault
  full-again [] no_dashes again = rw (is, again) refl
  full-again (word ∷ ws) no_dashes again =
      idle-word ns _ word ws (neither (bytes_eq word (45 ∷ 45 ∷ [])) (has_dashes ws) no_dashes).0 ∙ again-word word (long_of word) ws again

  -- it wasn't: as if it were settled already
  pub full-fresh : (ws : List Text) → has_dashes ws ≡ false → has_row n rows ≡ false
      → ends ns (stands (held rows (Some (n, v ∷ []))) idle) ws ≡ ends ns (stands (held (used (opt n) (v ∷ []) rows) None) idle) ws
  unfolding walk_fault
  full-fresh [] no_dashes fresh = rw (is, fresh) refl
  full-fresh (word ∷ ws) no_dashes fresh =
      let plain_word = (neither (bytes_eq word (45 ∷ 45 ∷ [])) (has_dashes ws) no_dashes).0 in
      idle-word ns _ word ws plain_word ∙ fresh-word word (long_of word) ws fresh ∙ sym (idle-word ns _ word ws plain_word)
