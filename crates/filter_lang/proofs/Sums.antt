-- The printed text of a sum reads as the sum.
use Rattle.std.proofs.Common.{◌≡◌, ℕ, List, [], ◌∷◌, ◌++◌, inl, refl, ap, ◌∙◌, sym, append_assoc, append-nil, All}
use Rattle.std.proofs.lemmas.List.Elements.{All-head, All-tail}
use Rattle.filter_lang.specs.declared.term.Atom.{Atom}
use Rattle.filter_lang.specs.declared.term.Atom.TheVariants.{Fact, Number}
use Rattle.filter_lang.specs.declared.term.Join.{Join}
use Rattle.filter_lang.specs.declared.term.Join.TheVariants.{Plus, Minus, Rem}
use Rattle.filter_lang.specs.declared.term.Sum.{Sum}
use Rattle.filter_lang.specs.Grammar.{Level, Side, left, unit_place, atom_place, behind_atom, go, next_atom, next_unit, alone}
use Rattle.filter_lang.specs.Printed.{atom_text, join_text, steps_text, sum_text}
use Rattle.filter_lang.specs.Shape.{AtomIsWithin, SumIsWithin}
use Rattle.filter_lang.proofs.Pieces.{IsStop, atom_token, atom_read, join_read}
use Rattle.filter_lang.proofs.Runs.{kinds, run, on}

next_atom-token : (a : Atom) (side : Side) (f : Atom → Sum) (l : Level) (os : List Level) → next_atom side f l os (atom_token a) ≡ go (behind_atom side (f a) l os)
next_atom-token (Fact place) side f l os = refl
next_atom-token (Number n) side f l os = refl

next_unit-token : (a : Atom) (l : Level) (os : List Level) → next_unit l os (atom_token a) ≡ go (behind_atom left (alone a) l os)
next_unit-token (Fact place) l os = refl
next_unit-token (Number n) l os = refl

stop_before_steps : (ss : List (Join × Atom)) (rest : List ℕ) → IsStop rest → IsStop (steps_text ss ++ rest)
stop_before_steps [] rest stop = stop
stop_before_steps (s ∷ ss) rest stop = stop_before_join s.0 _ where
  stop_before_join : (j : Join) (xs : List ℕ) → IsStop ((join_text j ++ xs) ++ rest)
  stop_before_join Plus xs = inl refl
  stop_before_join Minus xs = inl refl
  stop_before_join Rem xs = inl refl

abbrev AreSteps : List (Join × Atom) → Type 0
AreSteps = All (λ s. AtomIsWithin s.1)

-- a sum with one atom more
abbrev sum_with : Sum → Join → Atom → Sum
sum_with s j a = record { first = s.first; rest = s.rest ++ (j, a) ∷ [] }

steps_read : (ss : List (Join × Atom)) → AreSteps ss → (acc : Sum) (side : Side) (l : Level) (os : List Level) (rest : List ℕ) → IsStop rest
    → run (kinds 0 (steps_text ss ++ rest)) (behind_atom side acc l os) ≡ run (kinds 0 rest) (behind_atom side (record { first = acc.first; rest = acc.rest ++ ss }) l os)
steps_read [] within acc side l os rest stop =
    ap (λ ys. run (kinds 0 rest) (behind_atom side (record { first = acc.first; rest = ys }) l os)) (sym (append-nil acc.rest))
steps_read (s ∷ ss) within acc side l os rest stop =
    let later = steps_text ss ++ rest in
    let more : Sum = sum_with acc s.0 s.1 in
    let text : (join_text s.0 ++ (atom_text s.1 ++ steps_text ss)) ++ rest ≡ join_text s.0 ++ (atom_text s.1 ++ later) = simp append_assoc in
    let one = All-head (λ x. AtomIsWithin x.1) s ss within in
    ap (λ xs. run (kinds 0 xs) (behind_atom side acc l os)) text
    ∙ ap (λ ts. run ts (behind_atom side acc l os)) (join_read s.0 (atom_text s.1 ++ later))
    ∙ ap (λ ts. run ts (atom_place side (sum_with acc s.0) l os)) (atom_read s.1 later one (stop_before_steps ss rest stop))
    ∙ ap (on (run (kinds 0 later))) (next_atom-token s.1 side (sum_with acc s.0) l os)
    ∙ steps_read ss (All-tail (λ x. AtomIsWithin x.1) s ss within) more side l os rest stop
    ∙ ap (λ ys. run (kinds 0 rest) (behind_atom side (record { first = acc.first; rest = ys }) l os)) (append_assoc acc.rest (s ∷ []) ss)

pub sum_read : (s : Sum) → SumIsWithin s → (side : Side) (l : Level) (os : List Level) (rest : List ℕ) → IsStop rest
    → run (kinds 0 (sum_text s ++ rest)) (atom_place side alone l os) ≡ run (kinds 0 rest) (behind_atom side s l os)
sum_read s within side l os rest stop =
    let later = steps_text s.rest ++ rest in
    ap (λ xs. run (kinds 0 xs) (atom_place side alone l os)) (append_assoc (atom_text s.first) (steps_text s.rest) rest)
    ∙ ap (λ ts. run ts (atom_place side alone l os)) (atom_read s.first later within.0 (stop_before_steps s.rest rest stop))
    ∙ ap (on (run (kinds 0 later))) (next_atom-token s.first side alone l os)
    ∙ steps_read s.rest within.1 (alone s.first) side l os rest stop

-- the same where a unit begins
pub sum_begun : (s : Sum) → SumIsWithin s → (l : Level) (os : List Level) (rest : List ℕ) → IsStop rest
    → run (kinds 0 (sum_text s ++ rest)) (unit_place l os) ≡ run (kinds 0 rest) (behind_atom left s l os)
sum_begun s within l os rest stop =
    let later = steps_text s.rest ++ rest in
    ap (λ xs. run (kinds 0 xs) (unit_place l os)) (append_assoc (atom_text s.first) (steps_text s.rest) rest)
    ∙ ap (λ ts. run ts (unit_place l os)) (atom_read s.first later within.0 (stop_before_steps s.rest rest stop))
    ∙ ap (on (run (kinds 0 later))) (next_unit-token s.first l os)
    ∙ steps_read s.rest within.1 (alone s.first) left l os rest stop
