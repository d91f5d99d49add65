-- Only for proofs. What each function of the parser reads, as an equation between what the grammar says of the tokens
-- before it and of those behind it.
use Rattle.std.specs.Prelude.{◌≡◌, ◌≢◌, ◌≤◌, ℕ, ◌+◌, List, [], ◌∷◌, ◌++◌, length, Result, Err, IfOk, IfErr}
use Rattle.filter_lang.specs.declared.error.FilterError.{FilterError}
use Rattle.filter_lang.specs.declared.error.FilterError.TheVariants.{NoMemory}
use Rattle.filter_lang.specs.declared.lexer.Lexer.{Lexer}
use Rattle.filter_lang.specs.declared.term.Atom.{Atom}
use Rattle.filter_lang.specs.declared.term.Op.{Op}
use Rattle.filter_lang.specs.declared.term.Sum.{Sum}
use Rattle.filter_lang.specs.declared.term.Term.{Term}
use Rattle.filter_lang.specs.Grammar.{Level, Side, left, right, Place, unit_place, native_place, atom_place, behind_atom, behind_unit, Next, behind_conjs, with_unit, opened, alone, behind_sum, behind_conj, behind_expr, steps, read}
use Rattle.filter_lang.specs.Lexer.{ahead, later}
use Rattle.filter_lang.specs.Shape.{Shape, shape, AtomIsWithin, SumIsWithin, IsWithin}

-- what becomes of the tokens from the one that is read on, at a place
abbrev pub reads : Lexer → Place → Result Shape FilterError
reads l p = read (ahead l) p

-- what becomes of the tokens behind the one that is read, after a step
abbrev pub takes : Lexer → Next → Result Shape FilterError
takes l n = steps (read (later l)) l.at n

-- what a call of the parser did: it read its answer, or refused what stands there, and the lexer went back over no token
pub record Parses {A : Type 0} (Reads : Lexer → Lexer → A → Type 0) (Refuses : Lexer → FilterError → Type 0) (old new : Lexer) (result : Result A FilterError) : Type 0 where
  pub ok : IfOk result (λ a. Reads old new a)
  pub err : IfErr result (λ e. Refuses old e)
  pub left : length (later new) ≤ length (later old)

-- each part that is read is well formed
pub record ReadsAtom (old new : Lexer) (a : Atom) : Type 0 where
  pub same : (side : Side) (f : Atom → Sum) (l : Level) (os : List Level) → reads old (atom_place side f l os) ≡ reads new (behind_atom side (f a) l os)
  pub within : AtomIsWithin a

pub record RefusesAtom (old : Lexer) (e : FilterError) : Type 0 where
  pub same : (side : Side) (f : Atom → Sum) (l : Level) (os : List Level) → reads old (atom_place side f l os) ≡ Err e

pub record ReadsSum (old new : Lexer) (s : Sum) : Type 0 where
  pub same : (side : Side) (l : Level) (os : List Level) → reads old (atom_place side alone l os) ≡ takes new (behind_sum side s l os new.token)
  pub within : SumIsWithin s

pub record RefusesSum (old : Lexer) (e : FilterError) : Type 0 where
  pub same : (side : Side) (l : Level) (os : List Level) → e ≢ NoMemory → reads old (atom_place side alone l os) ≡ Err e

pub record ReadsOp (old new : Lexer) (op : Op) : Type 0 where
  pub same : (s : Sum) (l : Level) (os : List Level) → takes old (behind_sum left s l os old.token) ≡ reads new (atom_place (right s op) alone l os)

pub record RefusesOp (old : Lexer) (e : FilterError) : Type 0 where
  pub same : (s : Sum) (l : Level) (os : List Level) → takes old (behind_sum left s l os old.token) ≡ Err e

pub record ReadsComparison (old new : Lexer) (t : Term) : Type 0 where
  pub same : (l : Level) (os : List Level) → reads old (atom_place left alone l os) ≡ reads new (behind_unit (with_unit (shape t) l) os)
  pub within : IsWithin (shape t)

pub record RefusesComparison (old : Lexer) (e : FilterError) : Type 0 where
  pub same : (l : Level) (os : List Level) → e ≢ NoMemory → reads old (atom_place left alone l os) ≡ Err e

pub record ReadsNative (old new : Lexer) (t : Term) : Type 0 where
  pub same : (l : Level) (os : List Level) → reads old (native_place l os) ≡ reads new (behind_unit (with_unit (shape t) l) os)
  pub within : IsWithin (shape t)

pub record RefusesNative (old : Lexer) (e : FilterError) : Type 0 where
  pub same : (l : Level) (os : List Level) → reads old (native_place l os) ≡ Err e

-- behind an expression in parentheses
pub record Closes (old new : Lexer) : Type 0 where
  pub same : (s : Shape) (o : Level) (os : List Level) → takes old (behind_expr s (o ∷ os) old.token) ≡ reads new (behind_unit (with_unit s o) os)

pub record RefusesClose (old : Lexer) (e : FilterError) : Type 0 where
  pub same : (s : Shape) (o : Level) (os : List Level) → takes old (behind_expr s (o ∷ os) old.token) ≡ Err e

-- so many constructs are open
pub record ReadsUnit (depth : ℕ) (old new : Lexer) (t : Term) : Type 0 where
  pub same : (l : Level) (os : List Level) → l.bangs + opened os ≡ depth → reads old (unit_place l os) ≡ reads new (behind_unit (with_unit (shape t) l) os)
  pub within : IsWithin (shape t)

pub record RefusesUnit (depth : ℕ) (old : Lexer) (e : FilterError) : Type 0 where
  pub same : (l : Level) (os : List Level) → l.bangs + opened os ≡ depth → e ≢ NoMemory → reads old (unit_place l os) ≡ Err e

pub record ReadsConjunction (depth : ℕ) (old new : Lexer) (t : Term) : Type 0 where
  pub same : (cs : List Shape) (os : List Level) → opened os ≡ depth → reads old (unit_place (behind_conjs cs) os) ≡ takes new (behind_conj (cs ++ shape t ∷ []) os new.token)
  pub within : IsWithin (shape t)

pub record RefusesConjunction (depth : ℕ) (old : Lexer) (e : FilterError) : Type 0 where
  pub same : (cs : List Shape) (os : List Level) → opened os ≡ depth → e ≢ NoMemory → reads old (unit_place (behind_conjs cs) os) ≡ Err e

pub record ReadsExpr (depth : ℕ) (old new : Lexer) (t : Term) : Type 0 where
  pub same : (os : List Level) → opened os ≡ depth → reads old (unit_place (behind_conjs []) os) ≡ takes new (behind_expr (shape t) os new.token)
  pub within : IsWithin (shape t)

pub record RefusesExpr (depth : ℕ) (old : Lexer) (e : FilterError) : Type 0 where
  pub same : (os : List Level) → opened os ≡ depth → e ≢ NoMemory → reads old (unit_place (behind_conjs []) os) ≡ Err e
