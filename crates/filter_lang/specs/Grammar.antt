-- The grammar of filters, as what may stand at each place of a text:
--
--     expr = conj *( "||" conj )      conj = unit *( "&&" unit )
--     unit = "!" unit | "(" expr ")" | "true" | "false" | "native" number | sum op sum
--     sum = atom *( ( "+" | "-" | "%" ) atom )      atom = fact name | number | dotted address
--
-- A place is what stands before it. For each place and token, `next` says whether a filter goes on with
-- that token, and what stands before the next one; else why not. The first token with which none goes on
-- is refused, at its offset.
use Rattle.std.specs.Prelude.{◌≡◌, ℕ, zero, suc, ◌+◌, if◌then◌else◌, nat_lt, List, [], ◌∷◌, ◌++◌, Option, Some, None, Result, Ok, Err}
use Rattle.filter_lang.specs.declared.error.FilterError.{FilterError}
use Rattle.filter_lang.specs.declared.error.FilterError.TheVariants.{Syntax, UnknownName, BigNumber, TooDeep}
use Rattle.filter_lang.specs.declared.term.Atom.{Atom}
use Rattle.filter_lang.specs.declared.term.Atom.TheVariants.{Fact, Number}
use Rattle.filter_lang.specs.declared.term.Op.{Op}
use Rattle.filter_lang.specs.declared.term.Sum.{Sum}
use Rattle.filter_lang.specs.declared.token.Token.{Token}
use Rattle.filter_lang.specs.declared.token.Token.TheVariants.{Bang, Open, Close, Both, Either, Joins, Compares, TrueWord, FalseWord, NativeWord, FactName, UnknownWord, Numeral, BigNumeral, Quad, End}
use Rattle.filter_lang.specs.Shape.{Shape, Always, Never, Ask, Compare, Negate, AllOf, AnyOf, Shapes, none, more}
use Rattle.filter_lang.specs.Tokens.{Placed, tokens}

abbrev pub shapes_of : List Shape → Shapes
shapes_of [] = none
shapes_of (s ∷ ss) = more s (shapes_of ss)

-- a chain is one node with all its members, and a single member is no chain
abbrev pub chain_of : (Shapes → Shape) → List Shape → Shape
chain_of node (s ∷ []) = s
chain_of node ss = node (shapes_of ss)

abbrev pub negated : ℕ → Shape → Shape
negated zero s = s
negated (suc n) s = negated n (Negate s)

-- what stands before a place within its parentheses: the members of the `||` chain, those of the `&&`
-- chain after them, and how many `!` stand open
pub record Level : Type 0 where
  pub conjs : List Shape
  pub units : List Shape
  pub bangs : ℕ

abbrev pub behind_conjs : List Shape → Level
behind_conjs cs = record { conjs = cs; units = []; bangs = 0 }

abbrev pub with_unit : Shape → Level → Level
with_unit s l = record { conjs = l.conjs; units = l.units ++ negated l.bangs s ∷ []; bangs = 0 }

-- how many `!` and `(` stand open in the levels round a place
abbrev pub opened : List Level → ℕ
opened [] = 0
opened (l ∷ ls) = l.bangs + 1 + opened ls

-- the side of a comparison: on its right, with what stands on its left
pub data Side : Type 0 where
  left : Side
  right : (sum : Sum) → (op : Op) → Side

-- each place with its level and the levels round it, the innermost first
pub data Place : Type 0 where
  -- a unit begins
  unit_place : Level → List Level → Place
  -- the number of a native filter
  native_place : Level → List Level → Place
  -- an atom, which makes a sum with what stands before it
  atom_place : Side → (Atom → Sum) → Level → List Level → Place
  -- behind an atom
  behind_atom : Side → Sum → Level → List Level → Place
  -- behind a unit that goes no further
  behind_unit : Level → List Level → Place

-- what follows a token: a place, the end of the filter, or a refusal
pub data Next : Type 0 where
  go : Place → Next
  done : Shape → Next
  stop : (ℕ → FilterError) → Next

-- the sum of one atom
abbrev pub alone : Atom → Sum
alone a = record { first = a; rest = [] }

-- at most 32 constructs are open at a place
abbrev pub opening : ℕ → Place → Next
opening count p = if nat_lt count 32 then go p else stop TooDeep

-- where an atom may stand
abbrev pub next_atom : Side → (Atom → Sum) → Level → List Level → Token → Next
next_atom side f l os (FactName place) = go (behind_atom side (f (Fact place)) l os)
next_atom side f l os (Numeral n) = go (behind_atom side (f (Number n)) l os)
next_atom side f l os (Quad n) = go (behind_atom side (f (Number n)) l os)
next_atom side f l os BigNumeral = stop BigNumber
next_atom side f l os UnknownWord = stop UnknownName
next_atom side f l os _ = stop Syntax

-- where a unit may stand
abbrev pub next_unit : Level → List Level → Token → Next
next_unit l os Bang = opening (l.bangs + opened os) (unit_place (record l { bangs = suc l.bangs }) os)
next_unit l os Open = opening (l.bangs + opened os) (unit_place (behind_conjs []) (l ∷ os))
next_unit l os TrueWord = go (behind_unit (with_unit Always l) os)
next_unit l os FalseWord = go (behind_unit (with_unit Never l) os)
next_unit l os NativeWord = go (native_place l os)
next_unit l os t = next_atom left alone l os t

-- behind a whole expression, with the levels round it
abbrev pub behind_expr : Shape → List Level → Token → Next
behind_expr s (o ∷ os) Close = go (behind_unit (with_unit s o) os)
behind_expr s [] End = done s
behind_expr s os _ = stop Syntax

-- behind the members of an `||` chain
abbrev pub behind_conj : List Shape → List Level → Token → Next
behind_conj cs os Either = go (unit_place (behind_conjs cs) os)
behind_conj cs os t = behind_expr (chain_of AnyOf cs) os t

-- behind a unit
abbrev pub next_behind : Level → List Level → Token → Next
next_behind l os Both = go (unit_place l os)
next_behind l os t = behind_conj (l.conjs ++ chain_of AllOf l.units ∷ []) os t

-- behind a sum that goes no further
abbrev pub behind_sum : Side → Sum → Level → List Level → Token → Next
behind_sum left s l os (Compares op) = go (atom_place (right s op) alone l os)
behind_sum left s l os _ = stop Syntax
behind_sum (right r op) s l os t = next_behind (with_unit (Compare r op s) l) os t

abbrev pub next : Place → Token → Next
next (unit_place l os) t = next_unit l os t
next (native_place l os) (Numeral n) = if nat_lt n 6 then go (behind_unit (with_unit (Ask n) l) os) else stop UnknownName
next (native_place l os) BigNumeral = stop BigNumber
next (native_place l os) _ = stop Syntax
next (atom_place side f l os) t = next_atom side f l os t
next (behind_atom side s l os) (Joins j) = go (atom_place side (λ a. record s { rest = s.rest ++ (j, a) ∷ [] }) l os)
next (behind_atom side s l os) t = behind_sum side s l os t
next (behind_unit l os) t = next_behind l os t

-- goes on at a place, or ends; a refusal is made at the token's offset
abbrev pub steps : (Place → Result Shape FilterError) → ℕ → Next → Result Shape FilterError
steps k at (go p) = k p
steps k at (done s) = Ok s
steps k at (stop refusal) = Err (refusal at)

-- the filter of the tokens from a place on; nothing follows the end
abbrev pub read : List Placed → Place → Result Shape FilterError
read [] p = Err (Syntax 0)
read (t ∷ ts) p = steps (read ts) t.at (next p t.token)

-- where a filter begins
abbrev pub filter_begin : Place
filter_begin = unit_place (behind_conjs []) []

-- the filter that a text is, or why it is none
abbrev pub filter : List ℕ → Result Shape FilterError
filter text = read (tokens text) filter_begin

-- the place behind tokens with which a filter goes on
abbrev pub going : (Place → Option Place) → Next → Option Place
going k (go p) = k p
going k (done s) = None
going k (stop refusal) = None

abbrev pub place_behind : List Placed → Place → Option Place
place_behind [] p = Some p
place_behind (t ∷ ts) p = going (place_behind ts) (next p t.token)

-- a refusal is made at a token behind others with which a filter goes on
pub record IsRefused (ts : List Placed) (p : Place) (e : FilterError) : Type 0 where
  pub before : List Placed
  pub token : Placed
  pub after : List Placed
  pub place : Place
  pub refusal : ℕ → FilterError
  pub whole : ts ≡ before ++ token ∷ after
  pub goes_on : place_behind before p ≡ Some place
  pub stops : next place token.token ≡ stop refusal
  pub error : e ≡ refusal token.at
