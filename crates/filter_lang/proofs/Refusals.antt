-- At each place some filter goes on, and what follows a refused token doesn't matter.
use Rattle.std.proofs.Common.{◌≡◌, ℕ, zero, suc, ◌+◌, ◌-◌, Bool, true, false, if◌then◌else◌, List, [], ◌∷◌, ◌++◌, Some, Ok, Err, refl, ap, ◌∙◌, sym}
use Rattle.filter_lang.specs.declared.error.FilterError.{FilterError}
use Rattle.filter_lang.specs.declared.term.Atom.TheVariants.{Number}
use Rattle.filter_lang.specs.declared.term.Op.TheVariants.{Eq}
use Rattle.filter_lang.specs.declared.term.Sum.{Sum}
use Rattle.filter_lang.specs.declared.token.Token.{Token}
use Rattle.filter_lang.specs.declared.token.Token.TheVariants.{Close, Compares, TrueWord, Numeral, End}
use Rattle.filter_lang.specs.Grammar.{Level, Side, left, right, Place, unit_place, native_place, atom_place, behind_atom, behind_unit, Next, go, done, stop, next, steps, read, going, place_behind, chain_of, with_unit, alone, filter_begin, filter, IsRefused}
use Rattle.filter_lang.specs.Shape.{Shape, Always, Ask, Compare, AllOf, AnyOf}
use Rattle.filter_lang.specs.Tokens.{Placed, is_blank, token_at, tokens_behind, tokens}

abbrev placed : Token → Placed
placed t = record { token = t; at = 0 }

-- the `)` of each level, and the end
abbrev closing : List Level → List Placed
closing [] = placed End ∷ []
closing (o ∷ os) = placed Close ∷ closing os

abbrev GoesOn : Place → Type 0
GoesOn p = (ts : List Placed) × (s : Shape) × (read ts p ≡ Ok s)

-- what an expression is that ends behind a unit
abbrev whole_of : Level → Shape
whole_of l = chain_of AnyOf (l.conjs ++ chain_of AllOf l.units ∷ [])

closes : (os : List Level) (l : Level) → (s : Shape) × (read (closing os) (behind_unit l os) ≡ Ok s)
closes [] l = (whole_of l, refl)
closes (o ∷ os) l = closes os (with_unit (whole_of l) o)

unit_ends : (l : Level) (os : List Level) → GoesOn (behind_unit l os)
unit_ends l os = let c = closes os l in (closing os, c.0, c.1)

behind : (t : Token) (p q : Place) → next p t ≡ go q → GoesOn q → GoesOn p
behind t p q e h = (placed t ∷ h.0, h.1, ap (steps (read h.0) 0) e ∙ h.2)

compared_closes : (os : List Level) (r s : Sum) (op : _) (l : Level) → (x : Shape) × (read (closing os) (behind_atom (right r op) s l os) ≡ Ok x)
compared_closes [] r s op l = closes [] (with_unit (Compare r op s) l)
compared_closes (o ∷ os) r s op l = closes (o ∷ os) (with_unit (Compare r op s) l)

right_ends : (r s : Sum) (op : _) (l : Level) (os : List Level) → GoesOn (behind_atom (right r op) s l os)
right_ends r s op l os = let c = compared_closes os r s op l in (closing os, c.0, c.1)

atom_ends : (side : Side) (s : Sum) (l : Level) (os : List Level) → GoesOn (behind_atom side s l os)
atom_ends left s l os =
    behind (Compares Eq) _ (atom_place (right s Eq) alone l os) refl
    (behind (Numeral 0) _ (behind_atom (right s Eq) (alone (Number 0)) l os) refl (right_ends s (alone (Number 0)) Eq l os))
atom_ends (right r op) s l os = right_ends r s op l os

goes_on : (p : Place) → GoesOn p
goes_on (unit_place l os) = behind TrueWord _ (behind_unit (with_unit Always l) os) refl (unit_ends (with_unit Always l) os)
goes_on (native_place l os) = behind (Numeral 0) _ (behind_unit (with_unit (Ask 0) l) os) refl (unit_ends (with_unit (Ask 0) l) os)
goes_on (atom_place side f l os) = behind (Numeral 0) _ (behind_atom side (f (Number 0)) l os) refl (atom_ends side (f (Number 0)) l os)
goes_on (behind_atom side s l os) = atom_ends side s l os
goes_on (behind_unit l os) = unit_ends l os

-- the tokens before a place are passed over
read_step : (n : Next) (before after : List Placed) (at : ℕ) (p : Place)
    → ((q : Place) → place_behind before q ≡ Some p → read (before ++ after) q ≡ read after p) → going (place_behind before) n ≡ Some p
    → steps (read (before ++ after)) at n ≡ read after p
read_step (go q) before after at p more e = more q e
read_step (done s) before after at p more e = absurd (cc)
read_step (stop refusal) before after at p more e = absurd (cc)

pub read-behind : (before after : List Placed) (q p : Place) → place_behind before q ≡ Some p → read (before ++ after) q ≡ read after p
read-behind [] after q p e = let same : q ≡ p = cc in ap (read after) same
read-behind (t ∷ before) after q p e = read_step (next q t.token) before after t.at p (λ r. read-behind before after r p) e

pub some_goes_on : (before : List Placed) (q p : Place) → place_behind before q ≡ Some p → (after : List Placed) × (s : Shape) × (read (before ++ after) q ≡ Ok s)
some_goes_on before q p e = let g = goes_on p in (g.0, g.1, read-behind before g.0 q p e ∙ g.2)

pub none_goes_on : (before : List Placed) (q p : Place) (t : Placed) (refusal : ℕ → FilterError) → place_behind before q ≡ Some p
    → next p t.token ≡ stop refusal → (after : List Placed) → read (before ++ t ∷ after) q ≡ Err (refusal t.at)
none_goes_on before q p t refusal e stops after = read-behind before (t ∷ after) q p e ∙ ap (steps (read after) t.at) stops

-- the last token of a text is its end, behind which nothing goes on
abbrev IsEnded : List Placed → Type 0
IsEnded [] = ⊥
IsEnded (t ∷ []) = t.token ≡ End
IsEnded (t ∷ u ∷ ts) = IsEnded (u ∷ ts)

ended_more : (t : Placed) (ts : List Placed) → IsEnded ts → IsEnded (t ∷ ts)
ended_more t [] h = absurd h
ended_more t (u ∷ ts) h = h

ended_step : (b : Bool) (x : Placed) (ts us : List Placed) → IsEnded ts → IsEnded us → IsEnded (if b then ts else x ∷ us)
ended_step true x ts us h k = h
ended_step false x ts us h k = ended_more x us k

tokens_behind-ended : (inside at : ℕ) (bs : List ℕ) → IsEnded (tokens_behind inside at bs)
tokens_behind-ended zero at [] = refl
tokens_behind-ended (suc inside) at [] = refl
tokens_behind-ended (suc inside) at (b ∷ bs) = tokens_behind-ended inside (at + 1) bs
tokens_behind-ended zero at (b ∷ bs) =
    ended_step (is_blank b) (record { token = (token_at (b ∷ bs)).token; at = at }) _ _ (tokens_behind-ended zero (at + 1) bs)
    (tokens_behind-ended ((token_at (b ∷ bs)).len - 1) (at + 1) bs)

end_stays : (p q : Place) → next p End ≡ go q → ⊥
end_stays (unit_place l os) q e = cc
end_stays (native_place l os) q e = cc
end_stays (atom_place side f l os) q e = cc
end_stays (behind_atom left s l os) q e = cc
end_stays (behind_atom (right r op) s l []) q e = cc
end_stays (behind_atom (right r op) s l (o ∷ os)) q e = cc
end_stays (behind_unit l []) q e = cc
end_stays (behind_unit l (o ∷ os)) q e = cc

refused_step : (n : Next) (t : Placed) (ts : List Placed) (q : Place) (e : FilterError) → next q t.token ≡ n → IsEnded (t ∷ ts)
    → ((p : Place) → IsEnded ts → read ts p ≡ Err e → IsRefused ts p e) → steps (read ts) t.at n ≡ Err e → IsRefused (t ∷ ts) q e
refused_step (go p) t [] q e is end more r = absurd (end_stays q p (ap (next q) (sym end) ∙ is))
refused_step (go p) t (u ∷ ts) q e is end more r =
    let later = more p end r in
    record {
      before = t ∷ later.before;
      token = later.token;
      after = later.after;
      place = later.place;
      refusal = later.refusal;
      whole = ap (λ xs. t ∷ xs) later.whole;
      goes_on = ap (going (place_behind later.before)) is ∙ later.goes_on;
      stops = later.stops;
      error = later.error;
    }
refused_step (done s) t ts q e is end more r = absurd (cc)
refused_step (stop refusal) t ts q e is end more r = record {
  before = [];
  token = t;
  after = ts;
  place = q;
  refusal = refusal;
  whole = refl;
  goes_on = refl;
  stops = is;
  error = cc;
}

refused : (ts : List Placed) (q : Place) (e : FilterError) → IsEnded ts → read ts q ≡ Err e → IsRefused ts q e
refused [] q e end r = absurd end
refused (t ∷ ts) q e end r = refused_step (next q t.token) t ts q e refl end (λ p h. refused ts p e h) r

pub filter-refused : (text : List ℕ) (e : FilterError) → filter text ≡ Err e → IsRefused (tokens text) filter_begin e
filter-refused text e r = refused (tokens text) filter_begin e (tokens_behind-ended 0 0 text) r
