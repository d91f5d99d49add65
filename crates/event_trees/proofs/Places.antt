-- Where the rows of definitions stand.
use Rattle.std.proofs.Common.{◌≡◌, ℕ, suc, ◌<◌, ◌≤◌, Bool, true, false, cond, eqb, List, [], ◌∷◌, ◌++◌, length, set, replicate, map, get_or, Option, Some, None, refl, sym, ap, subst, ◌∙◌, arith, ⊎_elim, append_assoc, append-nil}
use Rattle.std.specs.Prelude.{◌≢◌}
use Rattle.std.specs.Option.{option_map}
use Rattle.std.specs.Cmp.{IsEquivalence}
use Rattle.std.specs.List.{AllByRecursion, IsDistinct, list_any}
use Rattle.std.proofs.lemmas.Bool.{cases_eq, or_cases, ne_eqb, eq-eqb, eqb-true}
use Rattle.std.proofs.lemmas.Bool.Decides.{eqb_tells, nat_tests}
use Rattle.std.proofs.lemmas.List.{get_or-set_same, get_or-set_other, get_or-replicate, get_or_default, length-map, length-set, length-replicate, map-append}
use Rattle.std.proofs.lemmas.Map.Keys.{IsDistinct-push, IsDistinct-cons}
use Rattle.std.proofs.lemmas.Map.Steps.{length-le_from_distinct_below}
use Rattle.event_trees.specs.declared.defs.EventDef.{EventDef}
use Rattle.event_trees.specs.declared.defs.Row.{Row}
use Rattle.event_trees.specs.Defs.{found, AreAddable}
use Rattle.event_trees.specs.Rows.{defs_of, row_of, place_of, ArePlaces, AreRows}
use Rattle.event_trees.proofs.Paths.{knows}
use Rattle.event_trees.proofs.Rows.{found-rows}

pub place-none : (rows : List Row) (event : ℕ) → place_of rows event ≡ None → row_of rows event ≡ None
place-none [] event h = refl
place-none (r ∷ rs) event h =
    elim (eqb r.def.number event) as (λ b. cond b (Some 0) (option_map suc (place_of rs event)) ≡ None → cond b (Some r) (row_of rs event) ≡ None) [
      | true ↦ λ e. cc
      | false ↦ λ e. place-none rs event (none_before (place_of rs event) e)
    ] h
  where
    none_before : (o : Option ℕ) → option_map suc o ≡ None → o ≡ None
    none_before None e = refl
    none_before (Some k) e = cc

-- a row that stands somewhere is the row of its event
pub record Stands (rows : List Row) (event place : ℕ) : Type 0 where
  pub within : place < length rows
  pub is : (d : Row) → row_of rows event ≡ Some (get_or rows place d)

stands-next : (r : Row) (rs : List Row) (event : ℕ) (o : Option ℕ) (place : ℕ) → eqb r.def.number event ≡ false → option_map suc o ≡ Some place
    → ((k : ℕ) → o ≡ Some k → Stands rs event k) → Stands (r ∷ rs) event place
stands-next r rs event None place other is h = cc
stands-next r rs event (Some k) place other is h =
    let same : suc k ≡ place = cc in
    let s : Stands rs event k = h k refl in
    subst (Stands (r ∷ rs) event) same (record {
      within = omega (arith, s.within);
      is = λ d. ap (λ (b : Bool). cond b (Some r) (row_of rs event)) other ∙ s.is d;
    })

pub stands : (rows : List Row) (event place : ℕ) → place_of rows event ≡ Some place → Stands rows event place
stands [] event place h = cc
stands (r ∷ rs) event place h =
    ⊎_elim (λ t.
    let first : Some 0 ≡ Some place = sym (ap (λ (b : Bool). cond b (Some 0) (option_map suc (place_of rs event))) t.0) ∙ h in
    let same : 0 ≡ place = cc in
    subst (Stands (r ∷ rs) event) same (record { within = omega arith; is = λ d. ap (λ (b : Bool). cond b (Some r) (row_of rs event)) t.0 }))
    (λ t. let other : eqb r.def.number event ≡ false = t.0 in
    stands-next r rs event (place_of rs event) place other (sym (ap (λ (b : Bool). cond b (Some 0) (option_map suc (place_of rs event))) other)
    ∙ h) (λ k e. stands rs event k e)) (eqb_tells r.def.number event)

-- no event has a number over 255
pub high : (rows : List Row) (event : ℕ) → AreRows rows → 256 ≤ event → row_of rows event ≡ None
high rows event are far =
    elim (row_of rows event) as (λ o. row_of rows event ≡ o → o ≡ None) [
      | Some r ↦ λ e. absurd (omega (arith, far, (knows (defs_of rows) are.addable).numbers event r.def (found-rows rows event ∙ ap (λ (o : Option Row). option_map (λ (x : Row). x.def) o) e)))
      | None ↦ λ e. refl
    ] refl

abbrev numbers : List EventDef → List ℕ
numbers defs = map (λ d. d.number) defs

met : (defs : List EventDef) (event : ℕ) → list_any (eqb event) (numbers defs) ≡ true → found defs event ≡ None → ⊥
met [] event h none = cc
met (d ∷ ds) event h none =
    ⊎_elim (λ t. let e : Some d ≡ None = sym (ap (λ (b : Bool). cond b (Some d) (found ds event)) t.0) ∙ none in cc)
    (λ t. ⊎_elim (λ e. t.1 (sym (eqb-true event d.number e)))
    (λ k. met ds event k (sym (ap (λ (b : Bool). cond b (Some d) (found ds event)) t.0) ∙ none)) (or_cases (eqb event d.number) (list_any (eqb event) (numbers ds)) h)) (eqb_tells d.number event)

unmet : (defs : List EventDef) (event : ℕ) → found defs event ≡ None → list_any (eqb event) (numbers defs) ≡ false
unmet defs event none =
    elim (list_any (eqb event) (numbers defs)) as (λ b. list_any (eqb event) (numbers defs) ≡ b → b ≡ false) [
      | true ↦ λ e. absurd (met defs event e none)
      | false ↦ λ e. refl
    ] refl

eqb_equiv : IsEquivalence eqb
eqb_equiv = record {
  refl = λ x. eq-eqb x x refl;
  symm = λ x y. grind (arith, nat_tests);
  congr = λ x y z e. ap (λ (k : ℕ). eqb k z) (eqb-true x y e);
}

distinct-all : (before ds : List EventDef) → AreAddable before ds → IsDistinct eqb (numbers before) → IsDistinct eqb (numbers (before ++ ds))
distinct-all before [] are d = subst (λ (l : List EventDef). IsDistinct eqb (numbers l)) (sym (append-nil before)) d
distinct-all before (x ∷ ds) are d =
    let one : IsDistinct eqb (numbers (before ++ x ∷ [])) = subst (IsDistinct eqb) (sym (map-append (λ (y : EventDef). y.number) before (x ∷ [])))
    (IsDistinct-push eqb_equiv (numbers before) x.number d (unmet before x.number are.0.absent)) in
    subst (λ (l : List EventDef). IsDistinct eqb (numbers l)) (append_assoc before (x ∷ []) ds) (distinct-all (before ++ x ∷ []) ds are.1 one)

none_distinct : IsDistinct eqb (numbers [])
unfolding IsDistinct
none_distinct = tt

low : (before ds : List EventDef) → AreAddable before ds → (q : ℕ) → list_any (eqb q) (numbers ds) ≡ true → (1 ≤ q) × (q ≤ 255)
low before [] are q h = cc
low before (d ∷ ds) are q h =
    ⊎_elim (λ e. let same : q ≡ d.number = eqb-true q d.number e in (omega (arith, same, are.0.low), omega (arith, same, are.0.high)))
    (λ k. low (before ++ d ∷ []) ds are.1 q k) (or_cases (eqb q d.number) (list_any (eqb q) (numbers ds)) h)

with_0_low : (defs : List EventDef) → AreAddable [] defs → (q : ℕ) → list_any (eqb q) (0 ∷ numbers defs) ≡ true → q < 256
with_0_low defs are q h =
    ⊎_elim (λ e. omega (arith, eqb-true q 0 e)) (λ k. omega (arith, (low [] defs are q k).1)) (or_cases (eqb q 0) (list_any (eqb q) (numbers defs)) h)

apart_from_0 : (before ds : List EventDef) → AreAddable before ds → AllByRecursion (λ n. eqb 0 n ≡ false) (numbers ds)
apart_from_0 before [] are = tt
apart_from_0 before (d ∷ ds) are = (ne_eqb 0 d.number (λ e. omega (arith, e, are.0.low)), apart_from_0 (before ++ d ∷ []) ds are.1)

-- numbers from 1 to 255, each once, are at most 255
pub few-defs : (defs : List EventDef) → AreAddable [] defs → length defs ≤ 255
few-defs defs are =
    omega (
      arith,
      length-map defs (λ (d : EventDef). d.number),
      length-le_from_distinct_below (0 ∷ numbers defs) 256 (IsDistinct-cons eqb 0 (numbers defs) (apart_from_0 [] defs are) (distinct-all [] defs are none_distinct)) (with_0_low defs are),
    )

pub few-rows : (rows : List Row) → AreRows rows → length rows ≤ 255
few-rows rows are = omega (arith, few-defs (defs_of rows) are.addable, length-map rows (λ (r : Row). r.def))

-- one row more
place-push_same : (rows : List Row) (r : Row) → row_of rows r.def.number ≡ None → place_of (rows ++ r ∷ []) r.def.number ≡ Some (length rows)
place-push_same [] r h = ap (λ (b : Bool). cond b (Some 0) None) (eq-eqb r.def.number r.def.number refl)
place-push_same (s ∷ rs) r h =
    ⊎_elim (λ t. let e : Some s ≡ None = sym (ap (λ (b : Bool). cond b (Some s) (row_of rs r.def.number)) t.0) ∙ h in cc)
    (λ t. let rest : place_of (rs ++ r ∷ []) r.def.number ≡ Some (length rs) = place-push_same rs r (sym (ap (λ (b : Bool). cond b (Some s) (row_of rs r.def.number)) t.0) ∙ h) in
    ap (λ (b : Bool). cond b (Some 0) (option_map suc (place_of (rs ++ r ∷ []) r.def.number))) t.0 ∙ ap (λ (o : Option ℕ). option_map suc o) rest) (eqb_tells s.def.number r.def.number)

place-push_other : (rows : List Row) (r : Row) (event : ℕ) → r.def.number ≢ event → place_of (rows ++ r ∷ []) event ≡ place_of rows event
place-push_other [] r event other = ap (λ (b : Bool). cond b (Some 0) None) (ne_eqb r.def.number event other)
place-push_other (s ∷ rs) r event other = ap (λ (o : Option ℕ). cond (eqb s.def.number event) (Some 0) (option_map suc o)) (place-push_other rs r event other)

unfound-row : (rows : List Row) (event : ℕ) → found (defs_of rows) event ≡ None → row_of rows event ≡ None
unfound-row rows event h = by (row_of rows event) (sym (found-rows rows event) ∙ h)
  where
    by : (o : Option Row) → option_map (λ r. r.def) o ≡ None → o ≡ None
    by None e = refl
    by (Some r) e = cc

pub places-push : (rows : List Row) (defs : List EventDef) (r : Row) (places : List (Option ℕ)) (count : ℕ) → defs_of rows ≡ defs
    → ArePlaces rows places → count ≡ length defs → r.def.number ≤ 255 → found defs r.def.number ≡ None → ArePlaces (rows ++ r ∷ []) (set places r.def.number (Some count))
places-push rows defs r places count same are counted most absent =
    let n : count ≡ length rows = omega (arith, counted, ap length same, length-map rows (λ (x : Row). x.def)) in
    let none : found (defs_of rows) r.def.number ≡ None = subst (λ (l : List EventDef). found l r.def.number ≡ None) (sym same) absent in
    let after : List (Option ℕ) = set places r.def.number (Some (length rows)) in
    let now : (event : ℕ) → event < 256 → get_or after event None ≡ place_of (rows ++ r ∷ []) event =
    λ event within. ⊎_elim (λ e. subst (λ (k : ℕ). get_or after k None ≡ place_of (rows ++ r ∷ []) k) e
    (get_or-set_same places r.def.number (Some (length rows)) None (omega (arith, are.0, most)) ∙ sym (place-push_same rows r (unfound-row rows r.def.number none))))
    (λ other. get_or-set_other places r.def.number event (Some (length rows)) None (λ e. other (sym e))
    ∙ (are.1 event within ∙ sym (place-push_other rows r event other))) (cases_eq r.def.number event) in
    subst (λ (k : ℕ). ArePlaces (rows ++ r ∷ []) (set places r.def.number (Some k))) (sym n) (length-set places r.def.number (Some (length rows)) ∙ are.0, now)

-- nothing is there at first
pub none-indexed : (rows : List Row) → rows ≡ [] → AreRows rows × ArePlaces rows (replicate 256 None)
none-indexed rows is =
    let none : Option ℕ = None in
    subst (λ (l : List Row). AreRows l × ArePlaces l (replicate 256 none)) (sym is)
    (record { addable = tt; paths = tt }, (length-replicate 256 none, λ event within. get_or-replicate 256 event none none within))

-- what is read at a number's place
pub read : (rows : List Row) (places : List (Option ℕ)) (number : ℕ) (d o : Option ℕ) → ArePlaces rows places → number < length places → get_or places number d ≡ o → place_of rows number ≡ o
read rows places number d o are within is =
    sym (are.1 number (omega (arith, are.0, within))) ∙ (get_or_default places number None d within ∙ is)
