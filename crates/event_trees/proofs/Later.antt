-- What one definition more, or several, leave as it was.
use Rattle.std.proofs.Common.{◌≡◌, ℕ, Bool, true, false, cond, List, [], ◌∷◌, ◌++◌, Option, Ordering, refl, sym, ap, subst, ◌∙◌, append_assoc, append-nil}
use Rattle.std.specs.Prelude.{IsTrue, ◌||◌, ◌&&◌, is_some}
use Rattle.std.specs.List.{AllByRecursion}
use Rattle.std.specs.List.Sorted.{IsStrictlySortedBy}
use Rattle.std.specs.declared.cmp.Ordering.TheVariants.{Less}
use Rattle.std.specs.Ordering.{nat_cmp, ordering_then, is_lt}
use Rattle.std.proofs.lemmas.List.Elements.{recursion_from_All, All-from_recursion}
use Rattle.native_filters.specs.declared.facts.Facts.{Facts}
use Rattle.native_filters.specs.declared.facts.Hook.{Hook}
use Rattle.app_api.specs.declared.registration.Reg.{Reg}
use Rattle.event_trees.specs.declared.defs.EventDef.{EventDef}
use Rattle.event_trees.specs.Defs.{found, is_root, is_event, path, IsAddable, AreAddable, AreDefs}
use Rattle.event_trees.specs.Private.{path_cmp, reg_cmp, IsPrivate, put_reg, edited}
use Rattle.event_trees.specs.Canon.{Placed, slot_of, placed_of, placed, canon_of, canon}
use Rattle.native_filters.specs.Hook.{is_hook}
use Rattle.event_trees.specs.Fires.{filter_means, filters_mean, begins_with, is_called, fires}
use Rattle.event_trees.specs.Later.{IsEarlier}
use Rattle.event_trees.proofs.Paths.{KnowsPaths, IsRooted, knows, apart, path-push_other, found-push_other}

-- an event that was there has its definition and its path still
pub record Stays (old new : List EventDef) : Type 0 where
  pub founds : (event : ℕ) → IsTrue (is_event old event) → found new event ≡ found old event
  pub paths : (event : ℕ) → IsTrue (is_event old event) → path new event ≡ path old event

pub stays-push : (defs : List EventDef) (d : EventDef) → IsAddable defs d → Stays defs (defs ++ d ∷ [])
stays-push defs d a = record {
  founds = λ event h. found-push_other defs d event (apart defs d event a h);
  paths = λ event h. path-push_other defs d event (apart defs d event a h);
}

pub event-stays : (old new : List EventDef) → Stays old new → (event : ℕ) → IsTrue (is_event old event) → IsTrue (is_event new event)
event-stays old new s event h = subst (λ (o : Option EventDef). IsTrue (is_root event || is_some o)) (sym (s.founds event h)) h

stays-all : (before ds : List EventDef) → AreAddable before ds → Stays before (before ++ ds)
stays-all before [] a = subst (Stays before) (sym (append-nil before)) (record { founds = λ event h. refl; paths = λ event h. refl })
stays-all before (d ∷ ds) a =
    let one : Stays before (before ++ d ∷ []) = stays-push before d a.0 in
    let rest : Stays (before ++ d ∷ []) ((before ++ d ∷ []) ++ ds) = stays-all (before ++ d ∷ []) ds a.1 in
    subst (Stays before) (append_assoc before (d ∷ []) ds) (record {
      founds = λ event h. rest.founds event (event-stays before (before ++ d ∷ []) one event h) ∙ one.founds event h;
      paths = λ event h. rest.paths event (event-stays before (before ++ d ∷ []) one event h) ∙ one.paths event h;
    })

addable-front : (before ds es : List EventDef) → AreAddable before (ds ++ es) → AreAddable before ds
addable-front before [] es a = tt
addable-front before (d ∷ ds) es a = (a.0, addable-front (before ++ d ∷ []) ds es a.1)

addable-back : (before ds es : List EventDef) → AreAddable before (ds ++ es) → AreAddable (before ++ ds) es
addable-back before [] es a = subst (λ (l : List EventDef). AreAddable l es) (sym (append-nil before)) a
addable-back before (d ∷ ds) es a = subst (λ (l : List EventDef). AreAddable l es) (append_assoc before (d ∷ []) ds) (addable-back (before ++ d ∷ []) ds es a.1)

pub earlier-defs : (earlier defs : List EventDef) → IsEarlier earlier defs → AreDefs defs → AreDefs earlier
earlier-defs earlier defs e are = addable-front [] earlier e.0 (subst (AreAddable []) (sym e.1) are)

pub earlier-stays : (earlier defs : List EventDef) → IsEarlier earlier defs → AreDefs defs → Stays earlier defs
earlier-stays earlier defs e are = subst (Stays earlier) e.1 (stays-all earlier e.0 (addable-back [] earlier e.0 (subst (AreAddable []) (sym e.1) are)))

module _ (old new : List EventDef) (s : Stays old new) where
  abbrev are_there : List Reg → Type 0
  are_there list = AllByRecursion (λ r. IsTrue (is_event old r.event)) list

  there : (list : List Reg) → IsPrivate old list → are_there list
  there list p = recursion_from_All (λ (r : Reg). IsTrue (is_event old r.event)) list p.events

  cmp-stays : (r t : Reg) → IsTrue (is_event old r.event) → IsTrue (is_event old t.event) → reg_cmp new r t ≡ reg_cmp old r t
  cmp-stays r t h k =
      ap (λ (p : List ℕ). ordering_then (path_cmp p (path new t.event)) (nat_cmp r.number t.number)) (s.paths r.event h) ∙
      ap (λ (p : List ℕ). ordering_then (path_cmp (path old r.event) p) (nat_cmp r.number t.number)) (s.paths t.event k)

  less-stays : (r : Reg) (list : List Reg) → IsTrue (is_event old r.event) → are_there list → AllByRecursion (λ t. reg_cmp old r t ≡ Less) list → AllByRecursion (λ t. reg_cmp new r t ≡ Less) list
  less-stays r [] h k less = tt
  less-stays r (t ∷ list) h k less = (cmp-stays r t h k.0 ∙ less.0, less-stays r list h k.1 less.1)

  sorted-stays : (list : List Reg) → are_there list → IsStrictlySortedBy (reg_cmp old) list → IsStrictlySortedBy (reg_cmp new) list
  unfolding IsStrictlySortedBy
  sorted-stays [] k sorted = tt
  sorted-stays (r ∷ list) k sorted = (less-stays r list k.0 k.1 sorted.0, sorted-stays list k.1 sorted.1)

  events-stay : (list : List Reg) → are_there list → AllByRecursion (λ r. IsTrue (is_event new r.event)) list
  events-stay [] k = tt
  events-stay (r ∷ list) k = (event-stays old new s r.event k.0, events-stay list k.1)

  pub private-stays : (list : List Reg) → IsPrivate old list → IsPrivate new list
  private-stays list p = record {
    numbers = p.numbers;
    events = All-from_recursion (λ (r : Reg). IsTrue (is_event new r.event)) list (events-stay list (there list p));
    distinct = p.distinct;
    sorted = sorted-stays list (there list p) p.sorted;
  }

  placed-stays : (list : List Reg) → are_there list → placed new list ≡ placed old list
  placed-stays [] k = refl
  placed-stays (r ∷ list) k =
      ap (λ (p : List ℕ). record { path = p; slot = slot_of r } ∷ placed new list) (s.paths r.event k.0) ∙
      ap (λ (l : List Placed). placed_of old r ∷ l) (placed-stays list k.1)

  pub canon-stays : (list : List Reg) → IsPrivate old list → canon new list ≡ canon old list
  canon-stays list p = ap canon_of (placed-stays list (there list p))

  filters-stay : (facts : Facts) (events : List ℕ) → AllByRecursion (λ e. IsTrue (is_event old e)) events → filters_mean new facts events ≡ filters_mean old facts events
  filters-stay facts [] h = refl
  filters-stay facts (e ∷ es) h =
      ap (λ (o : Option EventDef). filter_means o facts && filters_mean new facts es) (s.founds e h.0) ∙
      ap (λ (b : Bool). filter_means (found old e) facts && b) (filters-stay facts es h.1)

  or_right : (a b : Bool) → IsTrue b → IsTrue (a || b)
  or_right true b h = refl
  or_right false b h = h

  or_left : (a b : Bool) → IsTrue a → IsTrue (a || b)
  or_left true b h = refl
  or_left false b h = cc

  defined-events : (events : List ℕ) → AllByRecursion (λ e. IsTrue (is_some (found old e))) events → AllByRecursion (λ e. IsTrue (is_event old e)) events
  defined-events [] h = tt
  defined-events (e ∷ es) h = (or_right (is_root e) (is_some (found old e)) h.0, defined-events es h.1)

  rooted-events : (p : List ℕ) → IsRooted old p → AllByRecursion (λ e. IsTrue (is_event old e)) p
  rooted-events [] h = tt
  rooted-events (e ∷ es) h = (or_left (is_root e) (is_some (found old e)) h.0, defined-events es h.1)

  called-stays : KnowsPaths old → (facts : Facts) (hook : Hook) (event : ℕ) (r : Reg) → IsTrue (is_event old r.event) → is_called new facts hook event r ≡ is_called old facts hook event r
  called-stays k facts hook event r h =
      ap (λ (p : List ℕ). is_hook r.hook hook && (begins_with event p && filters_mean new facts p)) (s.paths r.event h) ∙
      ap (λ (b : Bool). is_hook r.hook hook && (begins_with event (path old r.event) && b)) (filters-stay facts (path old r.event) (rooted-events (path old r.event) (k.rooted r.event h)))

  fires-there : KnowsPaths old → (facts : Facts) (hook : Hook) (event : ℕ) (list : List Reg) → are_there list → fires new facts hook event list ≡ fires old facts hook event list
  fires-there k facts hook event [] h = refl
  fires-there k facts hook event (r ∷ list) h =
      ap (λ (b : Bool). cond b (r ∷ fires new facts hook event list) (fires new facts hook event list)) (called-stays k facts hook event r h.0) ∙
      ap (λ (l : List Reg). cond (is_called old facts hook event r) (r ∷ l) l) (fires-there k facts hook event list h.1)

  pub fires-stay : AreDefs old → (facts : Facts) (hook : Hook) (event : ℕ) (list : List Reg) → IsPrivate old list → fires new facts hook event list ≡ fires old facts hook event list
  fires-stay are facts hook event list p = fires-there (knows old are) facts hook event list (there list p)

  put-stays : (r : Reg) (list : List Reg) → IsTrue (is_event old r.event) → are_there list → put_reg new r list ≡ put_reg old r list
  put-stays r [] h k = refl
  put-stays r (t ∷ list) h k =
      ap (λ (o : Ordering). cond (is_lt o) (r ∷ t ∷ list) (t ∷ put_reg new r list)) (cmp-stays r t h k.0) ∙
      ap (λ (l : List Reg). cond (is_lt (reg_cmp old r t)) (r ∷ t ∷ list) (t ∷ l)) (put-stays r list h k.1)

  pub edited-stays : (list : List Reg) (r : Reg) (on : Bool) → IsPrivate old list → IsTrue (is_event old r.event) → edited new list r on ≡ edited old list r on
  edited-stays list r true p h = put-stays r list h (there list p)
  edited-stays list r false p h = refl
