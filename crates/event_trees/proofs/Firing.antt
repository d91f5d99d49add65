-- What fires of the listing of a private list is what fires of the list.
use Rattle.std.proofs.Common.{◌≡◌, ℕ, ◌≤◌, Bool, true, false, cond, eqb, List, [], ◌∷◌, ◌++◌, map, Option, Some, None, refl, sym, ap, ◌∙◌, arith}
use Rattle.std.specs.Prelude.{◌&&◌, IsTrue, is_some}
use Rattle.std.specs.List.{filter, AllByRecursion}
use Rattle.std.proofs.lemmas.Bool.Decides.{nat_tests}
use Rattle.native_filters.specs.declared.facts.Facts.{Facts}
use Rattle.native_filters.specs.declared.facts.Hook.{Hook}
use Rattle.shared_forest.specs.declared.node.Slot.{Slot}
use Rattle.shared_forest.specs.Listing.{Shown}
use Rattle.app_api.specs.declared.registration.Reg.{Reg}
use Rattle.event_trees.specs.declared.defs.EventDef.{EventDef}
use Rattle.event_trees.specs.Defs.{found, is_root, is_event, path}
use Rattle.event_trees.specs.Private.{numbers_of}
use Rattle.event_trees.specs.Canon.{Placed, placed, canon_of, canon}
use Rattle.native_filters.specs.Hook.{is_hook}
use Rattle.event_trees.specs.Fires.{filter_means, filters_mean, begins_with, is_called, fires}
use Rattle.event_trees.specs.Walk.{asks, keeps, passes, called, firing}
use Rattle.event_trees.specs.ReadOff.{read_off}
use Rattle.event_trees.proofs.Paths.{KnowsPaths, IsRooted}
use Rattle.event_trees.proofs.Whole.{whole}
use Rattle.event_trees.proofs.Rises.{Rises}

-- what fires of registrations with their paths
abbrev fires_placed : (ℕ → Bool) → Hook → List Placed → List ℕ
fires_placed keep hook [] = []
fires_placed keep hook (r ∷ rest) = cond (is_hook r.slot.hook hook && passes keep r.path) (r.slot.number ∷ fires_placed keep hook rest) (fires_placed keep hook rest)

fires-append : (keep : ℕ → Bool) (hook : Hook) (xs ys : List Placed) → fires_placed keep hook (xs ++ ys) ≡ fires_placed keep hook xs ++ fires_placed keep hook ys
fires-append keep hook [] ys = refl
fires-append keep hook (x ∷ xs) ys =
    elim (is_hook x.slot.hook hook && passes keep x.path) as (λ b. cond b (x.slot.number ∷ fires_placed keep hook (xs ++ ys))
    (fires_placed keep hook (xs ++ ys)) ≡ cond b (x.slot.number ∷ fires_placed keep hook xs) (fires_placed keep hook xs) ++ fires_placed keep hook ys) [
      | true ↦ ap (λ (l : List ℕ). x.slot.number ∷ l) (fires-append keep hook xs ys)
      | false ↦ fires-append keep hook xs ys
    ]

abbrev at : List ℕ → Slot → Placed
at p slot = record { path = p; slot = slot }

-- the registrations of one path: all or none pass
called-at : (keep : ℕ → Bool) (hook : Hook) (p : List ℕ) (slots : List Slot) → cond (passes keep p) (called hook slots) [] ≡ fires_placed keep hook (map (at p) slots)
called-at keep hook p [] = elim (passes keep p) as (λ b. cond b (called hook []) [] ≡ []) [ true ↦ refl | false ↦ refl ]
called-at keep hook p (s ∷ slots) =
    elim (passes keep p) as (λ b. cond b (called hook slots) [] ≡ fires_placed keep hook (map (at p) slots)
    → cond b (called hook (s ∷ slots)) [] ≡ cond (is_hook s.hook hook && b) (s.number ∷ fires_placed keep hook (map (at p) slots))
    (fires_placed keep hook (map (at p) slots))) [
      | true ↦ λ h. elim (is_hook s.hook hook) as (λ c. map (λ x. x.number)
          (cond c (s ∷ filter (λ x. is_hook x.hook hook) slots) (filter (λ x. is_hook x.hook hook) slots)) ≡ cond (c && true)
          (s.number ∷ fires_placed keep hook (map (at p) slots)) (fires_placed keep hook (map (at p) slots))) [
            | true ↦ ap (λ (l : List ℕ). s.number ∷ l) h
            | false ↦ h
          ]
      | false ↦ λ h. elim (is_hook s.hook hook) as (λ c. [] ≡ cond (c && false) (s.number ∷ fires_placed keep hook (map (at p) slots))
          (fires_placed keep hook (map (at p) slots))) [ true ↦ h | false ↦ h ]
    ] (called-at keep hook p slots)

firing-read_off : (keep : ℕ → Bool) (hook : Hook) (listing : List Shown) → firing keep hook listing ≡ fires_placed keep hook (read_off listing)
firing-read_off keep hook [] = refl
firing-read_off keep hook (s ∷ ss) =
    ap (λ (l : List ℕ). l ++ firing keep hook ss) (called-at keep hook s.path s.slots)
    ∙ (ap (λ (l : List ℕ). fires_placed keep hook (map (at s.path) s.slots) ++ l) (firing-read_off keep hook ss)
    ∙ sym (fires-append keep hook (map (at s.path) s.slots) (read_off ss)))

firing-canon_of : (keep : ℕ → Bool) (hook : Hook) (list : List Placed) → Rises [] list → firing keep hook (canon_of list) ≡ fires_placed keep hook list
firing-canon_of keep hook list up = firing-read_off keep hook (canon_of list) ∙ ap (fires_placed keep hook) (whole list up)

-- on a path of definitions, what is asked at each is its filter
defined-passes : (defs : List EventDef) (facts : Facts) (root : ℕ) (events : List ℕ) → AllByRecursion (λ e. IsTrue (is_some (found defs e))) events
    → passes (keeps defs facts root) events ≡ filters_mean defs facts events
defined-passes defs facts root [] h = refl
defined-passes defs facts root (e ∷ es) h =
    elim (found defs e) as (λ o. IsTrue (is_some o) → (asks o facts root e && passes (keeps defs facts root) es) ≡ (filter_means o facts && filters_mean defs facts es)) [
      | Some d ↦ λ k. ap (λ (b : Bool). filter_means (Some d) facts && b) (defined-passes defs facts root es h.1)
      | None ↦ λ k. cc
    ] h.0

root_high : (root : ℕ) → IsTrue (is_root root) → 256 ≤ root
root_high root h = grind (arith, nat_tests)

pub root-unfound : (defs : List EventDef) (root : ℕ) → KnowsPaths defs → IsTrue (is_root root) → found defs root ≡ None
root-unfound defs root k h =
    elim (found defs root) as (λ o. found defs root ≡ o → o ≡ None) [
      | Some d ↦ λ e. absurd (omega (arith, k.numbers root d e, root_high root h))
      | None ↦ λ e. refl
    ] refl

rooted-passes : (defs : List EventDef) (facts : Facts) (root : ℕ) (p : List ℕ) → KnowsPaths defs → IsRooted defs p
    → passes (keeps defs facts root) p ≡ (begins_with root p && filters_mean defs facts p)
rooted-passes defs facts root [] k h = absurd h
rooted-passes defs facts root (r ∷ es) k h =
    let none : found defs r ≡ None = root-unfound defs r k h.0 in
    let left : keeps defs facts root r ≡ eqb r root = ap (λ (o : Option EventDef). asks o facts root r) none in
    let right : filters_mean defs facts (r ∷ es) ≡ filters_mean defs facts es = ap (λ (o : Option EventDef). filter_means o facts && filters_mean defs facts es) none in
    ap (λ (b : Bool). b && passes (keeps defs facts root) es) left ∙ ap (λ (b : Bool). eqb r root && b) (defined-passes defs facts root es h.1 ∙ sym right)

fires-placed : (defs : List EventDef) (facts : Facts) (hook : Hook) (root : ℕ) (list : List Reg) → KnowsPaths defs
    → AllByRecursion (λ r. IsTrue (is_event defs r.event)) list → fires_placed (keeps defs facts root) hook (placed defs list) ≡ numbers_of (fires defs facts hook root list)
fires-placed defs facts hook root [] k h = refl
fires-placed defs facts hook root (r ∷ list) k h =
    let p : List ℕ = path defs r.event in
    let test : (is_hook r.hook hook && passes (keeps defs facts root) p) ≡ is_called defs facts hook root r = ap
    (λ (b : Bool). is_hook r.hook hook && b) (rooted-passes defs facts root p k (k.rooted r.event h.0)) in
    ap (λ (b : Bool). cond b (r.number ∷ fires_placed (keeps defs facts root) hook (placed defs list)) (fires_placed (keeps defs facts root) hook (placed defs list))) test ∙
    (ap (λ (l : List ℕ). cond (is_called defs facts hook root r) (r.number ∷ l) l) (fires-placed defs facts hook root list k h.1) ∙
    elim (is_called defs facts hook root r) as (λ b. cond b (r.number ∷ numbers_of (fires defs facts hook root list))
    (numbers_of (fires defs facts hook root list)) ≡ numbers_of (cond b (r ∷ fires defs facts hook root list) (fires defs facts hook root list)))
    [ true ↦ refl | false ↦ refl ])

pub firing-canon : (defs : List EventDef) (facts : Facts) (hook : Hook) (root : ℕ) (list : List Reg) → KnowsPaths defs
    → AllByRecursion (λ r. IsTrue (is_event defs r.event)) list → Rises [] (placed defs list)
    → firing (keeps defs facts root) hook (canon defs list) ≡ numbers_of (fires defs facts hook root list)
firing-canon defs facts hook root list k h up = firing-canon_of (keeps defs facts root) hook (placed defs list) up ∙ fires-placed defs facts hook root list k h
