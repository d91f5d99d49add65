-- The registrations of a tree are those of its listing, one pair after the other.
use Rattle.std.proofs.Common.{◌≡◌, ℕ, ◌+◌, ◌≤◌, List, [], ◌∷◌, ◌++◌, length, take, drop, map, refl, sym, ap, ◌∙◌, arith}
use Rattle.std.proofs.lemmas.List.{map-append, drop_all, drop-drop, length-map, take-append-drop}
use Rattle.app_api.specs.declared.registration.Reg.{Reg}
use Rattle.shared_forest.specs.declared.node.Node.{Node}
use Rattle.shared_forest.specs.declared.node.Slot.{Slot}
use Rattle.shared_forest.specs.Layout.{ArePacked, IsTree}
use Rattle.shared_forest.specs.Listing.{Shown, slots_of, path_after, listing_after, listing_of}
use Rattle.event_trees.specs.declared.defs.EventDef.{EventDef}
use Rattle.event_trees.specs.Canon.{Placed, slot_of, placed}
use Rattle.event_trees.specs.ReadOff.{all_at, read_off}
use Rattle.event_trees.specs.Edit.{IsForestOf}
use Rattle.event_trees.proofs.Sorted.{rises, few}
use Rattle.event_trees.proofs.Whole.{whole}

-- the registrations alone
abbrev bare_slots : List Placed → List Slot
bare_slots list = map (λ r. r.slot) list

slots-all_at : (p : List ℕ) (slots : List Slot) → bare_slots (all_at p slots) ≡ slots
slots-all_at p [] = refl
slots-all_at p (s ∷ slots) = ap (λ (l : List Slot). s ∷ l) (slots-all_at p slots)

-- the front of what is left, and then the rest
split : (place count : ℕ) (slots : List Slot) → take count (drop place slots) ++ drop (place + count) slots ≡ drop place slots
split place count slots = ap (λ (l : List Slot). take count (drop place slots) ++ l) (sym (drop-drop count place slots)) ∙ take-append-drop count (drop place slots)

slots-after : (before : List ℕ) (place : ℕ) (ns : List Node) (slots : List Slot) → ArePacked place ns (length slots) → bare_slots (read_off (listing_after before ns slots)) ≡ drop place slots
slots-after before place [] slots packed = sym (drop_all place slots (omega (arith, packed)))
slots-after before place (n ∷ ns) slots packed =
    let path : List ℕ = path_after before n in
    let rest : bare_slots (read_off (listing_after path ns slots)) ≡ drop (place + n.count) slots = slots-after path (place + n.count) ns slots packed.1 in
    map-append (λ (r : Placed). r.slot) (all_at path (slots_of n slots)) (read_off (listing_after path ns slots)) ∙
    (ap (λ (l : List Slot). l ++ bare_slots (read_off (listing_after path ns slots))) (slots-all_at path (slots_of n slots)) ∙
    (ap (λ (l : List Slot). slots_of n slots ++ l) rest ∙
    (ap (λ (k : ℕ). take n.count (drop k slots) ++ drop (place + n.count) slots) packed.0 ∙ split place n.count slots)))

pub slots-tree : (nodes : List Node) (slots : List Slot) → IsTree nodes slots → bare_slots (read_off (listing_of nodes slots)) ≡ slots
slots-tree [] slots tree = absurd tree.topped
slots-tree (top ∷ ns) slots tree =
    let rest : bare_slots (read_off (listing_after [] ns slots)) ≡ drop (0 + top.count) slots = slots-after [] (0 + top.count) ns slots tree.packed.1 in
    map-append (λ (r : Placed). r.slot) (all_at [] (slots_of top slots)) (read_off (listing_after [] ns slots)) ∙
    (ap (λ (l : List Slot). l ++ bare_slots (read_off (listing_after [] ns slots))) (slots-all_at [] (slots_of top slots)) ∙
    (ap (λ (l : List Slot). slots_of top slots ++ l) rest ∙
    (ap (λ (k : ℕ). take top.count (drop k slots) ++ drop (0 + top.count) slots) tree.packed.0 ∙ split 0 top.count slots)))

slots-placed : (defs : List EventDef) (list : List Reg) → bare_slots (placed defs list) ≡ map slot_of list
slots-placed defs [] = refl
slots-placed defs (r ∷ list) = ap (λ (l : List Slot). slot_of r ∷ l) (slots-placed defs list)

pub in_order : (nodes : List Node) (slots : List Slot) (defs : List EventDef) (list : List Reg) → IsTree nodes slots → IsForestOf defs list (listing_of nodes slots) → slots ≡ map slot_of list
in_order nodes slots defs list tree forest =
    sym (slots-tree nodes slots tree) ∙ (ap (λ (l : List Shown). bare_slots (read_off l)) forest.listed ∙
    (ap bare_slots (whole (placed defs list) (rises defs list forest.private.sorted)) ∙ slots-placed defs list))

pub in_order-few : (nodes : List Node) (slots : List Slot) (defs : List EventDef) (list : List Reg) → IsTree nodes slots → IsForestOf defs list (listing_of nodes slots) → length slots ≤ 255
in_order-few nodes slots defs list tree forest =
    omega (arith, ap length (in_order nodes slots defs list tree forest), length-map list slot_of, few list forest.private.numbers forest.private.distinct)
