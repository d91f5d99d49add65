-- Not of the headline. Which two lists are a tree.
use Rattle.std.specs.Prelude.{◌≡◌, ℕ, ◌+◌, ◌≤◌, cond, nat_lt, List, [], ◌∷◌, length, ⊤}
use Rattle.shared_forest.specs.declared.node.Node.{Node}
use Rattle.shared_forest.specs.declared.node.Slot.{Slot}
use Rattle.shared_forest.specs.Listing.{IsInOrder, listing_of}

-- how many nodes at the front of a list are deeper than this
abbrev pub under : ℕ → List Node → ℕ
under depth [] = 0
under depth (n ∷ ns) = cond (nat_lt depth n.depth) (under depth ns + 1) 0

-- after a node of this depth: no node is more than one deeper than the one before it, and each counts those under it
abbrev pub AreLaidOut : ℕ → List Node → Type 0
AreLaidOut depth [] = ⊤
AreLaidOut depth (n ∷ ns) =
    (1 ≤ n.depth) × (n.depth ≤ depth + 1) × (n.below ≡ under n.depth ns) × AreLaidOut n.depth ns

-- the registrations of these nodes are those from one place up to another, one node after the other
abbrev pub ArePacked : ℕ → List Node → ℕ → Type 0
ArePacked place [] end = place ≡ end
ArePacked place (n ∷ ns) end = (n.first ≡ place) × ArePacked (place + n.count) ns end

-- the top node, and the nodes under it
abbrev pub AreTopped : List Node → Type 0
AreTopped [] = ⊥
AreTopped (top ∷ ns) = (top.event ≡ 0) × (top.depth ≡ 0) × (top.below ≡ length ns) × AreLaidOut 0 ns

-- the two lists are a tree
pub record IsTree (nodes : List Node) (slots : List Slot) : Type 0 where
  pub topped : AreTopped nodes
  pub packed : ArePacked 0 nodes (length slots)
  pub order : IsInOrder (listing_of nodes slots)
