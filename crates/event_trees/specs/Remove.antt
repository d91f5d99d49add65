-- Only for proofs. The steps by which one registration goes out of the two lists of a tree.
use Rattle.std.specs.Prelude.{◌≡◌, ℕ, ◌+◌, ◌-◌, ◌<◌, ◌≤◌, ◌≢◌, nat_lt, slice_index_or, if◌then◌else◌, List, [], ◌∷◌, ◌++◌, length, take, drop, ⊤}
use Rattle.std.specs.List.{AllByRecursion}
use Rattle.shared_forest.specs.declared.node.Node.{Node}
use Rattle.shared_forest.specs.declared.node.Slot.{Slot}

abbrev pub no_node : Node
no_node = record { event = 0; depth = 0; below = 0; first = 0; count = 0 }

-- a node before a place from which so many nodes go: it counts them no more where it reaches past the place
abbrev pub lowered_by : ℕ → ℕ → Node → Node
lowered_by less behind n = record n { below = if nat_lt behind n.below then n.below - less else n.below }

abbrev pub lowered : ℕ → List Node → List Node
lowered less [] = []
lowered less (n ∷ ns) = lowered_by less (length ns) n ∷ lowered less ns

-- the registrations of these nodes stand one place earlier
abbrev pub moved_back : List Node → List Node
moved_back [] = []
moved_back (n ∷ ns) = record n { first = n.first - 1 } ∷ moved_back ns

-- the last node has one registration less
abbrev pub uncounted : List Node → List Node
uncounted [] = []
uncounted (n ∷ []) = record n { count = n.count - 1 } ∷ []
uncounted (n ∷ m ∷ ns) = n ∷ uncounted (m ∷ ns)

-- the last node has one registration, and the others none
abbrev pub IsBare : List Node → Type 0
IsBare [] = ⊤
IsBare (n ∷ []) = n.count ≡ 1
IsBare (n ∷ m ∷ ns) = (n.count ≡ 0) × IsBare (m ∷ ns)

-- those of so many nodes that stay once the last has one registration less
abbrev pub kept_nodes : ℕ → ℕ → List Node → List Node
kept_nodes keep end nodes = if nat_lt keep end then lowered (end - keep) (take keep nodes) else uncounted (take end nodes)

abbrev pub without_nodes : ℕ → ℕ → List Node → List Node
without_nodes keep end nodes = kept_nodes keep end nodes ++ moved_back (drop end nodes)

-- the first of these registrations, if there is one, has this number
abbrev pub StartsWith : ℕ → List Slot → Type 0
StartsWith number [] = ⊤
StartsWith number (s ∷ ss) = s.number ≡ number

-- where the registration with this number stands; behind them all, where there is none
pub record IsPlaceOf (number : ℕ) (slots : List Slot) (place : ℕ) : Type 0 where
  pub within : place ≤ length slots
  pub before : AllByRecursion (λ s. s.number ≢ number) (take place slots)
  pub here : StartsWith number (drop place slots)

-- the first node has the rest under it
abbrev pub IsRun : List Node → Type 0
IsRun [] = ⊤
IsRun (m ∷ rs) = m.below ≡ length rs

-- the registrations of this node have this place
pub record IsOwner (nodes : List Node) (place node : ℕ) : Type 0 where
  pub within : node < length nodes
  pub low : (slice_index_or nodes node no_node).first ≤ place
  pub high : place < (slice_index_or nodes node no_node).first + (slice_index_or nodes node no_node).count

-- the nodes from here up to there are bare but for the last, one under the other, and it doesn't begin earlier
pub record IsBareFrom (nodes : List Node) (end keep : ℕ) : Type 0 where
  pub low : 1 ≤ keep
  pub high : keep < end
  pub bare : IsBare (take (end - keep) (drop keep nodes))
  pub run : IsRun (take (end - keep) (drop keep nodes))
  pub stop : 1 < keep → (slice_index_or nodes (keep - 1) no_node).count ≡ 0 → (slice_index_or nodes (keep - 1) no_node).below ≢ end - keep

-- how many nodes stay once the last of so many has one registration less
pub record IsKeep (nodes : List Node) (end keep : ℕ) : Type 0 where
  pub high : keep ≤ end
  pub all : keep ≡ end → 1 < end → (slice_index_or nodes (end - 1) no_node).count ≤ 1 → 0 < (slice_index_or nodes (end - 1) no_node).below
  pub some : keep < end → IsBareFrom nodes end keep
