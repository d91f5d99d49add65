-- One registration more: the registrations of the nodes still stand one node after the other.
use Rattle.std.proofs.Common.{◌≡◌, ℕ, ◌+◌, List, [], ◌∷◌, ◌++◌, refl, sym, ap, subst, arith}
use Rattle.shared_forest.specs.declared.node.Node.{Node}
use Rattle.shared_forest.specs.Layout.{ArePacked}
use Rattle.event_trees.specs.Build.{bumped}
use Rattle.event_trees.specs.Insert.{chain, raised, moved}
use Rattle.event_trees.proofs.Built.{bumped-packed}

-- up to the place where the second part begins
pub packed-front : (place : ℕ) (ns ms : List Node) (end : ℕ) → ArePacked place (ns ++ ms) end → (mid : ℕ) × (ArePacked place ns mid × ArePacked mid ms end)
packed-front place [] ms end h = (place, (refl, h))
packed-front place (n ∷ ns) ms end h =
    let r = packed-front (place + n.count) ns ms end h.1 in
    (r.0, ((h.0, r.1.0), r.1.1))

pub packed-both : (place mid : ℕ) (ns ms : List Node) (end : ℕ) → ArePacked place ns mid → ArePacked mid ms end → ArePacked place (ns ++ ms) end
packed-both place mid [] ms end h k = subst (λ (p : ℕ). ArePacked p ms end) (sym h) k
packed-both place mid (n ∷ ns) ms end h k = (h.0, packed-both (place + n.count) mid ns ms end h.1 k)

packed-raised : (c more place : ℕ) (ns : List Node) (end : ℕ) → ArePacked place ns end → ArePacked place (raised c more ns) end
packed-raised c more place [] end h = h
packed-raised c more place (n ∷ ns) end h = (h.0, packed-raised c more (place + n.count) ns end h.1)

packed-chain : (first place c : ℕ) (es : List ℕ) → place ≡ first → ArePacked place (chain first c es) first
packed-chain first place c [] h = h
packed-chain first place c (e ∷ es) h = (sym h, packed-chain first (place + 0) (c + 1) es (omega (arith, h)))

packed-moved : (place : ℕ) (ns : List Node) (end : ℕ) → ArePacked place ns end → ArePacked (place + 1) (moved ns) (end + 1)
packed-moved place [] end h = ap (λ (k : ℕ). k + 1) h
packed-moved place (n ∷ ns) end h = (
  ap (λ (k : ℕ). k + 1) h.0,
  subst (λ (k : ℕ). ArePacked k (moved ns) (end + 1)) (omega arith) (packed-moved (place + n.count) ns end h.1),
)

-- the nodes before the new ones, with them
pub packed-path : (c more mid : ℕ) (es : List ℕ) (top : Node) (ns : List Node) → ArePacked 0 (top ∷ ns) mid → ArePacked 0 (raised c more (top ∷ ns) ++ chain mid c es) mid
packed-path c more mid es top ns h =
    packed-both 0 mid (raised c more (top ∷ ns)) (chain mid c es) mid (packed-raised c more 0 (top ∷ ns) mid h) (packed-chain mid mid c es refl)

pub packed-in : (c more mid end : ℕ) (es : List ℕ) (top : Node) (ns back : List Node) → ArePacked 0 (top ∷ ns) mid → ArePacked mid back end
    → ArePacked 0 (bumped (raised c more (top ∷ ns) ++ chain mid c es) ++ moved back) (end + 1)
packed-in c more mid end es top ns back h k =
    packed-both 0 (mid + 1) (bumped (raised c more (top ∷ ns) ++ chain mid c es)) (moved back) (end + 1) (bumped-packed 0 mid _ _ (packed-path c more mid es top ns h)) (packed-moved mid back end k)
