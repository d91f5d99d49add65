-- Nodes that come in under a path: the layout stays.
use Rattle.std.proofs.Common.{◌≡◌, ℕ, suc, ◌+◌, ◌<◌, ◌≤◌, Bool, true, false, cond, List, [], ◌∷◌, ◌++◌, length, refl, sym, ap, ◌∙◌, arith, append_assoc, ⊎_elim}
use Rattle.std.specs.Prelude.{⊤, ◌&&◌, nat_le, nat_lt}
use Rattle.std.proofs.lemmas.List.{length-append}
use Rattle.std.proofs.lemmas.Bool.Decides.{leb_tells, nat_tests}
use Rattle.shared_forest.specs.declared.node.Node.{Node}
use Rattle.shared_forest.specs.Layout.{under, AreLaidOut, AreTopped}
use Rattle.event_trees.specs.Build.{bumped}
use Rattle.event_trees.specs.Insert.{chain, raised, moved}
use Rattle.event_trees.proofs.Built.{bumped-length}

-- the depth of the last node
abbrev pub end_depth : ℕ → List Node → ℕ
end_depth depth [] = depth
end_depth depth (n ∷ ns) = end_depth n.depth ns

-- the first node is at most one deeper than this
abbrev pub IsShallow : ℕ → List Node → Type 0
IsShallow depth [] = ⊤
IsShallow depth (n ∷ ns) = n.depth ≤ depth + 1

deeper_shallow : (c d : ℕ) (back : List Node) → IsShallow c back → c ≤ d → IsShallow d back
deeper_shallow c d [] s h = tt
deeper_shallow c d (n ∷ ns) s h = omega (arith, s, h)

shallow-under : (c d : ℕ) (back : List Node) → IsShallow c back → c < d → under d back ≡ 0
shallow-under c d [] s h = refl
shallow-under c d (n ∷ ns) s h =
    let test : nat_lt d n.depth ≡ false = grind (arith, nat_tests) in
    ap (λ (b : Bool). cond b (under d ns + 1) 0) test

relaid : (d0 d1 c : ℕ) (back : List Node) → IsShallow c back → c ≤ d1 → AreLaidOut d0 back → AreLaidOut d1 back
relaid d0 d1 c [] s h laid = tt
relaid d0 d1 c (n ∷ ns) s h laid = (laid.0, omega (arith, s, h), laid.2, laid.3)

under-chain_above : (d c first : ℕ) (es : List ℕ) (back : List Node) → d ≤ c → under d (chain first c es ++ back) ≡ under d back + length es
under-chain_above d c first [] back h = omega arith
under-chain_above d c first (e ∷ es) back h =
    let test : nat_lt d (c + 1) ≡ true = grind (arith, nat_tests) in
    ap (λ (b : Bool). cond b (under d (chain first (c + 1) es ++ back) + 1) 0) test ∙ omega (arith, under-chain_above d (c + 1) first es back (omega (arith, h)))

under-chain_below : (d c first : ℕ) (es : List ℕ) (back : List Node) → IsShallow c back → c < d → under d (chain first c es ++ back) ≡ 0
under-chain_below d c first [] back s h = shallow-under c d back s h
under-chain_below d c first (e ∷ es) back s h =
    let test : nat_lt d (c + 1) ≡ false = grind (arith, nat_tests) in
    ap (λ (b : Bool). cond b (under d (chain first (c + 1) es ++ back) + 1) 0) test

laid-chain : (d0 c first : ℕ) (es : List ℕ) (back : List Node) → IsShallow c back → c ≤ d0 → AreLaidOut d0 back → AreLaidOut d0 (chain first c es ++ back)
laid-chain d0 c first [] back s h laid = laid
laid-chain d0 c first (e ∷ es) back s h laid = (
  omega arith,
  omega (arith, h),
  omega (arith, under-chain_above (c + 1) (c + 1) first es back (omega arith), shallow-under c (c + 1) back s (omega arith)),
  laid-chain (c + 1) (c + 1) first es back (deeper_shallow c (c + 1) back s (omega arith)) (omega arith) (relaid d0 (c + 1) c back s (omega arith) laid),
)

-- how many are under a node of this depth once the chain is in
abbrev now_under : ℕ → ℕ → ℕ → ℕ → ℕ → ℕ
now_under size more c d u = cond (nat_le size u && nat_le d c) (u + more) u

under-in_here : (d c first : ℕ) (es : List ℕ) (back : List Node) → IsShallow c back → under d (chain first c es ++ back) ≡ now_under 0 (length es) c d (under d back)
under-in_here d c first es back s =
    let all : nat_le 0 (under d back) ≡ true = grind (arith, nat_tests) in
    ⊎_elim (λ t. under-chain_above d c first es back t.1 ∙ sym (ap (λ (b : Bool). cond (b && nat_le d c) (under d back + length es) (under d back))
    all ∙ ap (λ (b : Bool). cond b (under d back + length es) (under d back)) t.0))
    (λ t. under-chain_below d c first es back s t.1 ∙ (sym (shallow-under c d back s t.1)
    ∙ sym (ap (λ (b : Bool). cond (b && nat_le d c) (under d back + length es) (under d back)) all ∙ ap (λ (b : Bool). cond b (under d back + length es) (under d back)) t.0)))
    (leb_tells d c)

step-in : (size more c d u : ℕ) → now_under size more c d u + 1 ≡ now_under (suc size) more c d (u + 1)
step-in size more c d u =
    let same : nat_le size u ≡ nat_le (suc size) (u + 1) = grind (arith, nat_tests) in
    elim (nat_le d c) as (λ b. cond (nat_le size u && b) (u + more) u + 1 ≡ cond (nat_le (suc size) (u + 1) && b) (u + 1 + more) (u + 1)) [
      | true ↦ ap (λ (b : Bool). cond (b && true) (u + more) u + 1) same
          ∙ elim (nat_le (suc size) (u + 1)) as (λ b. cond (b && true) (u + more) u + 1 ≡ cond (b && true) (u + 1 + more) (u + 1)) [ true ↦ omega arith | false ↦ omega arith ]
      | false ↦ ap (λ (b : Bool). cond (b && false) (u + more) u + 1) same
          ∙ elim (nat_le (suc size) (u + 1)) as (λ b. cond (b && false) (u + more) u + 1 ≡ cond (b && false) (u + 1 + more) (u + 1)) [ true ↦ omega arith | false ↦ omega arith ]
    ]

under-in : (d c first : ℕ) (es : List ℕ) (ns back : List Node) → IsShallow c back → under d (ns ++ (chain first c es ++ back)) ≡ now_under (length ns) (length es) c d (under d (ns ++ back))
under-in d c first es [] back s = under-in_here d c first es back s
under-in d c first es (n ∷ ns) back s =
    ap (λ (u : ℕ). cond (nat_lt d n.depth) (u + 1) 0) (under-in d c first es ns back s) ∙
    elim (nat_lt d n.depth) as (λ b. cond b (now_under (length ns) (length es) c d (under d (ns ++ back)) + 1) 0 ≡ now_under (suc (length ns)) (length es) c d (cond b (under d (ns ++ back) + 1) 0)) [
      | true ↦ step-in (length ns) (length es) c d (under d (ns ++ back))
      | false ↦ let none : nat_le (suc (length ns)) 0 ≡ false = grind (arith, nat_tests) in sym (ap (λ (b : Bool). cond (b && nat_le d c) (0 + length es) 0) none)
    ]

under-raised : (d c more : ℕ) (ns rest : List Node) → under d (raised c more ns ++ rest) ≡ under d (ns ++ rest)
under-raised d c more [] rest = refl
under-raised d c more (n ∷ ns) rest = ap (λ (u : ℕ). cond (nat_lt d n.depth) (u + 1) 0) (under-raised d c more ns rest)

laid-in : (d0 c first : ℕ) (es : List ℕ) (ns back : List Node) → IsShallow c back → c ≤ end_depth d0 ns → AreLaidOut d0 (ns ++ back)
    → AreLaidOut d0 (raised c (length es) ns ++ (chain first c es ++ back))
laid-in d0 c first es [] back s h laid = laid-chain d0 c first es back s h laid
laid-in d0 c first es (n ∷ ns) back s h laid = (
  laid.0,
  laid.1,
  ap (now_under (length ns) (length es) c n.depth) laid.2 ∙ (sym (under-in n.depth c first es ns back s) ∙ sym (under-raised n.depth c (length es) ns (chain first c es ++ back))),
  laid-in n.depth c first es ns back s h laid.3,
)

-- ---- registrations are no matter of the layout
pub under-bumped : (d : ℕ) (ns rest : List Node) → under d (bumped ns ++ rest) ≡ under d (ns ++ rest)
under-bumped d [] rest = refl
under-bumped d (n ∷ []) rest = refl
under-bumped d (n ∷ m ∷ ns) rest = ap (λ (u : ℕ). cond (nat_lt d n.depth) (u + 1) 0) (under-bumped d (m ∷ ns) rest)

laid-bumped : (d0 : ℕ) (ns rest : List Node) → AreLaidOut d0 (ns ++ rest) → AreLaidOut d0 (bumped ns ++ rest)
laid-bumped d0 [] rest h = h
laid-bumped d0 (n ∷ []) rest h = h
laid-bumped d0 (n ∷ m ∷ ns) rest h = (h.0, h.1, h.2 ∙ sym (under-bumped n.depth (m ∷ ns) rest), laid-bumped n.depth (m ∷ ns) rest h.3)

pub under-moved : (d : ℕ) (ns back : List Node) → under d (ns ++ moved back) ≡ under d (ns ++ back)
under-moved d [] [] = refl
under-moved d [] (n ∷ ns) = ap (λ (u : ℕ). cond (nat_lt d n.depth) (u + 1) 0) (under-moved d [] ns)
under-moved d (n ∷ ns) back = ap (λ (u : ℕ). cond (nat_lt d n.depth) (u + 1) 0) (under-moved d ns back)

laid-moved : (d0 : ℕ) (ns back : List Node) → AreLaidOut d0 (ns ++ back) → AreLaidOut d0 (ns ++ moved back)
laid-moved d0 [] [] h = tt
laid-moved d0 [] (n ∷ ns) h = (h.0, h.1, h.2 ∙ sym (under-moved n.depth [] ns), laid-moved n.depth [] ns h.3)
laid-moved d0 (n ∷ ns) back h = (h.0, h.1, h.2 ∙ sym (under-moved n.depth ns back), laid-moved n.depth ns back h.3)

pub moved-size : (ns : List Node) → length (moved ns) ≡ length ns
moved-size [] = refl
moved-size (n ∷ ns) = ap (λ (k : ℕ). suc k) (moved-size ns)

topped-bumped : (top : Node) (ns back : List Node) → AreTopped (top ∷ (ns ++ back)) → AreTopped (bumped (top ∷ ns) ++ moved back)
topped-bumped top [] back h = (h.0, h.1, h.2 ∙ sym (moved-size back), laid-moved 0 [] back h.3)
topped-bumped top (m ∷ ns) back h = (
  h.0,
  h.1,
  omega (arith, h.2, length-append (bumped (m ∷ ns)) (moved back), length-append (m ∷ ns) back, bumped-length (m ∷ ns), moved-size back),
  laid-moved 0 (bumped (m ∷ ns)) back (laid-bumped 0 (m ∷ ns) back h.3),
)

raised-size : (c more : ℕ) (ns : List Node) → length (raised c more ns) ≡ length ns
raised-size c more [] = refl
raised-size c more (n ∷ ns) = ap (λ (k : ℕ). suc k) (raised-size c more ns)

chain-size : (first c : ℕ) (es : List ℕ) → length (chain first c es) ≡ length es
chain-size first c [] = refl
chain-size first c (e ∷ es) = ap (λ (k : ℕ). suc k) (chain-size first (c + 1) es)

pub topped-in : (c first : ℕ) (es : List ℕ) (top : Node) (ns back : List Node) → IsShallow c back → c ≤ end_depth 0 ns
    → AreTopped (top ∷ (ns ++ back)) → AreTopped (bumped (raised c (length es) (top ∷ ns) ++ chain first c es) ++ moved back)
topped-in c first es top ns back s h topped =
    let reaches : nat_le (length ns) top.below ≡ true = (let long : length ns ≤ top.below = omega (arith, topped.2, length-append ns back) in grind (arith, nat_tests)) in
    let above : nat_le top.depth c ≡ true = (let low : top.depth ≤ c = omega (arith, topped.1) in grind (arith, nat_tests)) in
    let more : now_under (length ns) (length es) c top.depth top.below ≡ top.below + length es =
    ap (λ (b : Bool). cond (b && nat_le top.depth c) (top.below + length es) top.below) reaches ∙ ap (λ (b : Bool). cond b (top.below + length es) top.below) above in
    let new : Node = record top { below = now_under (length ns) (length es) c top.depth top.below } in
    topped-bumped new (raised c (length es) ns ++ chain first c es) back (
      topped.0,
      topped.1,
      omega (
        arith,
        more,
        topped.2,
        length-append ns back,
        length-append (raised c (length es) ns ++ chain first c es) back,
        length-append
            (raised c (length es) ns) (chain first c es),
        raised-size c (length es) ns,
        chain-size first c es,
      ),
      rw append_assoc (laid-in 0 c first es ns back s h topped.3),
    )
