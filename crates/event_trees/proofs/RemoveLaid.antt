-- Nodes that go: the layout stays.
use Rattle.std.proofs.Common.{◌≡◌, ℕ, suc, ◌+◌, ◌-◌, ◌<◌, ◌≤◌, Bool, true, false, cond, List, [], ◌∷◌, ◌++◌, length, refl, sym, ap, ◌∙◌, arith, ⊎_elim}
use Rattle.std.specs.Prelude.{⊤, nat_lt}
use Rattle.std.proofs.lemmas.List.{length-append}
use Rattle.std.proofs.lemmas.Bool.{cases_lt}
use Rattle.std.proofs.lemmas.Bool.Decides.{nat_tests}
use Rattle.shared_forest.specs.declared.node.Node.{Node}
use Rattle.shared_forest.specs.Layout.{under, AreLaidOut, AreTopped}
use Rattle.event_trees.specs.Build.{bumped}
use Rattle.event_trees.specs.Insert.{moved}
use Rattle.event_trees.specs.Remove.{lowered, IsRun}
use Rattle.event_trees.proofs.InsertLaid.{under-bumped, under-moved, moved-size}
use Rattle.event_trees.proofs.Built.{bumped-length}

-- the first node is no deeper than this
abbrev pub IsLow : ℕ → List Node → Type 0
IsLow depth [] = ⊤
IsLow depth (n ∷ ns) = n.depth ≤ depth

-- where all of a front are deeper: so are they than any lesser depth, and the next node isn't
pub record AllDeeper (e : ℕ) (xs ys : List Node) : Type 0 where
  pub lesser : (d : ℕ) → d ≤ e → under d (xs ++ ys) ≡ length xs + under d ys
  pub low : IsLow e ys

none-under : (e : ℕ) (ys : List Node) → under e ys ≡ 0 → IsLow e ys
none-under e [] h = tt
none-under e (y ∷ ys) h =
    ⊎_elim (λ deeper.
    let test : nat_lt e y.depth ≡ true = grind (arith, nat_tests) in
    absurd (omega (arith, h, ap (λ (b : Bool). cond b (under e ys + 1) 0) test))) (λ g. g) (cases_lt e y.depth)

pub all-deeper : (e : ℕ) (xs ys : List Node) → under e (xs ++ ys) ≡ length xs → AllDeeper e xs ys
all-deeper e [] ys h = record { lesser = λ d l. omega arith; low = none-under e ys h }
all-deeper e (x ∷ xs) ys h =
    ⊎_elim (λ deeper.
    let test : nat_lt e x.depth ≡ true = grind (arith, nat_tests) in
    let rest : AllDeeper e xs ys = all-deeper e xs ys (omega (arith, h, ap (λ (b : Bool). cond b (under e (xs ++ ys) + 1) 0) test)) in
    record {
      lesser = λ d l. (let at : nat_lt d x.depth ≡ true = grind (arith, nat_tests) in omega (arith, ap (λ (b : Bool). cond b (under d (xs ++ ys) + 1) 0) at, rest.lesser d l));
      low = rest.low;
    })
    (λ g.
    let test : nat_lt e x.depth ≡ false = grind (arith, nat_tests) in
    absurd (omega (arith, h, ap (λ (b : Bool). cond b (under e (xs ++ ys) + 1) 0) test))) (cases_lt e x.depth)

low-under : (e d : ℕ) (ys : List Node) → IsLow e ys → e ≤ d → under d ys ≡ 0
low-under e d [] low h = refl
low-under e d (y ∷ ys) low h =
    let test : nat_lt d y.depth ≡ false = grind (arith, nat_tests) in
    ap (λ (b : Bool). cond b (under d ys + 1) 0) test

-- how many are under a node of this depth, before the run goes and after
pub record Fewer (d : ℕ) (ns run back : List Node) : Type 0 where
  pub past : length ns < under d (ns ++ (run ++ back)) → under d (ns ++ (run ++ back)) ≡ under d (ns ++ back) + length run
  pub short : under d (ns ++ (run ++ back)) ≤ length ns → under d (ns ++ (run ++ back)) ≡ under d (ns ++ back)

pub run-deeper : (d0 : ℕ) (m : Node) (rs back : List Node) → m.below ≡ length rs → AreLaidOut d0 (m ∷ (rs ++ back)) → AllDeeper m.depth rs back
run-deeper d0 m rs back is laid = all-deeper m.depth rs back (sym laid.2 ∙ is)

fewer-here : (d d0 : ℕ) (run back : List Node) → IsRun run → AreLaidOut d0 (run ++ back) → Fewer d [] run back
fewer-here d d0 [] back is laid = record { past = λ _. omega arith; short = λ _. refl }
fewer-here d d0 (m ∷ rs) back is laid =
    let all : AllDeeper m.depth rs back = run-deeper d0 m rs back is laid in
    ⊎_elim (λ deeper.
    let test : nat_lt d m.depth ≡ true = grind (arith, nat_tests) in
    let count : under d (m ∷ (rs ++ back)) ≡ under d (rs ++ back) + 1 = ap (λ (b : Bool). cond b (under d (rs ++ back) + 1) 0) test in
    record { past = λ _. omega (arith, count, all.lesser d (omega (arith, deeper))); short = λ h. absurd (omega (arith, h, count)) })
    (λ g.
    let test : nat_lt d m.depth ≡ false = grind (arith, nat_tests) in
    let count : under d (m ∷ (rs ++ back)) ≡ 0 = ap (λ (b : Bool). cond b (under d (rs ++ back) + 1) 0) test in
    record { past = λ h. absurd (omega (arith, h, count)); short = λ _. omega (arith, count, low-under m.depth d back all.low g) }) (cases_lt d m.depth)

pub fewer : (d d0 : ℕ) (ns run back : List Node) → IsRun run → AreLaidOut d0 (ns ++ (run ++ back)) → Fewer d ns run back
fewer d d0 [] run back is laid = fewer-here d d0 run back is laid
fewer d d0 (n ∷ ns) run back is laid =
    let rest : Fewer d ns run back = fewer d n.depth ns run back is laid.3 in
    ⊎_elim (λ deeper.
    let test : nat_lt d n.depth ≡ true = grind (arith, nat_tests) in
    let was : under d (n ∷ (ns ++ (run ++ back))) ≡ under d (ns ++ (run ++ back)) + 1 = ap (λ (b : Bool). cond b (under d (ns ++ (run ++ back)) + 1) 0) test in
    let now : under d (n ∷ (ns ++ back)) ≡ under d (ns ++ back) + 1 = ap (λ (b : Bool). cond b (under d (ns ++ back) + 1) 0) test in
    record { past = λ h. omega (arith, was, now, rest.past (omega (arith, h, was))); short = λ h. omega (arith, was, now, rest.short (omega (arith, h, was))) })
    (λ g.
    let test : nat_lt d n.depth ≡ false = grind (arith, nat_tests) in
    let was : under d (n ∷ (ns ++ (run ++ back))) ≡ 0 = ap (λ (b : Bool). cond b (under d (ns ++ (run ++ back)) + 1) 0) test in
    let now : under d (n ∷ (ns ++ back)) ≡ 0 = ap (λ (b : Bool). cond b (under d (ns ++ back) + 1) 0) test in
    record { past = λ h. absurd (omega (arith, h, was)); short = λ _. omega (arith, was, now) }) (cases_lt d n.depth)

under-lowered : (d less : ℕ) (ns rest : List Node) → under d (lowered less ns ++ rest) ≡ under d (ns ++ rest)
under-lowered d less [] rest = refl
under-lowered d less (n ∷ ns) rest = ap (λ (u : ℕ). cond (nat_lt d n.depth) (u + 1) 0) (under-lowered d less ns rest)

laid-past : (d : ℕ) (rs back : List Node) (e d0 : ℕ) → IsLow e back → e ≤ d0 + 1 → AreLaidOut d (rs ++ back) → AreLaidOut d0 back
laid-past d [] [] e d0 low h laid = tt
laid-past d [] (n ∷ ns) e d0 low h laid = (laid.0, omega (arith, low, h), laid.2, laid.3)
laid-past d (r ∷ rs) back e d0 low h laid = laid-past r.depth rs back e d0 low h laid.3

laid-here : (d0 : ℕ) (run back : List Node) → IsRun run → AreLaidOut d0 (run ++ back) → AreLaidOut d0 back
laid-here d0 [] back is laid = laid
laid-here d0 (m ∷ rs) back is laid = laid-past m.depth rs back m.depth d0 (run-deeper d0 m rs back is laid).low laid.1 laid.3

-- the count of a node before the run
lower-is : (size u v less : ℕ) → (size < u → u ≡ v + less) → (u ≤ size → u ≡ v) → cond (nat_lt size u) (u - less) u ≡ v
lower-is size u v less past short =
    ⊎_elim (λ l. let test : nat_lt size u ≡ true = grind (arith, nat_tests) in ap (λ (b : Bool). cond b (u - less) u) test ∙ omega (arith, past l))
    (λ g. let test : nat_lt size u ≡ false = grind (arith, nat_tests) in ap (λ (b : Bool). cond b (u - less) u) test ∙ short g) (cases_lt size u)

pub laid-out : (d0 : ℕ) (ns run back : List Node) → IsRun run → AreLaidOut d0 (ns ++ (run ++ back)) → AreLaidOut d0 (lowered (length run) ns ++ back)
laid-out d0 [] run back is laid = laid-here d0 run back is laid
laid-out d0 (n ∷ ns) run back is laid =
    let f : Fewer n.depth ns run back = fewer n.depth n.depth ns run back is laid.3 in (
      laid.0,
      laid.1,
      ap (λ (u : ℕ). cond (nat_lt (length ns) u) (u - length run) u) laid.2
          ∙ (lower-is (length ns) (under n.depth (ns ++ (run ++ back))) (under n.depth (ns ++ back)) (length run) f.past f.short
          ∙ sym (under-lowered n.depth (length run) ns back)),
      laid-out n.depth ns run back is laid.3,
    )

lowered-size : (less : ℕ) (ns : List Node) → length (lowered less ns) ≡ length ns
lowered-size less [] = refl
lowered-size less (n ∷ ns) = ap (λ (k : ℕ). suc k) (lowered-size less ns)

pub topped-out : (top : Node) (ns run back : List Node) → IsRun run → AreTopped (top ∷ (ns ++ (run ++ back))) → AreTopped (lowered (length run) (top ∷ ns) ++ back)
topped-out top ns run back is h = (
  h.0,
  h.1,
  lower-is (length ns) top.below (length (lowered (length run) ns ++ back)) (length run)
      (λ past. omega (arith, h.2, length-append ns (run ++ back), length-append run back, length-append (lowered (length run) ns) back, lowered-size (length run) ns))
      (λ short. omega (arith, short, h.2, length-append ns (run ++ back), length-append run back, length-append (lowered (length run) ns) back, lowered-size (length run) ns)),
  laid-out 0 ns run back is h.3,
)

-- ---- back from one registration more
unbumped-laid : (d0 : ℕ) (ns rest : List Node) → AreLaidOut d0 (bumped ns ++ rest) → AreLaidOut d0 (ns ++ rest)
unbumped-laid d0 [] rest h = h
unbumped-laid d0 (n ∷ []) rest h = h
unbumped-laid d0 (n ∷ m ∷ ns) rest h = (h.0, h.1, h.2 ∙ under-bumped n.depth (m ∷ ns) rest, unbumped-laid n.depth (m ∷ ns) rest h.3)

unmoved-laid : (d0 : ℕ) (ns back : List Node) → AreLaidOut d0 (ns ++ moved back) → AreLaidOut d0 (ns ++ back)
unmoved-laid d0 [] [] h = tt
unmoved-laid d0 [] (n ∷ ns) h = (h.0, h.1, h.2 ∙ under-moved n.depth [] ns, unmoved-laid n.depth [] ns h.3)
unmoved-laid d0 (n ∷ ns) back h = (h.0, h.1, h.2 ∙ under-moved n.depth ns back, unmoved-laid n.depth ns back h.3)

pub topped-back : (top : Node) (ns back : List Node) → AreTopped (bumped (top ∷ ns) ++ moved back) → AreTopped (top ∷ (ns ++ back))
topped-back top [] back h = (h.0, h.1, h.2 ∙ moved-size back, unmoved-laid 0 [] back h.3)
topped-back top (m ∷ ns) back h = (
  h.0,
  h.1,
  omega (arith, h.2, length-append (bumped (m ∷ ns)) (moved back), length-append (m ∷ ns) back, bumped-length (m ∷ ns), moved-size back),
  unmoved-laid 0 (m ∷ ns) back (unbumped-laid 0 (m ∷ ns) (moved back) h.3),
)
