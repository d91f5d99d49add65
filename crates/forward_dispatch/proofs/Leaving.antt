-- Packets on their way that leave.
use Rattle.std.proofs.Common.{◌≡◌, ◌<◌, ◌≤◌, ◌+◌, ℕ, Option, List, [], ◌∷◌, ◌++◌, length, drop, get_or, set, refl, sym, ap, subst, ◌∙◌, drop-drop, arith}
use Rattle.std.specs.Prelude.{Result, Ok, Err, IsOk, ⊤}
use Rattle.std.specs.Io.KnownBytes.{Appends, Keeps}
use Rattle.std.proofs.KnownBytes.{Appends-kept}
use Rattle.std.proofs.lemmas.List.{length_push, length-drop, get_or-drop, get_or_append_left, get_or_default, drop-append-le}
use Rattle.mos_bytes.specs.Writes.{AppendsFront}
use Rattle.lane_rings.specs.declared.items.Answer.{Answer}
use Rattle.lane_composition.specs.Forwarded.{bytes_out}
use Rattle.lane_composition.specs.Forward.{HaveLeft, HasLeft}
use Rattle.forward_dispatch.specs.declared.lane_answers.LaneAnswers.{LaneAnswers}
use Rattle.forward_dispatch.specs.declared.on_their_way.OnTheirWay.{OnTheirWay}
use Rattle.forward_dispatch.specs.Given.{given_from, Gives}
use Rattle.forward_dispatch.specs.OnTheirWay.{Leaves, IsCutOff, LeavesOn, SameRings, lane_by}
use Rattle.forward_dispatch.proofs.Given.{same_rings, rings_then, given_here, given_other, given_none, rings_one}

-- an error is no value
pub no_value : {T E : Type 0} (e : E) (result : Result T E) → result ≡ Err e → IsOk result → ⊥
no_value e (Ok value) is ok = cc
no_value e (Err error) is ok = cc

-- ---- what the laws say

abbrev pub IsNextLaw : Type 0
IsNextLaw = (lane : ℕ → ℕ) (n : ℕ) (given after : ℕ → List Answer) (a : Answer) (old mid new : Option (List ℕ)) → HaveLeft lane n given old mid
    → after (lane n) ≡ given (lane n) ++ a ∷ [] → ((l : ℕ) → (l ≡ lane n → ⊥) → after l ≡ given l) → Appends mid new (bytes_out a) → HaveLeft lane (n + 1) after old new

abbrev pub IsCutLaw : Type 0
IsCutLaw = (lane : ℕ → ℕ) (n m : ℕ) (given after : ℕ → List Answer) (a : Answer) (old mid new : Option (List ℕ)) → n < m → HaveLeft lane n given old mid
    → after (lane n) ≡ given (lane n) ++ a ∷ [] → ((l : ℕ) → (l ≡ lane n → ⊥) → after l ≡ given l) → AppendsFront mid new (bytes_out a) → HasLeft lane m after old new

abbrev pub IsSomeLaw : Type 0
IsSomeLaw = (lane : ℕ → ℕ) (n m : ℕ) (given : ℕ → List Answer) (old new : Option (List ℕ)) → n ≤ m → HaveLeft lane n given old new → HasLeft lane m given old new

abbrev pub IsLaterLaw : Type 0
IsLaterLaw = (lane other : ℕ → ℕ) (n : ℕ) (given : ℕ → List Answer) (old new : Option (List ℕ)) → ((i : ℕ) → i < n → other i ≡ lane i) → HaveLeft lane n given old new
    → HaveLeft other n given old new

-- ---- what has left, seen otherwise

-- by other names of the same answers, and with the output handed on
pub left_as : (lane : ℕ → ℕ) (n : ℕ) (given after : ℕ → List Answer) (before mid new : Option (List ℕ)) → ((l : ℕ) → after l ≡ given l) → Keeps mid new → HaveLeft lane n given before mid
    → HaveLeft lane n after before new
left_as lane n given after before mid new same keeps l = record {
  counted = λ k. ap length (same k) ∙ l.counted k;
  written = λ answer of. Appends-kept before mid new _ (l.written answer (λ k. sym (same k) ∙ of k)) keeps;
}

within : (order : List ℕ) (way : OnTheirWay) (old new : Option (List ℕ)) → Leaves order way old new → way.next ≤ length order
within order way old new l = let e = l.sent in omega (arith, e)

pub cut_nowhere : IsSomeLaw → (order : List ℕ) (way : OnTheirWay) (old new : Option (List ℕ)) → Leaves order way old new → IsCutOff order way old new
cut_nowhere law order way old new l = law (lane_by order) way.next (length order) (given_from way.all_answers.items) old new (within order way old new l) l.left

-- the output was handed on
pub handed_on : (order : List ℕ) (way : OnTheirWay) (before mid new : Option (List ℕ)) → Keeps mid new → Leaves order way before mid → Leaves order way before new
handed_on order way before mid new keeps l = record {
  sent = l.sent;
  lanes = l.lanes;
  left = left_as (lane_by order) way.next (given_from way.all_answers.items) (given_from way.all_answers.items) before mid new (λ k. refl) keeps l.left;
}

-- ---- the first of those on their way

module _ (a b : OnTheirWay) (k : ℕ) (e now : LaneAnswers) (below : k < length a.all_answers.items) (at : e ≡ get_or a.all_answers.items k e) (all : b.all_answers.items ≡ set a.all_answers.items k now) where
  -- its lane has not answered
  module _ (next : b.next ≡ a.next) (lanes : b.lanes.items ≡ a.lanes.items) (gives : Gives e now []) (some : IsSomeLaw) where
    given_same : (l : ℕ) → given_from b.all_answers.items l ≡ given_from a.all_answers.items l
    given_same l = ap (λ xs. given_from xs l) all ∙ given_none a.all_answers.items k e now below at gives l

    none_on : (old new : Option (List ℕ)) → Keeps old new → (order : List ℕ) (before : Option (List ℕ)) → Leaves order a before old → Leaves order b before new
    none_on old new keeps order before l = record {
      sent = l.sent ∙ sym (ap (λ n. n + length b.lanes.items) next ∙ ap (λ xs. a.next + length xs) lanes);
      lanes = lanes ∙ l.lanes ∙ ap (λ n. drop n order) (sym next);
      left = subst (λ n. HaveLeft (lane_by order) n (given_from b.all_answers.items) before new) (sym next)
          (left_as (lane_by order) a.next (given_from a.all_answers.items) (given_from b.all_answers.items) before old new given_same keeps l.left);
    }

    pub leaves_none : (old new : Option (List ℕ)) → Keeps old new → (whole : Type 0) → LeavesOn a b old new whole
    leaves_none old new keeps whole = record {
      on = λ is. none_on old new keeps;
      cut = λ order before l. cut_nowhere some order b before new (none_on old new keeps order before l);
      sent = ap (λ n. n + length b.lanes.items) next ∙ ap (λ xs. a.next + length xs) lanes;
      later = omega (arith, next);
      rings = subst (SameRings a.all_answers.items) (sym all) (rings_one a.all_answers.items k e now [] below at gives);
    }

  module _ (x : Answer) (gives : Gives e now (x ∷ [])) (some : 0 < length a.lanes.items) (first : k ≡ get_or a.lanes.items 0 k) where
    module _ (order : List ℕ) (old before : Option (List ℕ)) (l : Leaves order a before old) where
      lane_is : lane_by order a.next ≡ k
      lane_is =
          ap (λ n. get_or order n 0) (let z : a.next ≡ a.next + 0 = omega arith in z) ∙ sym (get_or-drop a.next order 0 0) ∙ ap (λ xs. get_or xs 0 0) (sym l.lanes) ∙ sym (first ∙ get_or_default a.lanes.items 0 k 0 some)

      here : given_from b.all_answers.items (lane_by order a.next) ≡ given_from a.all_answers.items (lane_by order a.next) ++ x ∷ []
      here =
          subst (λ i. given_from b.all_answers.items i ≡ given_from a.all_answers.items i ++ x ∷ []) (sym lane_is)
          (ap (λ xs. given_from xs k) all ∙ given_here a.all_answers.items k e now (x ∷ []) below at gives)

      others : (j : ℕ) → (j ≡ lane_by order a.next → ⊥) → given_from b.all_answers.items j ≡ given_from a.all_answers.items j
      others j other = ap (λ xs. given_from xs j) all ∙ given_other a.all_answers.items k e now (x ∷ []) below at gives j (λ is. other (is ∙ sym lane_is))

      -- it left whole
      pub left_whole : (new : Option (List ℕ)) → IsNextLaw → b.next ≡ a.next + 1 → b.lanes.items ≡ drop 1 a.lanes.items → Appends old new (bytes_out x) → Leaves order b before new
      left_whole new law next lanes wrote = record {
        sent = let s = l.sent in let d = ap length lanes ∙ length-drop 1 a.lanes.items in omega (arith, s, d, next, some);
        lanes = lanes ∙ ap (drop 1) l.lanes ∙ drop-drop 1 a.next order ∙ ap (λ n. drop n order) (sym next);
        left = subst (λ n. HaveLeft (lane_by order) n (given_from b.all_answers.items) before new) (sym next)
            (law (lane_by order) a.next (given_from a.all_answers.items) (given_from b.all_answers.items) x before old new l.left here others wrote);
      }

      -- it was cut off
      pub left_cut : (new : Option (List ℕ)) → IsCutLaw → AppendsFront old new (bytes_out x) → IsCutOff order b before new
      left_cut new law cut =
          law (lane_by order) a.next (length order) (given_from a.all_answers.items) (given_from b.all_answers.items) x before old new (let s = l.sent in omega (arith, s, some)) l.left here others cut

    rings_on : SameRings a.all_answers.items b.all_answers.items
    rings_on = subst (SameRings a.all_answers.items) (sym all) (rings_one a.all_answers.items k e now (x ∷ []) below at gives)

    pub leaves_whole : (old new : Option (List ℕ)) (whole : Type 0) → IsNextLaw → IsSomeLaw → b.next ≡ a.next + 1 → b.lanes.items ≡ drop 1 a.lanes.items → Appends old new (bytes_out x) → LeavesOn a b old new whole
    leaves_whole old new whole law any next lanes wrote = record {
      on = λ is order before l. left_whole order old before l new law next lanes wrote;
      cut = λ order before l. cut_nowhere any order b before new (left_whole order old before l new law next lanes wrote);
      sent = let d = ap length lanes ∙ length-drop 1 a.lanes.items in omega (arith, d, next, some);
      later = omega (arith, next);
      rings = rings_on;
    }

    pub leaves_cut : (old new : Option (List ℕ)) (whole : Type 0) → (whole → ⊥) → IsCutLaw → b.next ≡ a.next → b.lanes.items ≡ a.lanes.items → AppendsFront old new (bytes_out x) → LeavesOn a b old new whole
    leaves_cut old new whole not law next lanes cut = record {
      on = λ is. absurd (not is);
      cut = λ order before l. left_cut order old before l new law cut;
      sent = ap (λ n. n + length b.lanes.items) next ∙ ap (λ xs. a.next + length xs) lanes;
      later = omega (arith, next);
      rings = rings_on;
    }

-- ---- one after another

pub leaves_same : IsSomeLaw → (a : OnTheirWay) (old : Option (List ℕ)) (whole : Type 0) → LeavesOn a a old old whole
leaves_same some a old whole = record {
  on = λ is order before l. l;
  cut = λ order before l. cut_nowhere some order a before old l;
  sent = refl;
  later = omega arith;
  rings = same_rings a.all_answers.items;
}

pub leaves_then : (a b c : OnTheirWay) (old mid new : Option (List ℕ)) (all whole : Type 0) → all → LeavesOn a b old mid all → LeavesOn b c mid new whole → LeavesOn a c old new whole
leaves_then a b c old mid new all whole held p q = record {
  on = λ is order before l. q.on is order before (p.on held order before l);
  cut = λ order before l. q.cut order before (p.on held order before l);
  sent = q.sent ∙ p.sent;
  later = let x = p.later in let y = q.later in omega (arith, x, y);
  rings = rings_then a.all_answers.items b.all_answers.items c.all_answers.items p.rings q.rings;
}

pub leaves_less : (a b : OnTheirWay) (old new : Option (List ℕ)) (whole less : Type 0) → (less → whole) → LeavesOn a b old new whole → LeavesOn a b old new less
leaves_less a b old new whole less all p = record { on = λ is. p.on (all is); cut = p.cut; sent = p.sent; later = p.later; rings = p.rings }

module _ (a b c : OnTheirWay) (old mid new : Option (List ℕ)) (so_far : LeavesOn a b old mid ⊤) where
  -- more were written, and none was cut off
  pub leaves_well : {T E : Type 0} (value : T) (result : Result T E) (whole : Type 0) → result ≡ Ok value → LeavesOn b c mid new (IsOk result) → LeavesOn a c old new whole
  leaves_well value result whole is on =
      leaves_less a c old new (IsOk result) whole (λ held. subst IsOk (sym is) refl) (leaves_then a b c old mid new ⊤ (IsOk result) tt so_far on)

-- and the output is handed on
pub leaves_handed : IsSomeLaw → (a b : OnTheirWay) (old mid new : Option (List ℕ)) (all whole : Type 0) → all → LeavesOn a b old mid all → Keeps mid new → LeavesOn a b old new whole
leaves_handed some a b old mid new all whole held p keeps = record {
  on = λ is order before l. handed_on order b before mid new keeps (p.on held order before l);
  cut = λ order before l. cut_nowhere some order b before new (handed_on order b before mid new keeps (p.on held order before l));
  sent = p.sent;
  later = p.later;
  rings = p.rings;
}

-- ---- one packet more is sent

pub joined : IsLaterLaw → (order : List ℕ) (a b : OnTheirWay) (k : ℕ) (before now : Option (List ℕ)) → b.next ≡ a.next → b.lanes.items ≡ a.lanes.items ++ k ∷ []
    → b.all_answers.items ≡ a.all_answers.items → Leaves order a before now → Leaves (order ++ k ∷ []) b before now
joined later order a b k before now next lanes all l =
    let le = within order a before now l in
    record {
      sent =
          let s = l.sent in
          let x = length_push order k in
          let y = ap length lanes ∙ length_push a.lanes.items k in
          omega (arith, s, x, y, next);
      lanes = lanes ∙ ap (λ xs. xs ++ k ∷ []) l.lanes ∙ sym (drop-append-le a.next order (k ∷ []) le) ∙ ap (λ n. drop n (order ++ k ∷ [])) (sym next);
      left = subst (λ n. HaveLeft (lane_by (order ++ k ∷ [])) n (given_from b.all_answers.items) before now) (sym next)
          (subst (λ (xs : List LaneAnswers). HaveLeft (lane_by (order ++ k ∷ [])) a.next (given_from xs) before now) (sym all)
          (later (lane_by order) (lane_by (order ++ k ∷ [])) a.next (given_from a.all_answers.items) before now
          (λ i lt. get_or_append_left order (k ∷ []) 0 i (omega (arith, lt, le))) l.left));
    }
