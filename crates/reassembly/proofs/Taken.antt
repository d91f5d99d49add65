-- The cells after bytes were taken between next and the limit.
use Rattle.std.proofs.Common.{◌≡◌, ℕ, ◌+◌, ◌-◌, ◌<◌, ◌≤◌, suc, zero, max, ◌∷◌, true≢false, Bool, true, false, cond, not, ◌&&◌, ◌||◌, refl, ap, ap₂, sym, ◌∙◌, arith, List, [], Some, None, is_some, length, leb, ltb, le-ltb, lt-ltb, ltb-true, leb-true, ⊎_elim, slice_index, eqb}
use Rattle.std.proofs.lemmas.Bool.{or_cases, or_parts, and_parts, cases_Bool}
use Rattle.reassembly.specs.declared.answers.Policy.{Policy}
use Rattle.reassembly.specs.declared.laying.Judged.{Judged}
use Rattle.reassembly.specs.declared.pages.Pages.{Pages}
use Rattle.reassembly.specs.declared.runs.Run.{Run}
use Rattle.reassembly.specs.declared.window.Window.{Window}
use Rattle.reassembly.specs.Runs.{run_at, is_accepted, is_covered}
use Rattle.reassembly.specs.Segment.{is_last, has_byte}
use Rattle.reassembly.specs.Pages.{byte_of, IsGrown, IsSamePlace, IsReady, IsHeld, AreLaid, tally_in}
use Rattle.reassembly.specs.Window.{last_end, end_of, byte_at, IsLaid, taken_tally, AreTaken}
use Rattle.reassembly.specs.Waiting.{runs_of, IsMet}
use Rattle.reassembly.proofs.Counts.{count_below-same, count_below-le, count_below-all, count_below-none}
use Rattle.reassembly.proofs.Laid.{tally_is}
use Rattle.reassembly.proofs.Covered.{covering, covered_by, uncovered}

pub last_end_from : (end : ℕ) (runs : List Run) → end ≤ last_end end runs
last_end_from end [] = omega arith
last_end_from end (run ∷ runs) = let l : max end run.end ≤ last_end (max end run.end) runs = last_end_from (max end run.end) runs in omega arith

pub last_end_each : (end : ℕ) (runs : List Run) (k : ℕ) → k < length runs → (run_at runs k).end ≤ last_end end runs
last_end_each end [] k l = absurd (omega arith)
last_end_each end (run ∷ runs) zero l = let m : max end run.end ≤ last_end (max end run.end) runs = last_end_from (max end run.end) runs in omega arith
last_end_each end (run ∷ runs) (suc k) l = last_end_each (max end run.end) runs k (omega arith)

-- every accepted position lies below the end
pub accepted_within : (w : Window) (p : ℕ) → is_accepted w.next (runs_of w.runs) p ≡ true → p < end_of w
accepted_within w p e = ⊎_elim
    (λ (t : ltb p w.next ≡ true). let l : p < w.next = ltb-true p w.next t in let f : w.next ≤ end_of w = last_end_from w.next (runs_of w.runs) in omega arith)
    (λ (t : is_covered (runs_of w.runs) p ≡ true).
    let h = covering (runs_of w.runs) p t in
    let below : p < (run_at (runs_of w.runs) h.at).end = h.below in
    let end : (run_at (runs_of w.runs) h.at).end ≤ end_of w = last_end_each w.next (runs_of w.runs) h.at h.within in
    omega arith)
    (or_cases (ltb p w.next) (is_covered (runs_of w.runs) p) e)

-- at next or above it only the runs count
pub accepted_from_next : (next : ℕ) (runs : List Run) (p : ℕ) → next ≤ p → is_accepted next runs p ≡ is_covered runs p
accepted_from_next next runs p l = let e : ltb p next ≡ false = le-ltb p next l in rw e refl

pub covered_of_accepted : (next : ℕ) (runs : List Run) (p : ℕ) → is_accepted next runs p ≡ false → is_covered runs p ≡ false
covered_of_accepted next runs p e = (or_parts (ltb p next) (is_covered runs p) e).1

pub accepted_below : (next : ℕ) (runs : List Run) (p : ℕ) → p < next → is_accepted next runs p ≡ true
accepted_below next runs p l = let e : ltb p next ≡ true = lt-ltb p next l in rw e refl

-- the new cell: acc and covered tell whether the old one is accepted, and whether a run has it; here, whether a byte stands there
pub taken_is : (acc covered here last : Bool) (byte old mid : ℕ) → (here ≡ true → acc ≡ covered) → (acc ≡ false → covered ≡ false) → (acc ≡ true → mid ≡ old)
    → cond (acc || here) (Some (cond (here && not (covered && not last)) byte mid)) None ≡ cond (here && not (is_some (cond acc (Some old) None) && not last)) (Some byte) (cond acc (Some old) None)
taken_is true true true true byte old mid f g h = refl
taken_is true true true false byte old mid f g h = ap Some (h refl)
taken_is true true false last byte old mid f g h = ap Some (h refl)
taken_is true false true last byte old mid f g h = absurd (cc (f refl))
taken_is true false false last byte old mid f g h = ap Some (h refl)
taken_is false true here last byte old mid f g h = absurd (cc (g refl))
taken_is false false true last byte old mid f g h = refl
taken_is false false false last byte old mid f g h = refl

-- the runs that a segment meets cover what all of them cover, as far as it reaches
pub met_covered : (runs met : List Run) (low high p : ℕ) → IsMet runs low high met → low ≤ p → p < high → is_covered met p ≡ is_covered runs p
met_covered runs met low high p h from below = ⊎_elim
    (λ (t : is_covered runs p ≡ true).
    let has = covering runs p t in
    let start : (run_at runs has.at).start ≤ p = has.from in
    let end : p < (run_at runs has.at).end = has.below in
    let item = h.all (run_at runs has.at) (record { at = has.at; within = has.within; is = refl }) (record { from = omega arith; to = omega arith }) in
    covered_by met item.at p item.within (rw item.is start) (rw item.is end) ∙ sym t)
    (λ (f : is_covered runs p ≡ false).
    uncovered met p (λ has.
    let item = (h.only (run_at met has.at) (record { at = has.at; within = has.within; is = refl })).0 in
    true≢false (sym (covered_by runs item.at p item.within (rw item.is has.from) (rw item.is has.below)) ∙ f)) ∙ sym f)
    (cases_Bool (is_covered runs p))

-- the buffer of a window before, with memory, and after bytes were laid, and after their positions were accepted
pub record IsTaken (old : Window) (ready : Pages) (met : List Run) (new : Window) (low : ℕ) (bytes : List ℕ) (policy : Policy) : Type 0 where
  pub grown : IsGrown old.bytes ready
  pub place : IsSamePlace ready new.bytes
  pub touching : IsMet (runs_of old.runs) low (low + length bytes) met
  pub laid : AreLaid ready new.bytes met low policy bytes
  pub accepted : (p : ℕ) → is_accepted new.next (runs_of new.runs) p ≡ (is_accepted old.next (runs_of old.runs) p || (leb low p && ltb p (low + length bytes)))

-- a choice that is made where a byte stands alone
only_here : (here a b last : Bool) (x y : ℕ) → (here ≡ true → a ≡ b) → cond (here && not (a && not last)) x y ≡ cond (here && not (b && not last)) x y
only_here true a b last x y h = ap (λ c. cond (not (c && not last)) x y) (h refl)
only_here false a b last x y h = refl

pub cells_taken : (old : Window) (ready : Pages) (met : List Run) (new : Window) (low : ℕ) (bytes : List ℕ) (policy : Policy) → IsLaid old → old.next ≤ low → IsTaken old ready met new low bytes policy
    → AreTaken policy low bytes old new
cells_taken old ready met new low bytes policy is_laid from t p reach =
    let here : Bool = has_byte low bytes p in
    let acc : Bool = is_accepted old.next (runs_of old.runs) p in
    let covered : Bool = is_covered (runs_of old.runs) p in
    let seg : ℕ = slice_index bytes (p - low) in
    let byte : byte_at new p ≡ cond (here && not (covered && not (is_last policy))) seg (byte_at old p)
    = t.laid p (rw t.grown.base reach)
    ∙ only_here here (is_covered met p) covered (is_last policy) seg (byte_of ready p) (λ e.
    let both = and_parts (leb low p) (ltb p (low + length bytes)) e in
    met_covered (runs_of old.runs) met low (low + length bytes) p t.touching (leb-true low p both.0) (ltb-true p (low + length bytes) both.1))
    ∙ ap (λ x. cond (here && not (covered && not (is_last policy))) seg x) (t.grown.bytes p) in
    ap₂ (λ b x. cond b (Some x) None) (t.accepted p) byte
    ∙ taken_is acc covered here (is_last policy) seg (byte_at old p) (byte_at old p)
    (λ e. let l : low ≤ p = leb-true low p (and_parts (leb low p) (ltb p (low + length bytes)) e).0 in accepted_from_next old.next (runs_of old.runs) p (omega arith))
    (covered_of_accepted old.next (runs_of old.runs) p)
    (λ e. refl)

-- what is accepted is held
pub held_taken : (old : Window) (ready : Pages) (met : List Run) (new : Window) (low : ℕ) (bytes : List ℕ) (policy : Policy) → IsLaid old
    → IsReady ready low (low + length bytes) → IsTaken old ready met new low bytes policy
    → (p : ℕ) → new.bytes.base ≤ p → is_accepted new.next (runs_of new.runs) p ≡ true → IsHeld new.bytes p
held_taken old ready met new low bytes policy is_laid is_ready t p reach e = t.place.held p (⊎_elim
    (λ (was : is_accepted old.next (runs_of old.runs) p ≡ true). t.grown.held p (is_laid.held p (rw (t.place.base ∙ t.grown.base) at reach) was))
    (λ (now : has_byte low bytes p ≡ true).
    let both = and_parts (leb low p) (ltb p (low + length bytes)) now in
    is_ready p (leb-true low p both.0) (ltb-true p (low + length bytes) both.1))
    (or_cases (is_accepted old.next (runs_of old.runs) p) (has_byte low bytes p) (sym (t.accepted p) ∙ e)))

pub tally_taken : (old : Window) (ready : Pages) (met : List Run) (low : ℕ) (bytes : List ℕ) → IsGrown old.bytes ready → IsMet (runs_of old.runs) low (low + length bytes) met
    → tally_in ready met low bytes (length bytes) ≡ taken_tally old low bytes
tally_taken old ready met low bytes grown is_met =
    let runs : List Run = runs_of old.runs in
    let same : (i : ℕ) → i < length bytes → is_covered met (low + i) ≡ is_covered runs (low + i) = λ i l. met_covered runs met low (low + length bytes) (low + i) is_met (omega arith) (omega arith) in
    tally_is (tally_in ready met low bytes (length bytes)) (taken_tally old low bytes)
    (count_below-same (λ i. not (is_covered met (low + i))) (λ i. not (is_covered runs (low + i))) (length bytes) (λ i l. ap not (same i l)))
    (count_below-same (λ i. is_covered met (low + i)) (λ i. is_covered runs (low + i)) (length bytes) same)
    (count_below-same
    (λ i. is_covered met (low + i) && not (eqb (byte_of ready (low + i)) (slice_index bytes i)))
    (λ i. is_covered runs (low + i) && not (eqb (byte_at old (low + i)) (slice_index bytes i)))
    (length bytes)
    (λ i l. ap₂ (λ b x. b && not (eqb x (slice_index bytes i))) (same i l) (grown.bytes (low + i))))

-- where no run waits, all are new
pub tally_alone : (w : Window) (low : ℕ) (bytes : List ℕ) → runs_of w.runs ≡ [] → record { new = length bytes; old = 0; differ = 0 } ≡ taken_tally w low bytes
tally_alone w low bytes none =
    let all_new : Judged = record { new = length bytes; old = 0; differ = 0 } in
    let bare : (i : ℕ) → is_covered (runs_of w.runs) (low + i) ≡ false = λ i. ap (λ (runs : List Run). is_covered runs (low + i)) none in
    tally_is all_new (taken_tally w low bytes)
    (sym (count_below-all (λ i. not (is_covered (runs_of w.runs) (low + i))) (length bytes) (λ i l. ap not (bare i))))
    (sym (count_below-none (λ i. is_covered (runs_of w.runs) (low + i)) (length bytes) (λ i l. bare i)))
    (sym (count_below-none (λ i. is_covered (runs_of w.runs) (low + i) && not (eqb (byte_at w (low + i)) (slice_index bytes i))) (length bytes)
    (λ i l. ap (λ b. b && not (eqb (byte_at w (low + i)) (slice_index bytes i))) (bare i))))

pub taken_few : (w : Window) (low : ℕ) (bytes : List ℕ) (t : Judged) → t ≡ taken_tally w low bytes → (t.old ≤ length bytes) × (t.differ ≤ length bytes)
taken_few w low bytes t e = (
  rw (ap (λ (x : Judged). x.old) e) (count_below-le (λ i. is_covered (runs_of w.runs) (low + i)) (length bytes)),
  rw (ap (λ (x : Judged). x.differ) e) (count_below-le (λ i. is_covered (runs_of w.runs) (low + i) && not (eqb (byte_at w (low + i)) (slice_index bytes i))) (length bytes)),
)
