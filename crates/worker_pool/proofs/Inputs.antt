-- Inputs, and what was sent to them.
use Rattle.std.proofs.Common.{◌≡◌, ◌≢◌, ℕ, zero, suc, ◌+◌, ◌<◌, Bool, true, false, ◌||◌, true≢false, refl, nat_lt, None, List, [], ◌∷◌, ◌++◌, length, get_or, set, sym, ap, subst, ◌∙◌, append_assoc, arith, ⊎_elim}
use Rattle.std.specs.Prelude.{◌==◌, if◌then◌else◌}
use Rattle.std.proofs.lemmas.List.{append-nil, get_or-set_same, get_or-set_other, length-set}
use Rattle.std.proofs.lemmas.List.Concat.{flat_map-append}
use Rattle.std.proofs.lemmas.List.Elements.{filter-append}
use Rattle.std.proofs.lemmas.List.Sums.{sum_by-set}
use Rattle.std.proofs.lemmas.Bool.{cases_eq, cases_lt, eq-eqb, ne_eqb, lt-ltb, le-ltb}
use Rattle.pcap_source.specs.Captured.{Captured}
use Rattle.forest_versions.specs.declared.command.Command.{Command}
use Rattle.control_script.specs.declared.stamped.Stamped.{Stamped}
use Rattle.control_script.specs.Order.{commands_of}
use Rattle.control_script.specs.Versions.{floor, ceil}
use Rattle.lane_rings.specs.declared.items.Packet.{Packet}
use Rattle.lane_rings.specs.declared.items.Batch.{Batch}
use Rattle.lane_rings.specs.declared.ring.RingTx.{RingTx}
use Rattle.lane_rings.specs.Batch.{packets_of, packets_in}
use Rattle.lane_rings.specs.Ring.{sent, SameTx}
use Rattle.lane_core.specs.declared.recorder.Recorder.{Ghosts}
use Rattle.lane_worker.specs.declared.worker.Worker.{Worker}
use Rattle.worker_pool.specs.declared.team.worker_place.WorkerPlace.TheVariants.{Inline}
use Rattle.worker_pool.specs.declared.team.lane_input.LaneInput.{LaneInput}
use Rattle.lane_worker.specs.Worked.{IsReady, Worked}
use Rattle.worker_pool.specs.Sent.{sent_as, packets_from, lane_of, dealt}
use Rattle.worker_pool.specs.Inputs.{IsInput, AreInputs, taken_inline, batches_taken}
use Rattle.lane_worker.proofs.Rings.{SameRx-refl}
use Rattle.lane_worker.proofs.Beside.{ends_after, none_left}
use Rattle.lane_worker.proofs.Composed.{worked_two}

-- ---- the packets of one frame more

packets-last : (script : List Stamped) (n : ℕ) (frames : List Captured) (frame : Captured)
    → packets_from script n (frames ++ frame ∷ []) ≡ packets_from script n frames ++ sent_as script (n + length frames) frame ∷ []
unfolding packets_from
packets-last script n [] frame = ap (λ k. sent_as script k frame ∷ []) (let same : n ≡ n + 0 = omega arith in same)
packets-last script n (first ∷ frames) frame =
    let count : (n + 1) + length frames ≡ n + length (first ∷ frames) = omega arith in
    ap (λ l. sent_as script n first ∷ l) (packets-last script (n + 1) frames frame ∙ ap (λ k. packets_from script (n + 1) frames ++ sent_as script k frame ∷ []) count)

module _ (script : List Stamped) (lanes : ℕ) (frames : List Captured) (frame : Captured) (number : ℕ) (count : length frames ≡ number) where
  dealt-parts : (l : ℕ) → dealt lanes l (packets_from script 0 (frames ++ frame ∷ [])) ≡ dealt lanes l (packets_from script 0 frames) ++ dealt lanes l (sent_as script number frame ∷ [])
  dealt-parts l =
      ap (dealt lanes l) (packets-last script 0 frames frame
      ∙ ap (λ k. packets_from script 0 frames ++ sent_as script k frame ∷ []) (let same : 0 + length frames ≡ number = omega (arith, count) in same))
      ∙ filter-append (λ p. lane_of lanes p == l) (packets_from script 0 frames) (sent_as script number frame ∷ [])

  -- its own lane has one more
  pub dealt_own : (l : ℕ) → lane_of lanes (sent_as script number frame) ≡ l
      → dealt lanes l (packets_from script 0 (frames ++ frame ∷ [])) ≡ dealt lanes l (packets_from script 0 frames) ++ sent_as script number frame ∷ []
  dealt_own l own =
      dealt-parts l
      ∙ ap (λ b. dealt lanes l (packets_from script 0 frames) ++ (if b then sent_as script number frame ∷ [] else [])) (eq-eqb (lane_of lanes (sent_as script number frame)) l own)

  -- any other has the same
  pub dealt_other : (l : ℕ) → lane_of lanes (sent_as script number frame) ≢ l → dealt lanes l (packets_from script 0 (frames ++ frame ∷ [])) ≡ dealt lanes l (packets_from script 0 frames)
  dealt_other l other =
      dealt-parts l
      ∙ ap (λ b. dealt lanes l (packets_from script 0 frames) ++ (if b then sent_as script number frame ∷ [] else [])) (ne_eqb (lane_of lanes (sent_as script number frame)) l other)
      ∙ append-nil (dealt lanes l (packets_from script 0 frames))

-- a packet with the floor and the ceiling of its number
pub as_sent : (script : List Stamped) (n low high : ℕ) (frame : Captured) → low ≡ floor script n → high ≡ ceil script n
    → record { index = n; floor = low; ceil = high; frame = frame } ≡ sent_as script n frame
as_sent script n low high frame floor_is ceil_is =
    let made : ℕ → ℕ → Packet = λ f h. record { index = n; floor = f; ceil = h; frame = frame } in
    ap (λ f. made f high) floor_is ∙ ap (made (floor script n)) ceil_is

-- ---- one input

module _ {L : Type 0} (g : Ghosts L) (script : List Command) (begin : Worker L) (packets : List Packet) where
  -- a batch was sent, where no packet was unsent
  pub sent_on : (input : LaneInput L) (tx : RingTx Batch) (batch : Batch) → SameTx input.packets tx → sent tx ≡ sent input.packets ++ batch ∷ [] → input.unsent ≡ [] → IsInput g script begin packets input
      → IsInput g script begin (packets ++ packets_of batch) (record input { packets = tx })
  sent_on input tx batch same gives none p =
      let before : packets_in (sent input.packets) ≡ packets = sym (append-nil (packets_in (sent input.packets))) ∙ ap (λ l. packets_in (sent input.packets) ++ l) (sym none) ∙ p.sent_are in
      record {
        lawful = p.lawful;
        ends = ends_after input.packets tx begin.packets begin.packets p.ends same (SameRx-refl begin.packets);
        sent_are = ap (λ l. packets_in (sent tx) ++ l) none ∙ append-nil (packets_in (sent tx)) ∙ ap packets_in gives ∙ flat_map-append packets_of (sent input.packets) (batch ∷ [])
            ∙ ap (λ l. l ++ packets_in (batch ∷ [])) before ∙ ap (λ l. packets ++ l) (append-nil (packets_of batch));
        placed = p.placed;
      }

  -- a packet joined those that are unsent
  pub opened_on : (input : LaneInput L) (rest more : List Packet) → rest ≡ input.unsent ++ more → IsInput g script begin packets input → IsInput g script begin (packets ++ more) (record input { unsent = rest })
  opened_on input rest more gives p = record {
    lawful = p.lawful;
    ends = p.ends;
    sent_are = ap (λ l. packets_in (sent input.packets) ++ l) gives ∙ sym (append_assoc (packets_in (sent input.packets)) input.unsent more) ∙ ap (λ l. l ++ more) p.sent_are;
    placed = p.placed;
  }

  -- those that are unsent were taken out
  pub closed : (input : LaneInput L) (rest : List Packet) → rest ≡ [] → IsInput g script begin packets input → IsInput g script begin (packets_in (sent input.packets)) (record input { unsent = rest })
  closed input rest none p = record {
    lawful = p.lawful;
    ends = p.ends;
    sent_are = ap (λ l. packets_in (sent input.packets) ++ l) none ∙ append-nil (packets_in (sent input.packets));
    placed = p.placed;
  }

  -- those that are unsent are the same
  pub same_unsent : (input : LaneInput L) (rest : List Packet) → rest ≡ input.unsent → IsInput g script begin packets input → IsInput g script begin packets (record input { unsent = rest })
  same_unsent input rest same p = record {
    lawful = p.lawful;
    ends = p.ends;
    sent_are = ap (λ l. packets_in (sent input.packets) ++ l) same ∙ p.sent_are;
    placed = p.placed;
  }

  -- nothing was sent
  pub sent_none : (input : LaneInput L) (tx : RingTx Batch) → SameTx input.packets tx → sent tx ≡ sent input.packets → IsInput g script begin packets input
      → IsInput g script begin packets (record input { packets = tx })
  sent_none input tx same gives p = record {
    lawful = p.lawful;
    ends = ends_after input.packets tx begin.packets begin.packets p.ends same (SameRx-refl begin.packets);
    sent_are = ap (λ l. packets_in l ++ input.unsent) gives ∙ p.sent_are;
    placed = p.placed;
  }

  -- a worker that is in this thread worked on
  pub inline_worked : (tx : RingTx Batch) (rest : List Packet) (a b : Worker L) → IsInput g script begin packets (record { packets = tx; unsent = rest; place = Inline a }) → Worked g script a b
      → (g.failed b.lane ≡ None → IsReady g script b.lane b.commands)
      → IsInput g script begin packets (record { packets = tx; unsent = rest; place = Inline b })
  inline_worked tx rest a b p worked ready = record {
    lawful = p.lawful;
    ends = p.ends;
    sent_are = p.sent_are;
    placed = record { worked = worked_two g script begin a b p.placed.worked worked; ready = ready };
  }

-- ---- all inputs

module _ {L : Type 0} (g : Ghosts L) (script : List Stamped) where
  -- each of them is an input
  pub input_of : (begins : List (Worker L)) (frames : List Captured) (inputs : List (LaneInput L)) (k : ℕ) (d : LaneInput L) → AreInputs g script begins frames inputs → k < length inputs
      → (begin : Worker L) × (packets : List Packet) × IsInput g (commands_of script) begin packets (get_or inputs k d)
  input_of [] frames inputs k d are below = let none = are.count in absurd (omega (arith, none, below))
  input_of (b ∷ begins) frames inputs k d are below = (get_or (b ∷ begins) k b, dealt (length inputs) k (packets_from script 0 frames), are.each k b d below)

  module _ (begins : List (Worker L)) (frames : List Captured) (frame : Captured) (number : ℕ) (count : length frames ≡ number) (inputs : List (LaneInput L))
      (are : AreInputs g script begins frames inputs) where
    abbrev IsAt : ℕ → List Captured → ℕ → Worker L → LaneInput L → Type 0
    IsAt lanes fs k w p = IsInput g (commands_of script) (get_or begins k w) (dealt lanes k (packets_from script 0 fs)) p

    -- one was sent the packet of one frame more
    pub was_sent : (lane : ℕ) (d input : LaneInput L) → lane ≡ lane_of (length inputs) (sent_as script number frame) → lane < length inputs
        → ((begin : Worker L) (packets : List Packet) → IsInput g (commands_of script) begin packets (get_or inputs lane d)
        → IsInput g (commands_of script) begin (packets ++ sent_as script number frame ∷ []) input)
        → AreInputs g script begins (frames ++ frame ∷ []) (set inputs lane input)
    was_sent lane d input own within sends = record {
      count = are.count ∙ sym same;
      each = λ k w p below. subst (λ n. IsAt n (frames ++ frame ∷ []) k w (get_or (set inputs lane input) k p)) (sym same)
          (⊎_elim (here k w p) (elsewhere k w p (subst (λ n. k < n) same below)) (cases_eq lane k));
    }
      where
        same : length (set inputs lane input) ≡ length inputs
        same = length-set inputs lane input

        here : (k : ℕ) (w : Worker L) (p : LaneInput L) → lane ≡ k → IsAt (length inputs) (frames ++ frame ∷ []) k w (get_or (set inputs lane input) k p)
        here k w p is = subst (λ j. IsAt (length inputs) (frames ++ frame ∷ []) j w (get_or (set inputs lane input) j p)) is
            (subst (λ (q : LaneInput L). IsAt (length inputs) (frames ++ frame ∷ []) lane w q) (sym (get_or-set_same inputs lane input p within))
            (subst (λ l. IsInput g (commands_of script) (get_or begins lane w) l input) (sym (dealt_own script (length inputs) frames frame number count lane (sym own)))
            (sends (get_or begins lane w) (dealt (length inputs) lane (packets_from script 0 frames)) (are.each lane w d within))))

        elsewhere : (k : ℕ) (w : Worker L) (p : LaneInput L) → k < length inputs → lane ≢ k → IsAt (length inputs) (frames ++ frame ∷ []) k w (get_or (set inputs lane input) k p)
        elsewhere k w p below other = subst (λ (q : LaneInput L). IsAt (length inputs) (frames ++ frame ∷ []) k w q) (sym (get_or-set_other inputs lane k input p (λ is. other (sym is))))
            (subst (λ l. IsInput g (commands_of script) (get_or begins k w) l (get_or inputs k p)) (sym (dealt_other script (length inputs) frames frame number count k (λ is. other (own ∙ is))))
            (are.each k w p below))

-- ---- inputs to which nothing is sent

pub same_inputs : {L : Type 0} (g : Ghosts L) (script : List Stamped) (begins : List (Worker L)) (frames : List Captured) (inputs : List (LaneInput L)) (lane : ℕ) (d input : LaneInput L)
    → lane < length inputs → d ≡ get_or inputs lane d
    → ((begin : Worker L) (packets : List Packet) → IsInput g (commands_of script) begin packets d → IsInput g (commands_of script) begin packets input)
    → AreInputs g script begins frames inputs → AreInputs g script begins frames (set inputs lane input)
same_inputs {L} g script begins frames inputs lane d input below at still are = record {
  count = are.count ∙ sym (length-set inputs lane input);
  each = λ k w p lt.
      subst (λ n. IsInput g (commands_of script) (get_or begins k w) (dealt n k (packets_from script 0 frames)) (get_or (set inputs lane input) k p)) (sym (length-set inputs lane input))
      (⊎_elim
      (λ is. subst (λ j. IsInput g (commands_of script) (get_or begins j w) (dealt (length inputs) j (packets_from script 0 frames)) (get_or (set inputs lane input) j p)) is
      (subst (λ (q : LaneInput L). IsInput g (commands_of script) (get_or begins lane w) (dealt (length inputs) lane (packets_from script 0 frames)) q)
      (sym (get_or-set_same inputs lane input p below))
      (still (get_or begins lane w) (dealt (length inputs) lane (packets_from script 0 frames))
      (subst (λ (q : LaneInput L). IsInput g (commands_of script) (get_or begins lane w) (dealt (length inputs) lane (packets_from script 0 frames)) q) (sym at) (are.each lane w d below)))))
      (λ not. subst (λ (q : LaneInput L). IsInput g (commands_of script) (get_or begins k w) (dealt (length inputs) k (packets_from script 0 frames)) q)
      (sym (get_or-set_other inputs lane k input p (λ is. not (sym is))))
      (are.each k w p (let e = length-set inputs lane input in omega (arith, e, lt))))
      (cases_eq lane k));
}

-- one that is looked at is an input
pub looked_at : {L : Type 0} (g : Ghosts L) (script : List Stamped) (begins : List (Worker L)) (frames : List Captured) (inputs : List (LaneInput L)) (lane : ℕ) (d : LaneInput L)
    → d ≡ get_or inputs lane d → lane < length inputs
    → AreInputs g script begins frames inputs → (begin : Worker L) × (packets : List Packet) × IsInput g (commands_of script) begin packets d
looked_at {L} g script begins frames inputs lane d at below are =
    let p = input_of g script begins frames inputs lane d are below in
    (p.0, p.1, subst (λ (q : LaneInput L). IsInput g (commands_of script) p.0 p.1 q) (sym at) p.2)

-- neither of two
pub neither : (a b : Bool) → (a || b) ≡ false → (a ≡ false) × (b ≡ false)
neither true b is = absurd (true≢false is)
neither false b is = (refl, is)

-- one worker more took its turn: what all took is more by what it took
pub one_more_turn : {L : Type 0} (inputs : List (LaneInput L)) (lane : ℕ) (d input : LaneInput L) (more : ℕ) → lane < length inputs → d ≡ get_or inputs lane d
    → taken_inline input.place ≡ taken_inline d.place + more → batches_taken (set inputs lane input) ≡ batches_taken inputs + more
one_more_turn {L} inputs lane d input more below at took =
    let sums = sum_by-set (λ (q : LaneInput L). taken_inline q.place) inputs lane input d below in
    let here : taken_inline d.place ≡ taken_inline (get_or inputs lane d).place = ap (λ (q : LaneInput L). taken_inline q.place) at in
    omega (arith, sums, here, took)

-- whether one took a batch, after one turn more
pub turned : (before now later : ℕ) (took more : Bool) → later ≡ now + (if more then 1 else 0)
    → (took ≡ true → before < now) → (took ≡ false → now ≡ before)
    → ((took || more) ≡ true → before < later) × ((took || more) ≡ false → later ≡ before)
turned before now later true more step some none = (λ _. let was = some refl in omega (arith, was, step), λ is. absurd (true≢false is))
turned before now later false true step some none = (λ _. let was = none refl in omega (arith, was, step), λ is. absurd (true≢false is))
turned before now later false false step some none = (λ is. absurd (true≢false (sym is)), λ _. let was = none refl in omega (arith, was, step))

-- what holds of the inputs of the first lanes holds of one lane more
pub one_more : {L : Type 0} (Holds : LaneInput L → Type 0) (inputs : List (LaneInput L)) (lane : ℕ) (input : LaneInput L) → lane < length inputs → Holds input
    → ((k : ℕ) (p : LaneInput L) → k < lane → Holds (get_or inputs k p))
    → (k : ℕ) (p : LaneInput L) → k < lane + 1 → Holds (get_or (set inputs lane input) k p)
one_more {L} Holds inputs lane input below holds before k p lt =
    ⊎_elim
    (λ earlier. subst Holds (sym (get_or-set_other inputs lane k input p (λ is. absurd (omega (arith, is, earlier))))) (before k p earlier))
    (λ past.
    let here : lane ≡ k = omega (arith, past, lt) in
    subst (λ j. Holds (get_or (set inputs lane input) j p)) here (subst Holds (sym (get_or-set_same inputs lane input p below)) holds))
    (cases_lt k lane)

-- what was sent where there was something to send, and else left as it was, has nothing left to be sent
pub sent_if_due : {L : Type 0} (n : ℕ) (seen old new : LaneInput L) → n ≡ length seen.unsent → seen ≡ old → (nat_lt 0 n ≡ true → new.unsent ≡ []) → (nat_lt 0 n ≡ false → new ≡ old)
    → new.unsent ≡ []
sent_if_due {L} zero seen old new count same due early =
    ap (λ (q : LaneInput L). q.unsent) (early (le-ltb 0 0 (omega arith)) ∙ sym same) ∙ none_left seen.unsent (sym count)
sent_if_due {L} (suc n) seen old new count same due early = due (lt-ltb 0 (suc n) (omega arith))
