-- A capture whose packets are dealt to the lanes: one packet more, and where it stops.
use Rattle.std.proofs.Common.{◌≡◌, ℕ, ◌+◌, ◌≤◌, Option, Some, None, List, [], ◌∷◌, ◌++◌, length, get_or, set, ◌<◌, Ok, Err, refl, sym, ap, subst, ◌∙◌, inl, inr, arith, append_assoc, append-nil, length-append}
use Rattle.std.specs.Prelude.{◌⊎◌, IsTrue}
use Rattle.mos_bytes.specs.Reads.{BeginsWith}
use Rattle.pcap_source.specs.Captured.{Captured}
use Rattle.pcap_source.specs.Capture.{with_frame}
use Rattle.pcap_source.specs.InPlace.{IsPassed, left_behind}
use Rattle.pcap_source.specs.Reading.{CaptureState, Moves, NextGives, frames_at}
use Rattle.pcap_source.specs.declared.capture.Step.TheVariants.{Frame}
use Rattle.pcap_source.specs.declared.errors.NextError.{NextError}
use Rattle.pcap_source.specs.declared.errors.NextError.TheVariants.{ReadFault, NoMemory}
use Rattle.control_script.specs.declared.stamped.Stamped.{Stamped}
use Rattle.control_script.specs.Order.{commands_of}
use Rattle.lane_rings.specs.declared.items.Packet.{Packet}
use Rattle.lane_core.specs.declared.recorder.Recorder.{Ghosts}
use Rattle.lane_core.specs.Sight.{arrivals}
use Rattle.lane_worker.specs.declared.worker.Worker.{Worker}
use Rattle.run_outcome.specs.Greatest.{greatest}
use Rattle.worker_pool.specs.declared.team.lane_input.LaneInput.{LaneInput}
use Rattle.worker_pool.specs.declared.team.progress.Progress.{Progress}
use Rattle.worker_pool.specs.GoesOn.{IsReadTo, behind}
use Rattle.worker_pool.specs.Inputs.{IsInput, AreInputs, Dealt, ReadsAs}
use Rattle.worker_pool.specs.Sent.{sent_as, lane_of}
use Rattle.worker_pool.specs.Onward.{DealState, deal_at, Deals, DealsOn, DealsSome, MayDeal, WereDealt}
use Rattle.worker_pool.proofs.Inputs.{was_sent}
use Rattle.worker_pool.proofs.Walking.{passed_behind}

-- ---- what is read

-- a step of a capture in what is left
abbrev pub StepsOn : CaptureState → CaptureState → Captured → Option (List ℕ) → Option (List ℕ) → Type 0
StepsOn old new frame before after = (rest : List ℕ) → before ≡ Some rest → (others : List ℕ) × (after ≡ Some others) × (frames_at old rest ≡ with_frame frame (frames_at new others))

pub steps_by_next : (old new : CaptureState) (frame : Captured) (before after : Option (List ℕ)) → NextGives old new before after frame (Ok Frame) → StepsOn old new frame before after
steps_by_next old new frame None after gives rest told = absurd (cc)
steps_by_next old new frame (Some b) None gives rest told = absurd gives
steps_by_next old new frame (Some b) (Some a) gives rest told =
    let same : b ≡ rest = cc in
    (a, refl, subst (λ r. frames_at old r ≡ with_frame frame (frames_at new a)) same gives)

read_on : (start : CaptureState) (bytes : List ℕ) (frames : List Captured) (old new : CaptureState) (frame : Captured) (before after : Option (List ℕ)) → StepsOn old new frame before after
    → IsReadTo start bytes frames old before → IsReadTo start bytes (frames ++ frame ∷ []) new after
read_on start bytes frames old new frame before after steps r =
    let on = steps r.rest r.told in
    let others = frames_at new on.0 in
    record {
      rest = on.0;
      told = on.1;
      holds = r.holds ∙ ap (behind frames) on.2 ∙ ap (λ l. record { frames = l; ending = others.ending }) (sym (append_assoc frames (frame ∷ []) others.frames));
    }

-- where memory is refused or the source fails, nothing is told of what was read
pub reads_some : (frames : List Captured) (capture : CaptureState) (old new : Option (List ℕ)) (e : NextError) → (e ≡ ReadFault) ⊎ (e ≡ NoMemory)
    → ReadsAs frames capture old new (Err e)
reads_some frames capture old new e (inl fault) = subst (λ x. ReadsAs frames capture old new (Err x)) (sym fault) tt
reads_some frames capture old new e (inr memory) = subst (λ x. ReadsAs frames capture old new (Err x)) (sym memory) tt

module _ {L : Type 0} (g : Ghosts L) (script : List Stamped) where
  -- ---- one input

  -- a packet was given to one: that of a frame
  pub frame_dealt : (packet : Packet) (inputs : List (LaneInput L)) (lane : ℕ) (d input : LaneInput L) → lane ≡ lane_of (length inputs) packet → lane < length inputs → d ≡ get_or inputs lane d
      → ((begin : Worker L) (packets : List Packet) → IsInput g (commands_of script) begin packets d → IsInput g (commands_of script) begin (packets ++ packet ∷ []) input)
      → (frame : Captured) → packet ≡ sent_as script packet.index frame → Deals g script packet.index (frame ∷ []) inputs (set inputs lane input)
  frame_dealt packet inputs lane d input own below at given frame is begins frames count are =
      was_sent g script begins frames frame packet.index count inputs are lane d input (own ∙ ap (lane_of (length inputs)) is) below
      (λ begin packets p. subst (λ (q : Packet). IsInput g (commands_of script) begin (packets ++ q ∷ []) input) is
      (given begin packets (subst (λ (i : LaneInput L). IsInput g (commands_of script) begin packets i) (sym at) p)))

module _ {L : Type 0} {g : Ghosts L} {script : List Stamped} where
  -- ---- it goes on

  were_dealt : {packets : ℕ} {old new : List (LaneInput L)} (frames : List Captured) → Deals g script packets frames old new → WereDealt g script packets old → WereDealt g script (packets + length frames) new
  were_dealt {packets} frames deals was = record {
    begins = was.begins;
    frames = was.frames ++ frames;
    count = length-append was.frames frames ∙ ap (λ n. n + length frames) was.count;
    inputs_are = deals was.begins was.frames was.count was.inputs_are;
  }

  pub deals_none : (a : DealState L) → MayDeal g script a.inputs a.capture a.so_far → DealsOn g script a a
  deals_none a may = record {
    frames = [];
    may = may;
    count = omega arith;
    dealt = λ begins frames count are. subst (λ fs. AreInputs g script begins fs a.inputs) (sym (append-nil frames)) are;
    last = λ before is. is ∙ ap (λ fs. greatest (arrivals 0 fs)) (sym (append-nil before));
    read = λ start bytes before r. subst (λ fs. IsReadTo start bytes fs a.capture a.left) (sym (append-nil before)) r;
  }

  pub deals_both : (a b c : DealState L) → DealsOn g script a b → DealsOn g script b c → DealsOn g script a c
  deals_both a b c first next = record {
    frames = first.frames ++ next.frames;
    may = next.may;
    count = let one = first.count in let two = next.count in omega (arith, one, two, length-append first.frames next.frames);
    dealt = λ begins frames count are. subst (λ fs. AreInputs g script begins fs c.inputs) (append_assoc frames first.frames next.frames)
        (next.dealt begins (frames ++ first.frames) (length-append frames first.frames ∙ ap (λ n. n + length first.frames) count ∙ sym first.count) (first.dealt begins frames count are));
    last = λ before is. next.last (before ++ first.frames) (first.last before is) ∙ ap (λ fs. greatest (arrivals 0 fs)) (append_assoc before first.frames next.frames);
    read = λ start bytes before r. subst (λ fs. IsReadTo start bytes fs c.capture c.left) (append_assoc before first.frames next.frames)
        (next.read start bytes (before ++ first.frames) (first.read start bytes before r));
  }

  -- with one packet more
  pub deals_one : (a b : DealState L) (frame : Captured) → MayDeal g script a.inputs a.capture a.so_far → Moves a.capture b.capture frame → IsTrue b.capture.is_live
      → b.so_far.packets ≡ a.so_far.packets + 1 → length b.inputs ≡ length a.inputs → Deals g script a.so_far.packets (frame ∷ []) a.inputs b.inputs
      → ((before : List Captured) → a.so_far.last ≡ greatest (arrivals 0 before) → b.so_far.last ≡ greatest (arrivals 0 (before ++ frame ∷ [])))
      → StepsOn a.capture b.capture frame a.left b.left → DealsOn g script a b
  deals_one a b frame may moves live packets lanes deals last steps = record {
    frames = frame ∷ [];
    may = record {
      live = live;
      count = moves.count ∙ ap (λ n. n + 1) may.count ∙ sym packets;
      few = let within = moves.within in let count = moves.count in let before = may.count in omega (arith, within, count, before, packets);
      some = let some = may.some in omega (arith, some, lanes);
      dealt = subst (λ n. WereDealt g script n b.inputs) (sym packets) (were_dealt (frame ∷ []) deals may.dealt);
    };
    count = packets;
    dealt = deals;
    last = last;
    read = λ start bytes before r. read_on start bytes before a.capture b.capture frame a.left b.left steps r;
  }

  -- what is done with inputs that stay what they are changes nothing
  pub kept_on : (a : DealState L) (old new : List (LaneInput L)) (capture : CaptureState) (so_far : Progress) (left : Option (List ℕ))
      → ((begins : List (Worker L)) (frames : List Captured) → AreInputs g script begins frames old → AreInputs g script begins frames new)
      → DealsOn g script a (deal_at old capture so_far left) → DealsOn g script a (deal_at new capture so_far left)
  kept_on a old new capture so_far left kept on =
      let may = on.may in
      let was = may.dealt in
      let now = kept was.begins was.frames was.inputs_are in
      record {
        frames = on.frames;
        may = record {
          live = may.live;
          count = may.count;
          few = may.few;
          some = let some = may.some in let before = was.inputs_are.count in let after = now.count in omega (arith, some, before, after);
          dealt = record { begins = was.begins; frames = was.frames; count = was.count; inputs_are = now };
        };
        count = on.count;
        dealt = λ begins frames count are. kept begins (frames ++ on.frames) (on.dealt begins frames count are);
        last = on.last;
        read = on.read;
      }

  -- what was walked over is passed over
  pub passed_on : (a : DealState L) (inputs : List (LaneInput L)) (capture : CaptureState) (so_far : Progress) (old new : Option (List ℕ)) (front : List ℕ) (count : ℕ)
      → BeginsWith old front → count ≤ length front → IsPassed old new count
      → DealsOn g script a (deal_at inputs capture so_far (left_behind count old)) → DealsOn g script a (deal_at inputs capture so_far new)
  passed_on a inputs capture so_far old new front count begins within passed on = record {
    frames = on.frames;
    may = on.may;
    count = on.count;
    dealt = on.dealt;
    last = on.last;
    read = λ start bytes before r.
        let still = on.read start bytes before r in
        record { rest = still.rest; told = passed_behind old new front still.rest count begins within passed still.told; holds = still.holds };
  }

  -- ---- where it stops

  -- what was dealt is no more than a capture may have
  pub some_dealt : (a b : DealState L) → DealsOn g script a b → DealsSome g script a.so_far.packets a.inputs b.inputs
  some_dealt a b on = record {
    frames = on.frames;
    few = let few = on.may.few in let count = on.count in omega (arith, few, count);
    dealt = on.dealt;
  }

  -- the same where inputs stay what they are
  pub some_kept : (a b : DealState L) (new : List (LaneInput L)) → DealsOn g script a b
      → ((begins : List (Worker L)) (frames : List Captured) → AreInputs g script begins frames b.inputs → AreInputs g script begins frames new)
      → DealsSome g script a.so_far.packets a.inputs new
  some_kept a b new on kept = record {
    frames = on.frames;
    few = let few = on.may.few in let count = on.count in omega (arith, few, count);
    dealt = λ begins frames count are. kept begins (frames ++ on.frames) (on.dealt begins frames count are);
  }

  -- and where some more is dealt behind them
  pub some_behind : (a b : DealState L) (new : List (LaneInput L)) → DealsOn g script a b → DealsSome g script b.so_far.packets b.inputs new → DealsSome g script a.so_far.packets a.inputs new
  some_behind a b new on more = record {
    frames = on.frames ++ more.frames;
    few = let few = more.few in let count = on.count in omega (arith, few, count, length-append on.frames more.frames);
    dealt = λ begins frames count are. subst (λ fs. AreInputs g script begins fs new) (append_assoc frames on.frames more.frames)
        (more.dealt begins (frames ++ on.frames) (length-append frames on.frames ∙ ap (λ n. n + length on.frames) count ∙ sym on.count) (on.dealt begins frames count are));
  }

  -- what is dealt from the start on
  pub dealt_on : (begins : List (Worker L)) (a b : DealState L) (did : List Captured → Type 0) → AreInputs g script begins [] a.inputs → 0 ≡ a.so_far.packets → (on : DealsOn g script a b) → did on.frames
      → Dealt g script begins b.inputs did
  dealt_on begins a b did are none on done = record {
    frames = on.frames;
    few = let few = on.may.few in let count = on.count in omega (arith, few, count, none);
    inputs_are = on.dealt begins [] none are;
    done = done;
  }

  -- those that are dealt from the start on
  pub dealt_some : (begins : List (Worker L)) (old new : List (LaneInput L)) (did : List Captured → Type 0) → AreInputs g script begins [] old → (some : DealsSome g script 0 old new) → did some.frames
      → Dealt g script begins new did
  dealt_some begins old new did are some done = record {
    frames = some.frames;
    few = let few = some.few in omega (arith, few);
    inputs_are = some.dealt begins [] refl are;
    done = done;
  }
