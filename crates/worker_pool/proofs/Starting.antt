-- A team, from its start to its end: workers begin at their inputs, and come back from them.
use Rattle.std.proofs.Common.{◌≡◌, ◌<◌, ◌≤◌, ℕ, List, [], ◌∷◌, ◌++◌, ◌+◌, length, take, get_or, All, true, refl, sym, ap, subst, ◌∙◌, arith}
use Rattle.std.specs.List.{AllZip}
use Rattle.app_api.specs.App.{Meaning}
use Rattle.pcap_source.specs.Captured.{Captured}
use Rattle.forest_versions.specs.declared.command.Command.{Command}
use Rattle.forest_versions.specs.Lawful.{are_lawful}
use Rattle.forest_versions.specs.State.{start, control}
use Rattle.control_script.specs.declared.stamped.Stamped.{Stamped}
use Rattle.control_script.specs.Order.{commands_of}
use Rattle.lane_rings.specs.declared.items.Packet.{Packet}
use Rattle.lane_rings.specs.declared.items.Batch.{Batch}
use Rattle.lane_rings.specs.declared.ring.RingTx.{RingTx}
use Rattle.lane_rings.specs.Batch.{packets_in}
use Rattle.lane_rings.specs.Ring.{sent, AreEnds}
use Rattle.lane_core.specs.declared.recorder.Recorder.{Ghosts}
use Rattle.lane_worker.specs.declared.worker.Worker.{Worker}
use Rattle.worker_pool.specs.declared.team.lane_input.LaneInput.{LaneInput}
use Rattle.worker_pool.specs.declared.team.worker_place.WorkerPlace.{WorkerPlace}
use Rattle.lane_worker.specs.Worked.{IsReady}
use Rattle.worker_pool.specs.Sent.{packets_from, dealt}
use Rattle.worker_pool.specs.Inputs.{IsPlaced, AreInputs, Dealt}
use Rattle.worker_pool.specs.Team.{IsNew, HasServed, HaveServed}
use Rattle.worker_pool.specs.AtWork.{MayBegin, IsFresh, IsAtWork, IsBack, CanRun}
use Rattle.worker_pool.proofs.Rows.{AllZip-length, AllZip-at, all_zip, no_other}

-- an item of a list that has one
some_of : {A : Type 0} (xs : List A) (k : ℕ) → k < length xs → A
some_of [] k below = absurd (omega (arith, below))
some_of (x ∷ xs) k below = x

none_of : {A : Type 0} (xs : List A) → length xs ≡ 0 → xs ≡ []
none_of [] none = refl
none_of (x ∷ xs) none = absurd (cc)

module _ {L : Type 0} (g : Ghosts L) where
  -- a new worker is ready
  ready_new : (script : List Command) (app : Meaning) (w : Worker L) → IsNew g app w → IsReady g script w.lane w.commands
  unfolding control
  ready_new script app w new = record {
    events = [];
    stands = new.stands;
    commands = ap (λ l. take (length l) script) (sym new.commands);
    version = new.given ∙ ap length (sym new.commands);
    in_force = new.control ∙ ap (λ (m : Meaning). start m.presets) (sym new.app_is)
        ∙ ap (λ l. control (g.app w.lane).presets (take (length l) script)) (sym new.commands);
  }

  -- and may begin
  may_begin : (script : List Command) (app : Meaning) (w : Worker L) (tx : RingTx Batch) → are_lawful (start app.presets) script ≡ true
      → IsNew g app w → AreEnds tx w.packets → sent tx ≡ [] → MayBegin g script w tx
  may_begin script app w tx lawful new ends unsent = record {
    lawful = subst (λ (m : Meaning). are_lawful (start m.presets) script ≡ true) (sym new.app_is) lawful;
    ready = λ ok. ready_new script app w new;
    ends = ends;
    unsent = unsent;
  }

  -- so may all workers of a team
  pub all_may_begin : (script : List Stamped) (workers : List (Worker L)) (packets : List (RingTx Batch)) → CanRun g script workers packets
      → AllZip (MayBegin g (commands_of script)) workers packets
  all_may_begin script workers packets can =
      let t = can.team in
      all_zip (MayBegin g (commands_of script)) workers packets t.count (λ k w tx below.
      let under : k < length workers = omega (arith, below, t.count) in
      may_begin (commands_of script) can.app (get_or workers k w) (get_or packets k tx) can.lawful (t.each_new k w under) (t.each_ends k w tx under) (t.each_sent k tx below))

  -- a worker that may begin, at its input
  pub fresh : (script : List Command) (w : Worker L) (tx : RingTx Batch) (rest : List Packet) (place : WorkerPlace L) → rest ≡ [] → MayBegin g script w tx → IsPlaced g script w place
      → IsFresh g script w (record { packets = tx; unsent = rest; place = place })
  fresh script w tx rest place none may placed = record { lawful = may.lawful; ends = may.ends; sent_are = ap (λ l. packets_in l ++ rest) may.unsent ∙ none; placed = placed }

  -- nothing was sent to these inputs
  pub inputs_of_none : (script : List Stamped) (begins : List (Worker L)) (inputs : List (LaneInput L)) → AllZip (IsFresh g (commands_of script)) begins inputs
      → AreInputs g script begins [] inputs
  unfolding packets_from
  inputs_of_none script begins inputs all = record {
    count = AllZip-length (IsFresh g (commands_of script)) begins inputs all;
    each = λ k w p below. AllZip-at (IsFresh g (commands_of script)) begins inputs k w p all below;
  }

  -- once no worker is left, all are at their inputs
  pub inputs_of_all : (script : List Stamped) (all begun front others : List (Worker L)) (inputs : List (LaneInput L)) (index flags : ℕ) → begun ≡ all → begun ≡ front ++ others
      → AllZip (IsFresh g (commands_of script)) front inputs → index + length others ≡ flags → flags ≤ index → AreInputs g script all [] inputs
  inputs_of_all script all begun front others inputs index flags is whole zip left end =
      let none : length others ≡ 0 = omega (arith, left, end) in
      let same : front ≡ all = sym (no_other begun front others whole (none_of others none)) ∙ is in
      inputs_of_none script all inputs (subst (λ (l : List (Worker L)). AllZip (IsFresh g (commands_of script)) l inputs) same zip)

  -- a worker is at work at each of them
  pub all_at_work : (script : List Stamped) (begins : List (Worker L)) (frames : List Captured) (inputs : List (LaneInput L)) → AreInputs g script begins frames inputs
      → All (IsAtWork g (commands_of script)) inputs
  all_at_work script begins frames inputs are = λ k p below.
      let under : k < length begins = omega (arith, below, are.count) in
      let w = some_of begins k under in
      record {
        begin = get_or begins k w;
        packets = dealt (length inputs) k (packets_from script 0 frames);
        input_is = are.each k w p below;
      }

  -- the workers that came back from them have served their packets
  pub all_served : (script : List Stamped) (begins : List (Worker L)) (frames : List Captured) (inputs : List (LaneInput L)) (workers : List (Worker L))
      → AreInputs g script begins frames inputs → AllZip (IsBack g (commands_of script)) inputs workers → HaveServed g script begins frames workers
  all_served script begins frames inputs workers are back =
      let same = AllZip-length (IsBack g (commands_of script)) inputs workers back in
      record {
        count = are.count ∙ same;
        each = λ k a b below.
            let under : k < length inputs = omega (arith, below, same) in
            let p = some_of inputs k under in
            let one = AllZip-at (IsBack g (commands_of script)) inputs workers k p b back below in
            subst (λ n. HasServed g (commands_of script) (get_or begins k a) (dealt n k (packets_from script 0 frames)) (get_or workers k b)) same
            (one.served (get_or begins k a) (dealt (length inputs) k (packets_from script 0 frames)) (are.each k a p under));
      }

  -- what was sent under the feed's script was sent under this one, which is the same
  pub dealt_under : (script other : List Stamped) (begins : List (Worker L)) (inputs : List (LaneInput L)) (did : List Captured → Type 0) → script ≡ other
      → Dealt g script begins inputs did → Dealt g other begins inputs did
  dealt_under script other begins inputs did same dealt = subst (λ (s : List Stamped). Dealt g s begins inputs did) same dealt
