-- What a lane stands for, one event later.
use Rattle.std.proofs.Common.{◌≡◌, ℕ, zero, suc, ◌+◌, ◌<◌, ◌≤◌, ◌&&◌, nat_lt, Bool, true, false, Option, Some, None, List, [], ◌∷◌, ◌++◌, length, Result, Ok, Err, refl, sym, ap, subst, ◌∙◌, arith}
use Rattle.std.specs.Prelude.{◌-◌, OnOk, OnErr, SomeIff}
use Rattle.std.proofs.lemmas.List.{take_all}
use Rattle.std.proofs.lemmas.Grind.{common_steps}
use Rattle.app_api.specs.App.{Meaning}
use Rattle.app_api.specs.declared.reaction.Verdict.{Verdict}
use Rattle.app_api.specs.declared.reaction.Verdict.TheVariants.{Pass, Drop}
use Rattle.shared_forest.specs.declared.store.ForestView.{Ghosts}
use Rattle.forest_versions.specs.declared.command.Command.{Command}
use Rattle.app_api.specs.declared.registration.Reg.{Reg}
use Rattle.forest_versions.specs.State.{control, master, after as state_after}
use Rattle.forest_versions.specs.Master.{Versions, StandsFor}
use Rattle.connection_core.specs.History.{drops_of}
use Rattle.connection_core.specs.Trees.{InternsWithin}
use Rattle.lane_core.specs.declared.errors.LaneError.{LaneError}
use Rattle.lane_core.specs.declared.errors.LaneError.TheVariants.{Heavy, NoMemory}
use Rattle.lane_core.specs.declared.records.Records.{Records}
use Rattle.lane_core.specs.Sight.{Sight, Arrival}
use Rattle.lane_core.specs.Records.{RecordSoFar, added, verdict_on}
use Rattle.lane_core.specs.Run.{LaneEvent, Gave, Arrived, commands_of, control_of, lane_run}
use Rattle.lane_core.specs.Shown.{alterations, weight, drop_count as drops_in}
use Rattle.lane_core.specs.Live.{TakesCommand}
use Rattle.lane_core.specs.Steps.{Taking}
use Rattle.lane_core.specs.Packets.{KeepsSoFar, Makes, AddsCounted, CostsToAdd, Gives}
use Rattle.lane_core.specs.Lane.{IsRun, IsHeavy, newest_by, next_verdict, with_event}
use Rattle.lane_core.proofs.Runs.{commands-arrived, commands-gave, newest-arrived, newest-gave, packet_is_added, command_changes_none}

pub err_value : {T E P : Type 0} (r : Result T E) → ((v : T) → r ≡ Ok v → ⊥) → OnErr r P → P
err_value (Ok v) none p = absurd (none v refl)
err_value (Err e) none p = p

-- a command was taken where the call ended well
pub taken_by : {T E : Type 0} (r : Result T E) (m after : Versions) (c : Command)
    → ((presets : List Reg) (commands : List Command) → StandsFor m presets commands → OnOk r (StandsFor after presets (commands ++ c ∷ [])))
    → OnOk r (after.now ≡ state_after m.now c) → OnOk r (after.version ≡ m.version + 1) → OnOk r (TakesCommand m after c)
taken_by (Ok v) m after c stands now version = record { commands = stands; now = now; version = version }
taken_by (Err e) m after c stands now version = tt

pub never_fewer : {T E : Type 0} (r : Result T E) (m after : Versions) → OnOk r (after.version ≡ m.version + 1) → OnErr r (after ≡ m) → m.version ≤ after.version
never_fewer (Ok v) m after version same = omega (arith, version)
never_fewer (Err e) m after version same = let is = ap (λ (w : Versions). w.version) same in omega (arith, is)

pub newest_next : (n k : ℕ) → k ≡ n + 1 → newest_by k ≡ Some n
newest_next n zero is = absurd (omega arith)
newest_next n (suc k) is = let same : k ≡ n = omega arith in ap Some same

-- the number below this one, where there is one
pub newest_below : (next : ℕ) (below : Option ℕ) → SomeIff below (1 ≤ next) (next - 1) → below ≡ newest_by next
newest_below zero None is = refl
newest_below zero (Some n) is = let some = is.0 in absurd (omega (arith, some))
newest_below (suc k) None is = absurd (is (omega arith))
newest_below (suc k) (Some n) is = let same : n ≡ k = omega (arith, is.1) in ap Some same

dropped_once : (verdict : Verdict) (number : ℕ) → length (drops_of verdict number) ≡ length (drops_of verdict 0)
dropped_once Pass number = refl
dropped_once (Drop reason) number = refl

pub never_failed : (failed : Option LaneError) → ((e : LaneError) → failed ≡ Some e → ⊥) → failed ≡ None
never_failed None none = refl
never_failed (Some e) none = absurd (none e refl)

none_is_heavy : {T : Type 0} → None ≡ Some Heavy → T
none_is_heavy e = absurd (cc)

-- an error that is handed on
err_same : {T : Type 0} (r : Result T LaneError) (e : LaneError) → r ≡ Err e → r ≡ Err Heavy → e ≡ Heavy
err_same (Ok v) e is heavy = absurd (cc)
err_same (Err f) e is heavy = let one : f ≡ e = cc in let two : f ≡ Heavy = cc in sym one ∙ two

pub err_is_heavy : {T U : Type 0} (r : Result T LaneError) (s : Result U LaneError) (handed error : LaneError) → handed ≡ error → r ≡ Err handed → r ≡ Err Heavy → s ≡ Err error → s ≡ Err Heavy
err_is_heavy r s handed error same is heavy was = was ∙ ap Err (sym same ∙ err_same r handed is heavy)

-- entries that are kept at the end don't weigh too much
pub is_light_at_end : (keep : Bool) (n m : ℕ) → (keep && nat_lt 134217728 n) ≡ false → keep ≡ true → n ≡ m → 134217728 < m → ⊥
is_light_at_end true n m under keeps same over =
    let over_limit : 134217728 < n = omega (arith, same, over) in grind (arith, common_steps)
is_light_at_end false n m under keeps same over = absurd (cc)

-- what is in force now
pub now_is : (app : Meaning) (m : Versions) (cs : List Command) → StandsFor m app.presets cs → master app.presets cs m.version ≡ m.now
now_is app m cs stands =
    ap (control app.presets) (take_all m.version cs (let version = stands.version in omega arith)) ∙ sym stands.now

lighter : (b : Bool) (n : ℕ) → (b && nat_lt 134217728 n) ≡ true → 134217728 < n
lighter true n over = grind (arith, common_steps)
lighter false n over = absurd (cc)

not_over : (b : Bool) (n : ℕ) → (b && nat_lt 134217728 n) ≡ false → b ≡ true → 134217728 < n → ⊥
not_over true n under keeps over = grind (arith, common_steps)
not_over false n under keeps over = absurd (cc)

-- a lane of these records that goes on by a packet
module _ {F : Type 0} {store : Ghosts F} (t : Taking) (old new : Records F store) (sight : Sight) (events : List LaneEvent) (r : IsRun t.app t.keep old None events) where
  abbrev arrival : Arrival
  arrival = record { number = t.number; moment = t.moment; sight = sight }

  abbrev later : List LaneEvent
  later = with_event (Arrived arrival) events

  abbrev runs : List LaneEvent → List RecordSoFar
  runs of = lane_run t.app of

  version_is : added t.app (control_of t.app events) (record { version = old.master.version; arrival = arrival }) (runs events) ≡ runs later
  version_is =
      ap (λ v. added t.app (control_of t.app events) (record { version = v; arrival = arrival }) (runs events)) (r.commands refl).version
      ∙ sym (packet_is_added t.app events arrival)

  -- a packet at which memory was refused
  pub packet_costs : CostsToAdd t old new sight → InternsWithin (store.interns old.forests) (store.interns new.forests) (alterations (runs events)) (alterations (runs later))
  packet_costs costs =
      let commands = r.commands refl in
      subst (λ rs. InternsWithin (store.interns old.forests) (store.interns new.forests) (alterations (runs events)) (alterations rs)) version_is
      (costs.interned (control_of t.app events) (runs events) commands.told (now_is t.app old.master (commands_of events) commands) (r.records refl))

  module _ (verdict : Verdict) (adds : AddsCounted t old new sight verdict) where
    -- the packet is added to the run's records
    pub run_added : Makes t old new verdict (next_verdict t.app events arrival) (runs events) (runs later)
    run_added =
        let commands = r.commands refl in
        let made = adds.made (control_of t.app events) (runs events) commands.told (now_is t.app old.master (commands_of events) commands) (r.records refl) in
        subst (Makes t old new verdict (next_verdict t.app events arrival) (runs events)) version_is
        (subst (λ v. Makes t old new verdict (verdict_on t.app (control_of t.app events) (record { version = v; arrival = arrival }) (runs events)) (runs events)
        (added t.app (control_of t.app events) (record { version = old.master.version; arrival = arrival }) (runs events))) commands.version made)

    -- a lane that goes on
    pub packet_stands : IsRun t.app t.keep new None later
    packet_stands = record {
      newest = newest-arrived None events arrival ∙ sym (newest_next t.number new.next adds.next);
      commands = λ none. subst (λ (m : Versions). StandsFor m t.app.presets (commands_of later)) (sym adds.master)
          (subst (StandsFor old.master t.app.presets) (sym (commands-arrived events arrival)) (r.commands refl));
      records = λ none. run_added.stands;
      dropped = λ none.
          adds.dropped ∙ ap (λ n. n + length (drops_of verdict 0)) (r.dropped refl) ∙ ap (λ n. drops_in (runs events) + n) (sym (dropped_once verdict t.number))
          ∙ sym run_added.dropped;
      heavy = none_is_heavy;
    }

    -- how much its callbacks weigh
    weighs : new.ledger.counts.weight ≡ weight (runs later)
    weighs = run_added.stands.weighed

    pub is_too_heavy : (t.keep && nat_lt 134217728 new.ledger.counts.weight) ≡ true → IsHeavy t.app later
    is_too_heavy over = let weighed = weighs in let over_limit = lighter t.keep new.ledger.counts.weight over in omega (arith, over_limit, weighed)

    pub is_light : (t.keep && nat_lt 134217728 new.ledger.counts.weight) ≡ false → t.keep ≡ true → IsHeavy t.app later → ⊥
    is_light under keeps heavy =
        let weighed = weighs in let over_limit : 134217728 < new.ledger.counts.weight = omega (arith, heavy, weighed) in not_over t.keep new.ledger.counts.weight under keeps over_limit

-- a lane that failed for a packet of this number
pub packet_failed : {F : Type 0} {store : Ghosts F} (app : Meaning) (keep : Bool) (new : Records F store) (events : List LaneEvent) (a : Arrival) (e : LaneError) → new.next ≡ a.number + 1
    → (e ≡ Heavy → IsHeavy app (with_event (Arrived a) events)) → IsRun app keep new (Some e) (with_event (Arrived a) events)
packet_failed app keep new events a e is_next heavy = record {
  newest = newest-arrived None events a ∙ sym (newest_next a.number new.next is_next);
  commands = λ none. absurd (cc);
  records = λ none. absurd (cc);
  dropped = λ none. absurd (cc);
  heavy = λ is. heavy (let same : e ≡ Heavy = cc in same);
}

module _ {F : Type 0} {store : Ghosts F} (app : Meaning) (keep : Bool) (old new : Records F store) (events : List LaneEvent) (c : Command) where
  -- one more command
  pub command_stands : IsRun app keep old None events → Gives old new c → IsRun app keep new None (with_event (Gave c) events)
  command_stands r gives = record {
    newest = newest-gave None events c ∙ r.newest ∙ ap newest_by (sym gives.next);
    commands = λ none. subst (StandsFor new.master app.presets) (sym (commands-gave events c)) (gives.taken.commands app.presets (commands_of events) (r.commands refl));
    records = λ none. subst (KeepsSoFar keep new) (sym (command_changes_none app events c)) (gives.stands keep (lane_run app events) (r.records refl));
    dropped = λ none. gives.dropped ∙ r.dropped refl ∙ ap drops_in (sym (command_changes_none app events c));
    heavy = none_is_heavy;
  }

  -- a lane that failed for this command
  pub command_failed : (failed : Option LaneError) → IsRun app keep old failed events → new.next ≡ old.next → IsRun app keep new (Some NoMemory) (with_event (Gave c) events)
  command_failed failed r next = record {
    newest = newest-gave None events c ∙ r.newest ∙ ap newest_by (sym next);
    commands = λ none. absurd (cc);
    records = λ none. absurd (cc);
    dropped = λ none. absurd (cc);
    heavy = λ is. absurd (cc);
  }
