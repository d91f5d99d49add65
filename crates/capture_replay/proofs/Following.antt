-- A lane that takes commands of a script, and packets.
use Rattle.std.proofs.Common.{◌≡◌, ℕ, suc, ◌+◌, ◌<◌, ◌≤◌, Bool, true, false, Option, Some, None, List, [], ◌∷◌, ◌++◌, length, map, take, drop, refl, sym, ap, subst, ◌∙◌, append_assoc, append-nil, length-take-le, take-append-drop, arith}
use Rattle.std.proofs.lemmas.List.{length-map}
use Rattle.std.specs.Prelude.{nat_lt, if◌then◌else◌}
use Rattle.std.proofs.lemmas.Grind.{common_steps}
use mathlib.Core.List.{IsPrefix}
use Rattle.app_api.specs.App.{Meaning}
use Rattle.app_api.specs.declared.reaction.Verdict.{Verdict}
use Rattle.forest_versions.specs.declared.command.Command.{Command}
use Rattle.forest_versions.specs.declared.command.Stamp.{Stamp}
use Rattle.forest_versions.specs.declared.command.Stamp.TheVariants.{At, Live}
use Rattle.forest_versions.specs.State.{master}
use Rattle.control_script.specs.declared.stamped.Stamped.{Stamped}
use Rattle.control_script.specs.Order.{commands_of}
use Rattle.control_script.specs.Versions.{ceil, is_barred}
use Rattle.lane_core.specs.declared.recorder.Recorder.{Ghosts as Recorder}
use Rattle.lane_core.specs.Sight.{Moment, Arrival}
use Rattle.lane_core.specs.Records.{VersionedPacket, records, verdict_on, ended_at}
use Rattle.lane_core.specs.Run.{LaneEvent, Gave, Arrived, versioned_from, lane_run, ended_run, commands_of as given_in}
use Rattle.lane_core.specs.Lane.{IsHeavy, IsAfter, next_verdict, with_event}
use Rattle.lane_core.specs.Laws.{OneEventMore, LaterCommandsChangeNone}
use Rattle.lane_core.specs.Shown.{weight}
use Rattle.lane_worker.specs.Given.{IsUnder, TakesCommands}
use Rattle.lane_worker.proofs.Fronts.{take-two}
use Rattle.capture_replay.specs.Records.{control_at}
use Rattle.capture_replay.specs.Reading.{Follows, IsOver, LaneFollows, LaneIsReady, packet_at}

-- ---- what a packet may see

ceil-cases : (k n less more : ℕ) (one two : Bool) → nat_lt n k ≡ one → nat_lt (n + 1) k ≡ two → less ≤ more → (if one then 0 else suc less) ≤ (if two then 0 else suc more)
ceil-cases k n less more true two is is' rises = omega arith
ceil-cases k n less more false false is is' rises = omega (arith, rises)
ceil-cases k n less more false true is is' rises = absurd (grind (arith, common_steps))

-- the next packet sees no fewer commands
pub ceil_rises : (script : List Stamped) (n : ℕ) → ceil script n ≤ ceil script (n + 1)
ceil_rises [] n = omega arith
ceil_rises (s ∷ script) n = by s.stamp (ceil_rises script n)
  where
    by : (stamp : Stamp) → ceil script n ≤ ceil script (n + 1) → (if is_barred n stamp then 0 else suc (ceil script n)) ≤ (if is_barred (n + 1) stamp then 0 else suc (ceil script (n + 1)))
    by Live rises = omega (arith, rises)
    by (At k) rises = ceil-cases k n (ceil script n) (ceil script (n + 1)) (nat_lt n k) (nat_lt (n + 1) k) refl refl rises

-- a packet sees no more commands than there are
pub ceil_within : (script : List Stamped) (n : ℕ) → ceil script n ≤ length script
ceil_within [] n = omega arith
ceil_within (s ∷ script) n = by (is_barred n s.stamp) (ceil_within script n)
  where
    by : (barred : Bool) → ceil script n ≤ length script → (if barred then 0 else suc (ceil script n)) ≤ length (s ∷ script)
    by true within = omega arith
    by false within = omega (arith, within)

-- ---- the run of a lane

module _ (app : Meaning) (script : List Stamped) (v : ℕ) (stands : List LaneEvent → Type 0) (ps : List VersionedPacket) (f : Follows script v stands ps) where
  whole : given_in f.events ++ drop v (commands_of script) ≡ commands_of script
  whole = ap (λ l. l ++ drop v (commands_of script)) f.commands ∙ take-append-drop v (commands_of script)

  -- it has the records of its packets under the whole script
  pub records_are : LaterCommandsChangeNone → lane_run app f.events ≡ records app (control_at app script) ps
  records_are law =
      law.records app f.events (drop v (commands_of script)) ∙ ap (λ cs. records app (master app.presets cs) (versioned_from 0 f.events)) whole
      ∙ ap (records app (control_at app script)) f.packets

  -- and so at its end
  pub ended_are : LaterCommandsChangeNone → (last : Option Moment)
      → ended_run app f.events last ≡ map (ended_at app (control_at app script) last) (records app (control_at app script) ps)
  ended_are law last =
      law.at_end app f.events last (drop v (commands_of script))
      ∙ ap (λ cs. map (ended_at app (master app.presets cs) last) (records app (master app.presets cs) (versioned_from 0 f.events))) whole
      ∙ ap (λ l. map (ended_at app (control_at app script) last) (records app (control_at app script) l)) f.packets

-- ---- commands

-- they stand behind those of a run, and its packets are as before
gave-behind : OneEventMore → (cs : List Command) (events : List LaneEvent)
    → (given_in (events ++ map Gave cs) ≡ given_in events ++ cs) × (versioned_from 0 (events ++ map Gave cs) ≡ versioned_from 0 events)
gave-behind law [] events = (ap given_in (append-nil events) ∙ sym (append-nil (given_in events)), ap (versioned_from 0) (append-nil events))
gave-behind law (c ∷ cs) events =
    let one = law.command events c in
    let more = gave-behind law cs (with_event (Gave c) events) in
    let same = append_assoc events (Gave c ∷ []) (map Gave cs) in (
      sym (ap given_in same) ∙ more.0 ∙ ap (λ l. l ++ cs) one.0 ∙ append_assoc (given_in events) (c ∷ []) cs,
      sym (ap (versioned_from 0) same) ∙ more.1 ∙ one.1,
    )

-- a lane that took them follows the packets that it followed before
follows_commands : {L : Type 0} (g : Recorder L) (script : List Stamped) (a b : L) → OneEventMore → TakesCommands g (commands_of script) a b → g.failed b ≡ None → (ps : List VersionedPacket)
    → LaneFollows g script a ps → LaneFollows g script b ps
follows_commands g script a b law takes well ps f =
    let all : takes.done ++ takes.bad ≡ takes.done = ap (λ l. takes.done ++ l) (takes.good well) ∙ append-nil takes.done in
    let next : IsPrefix takes.done (drop (g.given a) (commands_of script)) = subst (λ l. IsPrefix l (drop (g.given a) (commands_of script))) all takes.next in
    let more = gave-behind law takes.done f.events in
    record {
      events = f.events ++ map Gave takes.done;
      stands_for = subst (λ l. g.stands b (f.events ++ map Gave l)) all (takes.stands f.events f.stands_for);
      commands = more.0 ∙ ap (λ l. l ++ takes.done) f.commands ∙ sym (take-two (commands_of script) takes.done (g.given a) next)
          ∙ ap (λ v. take v (commands_of script)) (sym (takes.version well));
      packets = more.1 ∙ f.packets;
    }

-- ---- a packet, behind the commands up to its ceiling

module _ {L : Type 0} {g : Recorder L} (script : List Stamped) {a b : L} (takes : TakesCommands g (commands_of script) a b) (well : g.failed b ≡ None) (n : ℕ) (at : g.given b ≡ ceil script n)
    (here : Arrival) (law : OneEventMore) (later : LaterCommandsChangeNone) (ps : List VersionedPacket) (before : LaneFollows g script a ps) where
  follows : LaneFollows g script b ps
  follows = follows_commands g script a b law takes well ps before

  many : length (given_in follows.events) ≡ ceil script n
  many =
      let most = ceil_within script n in
      let same = length-map script (λ s. s.command) in
      let few : g.given b ≤ length (commands_of script) = omega (arith, at, most, same) in
      ap length follows.commands ∙ length-take-le (g.given b) (commands_of script) few ∙ at

  commands_more : given_in (with_event (Arrived here) follows.events) ≡ take (g.given b) (commands_of script)
  commands_more = (law.packet follows.events here).0 ∙ follows.commands

  packets_more : versioned_from 0 (with_event (Arrived here) follows.events) ≡ ps ++ packet_at script n here ∷ []
  packets_more =
      (law.packet follows.events here).1 ∙ ap (λ l. l ++ record { version = length (given_in follows.events); arrival = here } ∷ []) follows.packets
      ∙ ap (λ m. ps ++ record { version = m; arrival = here } ∷ []) many

  records_more : lane_run (g.app b) (with_event (Arrived here) follows.events) ≡ records (g.app a) (control_at (g.app a) script) (ps ++ packet_at script n here ∷ [])
  records_more =
      records_are (g.app b) script (g.given b) (λ events. Unit {0}) (ps ++ packet_at script n here ∷ []) (record {
        events = with_event (Arrived here) follows.events;
        stands_for = tt;
        commands = commands_more;
        packets = packets_more;
      }) later
      ∙ ap (λ (app : Meaning). records app (control_at app script) (ps ++ packet_at script n here ∷ [])) takes.app

  -- the lane that took the packet follows it too
  pub packet_follows : (c : L) → g.given c ≡ g.given b → ((events : List LaneEvent) → g.stands b events → g.stands c (with_event (Arrived here) events))
      → LaneFollows g script c (ps ++ packet_at script n here ∷ [])
  packet_follows c same goes = record {
    events = with_event (Arrived here) follows.events;
    stands_for = goes follows.events follows.stands_for;
    commands = commands_more ∙ ap (λ v. take v (commands_of script)) (sym same);
    packets = packets_more;
  }

  -- what becomes of it
  pub packet_verdict : (verdict : Verdict) → ((events : List LaneEvent) → g.stands b events → verdict ≡ next_verdict (g.app b) events here)
      → verdict ≡ verdict_on (g.app a) (control_at (g.app a) script) (packet_at script n here) (records (g.app a) (control_at (g.app a) script) ps)
  packet_verdict verdict is =
      is follows.events follows.stands_for ∙ later.verdicts (g.app b) follows.events here (drop (g.given b) (commands_of script))
      ∙ ap (λ cs. verdict_on (g.app b) (master (g.app b).presets cs) (record { version = length (given_in follows.events); arrival = here }) (lane_run (g.app b) follows.events))
      (whole (g.app b) script (g.given b) (g.stands b) ps follows)
      ∙ ap (λ m. verdict_on (g.app b) (control_at (g.app b) script) (record { version = m; arrival = here }) (lane_run (g.app b) follows.events)) many
      ∙ ap (verdict_on (g.app b) (control_at (g.app b) script) (packet_at script n here)) (records_are (g.app b) script (g.given b) (g.stands b) ps follows later)
      ∙ ap (λ (app : Meaning). verdict_on app (control_at app script) (packet_at script n here) (records app (control_at app script) ps)) takes.app

  -- the records of its packets weigh too much where its run does
  pub packet_heavy : ((events : List LaneEvent) → g.stands b events → IsHeavy (g.app b) (with_event (Arrived here) events)) → IsOver (g.app a) script (ps ++ packet_at script n here ∷ [])
  packet_heavy heavy = subst (λ rs. 134217728 < weight rs) records_more (heavy follows.events follows.stands_for)

  -- and nowhere else
  pub packet_light : ((events : List LaneEvent) → g.stands b events → IsHeavy (g.app b) (with_event (Arrived here) events) → ⊥) → IsOver (g.app a) script (ps ++ packet_at script n here ∷ []) → ⊥
  packet_light light over = light follows.events follows.stands_for (subst (λ rs. 134217728 < weight rs) (sym records_more) over)

-- ---- from one packet to the next

after-more : (last : Option ℕ) (n : ℕ) → IsAfter last n → IsAfter last (n + 1)
after-more None n after = tt
after-more (Some l) n after = omega (arith, after)

module _ {L : Type 0} (g : Recorder L) (script : List Stamped) (lane : L) (n : ℕ) where
  -- a lane that took the packet of a number is ready for the next
  pub ready_after : IsUnder g (commands_of script) lane → g.given lane ≡ ceil script n → g.last lane ≡ Some n → LaneIsReady g script lane (n + 1)
  ready_after under at is = record {
    under = under;
    before = let rises = ceil_rises script n in omega (arith, at, rises);
    after = subst (λ l. IsAfter l (n + 1)) (sym is) (let next : n < n + 1 = omega arith in next);
  }

  -- and so is one that took none
  pub ready_still : LaneIsReady g script lane n → LaneIsReady g script lane (n + 1)
  ready_still ready = record {
    under = ready.under;
    before = let rises = ceil_rises script n in let now = ready.before in omega (arith, now, rises);
    after = after-more (g.last lane) n ready.after;
  }
