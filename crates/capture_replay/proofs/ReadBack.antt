-- The registrations of a run are of events, so its records are tidy; and its report, where it was written to its end, is read back.
use Rattle.std.proofs.Common.{◌≡◌, ℕ, zero, suc, ◌-◌, ◌<◌, ◌≤◌, ◌&&◌, not, Bool, true, false, cond, leb, None, Ok, List, [], ◌∷◌, map, length, take, refl, sym, ap, subst, ◌∙◌, arith, ⊎_elim}
use Rattle.std.specs.Prelude.{◌==◌, ◌++◌, if◌then◌else◌, is_some, slice_get, IsTrue}
use Rattle.std.specs.List.{list_all, filter, fold}
use Rattle.std.specs.Ordering.{is_lt}
use Rattle.std.proofs.lemmas.Bool.{and_from, and_parts, cases_lt, le-leb, leb-true, or_left, or_right}
use Rattle.app_api.specs.App.{Meaning, IsLawful}
use Rattle.app_api.specs.EventLaws.{allowed-built_in}
use Rattle.app_api.specs.Events.{START, LAST, EventRow, built_ins}
use Rattle.app_api.specs.Names.{event_name, event_names}
use Rattle.app_api.specs.Numbers.{all_differ}
use Rattle.app_api.specs.Reg.{is_preset}
use Rattle.app_api.specs.declared.registration.Reg.{Reg}
use Rattle.pcap_source.specs.Captured.{Captured}
use Rattle.event_trees.specs.declared.defs.EventDef.{EventDef}
use Rattle.event_trees.specs.Private.{reg_cmp, put_reg}
use Rattle.forest_versions.specs.Lawful.{may_be_event, is_within, is_lawful, are_lawful}
use Rattle.forest_versions.specs.State.{ControlState, start, after, control}
use Rattle.forest_versions.specs.declared.command.Command.{Command}
use Rattle.forest_versions.specs.declared.command.Command.TheVariants.{Event, Register, Unregister, Buffer, Overlap, AddRule, RemoveRule, Idle}
use Rattle.control_script.specs.declared.stamped.Stamped.{Stamped}
use Rattle.control_script.specs.Order.{commands_of}
use Rattle.report_text.specs.Report.{report_text}
use Rattle.report_text.specs.Tidy.{is_event, tidy}
use Rattle.report_text.specs.ReadLaws.{GainedIsRead}
use Rattle.lane_core.specs.Laws.{AreEvents, RecordsAreTidy, rise}
use Rattle.lane_core.specs.Records.{VersionedPacket}
use Rattle.lane_core.specs.Sight.{arrivals}
use Rattle.run_outcome.specs.Greatest.{greatest}
use Rattle.run_outcome.specs.Whole.{packets_under}
use Rattle.capture_replay.specs.declared.output.Output.TheVariants.{Report}
use Rattle.capture_replay.specs.declared.refusal.ReplayError.TheVariants.{Heavy}
use Rattle.capture_replay.specs.Records.{control_at, packets_with}
use Rattle.capture_replay.specs.Outcome.{ended, followed, is_heavy, outcome_by, outcome_over, refused, weighed}
use Rattle.capture_replay.specs.ReadBack.{ReportIsReadBack}
use Rattle.capture_replay.specs.Typed.{counted, shown}
use Rattle.capture_replay.specs.Runs.{MayRun}

-- ---- numbers of events

named-place : (rows : List EventRow) (place : ℕ) → place < length rows → is_some (slice_get (map (λ r. r.name) rows) place) ≡ true
named-place [] place less = absurd (omega arith)
named-place (r ∷ rows) zero less = refl
named-place (r ∷ rows) (suc place) less = let rest : place < length rows = omega arith in named-place rows place rest

-- the built-in events are named
named : (event : ℕ) → START ≤ event → event ≤ LAST → is_event event ≡ true
named event low high =
    let less : event - START < length built_ins = omega (arith, low, high) in
    or_right (leb 1 event && leb event 255) (is_some (event_name event))
    (ap (λ b. is_some (cond b (slice_get event_names (event - START)) None)) (le-leb START event low) ∙ named-place built_ins (event - START) less)

-- those below them are user-defined
of_event : (event : ℕ) → may_be_event event ≡ true → is_event event ≡ true
of_event event may =
    let parts = and_parts (leb 1 event) (leb event LAST) may in
    let high = leb-true event LAST parts.1 in
    ⊎_elim
    (λ (less : event < START). or_left (leb 1 event && leb event 255) (is_some (event_name event)) (and_from (leb 1 event) (leb event 255) parts.0 (le-leb event 255 (omega (arith, less)))))
    (λ (low : START ≤ event). named event low high)
    (cases_lt event START)

-- ---- the registrations at each version

put-event : (defs : List EventDef) (r : Reg) (regs : List Reg) → is_event r.event ≡ true → AreEvents regs → AreEvents (put_reg defs r regs)
put-event defs r [] here all = and_from (is_event r.event) true here refl
put-event defs r (s ∷ regs) here all =
    let parts = and_parts (is_event s.event) (list_all (λ q. is_event q.event) regs) all in
    elim (is_lt (reg_cmp defs r s)) as (λ b. AreEvents (cond b (r ∷ s ∷ regs) (s ∷ put_reg defs r regs))) [
      | true ↦ and_from (is_event r.event) (list_all (λ q. is_event q.event) (s ∷ regs)) here all
      | false ↦ and_from (is_event s.event) (list_all (λ q. is_event q.event) (put_reg defs r regs)) parts.0 (put-event defs r regs here parts.1)
    ]

some-events : (stays : Reg → Bool) (regs : List Reg) → AreEvents regs → AreEvents (filter stays regs)
some-events stays [] all = refl
some-events stays (r ∷ regs) all =
    let parts = and_parts (is_event r.event) (list_all (λ q. is_event q.event) regs) all in
    elim (stays r) as (λ b. AreEvents (cond b (r ∷ filter stays regs) (filter stays regs))) [
      | true ↦ and_from (is_event r.event) (list_all (λ q. is_event q.event) (filter stays regs)) parts.0 (some-events stays regs parts.1)
      | false ↦ some-events stays regs parts.1
    ]

preset-event : (r : Reg) → is_preset r ≡ true → is_event r.event ≡ true
preset-event r fit =
    let hook = (and_parts _ _ (and_parts _ _ (and_parts _ _ fit).0).0).1 in
    let built_in = and_parts (leb START r.event) (leb r.event LAST) (allowed-built_in r.event r.hook hook) in
    named r.event (leb-true START r.event built_in.0) (leb-true r.event LAST built_in.1)

preset-events : (regs presets : List Reg) → list_all is_preset presets ≡ true → AreEvents regs → AreEvents (fold (λ list r. put_reg [] r list) regs presets)
preset-events regs [] fit all = all
preset-events regs (r ∷ presets) fit all =
    let parts = and_parts (is_preset r) (list_all is_preset presets) fit in
    preset-events (put_reg [] r regs) presets parts.1 (put-event [] r regs (preset-event r parts.0) all)

command-events : (s : ControlState) (c : Command) → is_within c ≡ true → AreEvents s.regs → AreEvents (after s c).regs
unfolding is_within after
command-events s (Event d) within all = all
command-events s (Register r) within all = put-event s.defs r s.regs (of_event r.event (and_parts _ _ (and_parts _ _ (and_parts _ _ within).0).0).1) all
command-events s (Unregister number) within all = some-events (λ r. not (r.number == number)) s.regs all
command-events s (Buffer bytes) within all = all
command-events s (Overlap policy) within all = all
command-events s (AddRule r) within all = all
command-events s (RemoveRule number) within all = all
command-events s (Idle seconds) within all = all

script-events : (s : ControlState) (commands : List Command) (v : ℕ) → are_lawful s commands ≡ true → AreEvents s.regs → AreEvents (fold after s (take v commands)).regs
unfolding is_lawful
script-events s commands zero lawful all = all
script-events s [] (suc v) lawful all = all
script-events s (c ∷ commands) (suc v) lawful all =
    let parts = and_parts (is_lawful s c) (are_lawful (after s c) commands) lawful in
    script-events (after s c) commands v parts.1 (command-events s c (and_parts _ _ parts.0).0 all)

in-force : (app : Meaning) (script : List Stamped) → IsLawful app → MayRun app script → (v : ℕ) → AreEvents (control_at app script v).regs
unfolding start control
in-force app script lawful may v =
    let fit = and_parts (list_all is_preset app.presets) (all_differ (map (λ r. r.number) app.presets)) lawful.presets in
    script-events (start app.presets) (commands_of script) v may (preset-events [] app.presets fit.0 refl)

-- ---- the report

module _ (app : Meaning) (script : List Stamped) (vs : List ℕ) (frames : List Captured) where
  abbrev given : List Captured → List VersionedPacket
  given = packets_with app script vs

  tidy_records : RecordsAreTidy → ((frames : List Captured) (vs : List ℕ) → IsTrue (rise 0 (packets_under app (commands_of script) vs (arrivals 0 frames)))) → IsLawful app → MayRun app script
      → IsTrue (tidy (shown app script (packets_with app script vs) frames))
  tidy_records law rising lawful may =
      law app (control_at app script) (greatest (arrivals 0 frames)) (packets_with app script vs frames) lawful (in-force app script lawful may) (rising frames vs)

  whole-by : (header : List ℕ) (rest : ℕ) (versions : List ℕ) (heavy : Bool) → (if heavy then refused Heavy else ended app script given Report header frames rest).ends ≡ Ok versions
      → (if heavy then refused Heavy else ended app script given Report header frames rest).text ≡ report_text (shown app script (packets_with app script vs) frames) (counted app script (packets_with app script vs) frames rest)
  whole-by header rest versions true ends = absurd (cc)
  whole-by header rest versions false ends = refl

  -- all of it was written
  whole : (header : List ℕ) (rest : ℕ) (versions : List ℕ) → (weighed app script given Report header frames rest).ends ≡ Ok versions
      → (weighed app script given Report header frames rest).text ≡ report_text (shown app script (packets_with app script vs) frames) (counted app script (packets_with app script vs) frames rest)
  whole header rest versions ends = whole-by header rest versions (is_heavy app script given Report frames) ends

pub report_read_back : GainedIsRead → RecordsAreTidy → ((app : Meaning) (commands : List Command) (frames : List Captured) (vs : List ℕ) → IsTrue (rise 0 (packets_under app commands vs (arrivals 0 frames))))
    → ReportIsReadBack
unfolding outcome_over
report_read_back gained law rising app script vs bytes f rest lawful may opened ends typed versions before after done read back =
    let types = typed f rest opened ends in
    let o = outcome_over app script (packets_with app script vs) Report bytes in
    let at : o ≡ weighed app script (packets_with app script vs) Report (take 24 bytes) f.frames rest =
    ap (λ r. outcome_by app script (packets_with app script vs) Report (take 24 bytes) r) opened
    ∙ ap (λ e. followed app script (packets_with app script vs) Report (take 24 bytes) f.frames e) ends in
    let text = ap (λ o. o.text) at ∙ whole app script vs f.frames (take 24 bytes) rest versions (sym (ap (λ o. o.ends) at) ∙ done.answered) in
    gained before after (Ok tt) (shown app script (packets_with app script vs) f.frames) (counted app script (packets_with app script vs) f.frames rest)
    (tidy_records app script vs f.frames law (rising app (commands_of script)) lawful may) types.records_fit types.counts_fit
    (subst (λ l. after ≡ before ++ l) text done.written) refl read back
