-- A lane that takes a script's commands.
use Rattle.std.proofs.Common.{◌≡◌, ◌≢◌, ℕ, zero, suc, ◌+◌, ◌<◌, true, Option, Some, None, List, [], ◌∷◌, ◌++◌, length, map, take, drop, refl, sym, ap, subst, ◌∙◌, append_assoc, arith}
use Rattle.std.specs.Prelude.{slice_get, Result, Ok, Err, OnOk, IfErr}
use Rattle.std.specs.List.{fold}
use Rattle.std.proofs.lemmas.Bool.{and_parts}
use Rattle.std.proofs.lemmas.List.{append-nil, length-append, length-map, map-append}
use Rattle.std.proofs.lemmas.List.Sums.{fold-append}
use mathlib.Core.List.{IsPrefix}
use Rattle.app_api.specs.declared.registration.Reg.{Reg}
use Rattle.forest_versions.specs.declared.command.Command.{Command}
use Rattle.forest_versions.specs.Lawful.{are_lawful, is_lawful}
use Rattle.forest_versions.specs.State.{ControlState, start, after, control}
use Rattle.control_script.specs.declared.stamped.Stamped.{Stamped}
use Rattle.control_script.specs.Order.{commands_of}
use Rattle.lane_core.specs.declared.recorder.Recorder.{Ghosts}
use Rattle.lane_core.specs.declared.errors.LaneError.{LaneError}
use Rattle.lane_core.specs.declared.errors.LaneError.TheVariants.{NoMemory, Heavy}
use Rattle.lane_core.specs.Run.{LaneEvent, Gave}
use Rattle.lane_core.specs.Lane.{with_event}
use Rattle.lane_worker.specs.Given.{IsUnder, TakesCommands, TakesNext}
use Rattle.lane_worker.proofs.Fronts.{next_one, next_two, take-two}
use Rattle.lane_worker.proofs.Composed.{by_failure}

-- ---- the next command of a script

lawful_from : (s : ControlState) (cs : List Command) (v : ℕ) (c : Command) → are_lawful s cs ≡ true → slice_get cs v ≡ Some c → is_lawful (fold after s (take v cs)) c ≡ true
lawful_from s [] v c all at = absurd (cc)
lawful_from s (d ∷ cs) zero c all at =
    let same : d ≡ c = cc in
    subst (λ x. is_lawful s x ≡ true) same (and_parts (is_lawful s d) (are_lawful (after s d) cs) all).0
lawful_from s (d ∷ cs) (suc v) c all at = lawful_from (after s d) cs v c (and_parts (is_lawful s d) (are_lawful (after s d) cs) all).1 at

-- a command is lawful where it stands
pub lawful_at : (presets : List Reg) (cs : List Command) (v : ℕ) (c : Command) → are_lawful (start presets) cs ≡ true → slice_get cs v ≡ Some c → is_lawful (control presets (take v cs)) c ≡ true
unfolding control
lawful_at presets cs v c all at = lawful_from (start presets) cs v c all at

-- what is in force after one command more
control-more : (presets : List Reg) (cs : List Command) (v : ℕ) (c : Command) → slice_get cs v ≡ Some c → control presets (take (v + 1) cs) ≡ after (control presets (take v cs)) c
unfolding control
control-more presets cs v c at = ap (fold after (start presets)) (take-two cs (c ∷ []) v (next_one cs v c at)) ∙ fold-append after (start presets) (take v cs) (c ∷ [])

none_past : {T : Type 0} (xs : List T) (v : ℕ) → slice_get xs v ≡ None → v < length xs → ⊥
none_past [] v none less = omega (arith, less)
none_past (x ∷ xs) zero none less = cc
none_past (x ∷ xs) (suc v) none less = none_past xs v none (omega (arith, less))

-- a command stands in each place of a script
pub no_command : (script : List Stamped) (v : ℕ) → slice_get (commands_of script) v ≡ None → v < length script → ⊥
no_command script v none less = none_past (commands_of script) v none (let same = length-map script (λ s. s.command) in omega (arith, less, same))

-- what an error says, where there is none
when_well : {T E P : Type 0} (r : Result T E) (f : Option E) → OnOk r P → IfErr r (λ e. f ≡ Some e) → f ≡ None → P
when_well (Ok x) f p fails well = p
when_well (Err e) f p fails well = absurd (cc)

never_heavy : {T : Type 0} (r : Result T LaneError) (f : Option LaneError) → OnOk r (f ≡ None) → IfErr r (λ e. f ≡ Some e) → IfErr r (λ e. e ≡ NoMemory) → f ≡ Some Heavy → ⊥
never_heavy (Ok x) f ok fails memory is = cc
never_heavy (Err e) f ok fails memory is = cc

module _ {L : Type 0} (g : Ghosts L) (script : List Command) where
  -- a command of the script, given where it stands
  pub takes_next : {T : Type 0} (a b : L) (c : Command) (r : Result T LaneError) → slice_get script (g.given a) ≡ Some c → IsUnder g script a
      → ((events : List LaneEvent) → g.stands a events → g.stands b (with_event (Gave c) events)) → OnOk r (g.failed b ≡ None) → IfErr r (λ e. g.failed b ≡ Some e) → IfErr r (λ e. e ≡ NoMemory)
      → OnOk r (g.control b ≡ after (g.control a) c) → OnOk r (g.given b ≡ g.given a + 1) → g.last b ≡ g.last a → g.app b ≡ g.app a → g.keeps b ≡ g.keeps a → TakesNext g script a b
  takes_next a b c r at under stands ok fails memory in_force version newest app keeps = record {
    command = c;
    next = at;
    stands = stands;
    newest = newest;
    app = app;
    keeps = keeps;
    version = when_well r (g.failed b) version fails;
    under = λ well.
        let now = when_well r (g.failed b) in_force fails well in
        let v = when_well r (g.failed b) version fails well in
        now ∙ ap (λ s. after s c) under ∙ sym (control-more (g.app a).presets script (g.given a) c at)
        ∙ ap (λ n. control (g.app a).presets (take n script)) (sym v) ∙ ap (λ m. control m.presets (take (g.given b) script)) (sym app);
    light = never_heavy r (g.failed b) ok fails memory;
  }

  -- ---- one after another

  unfoldable pub takes_nothing : (a : L) → g.failed a ≡ None → TakesCommands g script a a
  takes_nothing a well = record {
    done = [];
    bad = [];
    next = (drop (g.given a) script, refl);
    stands = λ events s. subst (g.stands a) (sym (append-nil events)) s;
    newest = refl;
    app = refl;
    keeps = refl;
    good = λ ok. refl;
    version = λ ok. omega arith;
    one = λ failed. absurd (failed well);
    light = λ is. cc;
  }

  module _ (a b c : L) (p : TakesCommands g script a b) (well : g.failed b ≡ None) (step : TakesNext g script b c) where
    -- one command more, which went well or not
    abbrev pub OneMore : Type 0
    OneMore = (all : TakesCommands g script a c) × (length (all.done ++ all.bad) ≡ length (p.done ++ p.bad) + 1)

    abbrev more : List Command
    more = p.done ++ step.command ∷ []

    all_done : p.done ++ p.bad ≡ p.done
    all_done = ap (λ l. p.done ++ l) (p.good well) ∙ append-nil p.done

    next_more : IsPrefix more (drop (g.given a) script)
    next_more =
        next_two script p.done (step.command ∷ []) (g.given a)
        (subst (λ l. IsPrefix l (drop (g.given a) script)) all_done p.next)
        (subst (λ v. IsPrefix (step.command ∷ []) (drop v script)) (p.version well) (next_one script (g.given b) step.command step.next))

    stands_more : (events : List LaneEvent) → g.stands a events → g.stands c (events ++ map Gave more)
    stands_more events s =
        let before : g.stands b (events ++ map Gave p.done) = subst (λ l. g.stands b (events ++ map Gave l)) all_done (p.stands events s) in
        subst (g.stands c) (append_assoc events (map Gave p.done) (Gave step.command ∷ []) ∙ ap (λ l. events ++ l) (sym (map-append Gave p.done (step.command ∷ []))))
        (step.stands (events ++ map Gave p.done) before)

    count_more : length more ≡ length (p.done ++ p.bad) + 1
    count_more = length-append p.done (step.command ∷ []) ∙ ap (λ l. length l + 1) (sym all_done)

    more_well : g.failed c ≡ None → OneMore
    more_well ok = (
      record {
        done = more;
        bad = [];
        next = subst (λ l. IsPrefix l (drop (g.given a) script)) (sym (append-nil more)) next_more;
        stands = λ events s. subst (λ l. g.stands c (events ++ map Gave l)) (sym (append-nil more)) (stands_more events s);
        newest = step.newest ∙ p.newest;
        app = step.app ∙ p.app;
        keeps = step.keeps ∙ p.keeps;
        good = λ is. refl;
        version = λ is. let e = length-append p.done (step.command ∷ []) in let v = p.version well in let w = step.version ok in omega (arith, e, v, w);
        one = λ failed. absurd (failed ok);
        light = step.light;
      },
      ap length (append-nil more) ∙ count_more,
    )

    more_bad : g.failed c ≢ None → OneMore
    more_bad failed = (
      record {
        done = p.done;
        bad = step.command ∷ [];
        next = next_more;
        stands = stands_more;
        newest = step.newest ∙ p.newest;
        app = step.app ∙ p.app;
        keeps = step.keeps ∙ p.keeps;
        good = λ ok. absurd (failed ok);
        version = λ ok. absurd (failed ok);
        one = λ is. refl;
        light = step.light;
      },
      count_more,
    )

    pub takes_more : OneMore
    takes_more = by_failure (g.failed c) more_well more_bad
