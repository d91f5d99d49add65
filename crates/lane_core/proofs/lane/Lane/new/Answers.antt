use Rattle.std.proofs.Common.{[], ◌∙◌, refl, ap, subst}
use Rattle.forest_versions.specs.Master.{StandsFor}
use Rattle.forest_versions.specs.State.{start, control}
use Rattle.lane_core.specs.Records.{records_from}
use Rattle.lane_core.specs.Run.{lane_run}
use Rattle.lane_core.specs.Shown.{total}
use Rattle.lane_core.proofs.lane.Lane.new.Goals as goal

pub returns-clause-stands : goal.returns-clause-stands
unfolding lane_run records_from total
returns-clause-stands g c =
    let begins = c.in_ok-records.ensures in
    let stands = subst (λ ps. StandsFor c.in_ok-records.records.master ps []) (c.deref.ensures.value ∙ c.in_ok-presets.ensures) begins.commands in
    record {
      newest = rw begins.next refl;
      commands = λ none. stands;
      records = λ none. begins.stands c.args.keep;
      dropped = λ none. begins.dropped;
      heavy = λ is. absurd (cc);
    }

pub returns-clause-control : goal.returns-clause-control
unfolding control
returns-clause-control g c = c.in_ok-records.ensures.commands.now ∙ ap start (c.deref.ensures.value ∙ c.in_ok-presets.ensures)
