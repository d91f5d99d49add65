use Rattle.std.proofs.Common.{◌≡◌, take, refl, sym, subst, ◌∙◌}
use Rattle.std.proofs.lemmas.List.{take_all}
use Rattle.connection_core.specs.InForce.{registered}
use Rattle.connection_core.specs.PacketUnderWay.{changed_all}
use Rattle.connection_core.specs.Trees.{active_in}
use Rattle.connection_core.specs.Standing.{Alters, Costs}
use Rattle.connection_core.proofs.Changing.{alters_nothing, alters_more, costs_of_front}
use Rattle.connection_core.proofs.Errors.{on_err_always}
use Rattle.connection_core.proofs.changes.change_all.Goals as goal

pub loop-asked-init : goal.loop-asked-init
loop-asked-init g c = record {
  stays = record { held = c.requires.held; kept = record { still_answered = λ s a. a; same_content = λ s a. refl } };
  made = λ s force. alters_nothing s (active_in (registered c.args.in_force.now) (g.F.ForestView.content c.args.forests.now c.args.forest.now)) (g.F.ForestView.interns c.args.forests.now);
}

pub loop-asked-preserved : goal.loop-asked-preserved
loop-asked-preserved g c =
    let inv = c.loop-asked.invariant in
    let before = inv.stays.kept in
    let kept = c.change.ensures.stays.kept in record {
      stays = record {
        held = c.change.ensures.stays.held;
        kept = record {
          still_answered = λ s a. kept.still_answered s (before.still_answered s a);
          same_content = λ s a. kept.same_content s (before.still_answered s a) ∙ before.same_content s a;
        };
      };
      made = λ s force. alters_more s c.args.changes.now c.loop-asked.asked-index _
          (active_in (registered c.args.in_force.now) (g.F.ForestView.content c.args.forests.now c.args.forest.now))
          (active_in (registered c.args.in_force.now) (g.F.ForestView.content c.loop-asked.forests c.loop-asked.forest))
          (active_in (registered c.args.in_force.now) (g.F.ForestView.content c.change.new.forests c.change.new.forest))
          (g.F.ForestView.interns c.args.forests.now) (g.F.ForestView.interns c.loop-asked.forests) (g.F.ForestView.interns c.change.new.forests)
          c.loop-asked-test.true (inv.made s force) (c.in_ok-change.ensures.made s force);
    }

pub returns-clause-made : goal.returns-clause-made
returns-clause-made g c = λ s force.
    let whole : take c.loop-asked.asked-index c.args.changes.now ≡ c.args.changes.now = take_all c.loop-asked.asked-index c.args.changes.now c.loop-asked-test.false in
    subst (λ l. Alters (active_in (registered c.args.in_force.now) (g.F.ForestView.content c.args.forests.now c.args.forest.now))
    (active_in (registered c.args.in_force.now) (g.F.ForestView.content c.loop-asked.forests c.loop-asked.forest))
    (g.F.ForestView.interns c.args.forests.now) (g.F.ForestView.interns c.loop-asked.forests) (changed_all s l)) whole (c.loop-asked.invariant.made s force)

pub returns-in_err-change-clause-failed : goal.returns-in_err-change-clause-failed
returns-in_err-change-clause-failed g c = on_err_always c.from_residual.result (λ s force.
    let content = g.F.ForestView.content in
    let interns = g.F.ForestView.interns in
    let list = active_in (registered c.args.in_force.now) (content c.args.forests.now c.args.forest.now) in
    subst (λ f. Costs list (interns c.args.forests.now) (interns f) (changed_all s c.args.changes.now)) (sym c.in_err-change.ensures.err)
    (costs_of_front s c.args.changes.now c.loop-asked.asked-index list (active_in (registered c.args.in_force.now) (content c.loop-asked.forests c.loop-asked.forest))
    (interns c.args.forests.now) (interns c.loop-asked.forests) (c.loop-asked.invariant.made s force)))
