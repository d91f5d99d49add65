use Rattle.std.proofs.Common.{◌≡◌, ◌↔◌, ◌∙◌, None, [], sym, subst}
use Rattle.lane_core.specs.Run.{packets_of}
use Rattle.lane_core.proofs.Runs.{newest_none_is}
use Rattle.lane_core.proofs.Standing.{newest_below}
use Rattle.lane_core.proofs.lane.LaneRecorder.newest.Goals as goal

pub returns-clause-of_list : goal.returns-clause-of_list
returns-clause-of_list g c = λ events r. newest_below c.args.self.now.records.next c.checked_sub.result c.checked_sub.ensures ∙ sym r.newest

pub returns-clause-none : goal.returns-clause-none
returns-clause-none g c = λ events r.
    let is = newest_below c.args.self.now.records.next c.checked_sub.result c.checked_sub.ensures ∙ sym r.newest in
    subst (λ last. (last ≡ None) ↔ (packets_of events ≡ [])) (sym is) (newest_none_is events)
