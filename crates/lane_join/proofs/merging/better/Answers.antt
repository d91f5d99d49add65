use Rattle.std.proofs.Common.{sym, ap, subst, ◌∙◌, Some, ◌+◌, length}
use Rattle.std.proofs.lemmas.Bool.{ltb-true}
use Rattle.lane_join.specs.Queues.{first_name, IsBest}
use Rattle.lane_join.proofs.Lowest.{best_more, first_known}
use Rattle.lane_join.proofs.merging.better.Goals as goal

pub returns-in-Some : goal.returns-in-Some
returns-in-Some c ls at best =
    let first = c.in-Some.first.now in
    let own = ap first_name at ∙ first_known c.args.queue.now.records.items first (ltb-true 0 (length c.args.queue.now.records.items) (sym c.in-Some.ensures.item.0)) ∙ ap (λ r. Some r.name) (sym c.in-Some.ensures.lookup) in
    subst (λ b. IsBest b ls (c.args.place + 1)) (sym c.lower.ensures) (best_more c.args.best ls c.args.place first.name best own)
