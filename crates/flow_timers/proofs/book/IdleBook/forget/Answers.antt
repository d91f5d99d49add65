use Rattle.std.proofs.Common.{ap, ◌∙◌}
use Rattle.std.specs.FinMap as map
use Rattle.flow_timers.proofs.Entries.{removed}
use Rattle.flow_timers.proofs.book.IdleBook.forget.Goals as goal

pub returns-in-Some : goal.returns-in-Some
returns-in-Some c =
    removed c.self.inside.noted c.remove.new.self c.args.name c.remove.ensures.updates.0
    ∙ ap (λ m. map.remove m c.args.name) c.self.view_is

pub returns-in_default : goal.returns-in_default
returns-in_default c =
    removed c.self.inside.noted c.remove.new.self c.args.name c.remove.ensures.updates.0
    ∙ ap (λ m. map.remove m c.args.name) c.self.view_is
