-- The last interface, resolved before it is added.
use Rattle.std.proofs.Common.{sym}
use Rattle.pcapng_source.proofs.Resolutions.{resolved-added}
use Rattle.pcapng_source.proofs.section.Section.resolve.Goals as goal

pub returns-in-Some : goal.returns-in-Some
returns-in-Some c =
    rw (← c.self.view_is, c.push.ensures.items, c.told-resolution.ensures, c.in-Some.ensures.items)
    (sym (resolved-added (record { order = c.self.inside.order; interfaces = c.pop.new.self.items }) c.in-Some.last c.args.byte))
