use Rattle.std.proofs.Common.{sym, ◌∙◌}
use Rattle.native_filters.specs.declared.facts.Hook.TheVariants.{Rcv}
use Rattle.shared_forest.specs.Listing.{listing}
use Rattle.connection_core.specs.InForce.{registered}
use Rattle.connection_core.specs.Trees.{active_in}
use Rattle.connection_core.proofs.Unheard.{receiver_silent}
use Rattle.connection_core.proofs.hearing.hears_receiver.Goals as goal

pub returns : goal.returns
returns c = λ is s from nth force.
    receiver_silent s (active_in (registered c.args.in_force.now) c.args.tree.now) c.heard.result.now (listing c.args.tree.now) c.args.head.now from nth c.args.got.now
    c.heard.ensures (λ event unheard facts. c.raises_call_who_hears.ensures.nobody s Rcv event force unheard facts) (sym (c.is_heard_at_receiver.ensures from nth) ∙ is)
