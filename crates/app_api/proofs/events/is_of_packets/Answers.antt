use Rattle.std.proofs.Common.{ap, ◌∙◌, refl}
use Rattle.std.specs.Prelude.{slice_get}
use Rattle.app_api.specs.Events.{is_of_packets, built_ins, raised_by_packets}
use Rattle.app_api.proofs.events.is_of_packets.Goals as goal

pub returns : goal.returns
unfolding is_of_packets
returns c = c.says_of_packets.ensures built_ins refl ∙ ap (λ i. raised_by_packets (slice_get built_ins i)) c.place_of.ensures
