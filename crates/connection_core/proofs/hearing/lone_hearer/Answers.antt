use Rattle.std.proofs.Common.{refl}
use Rattle.std.proofs.lemmas.Option.{IfSome_then}
use Rattle.connection_core.proofs.hearing.lone_hearer.Goals as goal

pub returns : goal.returns
returns c = IfSome_then c.lone.result c.lone.ensures (λ number lone. λ s force. record {
  one = λ facts. c.raises_call_who_hears.ensures.one s c.args.hook 257 number force refl lone.one facts;
  others = λ facts event known apart. c.raises_call_who_hears.ensures.nobody s c.args.hook event force (lone.others event known apart) facts;
})
