use Rattle.std.proofs.Common.{◌+◌, ◌*◌, length, ap, sym, ◌∙◌}
use Rattle.capture_maker.specs.Made.{made}
use Rattle.capture_maker.proofs.Sizes.{length-made}
use Rattle.capture_maker.proofs.maker.Maker.size.Goals as goal

pub returns-clause-whole : goal.returns-clause-whole
returns-clause-whole c =
    ap (λ n. 24 + 1064 * n) c.from.ensures ∙ sym (length-made c.self.inside.count) ∙ ap (λ m. length (made m.count)) c.self.view_is
