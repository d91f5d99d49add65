use Rattle.std.proofs.Common.{rules}
use Rattle.ip6_views.proofs.PlainFrame.{plain_class, plain_ipv4, plain_sight}
use Rattle.ip6_views.proofs.plain.plain_layout.Goals as goal

pub returns-clause-sight : goal.returns-clause-sight
returns-clause-sight c =
    plain_sight c.args.frame.now (plain_ipv4 c.args.frame.now (search rules))
    (plain_class c.args.frame.now (search rules) (search rules) (search rules) (search rules) (search rules) (search rules) (search rules) (search rules))
