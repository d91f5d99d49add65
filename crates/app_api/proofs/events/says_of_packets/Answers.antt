use Rattle.std.proofs.Common.{arith}
use Rattle.app_api.proofs.Hooks.{packets-at, no-packets-at}
use Rattle.app_api.proofs.events.says_of_packets.Goals as goal

pub returns-then-place-rows : goal.returns-then-place-rows
returns-then-place-rows c = λ table same. no-packets-at table c.args.rows.now c.args.place same (omega arith)

pub returns : goal.returns
returns c = λ table same. packets-at table c.args.rows.now c.args.place _ same (omega arith)
