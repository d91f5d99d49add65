use Rattle.std.proofs.Common.{ap, sym, ◌∙◌, arith}
use Rattle.std.specs.Prelude.{slice_get}
use Rattle.app_api.specs.Events.{raised_at}
use Rattle.app_api.proofs.Hooks.{sender-at, receiver-at, none-at}
use Rattle.app_api.proofs.events.says.Goals as goal

pub returns-then-place-rows : goal.returns-then-place-rows
returns-then-place-rows c = λ table sender receiver. none-at table c.args.rows.now c.args.place c.args.hook sender (omega arith)

pub returns-in-Snd : goal.returns-in-Snd
returns-in-Snd c = λ table sender receiver.
    sender-at table c.args.rows.now c.args.place _ sender (omega arith) ∙ ap (raised_at (slice_get table c.args.place)) (sym c.in-Snd.is)

pub returns-in-Rcv : goal.returns-in-Rcv
returns-in-Rcv c = λ table sender receiver.
    receiver-at table c.args.rows.now c.args.place _ receiver (omega arith) ∙ ap (raised_at (slice_get table c.args.place)) (sym c.in-Rcv.is)
