use Rattle.std.proofs.Common.{map, Some, subst, ◌≡◌}
use Rattle.std.specs.Prelude.{string_bytes}
use Rattle.mos_run.specs.Request.{Request, request_of}
use Rattle.mos_run.specs.Run.{FinishesUnder}
use Rattle.mos_program.proofs.run_program.Goals as goal

pub returns-in-Ok-clause-done : goal.returns-in-Ok-clause-done
returns-in-Ok-clause-done g c =
    rw (c.in-Ok.is, c.finished.ensures.ended, c.finished.ensures.out)
    (λ zero. subst (λ l. (t : Request) → request_of (map string_bytes l) (g.H.Shelf.content c.args.shelf.now) (g.S.Source.left c.args.capture.now) ≡ Some t
    → FinishesUnder t c.run_gathered.result.ended.versions (g.O.Sink.taken c.args.out) (g.O.Sink.taken c.run_gathered.result.out))
    c.as_slice.ensures.value (c.run_gathered.ensures.done zero))
