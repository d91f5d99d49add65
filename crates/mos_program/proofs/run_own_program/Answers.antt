use Rattle.std.proofs.Common.{map, Some, subst, ◌≡◌}
use Rattle.std.specs.Prelude.{string_bytes}
use Rattle.mos_run.specs.Request.{Request, request_for}
use Rattle.mos_run.specs.Run.{FinishesUnder}
use Rattle.mos_program.proofs.run_own_program.Goals as goal

pub returns-in-Ok-clause-done : goal.returns-in-Ok-clause-done
returns-in-Ok-clause-done g c =
    rw (c.in-Ok.is, c.finished.ensures.ended, c.finished.ensures.out)
    (λ zero. subst (λ l. (t : Request) → request_for (g.A.App.meaning c.args.app) (map string_bytes l) (g.H.Shelf.content c.args.shelf.now) (g.S.Source.left c.args.capture.now) ≡ Some t
    → FinishesUnder t c.run_application.result.ended.versions (g.O.Sink.taken c.args.out) (g.O.Sink.taken c.run_application.result.out))
    c.as_slice.ensures.value (c.run_application.ensures.done zero))
