use Rattle.mos_run.specs.Runs.{wanted_by}
use Rattle.mos_run.proofs.Outcomes.{answers_typed, under_one, under_several}
use Rattle.mos_run.proofs.run.run_asked.Goals as goal

pub returns-then-task-eq1 : goal.returns-then-task-eq1
returns-then-task-eq1 g c =
    let law = c.what_one_worker_has_is_allowed.ensures in
    let one = c.run_one_with.ensures.ran in
    record {
      ran = record {
        comes_to = λ bytes told.
            under_one (wanted_by g.A.App.meaning c.args.task.now) bytes (g.O.Sink.taken c.args.out.now) (g.O.Sink.taken c.run_one_with.new.out) law.allowed law.outcome c.len.ensures.order c.run_one_with.result
            (one.comes_to bytes told)
            (answers_typed (wanted_by g.A.App.meaning c.args.task.now) (g.S.Source.left c.args.capture.now) bytes c.run_one_with.result c.run_one_with.ensures.typed told);
        read = one.read;
        made = one.made;
        silent = one.silent;
        reads = one.reads;
        from = one.from;
        to = one.to;
      };
    }

pub returns : goal.returns
returns g c =
    let many = c.run_several_with.ensures.ran in
    record {
      ran = record {
        comes_to = λ bytes told.
            under_several (wanted_by g.A.App.meaning c.args.task.now) bytes (g.O.Sink.taken c.args.out.now) (g.O.Sink.taken c.run_several_with.new.out) c.if-task-eq1.false
            c.run_several_with.result (many.comes_to bytes told)
            (answers_typed (wanted_by g.A.App.meaning c.args.task.now) (g.S.Source.left c.args.capture.now) bytes c.run_several_with.result c.run_several_with.ensures.typed told);
        read = many.read;
        made = many.made;
        silent = many.silent;
        reads = many.reads;
        from = many.from;
        to = many.to;
      };
    }
