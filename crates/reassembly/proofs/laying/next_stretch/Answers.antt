use Rattle.std.proofs.Common.{◌<◌, ◌≤◌, arith}
use Rattle.reassembly.specs.Runs.{run_at}
use Rattle.reassembly.proofs.Covered.{covered_by, in_gap, cursor_stays, cursor_next}
use Rattle.reassembly.proofs.laying.next_stretch.Goals as goal

-- behind the last run
pub returns-then-cursor-runs : goal.returns-then-cursor-runs
returns-then-cursor-runs c =
    let runs = c.args.runs.now in
    record {
      some = omega arith;
      within = omega arith;
      cursor = record {
        within = omega arith;
        before = λ j l. let e : (run_at runs j).end ≤ c.args.from = c.requires.cursor.before j l in omega arith;
        after = λ j l w. absurd (omega arith);
      };
      alike = λ p low below. in_gap runs c.args.cursor c.args.from p c.requires.ordered c.requires.cursor low (λ w. absurd (omega arith));
    }

-- below the run that the cursor shows
pub returns-then-from-run : goal.returns-then-from-run
returns-then-from-run c =
    let runs = c.args.runs.now in
    let within = c.requires.cursor.within in
    let filled : (run_at runs c.args.cursor).start < (run_at runs c.args.cursor).end = c.requires.ordered.filled c.args.cursor (omega arith) in
    record {
      some = omega arith;
      within = omega arith;
      cursor = cursor_stays runs c.args.cursor c.args.from c.min-end.result c.requires.ordered c.requires.cursor (omega arith) (omega arith) (omega arith);
      alike = λ p low below. in_gap runs c.args.cursor c.args.from p c.requires.ordered c.requires.cursor low (λ w. omega arith);
    }

-- the rest of that run
pub returns-then-run-stop : goal.returns-then-run-stop
returns-then-run-stop c =
    let runs = c.args.runs.now in
    let within = c.requires.cursor.within in
    let below : c.args.from < (run_at runs c.args.cursor).end = c.requires.cursor.after c.args.cursor (omega arith) (omega arith) in
    record {
      some = below;
      within = omega arith;
      cursor = cursor_next runs c.args.cursor c.args.from c.requires.ordered c.requires.cursor (omega arith) (omega arith);
      alike = λ p low high. covered_by runs c.args.cursor p (omega arith) (omega arith) high;
    }

-- that run up to the end of the segment
pub returns : goal.returns
returns c =
    let runs = c.args.runs.now in
    let within = c.requires.cursor.within in
    record {
      some = omega arith;
      within = omega arith;
      cursor = cursor_stays runs c.args.cursor c.args.from c.args.stop c.requires.ordered c.requires.cursor (omega arith) (omega arith) (omega arith);
      alike = λ p low high. covered_by runs c.args.cursor p (omega arith) (omega arith) (omega arith);
    }
