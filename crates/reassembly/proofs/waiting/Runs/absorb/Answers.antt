use Rattle.std.proofs.Common.{◌≡◌, ◌≤◌, ap, ◌∙◌, sym, arith, List, ◌∷◌, max, ltb, ◌||◌}
use Rattle.reassembly.specs.declared.runs.Run.{Run}
use Rattle.reassembly.specs.Runs.{AreWithin, is_covered}
use Rattle.reassembly.specs.Waiting.{runs_of}
use Rattle.reassembly.proofs.Absorbed.{rest_ordered, rest_within, accepted_more}
use Rattle.reassembly.proofs.waiting.Runs.absorb.Goals as goal

pub loop-run_end-preserved : goal.loop-run_end-preserved
loop-run_end-preserved c =
    let old = c.loop-run_end.invariant in
    let some = c.in-Some.ensures.some in
    let run : Run = some.0 in
    let rest : List Run = runs_of c.pop_touching.new.self in
    let split : runs_of c.loop-run_end.self ≡ run ∷ rest = some.1 in
    let from : run.start ≤ c.loop-run_end.end = some.2 in
    let top : c.max-end.result ≡ max c.loop-run_end.end run.end = c.max-end.ensures ∙ ap (max c.loop-run_end.end) some.3 in
    record {
      rises = let r : c.args.high ≤ c.loop-run_end.end = old.rises in omega arith;
      ordered = rest_ordered run rest (rw split at old.ordered);
      accepted = λ p. ap (λ e. ltb p e || is_covered rest p) top ∙ accepted_more run rest c.loop-run_end.end p from
          ∙ ap (λ (runs : List Run). ltb p c.loop-run_end.end || is_covered runs p) (sym split) ∙ old.accepted p;
      within = λ m l w.
          let before = old.within m l w in
          let all : AreWithin (run ∷ rest) m = rw split at before.1 in
          let here : run.end ≤ m = all.each 0 (omega arith) in
          (omega arith, rest_within run rest m all);
    }
