use Rattle.std.proofs.Common.{◌≡◌, ◌++◌, [], ap, ◌∙◌, sym, map}
use Rattle.std.proofs.lemmas.List.{append-nil}
use Rattle.reassembly.specs.Waiting.{run_of}
use Rattle.reassembly.proofs.Listed.{part_ordered}
use Rattle.reassembly.proofs.waiting.Runs.copied.Goals as goal

pub returns : goal.returns
returns c =
    let met = c.loop-start.met.items in
    let nothing : c.loop-start.start-iterator ≡ [] = c.in-None.ensures.steps.0 in
    let all = sym (append-nil met) ∙ ap (λ rest. met ++ map run_of rest) (sym nothing) ∙ c.loop-start.invariant in
    let part = c.range-start-items.ensures.contiguous in
    let same = ap (map run_of) (sym (c.range-start-items.ensures.between tt) ∙ part.2) in
    (all, rw (all ∙ same) (part_ordered c.args.self.now.map.entries part.0 part.1 c.requires.ordered))
