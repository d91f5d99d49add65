use Rattle.std.proofs.Common.{◌≡◌, ◌+◌, ◌-◌, arith, ap, ◌∙◌, sym, not, eqb, length, slice_index, take, drop, length-drop}
use Rattle.std.proofs.lemmas.List.{take_rest}
use Rattle.reassembly.specs.Window.{byte_at}
use Rattle.reassembly.specs.Pages.{differing_in}
use Rattle.reassembly.proofs.Laid.{none_compared, some_compared}
use Rattle.reassembly.proofs.window.Window.compare.Goals as goal

pub returns-then-skip-bytes-clause-value : goal.returns-then-skip-bytes-clause-value
returns-then-skip-bytes-clause-value c =
    let w = c.args.self.now in
    sym (none_compared (w.next - c.args.rbuf) c.args.start (length c.args.bytes.now) (λ i. not (eqb (byte_at w (c.args.start + i)) (slice_index c.args.bytes.now i))) (omega arith))

pub returns-clause-value : goal.returns-clause-value
returns-clause-value c =
    let w = c.args.self.now in
    let bytes = c.args.bytes.now in
    let skip = c.count_under-skip.result in
    let n = length bytes in
    let rest = take (n - skip) (drop skip bytes) in
    let short : length rest ≡ n - skip = ap length (take_rest bytes skip) ∙ length-drop skip bytes in
    c.differing.ensures.value ∙ ap (differing_in w.bytes (c.args.start + skip) rest) short
    ∙ some_compared (w.next - c.args.rbuf) c.args.start skip n (n - skip) (byte_at w) bytes (omega arith) (omega arith)
