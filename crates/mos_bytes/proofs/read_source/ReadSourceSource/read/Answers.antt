-- With nothing read ahead, the reader's own bytes are all that is left.
use Rattle.std.proofs.Common.{◌≡◌, ◌-◌, drop, take, ap, arith}
use Rattle.mos_bytes.proofs.Ahead.{direct_read}
use Rattle.mos_bytes.proofs.read_source.ReadSourceSource.read.Goals as goal

pub returns-then-buf-ge-BUFFER-clause-reads : goal.returns-then-buf-ge-BUFFER-clause-reads
returns-then-buf-ge-BUFFER-clause-reads g c =
    let s = c.args.self.now in
    let none : s.end - s.start ≡ 0 = omega (arith, c.if-self.true) in
    let reads = c.read_once.ensures.reads in
    record { bound = reads.bound; bytes = direct_read _ _ _ _ _ (ap (λ k. take k (drop s.start s.buffer)) none) reads.bytes }
