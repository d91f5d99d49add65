use Rattle.std.proofs.Common.{◌≡◌, true, take}
use Rattle.std.specs.List.{list_all}
use Rattle.report_text.specs.Tidy.{has_byte}
use Rattle.report_text.proofs.tidy.have_bytes.Given as goal

abbrev pub invariant-loop-bytes : goal.invariant-loop-bytes
invariant-loop-bytes l = list_all has_byte (take l.bytes-index l.pieces) ≡ true
