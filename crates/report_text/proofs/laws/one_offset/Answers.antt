use Rattle.report_text.proofs.ReadLaws.{one-offset}
use Rattle.report_text.proofs.laws.one_offset.Goals as goal

pub returns : goal.returns
returns c = one-offset
