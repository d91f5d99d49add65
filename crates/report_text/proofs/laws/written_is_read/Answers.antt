use Rattle.report_text.proofs.ReadLaws.{written-is-read}
use Rattle.report_text.proofs.laws.written_is_read.Goals as goal

pub returns : goal.returns
returns c = written-is-read
