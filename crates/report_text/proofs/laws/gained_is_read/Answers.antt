use Rattle.report_text.proofs.ReadLaws.{gained-is-read}
use Rattle.report_text.proofs.laws.gained_is_read.Goals as goal

pub returns : goal.returns
returns c = gained-is-read
