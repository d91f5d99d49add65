use Rattle.report_text.proofs.ReadLaws.{read-is-written}
use Rattle.report_text.proofs.laws.read_is_written.Goals as goal

pub returns : goal.returns
returns c = read-is-written
