use Rattle.report_text.proofs.FirstPlace.{first_place}
use Rattle.report_text.proofs.newline.newline_in.Goals as goal

pub returns-clause-place : goal.returns-clause-place
returns-clause-place c = first_place _ _ _ c.memchr.ensures
