use Rattle.mos_run.proofs.ReadBack.{report_of_run}
use Rattle.mos_run.proofs.reports.a_report_of_a_run_is_read_back.Goals as goal

pub returns : goal.returns
returns c = report_of_run c.a_report_is_read_back.ensures
