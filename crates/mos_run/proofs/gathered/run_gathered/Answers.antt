use Rattle.std.proofs.Common.{map}
use Rattle.std.specs.Prelude.{string_bytes}
use Rattle.words.specs.Words.{words_settings}
use Rattle.mos_run.specs.Request.{app_in}
use Rattle.mos_run.proofs.Chosen.{ran_refused}
use Rattle.mos_run.proofs.gathered.run_gathered.Goals as goal

pub returns-in-Err-clause-ran : goal.returns-in-Err-clause-ran
returns-in-Err-clause-ran g c =
    let settings = words_settings (map string_bytes c.args.words.now) in
    let told = c.refuse-ended.ensures in
    ran_refused g.S.Source g.H.Shelf g.O.Sink g.E.Sink (app_in settings) settings _ _ _ _ _ _
    c.in-Err.error c.from.result c.from.ensures c.what_one_worker_has_is_allowed.ensures.allowed c.in-Err.ensures.usage
    told.status told.usage told.versions told.told told.lasts
