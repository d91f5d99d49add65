use Rattle.std.proofs.Common.{◌∙◌, map, string_bytes}
use Rattle.clap.specs.Simple.{app_of}
use Rattle.words.proofs.Whole.{found_by, refused_by}
use Rattle.words.proofs.parse.parsed.Goals as goal

pub returns-in-Ok-clause-ok : goal.returns-in-Ok-clause-ok
returns-in-Ok-clause-ok c =
    found_by (app_of c.in_ok-command.field-0) (map string_bytes c.args.words.now) c.in-Ok.matches c.in_ok-command.ensures c.requires c.in-Ok.ensures.kinds c.in-Ok.ensures.matches

pub returns-in-Err-clause-usage : goal.returns-in-Err-clause-usage
returns-in-Err-clause-usage c = λ usage.
    refused_by (app_of c.in_ok-command.field-0) (map string_bytes c.args.words.now) c.in-Err.error c.in_ok-command.ensures c.requires c.in-Err.ensures.kinds
    (λ memory. c.refusal.ensures usage (c.kind.ensures ∙ memory))
