use Rattle.std.proofs.Common.{◌≡◌, true, take}
use Rattle.std.specs.List.{list_all}
use Rattle.app_api.specs.App.{is_field_name}
use Rattle.report_text.proofs.tidy.are_named.Given as goal

abbrev pub invariant-loop-name : goal.invariant-loop-name
invariant-loop-name l = list_all (λ f. is_field_name f.0) (take l.name-index l.fields) ≡ true
