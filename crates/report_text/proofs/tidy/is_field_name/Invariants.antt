use Rattle.std.proofs.Common.{◌≡◌, true, take}
use Rattle.std.specs.List.{list_all}
use Rattle.app_api.specs.App.{is_name_byte}
use Rattle.report_text.proofs.tidy.is_field_name.Given as goal

abbrev pub invariant-loop-byte : goal.invariant-loop-byte
invariant-loop-byte l = list_all is_name_byte (take l.byte-index l.name) ≡ true
