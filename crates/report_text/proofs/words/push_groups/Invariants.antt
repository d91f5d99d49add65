use Rattle.std.proofs.Common.{◌≡◌, ◌++◌, string_bytes, drop}
use Rattle.report_text.specs.Words.{groups_text}
use Rattle.report_text.proofs.words.push_groups.Given as goal

-- the text so far and that of the groups to come are the whole text
abbrev pub invariant-loop-group : goal.invariant-loop-group
invariant-loop-group l = string_bytes l.line ++ groups_text (drop l.group-index l.groups) ≡ string_bytes l.initial.line ++ groups_text l.groups
