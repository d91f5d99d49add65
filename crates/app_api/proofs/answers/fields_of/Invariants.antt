use Rattle.std.proofs.Common.{◌≡◌, take}
use Rattle.app_api.proofs.answers.fields_of.Given as goal

abbrev pub invariant-loop-place : goal.invariant-loop-place
invariant-loop-place g l = l.items.items ≡ take l.place ((g.A.App.meaning l.app).fields l.t)
