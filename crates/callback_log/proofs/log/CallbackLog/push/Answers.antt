use Rattle.std.proofs.Common.{◌++◌, ◌∷◌, [], ap, ◌∙◌}
use Rattle.callback_log.proofs.Keeping.{Kept, entries_of-kept, peeks_in-kept}
use Rattle.callback_log.proofs.log.CallbackLog.push.Goals as goal

kept : (c : goal.After-push_reserved) → Kept c.self.inside.notes.items c.push_reserved.new.self.items c.self.inside.peeks.items c.keep_seen.new.peeks.items c.args.entry
kept c = record {
  note = (cc (c.push_reserved.ensures.items, c.make_room.ensures.same, c.has_seen.ensures));
  seen = c.in_ok-keep_seen.ensures.kept;
}

pub invariant_of-self-2 : goal.invariant_of-self-2
invariant_of-self-2 c = peeks_in-kept _ _ _ _ _ c.self.invariant (kept c)

pub returns-clause-kept : goal.returns-clause-kept
returns-clause-kept c =
    entries_of-kept _ _ _ _ _ c.self.invariant (kept c) ∙ ap (λ es. es ++ c.args.entry ∷ []) c.self.view_is
