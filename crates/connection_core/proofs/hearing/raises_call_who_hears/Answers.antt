use Rattle.std.proofs.Common.{◌≡◌, [], ◌∷◌, ap, sym, subst, ◌∙◌, append-nil}
use Rattle.event_trees.specs.Defs.{AreDefs}
use Rattle.event_trees.specs.Later.{IsEarlier}
use Rattle.event_trees.specs.Fires.{fires}
use Rattle.event_trees.specs.Private.{IsPrivate, numbers_of}
use Rattle.connection_core.specs.InForce.{registered, defs_at}
use Rattle.connection_core.specs.Trees.{active_in}
use Rattle.connection_core.proofs.Earlier.{events_known, known_in, private_earlier}
use Rattle.connection_core.proofs.hearing.raises_call_who_hears.Goals as goal

pub returns-clause-nobody : goal.returns-clause-nobody
returns-clause-nobody c = λ s hook event force is facts.
    let lent = c.args.in_force.now in
    let list = active_in (registered lent) c.args.tree.now in
    let forest = c.requires.forest in
    let later = c.later_events_change_nothing.ensures in
    let earlier = subst (IsEarlier s.defs) (sym c.defs.ensures) force.defs in
    let known = known_in (registered lent) s.regs list force.regs forest.private.numbers forest.known in
    let there = subst (λ d. IsPrivate d list) (sym c.defs.ensures) forest.private in
    let private = private_earlier s.defs c.defs.result.now list (λ event is. later.paths s.defs event earlier is) (events_known s.defs s.regs list force.sound.private known) there in
    sym (later.fires s.defs list earlier private facts hook event) ∙
    subst (λ d. fires d facts hook event list ≡ []) (sym c.defs.ensures)
    (c.heard_where_registered.ensures.unheard (defs_at lent) list hook event (record { private = forest.private; listed = forest.listed }) is facts)

pub returns-clause-one : goal.returns-clause-one
returns-clause-one c = λ s hook event number force root is facts.
    let lent = c.args.in_force.now in
    let list = active_in (registered lent) c.args.tree.now in
    let forest = c.requires.forest in
    let later = c.later_events_change_nothing.ensures in
    let earlier = subst (IsEarlier s.defs) (sym c.defs.ensures) force.defs in
    let known = known_in (registered lent) s.regs list force.regs forest.private.numbers forest.known in
    let there = subst (λ d. IsPrivate d list) (sym c.defs.ensures) forest.private in
    let private = private_earlier s.defs c.defs.result.now list (λ event is. later.paths s.defs event earlier is) (events_known s.defs s.regs list force.sound.private known) there in
    let are : AreDefs (defs_at lent) = subst AreDefs c.defs.ensures (later.defs c.defs.result.now ([], append-nil c.defs.result.now)) in
    ap numbers_of (sym (later.fires s.defs list earlier private facts hook event)) ∙
    subst (λ d. numbers_of (fires d facts hook event list) ≡ number ∷ []) (sym c.defs.ensures)
    (c.one_hearer_is_called.ensures.one (defs_at lent) list hook event number (record { private = forest.private; listed = forest.listed }) are root is facts)
