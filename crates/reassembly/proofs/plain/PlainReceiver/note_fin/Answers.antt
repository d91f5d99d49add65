use Rattle.std.proofs.Common.{◌≡◌, ◌∙◌, ap, sym, refl, Some, None, Option, List, ℕ, to_z-of_z}
use Rattle.reassembly.specs.Receiver.{Receiver}
use Rattle.reassembly.specs.Fin.{is_free_from, natural_of, note_of, noted, fin_after}
use Rattle.reassembly.proofs.Fins.{note_is, refused_is, refused_fin, fin_is}
use Rattle.reassembly.proofs.plain.PlainReceiver.note_fin.Goals as goal

below : (c : goal.In_default) → natural_of c.args.position ≡ None
below c = ap natural_of (sym (to_z-of_z c.ranges.position)) ∙ sym c.natural.ensures ∙ c.in_default.is

pub returns-in_default-clause-answer : goal.returns-in_default-clause-answer
returns-in_default-clause-answer c = refused_is c.args.self.now c.args.position c.args.edge (below c)

pub returns-in_default-clause-after : goal.returns-in_default-clause-after
unfolding noted
returns-in_default-clause-after c = let r = c.args.self.now in
    ap (λ f. record { cells = r.cells; fin = f; offer = r.offer })
    (sym (refused_fin r c.args.position (below c)) ∙ ap (fin_after r c.args.position) (refused_is r c.args.position c.args.edge (below c)))

natural : (c : goal.After-fin-1) → natural_of c.args.position ≡ Some c.in-Some.position
natural c = ap natural_of (sym (to_z-of_z c.ranges.position)) ∙ sym c.natural.ensures ∙ c.in-Some.is

abbrev before : (c : goal.After-fin-1) → Receiver
before c = record { cells = c.self.inside.cells.items; fin = c.self.inside.fin; offer = c.self.inside.offer }

judged : (c : goal.After-fin-1) → c.judge-note.result ≡ note_of (before c) c.args.position c.args.edge
judged c = c.judge-note.ensures ∙ note_is (before c) c.args.position c.in-Some.position c.args.edge c.self.inside.fin c.is_free-free.result (natural c) refl
    (c.is_free-free.ensures ∙ ap (λ (cells : List (Option ℕ)). is_free_from cells c.in-Some.position) c.deref.ensures.value)

pub returns-clause-answer : goal.returns-clause-answer
returns-clause-answer c = judged c ∙ ap (λ (r : Receiver). note_of r c.args.position c.args.edge) c.self.view_is

pub returns-clause-after : goal.returns-clause-after
unfolding noted
returns-clause-after c =
    let r = before c in
    let fin : c.noted_after-fin.result ≡ fin_after r c.args.position (note_of r c.args.position c.args.edge)
    = c.noted_after-fin.ensures ∙ fin_is r c.args.position c.in-Some.position c.self.inside.fin c.judge-note.result (natural c) refl ∙ ap (fin_after r c.args.position) (judged c) in
    let told : record { cells = r.cells; fin = c.noted_after-fin.result; offer = r.offer } ≡ noted r c.args.position c.args.edge
    = ap (λ f. record { cells = r.cells; fin = f; offer = r.offer }) fin in
    told ∙ ap (λ (x : Receiver). noted x c.args.position c.args.edge) c.self.view_is
