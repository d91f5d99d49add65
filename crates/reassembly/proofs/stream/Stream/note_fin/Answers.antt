use Rattle.std.proofs.Common.{◌≡◌, ◌∙◌, ap, sym, refl, ⊎_elim, subst, true, false, Some, None, to_z-of_z}
use Rattle.std.proofs.lemmas.Bool.{cases_Bool}
use Rattle.reassembly.specs.Receiver.{Receiver}
use Rattle.reassembly.specs.Fin.{is_free_from, natural_of, note_of, noted, fin_after}
use Rattle.reassembly.specs.View.{StreamView, StandsFor}
use Rattle.reassembly.specs.Buffer.{window_of}
use Rattle.reassembly.specs.Window.{view_of}
use Rattle.reassembly.proofs.Fins.{is_free, is_taken, note_is, refused_is, refused_fin, stands_noted, fin_is, fin_bound}
use Rattle.reassembly.proofs.stream.Stream.note_fin.Goals as goal

below : (c : goal.In_default) → natural_of c.args.position ≡ None
below c = ap natural_of (sym (to_z-of_z c.ranges.position)) ∙ sym c.natural.ensures ∙ c.in_default.is

pub returns-in_default-clause-answer : goal.returns-in_default-clause-answer
returns-in_default-clause-answer c r h = refused_is r c.args.position c.args.edge (below c)

pub returns-in_default-clause-stands : goal.returns-in_default-clause-stands
returns-in_default-clause-stands c r h =
    let answer = refused_is r c.args.position c.args.edge (below c) in
    stands_noted c.args.self.now c.args.self.now r c.args.position c.args.edge h refl refl refl
    (h.fin ∙ sym (refused_fin r c.args.position (below c)) ∙ ap (fin_after r c.args.position) answer)

pub invariant_of-self : goal.invariant_of-self
invariant_of-self c =
    let old = c.self.invariant.0 in
    let bound = fin_bound (window_of c.self.inside.buffer) c.self.inside.fin c.in-Some.position c.args.edge c.is_free_from-free.result c.judge-note.result
    c.judge-note.ensures c.is_free_from-free.ensures.free old.fin in
    (record { laid = old.laid; sized = old.sized; least = old.least; most = old.most; fin = λ f e. bound f (sym c.noted_after-fin.ensures ∙ e) }, c.self.invariant.1)

natural : (c : goal.After-fin-1) → natural_of c.args.position ≡ Some c.in-Some.position
natural c = ap natural_of (sym (to_z-of_z c.ranges.position)) ∙ sym c.natural.ensures ∙ c.in-Some.is

-- whether bytes were accepted there, by whichever receiver
free : (c : goal.After-fin-1) (r : Receiver) → StandsFor (view_of (window_of c.self.inside.buffer) c.self.inside.fin c.self.inside.rbuf) r
    → c.is_free_from-free.result ≡ is_free_from r.cells c.in-Some.position
free c r h =
    let s = c.self.inside in
    ⊎_elim
    (λ (t : c.is_free_from-free.result ≡ true). t ∙ is_free (window_of s.buffer) s.fin s.rbuf c.in-Some.position c.self.invariant.0.laid (c.is_free_from-free.ensures.free t) r h)
    (λ (t : c.is_free_from-free.result ≡ false).
    let taken = c.is_free_from-free.ensures.taken t in
    t ∙ is_taken (window_of s.buffer) s.fin s.rbuf c.in-Some.position taken.0 c.self.invariant.0.laid taken.1 taken.2 r h)
    (cases_Bool c.is_free_from-free.result)

judged : (c : goal.After-fin-1) (r : Receiver) → StandsFor (view_of (window_of c.self.inside.buffer) c.self.inside.fin c.self.inside.rbuf) r
    → c.judge-note.result ≡ note_of r c.args.position c.args.edge
judged c r h = c.judge-note.ensures ∙ note_is r c.args.position c.in-Some.position c.args.edge c.self.inside.fin c.is_free_from-free.result (natural c) h.fin (free c r h)

pub returns-clause-answer : goal.returns-clause-answer
returns-clause-answer c r h = subst (λ (k : StreamView). StandsFor k r → c.judge-note.result ≡ note_of r c.args.position c.args.edge) c.self.view_is (judged c r) h

pub returns-clause-stands : goal.returns-clause-stands
returns-clause-stands c r h =
    let s = c.self.inside in
    let old = view_of (window_of s.buffer) s.fin s.rbuf in
    let new = view_of (window_of s.buffer) c.noted_after-fin.result s.rbuf in
    subst (λ (k : StreamView). StandsFor k r → StandsFor new (noted r c.args.position c.args.edge)) c.self.view_is
    (λ stood. stands_noted old new r c.args.position c.args.edge stood refl refl refl
    (c.noted_after-fin.ensures ∙ fin_is r c.args.position c.in-Some.position s.fin c.judge-note.result (natural c) stood.fin ∙ ap (fin_after r c.args.position) (judged c r stood)))
    h
