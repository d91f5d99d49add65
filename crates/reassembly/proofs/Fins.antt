-- A FIN, told over the window.
use Rattle.std.proofs.Common.{◌≡◌, ℕ, ◌+◌, ◌-◌, ◌<◌, ◌≤◌, Bool, true, false, not, refl, ap, ◌∙◌, sym, arith, ℤ, pos, negsuc, List, [], ◌∷◌, suc, eqb, Option, Some, None, is_some, length, drop, get_or, leb, ⊎_elim, true≢false, length-drop, get_or-drop}
use Rattle.std.specs.List.{list_any}
use Rattle.std.proofs.lemmas.Bool.{cases_lt, cases_Bool, false_from_ne_true, or_cases, and_right}
use Rattle.std.proofs.lemmas.List.Folds.{list_any_at}
use Rattle.reassembly.specs.declared.answers.FinNote.{FinNote}
use Rattle.reassembly.specs.declared.answers.FinNote.TheVariants.{Noted, Same, Refused}
use Rattle.reassembly.specs.declared.window.Window.{Window}
use Rattle.reassembly.specs.Receiver.{Receiver, held, next_of, kept}
use Rattle.reassembly.specs.Fin.{is_free_from, natural_of, note_with, note_of, fin_with, fin_after, noted}
use Rattle.reassembly.specs.View.{StreamView, StandsFor}
use Rattle.reassembly.specs.Runs.{is_accepted}
use Rattle.reassembly.specs.Window.{byte_at, cell_at, view_of, IsLaid, IsBounded}
use Rattle.reassembly.specs.Waiting.{runs_of}
use Rattle.reassembly.proofs.Cells.{below_next, held_past}
use Rattle.reassembly.proofs.Laws.{viewed_cell}
use Rattle.reassembly.proofs.Placing.{held_viewed, kept_cell, bounded_cell, some_of_cond}

-- a cell at next or above it is the receiver's
pub receiver_cell : (w : Window) (fin : Option ℕ) (rbuf : ℕ) → IsLaid w → (r : Receiver) → StandsFor (view_of w fin rbuf) r → (p : ℕ) → w.next - rbuf ≤ p → held r.cells p ≡ cell_at w p
receiver_cell w fin rbuf laid r h p l = sym (viewed_cell (view_of w fin rbuf) r h p l) ∙ held_viewed w fin rbuf laid p ∙ kept_cell w rbuf p l

record HasCell (cells : List (Option ℕ)) : Type 0 where
  at : ℕ
  filled : is_some (held cells at) ≡ true

filled_cell : (cells : List (Option ℕ)) → list_any is_some cells ≡ true → HasCell cells
filled_cell [] e = absurd (cc e)
filled_cell (c ∷ cells) e = ⊎_elim
    (λ (here : is_some c ≡ true). record { at = 0; filled = here })
    (λ (there : list_any is_some cells ≡ true). let h = filled_cell cells there in record { at = suc h.at; filled = h.filled })
    (or_cases (is_some c) (list_any is_some cells) e)

filled_within : (cells : List (Option ℕ)) (q : ℕ) → is_some (held cells q) ≡ true → q < length cells
filled_within cells q filled = ⊎_elim
    (λ (b : q < length cells). b)
    (λ (b : length cells ≤ q). absurd (true≢false (sym filled ∙ ap is_some (held_past cells q b))))
    (cases_lt q (length cells))

-- no filled cell from p on, by index
pub free_cells : (cells : List (Option ℕ)) (p : ℕ) → ((k : ℕ) → p ≤ k → k < length cells → is_some (held cells k) ≡ false) → true ≡ is_free_from cells p
free_cells cells p none = sym (ap not (false_from_ne_true (list_any is_some (drop p cells)) (λ e.
    let some = filled_cell (drop p cells) e in
    let q = p + some.at in
    let filled : is_some (held cells q) ≡ true = ap is_some (sym (get_or-drop p cells some.at None)) ∙ some.filled in
    let within : q < length cells = filled_within cells q filled in
    true≢false (sym filled ∙ none q (omega arith) within))))

pub taken_cell_at : (cells : List (Option ℕ)) (p q : ℕ) → p ≤ q → is_some (held cells q) ≡ true → false ≡ is_free_from cells p
taken_cell_at cells p q l filled =
    let within : q < length cells = filled_within cells q filled in
    let len : length (drop p cells) ≡ length cells - p = length-drop p cells in
    let back : p + (q - p) ≡ q = omega arith in
    let there : is_some (get_or (drop p cells) (q - p) None) ≡ true = ap is_some (get_or-drop p cells (q - p) None ∙ ap (held cells) back) ∙ filled in
    sym (ap not (list_any_at is_some (drop p cells) (q - p) None (omega arith) there))

pub is_free : (w : Window) (fin : Option ℕ) (rbuf p : ℕ) → IsLaid w → IsBounded w p → (r : Receiver) → StandsFor (view_of w fin rbuf) r → true ≡ is_free_from r.cells p
is_free w fin rbuf p laid bounded r h =
    let next : w.next ≤ p = bounded.next in
    free_cells r.cells p (λ k l within.
    ap is_some (receiver_cell w fin rbuf laid r h k (omega arith))
    ∙ some_of_cond (is_accepted w.next (runs_of w.runs) k) (byte_at w k) ∙ bounded_cell w p k bounded (omega arith))

pub is_taken : (w : Window) (fin : Option ℕ) (rbuf p q : ℕ) → IsLaid w → p ≤ q → is_accepted w.next (runs_of w.runs) q ≡ true → (r : Receiver)
    → StandsFor (view_of w fin rbuf) r → false ≡ is_free_from r.cells p
is_taken w fin rbuf p q laid l accepted r h =
    let next : w.next ≡ next_of r.cells = h.next in
    let filled : is_some (held r.cells q) ≡ true = ⊎_elim
    (λ (b : q < w.next). below_next r.cells q (omega arith))
    (λ (b : w.next ≤ q). ap is_some (receiver_cell w fin rbuf laid r h q (omega arith)) ∙ some_of_cond (is_accepted w.next (runs_of w.runs) q) (byte_at w q) ∙ accepted)
    (cases_lt q w.next) in
    taken_cell_at r.cells p q l filled

-- the answer is the model's
pub note_is : (r : Receiver) (q : ℤ) (p edge : ℕ) (fin : Option ℕ) (free : Bool) → natural_of q ≡ Some p → fin ≡ r.fin → free ≡ is_free_from r.cells p → note_with fin p edge free ≡ note_of r q edge
unfolding note_of
note_is r (pos x) p edge fin free e f g =
    let same : x ≡ p = cc e in
    rw (f, g, same) refl
note_is r (negsuc n) p edge fin free e f g = absurd (cc e)

pub refused_is : (r : Receiver) (q : ℤ) (edge : ℕ) → natural_of q ≡ None → Refused ≡ note_of r q edge
unfolding note_of
refused_is r (pos x) edge e = absurd (cc e)
refused_is r (negsuc n) edge e = refl

-- only a noted FIN changes the stream
pub stands_noted : (s n : StreamView) (r : Receiver) (q : ℤ) (edge : ℕ) → StandsFor s r → n.next ≡ s.next → n.kept ≡ s.kept → n.rbuf ≡ s.rbuf
    → n.fin ≡ fin_after r q (note_of r q edge) → StandsFor n (noted r q edge)
unfolding noted
stands_noted s n r q edge h next cells rbuf fin = record {
  next = next ∙ h.next;
  fin = fin;
  cells = λ p. ap (λ c. held c p) cells ∙ h.cells p ∙ ap (λ b. kept r.cells b p) (sym rbuf);
}

pub fin_is : (r : Receiver) (q : ℤ) (p : ℕ) (fin : Option ℕ) (note : FinNote) → natural_of q ≡ Some p → fin ≡ r.fin → fin_with fin p note ≡ fin_after r q note
fin_is r (pos x) p fin answer e f = let same : x ≡ p = cc e in rw (f, same) refl
fin_is r (negsuc n) p fin answer e f = absurd (cc e)

pub refused_fin : (r : Receiver) (q : ℤ) → natural_of q ≡ None → fin_after r q Refused ≡ r.fin
refused_fin r (pos x) e = refl
refused_fin r (negsuc n) e = refl

-- a FIN that is noted has nothing at it or past it
pub noted_free : (fin : Option ℕ) (p edge : ℕ) (free : Bool) → note_with fin p edge free ≡ Noted → free ≡ true
noted_free None p edge true e = refl
noted_free None p edge false e = absurd (cc (rw (and_right (leb p edge) false refl) at e))
noted_free (Some f) p edge free e = ⊎_elim
    (λ (t : eqb p f ≡ true). absurd (cc (rw t at e)))
    (λ (t : eqb p f ≡ false). absurd (cc (rw t at e)))
    (cases_Bool (eqb p f))

pub fin_bound : (w : Window) (fin : Option ℕ) (p edge : ℕ) (free : Bool) (note : FinNote) → note ≡ note_with fin p edge free → (free ≡ true → IsBounded w p) → ((f : ℕ) → fin ≡ Some f → IsBounded w f)
    → (f : ℕ) → fin_with fin p note ≡ Some f → IsBounded w f
fin_bound w fin p edge free Noted e now old f g =
    let same : p ≡ f = cc g in
    rw (← same) (now (noted_free fin p edge free (sym e)))
fin_bound w fin p edge free Same e now old f g = old f g
fin_bound w fin p edge free Refused e now old f g = old f g
