-- The text of a chain or a sum, with one part more.
use Rattle.std.proofs.Common.{◌≡◌, ℕ, suc, List, [], ◌∷◌, ◌++◌, length, refl, ap, ◌∙◌, sym, append_assoc, append-nil}
use Rattle.filter_lang.specs.declared.term.Join.{Join}
use Rattle.filter_lang.specs.declared.term.Atom.{Atom}
use Rattle.filter_lang.specs.declared.term.Term.{Term}
use Rattle.filter_lang.specs.Printed.{join_text, atom_text, steps_text, behind_text, separator_text, joined_text, and_texts, or_texts, wrap, is_chain, is_or, printed}
use Rattle.filter_lang.specs.Shape.{shape, shapes}

steps_text-push : (ss : List (Join × Atom)) (s : Join × Atom) → steps_text (ss ++ s ∷ []) ≡ steps_text ss ++ (join_text s.0 ++ atom_text s.1)
steps_text-push [] s = ap (λ xs. join_text s.0 ++ xs) (append-nil (atom_text s.1))
steps_text-push (t ∷ ss) s =
    ap (λ xs. join_text t.0 ++ (atom_text t.1 ++ xs)) (steps_text-push ss s)
    ∙ simp append_assoc

pub sum_push : (old first : List ℕ) (ss : List (Join × Atom)) (s : Join × Atom) → (old ++ (first ++ steps_text ss)) ++ (join_text s.0 ++ atom_text s.1) ≡ old ++ (first ++ steps_text (ss ++ s ∷ []))
sum_push old first ss s = rw (steps_text-push ss s) (simp append_assoc)

behind_text-push : (sep : List ℕ) (ts : List (List ℕ)) (t : List ℕ) → behind_text sep (ts ++ t ∷ []) ≡ behind_text sep ts ++ (sep ++ t)
behind_text-push sep [] t = ap (λ xs. sep ++ xs) (append-nil t)
behind_text-push sep (u ∷ ts) t = ap (λ xs. sep ++ (u ++ xs)) (behind_text-push sep ts t) ∙ simp append_assoc

joined_text-push : (sep : List ℕ) (ts : List (List ℕ)) (t : List ℕ) → joined_text sep (ts ++ t ∷ []) ≡ joined_text sep ts ++ (separator_text (length ts) sep ++ t)
joined_text-push sep [] t = append-nil t
joined_text-push sep (u ∷ ts) t = ap (λ xs. u ++ xs) (behind_text-push sep ts t) ∙ simp append_assoc

and_texts-push : (ts : List Term) (t : Term) → and_texts (shapes (ts ++ t ∷ [])) ≡ and_texts (shapes ts) ++ wrap (is_chain (shape t)) (printed (shape t)) ∷ []
and_texts-push [] t = refl
and_texts-push (u ∷ ts) t = ap (λ xs. wrap (is_chain (shape u)) (printed (shape u)) ∷ xs) (and_texts-push ts t)

or_texts-push : (ts : List Term) (t : Term) → or_texts (shapes (ts ++ t ∷ [])) ≡ or_texts (shapes ts) ++ wrap (is_or (shape t)) (printed (shape t)) ∷ []
or_texts-push [] t = refl
or_texts-push (u ∷ ts) t = ap (λ xs. wrap (is_or (shape u)) (printed (shape u)) ∷ xs) (or_texts-push ts t)

length-and_texts : (ts : List Term) → length (and_texts (shapes ts)) ≡ length ts
length-and_texts [] = refl
length-and_texts (t ∷ ts) = ap suc (length-and_texts ts)

length-or_texts : (ts : List Term) → length (or_texts (shapes ts)) ≡ length ts
length-or_texts [] = refl
length-or_texts (t ∷ ts) = ap suc (length-or_texts ts)

pub all_more : (old : List ℕ) (sep : List ℕ) (ts : List Term) (t : Term)
    → ((old ++ joined_text sep (and_texts (shapes ts))) ++ separator_text (length ts) sep) ++ wrap (is_chain (shape t))
    (printed (shape t)) ≡ old ++ joined_text sep (and_texts (shapes (ts ++ t ∷ [])))
all_more old sep ts t =
    let one = wrap (is_chain (shape t)) (printed (shape t)) in
    let more = ap (joined_text sep) (and_texts-push ts t) ∙ joined_text-push sep (and_texts (shapes ts)) one
    ∙ ap (λ n. joined_text sep (and_texts (shapes ts)) ++ (separator_text n sep ++ one)) (length-and_texts ts) in
    simp append_assoc (ap (λ xs. old ++ xs) (sym more))

pub any_more : (old : List ℕ) (sep : List ℕ) (ts : List Term) (t : Term)
    → ((old ++ joined_text sep (or_texts (shapes ts))) ++ separator_text (length ts) sep) ++ wrap (is_or (shape t))
    (printed (shape t)) ≡ old ++ joined_text sep (or_texts (shapes (ts ++ t ∷ [])))
any_more old sep ts t =
    let one = wrap (is_or (shape t)) (printed (shape t)) in
    let more = ap (joined_text sep) (or_texts-push ts t) ∙ joined_text-push sep (or_texts (shapes ts)) one
    ∙ ap (λ n. joined_text sep (or_texts (shapes ts)) ++ (separator_text n sep ++ one)) (length-or_texts ts) in
    simp append_assoc (ap (λ xs. old ++ xs) (sym more))
