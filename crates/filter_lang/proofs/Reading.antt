-- The printed text of a filter reads as the filter, where its nesting is at most 32.
use Rattle.std.proofs.Common.{◌≡◌, ℕ, suc, ◌+◌, ◌<◌, ◌≤◌, true, false, eqb, Ok, List, [], ◌∷◌, ◌++◌, Option, Some, codes, lt-ltb, inl, inr, refl, ap, ◌∙◌, sym, append_assoc, append-nil, arith}
use Rattle.std.specs.Fmt.{decimal}
use Rattle.filter_lang.specs.declared.term.Op.{Op}
use Rattle.filter_lang.specs.declared.term.Op.TheVariants.{Eq, Ne, Lt, Le, Gt, Ge, Has}
use Rattle.filter_lang.specs.declared.term.Sum.{Sum}
use Rattle.filter_lang.specs.declared.token.Token.{Token}
use Rattle.filter_lang.specs.declared.token.Token.TheVariants.{Close, Both, Either, End}
use Rattle.filter_lang.specs.Grammar.{Level, left, right, Place, unit_place, native_place, behind_atom, behind_unit, Next, go, shapes_of, chain_of, opened, opening, behind_conjs, with_unit, behind_conj, behind_expr, next, filter}
use Rattle.filter_lang.specs.Printed.{printed, and_texts, or_texts, behind_text, wrap, is_or, is_chain, nesting, wrapped_nesting, and_nesting, or_nesting, sum_text, op_text}
use Rattle.filter_lang.specs.Shape.{Shape, Always, Never, Ask, Compare, Negate, AllOf, AnyOf, Shapes, none, more, HasTwo, IsWithin, AreWithin, SumIsWithin}
use Rattle.filter_lang.specs.Tokens.{tokens}
use Rattle.filter_lang.proofs.Chains.{next_behind-other, behind_conj-other}
use Rattle.filter_lang.proofs.Pieces.{IsStop, name_read, decimal_read, op_read, both_read, either_read, open_read, close_read, native_read, bang_read}
use Rattle.filter_lang.proofs.Runs.{kinds, run, on, map-tokens_behind, read-run}
use Rattle.filter_lang.proofs.Sums.{sum_read, sum_begun}

-- what may stand behind a printed part
pub data Follow : Type 0 where
  ended : Follow
  closed : List ℕ → Follow
  both : List ℕ → Follow
  either : List ℕ → Follow

abbrev follow_text : Follow → List ℕ
follow_text ended = []
follow_text (closed bs) = codes ")" ++ bs
follow_text (both bs) = codes " && " ++ bs
follow_text (either bs) = codes " || " ++ bs

abbrev follow_token : Follow → Token
follow_token ended = End
follow_token (closed bs) = Close
follow_token (both bs) = Both
follow_token (either bs) = Either

abbrev follow_rest : Follow → List Token
follow_rest ended = []
follow_rest (closed bs) = kinds 0 bs
follow_rest (both bs) = kinds 0 bs
follow_rest (either bs) = kinds 0 bs

kinds-follow : (f : Follow) → kinds 0 (follow_text f) ≡ follow_token f ∷ follow_rest f
kinds-follow ended = refl
kinds-follow (closed bs) = close_read bs
kinds-follow (both bs) = both_read bs
kinds-follow (either bs) = either_read bs

stop_before : (f : Follow) → IsStop (follow_text f)
stop_before ended = tt
stop_before (closed bs) = inr refl
stop_before (both bs) = inl refl
stop_before (either bs) = inl refl

abbrev taken : Follow → Next → Option Shape
taken f n = on (run (follow_rest f)) n

run-follow : (f : Follow) (p : Place) → run (kinds 0 (follow_text f)) p ≡ taken f (next p (follow_token f))
run-follow f p = ap (λ ts. run ts p) (kinds-follow f)

abbrev EndsUnits : Follow → Type 0
EndsUnits f = follow_token f ≡ Both → ⊥

abbrev EndsConjs : Follow → Type 0
EndsConjs f = follow_token f ≡ Either → ⊥

-- what a text reads as where a unit stands, within so many constructs more
pub record ReadsAsUnit (text : List ℕ) (depth : ℕ) (s : Shape) : Type 0 where
  pub same : (f : Follow) (l : Level) (os : List Level) → l.bangs + opened os + depth ≤ 32
      → run (kinds 0 (text ++ follow_text f)) (unit_place l os) ≡ run (kinds 0 (follow_text f)) (behind_unit (with_unit s l) os)

-- and where a conjunction, or a whole expression, stands
pub record ReadsAsConj (text : List ℕ) (depth : ℕ) (s : Shape) : Type 0 where
  pub same : (f : Follow) (cs : List Shape) (os : List Level) → EndsUnits f → opened os + depth ≤ 32
      → run (kinds 0 (text ++ follow_text f)) (unit_place (behind_conjs cs) os) ≡ taken f (behind_conj (cs ++ s ∷ []) os (follow_token f))

pub record ReadsAsExpr (text : List ℕ) (depth : ℕ) (s : Shape) : Type 0 where
  pub same : (f : Follow) (os : List Level) → EndsUnits f → EndsConjs f → opened os + depth ≤ 32
      → run (kinds 0 (text ++ follow_text f)) (unit_place (behind_conjs []) os) ≡ taken f (behind_expr s os (follow_token f))

conj_of_unit : (text : List ℕ) (depth : ℕ) (s : Shape) → ReadsAsUnit text depth s → ReadsAsConj text depth s
conj_of_unit text depth s unit = record {
  same = λ f cs os ends deep.
      unit.same f (behind_conjs cs) os (omega arith) ∙ run-follow f (behind_unit (with_unit s (behind_conjs cs)) os)
      ∙ ap (taken f) (next_behind-other (follow_token f) (with_unit s (behind_conjs cs)) os ends);
}

expr_of_conj : (text : List ℕ) (depth : ℕ) (s : Shape) → ReadsAsConj text depth s → ReadsAsExpr text depth s
expr_of_conj text depth s conj = record {
  same = λ f os units conjs deep.
      conj.same f [] os units deep ∙ ap (taken f) (behind_conj-other (follow_token f) (s ∷ []) os conjs);
}

closed_ends_units : (bs : List ℕ) → EndsUnits (closed bs)
closed_ends_units bs e = cc

closed_ends_conjs : (bs : List ℕ) → EndsConjs (closed bs)
closed_ends_conjs bs e = cc

opening-go : (count : ℕ) (p : Place) → count < 32 → opening count p ≡ go p
opening-go count p h = rw (lt-ltb count 32 h) refl

-- an expression in parentheses is a unit
unit_of_expr : (text : List ℕ) (depth : ℕ) (s : Shape) → ReadsAsExpr text depth s → ReadsAsUnit (wrap true text) (depth + 1) s
unit_of_expr text depth s expr = record {
  same = λ f l os deep.
      let rest = follow_text f in
      let inner = closed rest in
      let small : l.bangs + opened os < 32 = omega arith in
      ap (λ xs. run (kinds 0 (codes "(" ++ xs)) (unit_place l os)) (append_assoc text (codes ")") rest)
      ∙ ap (λ ts. run ts (unit_place l os)) (open_read (text ++ follow_text inner))
      ∙ ap (on (run (kinds 0 (text ++ follow_text inner)))) (opening-go (l.bangs + opened os) (unit_place (behind_conjs []) (l ∷ os)) small)
      ∙ expr.same inner (l ∷ os) (closed_ends_units rest) (closed_ends_conjs rest) (omega arith);
}

-- what each shape's printed text reads as: as a member of an `&&` chain, as one of an `||` chain, alone
pub record Reads (s : Shape) : Type 0 where
  pub unit : ReadsAsUnit (wrap (is_chain s) (printed s)) (wrapped_nesting (is_chain s) (nesting s)) s
  pub conj : ReadsAsConj (wrap (is_or s) (printed s)) (wrapped_nesting (is_or s) (nesting s)) s
  pub expr : ReadsAsExpr (printed s) (nesting s) s

abbrev AllRead : Shapes → Type 0
AllRead none = Unit {0}
AllRead (more s ss) = Reads s × AllRead ss

abbrev list : Shapes → List Shape
list none = []
list (more s ss) = s ∷ list ss

chain-list : (ss : Shapes) → shapes_of (list ss) ≡ ss
chain-list none = refl
chain-list (more s ss) = ap (more s) (chain-list ss)

-- the members of an `&&` chain behind the first
abbrev and_follow : Shapes → Follow → Follow
and_follow none f = f
and_follow (more s ss) f = both (wrap (is_chain s) (printed s) ++ (behind_text (codes " && ") (and_texts ss) ++ follow_text f))

and_follow-text : (ss : Shapes) (f : Follow) → follow_text (and_follow ss f) ≡ behind_text (codes " && ") (and_texts ss) ++ follow_text f
and_follow-text none f = refl
and_follow-text (more s ss) f =
    ap (λ xs. codes " && " ++ xs) (sym (append_assoc (wrap (is_chain s) (printed s)) (behind_text (codes " && ") (and_texts ss)) (follow_text f)))

units_read : (ss : Shapes) → AllRead ss → (f : Follow) (cs us : List Shape) (os : List Level) → opened os + and_nesting ss ≤ 32
    → run (kinds 0 (follow_text (and_follow ss f))) (behind_unit (record { conjs = cs; units = us; bangs = 0 }) os) ≡ run (kinds 0 (follow_text f))
    (behind_unit (record { conjs = cs; units = us ++ list ss; bangs = 0 }) os)
units_read none all f cs us os deep =
    ap (λ xs. run (kinds 0 (follow_text f)) (behind_unit (record { conjs = cs; units = xs; bangs = 0 }) os)) (sym (append-nil us))
units_read (more s ss) all f cs us os deep =
    let l : Level = record { conjs = cs; units = us; bangs = 0 } in
    let text = wrap (is_chain s) (printed s) in
    let behind = behind_text (codes " && ") (and_texts ss) ++ follow_text f in
    ap (λ ts. run ts (behind_unit l os)) (both_read (text ++ behind))
    ∙ ap (λ xs. run (kinds 0 (text ++ xs)) (unit_place l os)) (sym (and_follow-text ss f))
    ∙ all.0.unit.same (and_follow ss f) l os (omega arith)
    ∙ units_read ss all.1 f cs (us ++ s ∷ []) os (omega arith)
    ∙ ap (λ xs. run (kinds 0 (follow_text f)) (behind_unit (record { conjs = cs; units = xs; bangs = 0 }) os)) (append_assoc us (s ∷ []) (list ss))

chain_of-list : (node : Shapes → Shape) (ss : Shapes) → HasTwo ss → chain_of node (list ss) ≡ node ss
chain_of-list node none h = absurd h
chain_of-list node (more s none) h = absurd h
chain_of-list node (more s (more t ss)) h = ap node (chain-list (more s (more t ss)))

conj_of_and : (ss : Shapes) → HasTwo ss → AllRead ss → ReadsAsConj (printed (AllOf ss)) (and_nesting ss) (AllOf ss)
conj_of_and none two all = absurd two
conj_of_and (more s ss) two all = record {
  same = λ f cs os ends deep.
      let text = wrap (is_chain s) (printed s) in
      let behind = behind_text (codes " && ") (and_texts ss) in
      let l : Level = record { conjs = cs; units = s ∷ list ss; bangs = 0 } in
      ap (λ xs. run (kinds 0 xs) (unit_place (behind_conjs cs) os)) (append_assoc text behind (follow_text f) ∙ ap (λ xs. text ++ xs) (sym (and_follow-text ss f)))
      ∙ all.0.unit.same (and_follow ss f) (behind_conjs cs) os (omega arith)
      ∙ units_read ss all.1 f cs (s ∷ []) os (omega arith)
      ∙ run-follow f (behind_unit l os)
      ∙ ap (taken f) (next_behind-other (follow_token f) l os ends ∙ ap (λ x. behind_conj (cs ++ x ∷ []) os (follow_token f)) (chain_of-list AllOf (more s ss) two));
}

-- the members of an `||` chain behind the first
abbrev or_follow : Shapes → Follow → Follow
or_follow none f = f
or_follow (more s ss) f = either (wrap (is_or s) (printed s) ++ (behind_text (codes " || ") (or_texts ss) ++ follow_text f))

or_follow-text : (ss : Shapes) (f : Follow) → follow_text (or_follow ss f) ≡ behind_text (codes " || ") (or_texts ss) ++ follow_text f
or_follow-text none f = refl
or_follow-text (more s ss) f =
    ap (λ xs. codes " || " ++ xs) (sym (append_assoc (wrap (is_or s) (printed s)) (behind_text (codes " || ") (or_texts ss)) (follow_text f)))

or_follow-ends : (ss : Shapes) (f : Follow) → EndsUnits f → EndsUnits (or_follow ss f)
or_follow-ends none f ends = ends
or_follow-ends (more s ss) f ends = λ e. cc

conjs_read : (ss : Shapes) → AllRead ss → (f : Follow) (cs : List Shape) (os : List Level) → EndsUnits f → opened os + or_nesting ss ≤ 32
    → taken (or_follow ss f) (behind_conj cs os (follow_token (or_follow ss f))) ≡ taken f (behind_conj (cs ++ list ss) os (follow_token f))
conjs_read none all f cs os ends deep = ap (λ xs. taken f (behind_conj xs os (follow_token f))) (sym (append-nil cs))
conjs_read (more s ss) all f cs os ends deep =
    let text = wrap (is_or s) (printed s) in
    ap (λ xs. run (kinds 0 (text ++ xs)) (unit_place (behind_conjs cs) os)) (sym (or_follow-text ss f))
    ∙ all.0.conj.same (or_follow ss f) cs os (or_follow-ends ss f ends) (omega arith)
    ∙ conjs_read ss all.1 f (cs ++ s ∷ []) os ends (omega arith)
    ∙ ap (λ xs. taken f (behind_conj xs os (follow_token f))) (append_assoc cs (s ∷ []) (list ss))

expr_of_or : (ss : Shapes) → HasTwo ss → AllRead ss → ReadsAsExpr (printed (AnyOf ss)) (or_nesting ss) (AnyOf ss)
expr_of_or none two all = absurd two
expr_of_or (more s ss) two all = record {
  same = λ f os units conjs deep.
      let text = wrap (is_or s) (printed s) in
      let behind = behind_text (codes " || ") (or_texts ss) in
      ap (λ xs. run (kinds 0 xs) (unit_place (behind_conjs []) os)) (append_assoc text behind (follow_text f) ∙ ap (λ xs. text ++ xs) (sym (or_follow-text ss f)))
      ∙ all.0.conj.same (or_follow ss f) [] os (or_follow-ends ss f units) (omega arith)
      ∙ conjs_read ss all.1 f (s ∷ []) os units (omega arith)
      ∙ ap (taken f) (behind_conj-other (follow_token f) (s ∷ list ss) os conjs ∙ ap (λ x. behind_expr x os (follow_token f)) (chain_of-list AnyOf (more s ss) two));
}

-- the units that are no chains
unit_of_true : ReadsAsUnit (codes "true") 0 Always
unit_of_true = record { same = λ f l os deep. ap (λ ts. run ts (unit_place l os)) (name_read 116 (114 ∷ 117 ∷ 101 ∷ []) (follow_text f) refl refl (stop_before f)) }

unit_of_false : ReadsAsUnit (codes "false") 0 Never
unit_of_false = record { same = λ f l os deep. ap (λ ts. run ts (unit_place l os)) (name_read 102 (97 ∷ 108 ∷ 115 ∷ 101 ∷ []) (follow_text f) refl refl (stop_before f)) }

unit_of_native : (n : ℕ) → n ≤ 5 → ReadsAsUnit (printed (Ask n)) 0 (Ask n)
unit_of_native n h = record {
  same = λ f l os deep.
      let rest = follow_text f in
      ap (λ xs. run (kinds 0 xs) (unit_place l os)) (append_assoc (codes "native ") (decimal n) rest)
      ∙ ap (λ ts. run ts (unit_place l os)) (native_read (decimal n ++ rest))
      ∙ ap (λ ts. run ts (native_place l os)) (decimal_read n rest (omega arith) (stop_before f))
      ∙ rw (lt-ltb n 6 (omega arith)) refl;
}

stop_before_op : (op : Op) (rest : List ℕ) → IsStop (op_text op ++ rest)
stop_before_op Eq rest = inl refl
stop_before_op Ne rest = inl refl
stop_before_op Lt rest = inl refl
stop_before_op Le rest = inl refl
stop_before_op Gt rest = inl refl
stop_before_op Ge rest = inl refl
stop_before_op Has rest = inl refl

-- behind a comparison no atom is joined on
compared_follow : (f : Follow) (s : Sum) (op : Op) (r : Sum) (l : Level) (os : List Level)
    → next (behind_atom (right s op) r l os) (follow_token f) ≡ next (behind_unit (with_unit (Compare s op r) l) os) (follow_token f)
compared_follow ended s op r l os = refl
compared_follow (closed bs) s op r l os = refl
compared_follow (both bs) s op r l os = refl
compared_follow (either bs) s op r l os = refl

unit_of_comparison : (s : Sum) (op : Op) (r : Sum) → SumIsWithin s → SumIsWithin r → ReadsAsUnit (printed (Compare s op r)) 0 (Compare s op r)
unit_of_comparison s op r first second = record {
  same = λ f l os deep.
      let rest = follow_text f in
      let later = sum_text r ++ rest in
      let text : printed (Compare s op r) ++ rest ≡ sum_text s ++ (op_text op ++ later) =
      append_assoc (sum_text s) (op_text op ++ sum_text r) rest ∙ ap (λ xs. sum_text s ++ xs) (append_assoc (op_text op) (sum_text r) rest) in
      ap (λ xs. run (kinds 0 xs) (unit_place l os)) text
      ∙ sum_begun s first l os (op_text op ++ later) (stop_before_op op later)
      ∙ ap (λ ts. run ts (behind_atom left s l os)) (op_read op later)
      ∙ sum_read r second (right s op) l os rest (stop_before f)
      ∙ run-follow f (behind_atom (right s op) r l os)
      ∙ ap (taken f) (compared_follow f s op r l os)
      ∙ sym (run-follow f (behind_unit (with_unit (Compare s op r) l) os));
}

-- a `!` before a unit
unit_of_bang : (b : ℕ) (text : List ℕ) (depth : ℕ) (s : Shape) → eqb 61 b ≡ false → ReadsAsUnit (b ∷ text) depth s → ReadsAsUnit (codes "!" ++ (b ∷ text)) (depth + 1) (Negate s)
unit_of_bang b text depth s other unit = record {
  same = λ f l os deep.
      let rest = text ++ follow_text f in
      ap (λ ts. run ts (unit_place l os)) (bang_read b rest other)
      ∙ ap (on (run (kinds 0 (b ∷ rest)))) (opening-go (l.bangs + opened os) (unit_place (record l { bangs = suc l.bangs }) os) (omega arith))
      ∙ unit.same f (record l { bangs = suc l.bangs }) os (omega arith);
}

unit_of_negation : (s : Shape) → Reads s → ReadsAsUnit (printed (Negate s)) (nesting (Negate s)) (Negate s)
unit_of_negation Always r = unit_of_bang 116 _ 0 Always refl r.unit
unit_of_negation Never r = unit_of_bang 102 _ 0 Never refl r.unit
unit_of_negation (Ask n) r = unit_of_bang 110 _ 0 (Ask n) refl r.unit
unit_of_negation (Compare a op b) r = unit_of_bang 40 _ 1 (Compare a op b) refl (unit_of_expr _ 0 _ r.expr)
unit_of_negation (Negate s) r = unit_of_bang 33 _ _ (Negate s) refl r.unit
unit_of_negation (AllOf ss) r = unit_of_bang 40 _ _ (AllOf ss) refl (unit_of_expr _ _ _ r.expr)
unit_of_negation (AnyOf ss) r = unit_of_bang 40 _ _ (AnyOf ss) refl (unit_of_expr _ _ _ r.expr)

mutual
  reads_printed : (s : Shape) → IsWithin s → Reads s
  reads_printed Always within =
      let u = unit_of_true in
      let c = conj_of_unit _ _ _ u in record { unit = u; conj = c; expr = expr_of_conj _ _ _ c }
  reads_printed Never within =
      let u = unit_of_false in
      let c = conj_of_unit _ _ _ u in record { unit = u; conj = c; expr = expr_of_conj _ _ _ c }
  reads_printed (Ask n) within =
      let u = unit_of_native n within in
      let c = conj_of_unit _ _ _ u in record { unit = u; conj = c; expr = expr_of_conj _ _ _ c }
  reads_printed (Compare a op b) within =
      let u = unit_of_comparison a op b within.0 within.1 in
      let c = conj_of_unit _ _ _ u in record { unit = u; conj = c; expr = expr_of_conj _ _ _ c }
  reads_printed (Negate s) within =
      let u = unit_of_negation s (reads_printed s within) in
      let c = conj_of_unit _ _ _ u in record { unit = u; conj = c; expr = expr_of_conj _ _ _ c }
  reads_printed (AllOf ss) within =
      let c = conj_of_and ss within.0 (all_read_printed ss within.1) in
      let e = expr_of_conj _ _ _ c in record { unit = unit_of_expr _ _ _ e; conj = c; expr = e }
  reads_printed (AnyOf ss) within =
      let e = expr_of_or ss within.0 (all_read_printed ss within.1) in
      let u = unit_of_expr _ _ _ e in record { unit = u; conj = conj_of_unit _ _ _ u; expr = e }

  all_read_printed : (ss : Shapes) → AreWithin ss → AllRead ss
  all_read_printed none within = tt
  all_read_printed (more s ss) within = (reads_printed s within.0, all_read_printed ss within.1)

ended_ends_units : EndsUnits ended
ended_ends_units e = cc

ended_ends_conjs : EndsConjs ended
ended_ends_conjs e = cc

pub filter-printed : (s : Shape) → IsWithin s → nesting s ≤ 32 → filter (printed s) ≡ Ok s
filter-printed s within deep =
    let p = unit_place (behind_conjs []) [] in
    let whole : run (kinds 0 (printed s)) p ≡ Some s =
    ap (λ xs. run (kinds 0 xs) p) (sym (append-nil (printed s))) ∙ (reads_printed s within).expr.same ended [] ended_ends_units ended_ends_conjs (omega arith) in
    read-run (tokens (printed s)) p s (ap (λ ts. run ts p) (map-tokens_behind 0 0 (printed s)) ∙ whole)
