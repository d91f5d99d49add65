use Rattle.std.proofs.Common.{◌≡◌, ◌∷◌, ◌≤◌, length, length-drop, drop, true, false, ◌+◌, ◌<◌, arith, ap, subst, sym, ◌∙◌}
use Rattle.std.proofs.lemmas.Bool.Decides.{nat_tests}
use Rattle.std.specs.List.{prefix_len}
use Rattle.filter_lang.specs.Words.{has_fact_within, is_end}
use Rattle.filter_lang.specs.Tokens.{is_blank, token_at, tokens_behind}
use Rattle.filter_lang.proofs.Lexemes.{token_at-sound, tokens_behind-found, tokens_behind-ended}
use Rattle.filter_lang.proofs.Quads.{from_offset}
use Rattle.filter_lang.proofs.lexer.Lexer.behind.Goals as goal

pub returns-then-is_empty : goal.returns-then-is_empty
returns-then-is_empty c =
    let text = c.args.text.now in
    let at = c.args.place + c.blanks.result in
    let start = ap (λ n. c.args.place + n) (c.blanks.ensures.value ∙ ap (prefix_len is_blank) (from_offset text c.args.place)) in
    let none : length (drop at text) ≡ 0 = subst (λ xs. length xs ≡ 0) (from_offset text at) (grind (arith, nat_tests)) in
    sym (tokens_behind-ended text c.args.place at start (omega (arith, length-drop at text)))

pub invariant_of-result-2-clause-fact_within : goal.invariant_of-result-2-clause-fact_within
invariant_of-result-2-clause-fact_within c =
    subst (λ x. has_fact_within x.token ≡ true) (sym c.token_at-found.ensures.value) (token_at-sound _).fact

pub returns : goal.returns
returns c =
    let text = c.args.text.now in
    let at = c.args.place + c.blanks.result in
    let start = ap (λ n. c.args.place + n) (c.blanks.ensures.value ∙ ap (prefix_len is_blank) (from_offset text c.args.place)) in
    let found = c.token_at-found.ensures.value ∙ ap token_at (from_offset text at) in
    let x = c.token_at-found.result in
    let open_ended : is_end x.token ≡ false = subst (λ y. is_end y.token ≡ false) (sym found) (token_at-sound (drop at text)).open_ended in
    let short : x.len ≤ length (drop at text) = subst (λ xs. x.len ≤ length xs) (from_offset text at) c.token_at-found.ensures.within in
    let long : 0 < x.len = c.token_at-found.ensures.some in
    let rest = length-drop at text in
    rw open_ended (ap (λ y. record { token = y.token; at = at } ∷ tokens_behind 0 (at + x.len) (drop (at + x.len) text)) found
    ∙ sym (tokens_behind-found text c.args.place at x.len c.requires start (omega arith) (ap (λ y. y.len) found) long (omega arith)))
