use Rattle.std.proofs.Common.{◌≡◌, ℕ, zero, suc, add-one, ap, sym, ◌+◌, ◌<◌, Bool, List, [], ◌∷◌, length, drop, get_or, false, refl, ◌∙◌, arith}
use Rattle.std.specs.List.{position_from}
use Rattle.std.specs.Str.{bytes_eq}
use Rattle.app_api.specs.Names.{event_names}
use Rattle.app_api.proofs.events.event_named.Goals as goal

-- what fails the test is passed over
passes : (test : List ℕ → Bool) (at i : ℕ) (ns : List (List ℕ)) → i < length ns → test (get_or ns i []) ≡ false
    → position_from test (at + 1) (drop (suc i) ns) ≡ position_from test at (drop i ns)
passes test at i [] lt other = absurd (omega arith)
passes test at zero (n ∷ ns) lt other = rw other refl
passes test at (suc i) (n ∷ ns) lt other = passes test at i ns (omega arith) other

pub loop-place-preserved : goal.loop-place-preserved
loop-place-preserved c =
    let i = c.loop-place.place in
    let name = c.args.name.now in
    let other : bytes_eq name (get_or event_names i []) ≡ false =
    ap (bytes_eq name) (sym (c.as_bytes.ensures.value ∙ c.name_at.ensures)) ∙ sym c.eq.ensures ∙ c.if-eq.false in
    let test : List ℕ → Bool = λ known. bytes_eq name known in
    let next : 256 + (i + 1) ≡ 256 + i + 1 = omega arith in
    ap (λ k. position_from test k (drop (i + 1) event_names)) next
    ∙ ap (λ k. position_from test (256 + i + 1) (drop k event_names)) (add-one i)
    ∙ passes test (256 + i) i event_names (omega arith) other ∙ c.loop-place.invariant
