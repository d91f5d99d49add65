-- What an array of changes keeps behind its last one.
use Rattle.std.proofs.Common.{◌≡◌, ℕ, ◌+◌, ◌-◌, ◌<◌, List, length, take, drop, set, replicate, sym, ap, ◌∙◌, arith, length-set, length-take-le}
use Rattle.std.proofs.lemmas.List.{drop-set-lt, drop-drop, drop-replicate}
use Rattle.app_api.specs.declared.changes.Change1.{Change1}
use Rattle.app_api.specs.Changes.{blank, IsPadded}

-- one place more is taken
pub IsPadded-set : (items : List Change1) (n : ℕ) (c : Change1) → IsPadded items n → n < 4 → IsPadded (set items n c) (n + 1)
IsPadded-set items n c h room = record {
  few = omega arith;
  whole = length-set items n c ∙ h.whole;
  rest = drop-set-lt (n + 1) items n c (omega arith) ∙ sym (drop-drop 1 n items) ∙ ap (drop 1) h.rest ∙ drop-replicate 1 (4 - n) blank ∙ ap (λ k. replicate k blank) (omega arith);
}

-- fewer than four changes leave a place
pub IsPadded-room : (items : List Change1) (n : ℕ) (changes : List Change1) → IsPadded items n → take n items ≡ changes → length changes < 4 → n < 4
IsPadded-room items n changes h same room = omega (arith, length-take-le n items (omega arith), ap length same)
