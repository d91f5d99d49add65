-- A batch of which one packet more is judged.
use Rattle.std.proofs.Common.{◌≡◌, ◌+◌, ◌<◌, ◌≤◌, ℕ, sym, ap, ◌∙◌, Option, Some, None, List, [], ◌∷◌, ◌++◌, length, get_or, take, drop, set, arith}
use Rattle.std.specs.Prelude.{map}
use Rattle.std.proofs.lemmas.List.{append-nil, drop_more, take_more_set, drop-set-lt, map-append, length-map, length-drop}
use Rattle.app_api.specs.declared.reaction.Verdict.{Verdict}
use Rattle.lane_rings.specs.declared.items.Packet.{Packet}
use Rattle.lane_rings.specs.declared.items.Answer.{Answer}
use Rattle.lane_rings.specs.declared.batch.Place.{Place}
use Rattle.lane_rings.specs.Places.{packet_of}
use Rattle.lane_rings.specs.Judging.{JudgedSoFar, answer_to, answers_to, answer_at}

abbrev so_far : List Answer → List Packet → JudgedSoFar
so_far answers left = record { answers = answers; left = left }

-- a place among some
some_place : (places : List Place) (n : ℕ) → n < length places → Place
some_place [] n below = absurd (omega arith)
some_place (q ∷ places) n below = q

-- a batch's view `j` has a packet left, and then others
module _ (bytes : List ℕ) (places : List Place) (answered next : ℕ) (j : JudgedSoFar)
    (view : so_far (map (answer_at bytes) (take answered places)) (map (packet_of bytes) (drop next places)) ≡ j) (p : Packet) (rest : List Packet) (left : j.left ≡ p ∷ rest) where
  was_left : map (packet_of bytes) (drop next places) ≡ p ∷ rest
  was_left = ap (λ (k : JudgedSoFar). k.left) view ∙ left

  were_answered : map (answer_at bytes) (take answered places) ≡ j.answers
  were_answered = ap (λ (k : JudgedSoFar). k.answers) view

  below : next < length places
  below =
      let count = ap length was_left in
      let mapped = length-map (drop next places) (packet_of bytes) in
      let dropped = length-drop next places in
      omega (arith, count, mapped, dropped)

  opened : (d : Place) → packet_of bytes (get_or places next d) ∷ map (packet_of bytes) (drop (next + 1) places) ≡ p ∷ rest
  opened d = sym (ap (map (packet_of bytes)) (drop_more places next d below)) ∙ was_left

  first : (d : Place) → packet_of bytes (get_or places next d) ≡ p
  first d = let e = opened d in cc

  others : (d : Place) → map (packet_of bytes) (drop (next + 1) places) ≡ rest
  others d = let e = opened d in cc

  -- the packet was let go
  pub judged_out : (verdict : Option Verdict) → verdict ≡ None
      → so_far (map (answer_at bytes) (take answered places)) (map (packet_of bytes) (drop (next + 1) places)) ≡ so_far (j.answers ++ answers_to p verdict) rest
  judged_out verdict none =
      ap (so_far (map (answer_at bytes) (take answered places))) (others (some_place places next below))
      ∙ ap (λ l. so_far l rest) (were_answered ∙ sym (append-nil j.answers) ∙ ap (λ (v : Option Verdict). j.answers ++ answers_to p v) (sym none))

  -- it was answered: its place is moved behind those of the answers before it
  pub judged_with : (verdict : Option Verdict) (v : Verdict) → verdict ≡ Some v → answered ≤ next → (old new : Place) → old ≡ get_or places next old → new ≡ record old { verdict = v }
      → so_far (map (answer_at bytes) (take (answered + 1) (set places answered new))) (map (packet_of bytes) (drop (next + 1) (set places answered new)))
      ≡ so_far (j.answers ++ answers_to p verdict) rest
  judged_with verdict v some order old new here is =
      let moved = set places answered new in
      let room : answered < length places = let b = below in omega (arith, order, b) in
      let packet : answer_at bytes new ≡ answer_to p v =
      ap (answer_at bytes) is ∙ ap (λ (q : Packet). answer_to q v) (ap (packet_of bytes) here ∙ first old) in
      let more : map (answer_at bytes) (take (answered + 1) moved) ≡ j.answers ++ answers_to p verdict =
      ap (map (answer_at bytes)) (take_more_set places answered new room)
      ∙ map-append (answer_at bytes) (take answered places) (new ∷ [])
      ∙ ap (λ (a : Answer). map (answer_at bytes) (take answered places) ++ a ∷ []) packet
      ∙ ap (λ l. l ++ answer_to p v ∷ []) were_answered
      ∙ ap (λ (w : Option Verdict). j.answers ++ answers_to p w) (sym some) in
      let less : map (packet_of bytes) (drop (next + 1) moved) ≡ rest =
      ap (map (packet_of bytes)) (drop-set-lt (next + 1) places answered new (omega (arith, order))) ∙ others old in
      ap (λ l. so_far l (map (packet_of bytes) (drop (next + 1) moved))) more ∙ ap (so_far (j.answers ++ answers_to p verdict)) less
