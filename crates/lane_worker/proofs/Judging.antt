-- A batch that a worker judges, packet by packet.
use Rattle.std.proofs.Common.{◌≡◌, ◌<◌, Option, Some, List, [], ◌∷◌, ◌++◌, length, drop, sym, ap, subst, ◌∙◌, append_assoc, arith}
use Rattle.std.specs.Prelude.{slice_get}
use Rattle.std.proofs.lemmas.List.{append-nil}
use Rattle.app_api.specs.declared.reaction.Verdict.{Verdict}
use Rattle.forest_versions.specs.declared.command.Command.{Command}
use Rattle.lane_rings.specs.declared.items.Packet.{Packet}
use Rattle.lane_rings.specs.declared.items.Answer.{Answer}
use Rattle.lane_rings.specs.Judging.{JudgedSoFar, answers_to}
use Rattle.lane_core.specs.declared.recorder.Recorder.{Ghosts}
use Rattle.lane_worker.specs.declared.worker.Worker.{Worker}
use Rattle.lane_worker.specs.Turning.{Judged, JudgedTo}
use Rattle.lane_worker.proofs.Composed.{judged_none, judged_two}

-- a list by its first element
by_first : (xs : List Packet) (x : Packet) → slice_get xs 0 ≡ Some x → xs ≡ x ∷ drop 1 xs
by_first [] x at = absurd (cc)
by_first (y ∷ xs) x at = let same : y ≡ x = cc in ap (λ (z : Packet). z ∷ xs) same

module _ {L : Type 0} (g : Ghosts L) (script : List Command) where
  pub to_none : (a : Worker L) (batch : List Packet) (now : JudgedSoFar) → now.answers ≡ [] → now.left ≡ batch → JudgedTo g script a a batch now
  to_none a batch now none all = record { packets = []; all = all; judged = subst (Judged g script a a []) (sym none) (judged_none g script a) }

  -- one packet more
  module _ (now next : JudgedSoFar) (p : Packet) (verdict : Option Verdict) (at : slice_get now.left 0 ≡ Some p)
      (moves : (q : Packet) (rest : List Packet) → now.left ≡ q ∷ rest → next ≡ record { answers = now.answers ++ answers_to q verdict; left = rest }) where
    pub to_next : (a b c : Worker L) (batch : List Packet) → JudgedTo g script a b batch now → Judged g script b c (p ∷ []) (answers_to p verdict) → JudgedTo g script a c batch next
    to_next a b c batch so_far one =
        let rest = drop 1 now.left in
        let split = by_first now.left p at in
        let is = moves p rest split in
        record {
          packets = so_far.packets ++ p ∷ [];
          all = ap (λ (j : JudgedSoFar). (so_far.packets ++ p ∷ []) ++ j.left) is ∙ append_assoc so_far.packets (p ∷ []) rest ∙ ap (λ l. so_far.packets ++ l) (sym split) ∙ so_far.all;
          judged = subst (λ (j : JudgedSoFar). Judged g script a c (so_far.packets ++ p ∷ []) j.answers) (sym is)
              (judged_two g script a b c so_far.packets (p ∷ []) now.answers (answers_to p verdict) so_far.judged one);
        }

    pub fewer_left : length next.left < length now.left
    fewer_left =
        let split = by_first now.left p at in
        let before = ap length split in
        let after = ap (λ (j : JudgedSoFar). length j.left) (moves p (drop 1 now.left) split) in
        omega (arith, before, after)

  -- all of them
  pub to_all : (a b : Worker L) (batch : List Packet) (now : JudgedSoFar) (answers : List Answer) → JudgedTo g script a b batch now → now.left ≡ [] → answers ≡ now.answers → Judged g script a b batch answers
  to_all a b batch now answers so_far none is =
      let all : so_far.packets ≡ batch = sym (append-nil so_far.packets) ∙ ap (λ l. so_far.packets ++ l) (sym none) ∙ so_far.all in
      subst (λ l. Judged g script a b l answers) all (subst (Judged g script a b so_far.packets) (sym is) so_far.judged)
