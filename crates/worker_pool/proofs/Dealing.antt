-- The packets of a capture that go to a lane.
use Rattle.std.proofs.Common.{◌≡◌, ◌≤◌, ℕ, ◌+◌, Bool, true, false, cond, Option, Some, List, [], ◌∷◌, length, map, refl, sym, ap, ◌∙◌, arith}
use Rattle.std.specs.Prelude.{◌==◌}
use Rattle.std.specs.List.{All}
use Rattle.std.proofs.lemmas.Bool.{lt-ltb}
use Rattle.std.proofs.lemmas.List.Elements.{All-nil, All-cons, All-filter}
use Rattle.pcap_source.specs.Captured.{Captured}
use Rattle.flow_table.specs.Lane.{lane_of_key}
use Rattle.ip6_views.specs.Sight.{lane_of_sight}
use Rattle.control_script.specs.declared.stamped.Stamped.{Stamped}
use Rattle.control_script.specs.Versions.{floor, ceil}
use Rattle.lane_rings.specs.declared.items.Packet.{Packet}
use Rattle.lane_core.specs.Sight.{Arrival, arrivals, arrival_of, sight_of}
use Rattle.lane_composition.specs.Lanes.{share}
use Rattle.run_outcome.specs.Lanes.{lane_of as lane_by}
use Rattle.worker_pool.specs.Sent.{sent_as, packets_from, lane_of, dealt}
use Rattle.lane_worker.specs.Steps.{is_behind}
use Rattle.worker_pool.proofs.Handing.{arrival_in, AreInTurn, IsMarked}

-- ---- floors and ceilings

-- what the laws on a script say of its floors and ceilings
pub record AreOrdered (script : List Stamped) : Type 0 where
  pub within : (n : ℕ) → floor script n ≤ ceil script n
  pub rises : (n m : ℕ) → n ≤ m → ceil script n ≤ ceil script m
  pub count : (n : ℕ) → ceil script n ≤ length script

module _ (script : List Stamped) where
  -- each packet carries the floor and the ceiling of its index
  all_marked : (n : ℕ) (frames : List Captured) → All (IsMarked (floor script) (ceil script)) (packets_from script n frames)
  unfolding packets_from
  all_marked n [] = All-nil (IsMarked (floor script) (ceil script))
  all_marked n (frame ∷ frames) =
      All-cons (IsMarked (floor script) (ceil script)) (sent_as script n frame) (packets_from script (n + 1) frames) (record { floor_is = refl; ceil_is = refl }) (all_marked (n + 1) frames)

  pub dealt_marked : (lanes l n : ℕ) (frames : List Captured) → All (IsMarked (floor script) (ceil script)) (dealt lanes l (packets_from script n frames))
  dealt_marked lanes l n frames = All-filter (λ p. lane_of lanes p == l) (IsMarked (floor script) (ceil script)) (packets_from script n frames) (all_marked n frames)

  -- ---- the packets of a lane come in turn

  in_turn_where : (b : Bool) (count low : ℕ) (last : Option ℕ) (p : Packet) (ps qs : List Packet) → AreInTurn count last low (p ∷ ps) → AreInTurn count last low qs → ps ≡ qs
      → AreInTurn count last low (cond b (p ∷ ps) qs)
  in_turn_where true count low last p ps qs here not_here same = here
  in_turn_where false count low last p ps qs here not_here same = not_here

  module _ (ordered : AreOrdered script) (lanes l : ℕ) where
    pub dealt_in_turn : (n low : ℕ) (last : Option ℕ) (frames : List Captured) → n + length frames ≤ 1048576 → ((m : ℕ) → n ≤ m → is_behind last m ≡ true) → low ≤ ceil script n
        → AreInTurn (length script) last low (dealt lanes l (packets_from script n frames))
    unfolding packets_from
    dealt_in_turn n low last [] few behind le = tt
    dealt_in_turn n low last (frame ∷ frames) few behind le =
        let rest = dealt lanes l (packets_from script (n + 1) frames) in
        let more : n + 1 + length frames ≤ 1048576 = omega arith in
        let up = ordered.rises n (n + 1) (omega arith) in
        in_turn_where (lane_of lanes (sent_as script n frame) == l) (length script) low last (sent_as script n frame) rest rest (
          behind n (omega arith),
          omega arith,
          ordered.within n,
          ordered.count n,
          le,
          dealt_in_turn (n + 1) (ceil script n) (Some n) frames more (λ m at. lt-ltb n m (omega arith)) up,
        )
        (dealt_in_turn (n + 1) low last frames more (λ m at. behind m (omega arith)) (omega arith))
        refl

-- ---- they are the lane's share

module _ (lanes l : ℕ) (dealt_by_key : (frame : List ℕ) → lane_by (λ key. lane_of_key key lanes) (sight_of frame) ≡ lane_of_sight (sight_of frame) lanes) where
  shared_where : (b c : Bool) (p : Packet) (a : Arrival) (ps : List Packet) (as_seen : List Arrival) → b ≡ c → arrival_in p ≡ a → map arrival_in ps ≡ as_seen
      → map arrival_in (cond b (p ∷ ps) ps) ≡ cond c (a ∷ as_seen) as_seen
  shared_where true true p a ps as_seen e f g = ap (λ x. x ∷ map arrival_in ps) f ∙ ap (λ l. a ∷ l) g
  shared_where false false p a ps as_seen e f g = g
  shared_where _ _ p a ps as_seen e f g = absurd (cc)

  pub dealt_is_share : (script : List Stamped) (n : ℕ) (frames : List Captured)
      → map arrival_in (dealt lanes l (packets_from script n frames)) ≡ share (λ key. lane_of_key key lanes) l (arrivals n frames)
  unfolding packets_from
  dealt_is_share script n [] = refl
  dealt_is_share script n (frame ∷ frames) =
      let here = dealt_by_key frame.bytes in
      shared_where (lane_of lanes (sent_as script n frame) == l) (lane_by (λ key. lane_of_key key lanes) (sight_of frame.bytes) == l) (sent_as script n frame) (arrival_of n frame)
      (dealt lanes l (packets_from script (n + 1) frames)) (share (λ key. lane_of_key key lanes) l (arrivals (n + 1) frames))
      (ap (λ k. k == l) (sym here)) refl (dealt_is_share script (n + 1) frames)
