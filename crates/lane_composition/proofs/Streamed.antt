-- The answers of a forward run by the numbers of its packets, and by the list of verdicts.
use Rattle.std.proofs.Common.{◌≡◌, ◌<◌, ◌≤◌, ◌+◌, ℕ, zero, suc, Bool, true, false, cond, List, [], ◌∷◌, ◌++◌, length, get_or, take, map, refl, sym, ap, ◌∙◌, arith, append-nil}
use Rattle.std.specs.Prelude.{if◌then◌else◌, ◌==◌}
use Rattle.std.specs.List.{flat_map}
use Rattle.std.proofs.lemmas.List.{map-append, take_more, flat_map_more}
use Rattle.pcap_source.specs.Captured.{Captured}
use Rattle.app_api.specs.declared.reaction.Verdict.{Verdict}
use Rattle.app_api.specs.declared.reaction.Verdict.TheVariants.{Pass, Drop}
use Rattle.lane_rings.specs.declared.items.Answer.{Answer}
use Rattle.lane_composition.specs.Share.{share as numbers_of_share}
use Rattle.lane_composition.specs.Forwarded.{bytes_out, forwarded as forwarded_numbers}
use Rattle.run_outcome.specs.Forwarded.{bytes_under as frame_under}
use Rattle.flow_table.specs.Key.{EndpointPair}
use Rattle.lane_core.specs.Sight.{Arrival}
use Rattle.run_outcome.specs.Lanes.{lane_of}
use Rattle.lane_composition.specs.Judged.{bytes_under, forwarded}
use Rattle.lane_composition.specs.Runs.{judged_part}
use Rattle.lane_composition.specs.Streamed.{answer_to, answers_to, answer_at, lane_in, AreNumbered, frame_bytes}

-- one more packet, of the part or not
kept_here : (j x : Arrival × Verdict) (b c : Bool) (xs : List (Arrival × Verdict)) → cond b (x ∷ xs ++ cond c (j ∷ []) []) (xs ++ cond c (j ∷ []) []) ≡ cond b (x ∷ xs) xs ++ cond c (j ∷ []) []
kept_here j x true c xs = refl
kept_here j x false c xs = refl

part_push : (lane : EndpointPair → ℕ) (l : ℕ) (xs : List (Arrival × Verdict)) (j : Arrival × Verdict)
    → judged_part lane l (xs ++ j ∷ []) ≡ judged_part lane l xs ++ cond (lane_of lane j.0.sight == l) (j ∷ []) []
part_push lane l [] j = refl
part_push lane l (x ∷ xs) j =
    ap (λ ys. cond (lane_of lane x.0.sight == l) (x ∷ ys) ys) (part_push lane l xs j)
    ∙ kept_here j x (lane_of lane x.0.sight == l) (lane_of lane j.0.sight == l) (judged_part lane l xs)

answers_push : (frame_of : ℕ → Captured) (f : ℕ → Answer) (ns : List ℕ) (n : ℕ) (xs : List (Arrival × Verdict)) (j : Arrival × Verdict) (b : Bool) → map f ns ≡ answers_to frame_of xs
    → f n ≡ answer_to frame_of j.0.number j.1
    → map f (if b then ns ++ n ∷ [] else ns) ≡ answers_to frame_of (xs ++ cond b (j ∷ []) [])
answers_push frame_of f ns n xs j true before last =
    map-append f ns (n ∷ []) ∙ ap (λ x. map f ns ++ x ∷ []) last ∙ ap (λ l. l ++ answer_to frame_of j.0.number j.1 ∷ []) before
    ∙ sym (map-append (λ k. answer_to frame_of k.0.number k.1) xs (j ∷ []))
answers_push frame_of f ns n xs j false before last = before ∙ ap (answers_to frame_of) (sym (append-nil xs))

same_bytes : (v : Verdict) (f : Captured) → frame_under v f ≡ bytes_under v (f.head ++ f.bytes)
same_bytes Pass f = refl
same_bytes (Drop reason) f = refl

module _ (frame_of : ℕ → Captured) (js : List (Arrival × Verdict)) (d : Arrival × Verdict) (numbered : AreNumbered js) where
  by_number : (i : ℕ) → i < length js → answer_at frame_of js d i ≡ answer_to frame_of (get_or js i d).0.number (get_or js i d).1
  by_number i lt = ap (λ k. answer_to frame_of k (get_or js i d).1) (sym (numbered i d lt))

  one_more : (n : ℕ) → n < length js → take (suc n) js ≡ take n js ++ get_or js n d ∷ []
  one_more n lt = ap (λ k. take k js) (let e : suc n ≡ n + 1 = omega arith in e) ∙ take_more js n d lt

  pub streamed_share : (lane : EndpointPair → ℕ) (l n : ℕ) → n ≤ length js
      → map (answer_at frame_of js d) (numbers_of_share (lane_in lane js d) l n) ≡ answers_to frame_of (judged_part lane l (take n js))
  unfolding numbers_of_share
  streamed_share lane l zero le = refl
  streamed_share lane l (suc n) le =
      answers_push frame_of (answer_at frame_of js d) (numbers_of_share (lane_in lane js d) l n) n (judged_part lane l (take n js)) (get_or js n d) (lane_in lane js d n == l)
      (streamed_share lane l n (omega arith)) (by_number n le)
      ∙ ap (answers_to frame_of) (sym (part_push lane l (take n js) (get_or js n d)) ∙ ap (judged_part lane l) (sym (one_more n le)))

  packet_bytes : (n : ℕ) → n < length js → bytes_out (answer_at frame_of js d n) ≡ bytes_under (get_or js n d).1 (frame_bytes frame_of (get_or js n d).0)
  packet_bytes n lt = same_bytes (get_or js n d).1 (frame_of n) ∙ ap (λ k. bytes_under (get_or js n d).1 ((frame_of k).head ++ (frame_of k).bytes)) (sym (numbered n d lt))

  pub streamed_bytes : (n : ℕ) → n ≤ length js → forwarded_numbers (answer_at frame_of js d) n ≡ forwarded (frame_bytes frame_of) (take n js)
  unfolding forwarded_numbers
  streamed_bytes zero le = refl
  streamed_bytes (suc n) le =
      let left = λ (j : Arrival × Verdict). bytes_under j.1 (frame_bytes frame_of j.0) in
      ap (λ x. x ++ bytes_out (answer_at frame_of js d n)) (streamed_bytes n (omega arith))
      ∙ ap (λ x. forwarded (frame_bytes frame_of) (take n js) ++ x) (packet_bytes n le)
      ∙ flat_map_more left [] (take n js) (get_or js n d) ∙ ap (flat_map left) (sym (one_more n le))
