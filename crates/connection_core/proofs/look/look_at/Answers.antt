use Rattle.std.proofs.Common.{◌≡◌, ℕ, List, [], ◌++◌, ◌∷◌, length, map, sym, ap, subst, ◌∙◌, arith}
use Rattle.std.specs.Prelude.{if◌then◌else◌}
use Rattle.reassembly.specs.Receiver.{kept}
use Rattle.reassembly.specs.Kept.{bytes_from, positions_in, AreWhole}
use Rattle.flow_socket.specs.Emulation.{direction_of}
use Rattle.flow_socket.specs.Peek.{runs_at, pieces_at}
use Rattle.app_api.specs.declared.entry.Seen.TheVariants.{At}
use Rattle.connection_core.proofs.Looking.{Looking, positions-cons, looking_begun, looking_on, got_all, seen_all}
use Rattle.connection_core.proofs.look.look_at.Goals as goal

pub loop-place-init : goal.loop-place-init
loop-place-init c = record {
  can_next = tt;
  is_finite = tt;
  few =
      let left : positions_in c.into_iter-place-iterator.result ≡ positions_in c.ppeek-place-items.result = ap positions_in c.into_iter-place-iterator.ensures.into_iter_gives in
      omega (arith, left, c.ppeek-place-items.ensures.few, c.from.ensures);
  looking = λ e stands.
      let at = kept (direction_of c.args.from e).receiver.cells e.rbuf in
      let all = runs_at c.args.from c.args.off c.args.len e in
      let runs = c.ppeek-place-items.ensures.runs e stands ∙ ap (λ n. runs_at c.args.from c.args.off n e) c.from.ensures in
      let left : c.into_iter-place-iterator.result ≡ all = c.into_iter-place-iterator.ensures.into_iter_gives ∙ runs in
      let none : c.new.result.items ≡ [] = c.new.ensures.items in
      let whole : AreWhole at all = subst (AreWhole at) runs (c.ppeek-place-items.ensures.whole e stands) in
      subst (λ (l : List (ℕ × ℕ)). Looking at all c.args.keep 0 c.new.result.items l) (sym left)
      (subst (λ (p : List (ℕ × List ℕ)). Looking at all c.args.keep 0 p all) (sym none) (looking_begun c.args.from c.args.off c.args.len e c.args.keep whole));
}

pub note_piece-requires : goal.note_piece-requires
note_piece-requires c =
    let sums = ap positions_in c.in-Some.ensures.steps ∙ positions-cons c.in-Some.place c.in-Some.run' c.next.new.self in
    omega (arith, sums, c.loop-place.invariant.few)

pub loop-place-preserved : goal.loop-place-preserved
loop-place-preserved c =
    let sums = ap positions_in c.in-Some.ensures.steps ∙ positions-cons c.in-Some.place c.in-Some.run' c.next.new.self in record {
      can_next = tt;
      is_finite = tt;
      few = omega (arith, sums, c.loop-place.invariant.few);
      looking = λ e stands.
          looking_on (kept (direction_of c.args.from e).receiver.cells e.rbuf) (runs_at c.args.from c.args.off c.args.len e) c.args.keep c.loop-place.got c.loop-place.pieces c.note_piece.new.pieces
          c.loop-place.place-iterator c.next.new.self c.in-Some.place c.in-Some.run' (c.loop-place.invariant.looking e stands) c.in-Some.ensures.steps
          (subst (λ n. length (bytes_from (kept (direction_of c.args.from e).receiver.cells n) c.in-Some.place c.in-Some.run') ≡ c.in-Some.run'
          → c.note_piece.new.pieces ≡ (if c.args.keep then c.loop-place.pieces ++ (
            c.in-Some.place,
            bytes_from
                (kept (direction_of c.args.from e).receiver.cells n) c.in-Some.place c.in-Some.run',
          ) ∷ [] else c.loop-place.pieces))
          (c.stream-stream.ensures.rbuf e stands) (c.in_ok-note_piece.ensures (direction_of c.args.from e).receiver (c.stream-stream.ensures.stands e stands)));
    }

pub returns-clause-got : goal.returns-clause-got
returns-clause-got c = λ e stands.
    let runs = c.ppeek-place-items.ensures.runs e stands in
    let same = subst (λ n. map (λ (piece : ℕ × List ℕ). (piece.0, length piece.1)) (pieces_at c.args.from c.args.off n e) ≡ runs_at c.args.from
    c.args.off n e) c.from.ensures (c.ppeek-place-items.ensures.pieces e stands ∙ runs) in
    got_all c.args.from c.args.off c.args.len e c.args.keep c.loop-place.got c.loop-place.pieces c.loop-place.place-iterator (c.loop-place.invariant.looking e stands) c.in-None.ensures.steps.0 same

pub returns-clause-seen : goal.returns-clause-seen
returns-clause-seen c = λ keep e stands.
    ap (At c.args.off) (seen_all c.args.from c.args.off c.args.len e c.args.keep c.loop-place.got c.loop-place.pieces c.loop-place.place-iterator keep
    (c.loop-place.invariant.looking e stands) c.in-None.ensures.steps.0)
