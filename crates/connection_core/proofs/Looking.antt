-- What a peek reads, run by run.
use Rattle.std.proofs.Common.{◌≡◌, ℕ, ◌+◌, Bool, true, Option, List, [], ◌∷◌, ◌++◌, length, map, take, refl, sym, ap, subst, ◌∙◌, arith, append_assoc, append-nil}
use Rattle.std.specs.Prelude.{if◌then◌else◌}
use Rattle.std.specs.List.{All}
use Rattle.std.proofs.Math.Seq.{take-append_seam}
use Rattle.std.proofs.lemmas.List.Elements.{All-head, All-tail}
use Rattle.std.proofs.lemmas.List.Sums.{sum_by-cons}
use Rattle.flow_socket.specs.declared.answers.Peeked.{Peeked}
use Rattle.tcp_emulation.specs.declared.segment.Side.{Side}
use Rattle.reassembly.specs.Receiver.{kept}
use Rattle.reassembly.specs.Kept.{bytes_from, positions_in, AreWhole}
use Rattle.flow_socket.specs.Emulation.{Emulation, direction_of}
use Rattle.flow_socket.specs.Peek.{peeked, bytes_peeked, runs_at, pieces_at}
use Rattle.connection_core.specs.PacketUnderWay.{bytes_in}

-- ---- the next bytes

pub got_next : (from : Side) (n : ℕ) (e : Emulation) (answer : Peeked) → answer ≡ peeked from n e → answer.len ≡ length (bytes_peeked from n e)
unfolding peeked bytes_peeked
got_next from n e answer is = ap (λ (p : Peeked). p.len) is

-- the bytes stand at the front
pub bytes_next : (from : Side) (n : ℕ) (e : Emulation) (buf rest : List ℕ) (got : ℕ) → got ≡ length (bytes_peeked from n e) → buf ≡ bytes_peeked from n e ++ rest
    → take got buf ≡ bytes_peeked from n e
bytes_next from n e buf rest got many is = ap (λ k. take k buf) many ∙ ap (take (length (bytes_peeked from n e))) is ∙ take-append_seam (bytes_peeked from n e) rest

-- ---- runs that are read one after the other

pub positions-cons : (place run : ℕ) (runs : List (ℕ × ℕ)) → positions_in ((place, run) ∷ runs) ≡ run + positions_in runs
positions-cons place run runs = sum_by-cons (λ (r : ℕ × ℕ). r.1) (place, run) runs

abbrev pub pieces_of : (ℕ → Option ℕ) → List (ℕ × ℕ) → List (ℕ × List ℕ)
pieces_of at runs = map (λ (run : ℕ × ℕ). (run.0, bytes_from at run.0 run.1)) runs

-- what was seen so far, and the runs that are left
pub record Looking (at : ℕ → Option ℕ) (all : List (ℕ × ℕ)) (keep : Bool) (got : ℕ) (pieces : List (ℕ × List ℕ)) (left : List (ℕ × ℕ)) : Type 0 where
  pub whole : AreWhole at left
  pub sum : got + positions_in left ≡ positions_in all
  pub kept : keep ≡ true → pieces ++ pieces_of at left ≡ pieces_of at all

pub looking_begun : (from : Side) (place n : ℕ) (e : Emulation) (keep : Bool) → AreWhole (kept (direction_of from e).receiver.cells e.rbuf) (runs_at from place n e)
    → Looking (kept (direction_of from e).receiver.cells e.rbuf) (runs_at from place n e) keep 0 [] (runs_at from place n e)
looking_begun from place n e keep whole = record { whole = whole; sum = omega arith; kept = λ k. refl }

pub looking_on : (at : ℕ → Option ℕ) (all : List (ℕ × ℕ)) (keep : Bool) (got : ℕ) (pieces more : List (ℕ × List ℕ)) (left after : List (ℕ × ℕ)) (place run : ℕ)
    → Looking at all keep got pieces left → left ≡ (place, run) ∷ after
    → (length (bytes_from at place run) ≡ run → more ≡ (if keep then pieces ++ (place, bytes_from at place run) ∷ [] else pieces))
    → Looking at all keep (got + run) more after
looking_on at all keep got pieces more left after place run l is noted =
    let W : ℕ × ℕ → Type 0 = λ (r : ℕ × ℕ). length (bytes_from at r.0 r.1) ≡ r.1 in
    let whole : All W ((place, run) ∷ after) = subst (AreWhole at) is l.whole in
    let sums : positions_in left ≡ run + positions_in after = ap positions_in is ∙ positions-cons place run after in record {
      whole = All-tail W (place, run) after whole;
      sum = omega (arith, l.sum, sums);
      kept = λ k.
          let pushed : more ≡ pieces ++ (place, bytes_from at place run) ∷ [] =
          noted (All-head W (place, run) after whole) ∙ ap (λ b. if b then pieces ++ (place, bytes_from at place run) ∷ [] else pieces) k in
          ap (λ m. m ++ pieces_of at after) pushed
          ∙ append_assoc pieces ((place, bytes_from at place run) ∷ []) (pieces_of at after)
          ∙ ap (λ r. pieces ++ pieces_of at r) (sym is) ∙ l.kept k;
    }

in-pieces : (pieces : List (ℕ × List ℕ)) → bytes_in pieces ≡ positions_in (map (λ (piece : ℕ × List ℕ). (piece.0, length piece.1)) pieces)
in-pieces [] = refl
in-pieces (piece ∷ pieces) =
    let runs = map (λ (p : ℕ × List ℕ). (p.0, length p.1)) pieces in
    ap (λ n. length piece.1 + n) (in-pieces pieces) ∙ sym (positions-cons piece.0 (length piece.1) runs)

-- once no run is left, all were seen
pub got_all : (from : Side) (place n : ℕ) (e : Emulation) (keep : Bool) (got : ℕ) (pieces : List (ℕ × List ℕ)) (left : List (ℕ × ℕ))
    → Looking (kept (direction_of from e).receiver.cells e.rbuf) (runs_at from place n e) keep got pieces left → left ≡ []
    → map (λ (piece : ℕ × List ℕ). (piece.0, length piece.1)) (pieces_at from place n e) ≡ runs_at from place n e
    → got ≡ bytes_in (pieces_at from place n e)
got_all from place n e keep got pieces left l none same =
    let sums : positions_in left ≡ 0 = ap positions_in none in
    let all : bytes_in (pieces_at from place n e) ≡ positions_in (runs_at from place n e) = in-pieces (pieces_at from place n e) ∙ ap positions_in same in
    omega (arith, l.sum, sums, all)

pub seen_all : (from : Side) (place n : ℕ) (e : Emulation) (keep : Bool) (got : ℕ) (pieces : List (ℕ × List ℕ)) (left : List (ℕ × ℕ)) → keep ≡ true
    → Looking (kept (direction_of from e).receiver.cells e.rbuf) (runs_at from place n e) keep got pieces left → left ≡ [] → pieces ≡ pieces_at from place n e
unfolding pieces_at
seen_all from place n e keep got pieces left k l none =
    let at = kept (direction_of from e).receiver.cells e.rbuf in
    sym (append-nil pieces) ∙ ap (λ r. pieces ++ pieces_of at r) (sym none) ∙ l.kept k
