-- What a read gives of the piece that stands in front.
use Rattle.std.proofs.Common.{◌≡◌, ℕ, ◌+◌, ◌≤◌, List, [], ◌++◌, length, take, drop, sym, ap, ◌∙◌, arith, append_assoc, length-take-le}
use Rattle.std.proofs.lemmas.List.{drop_all, take-append-drop}
use Rattle.std.proofs.Math.Seq.{take-append_seam}
use lib.Seq.{drop-drop}
use Rattle.capture_maker.specs.Made.{packet_records}
use Rattle.capture_maker.specs.declared.turns.Turn.{Turn}

-- n bytes of the piece were copied to the front of a buffer
pub given : (n place : ℕ) (piece to behind rest : List ℕ) → n ≤ length (drop place piece) → to ≡ take n (drop place piece) ++ behind
    → drop place piece ++ rest ≡ take n to ++ (drop (place + n) piece ++ rest)
given n place piece to behind rest within copied =
    let front = take n (drop place piece) in
    let kept : take n to ≡ front =
    ap (take n) copied ∙ ap (λ k. take k (front ++ behind)) (sym (length-take-le n (drop place piece) within)) ∙ take-append_seam front behind in
    let parts : drop place piece ≡ take n to ++ drop (place + n) piece =
    sym (take-append-drop n (drop place piece)) ∙ ap (λ l. front ++ l) (drop-drop n place piece) ∙ ap (λ l. l ++ drop (place + n) piece) (sym kept) in
    ap (λ l. l ++ rest) parts ∙ append_assoc (take n to) (drop (place + n) piece) rest

-- the piece was given whole, and the next one stands in front of what is left
pub moved_on : (place : ℕ) (piece next old new : List ℕ) → place ≡ length piece → old ≡ next ++ new → drop place piece ++ old ≡ next ++ new
moved_on place piece next old new whole parts = ap (λ l. l ++ old) (drop_all place piece (omega arith)) ∙ parts

-- the piece was given whole, and no turn is left
pub ended : (place index : ℕ) (piece : List ℕ) (turns : List Turn) → length piece ≤ place → turns ≡ [] → drop place piece ++ packet_records index turns ≡ []
ended place index piece turns whole none = ap (λ l. l ++ packet_records index turns) (drop_all place piece whole) ∙ ap (packet_records index) none
