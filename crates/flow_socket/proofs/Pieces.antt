-- Runs that are kept whole, and their bytes.
use Rattle.std.proofs.Common.{◌≡◌, ℕ, Option, List, [], ◌∷◌, length, map, refl, ap₂}
use Rattle.std.proofs.lemmas.List.Elements.{All-head, All-tail}
use Rattle.reassembly.specs.Kept.{bytes_from, AreWhole}

-- a run and its bytes
abbrev pub piece_of : (ℕ → Option ℕ) → ℕ × ℕ → ℕ × List ℕ
piece_of at run = (run.0, bytes_from at run.0 run.1)

-- the pieces of whole runs, told by their places and lengths, are the runs
pub pieces_whole : (at : ℕ → Option ℕ) (runs : List (ℕ × ℕ)) → AreWhole at runs → map (λ (piece : ℕ × List ℕ). (piece.0, length piece.1)) (map (piece_of at) runs) ≡ runs
pieces_whole at [] all = refl
pieces_whole at (run ∷ runs) all =
    let IsRead : ℕ × ℕ → Type 0 = λ (r : ℕ × ℕ). length (bytes_from at r.0 r.1) ≡ r.1 in
    ap₂ (λ (len : ℕ) (rest : List (ℕ × ℕ)). (run.0, len) ∷ rest) (All-head IsRead run runs all) (pieces_whole at runs (All-tail IsRead run runs all))
