-- Pieces that are on their way: one more, and the first one less.
use Rattle.std.proofs.Common.{◌≡◌, List, [], ◌∷◌, ◌++◌, ap, subst, sym, ◌∙◌}
use Rattle.std.proofs.lemmas.List.{append_assoc, flat_map_more}
use Rattle.app_api.specs.App.{Meaning}
use Rattle.app_api.specs.declared.app.App.{Ghosts}
use Rattle.lane_core.specs.declared.under_way.RecordUnderWay.{RecordUnderWay}
use Rattle.parallel_report.specs.declared.piece.Piece.{Piece}
use Rattle.parallel_report.specs.Pieces.{IsPieceOf, ArePieces, records_of}
use Rattle.parallel_report.proofs.Lines.{lines, lines-append}

module _ {A : Type 0} (g : Ghosts A) (app : Meaning) where
  -- one piece more
  pub one-more : (ps : List (Piece A)) (p : Piece A) → ArePieces g app ps → IsPieceOf g app p → ArePieces g app (ps ++ p ∷ [])
  one-more [] p all is = (is, tt)
  one-more (q ∷ ps) p all is = (all.0, one-more ps p all.1 is)

  -- the first piece, and the others
  pub first-and-others : (ps : List (Piece A)) (p : Piece A) (others : List (Piece A)) → ps ≡ p ∷ others → ArePieces g app ps
      → IsPieceOf g app p × ArePieces g app others
  first-and-others ps p others is all = subst (ArePieces g app) is all

module _ {A : Type 0} where
  -- the records of the piece more were the first of those that were left
  pub records-started : (ps : List (Piece A)) (p : Piece A) (next behind left : List RecordUnderWay) → p.records.now ≡ next → left ≡ next ++ behind
      → records_of (ps ++ p ∷ []) ++ behind ≡ records_of ps ++ left
  records-started ps p next behind left of cut =
      ap (λ rs. rs ++ behind) (sym (flat_map_more (λ (q : Piece A). q.records.now) [] ps p))
      ∙ append_assoc (records_of ps) p.records.now behind
      ∙ ap (λ rs. records_of ps ++ rs) (ap (λ rs. rs ++ behind) of ∙ sym cut)

  -- the lines of the first piece, and those of the others and of what is left
  pub lines-first : (app : Meaning) (ps : List (Piece A)) (p : Piece A) (others : List (Piece A)) (left : List RecordUnderWay) → ps ≡ p ∷ others
      → lines app (records_of ps ++ left) ≡ lines app p.records.now ++ lines app (records_of others ++ left)
  lines-first app ps p others left is =
      ap (λ qs. lines app (records_of qs ++ left)) is
      ∙ ap (lines app) (append_assoc p.records.now (records_of others) left)
      ∙ lines-append app p.records.now (records_of others ++ left)
