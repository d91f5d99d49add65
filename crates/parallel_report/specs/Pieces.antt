-- Only for proofs. Pieces of the report, and the threads that make their texts.
use Rattle.std.specs.Prelude.{◌≡◌, ⊤, List, [], ◌∷◌, Option, IfSome, flat_map}
use Rattle.app_api.specs.App.{Meaning}
use Rattle.app_api.specs.declared.app.App.{Ghosts}
use Rattle.std.specs.declared.thread.PromisedHandle.{PromisedHandle}
use Rattle.lane_core.specs.declared.under_way.RecordUnderWay.{RecordUnderWay}
use Rattle.parallel_report.specs.declared.text.Made.{Made}
use Rattle.parallel_report.specs.declared.piece.Makes.{Makes}
use Rattle.parallel_report.specs.declared.piece.Piece.{Piece}

module _ {A : Type 0} where
  -- the thread, if there is one, promises the text of the first of these records
  abbrev pub IsMakerOf : Ghosts A → Meaning → List RecordUnderWay → Option (PromisedHandle Made (Makes A)) → Type 0
  IsMakerOf g app records maker = IfSome maker (λ h. (g.meaning h.promise.app.now ≡ app) × (h.promise.records.now ≡ records))

  -- the thread of a piece, if there is one, promises the text of its first records
  abbrev pub IsPieceOf : Ghosts A → Meaning → Piece A → Type 0
  IsPieceOf g app piece = IsMakerOf g app piece.records.now piece.maker

  -- the same of some pieces
  abbrev pub ArePieces : Ghosts A → Meaning → List (Piece A) → Type 0
  ArePieces g app [] = ⊤
  ArePieces g app (p ∷ ps) = IsPieceOf g app p × ArePieces g app ps

  -- the records of some pieces
  abbrev pub records_of : List (Piece A) → List RecordUnderWay
  records_of pieces = flat_map (λ p. p.records.now) pieces
