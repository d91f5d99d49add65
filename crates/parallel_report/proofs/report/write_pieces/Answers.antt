use Rattle.std.proofs.Common.{◌≡◌, ◌++◌, ap, arith, length, refl, subst, sym, ◌∙◌}
use Rattle.std.proofs.lemmas.List.{nil_from_length}
use Rattle.report_text.proofs.WritesText.{Underway, underway-done, underway-more, underway-part, refused-before}
use Rattle.parallel_report.specs.Pieces.{ArePieces, records_of}
use Rattle.parallel_report.proofs.Fitting.{fit, fit-first}
use Rattle.parallel_report.proofs.Lines.{lines}
use Rattle.parallel_report.proofs.Pieces.{one-more, first-and-others, records-started, lines-first}
use Rattle.parallel_report.proofs.report.write_pieces.Goals as goal
use Rattle.parallel_report.proofs.report.write_pieces.Goals.{else-len-most-via-then-len-most+else-not-is_empty, else-len-most-via-else-len-most}

pub returns-in_err-ahead-clause-text : goal.returns-in_err-ahead-clause-text
returns-in_err-ahead-clause-text g c = refused-before g.O.Sink _ _ _ c.from_residual.ensures.1

pub loop-left-preserved-then-not-is_empty : goal.loop-left-preserved-then-not-is_empty
loop-left-preserved-then-not-is_empty g c =
    let app = g.A.App.meaning c.args.app.now in
    let i = c.loop-left.invariant in
    let behind = c.split_at.result.1.now in
    let same = ap (λ ps. records_of ps ++ behind) c.push_back_reserved.ensures.items
    ∙ records-started c.loop-left.ahead.items c.start_piece-piece.result c.split_at.result.0.now behind c.loop-left.left.now
    c.start_piece-piece.ensures.records c.split_at.ensures.by_index.0 in
    record {
      pieces = subst (ArePieces g.A.App app) (sym c.push_back_reserved.ensures.items)
          (one-more g.A.App app c.loop-left.ahead.items c.start_piece-piece.result i.pieces c.start_piece-piece.ensures.piece);
      room = let e = c.push_back_reserved.ensures.capacity in let r = i.room in omega (arith, e, r);
      written = subst (λ rs. Underway g.O.Sink c.args.out.now c.loop-left.out (lines app c.args.records.now) (lines app rs)) (sym same) i.written;
      some = i.some;
      fit = i.fit ∙ ap (fit app) (sym same);
    }

pub returns-in-None-clause-text : goal.returns-in-None-clause-text
returns-in-None-clause-text g c =
    let app = g.A.App.meaning c.args.app.now in
    let none : length c.loop-left.ahead.items ≡ 0 = grind arith in
    let empty : length c.loop-left.left.now ≡ 0 = elim c.else-len-most.branch [
      | else-len-most-via-then-len-most+else-not-is_empty w ↦ grind arith
      | else-len-most-via-else-len-most w ↦ grind arith
    ] in
    underway-done g.O.Sink _ _ _ _ _ c.loop-left.invariant.written
    (ap (λ ps. lines app (records_of ps ++ c.loop-left.left.now)) (nil_from_length c.loop-left.ahead.items none)
    ∙ ap (lines app) (nil_from_length c.loop-left.left.now empty))

pub returns-in-None-clause-fits : goal.returns-in-None-clause-fits
returns-in-None-clause-fits g c done =
    let app = g.A.App.meaning c.args.app.now in
    let none : length c.loop-left.ahead.items ≡ 0 = grind arith in
    let empty : length c.loop-left.left.now ≡ 0 = elim c.else-len-most.branch [
      | else-len-most-via-then-len-most+else-not-is_empty w ↦ grind arith
      | else-len-most-via-else-len-most w ↦ grind arith
    ] in
    c.loop-left.invariant.fit ∙ ap (λ ps. fit app (records_of ps ++ c.loop-left.left.now)) (nil_from_length c.loop-left.ahead.items none)
    ∙ ap (fit app) (nil_from_length c.loop-left.left.now empty)

pub returns-in_err-share-in-Some-clause-text : goal.returns-in_err-share-in-Some-clause-text
returns-in_err-share-in-Some-clause-text g c =
    let next = lines-first (g.A.App.meaning c.args.app.now) c.loop-left.ahead.items c.in-Some.piece c.pop_front.new.self.items c.loop-left.left.now c.in-Some.ensures.items in
    underway-part g.O.Sink _ _ _ _ _ _ _ _ _ c.loop-left.invariant.written next c.in_err-share-in-Some.ensures.text
    c.from_residual-in_err-share-in-Some.ensures.1

pub loop-left-preserved : goal.loop-left-preserved
loop-left-preserved g c =
    let app = g.A.App.meaning c.args.app.now in
    let i = c.loop-left.invariant in
    let next = lines-first app c.loop-left.ahead.items c.in-Some.piece c.pop_front.new.self.items c.loop-left.left.now c.in-Some.ensures.items in
    record {
      pieces = (first-and-others g.A.App app c.loop-left.ahead.items c.in-Some.piece c.pop_front.new.self.items c.in-Some.ensures.items i.pieces).1;
      room = let e = c.pop_front.ensures.capacity in let r = i.room in omega (arith, e, r);
      written = underway-more g.O.Sink _ _ _ _ _ _ _ _ i.written next c.in_ok-share-in-Some.ensures.text;
      some = c.in_ok-share-in-Some.ensures.some;
      fit = fit-first app (fit app c.args.records.now) c.loop-left.ahead.items c.in-Some.piece c.pop_front.new.self.items c.loop-left.left.now
          c.in-Some.ensures.items i.fit (c.in_ok-share-in-Some.ensures.fits refl);
    }
