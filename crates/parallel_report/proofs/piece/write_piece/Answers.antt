use Rattle.std.proofs.Common.{rules, drop, refl, subst, sym}
use Rattle.std.specs.Io.KnownBytes.{Appends}
use Rattle.std.proofs.KnownBytes.{Appends-trans}
use Rattle.mos_bytes.specs.Writes.{AppendsFront}
use Rattle.mos_bytes.proofs.Writes.{AppendsFront-after, AppendsFront-more}
use Rattle.mos_bytes.proofs.Writing.{WriteAdds-err}
use Rattle.parallel_report.proofs.Fitting.{fit-cut}
use Rattle.parallel_report.proofs.Lines.{lines-made}
use Rattle.parallel_report.proofs.piece.write_piece.Goals as goal

pub returns-in_err-write_lines-clause-text : goal.returns-in_err-write_lines-clause-text
returns-in_err-write_lines-clause-text g c =
    let app = g.A.App.meaning c.args.app.now in
    let records = c.args.piece.records.now in
    let made = c.made_by-made.ensures app records c.requires.piece in
    let next = lines-made app records c.made_by-made.result c.deref.result.now (drop c.made_by-made.result.done records) made c.deref.ensures.value refl in
    record {
      adds = WriteAdds-err _ _ _ _ c.from_residual.ensures.0
          (subst (AppendsFront (g.O.Sink.taken c.args.out.now) (g.O.Sink.taken c.write_lines.new.out)) (sym next)
          (AppendsFront-more _ _ _ _ c.in_err-write_lines.ensures.text));
      to = search rules;
      still = search rules;
      refused = search rules;
    }

pub returns-in_err-write_all_kept-clause-text : goal.returns-in_err-write_all_kept-clause-text
returns-in_err-write_all_kept-clause-text g c =
    let app = g.A.App.meaning c.args.app.now in
    let records = c.args.piece.records.now in
    let made = c.made_by-made.ensures app records c.requires.piece in
    let next = lines-made app records c.made_by-made.result c.deref.result.now _ made c.deref.ensures.value c.split_at.ensures.back in
    record {
      adds = WriteAdds-err _ _ _ _ c.from_residual-in_err-write_all_kept.ensures.0
          (subst (AppendsFront (g.O.Sink.taken c.args.out.now) (g.O.Sink.taken c.write_all_kept.new.out)) (sym next)
          (AppendsFront-after _ _ _ _ _ c.in_ok-write_lines.ensures.text c.in_err-write_all_kept.ensures.text.adds));
      to = search rules;
      still = search rules;
      refused = search rules;
    }

pub returns-clause-text : goal.returns-clause-text
returns-clause-text g c =
    let app = g.A.App.meaning c.args.app.now in
    let records = c.args.piece.records.now in
    let made = c.made_by-made.ensures app records c.requires.piece in
    let next = lines-made app records c.made_by-made.result c.deref.result.now _ made c.deref.ensures.value c.split_at.ensures.back in
    record {
      adds = subst (Appends (g.O.Sink.taken c.args.out.now) (g.O.Sink.taken c.write_all_kept.new.out)) (sym next)
          (Appends-trans _ _ _ _ _ c.in_ok-write_lines.ensures.text c.in_ok-write_all_kept.ensures.text.adds);
      to = search rules;
      still = search rules;
      refused = search rules;
    }

pub returns-clause-fits : goal.returns-clause-fits
returns-clause-fits g c done =
    let app = g.A.App.meaning c.args.app.now in
    let records = c.args.piece.records.now in
    let made = c.made_by-made.ensures app records c.requires.piece in
    fit-cut app c.made_by-made.result.done records _ c.split_at.ensures.back made.fit (c.in_ok-write_all_kept.ensures.fits refl)
