use Rattle.std.proofs.Common.{◌∙◌, ◌++◌, ap, drop, sym}
use Rattle.std.proofs.lemmas.List.{take-append-drop}
use Rattle.mos_bytes.proofs.Writing.{Writing-more, Writing-failed, WriteAdds-err}
use Rattle.report_text.proofs.by_line.write_lines.Goals as goal

pub loop-len-preserved : goal.loop-len-preserved
loop-len-preserved g c =
    let parts = c.split_at.ensures in
    let next = sym (take-append-drop c.in-Some.len c.loop-len.rest.now)
    ∙ ap (λ line. line ++ drop c.in-Some.len c.loop-len.rest.now) (sym parts.front) ∙ ap (λ behind. c.split_at.result.0.now ++ behind) (sym parts.back) in (
      Writing-more g.O.Sink.taken g.O.Sink.faults _ _ _ _ _ _ _ c.loop-len.invariant.0 next c.in_ok-write_all.ensures.bytes c.in_ok-write_all.ensures.sound,
      c.write_all.ensures.lasts ∙ c.loop-len.invariant.1,
    )

pub returns-in_err-write_all-clause-text : goal.returns-in_err-write_all-clause-text
returns-in_err-write_all-clause-text g c =
    let parts = c.split_at.ensures in
    let next = sym (take-append-drop c.in-Some.len c.loop-len.rest.now)
    ∙ ap (λ line. line ++ drop c.in-Some.len c.loop-len.rest.now) (sym parts.front) ∙ ap (λ behind. c.split_at.result.0.now ++ behind) (sym parts.back) in
    WriteAdds-err _ _ _ _ c.from_residual.ensures.0
    (Writing-failed g.O.Sink.taken g.O.Sink.faults _ _ _ _ _ _ _ c.loop-len.invariant.0 next c.in_err-write_all.ensures.bytes)
