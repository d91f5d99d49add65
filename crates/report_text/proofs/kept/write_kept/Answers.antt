use Rattle.report_text.specs.Lines.{first_line}
use Rattle.report_text.proofs.WritesText.{wrote-after, wrote-part}
use Rattle.report_text.proofs.kept.write_kept.Goals as goal

pub returns-in_err-write_head-clause-text : goal.returns-in_err-write_head-clause-text
unfolding first_line
returns-in_err-write_head-clause-text g c = wrote-part g.O.Sink _ _ _ _ _ _ c.in_err-write_head.ensures.text c.from_residual.ensures.1

pub returns-in_err-write_callbacks-clause-text : goal.returns-in_err-write_callbacks-clause-text
unfolding first_line
returns-in_err-write_callbacks-clause-text g c =
    wrote-after g.O.Sink _ _ _ _ _ _ _ c.in_ok-write_head.ensures.text
    (wrote-part g.O.Sink _ _ _ _ _ _ c.in_err-write_callbacks.ensures.text c.from_residual-in_err-write_callbacks.ensures.1)

pub returns-in_err-write_drops-clause-text : goal.returns-in_err-write_drops-clause-text
unfolding first_line
returns-in_err-write_drops-clause-text g c =
    rw (← c.as_slice.ensures)
    (wrote-after g.O.Sink _ _ _ _ _ _ _ c.in_ok-write_head.ensures.text
    (wrote-after g.O.Sink _ _ _ _ _ _ _ c.in_ok-write_callbacks.ensures.text
    (wrote-part g.O.Sink _ _ _ _ _ _ c.in_err-write_drops.ensures.text c.from_residual-in_err-write_drops.ensures.1)))

pub returns-clause-text : goal.returns-clause-text
unfolding first_line
returns-clause-text g c =
    rw (← c.as_slice.ensures)
    (wrote-after g.O.Sink _ _ _ _ _ _ _ c.in_ok-write_head.ensures.text
    (wrote-after g.O.Sink _ _ _ _ _ _ _ c.in_ok-write_callbacks.ensures.text
    (wrote-after g.O.Sink _ _ _ _ _ _ _ c.in_ok-write_drops.ensures.text c.write_fields.ensures.text)))
