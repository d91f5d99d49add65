use Rattle.report_text.specs.Lines.{first_line}
use Rattle.report_text.proofs.WritesText.{wrote-after, wrote-part}
use Rattle.report_text.proofs.write.write_record.Goals as goal

pub returns-in_err-write_head : goal.returns-in_err-write_head
unfolding first_line
returns-in_err-write_head g c = record { text = wrote-part g.O.Sink _ _ _ _ _ _ c.in_err-write_head.ensures.text c.from_residual.ensures.1 }

pub returns-in_err-write_entries : goal.returns-in_err-write_entries
unfolding first_line
returns-in_err-write_entries g c = record {
  text = rw (← c.as_slice.ensures)
      (wrote-after g.O.Sink _ _ _ _ _ _ _ c.in_ok-write_head.ensures.text
      (wrote-part g.O.Sink _ _ _ _ _ _ c.in_err-write_entries.ensures.text c.from_residual-in_err-write_entries.ensures.1));
}

pub returns-in_err-write_drops : goal.returns-in_err-write_drops
unfolding first_line
returns-in_err-write_drops g c = record {
  text = rw (← c.as_slice.ensures, ← c.as_slice-2.ensures)
      (wrote-after g.O.Sink _ _ _ _ _ _ _ c.in_ok-write_head.ensures.text
      (wrote-after g.O.Sink _ _ _ _ _ _ _ c.in_ok-write_entries.ensures.text
      (wrote-part g.O.Sink _ _ _ _ _ _ c.in_err-write_drops.ensures.text c.from_residual-in_err-write_drops.ensures.1)));
}

pub returns : goal.returns
unfolding first_line
returns g c = record {
  text = rw (← c.as_slice.ensures, ← c.as_slice-2.ensures, ← c.as_slice-3.ensures)
      (wrote-after g.O.Sink _ _ _ _ _ _ _ c.in_ok-write_head.ensures.text
      (wrote-after g.O.Sink _ _ _ _ _ _ _ c.in_ok-write_entries.ensures.text
      (wrote-after g.O.Sink _ _ _ _ _ _ _ c.in_ok-write_drops.ensures.text c.write_fields.ensures.text)));
}
