-- Not of the headline. What a call that writes a text does to a sink.
use Rattle.std.specs.Prelude.{◌≡◌, ℕ, List, Result, IsErrOf, OnOk}
use Rattle.mos_bytes.specs.Outside.{Writes}
use Rattle.mos_bytes.specs.Writes.{WriteAdds}
use Rattle.mos_bytes.specs.declared.sink.Sink.{Ghosts as Sink}
use Rattle.report_text.specs.declared.write.TextError.{TextError}
use Rattle.report_text.specs.declared.write.TextError.TheVariants.{NoMemory, WriteFault}

-- A call wrote a text to a sink, or at an error a front of it. The sink met no fault where none is told.
pub record WritesText {S T : Type 0} (sink : Sink S) (old new : S) (result : Result T TextError) (text : List ℕ) : Type 0 where
  pub adds : WriteAdds (sink.taken old) (sink.taken new) result text
  pub to : Writes sink old new (IsErrOf result WriteFault)
  pub still : OnOk result (sink.faults new ≡ sink.faults old)
  pub refused : IsErrOf result NoMemory → sink.faults new ≡ sink.faults old
