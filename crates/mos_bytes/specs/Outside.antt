-- Not of the headline. What a call did to the outside, in one clause: why it told a fault, and that the object is the one that it was.
use Rattle.std.specs.Prelude.{◌≡◌, ℕ, Result, OnOk, OnErr}
use Rattle.mos_bytes.specs.Causes.{HasCause, HasCauseOf, risen}
use Rattle.mos_bytes.specs.declared.failed.Failed.{Failed}
use Rattle.mos_bytes.specs.declared.source.Source.{Ghosts as Source}
use Rattle.mos_bytes.specs.declared.sink.Sink.{Ghosts as Sink}
use Rattle.mos_bytes.specs.declared.shelf.Shelf.{Ghosts as Shelf}

-- a call read from a source; `fault` says that it tells a fault of the source
pub record Reads {S : Type 0} (source : Source S) (old new : S) (fault : Type 0) : Type 0 where
  pub cause : HasCauseOf (source.faults old) (source.faults new) fault
  pub lasts : source.lasting new ≡ source.lasting old

-- a call wrote to a sink
pub record Writes {S : Type 0} (sink : Sink S) (old new : S) (fault : Type 0) : Type 0 where
  pub cause : HasCauseOf (sink.faults old) (sink.faults new) fault
  pub lasts : sink.lasting new ≡ sink.lasting old

-- a call fetched from a shelf
pub record Fetches {S : Type 0} (shelf : Shelf S) (old new : S) (fault : Type 0) : Type 0 where
  pub cause : HasCauseOf (shelf.faults old) (shelf.faults new) fault
  pub lasts : shelf.lasting new ≡ shelf.lasting old

-- a call that fails counts one fault more, any other none
pub record CountsFault {T : Type 0} (before now : ℕ) (result : Result T Failed) : Type 0 where
  pub cause : HasCause before now result
  pub ok : OnOk result (now ≡ before)
  pub err : OnErr result (now ≡ risen before)
