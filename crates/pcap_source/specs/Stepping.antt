-- Only for proofs. What reading a record at a place does.
use Rattle.std.specs.Prelude.{◌≡◌, ◌≢◌, ◌+◌, ◌<◌, ℕ, List, length, Option, Result, Ok, IfOk, IsErrOf}
use Rattle.std.specs.Io.KnownBytes.{Consumes}
use Rattle.mos_bytes.specs.Outside.{Reads}
use Rattle.mos_bytes.specs.declared.source.Source.{Ghosts}
use Rattle.pcap_source.specs.Captured.{Captured, record_bytes}
use Rattle.pcap_source.specs.Reading.{IsRecord, NextGives, RefusesAt, reading}
use Rattle.pcap_source.specs.declared.capture.Place.{Place}
use Rattle.pcap_source.specs.declared.capture.Step.{Step}
use Rattle.pcap_source.specs.declared.capture.Step.TheVariants.{Frame}
use Rattle.pcap_source.specs.declared.errors.NextError.{NextError}
use Rattle.pcap_source.specs.declared.errors.NextError.TheVariants.{ReadFault}

-- it gives what `next` does, where these bytes were left and then those
abbrev pub GivesAt : Place → Option (List ℕ) → Option (List ℕ) → Captured → Result Step NextError → Type 0
GivesAt at before after frame result =
    NextGives (reading at.order at.count at.offset) (reading at.order (at.count + 1) (at.offset + 16 + length frame.bytes)) before after frame result

-- what it tells of the source and of the frame
pub record StepTells {S : Type 0} (source : Ghosts S) (at : Place) (old new : S) (frame : Captured) (result : Result Step NextError) : Type 0 where
  pub few : result ≡ Ok Frame → at.count < 1048576
  pub ended : IfOk result (λ step. step ≢ Frame → source.ended new)
  pub refused : RefusesAt (reading at.order at.count at.offset) result
  pub whole : result ≡ Ok Frame → IsRecord at.order frame
  pub consumed : result ≡ Ok Frame → Consumes (source.left old) (source.left new) (record_bytes frame)
  pub from : Reads source old new (IsErrOf result ReadFault)
