-- Only for proofs. Why a run over a file ends: what its source met, in place of the fault by which it stopped.
use Rattle.std.specs.Prelude.{ℕ, List, Option, Some, Result, Ok, Err}
use Rattle.pcapng_source.specs.declared.fault.NgFault.{NgFault}
use Rattle.capture_replay.specs.declared.refusal.ReplayError.{ReplayError}
use Rattle.capture_replay.specs.declared.refusal.ReplayError.TheVariants.{ReadFault}
use Rattle.mos_run.specs.declared.refusal.RunError.{RunError}
use Rattle.mos_run.specs.Refusal.{file_refusal, replay_refusal}

-- why a run ends whose source met this refusal, or none: the refusal stands in place of the fault by which the source stops there
abbrev pub met_in : Option NgFault → ReplayError → RunError
met_in (Some fault) ReadFault = file_refusal fault
met_in fault e = replay_refusal e

-- the same of what a replay came to
abbrev pub explained : Option NgFault → Result (List ℕ) ReplayError → Result (List ℕ) RunError
explained fault (Ok versions) = Ok versions
explained fault (Err e) = Err (met_in fault e)
