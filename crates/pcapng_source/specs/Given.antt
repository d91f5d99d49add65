-- What a file gives: bytes, and at most one refusal behind them.
use Rattle.std.specs.Prelude.{ℕ, List, [], ◌++◌, Option, None, Some}
use Rattle.pcapng_source.specs.declared.fault.NgFault.{NgFault}

pub record Given : Type 0 where
  pub bytes : List ℕ
  pub refusal : Option NgFault

-- these bytes, and no refusal
abbrev pub whole : List ℕ → Given
whole bytes = record { bytes = bytes; refusal = None }

-- nothing more
abbrev pub nothing : Given
nothing = whole []

-- no byte, and then a refusal
abbrev pub refused_with : NgFault → Given
refused_with fault = record { bytes = []; refusal = Some fault }

-- these bytes in front
abbrev pub prepended : List ℕ → Given → Given
prepended front given = record { bytes = front ++ given.bytes; refusal = given.refusal }
