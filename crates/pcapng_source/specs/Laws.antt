-- Not of the headline. What the definition means, in the words of the subject.
use Rattle.std.specs.Prelude.{◌≡◌, ◌≢◌, ℕ, List, take, false, None}
use Rattle.pcapng_source.specs.Given.{whole}
use Rattle.pcapng_source.specs.Blocks.{any, classic_header, is_pcapng}

-- a file that is no pcapng file is given as it is, and never refused
abbrev pub IsItself : List ℕ → Type 0
IsItself bytes = is_pcapng bytes ≡ false → any bytes ≡ whole bytes

-- of a file that is refused, the global header of a classic capture is given first
abbrev pub HasHeader : List ℕ → Type 0
HasHeader bytes = (any bytes).refusal ≢ None → take 24 (any bytes).bytes ≡ classic_header
