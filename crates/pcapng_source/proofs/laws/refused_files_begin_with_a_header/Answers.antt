-- By the definition: a file that is no pcapng file isn't refused.
use Rattle.std.proofs.Common.{◌≡◌, ◌≢◌, ℕ, Bool, true, false, List, take, refl, None}
use Rattle.std.specs.Prelude.{if◌then◌else◌}
use Rattle.pcapng_source.specs.Given.{Given, prepended, whole}
use Rattle.pcapng_source.specs.Blocks.{any, classic_header, is_pcapng}
use Rattle.pcapng_source.proofs.laws.refused_files_begin_with_a_header.Goals as goal

begins : (b : Bool) (bytes : List ℕ) (blocks : Given) → (if b then prepended classic_header blocks else whole bytes).refusal ≢ None
    → take 24 (if b then prepended classic_header blocks else whole bytes).bytes ≡ classic_header
unfolding classic_header
begins true bytes blocks some = refl
begins false bytes blocks some = absurd (some refl)

pub returns : goal.returns
unfolding any
returns c = λ bytes some. begins (is_pcapng bytes) bytes _ some
