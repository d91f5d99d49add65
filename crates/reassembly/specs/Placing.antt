-- Only for proofs. What placing a segment does to a window.
use Rattle.std.specs.Prelude.{◌≡◌, ℕ, ◌≤◌, List, length, Option}
use Rattle.reassembly.specs.Runs.{KeepsBounds}
use Rattle.reassembly.specs.Steps.{StepsTo, counts_viewed}
use Rattle.reassembly.specs.Window.{view_of, IsLaid, IsSized, IsBounded}
use Rattle.reassembly.specs.declared.answers.Placed.{Placed}
use Rattle.reassembly.specs.declared.answers.Policy.{Policy}
use Rattle.reassembly.specs.declared.window.Window.{Window}

-- a segment from q on was placed, with nothing accepted anew from the limit on
pub record Places (limit rbuf q : ℕ) (segment : List ℕ) (policy : Policy) (old new : Window) : Type 0 where
  pub laid : IsLaid new
  pub sized : IsSized new rbuf
  pub bounded : KeepsBounds (λ m. limit ≤ m) IsBounded old new
  pub steps : (fin : Option ℕ) → StepsTo limit q segment policy (view_of old fin rbuf) (view_of new fin rbuf)

-- how its bytes are judged
pub record Judges (limit rbuf q : ℕ) (segment : List ℕ) (old : Window) (placed : Placed) : Type 0 where
  pub counts : (fin : Option ℕ) → placed ≡ counts_viewed (view_of old fin rbuf) limit q segment
  pub bounds : placed.old ≤ length segment
