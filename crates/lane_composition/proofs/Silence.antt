-- What silence leaves of records.
use Rattle.std.proofs.Common.{◌≡◌, Bool, true, false, List, [], ◌∷◌, refl, ap, ◌∙◌, map}
use Rattle.std.specs.Prelude.{if◌then◌else◌, ◌&&◌}
use Rattle.lane_core.specs.Sight.{Arrival}
use Rattle.lane_composition.specs.Members.{Endings, Members, packets_of, ended_by_silence, takes, ended_before, found}

-- a record that doesn't take the packet stays as it is
pub untaken_stays : (endings : Endings) (a : Arrival) (m : Members) → takes endings a.sight m ≡ false → ended_before endings a m ≡ m
untaken_stays endings a m untaken = ap (λ b. if b && endings.is_silent m.version (packets_of m) a.moment then ended_by_silence m else m) untaken

-- what a record has from its packets or its version alone
module _ {T : Type 0} (endings : Endings) (of : Members → T) (silent : (m : Members) → of (ended_by_silence m) ≡ of m) where
  of_by : (b : Bool) (m : Members) → of (if b then ended_by_silence m else m) ≡ of m
  of_by true m = silent m
  of_by false m = refl

  pub of_before : (a : Arrival) (m : Members) → of (ended_before endings a m) ≡ of m
  of_before a m = of_by (takes endings a.sight m && endings.is_silent m.version (packets_of m) a.moment) m

  pub of_found : (a : Arrival) (ms : List Members) → map of (found endings a ms) ≡ map of ms
  of_found a [] = refl
  of_found a (m ∷ ms) = ap (λ x. x ∷ map of (found endings a ms)) (of_before a m) ∙ ap (λ l. of m ∷ l) (of_found a ms)
