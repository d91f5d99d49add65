-- What a look-up that finds a registration gives.
use Rattle.std.proofs.Common.{◌≡◌, ℕ, ◌≤◌, sym, Bor}
use Rattle.std.specs.Prelude.{IsTrue, Option, Some, None, IfSome}
use Rattle.std.specs.Option.{option_copied}
use Rattle.std.proofs.lemmas.List.Elements.{recursion_from_All}
use Rattle.app_api.specs.declared.registration.Reg.{Reg}
use Rattle.app_api.specs.Reg.{reg_of, peek_fits}
use Rattle.event_trees.specs.Defs.{is_event}
use Rattle.forest_versions.specs.State.{ControlState}
use Rattle.forest_versions.specs.Master.{Versions, Tells}
use Rattle.forest_versions.proofs.Regs.{found-holds}
use Rattle.forest_versions.proofs.Forests.{event-later}

-- what a registration of a master is known to be
pub record IsGiven (m : Versions) (n : ℕ) (r : Reg) : Type 0 where
  pub number : r.number ≡ n
  pub low : 1 ≤ r.number
  pub event : IsTrue (is_event m.now.defs r.event)
  pub peek : IsTrue (peek_fits r.peek)

given : (m : Versions) (v n : ℕ) (s : ControlState) (r : Reg) → Tells m v s → reg_of s.regs n ≡ Some r → IsGiven m n r
given m v n s r told found =
    let numbers = found-holds (λ (q : Reg). (1 ≤ q.number) × (q.number ≤ 255)) s.regs n r (recursion_from_All _ s.regs told.sound.private.numbers) found in
    let events = found-holds (λ (q : Reg). IsTrue (is_event s.defs q.event)) s.regs n r (recursion_from_All _ s.regs told.sound.private.events) found in
    let peeks = found-holds (λ (q : Reg). IsTrue (peek_fits q.peek)) s.regs n r (recursion_from_All _ s.regs told.sound.peeks) found in
    record { number = numbers.1; low = numbers.0.0; event = event-later s.defs m.now.defs r.event told.defs events.0; peek = peeks.0 }

pub all-given : (m : Versions) (v n : ℕ) (s : ControlState) (o : Option (Bor Reg)) → Tells m v s → option_copied o ≡ reg_of s.regs n → IfSome o (λ r. IsGiven m n r.now)
all-given m v n s None told same = tt
all-given m v n s (Some r) told same = given m v n s r.now told (sym same)

pub some-weaker : {A : Type 0} (P Q : A → Type 0) (o : Option A) → ((a : A) → P a → Q a) → IfSome o P → IfSome o Q
some-weaker P Q None h p = p
some-weaker P Q (Some a) h p = h a p
