-- Only for proofs. How proofs tell masters apart: by the tuple of their fields.
use Rattle.std.specs.Prelude.{ℕ, Option, List, refl}
use Rattle.std.specs.Coded.{Coded, code_by, coded×, coded_list, coded_option, coded_ℕ}
use Rattle.reassembly.specs.declared.answers.Policy.{Policy}
use Rattle.reassembly.specs.contracts.answers.Policy as policy
use Rattle.shared_forest.specs.declared.store.Shared.{Shared}
use Rattle.shared_forest.specs.contracts.store.Shared as shared
use Rattle.app_api.specs.declared.registration.Reg.{Reg}
use Rattle.app_api.specs.contracts.registration.Reg as reg
use Rattle.app_api.specs.declared.rule.Rule.{Rule}
use Rattle.app_api.specs.contracts.rule.Rule as rule
use Rattle.forest_versions.specs.State.{ControlState}
use Rattle.forest_versions.specs.StateCode.{state_code}
use Rattle.forest_versions.specs.Timeline.{Line}
use Rattle.forest_versions.specs.Past.{PastLines}
use Rattle.forest_versions.specs.Master.{Versions}

abbrev pub line_code : {T : Type 0} → Coded T → Coded (Line T)
line_code {T} code =
    code_by (T × List (ℕ × T)) (coded× code (coded_list (coded× coded_ℕ code))) (λ l. (l.first, l.steps)) (λ p. record { first = p.0; steps = p.1 }) (λ _. refl)

abbrev pub past_code : Coded PastLines
past_code =
    code_by (List (Line (Option Reg)) × (Line Policy × (Line ℕ × (Line (List Rule) × Line (Option ℕ)))))
    (coded× (coded_list (line_code (coded_option reg.the_row.coded)))
    (coded× (line_code policy.the_row.coded) (coded× (line_code coded_ℕ)
    (coded× (line_code (coded_list rule.the_row.coded)) (line_code (coded_option coded_ℕ))))))
    (λ p. (p.regs, (p.policy, (p.rbuf, (p.rules, p.idle))))) (λ t. record { regs = t.0; policy = t.1.0; rbuf = t.1.1.0; rules = t.1.1.1.0; idle = t.1.1.1.1 }) (λ _. refl)

abbrev pub versions_code : Coded Versions
versions_code =
    code_by (ℕ × (Shared × (ControlState × PastLines))) (coded× coded_ℕ (coded× shared.the_row.coded (coded× state_code past_code)))
    (λ m. (m.version, (m.forest, (m.now, m.past)))) (λ t. record { version = t.0; forest = t.1.0; now = t.1.1.0; past = t.1.1.1 }) (λ _. refl)
