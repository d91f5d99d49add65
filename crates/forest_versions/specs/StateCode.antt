-- Only for proofs. How proofs tell control states apart: by the tuple of their fields.
use Rattle.std.specs.Prelude.{ℕ, List, Option, refl}
use Rattle.std.specs.Coded.{Coded, code_by, coded×, coded_list, coded_option, coded_ℕ}
use Rattle.reassembly.specs.declared.answers.Policy.{Policy}
use Rattle.reassembly.specs.contracts.answers.Policy as policy
use Rattle.app_api.specs.declared.registration.Reg.{Reg}
use Rattle.app_api.specs.contracts.registration.Reg as reg
use Rattle.app_api.specs.declared.rule.Rule.{Rule}
use Rattle.app_api.specs.contracts.rule.Rule as rule
use Rattle.event_trees.specs.declared.defs.EventDef.{EventDef}
use Rattle.event_trees.specs.contracts.defs.EventDef as event_def
use Rattle.forest_versions.specs.State.{ControlState}

abbrev pub Fields : Type 0
Fields = List EventDef × (List Reg × (Policy × (ℕ × (List Rule × Option ℕ))))

abbrev pub state_code : Coded ControlState
state_code =
    code_by Fields (coded× (coded_list event_def.the_row.coded) (coded× (coded_list reg.the_row.coded)
    (coded× policy.the_row.coded (coded× coded_ℕ (coded× (coded_list rule.the_row.coded) (coded_option coded_ℕ))))))
    (λ s. (s.defs, (s.regs, (s.policy, (s.rbuf, (s.rules, s.idle))))))
    (λ t. record { defs = t.0; regs = t.1.0; policy = t.1.1.0; rbuf = t.1.1.1.0; rules = t.1.1.1.1.0; idle = t.1.1.1.1.1 }) (λ _. refl)
