-- What a record under way shows once a packet's verdict is noted in it.
use Rattle.std.proofs.Common.{◌≡◌, ℕ, List, ◌++◌, sym, ap, ◌∙◌}
use Rattle.app_api.specs.declared.reaction.Reason.{Reason}
use Rattle.connection_core.specs.declared.flow.Step.{Step}
use Rattle.connection_core.specs.declared.ledger.Notes.{Notes}
use Rattle.connection_core.specs.History.{drops_of}
use Rattle.lane_core.specs.declared.under_way.RecordUnderWay.{RecordUnderWay}
use Rattle.lane_core.specs.Steps.{noted_in}

-- other notes first, and then one verdict more
abbrev pub with_both : RecordUnderWay → Notes → List (ℕ × Reason) → RecordUnderWay
with_both slot notes drops = record slot { notes = notes; drops = slot.drops ++ drops }

pub notes_after : (slot after : RecordUnderWay) (notes : Notes) (drops : List (ℕ × Reason)) → after ≡ with_both slot notes drops → after.notes ≡ notes
notes_after slot after notes drops is = ap (λ (s : RecordUnderWay). s.notes) is

pub noted : (slot after : RecordUnderWay) (notes : Notes) (step : Step) (number : ℕ) → after ≡ with_both slot notes (drops_of step.verdict number) → after ≡ noted_in slot after step number
noted slot after notes step number is =
    is ∙ ap (λ n. with_both slot n (drops_of step.verdict number)) (sym (notes_after slot after notes (drops_of step.verdict number) is))
