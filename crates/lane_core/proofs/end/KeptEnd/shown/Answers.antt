use Rattle.std.proofs.Common.{◌∙◌, ℕ, sym, ap, map}
use Rattle.report_text.specs.declared.record.Record.{Record}
use Rattle.lane_core.specs.End.{ended}
use Rattle.lane_core.specs.Lane.{shown}
use Rattle.lane_core.proofs.Ending.{maps}
use Rattle.lane_core.proofs.end.KeptEnd.shown.Goals as goal

pub returns : goal.returns
returns g c = λ keep so_far is.
    let app = g.A.App.meaning c.args.app.now in
    let records = c.args.self.records in
    record {
      records_are = c.in_ok-records.ensures ∙ ap (map (ended app)) c.records.view_is ∙ is.records_are;
      versions_are = c.in_ok-versions.ensures ∙ ap (map {B = ℕ × ℕ} (λ s. (s.name, s.version))) c.as_slice.ensures ∙ sym (maps (λ (r : Record). (r.name, r.version)) (ended app) records)
          ∙ ap (map {B = ℕ × ℕ} (λ r. (r.name, r.version))) is.records_are ∙ maps (λ (r : Record). (r.name, r.version)) (shown keep app) so_far;
      callbacks_are = is.callbacks_are;
      drops_are = is.drops_are;
    }
