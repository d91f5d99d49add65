use Rattle.std.proofs.Common.{None, ◌∙◌, ap, List, length, subst, sym, false, ◌≡◌, ◌<◌}
use Rattle.std.specs.List.{list_any}
use Rattle.control_script.specs.declared.script.Row.{Row}
use Rattle.control_script.specs.declared.stamped.Stamped.{Stamped}
use Rattle.control_script.specs.Order.{is_later}
use Rattle.control_script.specs.Rows.{AreRows, last_latest, last_forced, latest_with, forced_with}
use Rattle.control_script.proofs.Marks.{rows-more}
use Rattle.control_script.proofs.script.Script.push.Goals as goal

pub invariant_of-self-2 : goal.invariant_of-self-2
invariant_of-self-2 c =
    let rows = c.self.inside.rows.items in
    let s = c.args.stamped in
    let mark = c.marked-row.ensures in
    subst AreRows (sym c.in_ok-push.ensures.items)
    (rows-more rows c.marked-row.result s c.self.invariant
    (subst (λ (ss : List Stamped). length ss < 4096) (sym c.self.view_is) c.requires.few)
    (subst (λ (ss : List Stamped). list_any (λ b. is_later b.stamp s.stamp) ss ≡ false) (sym c.self.view_is) c.requires.order)
    mark.stamped
    (mark.latest ∙ ap (λ (rs : List Row). latest_with (last_latest None rs) s.stamp) c.deref.ensures.value)
    (mark.forced ∙ ap (λ (rs : List Row). forced_with (last_forced 0 rs) (length rs) s.stamp) c.deref.ensures.value))
