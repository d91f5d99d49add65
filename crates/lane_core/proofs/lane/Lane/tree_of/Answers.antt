use Rattle.std.proofs.Common.{sym, subst}
use Rattle.connection_core.specs.InForce.{registered_at}
use Rattle.lane_core.specs.Kept.{IsOpenAt}
use Rattle.lane_core.specs.Places.{place_of}
use Rattle.lane_core.specs.Run.{lane_run}
use Rattle.lane_core.proofs.OpenTrees.{none_is_found, tree_is_found}
use Rattle.lane_core.proofs.lane.Lane.tree_of.Goals as goal

pub returns-in_err-conn : goal.returns-in_err-conn
returns-in_err-conn g c = record {
  tree = λ good events r.
      let self = c.args.self.now in
      let so_far = lane_run (g.A.App.meaning self.app) events in
      rw c.from_residual.ensures
      (none_is_found self.records.master (g.F.ForestView.content self.records.forests) c.args.key.now _ so_far (sym c.in_err-conn.ensures.value) ((r.records good).placed c.args.key.now));
}

pub returns : goal.returns
returns g c = record {
  tree = λ good events r.
      let self = c.args.self.now in
      let m = self.records.master in
      let content = g.F.ForestView.content self.records.forests in
      let key = c.args.key.now in
      let so_far = lane_run (g.A.App.meaning self.app) events in
      let conn = c.in_ok-conn.conn.now in
      let there = sym c.in_ok-conn.ensures.value in
      let is = (self.records.live key conn there).tree in
      let at = subst (λ o. IsOpenAt (registered_at m) content o (place_of key so_far) so_far) there ((r.records good).placed key) in
      tree_is_found m content key conn so_far c.tree_of.result.now c.tree_of.ensures is at;
}
