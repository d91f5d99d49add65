use Rattle.std.proofs.Common.{refl, ◌∙◌, le_refl, arith}
use Rattle.std.specs.Prelude.{⊤}
use Rattle.forward_dispatch.proofs.Leaving.{leaves_same, leaves_well}
use Rattle.forward_dispatch.proofs.dispatch.Dealing.settle.Goals as goal

pub flush_all-requires : goal.flush_all-requires
flush_all-requires g c =
    let given = c.requires.begins in
    record { inputs = (given.0, given.1, given.2.inputs_are) }

pub loop-init : goal.loop-init
loop-init g c = record {
  inputs = λ begins frames are. c.flush_all.ensures.kept begins frames are;
  newest = refl;
  leaves = leaves_same c.the_next_leaves.ensures.some c.args.self.now.way (g.O.Sink.taken c.args.out.now) ⊤;
  faults = le_refl _;
  lasts = refl;
}

pub take_turns-worked-requires : goal.take_turns-worked-requires
take_turns-worked-requires g c =
    let given = c.requires.begins in
    record { inputs = (given.0, given.1, c.loop.invariant.inputs given.0 given.1 given.2.inputs_are) }

pub loop-preserved : goal.loop-preserved
loop-preserved g c =
    let inv = c.loop.invariant in
    record {
      inputs = λ begins frames are. c.take_turns-worked.ensures.kept begins frames (inv.inputs begins frames are);
      newest = inv.newest;
      leaves = leaves_well c.args.self.now.way c.loop.self.way c.write_ready.new.self (g.O.Sink.taken c.args.out.now) (g.O.Sink.taken c.loop.out) (g.O.Sink.taken c.write_ready.new.out) inv.leaves _ c.write_ready.result ⊤
          c.in_ok-write_ready.was c.write_ready.ensures.leaves;
      faults = let before = inv.faults in let more = c.write_ready.ensures.writes.cause.later in omega (arith, before, more);
      lasts = c.write_ready.ensures.writes.lasts ∙ inv.lasts;
    }
