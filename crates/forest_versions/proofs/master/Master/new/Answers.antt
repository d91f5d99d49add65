use Rattle.std.proofs.Common.{refl}
use Rattle.forest_versions.specs.Master.{Versions}
use Rattle.forest_versions.proofs.Masters.{IsFirst, master-first, stands-first}
use Rattle.forest_versions.proofs.master.Master.new.Goals as goal

pub invariant_of-result : goal.invariant_of-result
invariant_of-result g c =
    let m : Versions = record { version = 0; forest = c.in_ok-forest.forest; now = c.in_ok-control.control; past = c.in_ok-past.past } in
    let first : IsFirst m c.args.presets.now = record { lawful = c.requires.lawful; version = refl; now = c.in_ok-control.ensures.ok; past = c.in_ok-past.ensures; sound = c.sound.ensures } in
    master-first m c.args.presets.now first

pub returns-clause-stands : goal.returns-clause-stands
returns-clause-stands g c =
    let m : Versions = record { version = 0; forest = c.in_ok-forest.forest; now = c.in_ok-control.control; past = c.in_ok-past.past } in
    let first : IsFirst m c.args.presets.now = record { lawful = c.requires.lawful; version = refl; now = c.in_ok-control.ensures.ok; past = c.in_ok-past.ensures; sound = c.sound.ensures } in
    stands-first m c.args.presets.now first
