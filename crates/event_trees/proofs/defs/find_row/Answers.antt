use Rattle.std.proofs.Common.{Some, sym, ap, ◌∙◌, arith}
use Rattle.event_trees.proofs.Places.{high, place-none, stands, read}
use Rattle.event_trees.proofs.defs.find_row.Goals as goal

pub returns-then-number-places : goal.returns-then-number-places
returns-then-number-places c = sym (high c.args.rows.now c.args.number c.requires.rows (omega (arith, c.requires.places.0)))

pub bounds-rows-place : goal.bounds-rows-place
bounds-rows-place c = (stands c.args.rows.now c.args.number c.in-Some.place (read c.args.rows.now c.args.places.now c.args.number _ _ c.requires.places (omega arith) c.in-Some.is)).within

pub returns-in-Some : goal.returns-in-Some
returns-in-Some c = ap Some c.index-rows-place.is ∙ sym ((stands c.args.rows.now c.args.number c.in-Some.place
    (read c.args.rows.now c.args.places.now c.args.number _ _ c.requires.places (omega arith) c.in-Some.is)).is c.index-rows-place.result)

pub returns-in-None : goal.returns-in-None
returns-in-None c = sym (place-none c.args.rows.now c.args.number (read c.args.rows.now c.args.places.now c.args.number _ _ c.requires.places (omega arith) c.in-None.is))
