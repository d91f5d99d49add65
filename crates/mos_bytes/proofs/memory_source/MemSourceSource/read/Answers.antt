-- The bytes that were copied are those that are gone.
use Rattle.std.proofs.Common.{◌+◌, ◌-◌, ◌≤◌, length, take, drop, arith, length-drop, length-take, refl, rules}
use Rattle.std.proofs.lemmas.List.{drop_all}
use Rattle.mos_bytes.proofs.Moves.{read_front}
use Rattle.mos_bytes.proofs.memory_source.MemSourceSource.read.Goals as goal

pub returns-clause-reads : goal.returns-clause-reads
returns-clause-reads c =
    let place = c.self.inside.place in
    let count = c.copy_front-count.result in
    let items = c.self.inside.bytes.items in
    let lent = c.deref-2.result.now in
    let piece = (place + c.min.result) - place in
    let given = length-take piece (drop place lent) in
    let bounded : count ≤ length (take piece (drop place lent)) = omega (arith, c.copy_front-count.ensures.count) in
    record {
      bound = search rules;
      bytes = (
        read_front count place piece _ lent items _ _ c.deref-2.ensures.value (rw (← c.self.view_is) refl) bounded c.copy_front-count.ensures.copied,
        λ none room. drop_all (place + count) items
            (omega (arith, c.copy_front-count.ensures.count, given, length-drop place lent, c.copy_front-count.auto.to, c.deref-2.ensures.len, c.len.ensures, c.min.ensures, c.self.invariant)),
      );
    }
