use Rattle.std.proofs.Common.{◌≡◌, ℕ, ◌∙◌, refl, sym, ap, arith, List, length, slice_index}
use Rattle.std.specs.declared.alloc.Global.{Global}
use Rattle.std.specs.declared.vec.Vec.{Vec}
use Rattle.reassembly.proofs.Holes.{waits}
use Rattle.reassembly.proofs.buffer.leave_hole.Goals as goal

pub returns-clause-ok : goal.returns-clause-ok
returns-clause-ok c rbuf wide =
    let old : c.make_room.new.bytes.len ≡ length c.args.bytes.now.items = c.make_room.new.bytes.ok.0 ∙ ap length c.make_room.ensures.same in
    waits c.args.bytes.now (record { bytes = c.replace.result; next = c.len-next.result; start = c.args.start })
    c.args.limit rbuf c.args.start c.resize.new.self.items c.args.segment.now c.count_under-within.result
    (record {
      old_laid = c.requires.laid;
      hole = c.requires.hole;
      order = c.requires.within;
      some = c.requires.some;
      within = c.count_under-within.ensures;
      page = omega arith;
      next = omega arith;
      at = refl;
      len = sym c.resize.new.self.ok.0 ∙ c.in_ok-resize.ensures.len;
      same = λ i l. c.resize.ensures.by_index.0 i 0 (omega arith) (omega arith) ∙ ap (λ (xs : List ℕ). slice_index xs i) c.make_room.ensures.same;
      items = ap (λ (v : Vec ℕ Global). v.items) c.replace.ensures.value ∙ c.in_ok-extend_from_slice.ensures.items;
    })
    wide
