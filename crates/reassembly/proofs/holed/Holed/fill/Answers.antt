use Rattle.std.proofs.Common.{◌≡◌, ℕ, ◌-◌, ◌∙◌, ap, sym, refl, arith, length}
use borrow.Rule.Slice.PartMut.{put_mid}
use Rattle.std.proofs.lemmas.List.{with_items_is}
use Rattle.std.specs.Vec.{with_items}
use Rattle.std.specs.declared.alloc.Global.{Global}
use Rattle.std.specs.declared.vec.Vec.{Vec}
use Rattle.reassembly.proofs.Holes.{holed_of_laid, fills}
use Rattle.reassembly.proofs.Parts.{length-mid}
use Rattle.reassembly.proofs.holed.Holed.fill.Goals as goal

pub returns : goal.returns
returns c limit rbuf start full =
    let h = c.args.self.now in
    let segment = c.args.segment.now in
    let n = length segment in
    let is = holed_of_laid h c.requires.laid in
    let span : c.from-2.result - c.from.result ≡ n = omega arith in
    let bytes : c.replace.result ≡ with_items h.bytes (put_mid h.next n h.bytes.items segment)
    = rw (span, c.from.ensures, c.deref_mut.ensures.value, c.copy_from_slice.ensures.after) at c.replace.ensures.value in
    let len : length (put_mid h.next n h.bytes.items segment) ≡ h.bytes.len = length-mid h.next n h.bytes.items segment (omega arith) refl ∙ sym h.bytes.ok.0 in
    fills h c.replace.result limit rbuf start segment
    (record { old_laid = c.requires.laid; fills = full; items = ap (λ (v : Vec ℕ Global). v.items) bytes ∙ with_items_is h.bytes (put_mid h.next n h.bytes.items segment) len })
