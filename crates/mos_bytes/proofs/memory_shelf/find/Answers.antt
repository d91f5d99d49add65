-- The content beside the first name that is this one is the one that is found.
use Rattle.std.proofs.Common.{◌≡◌, ◌≤◌, ◌<◌, length, min, drop, map, get_or, true, false, Some, ap, sym, ◌∙◌, add-one, arith}
use Rattle.std.specs.Prelude.{bytes_eq, string_bytes, vec_items}
use Rattle.mos_bytes.specs.Fetches.{content_of}
use Rattle.mos_bytes.proofs.Shelves.{content-passes, content-here, content-over}
use Rattle.mos_bytes.proofs.memory_shelf.find.Goals as goal

pub returns-then-is : goal.returns-then-is
returns-then-is c =
    let i = c.loop-index.index in
    let named : i < length c.args.names.now = omega (arith, c.loop-index-test.true, c.min-index-end.ensures) in
    let held : i < length c.args.contents.now = omega (arith, c.loop-index-test.true, c.min-index-end.ensures) in
    let this : bytes_eq (string_bytes (get_or c.args.names.now i c.index-names-index.result)) c.args.name.now ≡ true =
    ap (λ n. bytes_eq (string_bytes n) c.args.name.now) (sym c.index-names-index.is) ∙ sym c.is.ensures ∙ c.if-is.true in
    ap Some (c.as_slice.ensures.value ∙ ap vec_items c.index-contents-index.is)
    ∙ sym (content-here string_bytes vec_items i c.args.names.now c.args.contents.now c.index-names-index.result c.index-contents-index.result c.args.name.now named held this)
    ∙ c.loop-index.invariant

pub loop-index-preserved : goal.loop-index-preserved
loop-index-preserved c =
    let i = c.loop-index.index in
    let named : i < length c.args.names.now = omega (arith, c.loop-index-test.true, c.min-index-end.ensures) in
    let held : i < length c.args.contents.now = omega (arith, c.loop-index-test.true, c.min-index-end.ensures) in
    let other : bytes_eq (string_bytes (get_or c.args.names.now i c.index-names-index.result)) c.args.name.now ≡ false =
    ap (λ n. bytes_eq (string_bytes n) c.args.name.now) (sym c.index-names-index.is) ∙ sym c.is.ensures ∙ c.if-is.false in
    ap (λ k. content_of (map string_bytes (drop k c.args.names.now)) (map vec_items (drop k c.args.contents.now)) c.args.name.now) (add-one i)
    ∙ content-passes string_bytes vec_items i c.args.names.now c.args.contents.now c.index-names-index.result c.args.name.now named held other
    ∙ c.loop-index.invariant

pub returns : goal.returns
returns c =
    let over : min (length c.args.names.now) (length c.args.contents.now) ≤ c.loop-index.index = omega (arith, c.loop-index-test.false, c.min-index-end.ensures) in
    sym (content-over string_bytes vec_items c.loop-index.index c.args.names.now c.args.contents.now c.args.name.now over) ∙ c.loop-index.invariant
