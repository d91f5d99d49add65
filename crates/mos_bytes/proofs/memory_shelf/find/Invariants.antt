-- No name before the place is this one.
use Rattle.std.proofs.Common.{◌≡◌, drop, map}
use Rattle.std.specs.Prelude.{string_bytes, vec_items}
use Rattle.mos_bytes.specs.Fetches.{content_of}
use Rattle.mos_bytes.proofs.memory_shelf.find.Given as goal

abbrev pub invariant-loop-index : goal.invariant-loop-index
invariant-loop-index l = content_of (map string_bytes (drop l.index l.names)) (map vec_items (drop l.index l.contents)) l.name
    ≡ content_of (map string_bytes l.names) (map vec_items l.contents) l.name
