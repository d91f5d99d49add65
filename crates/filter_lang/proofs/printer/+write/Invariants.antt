use Rattle.std.proofs.Common.{◌≡◌, ◌++◌, take, drop, codes}
use Rattle.std.specs.Prelude.{string_bytes}
use Rattle.filter_lang.specs.Printed.{joined_text, and_texts, or_texts}
use Rattle.filter_lang.specs.Shape.{shapes, AreWithin}
use Rattle.filter_lang.proofs.printer.+write.Given as goal

abbrev pub invariant-write_all-loop-i : goal.invariant-write_all-loop-i
invariant-write_all-loop-i l = record {
  text : string_bytes l.out ≡ string_bytes l.fn.out ++ joined_text (codes " && ") (and_texts (shapes (take l.i l.terms)));
  within : AreWithin (shapes (drop l.i l.terms));
}

abbrev pub invariant-write_any-loop-i : goal.invariant-write_any-loop-i
invariant-write_any-loop-i l = record {
  text : string_bytes l.out ≡ string_bytes l.fn.out ++ joined_text (codes " || ") (or_texts (shapes (take l.i l.terms)));
  within : AreWithin (shapes (drop l.i l.terms));
}
