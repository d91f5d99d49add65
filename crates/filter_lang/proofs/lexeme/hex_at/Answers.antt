use Rattle.std.proofs.Common.{◌-◌, length, take, drop, subst, sym}
use Rattle.std.specs.Char.{is_ascii_hexdigit}
use Rattle.std.specs.List.{prefix_len}
use Rattle.std.specs.Str.Parse.{IsNumeral}
use Rattle.filter_lang.proofs.Numerals.{hex_numeral}
use Rattle.filter_lang.proofs.Quads.{from_offset}
use Rattle.filter_lang.proofs.lexeme.hex_at.Goals as goal

pub numeral_token-requires-clause-numeral : goal.numeral_token-requires-clause-numeral
numeral_token-requires-clause-numeral c =
    let bs = c.args.bytes.now in
    subst (λ n. IsNumeral 16 (take n (take (length bs - 2) (drop 2 bs)))) (sym c.hex_digits-len.ensures)
    (subst (λ rest. IsNumeral 16 (take (prefix_len is_ascii_hexdigit rest) rest)) (sym (from_offset bs 2)) (hex_numeral bs c.requires))
