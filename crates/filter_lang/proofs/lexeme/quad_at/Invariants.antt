use Rattle.std.proofs.Common.{◌≡◌, ◌-◌, ◌^◌, ◌<◌, ◌≤◌, drop, length}
use Rattle.filter_lang.specs.Tokens.{quad_from}
use Rattle.filter_lang.proofs.lexeme.quad_at.Given as goal

abbrev pub invariant-loop-part : goal.invariant-loop-part
invariant-loop-part l = record {
  same : quad_from (3 - l._part) l.address l.len (drop l.len l.bytes) ≡ quad_from 3 0 0 l.bytes;
  fits : l.address < 256 ^ l._part;
  some : l._part ≤ l.len;
  within : l.len ≤ length l.bytes;
}
