-- Not of the headline. What the firewall's rules mean, in an administrator's words.
use Rattle.std.specs.Prelude.{ℕ, ◌^◌, ◌&&◌, nat_lt, Bool, true, IsTrue}
use Rattle.native_filters.specs.declared.facts.Facts.{Facts}
use Rattle.app_api.specs.declared.rule.Rule.{Rule}
use Rattle.app_firewall.specs.Decision.{matches}

-- the rule `allow any any any` of a number
abbrev pub allow_any : ℕ → Rule
allow_any number = record {
  number = number;
  allow = true;
  src = 0;
  src_len = 0;
  dst = 0;
  dst_len = 0;
  low = 0;
  high = 65535;
}

-- whether ports are as wide as those of TCP
abbrev pub has_tcp_ports : Facts → Bool
has_tcp_ports facts = nat_lt facts.sport (2 ^ 16) && nat_lt facts.dport (2 ^ 16)

-- that a rule matches whatever another matches
abbrev pub Covers : Rule → Rule → Type 0
Covers wide narrow = (facts : Facts) → IsTrue (matches facts narrow) → IsTrue (matches facts wide)
