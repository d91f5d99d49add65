-- What rules decide on a packet.
use Rattle.std.specs.Prelude.{ℕ, ◌&&◌, ◌||◌, ◌==◌, nat_le, Bool, false, if◌then◌else◌, List, Option, Some, None, find}
use Rattle.native_filters.specs.Native.{in_net}
use Rattle.native_filters.specs.declared.facts.Facts.{Facts}
use Rattle.app_api.specs.declared.rule.Rule.{Rule}

-- the client's address: it sent what goes up
abbrev pub client_of : Facts → ℕ
client_of facts = if facts.dir == 0 then facts.src else facts.dst

-- the server's address and port
abbrev pub server_of : Facts → ℕ
server_of facts = if facts.dir == 0 then facts.dst else facts.src

abbrev pub server_port : Facts → ℕ
server_port facts = if facts.dir == 0 then facts.dport else facts.sport

-- whether an address lies in a net of this length; each number lies in one of length 0
abbrev pub is_in : ℕ → ℕ → ℕ → Bool
is_in addr net length = length == 0 || in_net addr net length

-- whether a rule matches a packet
abbrev pub matches : Facts → Rule → Bool
matches facts rule =
    is_in (client_of facts) rule.src rule.src_len && is_in (server_of facts) rule.dst rule.dst_len
    && nat_le rule.low (server_port facts) && nat_le (server_port facts) rule.high

-- what a rule decides, and what is decided where there is none
abbrev pub decided_by : Option Rule → Bool × ℕ
decided_by (Some rule) = (rule.allow, rule.number)
decided_by None = (false, 0)

-- what rules by rising number decide on a packet: the first that matches has the least number
abbrev pub decision : List Rule → Facts → Bool × ℕ
decision rules facts = decided_by (find (matches facts) rules)
