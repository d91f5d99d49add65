-- The nets and ports of rules, each one word.
use Rattle.std.specs.Prelude.{ℕ, ◌+◌, ◌*◌, if◌then◌else◌, nat_le, List, Option, Some, None, codes}
use Rattle.std.specs.Option.{option_map, unwrap_or}
use Rattle.std.specs.Str.{bytes_eq}
use Rattle.control_script.specs.declared.nets.Net.{Net}
use Rattle.control_script.specs.declared.nets.Ports.{Ports}
use Rattle.control_script.specs.Cuts.{cut_at}
use Rattle.number_text.specs.Numbers.{number_between, octet}

-- goes on with what was found
abbrev pub with : {A B : Type 0} → Option A → (A → Option B) → Option B
with None k = None
with (Some a) k = k a

-- four parts with dots between, the first counting most
abbrev pub address_of : List ℕ → Option ℕ
address_of text =
    with (cut_at 46 text) (λ a. with (cut_at 46 a.1) (λ b. with (cut_at 46 b.1) (λ c.
    with (octet a.0) (λ p. with (octet b.0) (λ q. with (octet c.0) (λ r. with (octet c.1) (λ s.
    Some (((p * 256 + q) * 256 + r) * 256 + s))))))))

-- all addresses, or those that begin as one does, up to a length in bits
abbrev pub net_of : List ℕ → Option Net
net_of word =
    if bytes_eq word (codes "any") then Some (record { address = 0; len = 0 }) else
    with (cut_at 47 word) (λ c. with (address_of c.0) (λ a. with (number_between 0 32 c.1) (λ n. Some (record { address = a; len = n }))))

-- ports from one to another that isn't less
abbrev pub span_of : List ℕ × List ℕ → Option Ports
span_of c =
    with (number_between 0 65535 c.0) (λ l. with (number_between 0 65535 c.1) (λ h. if nat_le l h then Some (record { low = l; high = h }) else None))

abbrev pub one_port : List ℕ → Option Ports
one_port word = with (number_between 0 65535 word) (λ n. Some (record { low = n; high = n }))

-- all ports, one, or those from one to another
abbrev pub ports_of : List ℕ → Option Ports
ports_of word = if bytes_eq word (codes "any") then Some (record { low = 0; high = 65535 }) else unwrap_or (option_map span_of (cut_at 45 word)) (one_port word)
