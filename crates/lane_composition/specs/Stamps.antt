-- Not of the headline. Which versions a packet may have, by the stamps of the commands: a command is stamped with the first packet that it holds for,
-- or is live, so that each lane takes it when it comes.
use Rattle.std.specs.Prelude.{ℕ, zero, suc, Bool, true, false, if◌then◌else◌, nat_le, nat_lt, List, [], ◌∷◌}
use Rattle.forest_versions.specs.declared.command.Stamp.{Stamp}
use Rattle.forest_versions.specs.declared.command.Stamp.TheVariants.{At, Live}

-- whether packet n has to see a command
abbrev pub is_forced : ℕ → Stamp → Bool
is_forced n (At k) = nat_le k n
is_forced n Live = false

-- whether packet n may not see a command
abbrev pub is_barred : ℕ → Stamp → Bool
is_barred n (At k) = nat_lt n k
is_barred n Live = false

-- one more than a place, behind one command more; 0 is no place
abbrev pub behind_one : Bool → ℕ → ℕ
behind_one forced (suc place) = suc (suc place)
behind_one true zero = 1
behind_one false zero = 0

-- one more than the place of the last command that packet n has to see, or 0
unfoldable pub floor : List Stamp → ℕ → ℕ
floor [] n = 0
floor (s ∷ stamps) n = behind_one (is_forced n s) (floor stamps n)

-- the place of the first command that packet n may not see, or the number of commands
unfoldable pub ceil : List Stamp → ℕ → ℕ
ceil [] n = 0
ceil (s ∷ stamps) n = if is_barred n s then 0 else suc (ceil stamps n)

-- the packets that stamps name, in order
abbrev pub named_packets : List Stamp → List ℕ
named_packets [] = []
named_packets (At k ∷ stamps) = k ∷ named_packets stamps
named_packets (Live ∷ stamps) = named_packets stamps

abbrev pub is_live : Stamp → Bool
is_live (At k) = false
is_live Live = true
