-- What both applications count with.
use Rattle.std.specs.Prelude.{ℕ, ◌+◌, ◌%◌, ◌^◌, ◌&&◌, ◌==◌, Bool, if◌then◌else◌}
use Rattle.app_api.specs.declared.app.Call.{Call}
use Rattle.native_filters.specs.Hook.{is_hook}
use Rattle.native_filters.specs.declared.facts.Hook.{Hook}

-- sums are modulo 2^64
abbrev pub plus : ℕ → ℕ → ℕ
plus a b = (a + b) % 2 ^ 64

-- a count, with more added to it where a condition holds
abbrev pub plus_if : Bool → ℕ → ℕ → ℕ
plus_if holds count more = if holds then plus count more else count

-- a value, or another one in its place where a condition holds
abbrev pub set_if : Bool → ℕ → ℕ → ℕ
set_if holds value other = if holds then other else value

-- whether a call is one of the preset of this number, at this side
abbrev pub is_call : Hook → ℕ → Call → Bool
is_call hook number call = call.reg == number && is_hook call.hook hook

-- the same for a packet in a direction: 0 is up, from the client, and 1 is down
abbrev pub is_call_of : Hook → ℕ → ℕ → Call → Bool
is_call_of hook number dir call = is_call hook number call && call.facts.dir == dir
