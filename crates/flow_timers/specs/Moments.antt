-- Moments of capture time, and after which of them there is idleness.
use Rattle.std.specs.Prelude.{ℕ, ◌+◌, ◌==◌, ◌&&◌, ◌||◌, Bool, nat_lt}
use Rattle.flow_timers.specs.declared.moment.Moment.{Moment}

-- the moment of the second s and the fraction f comes after that of t and g
abbrev pub comes_after : ℕ → ℕ → ℕ → ℕ → Bool
comes_after s f t g = nat_lt t s || t == s && nat_lt g f

-- now comes after the last moment and so many whole seconds more
unfoldable pub is_idle : Moment → Moment → ℕ → Bool
is_idle last now limit = comes_after now.seconds now.fraction (last.seconds + limit) last.fraction
