-- The lines of a text.
use Rattle.std.specs.Prelude.{ℕ, Bool, true, ◌&&◌, ◌||◌, ◌==◌, ◌+◌, min, not, if◌then◌else◌, nat_le, List, [], ◌∷◌}
use Rattle.std.specs.List.{find, onto_first}
use Rattle.std.specs.Option.{option_map, unwrap_or}
use Rattle.filter_lang.specs.Tokens.{is_blank}

-- the lines of a text end at each 0a; an empty rest behind the last is no line
abbrev pub lines : List ℕ → List (List ℕ)
lines [] = []
lines (b ∷ bs) = if b == 10 then [] ∷ lines bs else onto_first b (lines bs)

-- without one 0d at the end
abbrev pub without_return : List ℕ → List ℕ
without_return [] = []
without_return (b ∷ []) = if b == 13 then [] else b ∷ []
without_return (b ∷ c ∷ bs) = b ∷ without_return (c ∷ bs)

-- blanks alone, or `#` as the first other byte
abbrev pub is_skipped : List ℕ → Bool
is_skipped line = unwrap_or (option_map (λ b. b == 35) (find (λ b. not (is_blank b)) line)) true

-- printable ASCII, or a tab
abbrev pub is_text : ℕ → Bool
is_text b = nat_le 32 b && nat_le b 126 || (b == 9)

-- the number of the next line. Those over 2^32 - 1 are told as that number
abbrev pub next_line : ℕ → ℕ
next_line n = min (n + 1) 4294967295
