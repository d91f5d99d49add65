-- The words of a line: runs of bytes with blanks and tabs between.
use Rattle.std.specs.Prelude.{ℕ, zero, suc, Bool, not, if◌then◌else◌, List, [], ◌∷◌, take, drop}
use Rattle.std.specs.List.{prefix_len}
use Rattle.filter_lang.specs.Tokens.{is_blank}

abbrev pub is_in_word : ℕ → Bool
is_in_word b = not (is_blank b)

-- a word, and the text behind it
pub record Word : Type 0 where
  pub text : List ℕ
  pub behind : List ℕ

-- the words of a text whose first bytes, so many, belong to a word before. The end is an empty word
abbrev pub words_behind : ℕ → List ℕ → List Word
words_behind inside [] = record { text = []; behind = [] } ∷ []
words_behind (suc inside) (b ∷ bs) = words_behind inside bs
words_behind zero (b ∷ bs) =
    if is_blank b then words_behind zero bs else
    record { text = b ∷ take (prefix_len is_in_word bs) bs; behind = drop (prefix_len is_in_word bs) bs } ∷ words_behind (prefix_len is_in_word bs) bs

-- the words of a text
abbrev pub words : List ℕ → List Word
words text = words_behind 0 text
