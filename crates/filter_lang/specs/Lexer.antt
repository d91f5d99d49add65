-- Only for proofs. What is found at the front of a text, and what a lexer has still to give.
use Rattle.std.specs.Prelude.{◌≡◌, ◌<◌, ◌≤◌, ℕ, length, Bool, true, false, List, [], ◌∷◌, drop}
use Rattle.filter_lang.specs.declared.lexeme.Lexeme.{Lexeme}
use Rattle.filter_lang.specs.declared.lexer.Lexer.{Lexer}
use Rattle.filter_lang.specs.Tokens.{Placed, tokens_behind}
use Rattle.filter_lang.specs.Words.{is_end}

-- the lexeme that a rule finds at the front of a text: it has a byte or more, and no more than the text
pub record Finds (rule : List ℕ → Lexeme) (text : List ℕ) (found : Lexeme) : Type 0 where
  pub value : found ≡ rule text
  pub some : 0 < found.len
  pub within : found.len ≤ length text

-- nothing comes behind the end
abbrev pub behind : Bool → List Placed → List Placed
behind true ts = []
behind false ts = ts

-- the tokens behind the one that is read
abbrev pub later : Lexer → List Placed
later l = behind (is_end l.token) (tokens_behind 0 l.place (drop l.place l.text.now))

-- the tokens from the one that is read on
abbrev pub ahead : Lexer → List Placed
ahead l = record { token = l.token; at = l.at } ∷ later l
