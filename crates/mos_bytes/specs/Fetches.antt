-- Not of the headline. What a fetch gives of the content of a name, where the shelf tells it.
use Rattle.std.specs.Prelude.{◌≡◌, ℕ, ◌<◌, ◌≤◌, List, [], ◌∷◌, length, bytes_eq, if◌then◌else◌, ⊤}
use Rattle.std.specs.declared.option.Option.{Option}
use Rattle.std.specs.declared.option.Option.TheVariants.{None, Some}
use Rattle.std.specs.Io.KnownBytes.{Consumes}

-- these bytes are the whole content
abbrev pub IsContent : Option (List ℕ) → List ℕ → Type 0
IsContent None bytes = ⊤
IsContent (Some content) bytes = bytes ≡ content

-- these bytes are the whole content, and no more than the limit
abbrev pub IsContentWithin : ℕ → Option (List ℕ) → List ℕ → Type 0
IsContentWithin limit content bytes = IsContent content bytes × (length bytes ≤ limit)

-- the content has more bytes than the limit
abbrev pub IsLonger : Option (List ℕ) → ℕ → Type 0
IsLonger None limit = ⊤
IsLonger (Some content) limit = limit < length content

-- so many bytes were consumed, and they are more than the limit
pub record ReadsOver (old new : Option (List ℕ)) (limit count : ℕ) : Type 0 where
  pub bytes : List ℕ
  pub consumed : Consumes old new bytes
  pub counted : length bytes ≡ count
  pub over : limit < length bytes

-- the content beside the first name that is this one
unfoldable pub content_of : List (List ℕ) → List (List ℕ) → List ℕ → Option (List ℕ)
content_of [] contents name = None
content_of (first ∷ names) [] name = None
content_of (first ∷ names) (content ∷ contents) name = if bytes_eq first name then Some content else content_of names contents name
