-- Not of the headline. The printed text of a filter: one blank between tokens, none behind `!` and `(` and none before `)`,
-- numbers in decimal, and parentheses only where they are needed, or round a comparison under `!`.
use Rattle.std.specs.Prelude.{ℕ, zero, suc, ◌+◌, max, Bool, true, false, List, [], ◌∷◌, ◌++◌, slice_index_or, codes}
use Rattle.std.specs.Fmt.{decimal}
use Rattle.filter_lang.specs.declared.term.Atom.{Atom}
use Rattle.filter_lang.specs.declared.term.Atom.TheVariants.{Fact, Number}
use Rattle.filter_lang.specs.declared.term.Join.{Join}
use Rattle.filter_lang.specs.declared.term.Join.TheVariants.{Plus, Minus, Rem}
use Rattle.filter_lang.specs.declared.term.Op.{Op}
use Rattle.filter_lang.specs.declared.term.Op.TheVariants.{Eq, Ne, Lt, Le, Gt, Ge, Has}
use Rattle.filter_lang.specs.declared.term.Sum.{Sum}
use Rattle.filter_lang.specs.Shape.{Shape, Always, Never, Ask, Compare, Negate, AllOf, AnyOf, Shapes, none, more}
use Rattle.filter_lang.specs.Tokens.{fact_names}

abbrev pub atom_text : Atom → List ℕ
atom_text (Fact place) = slice_index_or fact_names place []
atom_text (Number n) = decimal n

abbrev pub join_text : Join → List ℕ
join_text Plus = codes " + "
join_text Minus = codes " - "
join_text Rem = codes " % "

abbrev pub op_text : Op → List ℕ
op_text Eq = codes " = "
op_text Ne = codes " != "
op_text Lt = codes " < "
op_text Le = codes " <= "
op_text Gt = codes " > "
op_text Ge = codes " >= "
op_text Has = codes " has "

abbrev pub steps_text : List (Join × Atom) → List ℕ
steps_text [] = []
steps_text (s ∷ ss) = join_text s.0 ++ (atom_text s.1 ++ steps_text ss)

abbrev pub sum_text : Sum → List ℕ
sum_text s = atom_text s.first ++ steps_text s.rest

abbrev pub wrap : Bool → List ℕ → List ℕ
wrap true text = codes "(" ++ (text ++ codes ")")
wrap false text = text

-- texts, each behind a separator
abbrev pub behind_text : List ℕ → List (List ℕ) → List ℕ
behind_text sep [] = []
behind_text sep (t ∷ ts) = sep ++ (t ++ behind_text sep ts)

-- texts with a separator between them
abbrev pub joined_text : List ℕ → List (List ℕ) → List ℕ
joined_text sep [] = []
joined_text sep (t ∷ ts) = t ++ behind_text sep ts

-- what stands before member i
abbrev pub separator_text : ℕ → List ℕ → List ℕ
separator_text zero sep = []
separator_text (suc i) sep = sep

abbrev pub is_or : Shape → Bool
is_or (AnyOf members) = true
is_or _ = false

abbrev pub is_chain : Shape → Bool
is_chain (AllOf members) = true
is_chain (AnyOf members) = true
is_chain _ = false

abbrev pub is_wide : Shape → Bool
is_wide (Compare left op right) = true
is_wide (AllOf members) = true
is_wide (AnyOf members) = true
is_wide _ = false

abbrev mutual
  -- the printed text of a filter
  pub printed : Shape → List ℕ
  printed Always = codes "true"
  printed Never = codes "false"
  printed (Ask which) = codes "native " ++ decimal which
  printed (Compare left op right) = sum_text left ++ (op_text op ++ sum_text right)
  printed (Negate inner) = codes "!" ++ wrap (is_wide inner) (printed inner)
  printed (AllOf members) = joined_text (codes " && ") (and_texts members)
  printed (AnyOf members) = joined_text (codes " || ") (or_texts members)

  pub and_texts : Shapes → List (List ℕ)
  and_texts none = []
  and_texts (more first rest) = wrap (is_chain first) (printed first) ∷ and_texts rest

  pub or_texts : Shapes → List (List ℕ)
  or_texts none = []
  or_texts (more first rest) = wrap (is_or first) (printed first) ∷ or_texts rest

-- one construct more is open where parentheses stand
abbrev pub wrapped_nesting : Bool → ℕ → ℕ
wrapped_nesting true n = n + 1
wrapped_nesting false n = n

abbrev mutual
  -- the most constructs that are open at a place of the printed text
  pub nesting : Shape → ℕ
  nesting Always = 0
  nesting Never = 0
  nesting (Ask which) = 0
  nesting (Compare left op right) = 0
  nesting (Negate inner) = wrapped_nesting (is_wide inner) (nesting inner) + 1
  nesting (AllOf members) = and_nesting members
  nesting (AnyOf members) = or_nesting members

  pub and_nesting : Shapes → ℕ
  and_nesting none = 0
  and_nesting (more first rest) = max (wrapped_nesting (is_chain first) (nesting first)) (and_nesting rest)

  pub or_nesting : Shapes → ℕ
  or_nesting none = 0
  or_nesting (more first rest) = max (wrapped_nesting (is_or first) (nesting first)) (or_nesting rest)
