-- What an expression says of the facts of a raise.
use Rattle.std.specs.Prelude.{ℕ, ◌+◌, ◌-◌, ◌%◌, ◌^◌, Bool, true, false, not, ◌&&◌, ◌||◌, ◌==◌, if◌then◌else◌, nat_lt, fold}
use Rattle.native_filters.specs.declared.facts.Facts.{Facts}
use Rattle.native_filters.specs.Facts.{fact}
use Rattle.native_filters.specs.Native.{native, has_bits}
use Rattle.filter_lang.specs.declared.term.Atom.{Atom}
use Rattle.filter_lang.specs.declared.term.Atom.TheVariants.{Fact, Number}
use Rattle.filter_lang.specs.declared.term.Join.{Join}
use Rattle.filter_lang.specs.declared.term.Join.TheVariants.{Plus, Minus, Rem}
use Rattle.filter_lang.specs.declared.term.Op.{Op}
use Rattle.filter_lang.specs.declared.term.Op.TheVariants.{Eq, Ne, Lt, Le, Gt, Ge, Has}
use Rattle.filter_lang.specs.declared.term.Sum.{Sum}
use Rattle.filter_lang.specs.Shape.{Shape, Always, Never, Ask, Compare, Negate, AllOf, AnyOf, Shapes, none, more}

abbrev pub atom_value : Facts → Atom → ℕ
atom_value facts (Fact place) = fact place facts
atom_value facts (Number n) = n

-- a number joined to what stands left of it: `+` and `-` modulo 2^64, and `x % 0` is 0
abbrev pub joined_value : ℕ → Join → ℕ → ℕ
joined_value a Plus b = (a + b) % 2 ^ 64
joined_value a Minus b = (a + (2 ^ 64 - b)) % 2 ^ 64
joined_value a Rem b = if b == 0 then 0 else a % b

-- a sum, from the left
abbrev pub sum_value : Facts → Sum → ℕ
sum_value facts s = fold (λ n step. joined_value n step.0 (atom_value facts step.1)) (atom_value facts s.first) s.rest

abbrev pub compared : ℕ → Op → ℕ → Bool
compared a Eq b = a == b
compared a Ne b = not (a == b)
compared a Lt b = nat_lt a b
compared a Le b = not (nat_lt b a)
compared a Gt b = nat_lt b a
compared a Ge b = not (nat_lt a b)
compared a Has b = has_bits a b

abbrev mutual
  -- whether an expression is true of the facts
  pub meaning : Shape → Facts → Bool
  meaning Always facts = true
  meaning Never facts = false
  meaning (Ask which) facts = native which facts
  meaning (Compare left op right) facts = compared (sum_value facts left) op (sum_value facts right)
  meaning (Negate inner) facts = not (meaning inner facts)
  meaning (AllOf members) facts = all_mean members facts
  meaning (AnyOf members) facts = any_means members facts

  pub all_mean : Shapes → Facts → Bool
  all_mean none facts = true
  all_mean (more first rest) facts = meaning first facts && all_mean rest facts

  pub any_means : Shapes → Facts → Bool
  any_means none facts = false
  any_means (more first rest) facts = meaning first facts || any_means rest facts
