-- What holds after a call whether or not it succeeded.
use Rattle.std.proofs.Common.{◌≡◌, sym, subst}
use Rattle.std.specs.Prelude.{Result, Ok, Err, IfOk, OnOk, OnErr}

pub either-way : {A E X : Type 0} (P : X → Type 0) (r : Result A E) (new made old : X) → OnOk r (new ≡ made) → OnErr r (new ≡ old) → P made → P old → P new
either-way P (Ok a) new made old ok err p q = subst P (sym ok) p
either-way P (Err e) new made old ok err p q = subst P (sym err) q

pub ok-both : {A E : Type 0} (P Q R : A → Type 0) (r : Result A E) → ((a : A) → P a → Q a → R a) → IfOk r P → IfOk r Q → IfOk r R
ok-both P Q R (Ok a) h p q = h a p q
ok-both P Q R (Err e) h p q = p
