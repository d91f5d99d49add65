-- Only for proofs. Laws of hearers together.
use Rattle.std.proofs.Common.{◌≡◌, Bool, true, false, ◌||◌, cond, refl}
use Rattle.app_api.specs.declared.hearers.Hearers.{Hearers}
use Rattle.app_api.specs.declared.hearers.Hearers.TheVariants.{Nobody, One, More}
use Rattle.app_api.specs.Hearers.{joined, deep, is_any}

pub joined-assoc : (a b c : Hearers) → joined (joined a b) c ≡ joined a (joined b c)
joined-assoc Nobody b c = refl
joined-assoc (One n) Nobody c = refl
joined-assoc (One n) (One m) Nobody = refl
joined-assoc (One n) (One m) (One k) = refl
joined-assoc (One n) (One m) More = refl
joined-assoc (One n) More c = refl
joined-assoc More b c = refl

pub deep-joined : (a b : Hearers) → deep (joined a b) ≡ joined (deep a) (deep b)
deep-joined Nobody b = refl
deep-joined (One n) Nobody = refl
deep-joined (One n) (One m) = refl
deep-joined (One n) More = refl
deep-joined More b = refl

pub if-joined : (b : Bool) (x y : Hearers) → cond b (joined x y) Nobody ≡ joined (cond b x Nobody) (cond b y Nobody)
if-joined true x y = refl
if-joined false x y = refl

pub if-nobody : (b : Bool) → cond b Nobody Nobody ≡ Nobody
if-nobody true = refl
if-nobody false = refl

-- there is one of both together where there is one of either
pub any-joined : (a b : Hearers) → is_any (joined a b) ≡ (is_any a || is_any b)
any-joined Nobody b = refl
any-joined (One n) Nobody = refl
any-joined (One n) (One m) = refl
any-joined (One n) More = refl
any-joined More b = refl
