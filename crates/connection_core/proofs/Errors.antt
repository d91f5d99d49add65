-- What is said of an error where it holds in any case.
use Rattle.std.specs.Prelude.{Result, Ok, Err, OnErr}

pub on_err_always : {T E P : Type 0} (r : Result T E) → P → OnErr r P
on_err_always (Ok t) p = tt
on_err_always (Err e) p = p
