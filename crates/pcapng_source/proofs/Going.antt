-- What a step of a read gives.
use Rattle.std.proofs.Common.{◌≡◌, ℕ, ◌+◌, ◌^◌, List, [], ◌++◌, take, Option, Result, None, Some, Ok, Err, inl, inr, sym, ap, subst, ◌∙◌, arith, ⊎_elim}
use Rattle.std.proofs.lemmas.Bool.{cases_lt}
use Rattle.std.proofs.lemmas.List.{take-append-le}
use Rattle.std.specs.Io.KnownBytes.{Consumes}
use Rattle.mos_bytes.specs.declared.failed.Failed.{Failed}
use Rattle.mos_bytes.specs.Causes.{HasCause, Rose, risen}
use Rattle.pcapng_source.specs.Given.{Given, prepended}
use Rattle.pcapng_source.specs.Reading.{met_at, rest_of}
use Rattle.pcapng_source.specs.Outlooks.{Gives, StepFits, StepGives, faults_with, outlook}
use Rattle.pcapng_source.specs.declared.reader.Reader.{Reader}

-- a reader that gives the same
Gives-same : (r s : Reader) (left : Option (List ℕ)) (new : Option Given) (front : List ℕ) → ((l : List ℕ) → rest_of s l ≡ rest_of r l)
    → Gives (outlook s left) new front → Gives (outlook r left) new front
Gives-same r s None new front same given = tt
Gives-same r s (Some left) None front same given = absurd given
Gives-same r s (Some left) (Some new) front same given = sym (same left) ∙ given

-- bytes that were read are given as they are
pub Gives-read : (r s : Reader) (left now : Option (List ℕ)) (front : List ℕ) → Consumes left now front
    → ((l : List ℕ) → rest_of r (front ++ l) ≡ prepended front (rest_of s l)) → Gives (outlook r left) (outlook s now) front
Gives-read r s None now front consumed same = tt
Gives-read r s (Some left) None front consumed same = absurd consumed
Gives-read r s (Some left) (Some now) front consumed same = ap (rest_of r) consumed ∙ same now

-- a step into the front of a buffer
pub step-front : (r s : Reader) (left : Option (List ℕ)) (new : Option Given) (result : Result (Option ℕ) Failed) (front rest : List ℕ)
    → ((l : List ℕ) → rest_of s l ≡ rest_of r l) → StepFits result front → StepGives (outlook s left) new result front → StepGives (outlook r left) new result (front ++ rest)
step-front r s left new (Ok (Some count)) front rest same fits gives =
    subst (Gives (outlook r left) new) (sym (take-append-le count front rest fits)) (Gives-same r s left new (take count front) same gives)
step-front r s left new (Ok None) front rest same fits gives = Gives-same r s left new [] same gives
step-front r s left new (Err failed) front rest same fits gives = Gives-same r s left new [] same gives

-- a step that gave nothing
pub step-nothing : (r s : Reader) (left : Option (List ℕ)) (new : Option Given) (result : Result (Option ℕ) Failed) (buf : List ℕ)
    → ((l : List ℕ) → rest_of s l ≡ rest_of r l) → StepFits result [] → StepGives (outlook s left) new result [] → StepGives (outlook r left) new result buf
step-nothing r s left new (Ok (Some count)) buf same fits gives =
    let none : count ≡ 0 = omega arith in
    subst (Gives (outlook r left) new) (ap (λ n. take n []) none ∙ sym (ap (λ n. take n buf) none)) (Gives-same r s left new (take count []) same gives)
step-nothing r s left new (Ok None) buf same fits gives = Gives-same r s left new [] same gives
step-nothing r s left new (Err failed) buf same fits gives = Gives-same r s left new [] same gives

-- no more answers than the buffer has room for
pub fits-nothing : (result : Result (Option ℕ) Failed) (buf : List ℕ) → StepFits result [] → StepFits result buf
fits-nothing (Ok (Some count)) buf fits = omega arith
fits-nothing (Ok None) buf fits = tt
fits-nothing (Err failed) buf fits = tt

pub cause-same : {T : Type 0} (r s : Reader) (before now : ℕ) (result : Result T Failed) → met_at s.stage ≡ met_at r.stage
    → HasCause (faults_with s before) now result → HasCause (faults_with r before) now result
cause-same r s before now result same cause = subst (λ m. HasCause (before + m) now result) same cause

-- a read that met a refusal
pub met-rose : (before met : ℕ) → Rose (before + met) (before + risen met)
met-rose before met = ⊎_elim (λ more. inl (omega arith)) (λ end. inr (omega arith)) (cases_lt (met + 1) (2 ^ 64))
