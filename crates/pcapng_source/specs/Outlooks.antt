-- Not of the headline. What a reader gives over a source of which these bytes are left, where they are told.
use Rattle.std.specs.Prelude.{◌≡◌, ℕ, ◌+◌, ◌<◌, ◌≤◌, ◌⊎◌, ⊤, List, [], length, take, zero, suc, refl, Option, None, Some, Result, Ok, Err, option_map}
use Rattle.std.specs.Io.KnownBytes.{IsAtEnd}
use Rattle.std.specs.Coded.{Coded, Coded-set, code_by, coded×, coded_option, coded_ℕ, Unit-prop}
use Rattle.mos_bytes.specs.Causes.{Rose, risen}
use Rattle.mos_bytes.specs.declared.failed.Failed.{Failed}
use Rattle.pcapng_source.specs.Given.{Given, prepended, nothing}
use Rattle.pcapng_source.specs.Blocks.{any}
use Rattle.pcapng_source.specs.Reading.{met_at, rest_of, weight_of}
use Rattle.pcapng_source.specs.declared.fault.NgFault.{NgFault}
use Rattle.pcapng_source.specs.declared.fault.NgFault.TheVariants.{TooManyBlocks, BadBlock, BadVersion, TooManyInterfaces, BadLink, TooLong}
use Rattle.pcapng_source.specs.declared.reader.Reader.{Reader}

abbrev pub outlook : Reader → Option (List ℕ) → Option Given
outlook r left = option_map (rest_of r) left

-- the bytes of it
abbrev pub bytes_left : Option Given → Option (List ℕ)
bytes_left given = option_map (λ g. g.bytes) given

-- these bytes were given
abbrev pub Gives : Option Given → Option Given → List ℕ → Type 0
Gives None new front = ⊤
Gives (Some old) None front = ⊥
Gives (Some old) (Some new) front = old ≡ prepended front new

-- nothing more is given, and nothing is refused, where no further byte comes
abbrev pub IsOver : Reader → Type 0
IsOver r = rest_of r [] ≡ nothing

-- a step of a read: it gave what it answers, or nothing
abbrev pub StepGives : Option Given → Option Given → Result (Option ℕ) Failed → List ℕ → Type 0
StepGives old new (Ok (Some count)) buf = Gives old new (take count buf)
StepGives old new (Ok None) buf = Gives old new []
StepGives old new (Err failed) buf = Gives old new []

-- where a step answers 0, the source below has ended, and so has the reader; the last is what the source says of that
abbrev pub StepEnds : Reader → Option (List ℕ) → Result (Option ℕ) Failed → Type 0 → Type 0
StepEnds r left (Ok (Some count)) Ended = count ≡ 0 → IsAtEnd left × Ended × IsOver r
StepEnds r left (Ok None) Ended = ⊤
StepEnds r left (Err failed) Ended = ⊤

-- where it answers nothing yet, there are fewer steps to come
abbrev pub StepFalls : Reader → Reader → Result (Option ℕ) Failed → Type 0
StepFalls old new (Ok (Some count)) = ⊤
StepFalls old new (Ok None) = weight_of new < weight_of old
StepFalls old new (Err failed) = ⊤

-- it answers no more than the buffer holds
abbrev pub StepFits : Result (Option ℕ) Failed → List ℕ → Type 0
StepFits (Ok (Some count)) buf = count ≤ length buf
StepFits (Ok None) buf = ⊤
StepFits (Err failed) buf = ⊤

-- the faults of a source and the reads that met a refusal
abbrev pub faults_with : Reader → ℕ → ℕ
faults_with r faults = faults + met_at r.stage

-- how a read fails: it has met the refusal, as one read more than before; or the source below failed
abbrev pub MeetsOrFails : ℕ → ℕ → ℕ → ℕ → Type 0
MeetsOrFails met_before met_now faults_before faults_now = (met_now ≡ risen met_before) ⊎ ((met_now ≡ met_before) × Rose faults_before faults_now)

-- a read: it gave what it answers, or nothing
abbrev pub ReadGives : Option Given → Option Given → Result ℕ Failed → List ℕ → Type 0
ReadGives old new (Ok count) buf = Gives old new (take count buf)
ReadGives old new (Err failed) buf = Gives old new []

-- a refusal as two numbers
abbrev pub numbers_of : NgFault → ℕ × ℕ
numbers_of (TooManyBlocks offset) = (0, offset)
numbers_of (BadBlock offset) = (1, offset)
numbers_of (BadVersion offset) = (2, offset)
numbers_of (TooManyInterfaces offset) = (3, offset)
numbers_of (BadLink offset) = (4, offset)
numbers_of (TooLong offset) = (5, offset)

abbrev pub fault_by : ℕ → ℕ → NgFault
fault_by zero offset = TooManyBlocks offset
fault_by (suc zero) offset = BadBlock offset
fault_by (suc (suc zero)) offset = BadVersion offset
fault_by (suc (suc (suc zero))) offset = TooManyInterfaces offset
fault_by (suc (suc (suc (suc zero)))) offset = BadLink offset
fault_by (suc (suc (suc (suc (suc n))))) offset = TooLong offset

pub fault_again : (fault : NgFault) → fault_by (numbers_of fault).0 (numbers_of fault).1 ≡ fault
fault_again (TooManyBlocks offset) = refl
fault_again (BadBlock offset) = refl
fault_again (BadVersion offset) = refl
fault_again (TooManyInterfaces offset) = refl
fault_again (BadLink offset) = refl
fault_again (TooLong offset) = refl

abbrev pub fault_coded : Coded NgFault
fault_coded = code_by (ℕ × ℕ) (coded× coded_ℕ coded_ℕ) numbers_of (λ p. fault_by p.0 p.1) fault_again

-- a reader over a source that held `first` and has `left` comes to the refusal of the whole file, where both are told
abbrev pub IsLinked : Option (List ℕ) → Option (List ℕ) → Reader → Type 0
IsLinked None left r = ⊤
IsLinked (Some file) None r = ⊥
IsLinked (Some file) (Some left) r = (rest_of r left).refusal ≡ (any file).refusal

pub IsLinked-prop : (first left : Option (List ℕ)) (r : Reader) → IsProp (IsLinked first left r)
IsLinked-prop None left r = Unit-prop
IsLinked-prop (Some file) None r = λ x y. absurd x
IsLinked-prop (Some file) (Some left) r = Coded-set (coded_option fault_coded) _ _
