-- Sums and last values over a list of calls, one call more at the front.
use Rattle.std.proofs.Common.{◌≡◌, ℕ, ◌+◌, ◌<◌, ◌%◌, ◌^◌, Bool, true, false, if◌then◌else◌, List, [], ◌∷◌, fold, refl, ap, ◌∙◌, arith}
use Rattle.app_api.specs.declared.app.Call.{Call}
use Rattle.app_api.specs.declared.app.Tally.{Tally}
use Rattle.app_traffic.specs.Counting.{plus_if, set_if}
use Rattle.app_traffic.specs.Laws.{total_of, last_of}

below : (holds : Bool) (count more : ℕ) → count < 2 ^ 64 → plus_if holds count more < 2 ^ 64
below true count more low = omega arith
below false count more low = low

joined : (holds : Bool) (count more rest : ℕ) → (plus_if holds count more + rest) % 2 ^ 64 ≡ (count + ((if holds then more else 0) + rest)) % 2 ^ 64
joined true count more rest = omega arith
joined false count more rest = omega arith

none : (n : ℕ) → (0 + n) % 2 ^ 64 ≡ n % 2 ^ 64
none n = omega arith

-- a number of the tally that each call adds to where it passes a test
total : (part : Tally → ℕ) (step : Tally → Call → Tally) (test : Call → Bool) (number : Call → ℕ)
    → ((t : Tally) (call : Call) → part (step t call) ≡ plus_if (test call) (part t) (number call))
    → (t : Tally) (calls : List Call) → part t < 2 ^ 64
    → part (fold step t calls) ≡ (part t + total_of test number calls) % 2 ^ 64
total part step test number adds t [] low = omega arith
total part step test number adds t (call ∷ calls) low =
    let next = part (step t call) in
    let one : next ≡ plus_if (test call) (part t) (number call) = adds t call in
    let small = below (test call) (part t) (number call) low in
    total part step test number adds (step t call) calls (omega (arith, one, small))
    ∙ ap (λ n. (n + total_of test number calls) % 2 ^ 64) one
    ∙ joined (test call) (part t) (number call) (total_of test number calls)

-- the same from a tally where the number is 0
pub total_from_0 : (part : Tally → ℕ) (step : Tally → Call → Tally) (test : Call → Bool) (number : Call → ℕ)
    → ((t : Tally) (call : Call) → part (step t call) ≡ plus_if (test call) (part t) (number call))
    → (t : Tally) (calls : List Call) → part t ≡ 0
    → part (fold step t calls) ≡ total_of test number calls % 2 ^ 64
total_from_0 part step test number adds t calls start =
    total part step test number adds t calls (omega (arith, start))
    ∙ ap (λ n. (n + total_of test number calls) % 2 ^ 64) start
    ∙ none (total_of test number calls)

-- a number of the tally that each call sets where it passes a test
pub last : (part : Tally → ℕ) (step : Tally → Call → Tally) (test : Call → Bool) (number : Call → ℕ)
    → ((t : Tally) (call : Call) → part (step t call) ≡ set_if (test call) (part t) (number call))
    → (t : Tally) (calls : List Call)
    → part (fold step t calls) ≡ last_of test number (part t) calls
last part step test number sets t [] = refl
last part step test number sets t (call ∷ calls) =
    last part step test number sets (step t call) calls
    ∙ ap (λ n. last_of test number n calls) (sets t call)
