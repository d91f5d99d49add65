-- How many turns there are, and how long their records are.
use Rattle.std.proofs.Common.{◌≡◌, ℕ, zero, suc, ◌+◌, ◌-◌, ◌*◌, ◌/◌, ◌≤◌, min, List, [], ◌∷◌, ◌++◌, length, flat_map, refl, sym, ap, ◌∙◌, arith, lit≤, length-append}
use Rattle.std.proofs.Math.Nat.{add-mul}
use Rattle.std.proofs.lemmas.List.FromFn.{length-map-range_with_len}
use Rattle.std.specs.List.{range_with_len}
use Rattle.capture_maker.specs.Frames.{ethernet_header, four_bytes, frame_of, record_head, packet_record, two_bytes}
use Rattle.capture_maker.specs.Made.{global_header, made, packet_records}
use Rattle.capture_maker.specs.Table.{byte_of, step_segment}
use Rattle.capture_maker.specs.Turns.{group_turns, step_turns, all_steps, turns_of}
use Rattle.capture_maker.specs.declared.step.Sender.{Sender}
use Rattle.capture_maker.specs.declared.step.Sender.TheVariants.{Client, Server}
use Rattle.capture_maker.specs.declared.step.Segment.{Segment}
use Rattle.capture_maker.specs.declared.step.Step.{Step}
use Rattle.capture_maker.specs.declared.step.Step.TheVariants.{Syn, SynAck, Opened, Request, LateHalf, FirstHalf, Repeated, ClientFin, ServerFin, LastAck}
use Rattle.capture_maker.specs.declared.turns.Turn.{Turn}

-- ---- each connection takes each step once: a weight of steps, summed over all turns

abbrev pub weighed : (Step → ℕ) → List Turn → ℕ
weighed w [] = 0
weighed w (t ∷ ts) = w t.step + weighed w ts

abbrev pub summed : (Step → ℕ) → List Step → ℕ
summed w [] = 0
summed w (x ∷ xs) = w x + summed w xs

weighed-append : (w : Step → ℕ) (ts us : List Turn) → weighed w (ts ++ us) ≡ weighed w ts + weighed w us
weighed-append w [] us = omega arith
weighed-append w (t ∷ ts) us = ap (λ m. w t.step + m) (weighed-append w ts us) ∙ omega arith

weighed_step : (w : Step → ℕ) (step : Step) (first count : ℕ) → weighed w (step_turns first count step) ≡ count * w step
weighed_step w step first zero = omega arith
weighed_step w step first (suc count) = ap (λ m. w step + m) (weighed_step w step (first + 1) count) ∙ omega arith

weighed_steps : (w : Step → ℕ) (first count : ℕ) (xs : List Step) → weighed w (flat_map (step_turns first count) xs) ≡ count * summed w xs
weighed_steps w first count [] = omega arith
weighed_steps w first count (x ∷ xs) =
    weighed-append w (step_turns first count x) (flat_map (step_turns first count) xs)
    ∙ ap (λ m. m + weighed w (flat_map (step_turns first count) xs)) (weighed_step w x first count)
    ∙ ap (λ m. count * w x + m) (weighed_steps w first count xs)
    ∙ omega arith

weighed_groups : (w : Step → ℕ) (n g k : ℕ) → k ≡ (n + 15) / 16 - g
    → weighed w (flat_map (λ h. group_turns (16 * h) (min 16 (n - 16 * h))) (range_with_len g k)) ≡ (n - 16 * g) * summed w all_steps
weighed_groups w n g zero none =
    let behind : n - 16 * g ≡ 0 = omega arith in
    let nothing : 0 ≡ 0 * summed w all_steps = omega arith in
    nothing ∙ ap (λ m. m * summed w all_steps) (sym behind)
weighed_groups w n g (suc k) some =
    let size = min 16 (n - 16 * g) in
    let others = flat_map (λ h. group_turns (16 * h) (min 16 (n - 16 * h))) (range_with_len (g + 1) k) in
    let all : size + (n - 16 * (g + 1)) ≡ n - 16 * g = omega arith in
    weighed-append w (group_turns (16 * g) size) others
    ∙ ap (λ m. m + weighed w others) (weighed_steps w (16 * g) size all_steps)
    ∙ ap (λ m. size * summed w all_steps + m) (weighed_groups w n (g + 1) k (omega arith))
    ∙ sym (add-mul size (n - 16 * (g + 1)) (summed w all_steps))
    ∙ ap (λ m. m * summed w all_steps) all

pub weighed_turns : (w : Step → ℕ) (n : ℕ) → weighed w (turns_of n) ≡ n * summed w all_steps
unfolding turns_of
weighed_turns w n = weighed_groups w n 0 ((n + 15) / 16 - 0) refl ∙ ap (λ m. m * summed w all_steps) (omega arith)

-- ---- how many turns

counted : (ts : List Turn) → length ts ≡ weighed (λ _. 1) ts
counted [] = refl
counted (t ∷ ts) = ap suc (counted ts) ∙ omega arith

pub length-turns_of : (n : ℕ) → length (turns_of n) ≡ 10 * n
length-turns_of n = let all = weighed_turns (λ _. 1) n in omega (arith, counted (turns_of n), all)

-- ---- how long a record is

pub length-head_of : (index : ℕ) (s : Segment) → length (record_head index s) ≡ 16
unfolding record_head four_bytes
length-head_of index s = refl

length-ethernet : (sender : Sender) → length (ethernet_header sender) ≡ 14
length-ethernet Client = refl
length-ethernet Server = refl

pub length-frame_of : (c : ℕ) (s : Segment) → length (frame_of c s) ≡ 54 + s.count
unfolding frame_of two_bytes four_bytes
length-frame_of c s =
    let body = length-map-range_with_len (byte_of s.sender c) s.first s.count in
    let front = length-ethernet s.sender in
    grind (arith, length-append, body, front)

-- how long the record of a step is
abbrev pub size_of : Step → ℕ
size_of Syn = 70
size_of SynAck = 70
size_of Opened = 70
size_of Request = 134
size_of LateHalf = 170
size_of FirstHalf = 170
size_of Repeated = 170
size_of ClientFin = 70
size_of ServerFin = 70
size_of LastAck = 70

few_bytes : (step : Step) → size_of step ≤ 170
few_bytes Syn = lit≤ tt
few_bytes SynAck = lit≤ tt
few_bytes Opened = lit≤ tt
few_bytes Request = lit≤ tt
few_bytes LateHalf = lit≤ tt
few_bytes FirstHalf = lit≤ tt
few_bytes Repeated = lit≤ tt
few_bytes ClientFin = lit≤ tt
few_bytes ServerFin = lit≤ tt
few_bytes LastAck = lit≤ tt

pub some_bytes : (step : Step) → 70 ≤ size_of step
some_bytes Syn = lit≤ tt
some_bytes SynAck = lit≤ tt
some_bytes Opened = lit≤ tt
some_bytes Request = lit≤ tt
some_bytes LateHalf = lit≤ tt
some_bytes FirstHalf = lit≤ tt
some_bytes Repeated = lit≤ tt
some_bytes ClientFin = lit≤ tt
some_bytes ServerFin = lit≤ tt
some_bytes LastAck = lit≤ tt

step_size : (step : Step) (c : ℕ) → 70 + (step_segment step c).count ≡ size_of step
unfolding step_segment
step_size Syn c = refl
step_size SynAck c = refl
step_size Opened c = refl
step_size Request c = refl
step_size LateHalf c = refl
step_size FirstHalf c = refl
step_size Repeated c = refl
step_size ClientFin c = refl
step_size ServerFin c = refl
step_size LastAck c = refl

pub few_payload : (step : Step) (c : ℕ) → (step_segment step c).count ≤ 100
few_payload step c = let size = step_size step c in let few = few_bytes step in omega (arith, size, few)

pub length-record_of : (index : ℕ) (t : Turn) → length (packet_record index t) ≡ size_of t.step
length-record_of index t =
    let s = step_segment t.step t.connection in
    omega (arith, length-append (record_head index s) (frame_of t.connection s), length-head_of index s, length-frame_of t.connection s, step_size t.step t.connection)

length-records : (index : ℕ) (ts : List Turn) → length (packet_records index ts) ≡ weighed size_of ts
length-records index [] = refl
length-records index (t ∷ ts) =
    length-append (packet_record index t) (packet_records (index + 1) ts)
    ∙ ap (λ m. m + length (packet_records (index + 1) ts)) (length-record_of index t)
    ∙ ap (λ m. size_of t.step + m) (length-records (index + 1) ts)

pub length-made : (n : ℕ) → length (made n) ≡ 24 + 1064 * n
unfolding made global_header
length-made n =
    let all = weighed_turns size_of n in
    omega (arith, length-records 0 (turns_of n), all)
