-- Steps behind other steps.
use Rattle.std.proofs.Common.{◌≡◌, ℕ, suc, ◌+◌, ◌≤◌, Bool, true, false, Option, Some, List, [], ◌∷◌, ◌++◌, length, map, refl, sym, ap, subst, ◌∙◌, append_assoc, arith}
use Rattle.std.specs.Prelude.{if◌then◌else◌}
use Rattle.std.proofs.lemmas.List.{append-nil, length-append, map-append}
use Rattle.app_api.specs.App.{Meaning}
use Rattle.forest_versions.specs.declared.command.Command.{Command}
use Rattle.lane_rings.specs.Judging.{answer_to}
use Rattle.lane_core.specs.Sight.{arrival_of}
use Rattle.lane_core.specs.Run.{LaneEvent, Gave, Arrived, commands_of, last_number}
use Rattle.lane_core.specs.Lane.{with_event, next_verdict}
use Rattle.lane_worker.specs.Steps.{Step, Took, Handed, Turn, fits, steps_of, event_of, events_of, AreWithin, answers_of}

pub commands-append : (xs ys : List LaneEvent) → commands_of (xs ++ ys) ≡ commands_of xs ++ commands_of ys
commands-append [] ys = refl
commands-append (Gave c ∷ xs) ys = ap (λ l. c ∷ l) (commands-append xs ys)
commands-append (Arrived a ∷ xs) ys = commands-append xs ys

pub last-append : (last : Option ℕ) (xs ys : List LaneEvent) → last_number last (xs ++ ys) ≡ last_number (last_number last xs) ys
last-append last [] ys = refl
last-append last (Gave c ∷ xs) ys = last-append last xs ys
last-append last (Arrived a ∷ xs) ys = last-append (Some a.number) xs ys

pub events-append : (xs ys : List Step) → events_of (xs ++ ys) ≡ events_of xs ++ events_of ys
events-append xs ys = map-append event_of xs ys

-- the commands of steps
abbrev pub given_by : List Step → List Command
given_by steps = commands_of (events_of steps)

pub given-append : (xs ys : List Step) → given_by (xs ++ ys) ≡ given_by xs ++ given_by ys
given-append xs ys = ap commands_of (events-append xs ys) ∙ commands-append (events_of xs) (events_of ys)

pub given-took : (cs : List Command) (steps : List Step) → given_by (map Took cs ++ steps) ≡ cs ++ given_by steps
given-took [] steps = refl
given-took (c ∷ cs) steps = ap (λ l. c ∷ l) (given-took cs steps)

pub last-took : (last : Option ℕ) (cs : List Command) (steps : List Step) → last_number last (events_of (map Took cs ++ steps)) ≡ last_number last (events_of steps)
last-took last [] steps = refl
last-took last (c ∷ cs) steps = last-took last cs steps

one_more : (v n : ℕ) → v + suc n ≡ v + 1 + n
one_more v n = omega arith

no_more : (v : ℕ) → v + 0 ≡ v
no_more v = omega arith

pub within-append : (least v : ℕ) (xs ys : List Step) → AreWithin least v xs → AreWithin least (v + length (given_by xs)) ys → AreWithin least v (xs ++ ys)
within-append least v [] ys p q = subst (λ n. AreWithin least n ys) (no_more v) q
within-append least v (Took c ∷ xs) ys p q = within-append least (v + 1) xs ys p (subst (λ n. AreWithin least n ys) (one_more v (length (given_by xs))) q)
within-append least v (Handed a ∷ xs) ys p q = (p.0, within-append least v xs ys p.1 q)

pub within-less : (least more v : ℕ) (xs : List Step) → least ≤ more → AreWithin more v xs → AreWithin least v xs
within-less least more v [] less p = tt
within-less least more v (Took c ∷ xs) less p = within-less least more (v + 1) xs less p
within-less least more v (Handed a ∷ xs) less p = (
  record { floor = p.0.floor; ceil = p.0.ceil; known = let k = p.0.known in omega (arith, less, k) },
  within-less least more v xs less p.1,
)

pub answers-append : (app : Meaning) (events : List LaneEvent) (xs ys : List Step) → answers_of app events (xs ++ ys) ≡ answers_of app events xs ++ answers_of app (events ++ events_of xs) ys
answers-append app events [] ys = ap (λ e. answers_of app e ys) (sym (append-nil events))
answers-append app events (Took c ∷ xs) ys =
    answers-append app (with_event (Gave c) events) xs ys
    ∙ ap (λ e. answers_of app (with_event (Gave c) events) xs ++ answers_of app e ys) (append_assoc events (Gave c ∷ []) (events_of xs))
answers-append app events (Handed p ∷ xs) ys =
    ap (λ l. answer_to p (next_verdict app events (arrival_of p.index p.frame)) ∷ l) (answers-append app (with_event (Arrived (arrival_of p.index p.frame)) events) xs ys
    ∙ ap (λ e. answers_of app (with_event (Arrived (arrival_of p.index p.frame)) events) xs ++ answers_of app e ys) (append_assoc events (Arrived (arrival_of p.index p.frame) ∷ []) (events_of xs)))

pub answers-took-then : (app : Meaning) (events : List LaneEvent) (cs : List Command) (steps : List Step) → answers_of app events (map Took cs ++ steps) ≡ answers_of app (events ++ map Gave cs) steps
answers-took-then app events [] steps = ap (λ e. answers_of app e steps) (sym (append-nil events))
answers-took-then app events (c ∷ cs) steps =
    answers-took-then app (with_event (Gave c) events) cs steps ∙ ap (λ e. answers_of app e steps) (append_assoc events (Gave c ∷ []) (map Gave cs))

pub events-took : (cs : List Command) → events_of (map Took cs) ≡ map Gave cs
events-took [] = refl
events-took (c ∷ cs) = ap (λ l. Gave c ∷ l) (events-took cs)

pub within-took : (least v : ℕ) (cs : List Command) (steps : List Step) → AreWithin least (v + length cs) steps → AreWithin least v (map Took cs ++ steps)
within-took least v [] steps p = subst (λ n. AreWithin least n steps) (no_more v) p
within-took least v (c ∷ cs) steps p = within-took least (v + 1) cs steps (subst (λ n. AreWithin least n steps) (one_more v (length cs)) p)

pub answers-took : (app : Meaning) (events : List LaneEvent) (cs : List Command) → answers_of app events (map Took cs) ≡ []
answers-took app events [] = refl
answers-took app events (c ∷ cs) = answers-took app (with_event (Gave c) events) cs

-- where steps lead to
abbrev version_after : ℕ → List Step → ℕ
version_after v steps = v + length (given_by steps)

abbrev last_after : Option ℕ → List Step → Option ℕ
last_after last steps = last_number last (events_of steps)

module _ (count : ℕ) where
  steps_by : (fit : Bool) (last : Option ℕ) (v : ℕ) (t : Turn) (ts us : List Turn)
      → (steps_of count (Some t.packet.index) (v + length t.commands) (ts ++ us)
      ≡ steps_of count (Some t.packet.index) (v + length t.commands) ts
      ++ steps_of count (last_after (Some t.packet.index) (steps_of count (Some t.packet.index) (v + length t.commands) ts))
      (version_after (v + length t.commands) (steps_of count (Some t.packet.index) (v + length t.commands) ts)) us)
      → (steps_of count last v (ts ++ us) ≡ steps_of count last v ts ++ steps_of count (last_after last (steps_of count last v ts)) (version_after v (steps_of count last v ts)) us)
      → let one : List Step = if fit then map Took t.commands ++ Handed t.packet ∷ steps_of count (Some t.packet.index) (v + length t.commands) ts else steps_of count last v ts in
      (if fit then map Took t.commands ++ Handed t.packet ∷ steps_of count (Some t.packet.index) (v + length t.commands) (ts ++ us) else steps_of count last v (ts ++ us))
      ≡ one ++ steps_of count (last_after last one) (version_after v one) us
  steps_by false last v t ts us handed gone = gone
  steps_by true last v t ts us handed gone =
      let rest = steps_of count (Some t.packet.index) (v + length t.commands) ts in
      let step = Handed t.packet in
      let at : version_after v (map Took t.commands ++ step ∷ rest) ≡ version_after (v + length t.commands) rest =
      ap (λ l. v + length l) (given-took t.commands (step ∷ rest)) ∙ (let e = length-append t.commands (given_by rest) in omega (arith, e)) in
      let last_at : last_after last (map Took t.commands ++ step ∷ rest) ≡ last_after (Some t.packet.index) rest = last-took last t.commands (step ∷ rest) in
      ap (λ l. map Took t.commands ++ step ∷ l) handed
      ∙ sym (append_assoc (map Took t.commands) (step ∷ rest) _)
      ∙ ap (λ n. (map Took t.commands ++ step ∷ rest) ++ steps_of count (last_after (Some t.packet.index) rest) n us) (sym at)
      ∙ ap (λ l. (map Took t.commands ++ step ∷ rest) ++ steps_of count l (version_after v (map Took t.commands ++ step ∷ rest)) us) (sym last_at)

  pub steps-append : (last : Option ℕ) (v : ℕ) (ts us : List Turn)
      → steps_of count last v (ts ++ us) ≡ steps_of count last v ts ++ steps_of count (last_after last (steps_of count last v ts)) (version_after v (steps_of count last v ts)) us
  steps-append last v [] us = ap (λ n. steps_of count last n us) (sym (no_more v))
  steps-append last v (t ∷ ts) us =
      steps_by (fits count last v t.packet) last v t ts us (steps-append (Some t.packet.index) (v + length t.commands) ts us) (steps-append last v ts us)
