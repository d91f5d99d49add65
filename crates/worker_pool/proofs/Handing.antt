-- The packets that the steps of a lane hand over. Packets in turn all fit, so that none is let go.
use Rattle.std.proofs.Common.{◌≡◌, ◌<◌, ◌≤◌, ℕ, suc, ◌+◌, Bool, true, cond, Option, Some, List, [], ◌∷◌, ◌++◌, length, map, refl, sym, ap, subst, ◌∙◌, ◌⊎◌, inl, inr, ⊎_elim, arith}
use Rattle.std.specs.Prelude.{◌&&◌}
use Rattle.std.specs.List.{All}
use Rattle.std.proofs.lemmas.Bool.{lt-ltb, le-leb}
use Rattle.std.proofs.lemmas.List.Elements.{All-nil, All-cons, All-head, All-tail}
use mathlib.Core.List.{IsPrefix}
use Rattle.forest_versions.specs.declared.command.Command.{Command}
use Rattle.lane_rings.specs.declared.items.Packet.{Packet}
use Rattle.lane_core.specs.Sight.{Arrival, arrival_of}
use Rattle.lane_core.specs.Run.{versioned_from}
use Rattle.lane_composition.specs.Allowed.{arrivals_of, IsWithin as IsAllowedAt}
use Rattle.lane_worker.specs.Steps.{Step, Took, Handed, Turn, is_behind, fits, steps_of, events_of, AreWithin}

-- the packets that were handed over
abbrev pub handed : List Step → List Packet
handed [] = []
handed (Took c ∷ steps) = handed steps
handed (Handed p ∷ steps) = p ∷ handed steps

-- what a lane sees of a packet
abbrev pub arrival_in : Packet → Arrival
arrival_in p = arrival_of p.index p.frame

-- packets whose indices rise above the last one, and whose ceilings don't fall below `low`
abbrev pub AreInTurn : ℕ → Option ℕ → ℕ → List Packet → Type 0
AreInTurn count last low [] = Unit {0}
AreInTurn count last low (p ∷ ps) =
    (is_behind last p.index ≡ true) × (p.index < 1048576) × (p.floor ≤ p.ceil) × (p.ceil ≤ count) × (low ≤ p.ceil) × AreInTurn count (Some p.index) p.ceil ps

all_five : (a b c d e : Bool) → a ≡ true → b ≡ true → c ≡ true → d ≡ true → e ≡ true → (a && b && c && d && e) ≡ true
all_five true true true true true p q r s t = refl
all_five _ _ _ _ _ p q r s t = grind arith

-- a packet in turn fits
fits_in_turn : (count : ℕ) (last : Option ℕ) (low version : ℕ) (p : Packet) (ps : List Packet) → AreInTurn count last low (p ∷ ps) → version ≤ low → fits count last version p ≡ true
fits_in_turn count last low version p ps turn le =
    all_five _ _ _ _ _ turn.0 (lt-ltb p.index 1048576 turn.1) (le-leb p.floor p.ceil turn.2) (le-leb p.ceil count turn.3)
    (le-leb version p.ceil (let more = turn.4 in omega arith))

-- its steps: those of its commands, it, and those behind it
abbrev steps_from : ℕ → ℕ → Turn → List Turn → List Step
steps_from count version t ts = Handed t.packet ∷ steps_of count (Some t.packet.index) (version + length t.commands) ts

steps_in_turn : (count : ℕ) (last : Option ℕ) (low version : ℕ) (t : Turn) (ts : List Turn) → AreInTurn count last low (map (λ u. u.packet) (t ∷ ts)) → version ≤ low
    → steps_of count last version (t ∷ ts) ≡ map Took t.commands ++ steps_from count version t ts
steps_in_turn count last low version t ts turn le =
    ap (λ b. cond b (map Took t.commands ++ steps_from count version t ts) (steps_of count last version ts))
    (fits_in_turn count last low version t.packet (map (λ u. u.packet) ts) turn le)

-- ---- a front of steps: it ends among the commands, or goes on behind them

record GoesOn (least version : ℕ) (cs : List Command) (front tail : List Step) : Type 0 where
  rest : List Step
  same : handed front ≡ handed rest
  front_of : IsPrefix rest tail
  within : AreWithin least version front → AreWithin least (version + length cs) rest

behind_took : (least version : ℕ) (cs : List Command) (front tail : List Step) → IsPrefix front (map Took cs ++ tail) → (handed front ≡ []) ⊎ GoesOn least version cs front tail
behind_took least version [] front tail p = inr (record {
  rest = front;
  same = refl;
  front_of = p;
  within = λ w. subst (λ n. AreWithin least n front) (let e : version ≡ version + 0 = omega arith in e) w;
})
behind_took least version (c ∷ cs) [] tail p = inl refl
behind_took least version (c ∷ cs) (Handed q ∷ front) tail p = absurd (let e = p.1 in cc)
behind_took least version (c ∷ cs) (Took d ∷ front) tail p =
    let next : IsPrefix front (map Took cs ++ tail) = (p.0, (let e = p.1 in cc)) in
    ⊎_elim
    (λ none. inl none)
    (λ on. inr (record {
      rest = on.rest;
      same = on.same;
      front_of = on.front_of;
      within = λ w. subst (λ n. AreWithin least n on.rest) (let e : version + 1 + length cs ≡ version + suc (length cs) = omega arith in e) (on.within w);
    }))
    (behind_took least (version + 1) cs front tail next)

handed-took : (cs : List Command) (steps : List Step) → handed (map Took cs ++ steps) ≡ handed steps
handed-took [] steps = refl
handed-took (c ∷ cs) steps = handed-took cs steps

within_behind : (least version : ℕ) (cs : List Command) (steps : List Step) → AreWithin least version (map Took cs ++ steps) → AreWithin least (version + length cs) steps
within_behind least version [] steps w = subst (λ n. AreWithin least n steps) (let e : version ≡ version + 0 = omega arith in e) w
within_behind least version (c ∷ cs) steps w =
    subst (λ n. AreWithin least n steps) (let e : version + 1 + length cs ≡ version + suc (length cs) = omega arith in e) (within_behind least (version + 1) cs steps w)

nothing_handed : (front : List Step) → IsPrefix front [] → handed front ≡ []
nothing_handed [] p = refl
nothing_handed (s ∷ front) p = absurd (let e = p.1 in cc)

none_first : (steps : List Step) (ps : List Packet) → handed steps ≡ [] → IsPrefix (handed steps) ps
none_first steps ps none = (ps, ap (λ l. l ++ ps) none)

behind_same : (r p : Packet) (xs ys zs : List Packet) → r ≡ p → xs ++ ys ≡ zs → (r ∷ xs) ++ ys ≡ p ∷ zs
behind_same r p xs ys zs same rest = cc

-- ---- packets in turn

module _ (least : ℕ) where
  -- what holds of the steps behind a packet holds from it on
  handed_on : (version : ℕ) (p : Packet) (ps : List Packet) (behind : List Step)
      → ((front : List Step) → version ≤ p.ceil → IsPrefix front behind → AreWithin least version front → IsPrefix (handed front) ps)
      → (front : List Step) → IsPrefix front (Handed p ∷ behind) → AreWithin least version front → IsPrefix (handed front) (p ∷ ps)
  handed_on version p ps behind on [] q w = (p ∷ ps, refl)
  handed_on version p ps behind on (Took c ∷ front) q w = absurd (let e = q.1 in cc)
  handed_on version p ps behind on (Handed r ∷ front) q w =
      let same : r ≡ p = (let e = q.1 in cc) in
      let next : IsPrefix front behind = (q.0, (let e = q.1 in cc)) in
      let rest = on front (subst (λ (x : Packet). version ≤ x.ceil) same w.0.ceil) next w.1 in
      (rest.0, behind_same r p (handed front) rest.0 ps same rest.1)

  module _ (count : ℕ) where
    -- a front of their steps hands over a front of them
    pub handed_front : (last : Option ℕ) (low version : ℕ) (ts : List Turn) (front : List Step) → AreInTurn count last low (map (λ t. t.packet) ts) → version ≤ low
        → IsPrefix front (steps_of count last version ts) → AreWithin least version front → IsPrefix (handed front) (map (λ t. t.packet) ts)
    handed_front last low version [] front turn le p w = none_first front [] (nothing_handed front p)
    handed_front last low version (t ∷ ts) front turn le p w =
        let begins : IsPrefix front (map Took t.commands ++ steps_from count version t ts) = (p.0, p.1 ∙ steps_in_turn count last low version t ts turn le) in
        ⊎_elim
        (λ none. none_first front (map (λ u. u.packet) (t ∷ ts)) none)
        (λ on. subst (λ l. IsPrefix l (map (λ u. u.packet) (t ∷ ts))) (sym on.same)
        (handed_on (version + length t.commands) t.packet (map (λ u. u.packet) ts) (steps_of count (Some t.packet.index) (version + length t.commands) ts)
        (λ rest at q v. handed_front (Some t.packet.index) t.packet.ceil (version + length t.commands) ts rest turn.5 at q v)
        on.rest on.front_of (on.within w)))
        (behind_took least version t.commands front (steps_from count version t ts) begins)

    -- all their steps hand over all of them
    pub handed_whole : (last : Option ℕ) (low version : ℕ) (ts : List Turn) → AreInTurn count last low (map (λ t. t.packet) ts) → version ≤ low
        → AreWithin least version (steps_of count last version ts) → handed (steps_of count last version ts) ≡ map (λ t. t.packet) ts
    handed_whole last low version [] turn le w = refl
    handed_whole last low version (t ∷ ts) turn le w =
        let steps = steps_in_turn count last low version t ts turn le in
        let behind = within_behind least version t.commands (steps_from count version t ts) (subst (AreWithin least version) steps w) in
        ap handed steps ∙ handed-took t.commands (steps_from count version t ts)
        ∙ ap (λ l. t.packet ∷ l) (handed_whole (Some t.packet.index) t.packet.ceil (version + length t.commands) ts turn.5 behind.0.ceil behind.1)

-- ---- the packets among the events

-- what arrives is what is handed over
pub arrivals-handed : (version : ℕ) (steps : List Step) → arrivals_of (versioned_from version (events_of steps)) ≡ map arrival_in (handed steps)
arrivals-handed version [] = refl
arrivals-handed version (Took c ∷ steps) = arrivals-handed (version + 1) steps
arrivals-handed version (Handed p ∷ steps) = ap (λ l. arrival_in p ∷ l) (arrivals-handed version steps)

module _ (floor ceil : ℕ → ℕ) where
  -- a packet carries the floor and the ceiling of its index
  pub record IsMarked (p : Packet) : Type 0 where
    pub floor_is : p.floor ≡ floor p.index
    pub ceil_is : p.ceil ≡ ceil p.index

  -- so each arrives at a version between these
  pub arrive_within : (least version : ℕ) (steps : List Step) → AreWithin least version steps → All IsMarked (handed steps)
      → All (λ p. IsAllowedAt floor ceil p.version p.arrival.number) (versioned_from version (events_of steps))
  arrive_within least version [] w marked = All-nil (λ p. IsAllowedAt floor ceil p.version p.arrival.number)
  arrive_within least version (Took c ∷ steps) w marked = arrive_within least (version + 1) steps w marked
  arrive_within least version (Handed p ∷ steps) w marked =
      let mark = All-head IsMarked p (handed steps) marked in
      let low = mark.floor_is in let high = mark.ceil_is in
      let from = w.0.floor in let to = w.0.ceil in
      All-cons (λ p. IsAllowedAt floor ceil p.version p.arrival.number) (record { version = version; arrival = arrival_in p }) (versioned_from version (events_of steps))
      (omega (arith, low, from), omega (arith, high, to))
      (arrive_within least version steps w.1 (All-tail IsMarked p (handed steps) marked))

pub All-front : {A : Type 0} (P : A → Type 0) (front all : List A) → IsPrefix front all → All P all → All P front
All-front P [] all p q = All-nil P
All-front P (x ∷ front) [] p q = absurd (let e = p.1 in cc)
All-front P (x ∷ front) (y ∷ all) p q =
    let same : y ≡ x = (let e = p.1 in cc) in
    let next : IsPrefix front all = (p.0, (let e = p.1 in cc)) in
    All-cons P x front (subst P same (All-head P y all q)) (All-front P front all next (All-tail P y all q))
