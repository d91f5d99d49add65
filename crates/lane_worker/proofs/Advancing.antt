-- A lane that takes places.
use Rattle.std.proofs.Common.{◌≡◌, ℕ, ◌+◌, ◌≤◌, None, List, [], ◌∷◌, ◌++◌, length, refl, sym, ap, subst, ◌∙◌, arith}
use Rattle.std.specs.Prelude.{min}
use Rattle.std.proofs.lemmas.List.{append-nil, length-append}
use Rattle.forest_versions.specs.declared.command.Command.{Command}
use Rattle.lane_rings.specs.declared.ring.RingRx.{RingRx}
use Rattle.lane_rings.specs.Ring.{known}
use Rattle.lane_core.specs.declared.recorder.Recorder.{Ghosts}
use Rattle.lane_worker.specs.Given.{TakesNext}
use Rattle.lane_worker.specs.Worked.{Takes}
use Rattle.lane_worker.specs.Turning.{Advanced}
use Rattle.lane_worker.proofs.Rings.{takes_none, takes_then, known_kept}
use Rattle.lane_worker.proofs.Taking.{takes_nothing, takes_more}

module _ {L : Type 0} (g : Ghosts L) (script : List Command) where
  pub advanced_none : (a : L) (ring : RingRx ℕ) → g.failed a ≡ None → Advanced g script a a ring ring
  unfolding takes_nothing
  advanced_none a ring well = record { commands = takes_nothing g script a well; places = []; took = takes_none ring; of_places = refl }

  -- the ring showed no place
  pub advanced_wait : (a b : L) (from to now : RingRx ℕ) → Advanced g script a b from to → Takes to now [] → Advanced g script a b from now
  advanced_wait a b from to now p none = record {
    commands = p.commands;
    places = p.places;
    took = subst (Takes from now) (append-nil p.places) (takes_then from to now p.places [] p.took none);
    of_places = p.of_places;
  }

  -- it showed one, and the lane took a command for it
  pub advanced_next : (a b c : L) (from to now : RingRx ℕ) (place : ℕ) → (p : Advanced g script a b from to) → g.failed b ≡ None → Takes to now (place ∷ []) → TakesNext g script b c
      → Advanced g script a c from now
  advanced_next a b c from to now place p well one next =
      let more = takes_more g script a b c p.commands well next in
      record {
        commands = more.0;
        places = p.places ++ place ∷ [];
        took = takes_then from to now p.places (place ∷ []) p.took one;
        of_places = more.1 ∙ ap (λ n. n + 1) p.of_places ∙ sym (length-append p.places (place ∷ []));
      }

  -- all that was known was taken, where nothing is known any more
  pub all_known : (a b : L) (from to : RingRx ℕ) (ceil : ℕ) → Advanced g script a b from to → g.failed b ≡ None → known to ≡ [] → min ceil (g.given a + length (known from)) ≤ g.given b
  all_known a b from to ceil p well none =
      let kept = known_kept from to p.places p.took in
      let empty = ap length none in
      let version = p.commands.version well in
      let count = p.of_places in
      let same = ap length (ap (λ l. p.commands.done ++ l) (p.commands.good well) ∙ append-nil p.commands.done) in
      omega (arith, kept, empty, version, count, same)
