use Rattle.std.proofs.Common.{◌+◌, refl, sym, ap, subst, arith}
use Rattle.std.specs.Prelude.{IsTrue}
use Rattle.forest_versions.specs.Lawful.{is_lawful}
use Rattle.forest_versions.specs.Sound.{IsSound}
use Rattle.forest_versions.specs.Master.{Versions, Tells, StandsFor}
use Rattle.forest_versions.proofs.Masters.{IsNext, master-next, stands-next, tells-still}
use Rattle.forest_versions.proofs.master.Master.apply.Goals as goal

pub invariant_of-self-2 : goal.invariant_of-self-2
invariant_of-self-2 g c =
    let old : Versions = record { version = c.self.inside.version; forest = c.self.inside.forest; now = c.self.inside.control; past = c.self.inside.past } in
    let new : Versions = record { version = c.self.inside.version + 1; forest = c.give.new.forest; now = c.give.new.control; past = c.give.new.past } in
    let next : IsNext old new c.args.c.now = record {
      lawful = subst (λ (m : Versions). IsTrue (is_lawful m.now c.args.c.now)) (sym c.self.view_is) c.requires.lawful;
      whole = c.give.ensures.whole;
      version = refl;
      now = c.in_ok-give.ensures.made.ok;
      past = c.in_ok-give.ensures.noted.ok;
      sound = subst IsSound c.in_ok-give.ensures.made.ok c.sound.ensures;
    } in
    master-next old new c.args.c.now next (omega (arith, ap (λ (m : Versions). m.version) c.self.view_is)) c.self.invariant

pub returns-clause-stands : goal.returns-clause-stands
returns-clause-stands g c =
    let old : Versions = record { version = c.self.inside.version; forest = c.self.inside.forest; now = c.self.inside.control; past = c.self.inside.past } in
    let new : Versions = record { version = c.self.inside.version + 1; forest = c.give.new.forest; now = c.give.new.control; past = c.give.new.past } in
    let next : IsNext old new c.args.c.now = record {
      lawful = subst (λ (m : Versions). IsTrue (is_lawful m.now c.args.c.now)) (sym c.self.view_is) c.requires.lawful;
      whole = c.give.ensures.whole;
      version = refl;
      now = c.in_ok-give.ensures.made.ok;
      past = c.in_ok-give.ensures.noted.ok;
      sound = subst IsSound c.in_ok-give.ensures.made.ok c.sound.ensures;
    } in
    λ presets commands h. stands-next old new c.args.c.now presets commands next (subst (λ (m : Versions). StandsFor m presets commands) (sym c.self.view_is) h)

pub returns-clause-earlier : goal.returns-clause-earlier
returns-clause-earlier g c =
    let old : Versions = record { version = c.self.inside.version; forest = c.self.inside.forest; now = c.self.inside.control; past = c.self.inside.past } in
    let new : Versions = record { version = c.self.inside.version + 1; forest = c.give.new.forest; now = c.give.new.control; past = c.give.new.past } in
    let next : IsNext old new c.args.c.now = record {
      lawful = subst (λ (m : Versions). IsTrue (is_lawful m.now c.args.c.now)) (sym c.self.view_is) c.requires.lawful;
      whole = c.give.ensures.whole;
      version = refl;
      now = c.in_ok-give.ensures.made.ok;
      past = c.in_ok-give.ensures.noted.ok;
      sound = subst IsSound c.in_ok-give.ensures.made.ok c.sound.ensures;
    } in
    λ v s le told. tells-still old new c.args.c.now v s next (omega (arith, ap (λ (m : Versions). m.version) c.self.view_is)) (subst (λ (m : Versions). Tells m v s) (sym c.self.view_is) told)
