-- One command more behind those of the lines before it.
use Rattle.std.proofs.Common.{◌≡◌, true, List, [], ◌∷◌, ◌++◌, None, refl, sym, ap, subst, ◌∙◌}
use Rattle.std.specs.List.{fold}
use Rattle.std.proofs.lemmas.Bool.{and_parts, and_from}
use Rattle.std.proofs.lemmas.List.{map-append}
use Rattle.std.proofs.lemmas.List.Sums.{fold-append}
use Rattle.app_api.specs.declared.registration.Reg.{Reg}
use Rattle.forest_versions.specs.declared.command.Command.{Command}
use Rattle.forest_versions.specs.State.{ControlState, start, after, control}
use Rattle.forest_versions.specs.Lawful.{is_within, refusal, is_lawful, are_lawful}
use Rattle.control_script.specs.declared.progress.Progress.{Progress}
use Rattle.control_script.specs.declared.stamped.Stamped.{Stamped}
use Rattle.control_script.specs.Order.{commands_of}
use Rattle.control_script.specs.Progress.{StandsOn}

lawful-behind : (s : ControlState) (commands : List Command) (c : Command) → are_lawful s commands ≡ true → is_lawful (fold after s commands) c ≡ true → are_lawful s (commands ++ c ∷ []) ≡ true
lawful-behind s [] c all one = and_from (is_lawful s c) true one refl
lawful-behind s (d ∷ commands) c all one =
    let parts = and_parts (is_lawful s d) (are_lawful (after s d) commands) all in
    and_from (is_lawful s d) (are_lawful (after s d) (commands ++ c ∷ [])) parts.0 (lawful-behind (after s d) commands c parts.1 one)

control-behind : (presets : List Reg) (commands : List Command) (c : Command) → control presets (commands ++ c ∷ []) ≡ after (control presets commands) c
unfolding control
control-behind presets commands c = fold-append after (start presets) commands (c ∷ [])

control-is : (presets : List Reg) (commands : List Command) → control presets commands ≡ fold after (start presets) commands
unfolding control
control-is presets commands = refl

pub lawful-one : (s : ControlState) (c : Command) → is_within c ≡ true → refusal s c ≡ None → is_lawful s c ≡ true
unfolding is_lawful
lawful-one s c within none = rw (within, none) refl

pub begins : (presets : List Reg) (p : Progress) → p.script ≡ [] → p.control ≡ start presets → StandsOn presets p
begins presets p none now = record {
  control = now ∙ sym (control-is presets []) ∙ ap (λ (l : List Stamped). control presets (commands_of l)) (sym none);
  lawful = ap (λ (l : List Stamped). are_lawful (start presets) (commands_of l)) none;
}

pub stands-on : (presets : List Reg) (old new : Progress) (s : Stamped) → StandsOn presets old → is_lawful old.control s.command ≡ true
    → new.control ≡ after old.control s.command → new.script ≡ old.script ++ s ∷ [] → StandsOn presets new
stands-on presets old new s stands one now more =
    let before = commands_of old.script in
    let behind : commands_of new.script ≡ before ++ s.command ∷ [] = ap commands_of more ∙ map-append (λ (t : Stamped). t.command) old.script (s ∷ []) in
    record {
      control = now ∙ ap (λ c. after c s.command) stands.control ∙ sym (control-behind presets before s.command) ∙ ap (control presets) (sym behind);
      lawful = subst (λ (cs : List Command). are_lawful (start presets) cs ≡ true) (sym behind)
          (lawful-behind (start presets) before s.command stands.lawful (subst (λ c. is_lawful c s.command ≡ true) (stands.control ∙ control-is presets before) one));
    }
