-- What a master stands for after one command more, and before the first.
use Rattle.std.proofs.Common.{◌≡◌, ℕ, zero, suc, ◌+◌, ◌<◌, ◌≤◌, Bool, true, false, List, [], ◌∷◌, ◌++◌, length, take, refl, sym, ap, subst, ◌∙◌, arith, ⊎_elim, append-nil, append_assoc, length-append}
use Rattle.std.specs.Prelude.{◌&&◌, ◌||◌, not, IsTrue, Option, Some, None, is_none, is_some}
use Rattle.std.specs.List.{fold, list_any}
use Rattle.std.proofs.lemmas.Bool.{and_parts, and_from, cases_lt}
use Rattle.std.proofs.lemmas.List.{take_all, take-append-le}
use Rattle.std.proofs.lemmas.List.Sums.{fold-append}
use Rattle.std.proofs.lemmas.List.Elements.{All-nil}
use Rattle.app_api.specs.declared.registration.Reg.{Reg}
use Rattle.app_api.specs.declared.rule.Rule.{Rule}
use Rattle.app_api.specs.Reg.{reg_of, are_presets}
use Rattle.event_trees.specs.declared.defs.EventDef.{EventDef}
use Rattle.event_trees.specs.Later.{IsEarlier}
use Rattle.forest_versions.specs.declared.command.Command.{Command}
use Rattle.forest_versions.specs.declared.command.Command.TheVariants.{Event, Register, Unregister, Buffer, Overlap, AddRule, RemoveRule, Idle}
use Rattle.forest_versions.specs.State.{ControlState, start, after, control, master, is_idle_limit}
use Rattle.forest_versions.specs.Lawful.{is_lawful, are_lawful}
use Rattle.forest_versions.specs.Sound.{IsSound}
use Rattle.forest_versions.specs.Timeline.{Line, as_of, IsBefore}
use Rattle.forest_versions.specs.Past.{PastLines, line_of, noted, AreBefore, IsPastOf}
use Rattle.forest_versions.specs.Master.{Versions, Tells, StandsFor, IsMaster}
use Rattle.forest_versions.proofs.Pasts.{as_of-unchanged, same-earlier, tells-later, before-noted}

-- definitions only grow
earlier-after : (s : ControlState) (c : Command) (earlier : List EventDef) → IsEarlier earlier s.defs → IsEarlier earlier (after s c).defs
unfolding after
earlier-after s (Event d) earlier h = (h.0 ++ d ∷ [], sym (append_assoc earlier h.0 (d ∷ [])) ∙ ap (λ (l : List EventDef). l ++ d ∷ []) h.1)
earlier-after s (Register r) earlier h = h
earlier-after s (Unregister number) earlier h = h
earlier-after s (Buffer bytes) earlier h = h
earlier-after s (Overlap policy) earlier h = h
earlier-after s (AddRule r) earlier h = h
earlier-after s (RemoveRule number) earlier h = h
earlier-after s (Idle seconds) earlier h = h

same-defs : (defs : List EventDef) → IsEarlier defs defs
same-defs defs = ([], append-nil defs)

lawful-push : (s : ControlState) (commands : List Command) (c : Command) → are_lawful s commands ≡ true → is_lawful (fold after s commands) c ≡ true → are_lawful s (commands ++ c ∷ []) ≡ true
lawful-push s [] c all one = and_from (is_lawful s c) true one refl
lawful-push s (d ∷ commands) c all one =
    let parts = and_parts (is_lawful s d) (are_lawful (after s d) commands) all in
    and_from (is_lawful s d) (are_lawful (after s d) (commands ++ c ∷ [])) parts.0 (lawful-push (after s d) commands c parts.1 one)

control-push : (presets : List Reg) (commands : List Command) (c : Command) → control presets (commands ++ c ∷ []) ≡ after (control presets commands) c
unfolding control
control-push presets commands c = fold-append after (start presets) commands (c ∷ [])

control-fold : (presets : List Reg) (commands : List Command) → control presets commands ≡ fold after (start presets) commands
unfolding control
control-fold presets commands = refl

idle-after : (s : ControlState) (c : Command) → is_none (after s c).idle ≡ (not (is_idle_limit c) && is_none s.idle)
unfolding after
idle-after s (Event d) = refl
idle-after s (Register r) = refl
idle-after s (Unregister number) = refl
idle-after s (Buffer bytes) = refl
idle-after s (Overlap policy) = refl
idle-after s (AddRule r) = refl
idle-after s (RemoveRule number) = refl
idle-after s (Idle seconds) = refl

neither : (a b n : Bool) → (not b && (not a && n)) ≡ (not (a || b) && n)
neither true true n = refl
neither true false n = refl
neither false b n = refl

idle-since : (s : ControlState) (commands : List Command) → is_none (fold after s commands).idle ≡ (not (list_any is_idle_limit commands) && is_none s.idle)
idle-since s [] = refl
idle-since s (c ∷ commands) =
    idle-since (after s c) commands ∙ (ap (λ b. not (list_any is_idle_limit commands) && b) (idle-after s c) ∙ neither (is_idle_limit c) (list_any is_idle_limit commands) (is_none s.idle))

and-true : (b : Bool) → (b && true) ≡ b
and-true true = refl
and-true false = refl

-- there is a limit exactly where a command set one
pub idle-given : (presets : List Reg) (commands : List Command) → is_none (control presets commands).idle ≡ not (list_any is_idle_limit commands)
unfolding control start
idle-given presets commands = idle-since (start presets) commands ∙ and-true (not (list_any is_idle_limit commands))

any_front : (a b rest : Bool) → (a || b) ≡ false → (b ≡ false → rest ≡ false) → (a || rest) ≡ false
any_front true b rest none later = none
any_front false b rest none later = later none

idle-front : (v : ℕ) (commands : List Command) → list_any is_idle_limit commands ≡ false → list_any is_idle_limit (take v commands) ≡ false
idle-front zero commands none = refl
idle-front (suc v) [] none = refl
idle-front (suc v) (c ∷ commands) none =
    any_front (is_idle_limit c) (list_any is_idle_limit commands) (list_any is_idle_limit (take v commands)) none (idle-front v commands)

not-true : (b : Bool) → not b ≡ true → b ≡ false
not-true true e = sym e
not-true false e = refl

no_limit : (o : Option ℕ) → is_none o ≡ true → o ≡ None
no_limit None none = refl
no_limit (Some limit) none = absurd (cc)

pub without : (o : Option ℕ) → is_some o ≡ false → o ≡ None
without None none = refl
without (Some limit) none = absurd (cc)

-- where there is no limit after all commands, there was none before
pub idle-never : (presets : List Reg) (commands : List Command) (v : ℕ) → (control presets commands).idle ≡ None → (master presets commands v).idle ≡ None
idle-never presets commands v none =
    let unset = not-true (list_any is_idle_limit commands) (sym (idle-given presets commands) ∙ ap is_none none) in
    no_limit (master presets commands v).idle (idle-given presets (take v commands) ∙ ap not (idle-front v commands unset))

-- one command more
pub record IsNext (old new : Versions) (c : Command) : Type 0 where
  pub lawful : IsTrue (is_lawful old.now c)
  pub whole : length old.past.regs ≡ 256
  pub version : new.version ≡ old.version + 1
  pub now : new.now ≡ after old.now c
  pub past : new.past ≡ noted (old.version + 1) old.now.rules c old.past
  pub sound : IsSound (after old.now c)

-- what is told of a version stays told
pub tells-still : (old new : Versions) (c : Command) (v : ℕ) (s : ControlState) → IsNext old new c → v ≤ old.version → Tells old v s → Tells new v s
tells-still old new c v s next le told =
    let same = same-earlier old.now old.past (old.version + 1) v old.now.rules c next.lawful next.whole (omega arith) in
    record {
      defs = subst (λ (t : ControlState). IsEarlier s.defs t.defs) (sym next.now) (earlier-after old.now c s.defs told.defs);
      regs = λ n high. ap (λ (p : PastLines). as_of (line_of p n) v) next.past ∙ (same.regs n ∙ told.regs n high);
      policy = ap (λ (p : PastLines). as_of p.policy v) next.past ∙ (same.policy ∙ told.policy);
      rbuf = ap (λ (p : PastLines). as_of p.rbuf v) next.past ∙ (same.rbuf ∙ told.rbuf);
      rules = ap (λ (p : PastLines). as_of p.rules v) next.past ∙ (same.rules ∙ told.rules);
      idle = ap (λ (p : PastLines). as_of p.idle v) next.past ∙ (same.idle ∙ told.idle);
      sound = told.sound;
    }

-- from the command on the state after it is told
tells-next : (old new : Versions) (c : Command) (v : ℕ) → IsNext old new c → old.version + 1 ≤ v → Tells old v old.now → Tells new v (after old.now c)
tells-next old new c v next since told =
    let later = tells-later old.now old.past (old.version + 1) v c next.lawful next.whole since
    (record { regs = told.regs; policy = told.policy; rbuf = told.rbuf; rules = told.rules; idle = told.idle }) in
    record {
      defs = subst (λ (t : ControlState). IsEarlier (after old.now c).defs t.defs) (sym next.now) (same-defs (after old.now c).defs);
      regs = λ n high. ap (λ (p : PastLines). as_of (line_of p n) v) next.past ∙ later.regs n high;
      policy = ap (λ (p : PastLines). as_of p.policy v) next.past ∙ later.policy;
      rbuf = ap (λ (p : PastLines). as_of p.rbuf v) next.past ∙ later.rbuf;
      rules = ap (λ (p : PastLines). as_of p.rules v) next.past ∙ later.rules;
      idle = ap (λ (p : PastLines). as_of p.idle v) next.past ∙ later.idle;
      sound = next.sound;
    }

pub stands-next : (old new : Versions) (c : Command) (presets : List Reg) (commands : List Command) → IsNext old new c → StandsFor old presets commands → StandsFor new presets (commands ++ c ∷ [])
stands-next old new c presets commands next stands =
    let count : length (commands ++ c ∷ []) ≡ length commands + 1 = length-append commands (c ∷ []) in
    let now : after old.now c ≡ control presets (commands ++ c ∷ []) = ap (λ (s : ControlState). after s c) stands.now ∙ sym (control-push presets commands c) in
    record {
      presets = stands.presets;
      lawful = lawful-push (start presets) commands c stands.lawful (subst (λ (s : ControlState). is_lawful s c ≡ true) (stands.now ∙ control-fold presets commands) next.lawful);
      version = next.version ∙ (ap (λ (n : ℕ). n + 1) stands.version ∙ sym count);
      now = next.now ∙ now;
      told = λ v. ⊎_elim (λ before.
          let le : v ≤ old.version = (let version = stands.version in omega arith) in
          let same : master presets (commands ++ c ∷ []) v ≡ master presets commands v = ap (control presets) (take-append-le v commands (c ∷ []) (let version = stands.version in omega arith)) in
          subst (Tells new v) (sym same) (tells-still old new c v (master presets commands v) next le (stands.told v))) (λ since.
          let all : master presets (commands ++ c ∷ []) v ≡ control presets (commands ++ c ∷ []) = ap (control presets)
          (take_all v (commands ++ c ∷ []) (let version = stands.version in omega arith)) in
          let old-all : master presets commands v ≡ old.now = ap (control presets) (take_all v commands (let version = stands.version in omega arith)) ∙ sym stands.now in
          subst (Tells new v) (now ∙ sym all) (tells-next old new c v next since (subst (Tells old v) old-all (stands.told v)))) (cases_lt v (old.version + 1));
    }

pub master-next : (old new : Versions) (c : Command) → IsNext old new c → old.version + 1 ≤ 4096 → IsMaster old → IsMaster new
master-next old new c next below is = record {
  most = (let version = next.version in omega arith);
  before = subst (λ (n : ℕ). AreBefore new.past (n + 1)) (sym next.version)
      (subst (λ (p : PastLines). AreBefore p (old.version + 1 + 1)) (sym next.past)
      (before-noted old.now old.past (old.version + 1) old.now.rules c next.lawful next.whole is.before));
  history = (is.history.0, (is.history.1.0 ++ c ∷ [], stands-next old new c is.history.0 is.history.1.0 next is.history.1.1));
}

-- before the first command
pub record IsFirst (m : Versions) (presets : List Reg) : Type 0 where
  pub lawful : IsTrue (are_presets presets)
  pub version : m.version ≡ 0
  pub now : m.now ≡ start presets
  pub past : IsPastOf m.now m.past
  pub sound : IsSound m.now

tells-first : (m : Versions) (presets : List Reg) (v : ℕ) → IsFirst m presets → Tells m v m.now
tells-first m presets v first = record {
  defs = same-defs m.now.defs;
  regs = λ n high. ap (λ (l : Line (Option Reg)). as_of l v) (first.past.regs n high) ∙ as_of-unchanged (reg_of m.now.regs n) v;
  policy = ap (λ l. as_of l v) first.past.policy ∙ as_of-unchanged m.now.policy v;
  rbuf = ap (λ (l : Line ℕ). as_of l v) first.past.rbuf ∙ as_of-unchanged m.now.rbuf v;
  rules = ap (λ (l : Line (List Rule)). as_of l v) first.past.rules ∙ as_of-unchanged m.now.rules v;
  idle = ap (λ (l : Line (Option ℕ)). as_of l v) first.past.idle ∙ as_of-unchanged m.now.idle v;
  sound = first.sound;
}

control-none : (presets : List Reg) → control presets [] ≡ start presets
unfolding control
control-none presets = refl

pub stands-first : (m : Versions) (presets : List Reg) → IsFirst m presets → StandsFor m presets []
stands-first m presets first =
    let none : List Command = [] in record {
      presets = first.lawful;
      lawful = refl;
      version = first.version;
      now = first.now ∙ sym (control-none presets);
      told = λ v. subst (Tells m v) (first.now ∙ (sym (control-none presets) ∙ sym (ap (control presets) (take_all v none (omega arith))))) (tells-first m presets v first);
    }

unchanged-before : {T : Type 0} (line : Line T) (x : T) (v : ℕ) → line ≡ record { first = x; steps = [] } → IsBefore line v
unchanged-before {T} line x v same = subst (λ (l : Line T). IsBefore l v) (sym same) (All-nil (λ (s : ℕ × T). s.0 < v))

pub master-first : (m : Versions) (presets : List Reg) → IsFirst m presets → IsMaster m
master-first m presets first = record {
  most = (let version = first.version in omega arith);
  before = record {
    regs = λ n. ⊎_elim (λ past. unchanged-before (line_of m.past n) _ (m.version + 1) (first.past.past_end n past))
        (λ within. unchanged-before (line_of m.past n) _ (m.version + 1) (first.past.regs n within)) (cases_lt 255 n);
    policy = unchanged-before m.past.policy _ (m.version + 1) first.past.policy;
    rbuf = unchanged-before m.past.rbuf _ (m.version + 1) first.past.rbuf;
    rules = unchanged-before m.past.rules _ (m.version + 1) first.past.rules;
    idle = unchanged-before m.past.idle _ (m.version + 1) first.past.idle;
  };
  history = (presets, ([], stands-first m presets first));
}
