-- What a past tells after one command more.
use Rattle.std.proofs.Common.{◌≡◌, ℕ, ◌+◌, ◌<◌, ◌≤◌, true, false, cond, eqb, leb, List, [], ◌∷◌, length, set, refl, sym, ap, subst, ◌∙◌, arith, ⊎_elim}
use Rattle.std.specs.Prelude.{◌≢◌, IsTrue, Option, Some, None}
use Rattle.std.proofs.lemmas.Bool.{eq-eqb, ne_eqb, cases_eq, le-leb, leb-true}
use Rattle.std.proofs.lemmas.List.{get_or-set_same, get_or-set_other, set-set, set-get_or, length-set}
use Rattle.std.proofs.lemmas.List.Elements.{All-push, All-weaker}
use Rattle.std.proofs.lemmas.List.Sums.{fold-append}
use Rattle.app_api.specs.declared.registration.Reg.{Reg}
use Rattle.app_api.specs.declared.rule.Rule.{Rule}
use Rattle.app_api.specs.Reg.{reg_of}
use Rattle.forest_versions.specs.declared.command.Command.{Command}
use Rattle.forest_versions.specs.declared.command.Command.TheVariants.{Event, Register, Unregister, Buffer, Overlap, AddRule, RemoveRule, Idle}
use Rattle.forest_versions.specs.State.{ControlState, after}
use Rattle.forest_versions.specs.Lawful.{is_lawful}
use Rattle.forest_versions.specs.Timeline.{Line, as_of, stepped, IsBefore}
use Rattle.forest_versions.specs.Past.{PastLines, line_of, never, with_reg, noted, AreBefore}
use Rattle.forest_versions.proofs.Regs.{reg_of-put, reg_of-without, unlike}
use Rattle.forest_versions.proofs.LawfulFacts.{lawful-register, lawful-withdraw}

pub as_of-stepped : {T : Type 0} (line : Line T) (from v : ℕ) (x : T) → as_of (stepped line from x) v ≡ cond (leb from v) x (as_of line v)
unfolding as_of
as_of-stepped {T} line from v x = fold-append (λ (a : T) (s : ℕ × T). cond (leb s.0 v) s.1 a) line.first line.steps ((from, x) ∷ [])

leb-false : (a b : ℕ) → b < a → leb a b ≡ false
leb-false a b h = elim (leb a b) as (λ t. leb a b ≡ t → t ≡ false) [ true ↦ λ e. absurd (let le = leb-true a b e in omega arith) | false ↦ λ e. refl ] refl

pub as_of-earlier : {T : Type 0} (line : Line T) (from v : ℕ) (x : T) → v < from → as_of (stepped line from x) v ≡ as_of line v
as_of-earlier line from v x h = as_of-stepped line from v x ∙ ap (λ b. cond b x (as_of line v)) (leb-false from v h)

pub as_of-from : {T : Type 0} (line : Line T) (from v : ℕ) (x : T) → from ≤ v → as_of (stepped line from x) v ≡ x
as_of-from line from v x h = as_of-stepped line from v x ∙ ap (λ b. cond b x (as_of line v)) (le-leb from v h)

pub as_of-unchanged : {T : Type 0} (x : T) (v : ℕ) → as_of (record { first = x; steps = [] }) v ≡ x
unfolding as_of
as_of-unchanged x v = refl

-- the line of a number after a note for another, and for itself
pub line-same : (past : PastLines) (n from : ℕ) (reg : Option Reg) → n < length past.regs → line_of (with_reg past n from reg) n ≡ stepped (line_of past n) from reg
line-same past n from reg within = get_or-set_same past.regs n (stepped (line_of past n) from reg) never within

pub line-other : (past : PastLines) (n k from : ℕ) (reg : Option Reg) → k ≢ n → line_of (with_reg past n from reg) k ≡ line_of past k
line-other past n k from reg other = get_or-set_other past.regs n k (stepped (line_of past n) from reg) never other

earlier-reg : (past : PastLines) (n from v : ℕ) (reg : Option Reg) (k : ℕ) → n < length past.regs → v < from → as_of (line_of (with_reg past n from reg) k) v ≡ as_of (line_of past k) v
earlier-reg past n from v reg k within before =
    ⊎_elim (λ same. ap (λ (j : ℕ). as_of (line_of (with_reg past n from reg) j) v) same
    ∙ (ap (λ (l : Line (Option Reg)). as_of l v) (line-same past n from reg within)
    ∙ (as_of-earlier (line_of past n) from v reg before ∙ ap (λ (j : ℕ). as_of (line_of past j) v) (sym same))))
    (λ other. ap (λ (l : Line (Option Reg)). as_of l v) (line-other past n k from reg other)) (cases_eq k n)

later-reg : (past : PastLines) (n from v : ℕ) (reg : Option Reg) (k : ℕ) → n < length past.regs → from ≤ v
    → as_of (line_of (with_reg past n from reg) k) v ≡ cond (eqb n k) reg (as_of (line_of past k) v)
later-reg past n from v reg k within since =
    ⊎_elim (λ same. ap (λ (j : ℕ). as_of (line_of (with_reg past n from reg) j) v) same
    ∙ (ap (λ (l : Line (Option Reg)). as_of l v) (line-same past n from reg within)
    ∙ (as_of-from (line_of past n) from v reg since ∙ ap (λ b. cond b reg (as_of (line_of past k) v)) (sym (eq-eqb n k (sym same))))))
    (λ other. ap (λ (l : Line (Option Reg)). as_of l v) (line-other past n k from reg other)
    ∙ ap (λ b. cond b reg (as_of (line_of past k) v)) (sym (ne_eqb n k (λ e. other (sym e))))) (cases_eq k n)

-- two pasts tell the same at a version
pub record TellTheSame (old new : PastLines) (v : ℕ) : Type 0 where
  pub regs : (number : ℕ) → as_of (line_of new number) v ≡ as_of (line_of old number) v
  pub policy : as_of new.policy v ≡ as_of old.policy v
  pub rbuf : as_of new.rbuf v ≡ as_of old.rbuf v
  pub rules : as_of new.rules v ≡ as_of old.rules v
  pub idle : as_of new.idle v ≡ as_of old.idle v

-- a command changes nothing before it
pub same-earlier : (s : ControlState) (past : PastLines) (from v : ℕ) (rules : List Rule) (c : Command) → IsTrue (is_lawful s c)
    → length past.regs ≡ 256 → v < from → TellTheSame past (noted from rules c past) v
unfolding noted
same-earlier s past from v rules (Event d) lawful whole before = record { regs = λ n. refl; policy = refl; rbuf = refl; rules = refl; idle = refl }
same-earlier s past from v rules (Register r) lawful whole before =
    let fits = lawful-register s r lawful in
    record { regs = λ k. earlier-reg past r.number from v (Some r) k (omega (arith, fits.high)) before; policy = refl; rbuf = refl; rules = refl; idle = refl }
same-earlier s past from v rules (Unregister number) lawful whole before =
    let high = lawful-withdraw s number lawful in
    record { regs = λ k. earlier-reg past number from v None k (omega (arith, high)) before; policy = refl; rbuf = refl; rules = refl; idle = refl }
same-earlier s past from v rules (Buffer bytes) lawful whole before = record { regs = λ n. refl; policy = refl; rbuf = as_of-earlier past.rbuf from v bytes before; rules = refl; idle = refl }
same-earlier s past from v rules (Overlap policy) lawful whole before = record { regs = λ n. refl; policy = as_of-earlier past.policy from v policy before; rbuf = refl; rules = refl; idle = refl }
same-earlier s past from v rules (AddRule r) lawful whole before = record { regs = λ n. refl; policy = refl; rbuf = refl; rules = as_of-earlier past.rules from v _ before; idle = refl }
same-earlier s past from v rules (RemoveRule number) lawful whole before = record { regs = λ n. refl; policy = refl; rbuf = refl; rules = as_of-earlier past.rules from v _ before; idle = refl }
same-earlier s past from v rules (Idle seconds) lawful whole before = record { regs = λ n. refl; policy = refl; rbuf = refl; rules = refl; idle = as_of-earlier past.idle from v (Some seconds) before }

-- what a past tells is what a state has
pub record TellsOf (past : PastLines) (v : ℕ) (s : ControlState) : Type 0 where
  pub regs : (number : ℕ) → number ≤ 255 → as_of (line_of past number) v ≡ reg_of s.regs number
  pub policy : as_of past.policy v ≡ s.policy
  pub rbuf : as_of past.rbuf v ≡ s.rbuf
  pub rules : as_of past.rules v ≡ s.rules
  pub idle : as_of past.idle v ≡ s.idle

-- from a command on, the past tells the state after it
pub tells-later : (s : ControlState) (past : PastLines) (from v : ℕ) (c : Command) → IsTrue (is_lawful s c) → length past.regs ≡ 256 → from ≤ v
    → TellsOf past v s → TellsOf (noted from s.rules c past) v (after s c)
unfolding noted after
tells-later s past from v (Event d) lawful whole since told = record { regs = told.regs; policy = told.policy; rbuf = told.rbuf; rules = told.rules; idle = told.idle }
tells-later s past from v (Register r) lawful whole since told =
    let fits = lawful-register s r lawful in
    record {
      regs = λ k high. later-reg past r.number from v (Some r) k (omega (arith, fits.high)) since
          ∙ (ap (λ (o : Option Reg). cond (eqb r.number k) (Some r) o) (told.regs k high) ∙ sym (reg_of-put s.defs r s.regs k (unlike s.regs r.number fits.absent)));
      policy = told.policy;
      rbuf = told.rbuf;
      rules = told.rules;
      idle = told.idle;
    }
tells-later s past from v (Unregister number) lawful whole since told =
    let within = lawful-withdraw s number lawful in
    record {
      regs = λ k high. later-reg past number from v None k (omega (arith, within)) since
          ∙ (ap (λ (o : Option Reg). cond (eqb number k) None o) (told.regs k high) ∙ sym (reg_of-without s.regs number k));
      policy = told.policy;
      rbuf = told.rbuf;
      rules = told.rules;
      idle = told.idle;
    }
tells-later s past from v (Buffer bytes) lawful whole since told = record
    { regs = told.regs; policy = told.policy; rbuf = as_of-from past.rbuf from v bytes since; rules = told.rules; idle = told.idle }
tells-later s past from v (Overlap policy) lawful whole since told = record
    { regs = told.regs; policy = as_of-from past.policy from v policy since; rbuf = told.rbuf; rules = told.rules; idle = told.idle }
tells-later s past from v (AddRule r) lawful whole since told = record { regs = told.regs; policy = told.policy; rbuf = told.rbuf; rules = as_of-from past.rules from v _ since; idle = told.idle }
tells-later s past from v (RemoveRule number) lawful whole since told = record
    { regs = told.regs; policy = told.policy; rbuf = told.rbuf; rules = as_of-from past.rules from v _ since; idle = told.idle }
tells-later s past from v (Idle seconds) lawful whole since told = record
    { regs = told.regs; policy = told.policy; rbuf = told.rbuf; rules = told.rules; idle = as_of-from past.idle from v (Some seconds) since }

before-more : {T : Type 0} (line : Line T) (v : ℕ) → IsBefore line v → IsBefore line (v + 1)
before-more {T} line v h = All-weaker (λ (s : ℕ × T). s.0 < v) (λ (s : ℕ × T). s.0 < v + 1) (λ s below. omega arith) line.steps h

before-stepped : {T : Type 0} (line : Line T) (v : ℕ) (x : T) → IsBefore line v → IsBefore (stepped line v x) (v + 1)
before-stepped {T} line v x h = All-push (λ (s : ℕ × T). s.0 < v + 1) line.steps (v, x) (before-more line v h) (omega arith)

before-reg : (past : PastLines) (n v : ℕ) (reg : Option Reg) (k : ℕ) → n < length past.regs → ((number : ℕ) → IsBefore (line_of past number) v) → IsBefore (line_of (with_reg past n v reg) k) (v + 1)
before-reg past n v reg k within h =
    ⊎_elim (λ same. subst (λ (l : Line (Option Reg)). IsBefore l (v + 1))
    (sym (ap (λ (j : ℕ). line_of (with_reg past n v reg) j) same ∙ line-same past n v reg within)) (before-stepped (line_of past n) v reg (h n)))
    (λ other. subst (λ (l : Line (Option Reg)). IsBefore l (v + 1)) (sym (line-other past n k v reg other)) (before-more (line_of past k) v (h k))) (cases_eq k n)

-- after a note each change is before the version after it
pub before-noted : (s : ControlState) (past : PastLines) (v : ℕ) (rules : List Rule) (c : Command) → IsTrue (is_lawful s c) → length past.regs ≡ 256
    → AreBefore past v → AreBefore (noted v rules c past) (v + 1)
unfolding noted
before-noted s past v rules (Event d) lawful whole h = record {
  regs = λ k. before-more (line_of past k) v (h.regs k);
  policy = before-more
      past.policy v h.policy;
  rbuf = before-more past.rbuf v h.rbuf;
  rules = before-more past.rules v h.rules;
  idle = before-more past.idle v h.idle;
}
before-noted s past v rules (Register r) lawful whole h =
    let fits = lawful-register s r lawful in
    record {
      regs = λ k. before-reg past r.number v (Some r) k (omega (arith, fits.high)) h.regs;
      policy = before-more past.policy v h.policy;
      rbuf = before-more past.rbuf v h.rbuf;
      rules = before-more past.rules v h.rules;
      idle = before-more past.idle v h.idle;
    }
before-noted s past v rules (Unregister number) lawful whole h =
    let high = lawful-withdraw s number lawful in
    record {
      regs = λ k. before-reg past number v None k (omega (arith, high)) h.regs;
      policy = before-more past.policy v h.policy;
      rbuf = before-more
          past.rbuf v h.rbuf;
      rules = before-more past.rules v h.rules;
      idle = before-more past.idle v h.idle;
    }
before-noted s past v rules (Buffer bytes) lawful whole h = record {
  regs = λ k. before-more (line_of past k) v (h.regs k);
  policy = before-more
      past.policy v h.policy;
  rbuf = before-stepped past.rbuf v bytes h.rbuf;
  rules = before-more past.rules v h.rules;
  idle = before-more past.idle v h.idle;
}
before-noted s past v rules (Overlap policy) lawful whole h = record {
  regs = λ k. before-more (line_of past k) v (h.regs k);
  policy = before-stepped
      past.policy v policy h.policy;
  rbuf = before-more past.rbuf v h.rbuf;
  rules = before-more past.rules v h.rules;
  idle = before-more past.idle v h.idle;
}
before-noted s past v rules (AddRule r) lawful whole h = record {
  regs = λ k. before-more (line_of past k) v (h.regs k);
  policy = before-more
      past.policy v h.policy;
  rbuf = before-more past.rbuf v h.rbuf;
  rules = before-stepped past.rules v _ h.rules;
  idle = before-more past.idle v h.idle;
}
before-noted s past v rules (RemoveRule number) lawful whole h = record {
  regs = λ k. before-more (line_of past k) v (h.regs k);
  policy = before-more past.policy v h.policy;
  rbuf = before-more past.rbuf v h.rbuf;
  rules = before-stepped past.rules v _ h.rules;
  idle = before-more past.idle v h.idle;
}
before-noted s past v rules (Idle seconds) lawful whole h = record {
  regs = λ k. before-more (line_of past k) v (h.regs k);
  policy = before-more
      past.policy v h.policy;
  rbuf = before-more past.rbuf v h.rbuf;
  rules = before-more past.rules v h.rules;
  idle = before-stepped past.idle v (Some seconds) h.idle;
}

-- a note that is taken back leaves the past as it was
pub take-back : (old past : PastLines) (n from : ℕ) (reg : Option Reg) (back : Line (Option Reg)) → n < length old.regs
    → old ≡ with_reg past n from reg → ((line : Line (Option Reg)) (v : ℕ) (x : Option Reg) → line_of old n ≡ stepped line v x → back ≡ line)
    → record old { regs = set old.regs n back } ≡ past
take-back old past n from reg back within is undo =
    let regs : old.regs ≡ set past.regs n (stepped (line_of past n) from reg) = ap (λ (p : PastLines). p.regs) is in
    let long : length old.regs ≡ length past.regs = ap length regs ∙ length-set past.regs n (stepped (line_of past n) from reg) in
    let line : line_of old n ≡ stepped (line_of past n) from reg = ap (λ (p : PastLines). line_of p n) is ∙ line-same past n from reg (omega arith) in
    let same : back ≡ line_of past n = undo (line_of past n) from reg line in
    let whole : set old.regs n back ≡ past.regs = ap (λ (l : List (Line (Option Reg))). set l n back) regs
    ∙ (set-set past.regs n (stepped (line_of past n) from reg) back ∙ (ap (set past.regs n) same ∙ set-get_or past.regs n never)) in
    ap (λ (p : PastLines). record p { regs = set old.regs n back }) is ∙ ap (λ (l : List (Line (Option Reg))). record past { regs = l }) whole
