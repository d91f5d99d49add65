-- What a lawful command is known to be.
use Rattle.std.proofs.Common.{◌≡◌, ℕ, ◌≤◌, Bool, true, false, cond, leb, ltb, refl, arith}
use Rattle.std.specs.Prelude.{◌&&◌, IsTrue, not, Option, Some, None, is_some, is_none, length}
use Rattle.std.specs.List.{list_all}
use Rattle.std.proofs.lemmas.Bool.{and_parts, leb-true, ltb-false}
use Rattle.app_api.specs.declared.registration.Reg.{Reg}
use Rattle.app_api.specs.declared.rule.Rule.{Rule}
use Rattle.app_api.specs.Reg.{peek_fits, reg_of}
use Rattle.event_trees.specs.declared.defs.EventDef.{EventDef}
use Rattle.event_trees.specs.Defs.{found, is_event, path, IsAddable}
use Rattle.forest_versions.specs.declared.command.Command.TheVariants.{Event, Register, Unregister, Buffer, AddRule}
use Rattle.forest_versions.specs.declared.refusal.Refusal.{Refusal}
use Rattle.forest_versions.specs.declared.refusal.Refusal.TheVariants.{Duplicate, NoSuchNumber, TooDeep}
use Rattle.forest_versions.specs.Rules.{rule_of}
use Rattle.forest_versions.specs.State.{ControlState}
use Rattle.forest_versions.specs.Lawful.{is_within, is_lawful, refusal, may_be_event, may_be_number, event_refusal, reg_refusal, taken, missing, IsRegistrable}

-- a test that would have refused
passed : (b : Bool) (x : Refusal) (rest : Option Refusal) → is_none (cond b (Some x) rest) ≡ true → (b ≡ false) × (is_none rest ≡ true)
passed true x rest h = cc
passed false x rest h = (refl, h)

none_of : {X : Type 0} (o : Option X) → is_some o ≡ false → o ≡ None
none_of None h = refl
none_of (Some x) h = cc

held : (b : Bool) → not b ≡ false → b ≡ true
held true h = refl
held false h = cc

pub lawful-event : (s : ControlState) (d : EventDef) → IsTrue (is_lawful s (Event d)) → IsAddable s.defs d
unfolding is_lawful is_within refusal
lawful-event s d lawful =
    let parts = and_parts (leb 1 d.number && leb d.number 255 && may_be_event d.parent) (is_none (event_refusal s.defs d)) lawful in
    let numbers = and_parts (leb 1 d.number && leb d.number 255) (may_be_event d.parent) parts.0 in
    let range = and_parts (leb 1 d.number) (leb d.number 255) numbers.0 in
    let absent = passed (is_some (found s.defs d.number)) Duplicate _ parts.1 in
    let parent = passed (not (is_event s.defs d.parent)) NoSuchNumber _ absent.1 in
    let depth = passed (ltb 7 (length (path s.defs d.parent))) TooDeep _ parent.1 in
    record {
      low = leb-true 1 d.number range.0;
      high = leb-true d.number 255 range.1;
      absent = none_of (found s.defs d.number) absent.0;
      parent = held (is_event s.defs d.parent) parent.0;
      depth = ltb-false 7 (length (path s.defs d.parent)) depth.0;
    }

pub lawful-register : (s : ControlState) (r : Reg) → IsTrue (is_lawful s (Register r)) → IsRegistrable s r
unfolding is_lawful is_within refusal
lawful-register s r lawful =
    let changes : Bool = list_all (λ c. may_be_number c.reg) r.action.changes in
    let range : Bool = leb 16 r.number && leb r.number 255 in
    let parts = and_parts (range && may_be_event r.event && peek_fits r.peek && changes) (is_none (reg_refusal s.defs s.regs r)) lawful in
    let four = and_parts (range && may_be_event r.event && peek_fits r.peek) changes parts.0 in
    let peek = and_parts (range && may_be_event r.event) (peek_fits r.peek) four.0 in
    let event = and_parts range (may_be_event r.event) peek.0 in
    let numbers = and_parts (leb 16 r.number) (leb r.number 255) event.0 in
    let absent = passed (is_some (reg_of s.regs r.number)) Duplicate _ parts.1 in
    let there = passed (not (is_event s.defs r.event)) NoSuchNumber _ absent.1 in
    let sixteen : 16 ≤ r.number = leb-true 16 r.number numbers.0 in
    record {
      low = omega arith;
      high = leb-true r.number 255 numbers.1;
      absent = none_of (reg_of s.regs r.number) absent.0;
      event = held (is_event s.defs r.event) there.0;
      peek = peek.1;
    }

pub lawful-buffer : (s : ControlState) (bytes : ℕ) → IsTrue (is_lawful s (Buffer bytes)) → (1 ≤ bytes) × (bytes ≤ 1048576)
unfolding is_lawful is_within refusal
lawful-buffer s bytes lawful =
    let parts = and_parts (leb 1 bytes && leb bytes 1048576) true lawful in
    let range = and_parts (leb 1 bytes) (leb bytes 1048576) parts.0 in
    (leb-true 1 bytes range.0, leb-true bytes 1048576 range.1)

pub lawful-rule : (s : ControlState) (r : Rule) → IsTrue (is_lawful s (AddRule r)) → (1 ≤ r.number) × (rule_of s.rules r.number ≡ None)
unfolding is_lawful is_within refusal
lawful-rule s r lawful =
    let parts = and_parts (may_be_number r.number && leb r.src_len 32 && leb r.dst_len 32 && leb r.low r.high && leb r.high 65535) (is_none (taken (is_some (rule_of s.rules r.number)))) lawful in
    let five = and_parts (may_be_number r.number && leb r.src_len 32 && leb r.dst_len 32 && leb r.low r.high) (leb r.high 65535) parts.0 in
    let four = and_parts (may_be_number r.number && leb r.src_len 32 && leb r.dst_len 32) (leb r.low r.high) five.0 in
    let three = and_parts (may_be_number r.number && leb r.src_len 32) (leb r.dst_len 32) four.0 in
    let two = and_parts (may_be_number r.number) (leb r.src_len 32) three.0 in
    let low = and_parts (leb 1 r.number) (leb r.number 255) two.0 in
    let absent = passed (is_some (rule_of s.rules r.number)) Duplicate None parts.1 in
    (leb-true 1 r.number low.0, none_of (rule_of s.rules r.number) absent.0)

pub lawful-withdraw : (s : ControlState) (number : ℕ) → IsTrue (is_lawful s (Unregister number)) → number ≤ 255
unfolding is_lawful is_within refusal
lawful-withdraw s number lawful =
    let parts = and_parts (may_be_number number) (is_none (missing (is_some (reg_of s.regs number)))) lawful in
    let range = and_parts (leb 1 number) (leb number 255) parts.0 in
    leb-true number 255 range.1
