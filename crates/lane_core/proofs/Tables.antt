-- What holds of each open connection, as one of them makes a step, is closed, or is added.
use Rattle.std.proofs.Common.{◌≡◌, Bool, true, false, Option, Some, None, refl, sym, ap, subst, ◌∙◌, Result, Ok, Err}
use Rattle.std.proofs.lemmas.Option.{same_Some}
use Rattle.std.specs.Prelude.{if◌then◌else◌, ◌&&◌, not, OnOk, OnErr}
use Rattle.flow_table.specs.Key.{EndpointPair, same_key}
use Rattle.flow_table.specs.Table.{Flows, found}
use Rattle.flow_table.proofs.Keys.{keys_total, exact_keys, same_key-equal}
use Rattle.std.specs.FinMap.{same_map}
use Rattle.lane_core.specs.declared.connection.Connection.{Connection}
use Rattle.lane_core.specs.Trees.{AllOpen}

stepped_case : (P : Connection → Type 0) (b : Bool) (o : Option Connection) (after x : Connection) → P after → ((y : Connection) → o ≡ Some y → P y) → (if b then Some after else o) ≡ Some x → P x
stepped_case P true o after x here others is = subst P (same_Some after x is) here
stepped_case P false o after x here others is = others x is

-- one makes a step: it has what it has after, and the others what they have then
pub all_stepped : (P Q : Connection → Type 0) (old new : Flows Connection) (key : EndpointPair) (after : Connection)
    → ((other : EndpointPair) → found new other ≡ (if same_key key other then Some after else found old other))
    → Q after → ((key : EndpointPair) (x : Connection) → found old key ≡ Some x → P x → Q x) → AllOpen P old → AllOpen Q new
all_stepped P Q old new key after left here others all q x is =
    stepped_case Q (same_key key q) (found old q) after x here (λ y there. others q y there (all q y there)) (sym (left q) ∙ is)

as_before : (same : Bool) (flows : Flows Connection) (key other : EndpointPair) (conn : Connection) → same_key key other ≡ same → found flows key ≡ Some conn
    → (if same then Some conn else found flows other) ≡ found flows other
as_before true flows key other conn is was = sym was ∙ ap (λ k. found flows k) (same_key-equal key other is)
as_before false flows key other conn is was = refl

-- one was looked at, and stays as it was
pub same_flows : (old new : Flows Connection) (key : EndpointPair) (conn : Connection)
    → ((other : EndpointPair) → found new other ≡ (if same_key key other then Some conn else found old other)) → found old key ≡ Some conn → new ≡ old
same_flows old new key conn left was =
    same_map keys_total exact_keys new old (λ q. left q ∙ as_before (same_key key q) old key q conn refl was)

pub there_before : (b : Bool) (o : Option Connection) (x : Connection) → (if b then None else o) ≡ Some x → o ≡ Some x
there_before true o x is = absurd (cc)
there_before false o x is = is

-- one is closed
pub all_settled : (P : Connection → Type 0) (old new : Flows Connection) (key : EndpointPair) (over : Bool)
    → ((other : EndpointPair) → found new other ≡ (if over && same_key key other then None else found old other)) → AllOpen P old → AllOpen P new
all_settled P old new key over left all q x is = all q x (there_before (over && same_key key q) (found old q) x (sym (left q) ∙ is))

-- one more, or none where memory was refused
pub all_kept : {T E : Type 0} (P : Connection → Type 0) (r : Result T E) (flows after : Flows Connection) (key : EndpointPair) (conn : Connection) (over : Bool)
    → OnOk r ((other : EndpointPair) → found after other ≡ (if not over && same_key key other then Some conn else found flows other)) → OnErr r (after ≡ flows)
    → P conn → AllOpen P flows → AllOpen P after
all_kept P (Ok v) flows after key conn over left same here all q x is =
    stepped_case P (not over && same_key key q) (found flows q) conn x here (all q) (sym (left q) ∙ is)
all_kept P (Err e) flows after key conn over left same here all q x is = all q x (ap (λ (m : Flows Connection). found m q) (sym same) ∙ is)
