-- One callback, and the callbacks of a raise as a walk over the tree gives them.
use Rattle.std.proofs.Common.{◌≡◌, ℕ, ◌+◌, ◌≤◌, Bool, true, false, cond, Some, List, [], ◌∷◌, ◌++◌, length, map, refl, sym, ap, subst, ◌∙◌, arith, append-nil}
use Rattle.std.specs.Prelude.{if◌then◌else◌}
use Rattle.std.specs.List.{All, AllByRecursion, filter}
use Rattle.std.proofs.lemmas.List.{length-append, length-map}
use Rattle.std.proofs.lemmas.List.Elements.{All-filter, recursion_from_All}
use Rattle.native_filters.specs.declared.facts.Facts.{Facts}
use Rattle.native_filters.specs.declared.facts.Hook.{Hook}
use Rattle.tcp_emulation.specs.declared.segment.Side.{Side}
use Rattle.flow_socket.specs.View.{SocketView, SocketStandsFor}
use Rattle.app_api.specs.declared.entry.Entry.{Entry}
use Rattle.app_api.specs.declared.entry.Seen.{Seen}
use Rattle.app_api.specs.declared.reaction.Reaction.{Reaction}
use Rattle.app_api.specs.declared.registration.Reg.{Reg}
use Rattle.app_api.specs.App.{Meaning}
use Rattle.app_api.specs.Reg.{reg_of}
use Rattle.builtin_events.specs.declared.raise.Raise.{Raise}
use Rattle.event_trees.specs.declared.defs.EventDef.{EventDef}
use Rattle.shared_forest.specs.Lists.{TreeLists}
use Rattle.shared_forest.specs.Listing.{listing}
use Rattle.event_trees.specs.Defs.{AreDefs}
use Rattle.event_trees.specs.Canon.{slot_of, canon}
use Rattle.event_trees.specs.Later.{IsEarlier}
use Rattle.event_trees.specs.Edit.{IsForestOf}
use Rattle.event_trees.specs.Private.{IsPrivate, numbers_of}
use Rattle.event_trees.specs.Fires.{is_called, fires}
use Rattle.forest_versions.specs.State.{ControlState}
use Rattle.connection_core.specs.declared.ledger.Notes.{Notes}
use Rattle.connection_core.specs.declared.ledger.Counts.{Counts}
use Rattle.connection_core.specs.declared.ledger.Ledger.{Ledger}
use Rattle.std.specs.Option.{option_or}
use Rattle.connection_core.specs.PacketUnderWay.{PacketUnderWay, seen_by, after_seen, bytes_seen, call_of, entry_of, reaction_of, called, called_all, called_at}
use Rattle.connection_core.specs.History.{weight_of}
use Rattle.connection_core.specs.Standing.{IsUnder, Steps}
use Rattle.connection_core.specs.Numbers.{called_by, called_numbers}
use Rattle.connection_core.specs.Unheard.{CallsOne}

pub weight-append : (xs ys : List Entry) → weight_of (xs ++ ys) ≡ weight_of xs + weight_of ys
weight-append [] ys = omega arith
weight-append (x ∷ xs) ys = omega (arith, weight-append xs ys)

-- one entry more, where entries are kept
kept-more : (keep : Bool) (made kept after : List Entry) (here seen : Entry)
    → kept ≡ (if keep then made else []) → after ≡ (if keep then kept ++ seen ∷ [] else kept) → (keep ≡ true → seen ≡ here)
    → after ≡ (if keep then made ++ here ∷ [] else [])
kept-more true made kept after here seen before is same = is ∙ ap (λ l. l ++ seen ∷ []) before ∙ ap (λ e. made ++ e ∷ []) (same refl)
kept-more false made kept after here seen before is same = is ∙ before

pub called_under : (app : Meaning) (s : ControlState) (number : ℕ) (from : Side) (raise : Raise) (r : Reg) (keep : Bool) (others : Counts) (list : List Reg)
    (socket socket_after : SocketView) (notes notes_after : Notes) (ledger ledger_after : Ledger) (got : ℕ) (seen : Seen) (reaction : Reaction) (c : PacketUnderWay)
    → IsUnder keep others list socket notes ledger c
    → SocketStandsFor socket_after (after_seen from r.peek c.emulation)
    → (keep ≡ true → seen ≡ seen_by from r.peek c.emulation)
    → got ≡ bytes_seen (seen_by from r.peek c.emulation)
    → notes_after.tally ≡ (reaction_of app s.rules r (record { reg = r.number; hook = raise.hook; event = r.event; facts = raise.facts; got = got }) notes.tally).0
    → reaction ≡ (reaction_of app s.rules r (record { reg = r.number; hook = raise.hook; event = r.event; facts = raise.facts; got = got }) notes.tally).1
    → notes_after.entries ≡ (if keep then notes.entries ++ entry_of number raise r seen ∷ [] else notes.entries)
    → ledger_after.changes.items ≡ ledger.changes.items ++ reaction.changes
    → ledger_after.drop ≡ option_or ledger.drop reaction.drop
    → ledger_after.counts.callbacks ≡ ledger.counts.callbacks + 1
    → ledger_after.counts.weight ≡ ledger.counts.weight + (32 + got)
    → IsUnder keep others list socket_after notes_after ledger_after (called app s number from raise c r)
unfolding called
called_under app s number from raise r keep others list socket socket_after notes notes_after ledger ledger_after got seen reaction c u heard saw
    bytes tally reacts entries changes drop callbacks weight =
    let here = seen_by from r.peek c.emulation in
    let answer : reaction_of app s.rules r (record { reg = r.number; hook = raise.hook; event = r.event; facts = raise.facts; got = got })
    notes.tally ≡ reaction_of app s.rules r (call_of raise r here) c.tally =
    ap (λ n. reaction_of app s.rules r (record { reg = r.number; hook = raise.hook; event = r.event; facts = raise.facts; got = n }) notes.tally) bytes
    ∙ ap (λ t. reaction_of app s.rules r (call_of raise r here) t) u.noted.tally in
    let reaction_is : reaction ≡ (reaction_of app s.rules r (call_of raise r here) c.tally).1 = reacts ∙ ap (λ a. a.1) answer in
    let entry = entry_of number raise r here in
    record {
      heard = heard;
      active = u.active;
      noted = record {
        tally = tally ∙ ap (λ a. a.0) answer;
        entries = kept-more keep c.entries notes.entries notes_after.entries entry (entry_of number raise r seen) u.noted.entries entries (λ k. ap (λ w. entry_of number raise r w) (saw k));
        callbacks = let one : length (c.entries ++ entry ∷ []) ≡ length c.entries + 1 = length-append c.entries (entry ∷ []) in omega (arith, callbacks, u.noted.callbacks);
        weight = let one : weight_of (c.entries ++ entry ∷ []) ≡ weight_of c.entries + weight_of (entry ∷ []) = weight-append c.entries (entry ∷ []) in omega (arith, weight, u.noted.weight, bytes);
      };
      asked = changes ∙ ap (λ l. l ++ reaction.changes) u.asked ∙ ap (λ (w : Reaction). c.asked ++ w.changes) reaction_is;
      drop = drop ∙ ap (λ d. option_or d reaction.drop) u.drop ∙ ap (λ (w : Reaction). option_or c.drop w.drop) reaction_is;
    }

-- ---- a walk under way

-- what the callbacks made so far have come to, so that those of the numbers left give what all give
pub record CallsLeft (app : Meaning) (s : ControlState) (keep : Bool) (list : List Reg) (number : ℕ) (from : Side) (raise : Raise)
    (socket : SocketView) (notes : Notes) (ledger : Ledger) (all : List ℕ) (socket_now : SocketView) (notes_now : Notes) (ledger_now : Ledger) (left : List ℕ) : Type 0 where
  pub so_far : PacketUnderWay → PacketUnderWay
  pub steps : Steps keep list socket notes ledger socket_now notes_now ledger_now so_far
  pub whole : (c : PacketUnderWay) → called_numbers app s number from raise (so_far c) left ≡ called_numbers app s number from raise c all

pub calls_begun : (app : Meaning) (s : ControlState) (keep : Bool) (list : List Reg) (number : ℕ) (from : Side) (raise : Raise)
    (socket : SocketView) (notes : Notes) (ledger : Ledger) (all : List ℕ)
    → CallsLeft app s keep list number from raise socket notes ledger all socket notes ledger all
calls_begun app s keep list number from raise socket notes ledger all =
    record { so_far = λ c. c; steps = record { stands = λ others c u. u }; whole = λ c. refl }

pub calls_on : (app : Meaning) (s : ControlState) (keep : Bool) (list : List Reg) (number : ℕ) (from : Side) (raise : Raise)
    (socket : SocketView) (notes : Notes) (ledger : Ledger) (all : List ℕ) (socket_now socket_after : SocketView) (notes_now notes_after : Notes) (ledger_now ledger_after : Ledger)
    (left after : List ℕ) (n : ℕ)
    → CallsLeft app s keep list number from raise socket notes ledger all socket_now notes_now ledger_now left → left ≡ n ∷ after
    → Steps keep list socket_now notes_now ledger_now socket_after notes_after ledger_after (λ c. called_by app s number from raise c (reg_of s.regs n))
    → CallsLeft app s keep list number from raise socket notes ledger all socket_after notes_after ledger_after after
calls_on app s keep list number from raise socket notes ledger all socket_now socket_after notes_now notes_after ledger_now ledger_after left after n k is step = record {
  so_far = λ c. called_by app s number from raise (k.so_far c) (reg_of s.regs n);
  steps = record { stands = λ others c u. step.stands others (k.so_far c) (k.steps.stands others c u) };
  whole = λ c. ap (called_numbers app s number from raise (k.so_far c)) (sym is) ∙ k.whole c;
}

-- the numbers of registrations that are there call these
calls_by_number : (app : Meaning) (s : ControlState) (number : ℕ) (from : Side) (raise : Raise) (list : List Reg) (c : PacketUnderWay)
    → AllByRecursion (λ (r : Reg). reg_of s.regs r.number ≡ Some r) list
    → called_numbers app s number from raise c (numbers_of list) ≡ called_all app s number from raise c list
calls_by_number app s number from raise [] c all = refl
calls_by_number app s number from raise (r ∷ list) c all =
    ap (λ o. called_numbers app s number from raise (called_by app s number from raise c o) (numbers_of list)) all.0
    ∙ calls_by_number app s number from raise list (called app s number from raise c r) all.1

-- once no number is left, the raise is made
pub calls_done : (app : Meaning) (s : ControlState) (keep : Bool) (list : List Reg) (number : ℕ) (from : Side) (raise : Raise)
    (socket : SocketView) (notes : Notes) (ledger : Ledger) (all : List ℕ) (socket_now : SocketView) (notes_now : Notes) (ledger_now : Ledger) (left : List ℕ)
    → CallsLeft app s keep list number from raise socket notes ledger all socket_now notes_now ledger_now left → left ≡ []
    → All (λ (r : Reg). reg_of s.regs r.number ≡ Some r) list
    → all ≡ numbers_of (fires s.defs raise.facts raise.hook raise.event list)
    → Steps keep list socket notes ledger socket_now notes_now ledger_now (called_at app s number from raise)
unfolding called_at
calls_done app s keep list number from raise socket notes ledger all socket_now notes_now ledger_now left k none known is = record {
  stands = λ others c u.
      let P : Reg → Type 0 = λ r. reg_of s.regs r.number ≡ Some r in
      let fired = fires s.defs raise.facts raise.hook raise.event list in
      let same : k.so_far c ≡ called_all app s number from raise c (fires s.defs raise.facts raise.hook raise.event c.active) =
      ap (called_numbers app s number from raise (k.so_far c)) (sym none) ∙ k.whole c
      ∙ ap (called_numbers app s number from raise c) is
      ∙ calls_by_number app s number from raise fired c (recursion_from_All P fired (All-filter (is_called s.defs raise.facts raise.hook raise.event) P list known))
      ∙ ap (λ l. called_all app s number from raise c (fires s.defs raise.facts raise.hook raise.event l)) (sym u.active) in
      subst (λ w. IsUnder keep others list socket_now notes_now ledger_now w) same (k.steps.stands others c u);
}

-- where one registration alone fires, its callback is the raise
pub calls_one : (app : Meaning) (s : ControlState) (keep : Bool) (list : List Reg) (number : ℕ) (from : Side) (raise : Raise)
    (socket socket_after : SocketView) (notes notes_after : Notes) (ledger ledger_after : Ledger) (n : ℕ)
    → All (λ (r : Reg). reg_of s.regs r.number ≡ Some r) list → CallsOne s list raise n
    → Steps keep list socket notes ledger socket_after notes_after ledger_after (λ c. called_by app s number from raise c (reg_of s.regs n))
    → Steps keep list socket notes ledger socket_after notes_after ledger_after (called_at app s number from raise)
calls_one app s keep list number from raise socket socket_after notes notes_after ledger ledger_after n known one step =
    calls_done app s keep list number from raise socket notes ledger (n ∷ []) socket_after notes_after ledger_after []
    (calls_on app s keep list number from raise socket notes ledger (n ∷ []) socket socket_after notes notes_after ledger ledger_after
    (n ∷ []) [] n (calls_begun app s keep list number from raise socket notes ledger (n ∷ [])) refl step) refl known (sym one)

-- no more fire than there are
filter_short : {X : Type 0} (p : X → Bool) (xs : List X) → length (filter p xs) ≤ length xs
filter_short p [] = omega arith
filter_short p (x ∷ xs) =
    let rest = filter_short p xs in
    elim (p x) as (λ b. length (cond b (x ∷ filter p xs) (filter p xs)) ≤ length (x ∷ xs)) [
      | true ↦ omega arith
      | false ↦ omega arith
    ]

pub few_fire : (defs : List EventDef) (facts : Facts) (hook : Hook) (event : ℕ) (list : List Reg) (numbers : List ℕ) → length list ≤ 255
    → numbers ≡ numbers_of (fires defs facts hook event list) → length numbers ≤ 255
few_fire defs facts hook event list numbers few is =
    let fired = fires defs facts hook event list in
    let count : length numbers ≡ length fired = ap length is ∙ length-map fired (λ r. r.number) in
    omega (arith, count, filter_short (is_called defs facts hook event) list)

-- a raise makes at most 255 calls
pub all_few : (defs later : List EventDef) (list : List Reg) (tree : TreeLists) (raise : Raise) (all : List ℕ) → later ≡ defs → IsPrivate defs list → listing tree ≡ canon defs list
    → ((d : List EventDef) (l : List Reg) → IsForestOf d l (listing tree) → tree.slots ≡ map slot_of l)
    → ((d : List EventDef) (l : List Reg) → IsForestOf d l (listing tree) → length tree.slots ≤ 255)
    → ((d : List EventDef) → IsEarlier d later → AreDefs d)
    → ((l : List Reg) → AreDefs later → IsPrivate later l → listing tree ≡ canon later l → all ≡ numbers_of (fires later raise.facts raise.hook raise.event l))
    → length all ≤ 255
all_few defs later list tree raise all same private listed slots few defined fires_all =
    let there : IsPrivate later list = subst (λ d. IsPrivate d list) (sym same) private in
    let shown : listing tree ≡ canon later list = subst (λ d. listing tree ≡ canon d list) (sym same) listed in
    let forest : IsForestOf later list (listing tree) = record { private = there; listed = shown } in
    let count : length tree.slots ≡ length list = ap length (slots later list forest) ∙ length-map list slot_of in
    let short : length list ≤ 255 = omega (arith, count, few later list forest) in
    few_fire later raise.facts raise.hook raise.event list all short (fires_all list (defined later ([], append-nil later)) there shown)
