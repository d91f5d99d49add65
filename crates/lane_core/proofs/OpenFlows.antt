-- What the table of open connections has for a key, as records come and go on.
use Rattle.std.proofs.Common.{◌≡◌, ◌≢◌, ℕ, zero, suc, ◌<◌, Bool, true, false, Option, Some, None, List, [], ◌∷◌, ◌++◌, length, get_or, set, refl, sym, ap, subst, ◌∙◌, arith}
use Rattle.std.proofs.lemmas.List.{get_or-set_same, get_or-set_other}
use Rattle.std.specs.Prelude.{if◌then◌else◌}
use Rattle.flow_table.specs.Key.{EndpointPair, same_key}
use Rattle.flow_table.specs.Table.{Flows, found}
use Rattle.flow_table.proofs.Keys.{same_key-equal}
use Rattle.lane_core.specs.declared.connection.Connection.{Connection}
use Rattle.lane_core.specs.Records.{RecordSoFar, is_open_at}
use Rattle.lane_core.specs.Places.{place_of, IsSingle}
use Rattle.app_api.specs.declared.registration.Reg.{Reg}
use Rattle.shared_forest.specs.declared.store.Shared.{Shared}
use Rattle.shared_forest.specs.Lists.{TreeLists}
use Rattle.lane_core.specs.Kept.{IsOpen, IsOpenAt}
use Rattle.lane_core.proofs.Places.{place_with, place_by-within, place_by-passes, place_by-set, place_by-cleared}

get_or_before : (pasts : List RecordSoFar) (past : RecordSoFar) (i : ℕ) (d : RecordSoFar) → i < length pasts → get_or (pasts ++ past ∷ []) i d ≡ get_or pasts i d
get_or_before [] past i d within = absurd (omega arith)
get_or_before (first ∷ pasts) past zero d within = refl
get_or_before (first ∷ pasts) past (suc i) d within = let below : i < length pasts = omega arith in get_or_before pasts past i d below

get_or_last : (pasts : List RecordSoFar) (past : RecordSoFar) (d : RecordSoFar) → get_or (pasts ++ past ∷ []) (length pasts) d ≡ past
get_or_last [] past d = refl
get_or_last (first ∷ pasts) past d = get_or_last pasts past d

module _ (registered : ℕ → ℕ → Option Reg) (content : Shared → TreeLists) where
  -- a record more leaves the flows of the others as they are
  pub IsOpenAt-append : (o : Option Connection) (place : Option ℕ) (pasts : List RecordSoFar) (past : RecordSoFar) → ((i : ℕ) → place ≡ Some i → i < length pasts)
      → IsOpenAt registered content o place pasts → IsOpenAt registered content o place (pasts ++ past ∷ [])
  IsOpenAt-append None place pasts past within none = none
  IsOpenAt-append (Some flow) place pasts past within at =
      (at.0, λ d. subst (λ p. IsOpen registered content flow p) (sym (get_or_before pasts past flow.place d (within flow.place at.0))) (at.1 d))

  with_false : (o : Option ℕ) (n : ℕ) → place_with o false n ≡ o
  with_false None n = refl
  with_false (Some i) n = refl

  -- a record that is no open connection
  pub unopened : (flows after : Flows Connection) (pasts : List RecordSoFar) (past : RecordSoFar) (key : EndpointPair) → is_open_at key past ≡ false → found after key ≡ found flows key
      → IsOpenAt registered content (found flows key) (place_of key pasts) pasts
      → IsOpenAt registered content (found after key) (place_with (place_of key pasts) (is_open_at key past) (length pasts)) (pasts ++ past ∷ [])
  unopened flows after pasts past key shut same at =
      rw (same, shut, with_false) (IsOpenAt-append (found flows key) (place_of key pasts) pasts past (λ i e. place_by-within (is_open_at key) pasts i e) at)

  opened_here : (b : Bool) (o : Option Connection) (place : Option ℕ) (pasts : List RecordSoFar) (past : RecordSoFar) (flow : Connection)
      → flow.place ≡ length pasts → IsOpen registered content flow past
      → (b ≡ true → place ≡ None) → ((i : ℕ) → place ≡ Some i → i < length pasts) → IsOpenAt registered content o place pasts
      → IsOpenAt registered content (if b then Some flow else o) (place_with place b (length pasts)) (pasts ++ past ∷ [])
  opened_here true o place pasts past flow last is none within at =
      rw (none refl) (ap Some (sym last), λ d. subst (λ p. IsOpen registered content flow p) (sym (ap (λ i. get_or (pasts ++ past ∷ []) i d) last ∙ get_or_last pasts past d)) is)
  opened_here false o place pasts past flow last is none within at = rw with_false (IsOpenAt-append o place pasts past within at)

  -- a record that is the open connection of its key, of which none was open
  pub opened : (flows after : Flows Connection) (pasts : List RecordSoFar) (past : RecordSoFar) (flow : Connection) (own key : EndpointPair)
      → is_open_at key past ≡ same_key own key → place_of own pasts ≡ None
      → found after key ≡ (if same_key own key then Some flow else found flows key) → flow.place ≡ length pasts → IsOpen registered content flow past
      → IsOpenAt registered content (found flows key) (place_of key pasts) pasts
      → IsOpenAt registered content (found after key) (place_with (place_of key pasts) (is_open_at key past) (length pasts)) (pasts ++ past ∷ [])
  opened flows after pasts past flow own key own_key absent there last is at =
      rw (there, own_key) (opened_here (same_key own key) (found flows key) (place_of key pasts) pasts past flow last is
      (λ same. subst (λ k. place_of k pasts ≡ None) (same_key-equal own key same) absent) (λ i e. place_by-within (is_open_at key) pasts i e) at)

  -- ---- a connection that goes on

  true_is_not_false : (b : Bool) → b ≡ true → b ≡ false → ⊥
  true_is_not_false true passes fails = cc
  true_is_not_false false passes fails = cc

  -- the flow of another key
  pub kept_flow : (key : EndpointPair) (o : Option Connection) (pasts : List RecordSoFar) (i : ℕ) (past d : RecordSoFar) → i < length pasts
      → is_open_at key (get_or pasts i d) ≡ false → is_open_at key past ≡ false
      → IsOpenAt registered content o (place_of key pasts) pasts → IsOpenAt registered content o (place_of key (set pasts i past)) (set pasts i past)
  kept_flow key None pasts i past d within before after at = place_by-set (is_open_at key) pasts i past d within (after ∙ sym before) ∙ at
  kept_flow key (Some flow) pasts i past d within before after at =
      let same = place_by-set (is_open_at key) pasts i past d within (after ∙ sym before) in
      let other : flow.place ≢ i = λ e. true_is_not_false _ (place_by-passes (is_open_at key) pasts flow.place d at.0) (ap (λ j. is_open_at key (get_or pasts j d)) e ∙ before) in
      (same ∙ at.0, λ e. subst (λ p. IsOpen registered content flow p) (sym (get_or-set_other pasts i flow.place past e other)) (at.1 e))

  -- the flow of the key itself, while its connection is open and once it is over
  pub stepped_flow : (key : EndpointPair) (pasts : List RecordSoFar) (i : ℕ) (past : RecordSoFar) (flow : Connection) → place_of key pasts ≡ Some i
      → is_open_at key past ≡ true → flow.place ≡ i → IsOpen registered content flow past
      → IsOpenAt registered content (Some flow) (place_of key (set pasts i past)) (set pasts i past)
  stepped_flow key pasts i past flow there passes at is =
      let within = place_by-within (is_open_at key) pasts i there in (
        place_by-set (is_open_at key) pasts i past past within (passes ∙ sym (place_by-passes (is_open_at key) pasts i past there)) ∙ there ∙ ap Some (sym at),
        λ d. subst (λ p. IsOpen registered content flow p) (sym (ap (λ j. get_or (set pasts i past) j d) at ∙ get_or-set_same pasts i past d within)) is,
      )

  pub over_flow : (key : EndpointPair) (pasts : List RecordSoFar) (i : ℕ) (past : RecordSoFar) → IsSingle (is_open_at key) pasts → place_of key pasts ≡ Some i → is_open_at key past ≡ false
      → IsOpenAt registered content None (place_of key (set pasts i past)) (set pasts i past)
  over_flow key pasts i past single there fails = place_by-cleared (is_open_at key) pasts i past single there fails
