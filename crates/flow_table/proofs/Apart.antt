-- The two lists of a table, one after the other: what is done to one of them, at a key of its own, is done to the table.
use Rattle.std.proofs.Common.{◌≡◌, Bool, true, false, cond, refl, sym, ap, ◌∙◌, true≢false, List, [], ◌∷◌, ◌++◌, Option, None, Some}
use Rattle.std.specs.FinMap as map
use Rattle.std.specs.Map.{lookup}
use Rattle.std.specs.Global.{Box}
use Rattle.flow_table.specs.Key.{EndpointPair}
use Rattle.flow_table.specs.Pair.{is_ipv4_pair, IsApart}
use Rattle.std.specs.FinMap.{get-empty}
use Rattle.flow_table.specs.Table.{key_cmp, Flows, found, unboxed}
use Rattle.flow_table.specs.contracts.key.KeyPartialEq.TheImpl.{ghosts as ends}
use Rattle.flow_table.proofs.Keys.{eq_key, same_key-equal}
use Rattle.flow_table.proofs.Entries.{held, Differ, found_boxed, inserted_boxed, removed_boxed, lookup_last, none≢some, reflexive}

-- equal keys are of one kind
alike : (key q : EndpointPair) → ends.eq key q ≡ true → is_ipv4_pair q ≡ is_ipv4_pair key
alike key q same = ap is_ipv4_pair (sym (same_key-equal key q (sym (eq_key key q) ∙ same)))

differ_in_kind : (key q : EndpointPair) (b c : Bool) → is_ipv4_pair key ≡ b → is_ipv4_pair q ≡ c → (b ≡ c → ⊥) → ends.eq key q ≡ false
differ_in_kind key q b c of_key of_q differ = by (ends.eq key q) refl
  where
    by : (r : Bool) → ends.eq key q ≡ r → ends.eq key q ≡ false
    by true h = absurd (differ (sym of_key ∙ sym (alike key q h) ∙ of_q))
    by false h = h

false≢true : false ≡ true → ⊥
false≢true e = true≢false (sym e)

module _ {T : Type 0} where
  abbrev or_else : Option (Box T) → Option (Box T) → Option (Box T)
  or_else None s = s
  or_else (Some v) s = Some v

  or_else-none : (r : Option (Box T)) → or_else r None ≡ r
  or_else-none None = refl
  or_else-none (Some v) = refl

  lookup_append : (test : EndpointPair → Bool) (es fs : List (EndpointPair × Box T)) → lookup test (es ++ fs) ≡ or_else (lookup test es) (lookup test fs)
  lookup_append test [] fs = refl
  lookup_append test (e ∷ es) fs = by (test e.0) (lookup_append test es fs)
    where
      by : (b : Bool) → lookup test (es ++ fs) ≡ or_else (lookup test es) (lookup test fs)
          → cond b (Some e.1) (lookup test (es ++ fs)) ≡ or_else (cond b (Some e.1) (lookup test es)) (lookup test fs)
      by true rest = refl
      by false rest = rest

  module _ (pairs flows : List (EndpointPair × Box T)) (apart : IsApart pairs flows) (key : EndpointPair) where
    -- a key is looked up in its own list
    pub among_pairs : is_ipv4_pair key ≡ true → lookup (ends.eq key) (pairs ++ flows) ≡ lookup (ends.eq key) pairs
    among_pairs is = lookup_append (ends.eq key) pairs flows ∙ ap (or_else (lookup (ends.eq key) pairs)) (apart.none key is) ∙ or_else-none (lookup (ends.eq key) pairs)

    pub among_flows : is_ipv4_pair key ≡ false → lookup (ends.eq key) (pairs ++ flows) ≡ lookup (ends.eq key) flows
    among_flows is = lookup_append (ends.eq key) pairs flows ∙ ap (λ r. or_else r (lookup (ends.eq key) flows)) (apart.only key is)

    -- the lists stay apart
    pub apart_by_pairs : (after : List (EndpointPair × Box T)) (r : Option (Box T)) → is_ipv4_pair key ≡ true → Differ pairs after key r → IsApart after flows
    apart_by_pairs after r is h = record {
      only = λ q other. h q ∙ ap (λ b. cond b r (lookup (ends.eq q) pairs)) (differ_in_kind key q true false is other true≢false) ∙ apart.only q other;
      none = apart.none;
    }

    pub apart_by_flows : (after : List (EndpointPair × Box T)) (r : Option (Box T)) → is_ipv4_pair key ≡ false → Differ flows after key r → IsApart pairs after
    apart_by_flows after r is h = record {
      only = apart.only;
      none = λ q other. h q ∙ ap (λ b. cond b r (lookup (ends.eq q) flows)) (differ_in_kind key q false true is other false≢true) ∙ apart.none q other;
    }

  module _ (pairs flows : List (EndpointPair × Box T)) (apart : IsApart pairs flows) (key : EndpointPair) where
    pub differ_by_pairs : (after : List (EndpointPair × Box T)) (r : Option (Box T)) → is_ipv4_pair key ≡ true → Differ pairs after key r
        → Differ (pairs ++ flows) (after ++ flows) key r
    differ_by_pairs after r is h q = by (is_ipv4_pair q) refl
      where
        after_apart : IsApart after flows
        after_apart = apart_by_pairs pairs flows apart key after r is h

        by : (b : Bool) → is_ipv4_pair q ≡ b → lookup (ends.eq q) (after ++ flows) ≡ cond (ends.eq key q) r (lookup (ends.eq q) (pairs ++ flows))
        by true e = among_pairs after flows after_apart q e ∙ h q ∙ ap (cond (ends.eq key q) r) (sym (among_pairs pairs flows apart q e))
        by false e = among_flows after flows after_apart q e ∙ sym (among_flows pairs flows apart q e)
            ∙ ap (λ b. cond b r (lookup (ends.eq q) (pairs ++ flows))) (sym (differ_in_kind key q true false is e true≢false))

    pub differ_by_flows : (after : List (EndpointPair × Box T)) (r : Option (Box T)) → is_ipv4_pair key ≡ false → Differ flows after key r
        → Differ (pairs ++ flows) (pairs ++ after) key r
    differ_by_flows after r is h q = by (is_ipv4_pair q) refl
      where
        after_apart : IsApart pairs after
        after_apart = apart_by_flows pairs flows apart key after r is h

        by : (b : Bool) → is_ipv4_pair q ≡ b → lookup (ends.eq q) (pairs ++ after) ≡ cond (ends.eq key q) r (lookup (ends.eq q) (pairs ++ flows))
        by true e = among_pairs pairs after after_apart q e ∙ sym (among_pairs pairs flows apart q e)
            ∙ ap (λ b. cond b r (lookup (ends.eq q) (pairs ++ flows))) (sym (differ_in_kind key q false true is e false≢true))
        by false e = among_flows pairs after after_apart q e ∙ h q ∙ ap (cond (ends.eq key q) r) (sym (among_flows pairs flows apart q e))

    -- what a key has in its list, it has in the table
    pub found_in_pairs : is_ipv4_pair key ≡ true → found (map.from_entries (unboxed (pairs ++ flows))) key ≡ held (lookup (ends.eq key) pairs)
    found_in_pairs is = found_boxed (pairs ++ flows) key ∙ ap held (among_pairs pairs flows apart key is)

    pub found_in_flows : is_ipv4_pair key ≡ false → found (map.from_entries (unboxed (pairs ++ flows))) key ≡ held (lookup (ends.eq key) flows)
    found_in_flows is = found_boxed (pairs ++ flows) key ∙ ap held (among_flows pairs flows apart key is)

    -- a key that goes into its list, or out of it, goes into the table, or out of it
    pub inserted_in_pairs : (after : List (EndpointPair × Box T)) (box : Box T) → is_ipv4_pair key ≡ true → Differ pairs after key (Some box)
        → map.from_entries {R = key_cmp} (unboxed (after ++ flows)) ≡ map.insert (map.from_entries (unboxed (pairs ++ flows))) key box.value
    inserted_in_pairs after box is h = inserted_boxed (pairs ++ flows) (after ++ flows) key box (differ_by_pairs after (Some box) is h)

    pub inserted_in_flows : (after : List (EndpointPair × Box T)) (box : Box T) → is_ipv4_pair key ≡ false → Differ flows after key (Some box)
        → map.from_entries {R = key_cmp} (unboxed (pairs ++ after)) ≡ map.insert (map.from_entries (unboxed (pairs ++ flows))) key box.value
    inserted_in_flows after box is h = inserted_boxed (pairs ++ flows) (pairs ++ after) key box (differ_by_flows after (Some box) is h)

    pub removed_in_pairs : (after : List (EndpointPair × Box T)) → is_ipv4_pair key ≡ true → Differ pairs after key None
        → map.from_entries {R = key_cmp} (unboxed (after ++ flows)) ≡ map.remove (map.from_entries (unboxed (pairs ++ flows))) key
    removed_in_pairs after is h = removed_boxed (pairs ++ flows) (after ++ flows) key (differ_by_pairs after None is h)

    pub removed_in_flows : (after : List (EndpointPair × Box T)) → is_ipv4_pair key ≡ false → Differ flows after key None
        → map.from_entries {R = key_cmp} (unboxed (pairs ++ after)) ≡ map.remove (map.from_entries (unboxed (pairs ++ flows))) key
    removed_in_flows after is h = removed_boxed (pairs ++ flows) (pairs ++ after) key (differ_by_flows after None is h)

  -- the key of the last entry finds it, where no other entry has the key
  pub last_is_found : (es fs : List (EndpointPair × Box T)) (e : EndpointPair × Box T) → es ≡ fs ++ e ∷ [] → lookup (ends.eq e.0) fs ≡ None → lookup (ends.eq e.0) es ≡ Some e.1
  last_is_found es fs e split none = ap (lookup (ends.eq e.0)) split ∙ lookup_last (ends.eq e.0) fs e none (reflexive e.0)

  -- what stands in the list of the others is no pair of IPv4
  pub other_than_pairs : (pairs flows : List (EndpointPair × Box T)) → IsApart pairs flows → (key : EndpointPair) (box : Box T) → lookup (ends.eq key) flows ≡ Some box → is_ipv4_pair key ≡ false
  other_than_pairs pairs flows apart key box there = by (is_ipv4_pair key) refl
    where
      by : (b : Bool) → is_ipv4_pair key ≡ b → is_ipv4_pair key ≡ false
      by true h = absurd (none≢some box (sym (apart.none key h) ∙ there))
      by false h = h

  pub without_last : (es fs : List (EndpointPair × Box T)) → es ≡ fs ++ [] → fs ≡ es
  without_last es fs h = appended fs ∙ sym h
    where
      appended : (xs : List (EndpointPair × Box T)) → xs ≡ xs ++ []
      appended [] = refl
      appended (x ∷ xs) = ap (λ (ys : List (EndpointPair × Box T)). x ∷ ys) (appended xs)

  -- a table where a key is found isn't empty
  pub some_key : (table : Flows T) (key : EndpointPair) (v : T) → found table key ≡ Some v → table ≡ map.empty → ⊥
  some_key table key v there empty = none≢some v (sym (get-empty key_cmp key) ∙ ap (λ m. found m key) (sym empty) ∙ there)
