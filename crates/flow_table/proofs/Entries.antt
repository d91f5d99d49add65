-- A flow table's entries, read as a finite map.
use Rattle.std.proofs.Common.{◌≡◌, ◌+◌, ◌-◌, ℕ, zero, suc, Bool, true, false, cond, refl, sym, ap, ◌∙◌, true≢false, List, [], ◌∷◌, ◌++◌, Option, None, Some, is_some, arith}
use Rattle.std.specs.FinMap as map
use Rattle.std.specs.Option.{option_map}
use Rattle.std.specs.FinMap.{find, get-empty, get-insert, get-remove, get-from_entries, len-insert, len-remove, empty_of_len, same_map}
use Rattle.std.specs.Ordering.{eq_by_cmp}
use Rattle.std.proofs.lemmas.Cmp.{eq_by_cmp_equiv}
use Rattle.std.specs.Map.{lookup}
use Rattle.flow_table.specs.Key.{EndpointPair, same_key}
use Rattle.std.specs.Global.{Box}
use Rattle.std.specs.Box.{with_value}
use Rattle.flow_table.specs.Table.{key_cmp, Flows, found, Rewrites, unboxed}
use Rattle.flow_table.specs.contracts.key.KeyPartialEq.TheImpl.{ghosts as ends}
use Rattle.flow_table.proofs.Keys.{keys_total, exact_keys, ties_key, eq_key}

-- the order's ties, in either order, and the test of two keys
tied : (a b : EndpointPair) → eq_by_cmp key_cmp b a ≡ same_key a b
tied a b = (eq_by_cmp_equiv keys_total).symm b a ∙ ties_key a b

pub reflexive : (key : EndpointPair) → ends.eq key key ≡ true
reflexive key = eq_key key key ∙ sym (ties_key key key) ∙ (eq_by_cmp_equiv keys_total).refl key

module _ {T : Type 0} where
  find_lookup : (es : List (EndpointPair × T)) (key : EndpointPair) → find key_cmp key es ≡ lookup (ends.eq key) es
  find_lookup [] key = refl
  find_lookup (e ∷ es) key = λ i. cond ((ties_key key e.0 ∙ sym (eq_key key e.0)) i) (Some e.1) (find_lookup es key i)

  -- what the map that the entries make has at a key
  found_is : (es : List (EndpointPair × T)) (key : EndpointPair) → found (map.from_entries es) key ≡ lookup (ends.eq key) es
  found_is es key = get-from_entries keys_total es key ∙ find_lookup es key

  pub found-insert : (flows : Flows T) (key : EndpointPair) (value : T) (other : EndpointPair) → found (map.insert flows key value) other ≡ cond (same_key key other) (Some value) (found flows other)
  found-insert flows key value other = get-insert keys_total flows key value other ∙ ap (λ b. cond b (Some value) (found flows other)) (tied key other)

  pub found-remove : (flows : Flows T) (key other : EndpointPair) → found (map.remove flows key) other ≡ cond (same_key key other) None (found flows other)
  found-remove flows key other = get-remove keys_total flows key other ∙ ap (λ b. cond b None (found flows other)) (tied key other)

  pub len-opened : (flows : Flows T) (key : EndpointPair) (value : T) → found flows key ≡ None → map.len (map.insert flows key value) ≡ map.len flows + 1
  len-opened flows key value absent = len-insert keys_total flows key value ∙ ap (λ o. cond (is_some o) (map.len flows) (map.len flows + 1)) absent

  -- entries that differ from others at one key make maps that differ there
  inserted : (es fs : List (EndpointPair × T)) (key : EndpointPair) (value : T)
      → ((q : EndpointPair) → lookup (ends.eq q) fs ≡ cond (ends.eq key q) (Some value) (lookup (ends.eq q) es))
      → map.from_entries {R = key_cmp} fs ≡ map.insert (map.from_entries es) key value
  inserted es fs key value h = same_map keys_total exact_keys _ _ (λ q.
      found_is fs q ∙ h q ∙ (λ i. cond (eq_key key q i) (Some value) (sym (found_is es q) i)) ∙ sym (found-insert (map.from_entries es) key value q))

  removed : (es fs : List (EndpointPair × T)) (key : EndpointPair)
      → ((q : EndpointPair) → lookup (ends.eq q) fs ≡ cond (ends.eq key q) None (lookup (ends.eq q) es)) → map.from_entries {R = key_cmp} fs ≡ map.remove (map.from_entries es) key
  removed es fs key h = same_map keys_total exact_keys _ _ (λ q.
      found_is fs q ∙ h q ∙ (λ i. cond (eq_key key q i) None (sym (found_is es q) i)) ∙ sym (found-remove (map.from_entries es) key q))

  pub none≢some : (v : T) → None ≡ Some v → ⊥
  none≢some v e = true≢false (sym (ap is_some e))

  -- the map is one smaller without a key that was there
  pub len-closed : (flows : Flows T) (key : EndpointPair) (v : T) → found flows key ≡ Some v → map.len (map.remove flows key) + 1 ≡ map.len flows
  len-closed flows key v there =
      let less : map.len (map.remove flows key) ≡ map.len flows - 1 =
      len-remove keys_total flows key ∙ ap (λ o. cond (is_some o) (map.len flows - 1) (map.len flows)) there in
      by (map.len flows) refl less
    where
      by : (n : ℕ) → map.len flows ≡ n → map.len (map.remove flows key) ≡ map.len flows - 1 → map.len (map.remove flows key) + 1 ≡ map.len flows
      by zero e less = absurd (none≢some v (sym (get-empty key_cmp key) ∙ ap (λ m. found m key) (sym (empty_of_len flows e)) ∙ there))
      by (suc n) e less = omega arith

  pub lookup_last : (test : EndpointPair → Bool) (es : List (EndpointPair × T)) (e : EndpointPair × T) → lookup test es ≡ None → test e.0 ≡ true → lookup test (es ++ e ∷ []) ≡ Some e.1
  lookup_last test [] e none last = ap (λ b. cond b (Some e.1) None) last
  lookup_last test (d ∷ es) e none last = by (test d.0) refl (λ rest. lookup_last test es e rest last)
    where
      by : (b : Bool) → test d.0 ≡ b → (lookup test es ≡ None → lookup test (es ++ e ∷ []) ≡ Some e.1) → cond (test d.0) (Some d.1) (lookup test (es ++ e ∷ [])) ≡ Some e.1
      by true h later = absurd (none≢some d.1 (sym none ∙ ap (λ b. cond b (Some d.1) (lookup test es)) h))
      by false h later = ap (λ b. cond b (Some d.1) (lookup test (es ++ e ∷ []))) h
          ∙ later (sym (ap (λ b. cond b (Some d.1) (lookup test es)) h) ∙ none)

module _ {T : Type 0} where
  -- what a box holds, where there is one
  abbrev pub held : Option (Box T) → Option T
  held r = option_map (λ b. b.value) r

  held_cond : (b : Bool) (r s : Option (Box T)) → held (cond b r s) ≡ cond b (held r) (held s)
  held_cond true r s = refl
  held_cond false r s = refl

  lookup_unboxed : (test : EndpointPair → Bool) (es : List (EndpointPair × Box T)) → lookup test (unboxed es) ≡ held (lookup test es)
  lookup_unboxed test [] = refl
  lookup_unboxed test (e ∷ es) = ap (cond (test e.0) (Some e.1.value)) (lookup_unboxed test es) ∙ sym (held_cond (test e.0) (Some e.1) (lookup test es))

  -- entries whose boxes differ from others at one key
  abbrev pub Differ : List (EndpointPair × Box T) → List (EndpointPair × Box T) → EndpointPair → Option (Box T) → Type 0
  Differ es fs key r = (q : EndpointPair) → lookup (ends.eq q) fs ≡ cond (ends.eq key q) r (lookup (ends.eq q) es)

  differ_unboxed : (es fs : List (EndpointPair × Box T)) (key : EndpointPair) (r : Option (Box T)) → Differ es fs key r
      → (q : EndpointPair) → lookup (ends.eq q) (unboxed fs) ≡ cond (ends.eq key q) (held r) (lookup (ends.eq q) (unboxed es))
  differ_unboxed es fs key r h q = lookup_unboxed (ends.eq q) fs ∙ ap held (h q) ∙ held_cond (ends.eq key q) r (lookup (ends.eq q) es)
      ∙ ap (cond (ends.eq key q) (held r)) (sym (lookup_unboxed (ends.eq q) es))

  pub found_boxed : (es : List (EndpointPair × Box T)) (key : EndpointPair) → found (map.from_entries (unboxed es)) key ≡ held (lookup (ends.eq key) es)
  found_boxed es key = found_is (unboxed es) key ∙ lookup_unboxed (ends.eq key) es

  pub inserted_boxed : (es fs : List (EndpointPair × Box T)) (key : EndpointPair) (box : Box T) → Differ es fs key (Some box)
      → map.from_entries {R = key_cmp} (unboxed fs) ≡ map.insert (map.from_entries (unboxed es)) key box.value
  inserted_boxed es fs key box h = inserted (unboxed es) (unboxed fs) key box.value (differ_unboxed es fs key (Some box) h)

  pub removed_boxed : (es fs : List (EndpointPair × Box T)) (key : EndpointPair) → Differ es fs key None
      → map.from_entries {R = key_cmp} (unboxed fs) ≡ map.remove (map.from_entries (unboxed es)) key
  removed_boxed es fs key h = removed (unboxed es) (unboxed fs) key (differ_unboxed es fs key None h)

  -- a write into the box of a key puts the value at the key
  pub written : (box : Box T) (es fs : List (EndpointPair × Box T)) (key : EndpointPair) (w : T)
      → Some box ≡ lookup (ends.eq key) es → Differ es fs key (Some (with_value box w))
      → Rewrites (map.from_entries {R = key_cmp} (unboxed es)) (map.from_entries (unboxed fs)) key w
  written box es fs key w there updates =
      let flows : map.from_entries {R = key_cmp} (unboxed fs) ≡ map.insert (map.from_entries (unboxed es)) key w = inserted_boxed es fs key (with_value box w) updates in
      record {
        flows = flows;
        found = λ other. ap (λ m. found m other) flows ∙ found-insert (map.from_entries (unboxed es)) key w other;
        len = ap (λ m. map.len m) flows ∙ len-insert keys_total (map.from_entries (unboxed es)) key w
            ∙ ap (λ (o : Option T). cond (is_some o) (map.len {R = key_cmp} (map.from_entries (unboxed es))) (map.len {R = key_cmp} (map.from_entries (unboxed es)) + 1))
            (found_boxed es key ∙ ap held (sym there));
      }
