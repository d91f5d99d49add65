-- The entries of the map of names, read as a finite map.
use Rattle.std.proofs.Common.{◌≡◌, ℕ, refl, sym, ap, ◌∙◌, cond, List, [], ◌∷◌, None, Some}
use Rattle.std.specs.FinMap as map
use Rattle.std.specs.FinMap.{find, get-insert, get-remove, get-from_entries, same_map, nat_cmp-IsAntisymmetric}
use Rattle.std.specs.Cmp.{nat_cmp_total}
use Rattle.std.specs.Ordering.{nat_cmp, eq_by_cmp}
use Rattle.std.proofs.lemmas.Cmp.{eq_by_cmp_equiv}
use Rattle.std.specs.BTreeMap.{BTreeMap, get, is_at}
use Rattle.std.specs.Map.{lookup}
use Rattle.flow_timers.specs.declared.book.Noted.{Noted}

tied : (a b : ℕ) → eq_by_cmp nat_cmp a b ≡ eq_by_cmp nat_cmp b a
tied a b = (eq_by_cmp_equiv nat_cmp_total).symm a b

find_lookup : (es : List (ℕ × Noted)) (name : ℕ) → find nat_cmp name es ≡ lookup (is_at (nat_cmp name)) es
find_lookup [] name = refl
find_lookup (e ∷ es) name = ap (cond (eq_by_cmp nat_cmp name e.0) (Some e.1)) (find_lookup es name)

-- what the map that the entries make has at a name
pub found_is : (m : BTreeMap ℕ Noted) (name : ℕ) → map.get {R = nat_cmp} (map.from_entries m.entries) name ≡ get nat_cmp m name
found_is m name = get-from_entries nat_cmp_total m.entries name ∙ find_lookup m.entries name

-- maps that differ at one name
pub inserted : (m n : BTreeMap ℕ Noted) (name : ℕ) (noted : Noted)
    → ((q : ℕ) → get nat_cmp n q ≡ cond (eq_by_cmp nat_cmp name q) (Some noted) (get nat_cmp m q))
    → map.from_entries {R = nat_cmp} n.entries ≡ map.insert (map.from_entries m.entries) name noted
inserted m n name noted h = same_map nat_cmp_total nat_cmp-IsAntisymmetric _ _ (λ q.
    found_is n q ∙ h q ∙ (λ i. cond (tied name q i) (Some noted) (sym (found_is m q) i))
    ∙ sym (get-insert nat_cmp_total (map.from_entries m.entries) name noted q))

pub removed : (m n : BTreeMap ℕ Noted) (name : ℕ)
    → ((q : ℕ) → get nat_cmp n q ≡ cond (eq_by_cmp nat_cmp name q) None (get nat_cmp m q))
    → map.from_entries {R = nat_cmp} n.entries ≡ map.remove (map.from_entries m.entries) name
removed m n name h = same_map nat_cmp_total nat_cmp-IsAntisymmetric _ _ (λ q.
    found_is n q ∙ h q ∙ (λ i. cond (tied name q i) None (sym (found_is m q) i))
    ∙ sym (get-remove nat_cmp_total (map.from_entries m.entries) name q))
