-- The rows of a store before and after a tree is put in.
use Rattle.std.proofs.Common.{◌≡◌, Bool, true, false, List, [], ◌∷◌, ◌++◌, get_or, Contains, refl, sym, ap, ◌∙◌, true≢false, if◌then◌else◌}
use Rattle.std.specs.List.{list_any, IsDistinct}
use Rattle.std.proofs.lemmas.Map.Keys.{apart_from_distinct}
use Rattle.std.proofs.lemmas.Map.Views.{list_any-from_Contains, Contains-from_any}
use Rattle.indexmap.specs.IndexSet.{insert_key}
use Rattle.shared_forest.specs.Lists.{TreeLists}
use Rattle.shared_forest.specs.Rows.{AreDifferent}
use Rattle.shared_forest.specs.Key.{same_tree}
use Rattle.shared_forest.specs.KeyLaws.{same_tree-Decides, same_tree-equiv}

-- rows that the test finds different are different
pub different : (rows : List TreeLists) → IsDistinct same_tree rows → AreDifferent rows
different rows distinct = λ i j d before within e.
    true≢false (sym (same_tree-equiv.refl (get_or rows j d)) ∙ ap (λ t. same_tree t (get_or rows j d)) (sym e) ∙ apart_from_distinct same_tree rows i j d distinct before within)

module _ (rows : List TreeLists) (tree : TreeLists) where
  pub held : Contains rows tree → list_any (same_tree tree) rows ≡ true
  held there = list_any-from_Contains same_tree-equiv tree rows there

  -- a tree that is there leaves the rows
  pub rows_if_held : Contains rows tree → insert_key same_tree rows tree ≡ rows
  rows_if_held there = ap (λ b. if b then rows else rows ++ tree ∷ []) (held there)

  -- another one goes last
  pub rows_if_new : ¬ (Contains rows tree) → insert_key same_tree rows tree ≡ rows ++ tree ∷ []
  rows_if_new absent = by (list_any (same_tree tree) rows) refl
    where
      by : (b : Bool) → list_any (same_tree tree) rows ≡ b → (if b then rows else rows ++ tree ∷ []) ≡ rows ++ tree ∷ []
      by true e = absurd (absent (Contains-from_any (λ a b. (same_tree-Decides a b).0) tree rows e))
      by false e = refl
