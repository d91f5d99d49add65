-- What the rows say of the definitions.
use Rattle.std.proofs.Common.{◌≡◌, ℕ, ◌≤◌, Bool, true, false, cond, eqb, List, [], ◌∷◌, ◌++◌, length, Option, Some, None, refl, sym, ap, subst, ◌∙◌, arith, ⊎_elim, append-nil, append_assoc}
use Rattle.std.specs.Prelude.{◌≢◌, IsTrue}
use Rattle.std.specs.Option.{option_map}
use Rattle.std.specs.List.{AllByRecursion}
use Rattle.std.proofs.lemmas.Bool.Decides.{eqb_tells}
use Rattle.event_trees.specs.declared.defs.EventDef.{EventDef}
use Rattle.event_trees.specs.declared.defs.Row.{Row}
use Rattle.event_trees.specs.EventPath.{path_of}
use Rattle.event_trees.specs.Defs.{found, is_event, path, IsAddable, AreAddable}
use Rattle.event_trees.specs.Rows.{defs_of, row_of, HavePaths, AreRows}
use Rattle.event_trees.proofs.Paths.{KnowsPaths, knows, IsRooted, path-unfound, path-push_same, path-push_other}

pub found-rows : (rows : List Row) (event : ℕ) → found (defs_of rows) event ≡ option_map (λ r. r.def) (row_of rows event)
found-rows [] event = refl
found-rows (r ∷ rs) event =
    elim (eqb r.def.number event) as (λ b. cond b (Some r.def) (found (defs_of rs) event) ≡ option_map (λ x. x.def) (cond b (Some r) (row_of rs event))) [
      | true ↦ refl
      | false ↦ found-rows rs event
    ]

pub found-some : (rows : List Row) (defs : List EventDef) (event : ℕ) (r : Row) → defs_of rows ≡ defs → Some r ≡ row_of rows event → Some r.def ≡ found defs event
found-some rows defs event r same is = ap (λ (o : Option Row). option_map (λ (x : Row). x.def) o) is ∙ (sym (found-rows rows event) ∙ ap (λ (l : List EventDef). found l event) same)

pub found-none : (rows : List Row) (defs : List EventDef) (event : ℕ) → defs_of rows ≡ defs → None ≡ row_of rows event → None ≡ found defs event
found-none rows defs event same is = ap (λ (o : Option Row). option_map (λ (x : Row). x.def) o) is ∙ (sym (found-rows rows event) ∙ ap (λ (l : List EventDef). found l event) same)

held-path : (defs : List EventDef) (rows : List Row) (event : ℕ) (r : Row) → HavePaths defs rows → row_of rows event ≡ Some r → path_of r.path ≡ path defs event
held-path defs [] event r h is = cc
held-path defs (s ∷ rs) event r h is =
    ⊎_elim (λ t. let e : Some s ≡ Some r = sym (ap (λ (b : Bool). cond b (Some s) (row_of rs event)) t.0) ∙ is in
    let same : s ≡ r = cc in
    subst (λ (x : Row). path_of x.path ≡ path defs event) same (h.0 ∙ ap (path defs) t.1))
    (λ t. held-path defs rs event r h.1 (sym (ap (λ (b : Bool). cond b (Some s) (row_of rs event)) t.0) ∙ is)) (eqb_tells s.def.number event)

pub row-path : (rows : List Row) (defs : List EventDef) (event : ℕ) (r : Row) → defs_of rows ≡ defs → AreRows rows → Some r ≡ row_of rows event → path_of r.path ≡ path defs event
row-path rows defs event r same are is = subst (λ (l : List EventDef). path_of r.path ≡ path l event) same (held-path (defs_of rows) rows event r are.paths (sym is))

pub no-row_path : (rows : List Row) (defs : List EventDef) (event : ℕ) → defs_of rows ≡ defs → None ≡ row_of rows event → path defs event ≡ event ∷ []
no-row_path rows defs event same is = path-unfound defs event (sym (found-none rows defs event same is))

pub knows_rows : (rows : List Row) (defs : List EventDef) → defs_of rows ≡ defs → AreRows rows → KnowsPaths defs
knows_rows rows defs same are = subst KnowsPaths same (knows (defs_of rows) are.addable)

rooted-long : (defs : List EventDef) (p : List ℕ) → IsRooted defs p → 1 ≤ length p
rooted-long defs [] h = absurd h
rooted-long defs (r ∷ es) h = omega arith

pub path-long : (defs : List EventDef) (event : ℕ) → KnowsPaths defs → IsTrue (is_event defs event) → 1 ≤ length (path defs event)
path-long defs event k h = rooted-long defs (path defs event) (k.rooted event h)

pub defs_of-push : (rows : List Row) (r : Row) → defs_of (rows ++ r ∷ []) ≡ defs_of rows ++ r.def ∷ []
defs_of-push [] r = refl
defs_of-push (s ∷ rs) r = ap (λ (l : List EventDef). s.def ∷ l) (defs_of-push rs r)

addable-push : (before ds : List EventDef) (d : EventDef) → AreAddable before ds → IsAddable (before ++ ds) d → AreAddable before (ds ++ d ∷ [])
addable-push before [] d are is = (subst (λ (l : List EventDef). IsAddable l d) (append-nil before) is, tt)
addable-push before (c ∷ cs) d are is = (are.0, addable-push (before ++ c ∷ []) cs d are.1 (subst (λ (l : List EventDef). IsAddable l d) (sym (append_assoc before (c ∷ []) cs)) is))

-- the number of a row is found, so a number that isn't found is no row's
pub none-rows : (rows : List Row) (event : ℕ) → found (defs_of rows) event ≡ None → AllByRecursion (λ r. event ≢ r.def.number) rows
none-rows [] event h = tt
none-rows (r ∷ rs) event h =
    ⊎_elim (λ t. let e : Some r.def ≡ None = sym (ap (λ (b : Bool). cond b (Some r.def) (found (defs_of rs) event)) t.0) ∙ h in cc)
    (λ t. (λ e. t.1 (sym e), none-rows rs event (sym (ap (λ (b : Bool). cond b (Some r.def) (found (defs_of rs) event)) t.0) ∙ h))) (eqb_tells r.def.number event)

paths-kept : (defs : List EventDef) (d : EventDef) (rows : List Row) → AllByRecursion (λ r. d.number ≢ r.def.number) rows → HavePaths defs rows → HavePaths (defs ++ d ∷ []) rows
paths-kept defs d [] other h = tt
paths-kept defs d (r ∷ rs) other h = (h.0 ∙ sym (path-push_other defs d r.def.number other.0), paths-kept defs d rs other.1 h.1)

paths-push : (defs : List EventDef) (rows : List Row) (r : Row) → HavePaths defs rows → path_of r.path ≡ path defs r.def.number → HavePaths defs (rows ++ r ∷ [])
paths-push defs [] r h is = (is, tt)
paths-push defs (s ∷ rs) r h is = (h.0, paths-push defs rs r h.1 is)

pub rows-push : (rows : List Row) (r : Row) → AreRows rows → IsAddable (defs_of rows) r.def → path_of r.path ≡ path (defs_of rows) r.def.parent ++ r.def.number ∷ [] → AreRows (rows ++ r ∷ [])
rows-push rows r are is held =
    let more : List EventDef = defs_of rows ++ r.def ∷ [] in
    let new : path_of r.path ≡ path more r.def.number = held ∙ sym (path-push_same (defs_of rows) r.def) in
    let old : HavePaths more rows = paths-kept (defs_of rows) r.def rows (none-rows rows r.def.number is.absent) are.paths in
    record {
      addable = subst (λ (l : List EventDef). AreAddable [] l) (sym (defs_of-push rows r)) (addable-push [] (defs_of rows) r.def are.addable is);
      paths = subst (λ (l : List EventDef). HavePaths l (rows ++ r ∷ [])) (sym (defs_of-push rows r)) (paths-push more rows r old new);
    }

pub rows-push_at : (rows : List Row) (defs : List EventDef) (r : Row) → defs_of rows ≡ defs → AreRows rows → IsAddable defs r.def
    → path_of r.path ≡ path defs r.def.parent ++ r.def.number ∷ [] → AreRows (rows ++ r ∷ [])
rows-push_at rows defs r same are is held =
    rows-push rows r are (subst (λ (l : List EventDef). IsAddable l r.def) (sym same) is) (subst (λ (l : List EventDef). path_of r.path ≡ path l r.def.parent ++ r.def.number ∷ []) (sym same) held)
