-- The paths of a listing are no longer than those of the list.
use Rattle.std.proofs.Common.{ℕ, ◌+◌, ◌≤◌, List, [], ◌∷◌, ◌++◌, length, sym, subst, arith}
use Rattle.std.specs.Prelude.{IsTrue}
use Rattle.std.specs.List.{AllByRecursion}
use Rattle.std.proofs.lemmas.List.{length_push}
use Rattle.app_api.specs.declared.registration.Reg.{Reg}
use Rattle.event_trees.specs.declared.defs.EventDef.{EventDef}
use Rattle.event_trees.specs.Defs.{is_event}
use Rattle.event_trees.specs.Canon.{Placed, longer, prefixes, put_path, put_paths, paths_with, shown_at, canon_of, placed}
use Rattle.event_trees.specs.ReadOff.{AreShort}
use Rattle.event_trees.proofs.Paths.{KnowsPaths}
use Rattle.event_trees.proofs.Order.{by_order, put-less, put-equal, put-greater}

abbrev AllShort : List (List ℕ) → Type 0
AllShort ps = AllByRecursion (λ p. length p ≤ 8) ps

short-put : (p : List ℕ) (ps : List (List ℕ)) → AllShort ps → length p ≤ 8 → AllShort (put_path p ps)
short-put p [] all h = (h, tt)
short-put p (x ∷ xs) all h =
    by_order p x (λ o. subst AllShort (sym (put-less p x xs o)) (h, all))
    (λ o i. subst AllShort (sym (put-equal p x xs o)) all)
    (λ o i. subst AllShort (sym (put-greater p x xs o)) (all.0, short-put p xs all.1 h))

short-puts : (ps qs : List (List ℕ)) → AllShort qs → AllShort ps → AllShort (put_paths ps qs)
short-puts [] qs all h = all
short-puts (p ∷ ps) qs all h = short-puts ps (put_path p qs) (short-put p qs all h.0) h.1

short-longer : (front es : List ℕ) → length front + length es ≤ 8 → AllShort (longer front es)
short-longer front [] h = tt
short-longer front (e ∷ es) h = (omega (arith, length_push front e), short-longer (front ++ e ∷ []) es (omega (arith, length_push front e)))

short-with : (ps : List (List ℕ)) (list : List Placed) → AllShort ps → AllByRecursion (λ r. length r.path ≤ 8) list → AllShort (paths_with ps list)
short-with ps [] all h = all
short-with ps (r ∷ list) all h = short-with (put_paths (prefixes r.path) ps) list (short-puts (prefixes r.path) ps all (short-longer [] r.path (omega (arith, h.0)))) h.1

short-shown : (list : List Placed) (ps : List (List ℕ)) → AllShort ps → AreShort (shown_at list ps)
short-shown list [] all = tt
short-shown list (p ∷ ps) all = (all.0, short-shown list ps all.1)

pub short-canon_of : (list : List Placed) → AllByRecursion (λ r. length r.path ≤ 8) list → AreShort (canon_of list)
unfolding canon_of
short-canon_of list h = short-shown list (paths_with ([] ∷ []) list) (short-with ([] ∷ []) list (omega arith, tt) h)

pub short-placed : (defs : List EventDef) (list : List Reg) → KnowsPaths defs → AllByRecursion (λ r. IsTrue (is_event defs r.event)) list → AllByRecursion (λ r. length r.path ≤ 8) (placed defs list)
short-placed defs [] k h = tt
short-placed defs (r ∷ list) k h = (k.short r.event h.0, short-placed defs list k h.1)
