-- What a definition more does to look-ups and paths.
use Rattle.std.proofs.Common.{◌≡◌, ℕ, ◌≤◌, Bool, true, false, cond, eqb, List, [], ◌∷◌, ◌++◌, length, Option, Some, None, refl, sym, ap, subst, ◌∙◌, arith, append_assoc, append-nil}
use Rattle.std.specs.Prelude.{◌≢◌, IsTrue, ◌||◌, is_some}
use Rattle.std.specs.List.{fold, AllByRecursion}
use Rattle.std.proofs.Common.{⊎_elim}
use Rattle.std.proofs.lemmas.List.{length_push}
use Rattle.std.proofs.lemmas.Bool.Decides.{nat_tests, eqb_tells}
use Rattle.event_trees.specs.declared.defs.EventDef.{EventDef}
use Rattle.event_trees.specs.Defs.{found, is_root, is_event, defining, path, IsAddable, AreAddable}

eqb_same : (n : ℕ) → eqb n n ≡ true
eqb_same n = grind (arith, nat_tests)

eqb_other : (m n : ℕ) → m ≢ n → eqb m n ≡ false
eqb_other m n h = grind (arith, nat_tests, h)

-- the path under a fold that begins with other paths
folded-unfound : (paths : ℕ → List ℕ) (defs : List EventDef) (event : ℕ) → found defs event ≡ None → fold defining paths defs event ≡ paths event
folded-unfound paths [] event h = refl
folded-unfound paths (d ∷ ds) event h =
    elim (eqb d.number event) as (λ b. cond b (Some d) (found ds event) ≡ None
    → (defining paths d event ≡ cond b (paths d.parent ++ event ∷ []) (paths event)) → fold defining (defining paths d) ds event ≡ paths event) [
      | true ↦ λ e s. cc
      | false ↦ λ e s. folded-unfound (defining paths d) ds event e ∙ s
    ] h refl

pub path-unfound : (defs : List EventDef) (event : ℕ) → found defs event ≡ None → path defs event ≡ event ∷ []
unfolding path
path-unfound defs event h = folded-unfound (λ e. e ∷ []) defs event h

folded-push : (paths : ℕ → List ℕ) (defs : List EventDef) (d : EventDef) (event : ℕ) → fold defining paths (defs ++ d ∷ []) event ≡ defining (fold defining paths defs) d event
folded-push paths [] d event = refl
folded-push paths (c ∷ cs) d event = folded-push (defining paths c) cs d event

pub path-push : (defs : List EventDef) (d : EventDef) (event : ℕ) → path (defs ++ d ∷ []) event ≡ defining (path defs) d event
unfolding path
path-push defs d event = folded-push (λ e. e ∷ []) defs d event

pub path-push_same : (defs : List EventDef) (d : EventDef) → path (defs ++ d ∷ []) d.number ≡ path defs d.parent ++ d.number ∷ []
path-push_same defs d = path-push defs d d.number ∙ ap (λ (b : Bool). cond b (path defs d.parent ++ d.number ∷ []) (path defs d.number)) (eqb_same d.number)

pub path-push_other : (defs : List EventDef) (d : EventDef) (event : ℕ) → d.number ≢ event → path (defs ++ d ∷ []) event ≡ path defs event
path-push_other defs d event h = path-push defs d event ∙ ap (λ (b : Bool). cond b (path defs d.parent ++ event ∷ []) (path defs event)) (eqb_other d.number event h)

pub found-push_same : (defs : List EventDef) (d : EventDef) → found defs d.number ≡ None → found (defs ++ d ∷ []) d.number ≡ Some d
found-push_same [] d h = ap (λ (b : Bool). cond b (Some d) None) (eqb_same d.number)
found-push_same (c ∷ cs) d h =
    elim (eqb c.number d.number) as (λ b. cond b (Some c) (found cs d.number) ≡ None → cond b (Some c) (found (cs ++ d ∷ []) d.number) ≡ Some d) [
      | true ↦ λ e. cc
      | false ↦ λ e. found-push_same cs d e
    ] h

pub found-push_other : (defs : List EventDef) (d : EventDef) (event : ℕ) → d.number ≢ event → found (defs ++ d ∷ []) event ≡ found defs event
found-push_other [] d event h = ap (λ (b : Bool). cond b (Some d) None) (eqb_other d.number event h)
found-push_other (c ∷ cs) d event h = ap (λ (o : Option EventDef). cond (eqb c.number event) (Some c) o) (found-push_other cs d event h)

-- a path begins with a built-in event, and each further one has a definition
abbrev pub IsRooted : List EventDef → List ℕ → Type 0
IsRooted defs [] = ⊥
IsRooted defs (root ∷ events) = IsTrue (is_root root) × AllByRecursion (λ e. IsTrue (is_some (found defs e))) events

-- what is known of the paths over definitions that were each addable
pub record KnowsPaths (defs : List EventDef) : Type 0 where
  pub law : (event : ℕ) (d : EventDef) → found defs event ≡ Some d → path defs event ≡ path defs d.parent ++ event ∷ []
  pub parents : (event : ℕ) (d : EventDef) → found defs event ≡ Some d → IsTrue (is_event defs d.parent)
  pub numbers : (event : ℕ) (d : EventDef) → found defs event ≡ Some d → event ≤ 255
  pub rooted : (event : ℕ) → IsTrue (is_event defs event) → IsRooted defs (path defs event)
  pub short : (event : ℕ) → IsTrue (is_event defs event) → length (path defs event) ≤ 8

or_true : (a : Bool) → IsTrue (a || true)
or_true true = refl
or_true false = refl

or_none : (a : Bool) → IsTrue (a || false) → IsTrue a
or_none true h = refl
or_none false h = h

-- a number of at most 255 is no root
not_root : (event : ℕ) → event ≤ 255 → is_root event ≡ false
not_root event h = grind (arith, nat_tests)

not_event : (defs : List EventDef) (event : ℕ) → event ≤ 255 → found defs event ≡ None → ¬ IsTrue (is_event defs event)
not_event defs event low absent h =
    let e : is_event defs event ≡ false = ap (λ (b : Bool). b || is_some (found defs event)) (not_root event low) ∙ ap (λ (o : Option EventDef). is_some o) absent in
    cc

pub is_event-push : (defs : List EventDef) (d : EventDef) (event : ℕ) → found defs d.number ≡ None → IsTrue (is_event defs event) → IsTrue (is_event (defs ++ d ∷ []) event)
is_event-push defs d event absent h =
    ⊎_elim (λ t. subst (λ (e : ℕ). IsTrue (is_event (defs ++ d ∷ []) e)) t.1
    (subst (λ (o : Option EventDef). IsTrue (is_root d.number || is_some o)) (sym (found-push_same defs d absent)) (or_true (is_root d.number))))
    (λ t. subst (λ (o : Option EventDef). IsTrue (is_root event || is_some o)) (sym (found-push_other defs d event t.1)) h) (eqb_tells d.number event)

-- an event that is there isn't the one that is added
pub apart : (defs : List EventDef) (d : EventDef) (event : ℕ) → IsAddable defs d → IsTrue (is_event defs event) → d.number ≢ event
apart defs d event a h = λ e. not_event defs d.number a.high a.absent (subst (λ (n : ℕ). IsTrue (is_event defs n)) (sym e) h)

found-is_event : (defs : List EventDef) (event : ℕ) → IsTrue (is_some (found defs event)) → IsTrue (is_event defs event)
found-is_event defs event h = subst (λ (b : Bool). IsTrue (is_root event || b)) (sym h) (or_true (is_root event))

defined-push : (defs : List EventDef) (d : EventDef) (event : ℕ) → IsAddable defs d → IsTrue (is_some (found defs event)) → IsTrue (is_some (found (defs ++ d ∷ []) event))
defined-push defs d event a h = subst (λ (o : Option EventDef). IsTrue (is_some o)) (sym (found-push_other defs d event (apart defs d event a (found-is_event defs event h)))) h

all-push : (defs : List EventDef) (d : EventDef) (events : List ℕ) → IsAddable defs d → AllByRecursion (λ e. IsTrue (is_some (found defs e))) events
    → AllByRecursion (λ e. IsTrue (is_some (found (defs ++ d ∷ []) e))) events
all-push defs d [] a h = tt
all-push defs d (e ∷ es) a h = (defined-push defs d e a h.0, all-push defs d es a h.1)

all-append : (P : ℕ → Type 0) (xs ys : List ℕ) → AllByRecursion P xs → AllByRecursion P ys → AllByRecursion P (xs ++ ys)
all-append P [] ys h k = k
all-append P (x ∷ xs) ys h k = (h.0, all-append P xs ys h.1 k)

rooted-push : (defs : List EventDef) (d : EventDef) (p : List ℕ) → IsAddable defs d → IsRooted defs p → IsRooted (defs ++ d ∷ []) p
rooted-push defs d [] a h = h
rooted-push defs d (r ∷ es) a h = (h.0, all-push defs d es a h.1)

rooted-longer : (defs : List EventDef) (p : List ℕ) (event : ℕ) → IsRooted defs p → IsTrue (is_some (found defs event)) → IsRooted defs (p ++ event ∷ [])
rooted-longer defs [] event h k = absurd h
rooted-longer defs (r ∷ es) event h k = (h.0, all-append (λ e. IsTrue (is_some (found defs e))) es (event ∷ []) h.1 (k, tt))

pub none_known : KnowsPaths []
unfolding path
none_known = record {
  law = λ event d h. cc;
  parents = λ event d h. cc;
  numbers = λ event d h. cc;
  rooted = λ event h. (or_none (is_root event) h, tt);
  short = λ event h. omega arith;
}

-- one definition more, for an event that was there
law-old : (defs : List EventDef) (d : EventDef) → IsAddable defs d → KnowsPaths defs → (event : ℕ) (e : EventDef) → d.number ≢ event
    → found defs event ≡ Some e → path (defs ++ d ∷ []) event ≡ path (defs ++ d ∷ []) e.parent ++ event ∷ []
law-old defs d a k event e other is =
    let parent : d.number ≢ e.parent = apart defs d e.parent a (k.parents event e is) in
    path-push_other defs d event other ∙ (k.law event e is ∙ ap (λ (p : List ℕ). p ++ event ∷ []) (sym (path-push_other defs d e.parent parent)))

law-new : (defs : List EventDef) (d : EventDef) → IsAddable defs d → path (defs ++ d ∷ []) d.number ≡ path (defs ++ d ∷ []) d.parent ++ d.number ∷ []
law-new defs d a =
    path-push_same defs d ∙ ap (λ (p : List ℕ). p ++ d.number ∷ []) (sym (path-push_other defs d d.parent (apart defs d d.parent a a.parent)))

was_found : (defs : List EventDef) (d : EventDef) (event : ℕ) (e : EventDef) → d.number ≢ event → found (defs ++ d ∷ []) event ≡ Some e → found defs event ≡ Some e
was_found defs d event e other is = sym (found-push_other defs d event other) ∙ is

is_new : (defs : List EventDef) (d : EventDef) (event : ℕ) (e : EventDef) → found defs d.number ≡ None → d.number ≡ event → found (defs ++ d ∷ []) event ≡ Some e → d ≡ e
is_new defs d event e absent same is =
    let new : found (defs ++ d ∷ []) event ≡ Some d = subst (λ (n : ℕ). found (defs ++ d ∷ []) n ≡ Some d) same (found-push_same defs d absent) in
    cc

-- for a fact of each event and its definition: at the new event, and at one that was there
by_event : (P : ℕ → EventDef → Type 0) (defs : List EventDef) (d : EventDef) → found defs d.number ≡ None → P d.number d
    → ((event : ℕ) (e : EventDef) → d.number ≢ event → found defs event ≡ Some e → P event e) → (event : ℕ) (e : EventDef) → found (defs ++ d ∷ []) event ≡ Some e → P event e
by_event P defs d absent new old event e is =
    ⊎_elim (λ t. subst (λ (n : ℕ). P n e) t.1 (subst (λ (x : EventDef). P d.number x) (is_new defs d event e absent t.1 is) new))
    (λ t. old event e t.1 (was_found defs d event e t.1 is)) (eqb_tells d.number event)

was_event : (defs : List EventDef) (d : EventDef) (event : ℕ) → d.number ≢ event → IsTrue (is_event (defs ++ d ∷ []) event) → IsTrue (is_event defs event)
was_event defs d event other h = subst (λ (o : Option EventDef). IsTrue (is_root event || is_some o)) (found-push_other defs d event other) h

at_event : (P : ℕ → Type 0) (defs : List EventDef) (d : EventDef) → P d.number
    → ((event : ℕ) → d.number ≢ event → IsTrue (is_event defs event) → P event) → (event : ℕ) → IsTrue (is_event (defs ++ d ∷ []) event) → P event
at_event P defs d new old event h =
    ⊎_elim (λ t. subst P t.1 new) (λ t. old event t.1 (was_event defs d event t.1 h)) (eqb_tells d.number event)

rooted-new : (defs : List EventDef) (d : EventDef) → IsAddable defs d → KnowsPaths defs → IsRooted (defs ++ d ∷ []) (path (defs ++ d ∷ []) d.number)
rooted-new defs d a k =
    let defined : IsTrue (is_some (found (defs ++ d ∷ []) d.number)) = ap is_some (found-push_same defs d a.absent) in
    let parent : IsRooted (defs ++ d ∷ []) (path defs d.parent) = rooted-push defs d (path defs d.parent) a (k.rooted d.parent a.parent) in
    subst (λ (p : List ℕ). IsRooted (defs ++ d ∷ []) p) (sym (path-push_same defs d)) (rooted-longer (defs ++ d ∷ []) (path defs d.parent) d.number parent defined)

short-new : (defs : List EventDef) (d : EventDef) → IsAddable defs d → length (path (defs ++ d ∷ []) d.number) ≤ 8
short-new defs d a = omega (arith, ap length (path-push_same defs d), length_push (path defs d.parent) d.number, a.depth)

pub knows-push : (defs : List EventDef) (d : EventDef) → IsAddable defs d → KnowsPaths defs → KnowsPaths (defs ++ d ∷ [])
knows-push defs d a k = record {
  law = by_event (λ event e. path (defs ++ d ∷ []) event ≡ path (defs ++ d ∷ []) e.parent ++ event ∷ []) defs d a.absent (law-new defs d a) (λ event e other is. law-old defs d a k event e other is);
  parents = by_event (λ event e. IsTrue (is_event (defs ++ d ∷ []) e.parent)) defs d a.absent (is_event-push defs d d.parent a.absent a.parent)
      (λ event e other is. is_event-push defs d e.parent a.absent (k.parents event e is));
  numbers = by_event (λ event e. event ≤ 255) defs d a.absent a.high (λ event e other is. k.numbers event e is);
  rooted = at_event (λ event. IsRooted (defs ++ d ∷ []) (path (defs ++ d ∷ []) event)) defs d (rooted-new defs d a k)
      (λ event other h. subst (λ (p : List ℕ). IsRooted (defs ++ d ∷ []) p) (sym (path-push_other defs d event other)) (rooted-push defs d (path defs event) a (k.rooted event h)));
  short = at_event (λ event. length (path (defs ++ d ∷ []) event) ≤ 8) defs d (short-new defs d a)
      (λ event other h. subst (λ (p : List ℕ). length p ≤ 8) (sym (path-push_other defs d event other)) (k.short event h));
}

knows-all : (before ds : List EventDef) → KnowsPaths before → AreAddable before ds → KnowsPaths (before ++ ds)
knows-all before [] k a = subst KnowsPaths (sym (append-nil before)) k
knows-all before (d ∷ ds) k a = subst KnowsPaths (append_assoc before (d ∷ []) ds) (knows-all (before ++ d ∷ []) ds (knows-push before d a.0 k) a.1)

pub knows : (defs : List EventDef) → AreAddable [] defs → KnowsPaths defs
knows defs a = knows-all [] defs none_known a

pub found-push : (defs : List EventDef) (d : EventDef) (event : ℕ) → found defs d.number ≡ None → found (defs ++ d ∷ []) event ≡ cond (eqb d.number event) (Some d) (found defs event)
found-push defs d event absent =
    ⊎_elim (λ t. subst (λ (b : Bool). found (defs ++ d ∷ []) event ≡ cond b (Some d) (found defs event)) (sym t.0)
    (subst (λ (n : ℕ). found (defs ++ d ∷ []) n ≡ Some d) t.1 (found-push_same defs d absent)))
    (λ t. subst (λ (b : Bool). found (defs ++ d ∷ []) event ≡ cond b (Some d) (found defs event)) (sym t.0) (found-push_other defs d event t.1)) (eqb_tells d.number event)
