-- One more line: the records stay tidy, and their lines are those before and it.
use Rattle.std.proofs.Common.{◌≡◌, ℕ, ◌+◌, Bool, true, false, ◌&&◌, List, [], ◌∷◌, ◌++◌, length, map, refl, ap, sym, subst, ◌∙◌, append_assoc, append-nil, Option, Some, None}
use Rattle.std.specs.Prelude.{nat_le, ◌==◌, if◌then◌else◌}
use Rattle.std.specs.List.{list_all}
use Rattle.std.specs.Option.{option_to_list}
use Rattle.std.proofs.lemmas.List.{map-append}
use Rattle.app_api.specs.App.{is_field_name}
use Rattle.app_api.specs.Numbers.{rise_from}
use Rattle.app_api.specs.declared.entry.Entry.{Entry}
use Rattle.app_api.specs.declared.reaction.Reason.{Reason}
use Rattle.report_text.specs.declared.record.RecordKind.{RecordKind}
use Rattle.report_text.specs.declared.record.RecordKind.TheVariants.{Conn, Orphan}
use Rattle.report_text.specs.declared.record.Record.{Record}
use Rattle.report_text.specs.declared.record.Totals.{Totals}
use Rattle.report_text.specs.declared.read.line.Line.{Line}
use Rattle.report_text.specs.declared.read.line.Line.TheVariants.{First, Callback, Dropped, Field, Last}
use Rattle.report_text.specs.declared.read.taker.Taker.{Taker}
use Rattle.report_text.specs.Ranges.{entry_fits, drop_fits, field_fits, record_fits, totals_fit}
use Rattle.report_text.specs.Tidy.{is_tidy_entry, may_have, is_tidy_record}
use Rattle.report_text.specs.Kept.{is_conn}
use Rattle.report_text.specs.ReadLines.{bare, line_fits, least_name, least_from, reopened, with_record, put, start}
use Rattle.report_text.proofs.ReadNumbers.{and_parts}
use Rattle.report_text.proofs.ReadCut.{nil-of}
use Rattle.report_text.proofs.ReadFits.{both}
use Rattle.report_text.proofs.ReadRun.{dropped, field, record_lines, records_lines, lines_of, run, run-append, fit, all-append, TidyParts, tidy-parts, tidy-whole, FitParts, fit-parts, fit-whole, at_record}

-- all records so far
abbrev pub all_of : Taker → List Record
all_of s = s.done ++ option_to_list s.last

abbrev pub lines : Taker → List Line
lines s = lines_of (all_of s) s.totals

-- what holds of the records that were put together from lines
pub record Stands (s : Taker) : Type 0 where
  pub rise : rise_from 0 (map (λ r. r.name) (all_of s)) ≡ true
  pub each : list_all is_tidy_record (all_of s) ≡ true
  pub fits : list_all record_fits (all_of s) ≡ true
  pub counts : (t : Totals) → s.totals ≡ Some t → totals_fit t ≡ true
  pub begun : s.last ≡ None → s.done ≡ []
  pub ran : run (Some start) (lines s) ≡ Some s

-- one more line was put
pub record Grown (s : Taker) (l : Line) (now : Taker) : Type 0 where
  pub stands : Stands now
  pub more : lines now ≡ lines s ++ l ∷ []

ran-more : (s now : Taker) (l : Line) → run (Some start) (lines s) ≡ Some s → lines now ≡ lines s ++ l ∷ [] → put s l ≡ Some now
    → run (Some start) (lines now) ≡ Some now
ran-more s now l ran more is =
    ap (run (Some start)) more ∙ run-append (Some start) (lines s) (l ∷ []) ∙ ap (λ o. run o (l ∷ [])) ran ∙ is

pub all-split : {X : Type 0} (p : X → Bool) (xs ys : List X) → list_all p (xs ++ ys) ≡ true → (list_all p xs ≡ true) × (list_all p ys ≡ true)
all-split p [] ys h = (refl, h)
all-split p (x ∷ xs) ys h =
    let parts = and_parts (p x) (list_all p (xs ++ ys)) h in
    let more = all-split p xs ys parts.1 in
    (both (p x) (list_all p xs) parts.0 more.0, more.1)

records-append : (rs more : List Record) → records_lines (rs ++ more) ≡ records_lines rs ++ records_lines more
records-append [] more = refl
records-append (r ∷ rs) more =
    ap (λ x. record_lines r ++ x) (records-append rs more) ∙ sym (append_assoc (record_lines r) (records_lines rs) (records_lines more))

-- what a name after these has to reach
abbrev least_names : ℕ → List Record → ℕ
least_names least [] = least
least_names least (r ∷ rs) = least_names (r.name + 1) rs

names-push : (least : ℕ) (rs : List Record) (r : Record) → least_names least (rs ++ r ∷ []) ≡ r.name + 1
names-push least [] r = refl
names-push least (x ∷ rs) r = names-push (x.name + 1) rs r

rise-push : (least : ℕ) (rs : List Record) (r : Record) → rise_from least (map (λ x. x.name) rs) ≡ true → nat_le (least_names least rs) r.name ≡ true
    → rise_from least (map (λ x. x.name) (rs ++ r ∷ [])) ≡ true
rise-push least [] r rise above = both (nat_le least r.name) true above refl
rise-push least (x ∷ rs) r rise above =
    let parts = and_parts (nat_le least x.name) (rise_from (x.name + 1) (map (λ y. y.name) rs)) rise in
    both (nat_le least x.name) (rise_from (x.name + 1) (map (λ y. y.name) (rs ++ r ∷ []))) parts.0 (rise-push (x.name + 1) rs r parts.1 above)

drops-push : (least : ℕ) (ds : List (ℕ × Reason)) (d : ℕ × Reason) → rise_from least (map (λ x. x.0) ds) ≡ true → nat_le (least_from least ds) d.0 ≡ true
    → rise_from least (map (λ x. x.0) (ds ++ d ∷ [])) ≡ true
drops-push least [] d rise above = both (nat_le least d.0) true above refl
drops-push least (x ∷ ds) d rise above =
    let parts = and_parts (nat_le least x.0) (rise_from (x.0 + 1) (map (λ y. y.0) ds)) rise in
    both (nat_le least x.0) (rise_from (x.0 + 1) (map (λ y. y.0) (ds ++ d ∷ []))) parts.0 (drops-push (x.0 + 1) ds d parts.1 above)

-- ---- a record begins

least-last : (done : List Record) (last : Option Record) → (last ≡ None → done ≡ []) → least_names 0 (done ++ option_to_list last) ≡ least_name last
least-last done None begun = ap (λ x. least_names 0 (x ++ [])) (begun refl)
least-last done (Some r) begun = names-push 0 done r

bare-tidy : (name : ℕ) (k : RecordKind) (version : ℕ) → is_tidy_record (bare name k version) ≡ true
bare-tidy name (Conn client server) version = refl
bare-tidy name (Orphan class) version = refl

bare-fits : (name : ℕ) (k : RecordKind) (version : ℕ) → line_fits (First name k version) ≡ true → record_fits (bare name k version) ≡ true
bare-fits name k version h = rw h refl

grown-first : (done : List Record) (last : Option Record) (name : ℕ) (k : RecordKind) (version : ℕ)
    → Stands (record { done = done; last = last; totals = None }) → fit (First name k version) ≡ true → nat_le (least_name last) name ≡ true
    → put (record { done = done; last = last; totals = None }) (First name k version) ≡ Some (with_record done last (bare name k version))
    → Grown (record { done = done; last = last; totals = None }) (First name k version) (with_record done last (bare name k version))
grown-first done last name k version h fits above is =
    let rs = done ++ option_to_list last in
    let new = bare name k version in
    let line = line_fits (First name k version) in
    let in_range = (and_parts line true fits).0 in
    let reach = ap (λ n. nat_le n name) (least-last done last h.begun) ∙ above in
    let more : lines (with_record done last new) ≡ lines (record { done = done; last = last; totals = None }) ++ First name k version ∷ [] =
    append-nil (records_lines (rs ++ new ∷ [])) ∙ records-append rs (new ∷ [])
    ∙ ap (λ x. x ++ First name k version ∷ []) (sym (append-nil (records_lines rs))) in
    record {
      stands = record {
        rise = rise-push 0 rs new h.rise reach;
        each = all-append is_tidy_record rs (new ∷ []) h.each (both (is_tidy_record new) true (bare-tidy name k version) refl);
        fits = all-append record_fits rs (new ∷ []) h.fits (both (record_fits new) true (bare-fits name k version in_range) refl);
        counts = λ t e. cc;
        begun = λ e. cc;
        ran = ran-more _ _ (First name k version) h.ran more is;
      };
      more = more;
    }

-- ---- the last record goes on

names-same : (done : List Record) (r now : Record) → now.name ≡ r.name → map (λ x. x.name) (done ++ now ∷ []) ≡ map (λ x. x.name) (done ++ r ∷ [])
names-same [] r now same = ap (λ n. n ∷ []) same
names-same (x ∷ done) r now same = ap (λ ns. x.name ∷ ns) (names-same done r now same)

last-lines : (done : List Record) (r : Record) → lines (at_record done r) ≡ records_lines done ++ record_lines r
last-lines done r =
    append-nil (records_lines (done ++ r ∷ [])) ∙ records-append done (r ∷ []) ∙ ap (λ x. records_lines done ++ x) (append-nil (record_lines r))

grown-last : (done : List Record) (r now : Record) (l : Line) → Stands (at_record done r) → now.name ≡ r.name
    → (TidyParts r → TidyParts now) → (FitParts r → FitParts now) → record_lines now ≡ record_lines r ++ l ∷ []
    → put (at_record done r) l ≡ Some (at_record done now) → Grown (at_record done r) l (at_record done now)
grown-last done r now l h same stays fits grows is =
    let each = all-split is_tidy_record done (r ∷ []) h.each in
    let ranges = all-split record_fits done (r ∷ []) h.fits in
    let of = tidy-parts r (and_parts (is_tidy_record r) true each.1).0 in
    let in_range = fit-parts r (and_parts (record_fits r) true ranges.1).0 in
    let more : lines (at_record done now) ≡ lines (at_record done r) ++ l ∷ [] =
    last-lines done now ∙ ap (λ x. records_lines done ++ x) grows ∙ sym (append_assoc (records_lines done) (record_lines r) (l ∷ []))
    ∙ ap (λ x. x ++ l ∷ []) (sym (last-lines done r)) in
    record {
      stands = record {
        rise = ap (rise_from 0) (names-same done r now same) ∙ h.rise;
        each = all-append is_tidy_record done (now ∷ []) each.0 (both (is_tidy_record now) true (tidy-whole now (stays of)) refl);
        fits = all-append record_fits done (now ∷ []) ranges.0 (both (record_fits now) true (fit-whole now (fits in_range)) refl);
        counts = λ t e. cc;
        begun = λ e. cc;
        ran = ran-more _ _ l h.ran more is;
      };
      more = more;
    }

entry-lines : (es : List Entry) (e : Entry) (ds : List (ℕ × Reason)) (fs : List (List ℕ × ℕ)) → ds ≡ [] → fs ≡ []
    → map Callback (es ++ e ∷ []) ++ (map dropped ds ++ map field fs) ≡ (map Callback es ++ (map dropped ds ++ map field fs)) ++ Callback e ∷ []
entry-lines es e ds fs hd hf = rw (hd, hf) (simp (map-append, append-nil))

drop-lines : (es : List Entry) (ds : List (ℕ × Reason)) (d : ℕ × Reason) (fs : List (List ℕ × ℕ)) → fs ≡ []
    → map Callback es ++ (map dropped (ds ++ d ∷ []) ++ map field fs) ≡ (map Callback es ++ (map dropped ds ++ map field fs)) ++ dropped d ∷ []
drop-lines es ds d fs hf = rw hf (simp (map-append, append-nil, append_assoc))

field-lines : (es : List Entry) (ds : List (ℕ × Reason)) (fs : List (List ℕ × ℕ)) (f : List ℕ × ℕ)
    → map Callback es ++ (map dropped ds ++ map field (fs ++ f ∷ [])) ≡ (map Callback es ++ (map dropped ds ++ map field fs)) ++ field f ∷ []
field-lines es ds fs f = simp (map-append, append_assoc)

one-more : {X : Type 0} (p : X → Bool) (xs : List X) (x : X) → list_all p xs ≡ true → p x ≡ true → list_all p (xs ++ x ∷ []) ≡ true
one-more p xs x hxs hx = all-append p xs (x ∷ []) hxs (both (p x) true hx refl)

grown-entry : (done : List Record) (r : Record) (e : Entry) → Stands (at_record done r) → fit (Callback e) ≡ true
    → (length r.drops == 0 && length r.fields == 0) ≡ true
    → put (at_record done r) (Callback e) ≡ Some (at_record done (record r { entries = r.entries ++ e ∷ [] }))
    → Grown (at_record done r) (Callback e) (at_record done (record r { entries = r.entries ++ e ∷ [] }))
grown-entry done r e h fits bare_so_far is =
    let may = and_parts (length r.drops == 0) (length r.fields == 0) bare_so_far in
    let line = and_parts (entry_fits e) (is_tidy_entry e) fits in
    grown-last done r (record r { entries = r.entries ++ e ∷ [] }) (Callback e) h refl
    (λ of. record { entries = one-more is_tidy_entry r.entries e of.entries line.1; drops = of.drops; named = of.named; may = of.may })
    (λ of. record { name = of.name; kind = of.kind; version = of.version; entries = one-more entry_fits r.entries e of.entries line.0; drops = of.drops; fields = of.fields })
    (ap (λ x. First r.name r.kind r.version ∷ x) (entry-lines r.entries e r.drops r.fields (nil-of r.drops may.0) (nil-of r.fields may.1))) is

grown-drop : (done : List Record) (r : Record) (d : ℕ × Reason) → Stands (at_record done r) → fit (dropped d) ≡ true
    → (nat_le (least_from 0 r.drops) d.0 && length r.fields == 0) ≡ true
    → put (at_record done r) (dropped d) ≡ Some (at_record done (record r { drops = r.drops ++ d ∷ [] }))
    → Grown (at_record done r) (dropped d) (at_record done (record r { drops = r.drops ++ d ∷ [] }))
grown-drop done r d h fits may_follow is =
    let may = and_parts (nat_le (least_from 0 r.drops) d.0) (length r.fields == 0) may_follow in
    let line = and_parts (drop_fits d) true fits in
    grown-last done r (record r { drops = r.drops ++ d ∷ [] }) (dropped d) h refl
    (λ of. record { entries = of.entries; drops = drops-push 0 r.drops d of.drops may.0; named = of.named; may = of.may })
    (λ of. record { name = of.name; kind = of.kind; version = of.version; entries = of.entries; drops = one-more drop_fits r.drops d of.drops line.0; fields = of.fields })
    (ap (λ x. First r.name r.kind r.version ∷ x) (drop-lines r.entries r.drops d r.fields (nil-of r.fields may.1))) is

may-conn : (k : RecordKind) (fs : List (List ℕ × ℕ)) → is_conn k ≡ true → may_have k fs ≡ true
may-conn (Conn client server) fs h = refl
may-conn (Orphan class) fs h = cc

grown-field : (done : List Record) (r : Record) (f : List ℕ × ℕ) → Stands (at_record done r) → fit (field f) ≡ true → is_conn r.kind ≡ true
    → put (at_record done r) (field f) ≡ Some (at_record done (record r { fields = r.fields ++ f ∷ [] }))
    → Grown (at_record done r) (field f) (at_record done (record r { fields = r.fields ++ f ∷ [] }))
grown-field done r f h fits conn is =
    let line = and_parts (field_fits f) (is_field_name f.0) fits in
    grown-last done r (record r { fields = r.fields ++ f ∷ [] }) (field f) h refl
    (λ of. record { entries = of.entries; drops = of.drops; named = one-more (λ x. is_field_name x.0) r.fields f of.named line.1; may = may-conn r.kind (r.fields ++ f ∷ []) conn })
    (λ of. record { name = of.name; kind = of.kind; version = of.version; entries = of.entries; drops = of.drops; fields = one-more field_fits r.fields f of.fields line.0 })
    (ap (λ x. First r.name r.kind r.version ∷ x) (field-lines r.entries r.drops r.fields f)) is

-- ---- totals end

grown-totals : (done : List Record) (last : Option Record) (t : Totals) → Stands (record { done = done; last = last; totals = None }) → fit (Last t) ≡ true
    → put (record { done = done; last = last; totals = None }) (Last t) ≡ Some (record { done = done; last = last; totals = Some t })
    → Grown (record { done = done; last = last; totals = None }) (Last t) (record { done = done; last = last; totals = Some t })
grown-totals done last t h fits is =
    let rs = done ++ option_to_list last in
    let counts = (and_parts (totals_fit t) true fits).0 in
    let more = ap (λ x. x ++ Last t ∷ []) (sym (append-nil (records_lines rs))) in
    record {
      stands = record {
        rise = h.rise;
        each = h.each;
        fits = h.fits;
        counts = λ u e. let same : t ≡ u = cc in subst (λ x. totals_fit x ≡ true) same counts;
        begun = h.begun;
        ran = ran-more _ _ (Last t) h.ran more is;
      };
      more = more;
    }

-- ---- any line

if-some : {X : Type 0} (b : Bool) (x now : X) → (if b then Some x else None) ≡ Some now → (b ≡ true) × (x ≡ now)
if-some true x now h = (refl, cc)
if-some false x now h = cc

reopened-if : (done : List Record) (b : Bool) (r : Record) (now : Taker) → reopened done (if b then Some r else None) ≡ Some now
    → (b ≡ true) × (at_record done r ≡ now)
reopened-if done true r now h = (refl, cc)
reopened-if done false r now h = cc

grown-more : (done : List Record) (last : Option Record) (l : Line) (now : Taker) → Stands (record { done = done; last = last; totals = None }) → fit l ≡ true
    → put (record { done = done; last = last; totals = None }) l ≡ Some now → Grown (record { done = done; last = last; totals = None }) l now
unfolding put
grown-more done last (First name k version) now h fits is =
    let parts = if-some (nat_le (least_name last) name) (with_record done last (bare name k version)) now is in
    subst (Grown (record { done = done; last = last; totals = None }) (First name k version)) parts.1
    (grown-first done last name k version h fits parts.0 (is ∙ ap Some (sym parts.1)))
grown-more done None (Callback e) now h fits is = cc
grown-more done (Some r) (Callback e) now h fits is =
    let parts = reopened-if done (length r.drops == 0 && length r.fields == 0) (record r { entries = r.entries ++ e ∷ [] }) now is in
    subst (Grown (at_record done r) (Callback e)) parts.1 (grown-entry done r e h fits parts.0 (is ∙ ap Some (sym parts.1)))
grown-more done None (Dropped index reason) now h fits is = cc
grown-more done (Some r) (Dropped index reason) now h fits is =
    let parts = reopened-if done (nat_le (least_from 0 r.drops) index && length r.fields == 0) (record r { drops = r.drops ++ (index, reason) ∷ [] }) now is in
    subst (Grown (at_record done r) (Dropped index reason)) parts.1 (grown-drop done r (index, reason) h fits parts.0 (is ∙ ap Some (sym parts.1)))
grown-more done None (Field name value) now h fits is = cc
grown-more done (Some r) (Field name value) now h fits is =
    let parts = reopened-if done (is_conn r.kind) (record r { fields = r.fields ++ (name, value) ∷ [] }) now is in
    subst (Grown (at_record done r) (Field name value)) parts.1 (grown-field done r (name, value) h fits parts.0 (is ∙ ap Some (sym parts.1)))
grown-more done last (Last t) now h fits is =
    let same : record { done = done; last = last; totals = Some t } ≡ now = cc in
    subst (Grown (record { done = done; last = last; totals = None }) (Last t)) same (grown-totals done last t h fits (is ∙ ap Some (sym same)))

grown-from : (done : List Record) (last : Option Record) (t : Option Totals) (l : Line) (now : Taker) → Stands (record { done = done; last = last; totals = t }) → fit l ≡ true
    → put (record { done = done; last = last; totals = t }) l ≡ Some now → Grown (record { done = done; last = last; totals = t }) l now
unfolding put
grown-from done last None l now h fits is = grown-more done last l now h fits is
grown-from done last (Some t) l now h fits is = cc

pub grown : (s : Taker) (l : Line) (now : Taker) → Stands s → fit l ≡ true → put s l ≡ Some now → Grown s l now
grown s l now h fits is = grown-from s.done s.last s.totals l now h fits is
