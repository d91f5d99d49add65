-- Reports as lists of lines: their text, and what is put together from them.
use Rattle.std.proofs.Common.{◌≡◌, ℕ, ◌+◌, Bool, true, ◌&&◌, List, [], ◌∷◌, ◌++◌, length, map, refl, ap, sym, ◌∙◌, arith, append_assoc, append-nil, Option, Some, None}
use Rattle.std.specs.Prelude.{nat_le, ◌==◌, flat_map}
use Rattle.std.specs.List.{list_all}
use Rattle.std.specs.Option.{option_to_list}
use Rattle.std.proofs.lemmas.Bool.Decides.{nat_tests}
use Rattle.app_api.specs.App.{is_field_name}
use Rattle.app_api.specs.Numbers.{rise_from}
use Rattle.app_api.specs.declared.entry.Entry.{Entry}
use Rattle.app_api.specs.declared.reaction.Reason.{Reason}
use Rattle.report_text.specs.declared.record.RecordKind.{RecordKind}
use Rattle.report_text.specs.declared.record.RecordKind.TheVariants.{Conn, Orphan}
use Rattle.report_text.specs.declared.record.Record.{Record}
use Rattle.report_text.specs.declared.record.Totals.{Totals}
use Rattle.report_text.specs.declared.read.line.Line.{Line}
use Rattle.report_text.specs.declared.read.line.Line.TheVariants.{First, Callback, Dropped, Field, Last}
use Rattle.report_text.specs.declared.read.taker.Taker.{Taker}
use Rattle.report_text.specs.Lines.{first_line, callback_line, drop_line, field_line, totals_line}
use Rattle.report_text.specs.Ranges.{is_u32, is_u64, kind_fits, entry_fits, drop_fits, field_fits, record_fits, totals_fit}
use Rattle.report_text.specs.Report.{rest_text, record_text, records_text, report_text}
use Rattle.report_text.specs.Tidy.{is_tidy_entry, are_named, may_have, is_tidy_record, tidy}
use Rattle.report_text.specs.Kept.{is_conn}
use Rattle.report_text.specs.ReadLines.{bare, line_text, is_tidy_line, line_fits, least_name, least_from, with_entry, with_drop, with_field, reopened, with_record, put, start}
use Rattle.report_text.proofs.ReadNumbers.{and_parts}
use Rattle.report_text.proofs.ReadFits.{both}

-- each line's text with its newline
abbrev pub text_of : List Line → List ℕ
text_of [] = []
text_of (l ∷ ls) = line_text l ++ text_of ls

abbrev pub dropped : ℕ × Reason → Line
dropped d = Dropped d.0 d.1

abbrev pub field : List ℕ × ℕ → Line
field f = Field f.0 f.1

abbrev pub rest_lines : Record → List Line
rest_lines r = map Callback r.entries ++ (map dropped r.drops ++ map field r.fields)

abbrev pub record_lines : Record → List Line
record_lines r = First r.name r.kind r.version ∷ rest_lines r

abbrev pub records_lines : List Record → List Line
records_lines [] = []
records_lines (r ∷ rs) = record_lines r ++ records_lines rs

abbrev pub totals_lines : Option Totals → List Line
totals_lines None = []
totals_lines (Some t) = Last t ∷ []

abbrev pub lines_of : List Record → Option Totals → List Line
lines_of rs t = records_lines rs ++ totals_lines t

-- what stands after lines that may all stand
abbrev pub put_to : Option Taker → Line → Option Taker
put_to None l = None
put_to (Some s) l = put s l

abbrev pub run : Option Taker → List Line → Option Taker
run o [] = o
run o (l ∷ ls) = run (put_to o l) ls

-- ---- texts

pub text-append : (ls ms : List Line) → text_of (ls ++ ms) ≡ text_of ls ++ text_of ms
text-append [] ms = refl
text-append (l ∷ ls) ms = ap (λ x. line_text l ++ x) (text-append ls ms) ∙ sym (append_assoc (line_text l) (text_of ls) (text_of ms))

callbacks-lines : (es : List Entry) → text_of (map Callback es) ≡ flat_map callback_line es
callbacks-lines [] = refl
callbacks-lines (e ∷ es) = ap (λ x. callback_line e ++ x) (callbacks-lines es)

drops-lines : (ds : List (ℕ × Reason)) → text_of (map dropped ds) ≡ flat_map drop_line ds
drops-lines [] = refl
drops-lines (d ∷ ds) = ap (λ x. drop_line d ++ x) (drops-lines ds)

fields-lines : (fs : List (List ℕ × ℕ)) → text_of (map field fs) ≡ flat_map field_line fs
fields-lines [] = refl
fields-lines (f ∷ fs) = ap (λ x. field_line f ++ x) (fields-lines fs)

rest-lines : (r : Record) → text_of (rest_lines r) ≡ rest_text r
rest-lines r =
    let a = callbacks-lines r.entries in
    let b = drops-lines r.drops in
    let c = fields-lines r.fields in
    text-append (map Callback r.entries) (map dropped r.drops ++ map field r.fields)
    ∙ ap (λ x. text_of (map Callback r.entries) ++ x) (text-append (map dropped r.drops) (map field r.fields))
    ∙ (λ i. a i ++ (b i ++ c i))

first-same : (r : Record) → first_line (bare r.name r.kind r.version) ≡ first_line r
unfolding first_line
first-same r = refl

pub record-lines : (r : Record) → text_of (record_lines r) ≡ record_text r
record-lines r = let a = first-same r in let b = rest-lines r in λ i. a i ++ b i

pub records-lines : (rs : List Record) → text_of (records_lines rs) ≡ records_text rs
records-lines [] = refl
records-lines (r ∷ rs) =
    let a = record-lines r in
    let b = records-lines rs in
    text-append (record_lines r) (records_lines rs) ∙ (λ i. a i ++ b i)

pub report-lines : (rs : List Record) (t : Totals) → text_of (lines_of rs (Some t)) ≡ report_text rs t
unfolding report_text
report-lines rs t =
    let a = records-lines rs in
    let b = append-nil (totals_line t) in
    text-append (records_lines rs) (Last t ∷ []) ∙ (λ i. a i ++ b i)

-- ---- lines that fit

abbrev pub fit : Line → Bool
fit l = line_fits l && is_tidy_line l

pub all-append : {X : Type 0} (p : X → Bool) (xs ys : List X) → list_all p xs ≡ true → list_all p ys ≡ true → list_all p (xs ++ ys) ≡ true
all-append p [] ys hx hy = hy
all-append p (x ∷ xs) ys hx hy =
    let parts = and_parts (p x) (list_all p xs) hx in both (p x) (list_all p (xs ++ ys)) parts.0 (all-append p xs ys parts.1 hy)

callbacks-fit : (es : List Entry) → list_all is_tidy_entry es ≡ true → list_all entry_fits es ≡ true → list_all fit (map Callback es) ≡ true
callbacks-fit [] tidy fits = refl
callbacks-fit (e ∷ es) tidy fits =
    let a = and_parts (is_tidy_entry e) (list_all is_tidy_entry es) tidy in
    let b = and_parts (entry_fits e) (list_all entry_fits es) fits in
    both (fit (Callback e)) (list_all fit (map Callback es)) (both (entry_fits e) (is_tidy_entry e) b.0 a.0) (callbacks-fit es a.1 b.1)

drops-fit : (ds : List (ℕ × Reason)) → list_all drop_fits ds ≡ true → list_all fit (map dropped ds) ≡ true
drops-fit [] fits = refl
drops-fit (d ∷ ds) fits =
    let b = and_parts (drop_fits d) (list_all drop_fits ds) fits in
    both (fit (dropped d)) (list_all fit (map dropped ds)) (both (drop_fits d) true b.0 refl) (drops-fit ds b.1)

fields-fit : (fs : List (List ℕ × ℕ)) → are_named fs ≡ true → list_all field_fits fs ≡ true → list_all fit (map field fs) ≡ true
fields-fit [] tidy fits = refl
fields-fit (f ∷ fs) tidy fits =
    let a = and_parts (is_field_name f.0) (are_named fs) tidy in
    let b = and_parts (field_fits f) (list_all field_fits fs) fits in
    both (fit (field f)) (list_all fit (map field fs)) (both (field_fits f) (is_field_name f.0) b.0 a.0) (fields-fit fs a.1 b.1)

-- what tidy records say, one by one
pub record TidyParts (r : Record) : Type 0 where
  pub entries : list_all is_tidy_entry r.entries ≡ true
  pub drops : rise_from 0 (map (λ d. d.0) r.drops) ≡ true
  pub named : are_named r.fields ≡ true
  pub may : may_have r.kind r.fields ≡ true

pub tidy-parts : (r : Record) → is_tidy_record r ≡ true → TidyParts r
tidy-parts r h =
    let rise = rise_from 0 (map (λ d. d.0) r.drops) in
    let entries = list_all is_tidy_entry r.entries in
    let a = and_parts (entries && rise && are_named r.fields) (may_have r.kind r.fields) h in
    let b = and_parts (entries && rise) (are_named r.fields) a.0 in
    let c = and_parts entries rise b.0 in
    record { entries = c.0; drops = c.1; named = b.1; may = a.1 }

pub tidy-whole : (r : Record) → TidyParts r → is_tidy_record r ≡ true
tidy-whole r h =
    let rise = rise_from 0 (map (λ d. d.0) r.drops) in
    let entries = list_all is_tidy_entry r.entries in
    both (entries && rise && are_named r.fields) (may_have r.kind r.fields)
    (both (entries && rise) (are_named r.fields) (both entries rise h.entries h.drops) h.named) h.may

pub record FitParts (r : Record) : Type 0 where
  pub name : is_u64 r.name ≡ true
  pub kind : kind_fits r.kind ≡ true
  pub version : is_u32 r.version ≡ true
  pub entries : list_all entry_fits r.entries ≡ true
  pub drops : list_all drop_fits r.drops ≡ true
  pub fields : list_all field_fits r.fields ≡ true

pub fit-parts : (r : Record) → record_fits r ≡ true → FitParts r
fit-parts r h =
    let head = is_u64 r.name && kind_fits r.kind && is_u32 r.version in
    let es = list_all entry_fits r.entries in
    let ds = list_all drop_fits r.drops in
    let a = and_parts (head && es && ds) (list_all field_fits r.fields) h in
    let b = and_parts (head && es) ds a.0 in
    let c = and_parts head es b.0 in
    let d = and_parts (is_u64 r.name && kind_fits r.kind) (is_u32 r.version) c.0 in
    let e = and_parts (is_u64 r.name) (kind_fits r.kind) d.0 in
    record { name = e.0; kind = e.1; version = d.1; entries = c.1; drops = b.1; fields = a.1 }

pub fit-whole : (r : Record) → FitParts r → record_fits r ≡ true
fit-whole r h =
    let head = is_u64 r.name && kind_fits r.kind && is_u32 r.version in
    let es = list_all entry_fits r.entries in
    let ds = list_all drop_fits r.drops in
    both (head && es && ds) (list_all field_fits r.fields)
    (both (head && es) ds
    (both head es (both (is_u64 r.name && kind_fits r.kind) (is_u32 r.version) (both (is_u64 r.name) (kind_fits r.kind) h.name h.kind) h.version)
    h.entries) h.drops) h.fields

record-fits : (r : Record) → is_tidy_record r ≡ true → record_fits r ≡ true → list_all fit (record_lines r) ≡ true
record-fits r tidy fits =
    let a = tidy-parts r tidy in
    let b = fit-parts r fits in
    both (fit (First r.name r.kind r.version)) (list_all fit (rest_lines r))
    (both (line_fits (First r.name r.kind r.version)) true
    (both (is_u64 r.name && kind_fits r.kind) (is_u32 r.version) (both (is_u64 r.name) (kind_fits r.kind) b.name b.kind) b.version) refl)
    (all-append fit (map Callback r.entries) (map dropped r.drops ++ map field r.fields) (callbacks-fit r.entries a.entries b.entries)
    (all-append fit (map dropped r.drops) (map field r.fields) (drops-fit r.drops b.drops) (fields-fit r.fields a.named b.fields)))

pub records-fit : (rs : List Record) → list_all is_tidy_record rs ≡ true → list_all record_fits rs ≡ true → list_all fit (records_lines rs) ≡ true
records-fit [] tidy fits = refl
records-fit (r ∷ rs) tidy fits =
    let a = and_parts (is_tidy_record r) (list_all is_tidy_record rs) tidy in
    let b = and_parts (record_fits r) (list_all record_fits rs) fits in
    all-append fit (record_lines r) (records_lines rs) (record-fits r a.0 b.0) (records-fit rs a.1 b.1)

pub report-fits : (rs : List Record) (t : Totals) → list_all is_tidy_record rs ≡ true → list_all record_fits rs ≡ true → totals_fit t ≡ true
    → list_all fit (lines_of rs (Some t)) ≡ true
report-fits rs t tidy fits counts =
    all-append fit (records_lines rs) (Last t ∷ []) (records-fit rs tidy fits) (both (fit (Last t)) true (both (totals_fit t) true counts refl) refl)

-- ---- the lines of tidy records may stand

pub run-append : (o : Option Taker) (ls ms : List Line) → run o (ls ++ ms) ≡ run (run o ls) ms
run-append o [] ms = refl
run-append o (l ∷ ls) ms = run-append (put_to o l) ls ms

pub run-none : (ls : List Line) → run None ls ≡ None
run-none [] = refl
run-none (l ∷ ls) = run-none ls

-- the records so far with a last one, and no totals
abbrev pub at_record : List Record → Record → Taker
at_record done r = record { done = done; last = Some r; totals = None }

put-first : (done : List Record) (last : Option Record) (name : ℕ) (k : RecordKind) (version : ℕ) → nat_le (least_name last) name ≡ true
    → put (record { done = done; last = last; totals = None }) (First name k version) ≡ Some (with_record done last (bare name k version))
unfolding put
put-first done last name k version h = rw h refl

put-callback : (done : List Record) (r : Record) (e : Entry) → put (at_record done r) (Callback e) ≡ reopened done (with_entry e r)
unfolding put
put-callback done r e = refl

put-drop : (done : List Record) (r : Record) (d : ℕ × Reason) → put (at_record done r) (dropped d) ≡ reopened done (with_drop d r)
unfolding put
put-drop done r d = refl

put-field : (done : List Record) (r : Record) (f : List ℕ × ℕ) → put (at_record done r) (field f) ≡ reopened done (with_field f r)
unfolding put
put-field done r f = refl

-- a record of these parts
abbrev made : Record → List Entry → List (ℕ × Reason) → List (List ℕ × ℕ) → Record
made r es ds fs = record { name = r.name; kind = r.kind; version = r.version; entries = es; drops = ds; fields = fs }

run-callbacks : (done : List Record) (r : Record) (before es : List Entry) (ls : List Line)
    → run (Some (at_record done (made r before [] []))) (map Callback es ++ ls) ≡ run (Some (at_record done (made r (before ++ es) [] []))) ls
run-callbacks done r before [] ls = ap (λ x. run (Some (at_record done (made r x [] []))) ls) (sym (append-nil before))
run-callbacks done r before (e ∷ es) ls =
    ap (λ o. run o (map Callback es ++ ls)) (put-callback done (made r before [] []) e)
    ∙ run-callbacks done r (before ++ e ∷ []) es ls
    ∙ ap (λ x. run (Some (at_record done (made r x [] []))) ls) (append_assoc before (e ∷ []) es)

pub least-push : (least : ℕ) (ds : List (ℕ × Reason)) (d : ℕ × Reason) → least_from least (ds ++ d ∷ []) ≡ d.0 + 1
least-push least [] d = refl
least-push least (x ∷ ds) d = least-push (x.0 + 1) ds d

run-drops : (done : List Record) (r : Record) (before ds : List (ℕ × Reason)) (ls : List Line)
    → rise_from (least_from 0 before) (map (λ d. d.0) ds) ≡ true
    → run (Some (at_record done (made r r.entries before []))) (map dropped ds ++ ls) ≡ run (Some (at_record done (made r r.entries (before ++ ds) []))) ls
run-drops done r before [] ls rise = ap (λ x. run (Some (at_record done (made r r.entries x []))) ls) (sym (append-nil before))
run-drops done r before (d ∷ ds) ls rise =
    let parts = and_parts (nat_le (least_from 0 before) d.0) (rise_from (d.0 + 1) (map (λ x. x.0) ds)) rise in
    let here : nat_le (least_from 0 before) d.0 ≡ true = parts.0 in
    let more = rw (← least-push 0 before d) at parts.1 in
    let step : with_drop d (made r r.entries before []) ≡ Some (made r r.entries (before ++ d ∷ []) []) = rw here refl in
    ap (λ o. run o (map dropped ds ++ ls)) (put-drop done (made r r.entries before []) d ∙ ap (reopened done) step)
    ∙ run-drops done r (before ++ d ∷ []) ds ls more
    ∙ ap (λ x. run (Some (at_record done (made r r.entries x []))) ls) (append_assoc before (d ∷ []) ds)

none-behind : (f : List ℕ × ℕ) (fs : List (List ℕ × ℕ)) → (length (f ∷ fs) == 0) ≡ true → ⊥
none-behind f fs h = grind (arith, nat_tests)

pub conn-of : (k : RecordKind) (f : List ℕ × ℕ) (fs : List (List ℕ × ℕ)) → may_have k (f ∷ fs) ≡ true → is_conn k ≡ true
conn-of (Conn client server) f fs h = refl
conn-of (Orphan class) f fs h = absurd (none-behind f fs h)

may-more : (k : RecordKind) (f : List ℕ × ℕ) (fs : List (List ℕ × ℕ)) → may_have k (f ∷ fs) ≡ true → may_have k fs ≡ true
may-more (Conn client server) f fs h = refl
may-more (Orphan class) f fs h = absurd (none-behind f fs h)

run-fields : (done : List Record) (r : Record) (before fs : List (List ℕ × ℕ)) (ls : List Line) → may_have r.kind fs ≡ true
    → run (Some (at_record done (made r r.entries r.drops before))) (map field fs ++ ls) ≡ run (Some (at_record done (made r r.entries r.drops (before ++ fs)))) ls
run-fields done r before [] ls may = ap (λ x. run (Some (at_record done (made r r.entries r.drops x))) ls) (sym (append-nil before))
run-fields done r before (f ∷ fs) ls may =
    let conn : is_conn r.kind ≡ true = conn-of r.kind f fs may in
    let step : with_field f (made r r.entries r.drops before) ≡ Some (made r r.entries r.drops (before ++ f ∷ [])) = rw conn refl in
    ap (λ o. run o (map field fs ++ ls)) (put-field done (made r r.entries r.drops before) f ∙ ap (reopened done) step)
    ∙ run-fields done r (before ++ f ∷ []) fs ls (may-more r.kind f fs may)
    ∙ ap (λ x. run (Some (at_record done (made r r.entries r.drops x))) ls) (append_assoc before (f ∷ []) fs)

run-record : (done : List Record) (last : Option Record) (r : Record) (ls : List Line) → nat_le (least_name last) r.name ≡ true → is_tidy_record r ≡ true
    → run (Some (record { done = done; last = last; totals = None })) (record_lines r ++ ls) ≡ run (Some (at_record (done ++ option_to_list last) r)) ls
run-record done last r ls least whole =
    let h = tidy-parts r whole in
    let before = done ++ option_to_list last in
    let tail = map dropped r.drops ++ map field r.fields in
    ap (λ o. run o (rest_lines r ++ ls)) (put-first done last r.name r.kind r.version least)
    ∙ ap (run (Some (at_record before (made r [] [] [])))) (append_assoc (map Callback r.entries) tail ls)
    ∙ run-callbacks before r [] r.entries (tail ++ ls)
    ∙ ap (run (Some (at_record before (made r r.entries [] [])))) (append_assoc (map dropped r.drops) (map field r.fields) ls)
    ∙ run-drops before r [] r.drops (map field r.fields ++ ls) h.drops
    ∙ run-fields before r [] r.fields ls h.may

-- what the lines of records and totals leave
pub record Told (rs : List Record) (t : Option Totals) (o : Option Taker) : Type 0 where
  pub taker : Taker
  pub is : o ≡ Some taker
  pub records : taker.done ++ option_to_list taker.last ≡ rs
  pub totals : taker.totals ≡ t

put-last : (done : List Record) (last : Option Record) (t : Totals)
    → run (Some (record { done = done; last = last; totals = None })) (Last t ∷ []) ≡ Some (record { done = done; last = last; totals = Some t })
unfolding put
put-last done last t = refl

told-from : (done : List Record) (last : Option Record) (rs : List Record) (t : Totals)
    → rise_from (least_name last) (map (λ r. r.name) rs) ≡ true → list_all is_tidy_record rs ≡ true
    → Told ((done ++ option_to_list last) ++ rs) (Some t) (run (Some (record { done = done; last = last; totals = None })) (lines_of rs (Some t)))
told-from done last [] t rise all = record {
  taker = record { done = done; last = last; totals = Some t };
  is = put-last done last t;
  records = sym (append-nil (done ++ option_to_list last));
  totals = refl;
}
told-from done last (r ∷ rs) t rise all =
    let a = and_parts (nat_le (least_name last) r.name) (rise_from (r.name + 1) (map (λ x. x.name) rs)) rise in
    let b = and_parts (is_tidy_record r) (list_all is_tidy_record rs) all in
    let more = told-from (done ++ option_to_list last) (Some r) rs t a.1 b.1 in
    record {
      taker = more.taker;
      is = ap (run (Some (record { done = done; last = last; totals = None }))) (append_assoc (record_lines r) (records_lines rs) (Last t ∷ []))
          ∙ run-record done last r (lines_of rs (Some t)) a.0 b.0 ∙ more.is;
      records = more.records ∙ append_assoc (done ++ option_to_list last) (r ∷ []) rs;
      totals = more.totals;
    }

pub told : (rs : List Record) (t : Totals) → tidy rs ≡ true → Told rs (Some t) (run (Some start) (lines_of rs (Some t)))
unfolding tidy
told rs t h =
    let parts = and_parts (rise_from 0 (map (λ r. r.name) rs)) (list_all is_tidy_record rs) h in
    told-from [] None rs t parts.0 parts.1
