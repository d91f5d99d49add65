-- Where reading stops: each exit of the reader.
use Rattle.std.proofs.Common.{◌≡◌, ℕ, suc, ◌+◌, ◌-◌, ◌<◌, ◌≤◌, Bool, true, false, ◌&&◌, cond, List, [], ◌∷◌, ◌++◌, length, take, drop, get_or, map, refl, ap, sym, subst, ◌∙◌, arith, append_assoc, append-nil, Option, Some, None, inl, inr, get_or-drop, take-append-drop, length-take-le, length-append, length-drop, drop-drop}
use Rattle.std.specs.Prelude.{nat_lt, ◌==◌, if◌then◌else◌, bytes_eq}
use Rattle.std.specs.List.{list_all, position, position_or_len}
use Rattle.std.proofs.Math.Numerals.{one-add}
use Rattle.std.proofs.Math.Seq.{take-add}
use Rattle.std.proofs.lemmas.List.{drop_all, take_all}
use Rattle.std.proofs.lemmas.Bool.{cases_eq}
use Rattle.std.proofs.lemmas.Bool.Decides.{nat_tests}
use Rattle.std.proofs.lemmas.Slice.Eq.{bytes_eq-Decides}
use Rattle.app_api.specs.Numbers.{rise_from}
use Rattle.report_text.specs.declared.record.Record.{Record}
use Rattle.report_text.specs.declared.record.Totals.{Totals}
use Rattle.report_text.specs.declared.read.line.Line.{Line}
use Rattle.report_text.specs.declared.read.line.Line.TheVariants.{Last}
use Rattle.report_text.specs.declared.read.taker.Taker.{Taker}
use Rattle.report_text.specs.Ranges.{record_fits, totals_fit}
use Rattle.report_text.specs.Tidy.{is_tidy_record, tidy}
use Rattle.report_text.specs.Reports.{IsReport, BeginsReport, NoReportAt}
use Rattle.report_text.specs.ReadLines.{line_text, is_tidy_line, line_fits, line_of, put, start, taken, finished_with, finished}
use Rattle.report_text.proofs.ReadNumbers.{and_parts}
use Rattle.report_text.proofs.ReadLine.{line-read}
use Rattle.report_text.proofs.ReadCut.{one_line, line-ends, line-cut, front-ends, is-newline, no-newline}
use Rattle.report_text.proofs.ReadFits.{both, read-fits}
use Rattle.report_text.proofs.ReadRun.{text_of, records_lines, lines_of, run, run-append, run-none, text-append, report-lines, fit, report-fits, told}
use Rattle.report_text.proofs.ReadPut.{all_of, lines, Stands, Grown, grown, all-split}

-- a line that may stand in some report
fit-ends : (l : Line) → fit l ≡ true → one_line (line_text l) ≡ true
fit-ends l h = let parts = and_parts (line_fits l) (is_tidy_line l) h in line-ends l parts.0 parts.1

fit-read : (l : Line) → fit l ≡ true → line_of (line_text l) ≡ l
fit-read l h = let parts = and_parts (line_fits l) (is_tidy_line l) h in line-read l parts.0 parts.1

some-text : (w x : List ℕ) → one_line w ≡ true → [] ≡ w ++ x → ⊥
some-text [] x h same = cc
some-text (b ∷ w) x h same = cc

-- lines whose text begins with that of other lines begin with these
record Cut (ls ms : List Line) (rest : List ℕ) : Type 0 where
  more : List Line
  is : ms ≡ ls ++ more
  text : text_of more ≡ rest

lines-cut : (ls ms : List Line) (rest : List ℕ) → list_all fit ls ≡ true → list_all fit ms ≡ true → text_of ms ≡ text_of ls ++ rest → Cut ls ms rest
lines-cut [] ms rest hl hm same = record { more = ms; is = refl; text = same }
lines-cut (l ∷ ls) [] rest hl hm same =
    let parts = and_parts (fit l) (list_all fit ls) hl in
    absurd (some-text (line_text l) (text_of ls ++ rest) (fit-ends l parts.0) (same ∙ append_assoc (line_text l) (text_of ls) rest))
lines-cut (l ∷ ls) (m ∷ ms) rest hl hm same =
    let pl = and_parts (fit l) (list_all fit ls) hl in
    let pm = and_parts (fit m) (list_all fit ms) hm in
    let cut = line-cut (line_text m) (line_text l) (text_of ms) (text_of ls ++ rest) (fit-ends m pm.0) (fit-ends l pl.0)
    (same ∙ append_assoc (line_text l) (text_of ls) rest) in
    let one : m ≡ l = sym (fit-read m pm.0) ∙ ap line_of cut.0 ∙ fit-read l pl.0 in
    let more = lines-cut ls ms rest pl.1 pm.1 cut.1 in
    record { more = more.more; is = λ i. one i ∷ more.is i; text = more.text }

tidy-of : (rs : List Record) → rise_from 0 (map (λ r. r.name) rs) ≡ true → list_all is_tidy_record rs ≡ true → tidy rs ≡ true
unfolding tidy
tidy-of rs rise each = both (rise_from 0 (map (λ r. r.name) rs)) (list_all is_tidy_record rs) rise each

tidy-each : (rs : List Record) → tidy rs ≡ true → list_all is_tidy_record rs ≡ true
unfolding tidy
tidy-each rs h = (and_parts (rise_from 0 (map (λ r. r.name) rs)) (list_all is_tidy_record rs) h).1

abbrev zero_totals : Totals
zero_totals = record { packets = 0; records = 0; callbacks = 0; drops = 0; tail = 0 }

lines-fit : (rs : List Record) (o : Option Totals) → list_all is_tidy_record rs ≡ true → list_all record_fits rs ≡ true
    → ((t : Totals) → o ≡ Some t → totals_fit t ≡ true) → list_all fit (lines_of rs o) ≡ true
lines-fit rs None each fits counts =
    let none : Totals = zero_totals in
    let all = report-fits rs none each fits refl in
    let front = (all-split fit (records_lines rs) (Last none ∷ []) all).0 in
    subst (λ ls. list_all fit ls ≡ true) (sym (append-nil (records_lines rs))) front
lines-fit rs (Some t) each fits counts = report-fits rs t each fits (counts t refl)

-- a report whose text begins with what was read goes on from there
record Beyond (s : Taker) (rs : List Record) (t : Totals) (rest : List ℕ) : Type 0 where
  more : List Line
  fits : list_all fit more ≡ true
  text : text_of more ≡ rest
  taker : Taker
  ran : run (Some s) more ≡ Some taker
  records : all_of taker ≡ rs
  totals : taker.totals ≡ Some t

beyond : (s : Taker) (rs : List Record) (t : Totals) (text rest : List ℕ) → Stands s → IsReport text rs t → text ≡ text_of (lines s) ++ rest → Beyond s rs t rest
beyond s rs t text rest h report is =
    let each = tidy-each rs report.tidy_records in
    let fits = report-fits rs t each report.records_fit report.counts_fit in
    let same : text_of (lines_of rs (Some t)) ≡ text_of (lines s) ++ rest = report-lines rs t ∙ sym report.is ∙ is in
    let cut = lines-cut (lines s) (lines_of rs (Some t)) rest (lines-fit (all_of s) s.totals h.each h.fits h.counts) fits same in
    let end = told rs t report.tidy_records in
    record {
      more = cut.more;
      fits = (all-split fit (lines s) cut.more (subst (λ ls. list_all fit ls ≡ true) cut.is fits)).1;
      text = cut.text;
      taker = end.taker;
      ran = sym (ap (run (Some start)) cut.is ∙ run-append (Some start) (lines s) cut.more ∙ ap (λ o. run o cut.more) h.ran) ∙ end.is;
      records = end.records;
      totals = end.totals;
    }

-- no line at the front of the rest may stand behind what was read
abbrev pub Refuses : Taker → List ℕ → Type 0
Refuses s rest = (m : Line) (x : List ℕ) → fit m ≡ true → line_text m ++ x ≡ rest → put s m ≡ None

stuck : (s : Taker) (m : Line) (ms : List Line) (x : Taker) → put s m ≡ None → run (Some s) (m ∷ ms) ≡ Some x → ⊥
stuck s m ms x none ran = let gone = sym (ap (λ o. run o ms) none ∙ run-none ms) ∙ ran in cc

-- what was read so far: a text's front, up to where a line begins
pub record Reached (text : List ℕ) (at : ℕ) (s : Taker) : Type 0 where
  pub stands : Stands s
  pub is : text ≡ text_of (lines s) ++ drop at text
  pub place : at ≡ length (text_of (lines s))
  pub starts : 0 < at → get_or text (at - 1) 0 ≡ 10

begins : (rs : List Record) (o : Option Totals) → rise_from 0 (map (λ r. r.name) rs) ≡ true → list_all is_tidy_record rs ≡ true → list_all record_fits rs ≡ true
    → ((t : Totals) → o ≡ Some t → totals_fit t ≡ true) → BeginsReport (text_of (lines_of rs o))
begins rs None rise each fits counts = record {
  records = rs;
  totals = zero_totals;
  rest = text_of (Last zero_totals ∷ []);
  whole = record {
    tidy_records = tidy-of rs rise each;
    records_fit = fits;
    counts_fit = refl;
    is = ap (λ ls. text_of ls ++ text_of (Last zero_totals ∷ [])) (append-nil (records_lines rs))
        ∙ sym (text-append (records_lines rs) (Last zero_totals ∷ [])) ∙ report-lines rs zero_totals;
  };
}
begins rs (Some t) rise each fits counts = record {
  records = rs;
  totals = t;
  rest = [];
  whole = record {
    tidy_records = tidy-of rs rise each;
    records_fit = fits;
    counts_fit = counts t refl;
    is = append-nil (text_of (lines_of rs (Some t))) ∙ report-lines rs t;
  };
}

take-front : (a b : List ℕ) → take (length a) (a ++ b) ≡ a
take-front [] b = refl
take-front (x ∷ a) b = ap (λ r. x ∷ r) (take-front a b)

drop-front : (a b : List ℕ) → drop (length a) (a ++ b) ≡ b
drop-front [] b = refl
drop-front (x ∷ a) b = drop-front a b

take-on : (a b : List ℕ) (n : ℕ) → take (length a + n) (a ++ b) ≡ a ++ take n b
take-on a b n =
    take-add (length a) n (a ++ b) ∙ ap (λ x. x ++ take n (drop (length a) (a ++ b))) (take-front a b) ∙ ap (λ x. a ++ take n x) (drop-front a b)

less : (p n : ℕ) → nat_lt p n ≡ true → p < n
less p n h = grind (arith, nat_tests)

found-if : (n p k : ℕ) (b : Bool) → b ≡ nat_lt p n → cond b (Some p) None ≡ Some k → (p < n) × (p ≡ k)
found-if n p k true h is = (less p n (sym h), cc)
found-if n p k false h is = cc

-- the place of the first newline
pub newline-at : (t : List ℕ) (k : ℕ) → position (λ b. b == 10) t ≡ Some k → (position_or_len (λ b. b == 10) t < length t) × (position_or_len (λ b. b == 10) t ≡ k)
newline-at t k h = found-if (length t) (position_or_len (λ b. b == 10) t) k (nat_lt (position_or_len (λ b. b == 10) t) (length t)) refl h

front-of : (t : List ℕ) (k : ℕ) → position (λ b. b == 10) t ≡ Some k → one_line (take (k + 1) t) ≡ true
front-of t k h =
    let at = newline-at t k h in
    let turned : suc (position_or_len (λ b. b == 10) t) ≡ k + 1 = omega (arith, at.1) in
    subst (λ n. one_line (take n t) ≡ true) turned (front-ends t at.0)

-- the line at the offset can't stand
stop-more : (s : Taker) (rs : List Record) (t : Totals) (line tail rest : List ℕ) (more : List Line) (x : Taker)
    → Refuses s tail → one_line line ≡ true → (behind : List ℕ) → tail ≡ line ++ behind
    → list_all fit more ≡ true → text_of more ≡ line ++ rest → run (Some s) more ≡ Some x → ⊥
stop-more s rs t line tail rest [] x refuses ends behind is fits text ran = some-text line rest ends text
stop-more s rs t line tail rest (m ∷ ms) x refuses ends behind is fits text ran =
    let parts = and_parts (fit m) (list_all fit ms) fits in
    let cut = line-cut (line_text m) line (text_of ms) rest (fit-ends m parts.0) ends text in
    stuck s m ms x (refuses m behind parts.0 (ap (λ w. w ++ behind) cut.0 ∙ sym is)) ran

stop-at : (text : List ℕ) (at : ℕ) (s : Taker) → Reached text at s → Refuses s (drop at text)
    → (k : ℕ) → position (λ b. b == 10) (drop at text) ≡ Some k → BeginsReport (take (at + (k + 1)) text) → ⊥
stop-at text at s r refuses k found b =
    let front = text_of (lines s) in
    let tail = drop at text in
    let line = take (k + 1) tail in
    let taken_is : take (at + (k + 1)) text ≡ front ++ line =
    ap (λ n. take (n + (k + 1)) text) r.place ∙ ap (take (length front + (k + 1))) r.is ∙ take-on front tail (k + 1) in
    let is : take (at + (k + 1)) text ++ b.rest ≡ front ++ (line ++ b.rest) = ap (λ x. x ++ b.rest) taken_is ∙ append_assoc front line b.rest in
    let on = beyond s b.records b.totals (take (at + (k + 1)) text ++ b.rest) (line ++ b.rest) r.stands b.whole is in
    stop-more s b.records b.totals line tail b.rest on.more on.taker refuses (front-of tail k found) (drop (k + 1) tail) (sym (take-append-drop (k + 1) tail))
    on.fits on.text on.ran

stop-rest : (s : Taker) (t : Totals) (tail : List ℕ) (more : List Line) (x : Taker) → Refuses s tail → (tail ≡ [] → s.totals ≡ None)
    → list_all fit more ≡ true → text_of more ≡ tail → run (Some s) more ≡ Some x → x.totals ≡ Some t → ⊥
stop-rest s t tail [] x refuses open_end fits text ran ended =
    let same : s ≡ x = cc in
    let none = open_end (sym text) in
    let some = ap (λ y. y.totals) same ∙ ended in
    cc
stop-rest s t tail (m ∷ ms) x refuses open_end fits text ran ended =
    let parts = and_parts (fit m) (list_all fit ms) fits in
    stuck s m ms x (refuses m (text_of ms) parts.0 text) ran

stop-whole : (text : List ℕ) (at : ℕ) (s : Taker) → Reached text at s → Refuses s (drop at text) → (drop at text ≡ [] → s.totals ≡ None)
    → (rs : List Record) (t : Totals) → IsReport text rs t → ⊥
stop-whole text at s r refuses open_end rs t report =
    let on = beyond s rs t text (drop at text) r.stands report r.is in
    stop-rest s t (drop at text) on.more on.taker refuses open_end on.fits on.text on.ran on.totals

-- each exit without a report
pub fault : (text : List ℕ) (at : ℕ) (s : Taker) → Reached text at s → Refuses s (drop at text) → (drop at text ≡ [] → s.totals ≡ None) → NoReportAt text at
fault text at s r refuses open_end =
    let h = r.stands in
    let front = text_of (lines s) in
    let tail = drop at text in record {
      before = subst BeginsReport (sym (ap (λ n. take n text) r.place ∙ ap (take (length front)) r.is ∙ take-front front tail))
          (begins (all_of s) s.totals h.rise h.each h.fits h.counts);
      starts = r.starts;
      stops = λ k found b. stop-at text at s r refuses k found b;
      no_report = λ rs t report. stop-whole text at s r refuses open_end rs t report;
    }

-- ---- what the reader finds

not-less : (p n : ℕ) → nat_lt p n ≡ false → p < n → ⊥
not-less p n h small = grind (arith, nat_tests)

not-none : (p n : ℕ) (b : Bool) → b ≡ nat_lt p n → p < n → cond b (Some p) None ≡ None → ⊥
not-none p n true h small none = cc
not-none p n false h small none = not-less p n (sym h) small

line-found : (w x : List ℕ) → one_line w ≡ true → position_or_len (λ b. b == 10) (w ++ x) < length (w ++ x)
line-found [] x h = cc
line-found (b ∷ w) x h =
    elim (cases_eq b 10) [
      | inl is ↦ let yes : (b == 10) ≡ true = is-newline b is in rw yes (omega arith)
      | inr other ↦
          let nope : (b == 10) ≡ false = no-newline b other in
          let more = line-found w x (rw nope at h) in
          rw nope (omega (arith, more))
    ]

-- no newline follows
pub refuses-none : (s : Taker) (rest : List ℕ) → position (λ b. b == 10) rest ≡ None → Refuses s rest
refuses-none s rest none m x fits is =
    let found = line-found (line_text m) x (fit-ends m fits) in
    let here : position_or_len (λ b. b == 10) rest < length rest = subst (λ t. position_or_len (λ b. b == 10) t < length t) is found in
    absurd (not-none (position_or_len (λ b. b == 10) rest) (length rest) (nat_lt (position_or_len (λ b. b == 10) rest) (length rest)) refl here none)

same-bytes : (w : List ℕ) → bytes_eq w w ≡ true
same-bytes w = (bytes_eq-Decides w w).1 refl

taken-line : (s : Taker) (m : Line) → fit m ≡ true → taken s (line_text m) ≡ put s m
unfolding taken
taken-line s m fits =
    let parts = and_parts (line_fits m) (is_tidy_line m) fits in
    let is_tidy : is_tidy_line m ≡ true = parts.1 in
    let again = fit-read m fits in
    rw again (rw (is_tidy, same-bytes (line_text m)) refl)

-- the line that follows can't stand
pub refuses-line : (s : Taker) (rest : List ℕ) (k : ℕ) → position (λ b. b == 10) rest ≡ Some k → taken s (take (k + 1) rest) ≡ None → Refuses s rest
refuses-line s rest k found none m x fits is =
    let cut = line-cut (line_text m) (take (k + 1) rest) x (drop (k + 1) rest) (fit-ends m fits) (front-of rest k found)
    (is ∙ sym (take-append-drop (k + 1) rest)) in
    sym (taken-line s m fits) ∙ ap (taken s) cut.0 ∙ none

taken-if : (b : Bool) (o : Option Taker) (now : Taker) → (if b then o else None) ≡ Some now → (b ≡ true) × (o ≡ Some now)
taken-if true o now h = (refl, h)
taken-if false o now h = cc

-- the line that follows is taken
pub record Took (s : Taker) (line : List ℕ) (now : Taker) : Type 0 where
  pub grows : Grown s (line_of line) now
  pub text : line_text (line_of line) ≡ line

took : (s : Taker) (line : List ℕ) (now : Taker) → Stands s → taken s line ≡ Some now → Took s line now
unfolding taken
took s line now h is =
    let l = line_of line in
    let got = taken-if (is_tidy_line l && bytes_eq (line_text l) line) (put s l) now is in
    let parts = and_parts (is_tidy_line l) (bytes_eq (line_text l) line) got.0 in
    let fits = both (line_fits l) (is_tidy_line l) (read-fits line parts.0) parts.0 in
    record { grows = grown s l now h fits got.1; text = (bytes_eq-Decides (line_text l) line).0 parts.1 }

newline-there : (t : List ℕ) → position_or_len (λ b. b == 10) t < length t → get_or t (position_or_len (λ b. b == 10) t) 0 ≡ 10
newline-there [] h = absurd (omega arith)
newline-there (b ∷ t) h =
    elim (cases_eq b 10) [
      | inl is ↦ let yes : (b == 10) ≡ true = is-newline b is in rw yes is
      | inr other ↦
          let nope : (b == 10) ≡ false = no-newline b other in
          let more : position_or_len (λ c. c == 10) t < length t = omega (arith, rw nope at h) in
          rw nope (rw one-add (newline-there t more))
    ]

drop-on : (n m : ℕ) (t : List ℕ) → drop m (drop n t) ≡ drop (n + m) t
drop-on n m t = drop-drop m n t

pub reached-more : (text : List ℕ) (at : ℕ) (s : Taker) (k : ℕ) (now : Taker) → Reached text at s → position (λ b. b == 10) (drop at text) ≡ Some k
    → taken s (take (k + 1) (drop at text)) ≡ Some now → Reached text (at + (k + 1)) now
reached-more text at s k now r found is =
    let tail = drop at text in
    let line = take (k + 1) tail in
    let front = text_of (lines s) in
    let got = took s line now r.stands is in
    let here = newline-at tail k found in
    let grown_text : text_of (lines now) ≡ front ++ line =
    ap text_of got.grows.more ∙ text-append (lines s) (line_of line ∷ []) ∙ ap (λ x. front ++ x) (append-nil (line_text (line_of line)) ∙ got.text) in
    let split : tail ≡ line ++ drop (at + (k + 1)) text = sym (take-append-drop (k + 1) tail) ∙ ap (λ x. line ++ x) (drop-on at (k + 1) text) in
    let long : length line ≡ k + 1 = length-take-le (k + 1) tail (omega (arith, here.0, here.1)) in
    let ten : get_or text (at + k) 0 ≡ 10 = sym (get_or-drop at text k 0) ∙ ap (λ n. get_or tail n 0) (sym here.1) ∙ newline-there tail here.0 in
    let back : at + (k + 1) - 1 ≡ at + k = omega arith in
    record {
      stands = got.grows.stands;
      is = r.is ∙ ap (λ x. front ++ x) split ∙ sym (append_assoc front line (drop (at + (k + 1)) text)) ∙ ap (λ x. x ++ drop (at + (k + 1)) text) (sym grown_text);
      place = ap (λ n. n + (k + 1)) r.place ∙ sym (ap length grown_text ∙ length-append front line ∙ ap (λ n. length front + n) long);
      starts = λ some. ap (λ n. get_or text n 0) back ∙ ten;
    }

whole-report : (rs : List Record) (o : Option Totals) (t : Totals) (text : List ℕ) → tidy rs ≡ true → list_all record_fits rs ≡ true → totals_fit t ≡ true
    → o ≡ Some t → text ≡ text_of (lines_of rs o) → IsReport text rs t
whole-report rs o t text tidy_rs fits counts ended is =
    record { tidy_records = tidy_rs; records_fit = fits; counts_fit = counts; is = is ∙ ap (λ x. text_of (lines_of rs x)) ended ∙ report-lines rs t }

-- all was read
pub reached-end : (text : List ℕ) (at : ℕ) (s : Taker) (t : Totals) → Reached text at s → length text ≤ at → s.totals ≡ Some t → IsReport text (all_of s) t
reached-end text at s t r all ended =
    let h = r.stands in
    let is : text ≡ text_of (lines s) = r.is ∙ ap (λ x. text_of (lines s) ++ x) (drop_all at text all) ∙ append-nil (text_of (lines s)) in
    whole-report (all_of s) s.totals t text (tidy-of (all_of s) h.rise h.each) h.fits (h.counts t ended) ended is

no-lines : (ls : List Line) → list_all fit ls ≡ true → text_of ls ≡ [] → ls ≡ []
no-lines [] fits none = refl
no-lines (l ∷ ls) fits none =
    absurd (some-text (line_text l) (text_of ls) (fit-ends l (and_parts (fit l) (list_all fit ls) fits).0) (sym none))

-- a text is the report of one list of records and of one record of totals
pub one-report : (text : List ℕ) (rs ss : List Record) (t u : Totals) → IsReport text rs t → IsReport text ss u → (ss ≡ rs) × (u ≡ t)
one-report text rs ss t u a b =
    let fits_a = report-fits rs t (tidy-each rs a.tidy_records) a.records_fit a.counts_fit in
    let fits_b = report-fits ss u (tidy-each ss b.tidy_records) b.records_fit b.counts_fit in
    let same = report-lines ss u ∙ sym b.is ∙ a.is ∙ sym (report-lines rs t) ∙ sym (append-nil (text_of (lines_of rs (Some t)))) in
    let cut = lines-cut (lines_of rs (Some t)) (lines_of ss (Some u)) [] fits_a fits_b same in
    let none = no-lines cut.more (all-split fit (lines_of rs (Some t)) cut.more (subst (λ ls. list_all fit ls ≡ true) cut.is fits_b)).1 cut.text in
    let lines_same : lines_of ss (Some u) ≡ lines_of rs (Some t) = cut.is ∙ ap (λ x. lines_of rs (Some t) ++ x) none ∙ append-nil (lines_of rs (Some t)) in
    let end_a = told rs t a.tidy_records in
    let end_b = told ss u b.tidy_records in
    let takers : Some end_b.taker ≡ Some end_a.taker = sym end_b.is ∙ ap (run (Some start)) lines_same ∙ end_a.is in
    let taker : end_b.taker ≡ end_a.taker = cc in
    let counts : Some u ≡ Some t = sym end_b.totals ∙ ap (λ x. x.totals) taker ∙ end_a.totals in
    (sym end_b.records ∙ ap all_of taker ∙ end_a.records, cc)

-- ---- the loop's own words

pub rest-all : (text : List ℕ) (at : ℕ) → take (length text - at) (drop at text) ≡ drop at text
rest-all text at = take_all (length text - at) (drop at text) (omega (arith, length-drop at text))

pub line-taken : (text : List ℕ) (at k : ℕ) → take (at + k + 1 - at) (drop at text) ≡ take (k + 1) (drop at text)
line-taken text at k = let same : at + k + 1 - at ≡ k + 1 = omega arith in ap (λ n. take n (drop at text)) same

-- a line that can't stand
pub exit-line : (text : List ℕ) (at : ℕ) (s : Taker) (k : ℕ) → Reached text at s → position (λ b. b == 10) (drop at text) ≡ Some k
    → taken s (take (k + 1) (drop at text)) ≡ None → NoReportAt text at
exit-line text at s k r found none =
    fault text at s r (refuses-line s (drop at text) k found none)
    (λ e. let gone = sym found ∙ ap (position (λ b. b == 10)) e in cc)

-- a last line without a newline
pub exit-part : (text : List ℕ) (at : ℕ) (s : Taker) → Reached text at s → position (λ b. b == 10) (drop at text) ≡ None → at < length text → NoReportAt text at
exit-part text at s r none part =
    fault text at s r (refuses-none s (drop at text) none)
    (λ e. let empty = ap length e in absurd (omega (arith, empty, length-drop at text)))

finished-none : (rs : List Record) (o : Option Totals) → finished_with rs o ≡ None → o ≡ None
finished-none rs None h = refl
finished-none rs (Some t) h = cc

-- lines are missing
pub exit-end : (text : List ℕ) (at : ℕ) (s : Taker) → Reached text at s → position (λ b. b == 10) (drop at text) ≡ None → finished s ≡ None → NoReportAt text at
exit-end text at s r none open_end =
    fault text at s r (refuses-none s (drop at text) none) (λ e. finished-none (all_of s) s.totals open_end)

finished-some : (rs ss : List Record) (o : Option Totals) (t : Totals) → finished_with rs o ≡ Some (ss, t) → (rs ≡ ss) × (o ≡ Some t)
finished-some rs ss None t h = cc
finished-some rs ss (Some u) t h = let pair : ◌≡◌ {A = List Record × Totals} (rs, u) (ss, t) = cc in (ap (λ p. p.0) pair, ap (λ p. Some p.1) pair)

-- the report is whole
pub exit-whole : (text : List ℕ) (at : ℕ) (s : Taker) (rs : List Record) (t : Totals) → Reached text at s → length text ≤ at → finished s ≡ Some (rs, t)
    → IsReport text rs t
exit-whole text at s rs t r all end =
    let parts = finished-some (all_of s) rs s.totals t end in
    subst (λ x. IsReport text x t) parts.0 (reached-end text at s t r all parts.1)
