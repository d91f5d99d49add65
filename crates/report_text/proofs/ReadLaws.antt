-- Reading and writing are each other's inverse, and a text stops being a report at one place.
use Rattle.std.proofs.Common.{◌≡◌, ℕ, zero, suc, ◌+◌, ◌-◌, ◌<◌, ◌≤◌, true, false, List, [], ◌∷◌, ◌++◌, length, take, drop, get_or, refl, ap, sym, subst, ◌∙◌, arith, append_assoc, inl, inr, Ok, Err, Some, get_or-drop, take-append-drop}
use Rattle.std.specs.Prelude.{◌==◌}
use Rattle.std.specs.List.{position, position_or_len}
use Rattle.std.proofs.lemmas.Bool.{cases_eq, cases_lt, false≢true}
use Rattle.std.proofs.lemmas.List.{take-take, drop_at}
use Rattle.report_text.specs.declared.read.ReadBack.TheVariants.{NoReport, NoMemory}
use Rattle.report_text.specs.Report.{report_text}
use Rattle.report_text.specs.Reports.{IsReport, BeginsReport, NoReportAt}
use Rattle.report_text.specs.ReadLaws.{ReadsBack, WrittenIsRead, GainedIsRead, ReadIsWritten, OneOffset}
use Rattle.report_text.proofs.ReadCut.{is-newline, no-newline}
use Rattle.report_text.proofs.ReadFits.{within}
use Rattle.report_text.proofs.ReadFault.{one-report}

pub written-is-read : WrittenIsRead
written-is-read rs t tidy_rs fits counts (Ok p) h =
    let written : IsReport (report_text rs t) rs t = record { tidy_records = tidy_rs; records_fit = fits; counts_fit = counts; is = refl } in
    (one-report (report_text rs t) rs p.0 t p.1 written h.report, tt)
written-is-read rs t tidy_rs fits counts (Err (NoReport offset)) h =
    let written : IsReport (report_text rs t) rs t = record { tidy_records = tidy_rs; records_fit = fits; counts_fit = counts; is = refl } in
    absurd ((h.none offset refl).no_report rs t written)
written-is-read rs t tidy_rs fits counts (Err NoMemory) h = (tt, refl)

pub gained-is-read : GainedIsRead
gained-is-read before after (Ok u) rs t tidy_rs fits counts added ok read h =
    written-is-read rs t tidy_rs fits counts read
    (subst (λ text. ReadsBack text read) (ap (drop (length before)) added ∙ drop_at before (report_text rs t) _ refl) h)
gained-is-read before after (Err e) rs t tidy_rs fits counts added ok read h = absurd (false≢true ok)

pub read-is-written : ReadIsWritten
read-is-written text (Ok p) h = sym h.report.is
read-is-written text (Err e) h = tt

-- a newline that is there is no earlier than the first one
newline-by : (t : List ℕ) (i : ℕ) → get_or t i 0 ≡ 10 → (position_or_len (λ b. b == 10) t ≤ i) × (position_or_len (λ b. b == 10) t < length t)
newline-by [] i h = cc
newline-by (b ∷ t) zero h = let yes : (b == 10) ≡ true = is-newline b h in rw yes (omega arith, omega arith)
newline-by (b ∷ t) (suc i) h =
    elim (cases_eq b 10) [
      | inl is ↦ let yes : (b == 10) ≡ true = is-newline b is in rw yes (omega arith, omega arith)
      | inr other ↦
          let nope : (b == 10) ≡ false = no-newline b other in
          let more = newline-by t i h in
          rw nope (omega (arith, more.0), omega (arith, more.1))
    ]

position-there : (t : List ℕ) → position_or_len (λ b. b == 10) t < length t → position (λ b. b == 10) t ≡ Some (position_or_len (λ b. b == 10) t)
position-there t h = let yes = within (position_or_len (λ b. b == 10) t) (length t) h in rw yes refl

begins-less : (text : List ℕ) (c b : ℕ) → c ≤ b → BeginsReport (take b text) → BeginsReport (take c text)
begins-less text c b h from_b =
    let split : take c text ++ drop c (take b text) ≡ take b text =
    ap (λ x. x ++ drop c (take b text)) (sym (take-take c b text h)) ∙ take-append-drop c (take b text) in
    let whole = from_b.whole in
    record {
      records = from_b.records;
      totals = from_b.totals;
      rest = drop c (take b text) ++ from_b.rest;
      whole = record {
        tidy_records = whole.tidy_records;
        records_fit = whole.records_fit;
        counts_fit = whole.counts_fit;
        is = sym (append_assoc (take c text) (drop c (take b text)) from_b.rest) ∙ ap (λ x. x ++ from_b.rest) split ∙ whole.is;
      };
    }

not-before : (text : List ℕ) (a b : ℕ) → NoReportAt text a → NoReportAt text b → a < b → ⊥
not-before text a b at_a at_b less =
    let p = position_or_len (λ c. c == 10) (drop a text) in
    let same : a + (b - 1 - a) ≡ b - 1 = omega arith in
    let ten : get_or (drop a text) (b - 1 - a) 0 ≡ 10 =
    get_or-drop a text (b - 1 - a) 0 ∙ ap (λ n. get_or text n 0) same ∙ at_b.starts (omega arith) in
    let by = newline-by (drop a text) (b - 1 - a) ten in
    let near : p ≤ b - 1 - a = by.0 in
    at_a.stops p (position-there (drop a text) by.1) (begins-less text (a + (p + 1)) b (omega (arith, near)) at_b.before)

pub one-offset : OneOffset
one-offset text a b at_a at_b =
    elim (cases_lt a b) [
      | inl less ↦ absurd (not-before text a b at_a at_b less)
      | inr le ↦ elim (cases_lt b a) [
        | inl more ↦ absurd (not-before text b a at_b at_a more)
        | inr ge ↦ omega arith
      ]
    ]
