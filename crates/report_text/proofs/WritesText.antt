-- A text that calls write one piece after another.
use Rattle.std.proofs.Common.{◌≡◌, ◌∙◌, List, ℕ, [], ◌++◌, Result, Ok, Err, refl, sym, subst, le_refl}
use Rattle.std.specs.Prelude.{⊤, IsErrAnd, OnOk}
use Rattle.std.proofs.KnownBytes.{Appends-nil}
use Rattle.mos_bytes.specs.declared.sink.Sink.{Ghosts as Sink}
use Rattle.mos_bytes.proofs.Causes.{HasCauseOf-earlier}
use Rattle.mos_bytes.proofs.Writes.{AppendsFront-more, AppendsFront-nil}
use Rattle.mos_bytes.proofs.Writing.{WriteAdds-after}
use Rattle.report_text.specs.declared.write.TextError.{TextError}
use Rattle.report_text.specs.declared.write.TextError.TheVariants.{NoMemory}
use Rattle.report_text.specs.Written.{WritesText}

module _ {S : Type 0} (sink : Sink S) where
  -- nothing was to be written
  pub wrote-none : {T : Type 0} (s : S) (value : T) → WritesText sink s s (Ok value) []
  wrote-none s value = record {
    adds = Appends-nil (sink.taken s);
    to = record { cause = record { later = le_refl (sink.faults s); cause = λ e. cc e }; lasts = refl };
    still = refl;
    refused = λ _. refl;
  }

  -- memory was refused before anything was written
  pub refused-before : {T : Type 0} (s : S) (r : Result T TextError) (text : List ℕ) → IsErrAnd r (λ f. f ≡ NoMemory) → WritesText sink s s r text
  refused-before s (Ok value) text refused = absurd refused
  refused-before s (Err f) text refused = record {
    adds = AppendsFront-nil (sink.taken s) text;
    to = record { cause = record { later = le_refl (sink.faults s); cause = λ is. cc (refused, is) }; lasts = refl };
    still = tt;
    refused = λ _. refl;
  }

  -- a count that stayed in one call and in the next
  still-after : {T : Type 0} (a b c : ℕ) (r : Result T TextError) → b ≡ a → OnOk r (c ≡ b) → OnOk r (c ≡ a)
  still-after a b c (Ok value) whole last = last ∙ whole
  still-after a b c (Err e) whole last = tt

  -- a piece was written whole, and then what a call writes
  pub wrote-after : {T U : Type 0} (a b c : S) (value : U) (r : Result T TextError) (piece next : List ℕ)
      → WritesText {T = U} sink a b (Ok value) piece → WritesText sink b c r next → WritesText sink a c r (piece ++ next)
  wrote-after a b c value r piece next whole last = record {
    adds = WriteAdds-after _ _ _ r piece next whole.adds last.adds;
    to = record { cause = HasCauseOf-earlier _ _ _ _ whole.to.cause.later last.to.cause; lasts = last.to.lasts ∙ whole.to.lasts };
    still = still-after _ _ _ r whole.still last.still;
    refused = λ is. last.refused is ∙ whole.still;
  }

  -- an error is handed on
  pub wrote-handed : {T U : Type 0} (a b : S) (e : TextError) (r : Result T TextError) (text : List ℕ)
      → WritesText {T = U} sink a b (Err e) text → IsErrAnd r (λ f. f ≡ e) → WritesText sink a b r text
  wrote-handed a b e (Ok value) text part handed = absurd handed
  wrote-handed a b e (Err f) text part handed = record {
    adds = part.adds;
    to = record { cause = record { later = part.to.cause.later; cause = λ is. part.to.cause.cause (cc (handed, is)) }; lasts = part.to.lasts };
    still = tt;
    refused = λ is. part.refused (cc (handed, is));
  }

  -- a call failed at a piece, with more behind it
  pub wrote-part : {T U : Type 0} (a b : S) (e : TextError) (r : Result T TextError) (piece next : List ℕ)
      → WritesText {T = U} sink a b (Err e) piece → IsErrAnd r (λ f. f ≡ e) → WritesText sink a b r (piece ++ next)
  wrote-part a b e r piece next part handed =
      wrote-handed a b e r (piece ++ next) (record { adds = AppendsFront-more _ _ piece next part.adds; to = part.to; still = tt; refused = part.refused }) handed

  -- of a whole text, the rest is still to be written: what then writes the rest has written the whole
  abbrev pub Underway : S → S → List ℕ → List ℕ → Type 0
  Underway old now whole rest = (end : S) (r : Result ⊤ TextError) → WritesText sink now end r rest → WritesText sink old end r whole

  -- one more piece was written
  pub underway-more : {U : Type 0} (old mid now : S) (value : U) (whole piece rest left : List ℕ)
      → Underway old mid whole left → left ≡ piece ++ rest → WritesText {T = U} sink mid now (Ok value) piece → Underway old now whole rest
  underway-more old mid now value whole piece rest left way is wrote =
      λ end r last. way end r (subst (WritesText sink mid end r) (sym is) (wrote-after mid now end value r piece rest wrote last))

  -- a call failed at the next piece
  pub underway-part : {U : Type 0} (old mid now : S) (e : TextError) (r : Result ⊤ TextError) (whole piece rest left : List ℕ)
      → Underway old mid whole left → left ≡ piece ++ rest → WritesText {T = U} sink mid now (Err e) piece → IsErrAnd r (λ f. f ≡ e)
      → WritesText sink old now r whole
  underway-part old mid now e r whole piece rest left way is part handed =
      way now r (subst (WritesText sink mid now r) (sym is) (wrote-part mid now e r piece rest part handed))

  -- all was written
  pub underway-done : (old now : S) (value : ⊤) (whole left : List ℕ) → Underway old now whole left → left ≡ [] → WritesText sink old now (Ok value) whole
  underway-done old now value whole left way none = way now (Ok value) (subst (WritesText sink now now (Ok value)) (sym none) (wrote-none now value))
