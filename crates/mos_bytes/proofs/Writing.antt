-- A text that is written piece by piece to a sink.
use Rattle.std.proofs.Common.{◌≡◌, ◌∙◌, ℕ, List, ◌++◌, subst, sym, Result, IsErr}
use Rattle.std.proofs.lemmas.Result.{MatchResult-from_err, MatchResult-weaker}
use Rattle.std.specs.declared.option.Option.{Option}
use Rattle.std.specs.Io.KnownBytes.{Appends}
use Rattle.std.proofs.KnownBytes.{Appends-trans}
use Rattle.mos_bytes.specs.Writes.{AppendsFront, WriteAdds}
use Rattle.mos_bytes.proofs.Writes.{AppendsFront-after, AppendsFront-more}

-- of the whole text, the rest is still to be written: what then follows the rest follows the whole
pub record Writing {S : Type 0} (taken : S → Option (List ℕ)) (faults : S → ℕ) (old now : S) (whole rest : List ℕ) : Type 0 where
  pub onward : (end : Option (List ℕ)) → Appends (taken now) end rest → Appends (taken old) end whole
  pub front : (end : Option (List ℕ)) → AppendsFront (taken now) end rest → AppendsFront (taken old) end whole
  pub still : faults now ≡ faults old

-- one more piece was written
pub Writing-more : {S : Type 0} (taken : S → Option (List ℕ)) (faults : S → ℕ) (old mid now : S) (whole piece rest left : List ℕ)
    → Writing taken faults old mid whole left → left ≡ piece ++ rest → Appends (taken mid) (taken now) piece → faults now ≡ faults mid
    → Writing taken faults old now whole rest
Writing-more taken faults old mid now whole piece rest left w is wrote still = record {
  onward = λ end p. w.onward end (subst (Appends (taken mid) end) (sym is) (Appends-trans (taken mid) (taken now) end piece rest wrote p));
  front = λ end p. w.front end (subst (AppendsFront (taken mid) end) (sym is) (AppendsFront-after (taken mid) (taken now) end piece rest wrote p));
  still = still ∙ w.still;
}

-- the next piece was written in part
pub Writing-failed : {S : Type 0} (taken : S → Option (List ℕ)) (faults : S → ℕ) (old mid now : S) (whole piece rest left : List ℕ)
    → Writing taken faults old mid whole left → left ≡ piece ++ rest → AppendsFront (taken mid) (taken now) piece
    → AppendsFront (taken old) (taken now) whole
Writing-failed taken faults old mid now whole piece rest left w is part =
    w.front (taken now) (subst (AppendsFront (taken mid) (taken now)) (sym is) (AppendsFront-more (taken mid) (taken now) piece rest part))

-- an error that leaves a front
pub WriteAdds-err : {T E : Type 0} (a b : Option (List ℕ)) (r : Result T E) (bytes : List ℕ) → IsErr r → AppendsFront a b bytes → WriteAdds a b r bytes
WriteAdds-err a b r bytes e part = MatchResult-from_err r (λ _. Appends a b bytes) (λ _. AppendsFront a b bytes) e (λ _. part)

-- a piece that was taken whole, and then what a call adds
pub WriteAdds-after : {T E : Type 0} (a b c : Option (List ℕ)) (r : Result T E) (bytes next : List ℕ)
    → Appends a b bytes → WriteAdds b c r next → WriteAdds a c r (bytes ++ next)
WriteAdds-after a b c r bytes next taken added =
    MatchResult-weaker r added (λ _ whole. Appends-trans a b c bytes next taken whole) (λ _ part. AppendsFront-after a b c bytes next taken part)
