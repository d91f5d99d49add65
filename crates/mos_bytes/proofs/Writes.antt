-- How the pieces that a sink takes one after another add up.
use Rattle.std.proofs.Common.{◌≡◌, List, ℕ, [], ◌+◌, ◌-◌, ◌++◌, length, take, drop, None, Some, Result, Ok, Err, refl, sym, ap, subst, ◌∙◌, arith, append_assoc, append-nil, length-drop, take_all}
use Rattle.std.proofs.lemmas.List.{append_cancel_left, take-append-drop}
use Rattle.std.proofs.Math.Seq.{take-add}
use Rattle.std.specs.declared.option.Option.{Option}
use Rattle.std.specs.Io.KnownBytes.{Appends, Keeps}
use Rattle.std.proofs.KnownBytes.{Appends-kept, Appends-nil, Appends-trans, starts_with_rest}
use Rattle.mos_bytes.specs.Gathers.{IsBetween}
use Rattle.mos_bytes.specs.Writes.{AppendsFront, WriteAdds}

-- nothing is a front of everything
pub AppendsFront-nil : (a : Option (List ℕ)) (bytes : List ℕ) → AppendsFront a a bytes
AppendsFront-nil a bytes = record { front = []; rest = bytes; added = Appends-nil a; whole = refl }

-- what was taken whole is a front of what was to follow it
pub AppendsFront-whole : (a b : Option (List ℕ)) (bytes more : List ℕ) → Appends a b bytes → AppendsFront a b (bytes ++ more)
AppendsFront-whole a b bytes more taken = record { front = bytes; rest = more; added = taken; whole = refl }

-- a piece taken whole, and then a front of the next
pub AppendsFront-after : (a b c : Option (List ℕ)) (bytes next : List ℕ) → Appends a b bytes → AppendsFront b c next → AppendsFront a c (bytes ++ next)
AppendsFront-after a b c bytes next taken part = record {
  front = bytes ++ part.front;
  rest = part.rest;
  added = Appends-trans a b c bytes part.front taken part.added;
  whole = ap (λ l. bytes ++ l) part.whole ∙ sym (append_assoc bytes part.front part.rest);
}

-- a front of a piece is a front of the piece with more behind it
pub AppendsFront-more : (a b : Option (List ℕ)) (bytes more : List ℕ) → AppendsFront a b bytes → AppendsFront a b (bytes ++ more)
AppendsFront-more a b bytes more part = record {
  front = part.front;
  rest = part.rest ++ more;
  added = part.added;
  whole = ap (λ l. l ++ more) part.whole ∙ append_assoc part.front part.rest more;
}

-- a piece that a writer took behind what it took of the same bytes before
pub Appends-next : (a b d : Option (List ℕ)) (bytes : List ℕ) (done count : ℕ) → Appends a b (take done bytes)
    → Appends b d (take count (take (length bytes - done) (drop done bytes))) → Appends a d (take (done + count) bytes)
Appends-next a b d bytes done count before next =
    let rest : take (length bytes - done) (drop done bytes) ≡ drop done bytes = take_all _ _ (omega (arith, length-drop done bytes)) in
    subst (Appends a d) (ap (λ l. take done bytes ++ take count l) rest ∙ sym (take-add done count bytes))
    (Appends-trans a b d (take done bytes) (take count (take (length bytes - done) (drop done bytes))) before next)

-- what a writer took so far, where it took nothing more
pub AppendsFront-kept : (a b d : Option (List ℕ)) (bytes : List ℕ) (done : ℕ) → Appends a b (take done bytes) → Keeps b d → AppendsFront a d bytes
AppendsFront-kept a b d bytes done before kept = record {
  front = take done bytes;
  rest = drop done bytes;
  added = Appends-kept a b d (take done bytes) before kept;
  whole = sym (take-append-drop done bytes);
}

-- the same after a call that took none of a piece
pub AppendsFront-none : (a b d : Option (List ℕ)) (bytes piece : List ℕ) (done count : ℕ) → Appends a b (take done bytes) → Appends b d (take count piece) → count ≡ 0
    → AppendsFront a d bytes
AppendsFront-none a b d bytes piece done count before next none =
    let nothing : Appends b d [] = subst (λ k. Appends b d (take k piece)) none next in
    record {
      front = take done bytes ++ [];
      rest = drop done bytes;
      added = Appends-trans a b d (take done bytes) [] before nothing;
      whole = sym (take-append-drop done bytes) ∙ ap (λ l. l ++ drop done bytes) (sym (append-nil (take done bytes)));
    }

-- a piece taken whole, and then what a call took of the next
pub WriteAdds-after : {T E : Type 0} (a b c : Option (List ℕ)) (bytes next : List ℕ) (result : Result T E) → Appends a b bytes → WriteAdds b c result next
    → WriteAdds a c result (bytes ++ next)
WriteAdds-after a b c bytes next (Ok value) taken last = Appends-trans a b c bytes next taken last
WriteAdds-after a b c bytes next (Err error) taken last = AppendsFront-after a b c bytes next taken last

-- what a sink below took, between its start and all that was given, is a front of a text where that is
pub AppendsFront-between : (a b c : Option (List ℕ)) (text : List ℕ) → AppendsFront a c text → IsBetween a b c → AppendsFront a b text
AppendsFront-between None b c text part between = record { front = []; rest = text; added = tt; whole = refl }
AppendsFront-between (Some x) None c text part between = absurd between
AppendsFront-between (Some x) (Some y) None text part between = absurd between
AppendsFront-between (Some x) (Some y) (Some z) text part between =
    let front = drop (length x) y in
    let more = drop (length y) z in
    let taken : y ≡ x ++ front = starts_with_rest y x between.0 in
    let given : x ++ part.front ≡ x ++ (front ++ more) =
    sym part.added ∙ starts_with_rest z y between.1 ∙ ap (λ l. l ++ more) taken ∙ append_assoc x front more in
    record {
      front = front;
      rest = more ++ part.rest;
      added = taken;
      whole = part.whole ∙ ap (λ l. l ++ part.rest) (append_cancel_left x part.front (front ++ more) given) ∙ append_assoc front more part.rest;
    }
