-- What the dispatcher read of a capture.
use Rattle.std.proofs.Common.{◌≡◌, ℕ, ◌≤◌, Option, Some, None, List, [], ◌∷◌, ◌++◌, Result, Ok, Err, refl, sym, ap, ◌∙◌, append_assoc, append-nil, arith}
use Rattle.mos_bytes.specs.Causes.{HasCauseOf}
use Rattle.mos_bytes.proofs.Causes.{Rose-earlier}
use Rattle.pcap_source.specs.Captured.{Captured}
use Rattle.pcap_source.specs.Capture.{Ending, tail, too_long, too_many, ended}
use Rattle.pcap_source.specs.Reading.{CaptureState, NextGives, frames_at}
use Rattle.pcap_source.specs.declared.capture.Step.TheVariants.{Frame, Tail, End}
use Rattle.pcap_source.specs.declared.errors.NextError.{NextError}
use Rattle.pcap_source.specs.declared.errors.NextError.TheVariants.{TooLong, TooMany, ReadFault, NoMemory}
use Rattle.worker_pool.specs.GoesOn.{behind, IsReadTo}
use Rattle.worker_pool.specs.Inputs.{ReadsAs}

-- a fault of a call, told again, has its cause since an earlier moment
pub HasCause-since : {told again : Type 0} (first before now : ℕ) → first ≤ before → HasCauseOf before now told → (again → told) → HasCauseOf first now again
HasCause-since first before now earlier call same = record {
  later = let later = call.later in omega (arith, earlier, later);
  cause = λ fault. Rose-earlier first before now earlier (call.cause (same fault));
}

pub same_error : {T E : Type 0} (a b : E) (r : Result T E) → r ≡ Err a → r ≡ Err b → a ≡ b
same_error a b r one two = cc

pub read_none : (capture : CaptureState) (bytes : List ℕ) (left : Option (List ℕ)) → left ≡ Some bytes → IsReadTo capture bytes [] capture left
read_none capture bytes left told = record { rest = bytes; told = told; holds = refl }

module _ (start : CaptureState) (bytes : List ℕ) (frames : List Captured) (old new : CaptureState) (frame : Captured) where
  -- one frame more
  pub read_more : (before after : Option (List ℕ)) → NextGives old new before after frame (Ok Frame) → IsReadTo start bytes frames old before → IsReadTo start bytes (frames ++ frame ∷ []) new after
  read_more None after gives r = let told = r.told in absurd (cc)
  read_more (Some b) None gives r = absurd gives
  read_more (Some b) (Some a) gives r = record {
    rest = a;
    told = refl;
    holds =
        let told = r.told in
        let same : r.rest ≡ b = cc in
        let others = frames_at new a in
        r.holds ∙ ap (λ l. behind frames (frames_at old l)) same ∙ ap (behind frames) gives
        ∙ ap (λ l. record { frames = l; ending = others.ending }) (sym (append_assoc frames (frame ∷ []) others.frames));
  }

  -- and then no more
  at-end : (ending : Ending) (b : List ℕ) → frames_at old b ≡ ended ending → (before : Option (List ℕ)) → before ≡ Some b → IsReadTo start bytes frames old before
      → frames_at start bytes ≡ record { frames = frames; ending = ending }
  at-end ending b is before known r =
      let told = r.told in
      let same : r.rest ≡ b = cc in
      r.holds ∙ ap (λ l. behind frames (frames_at old l)) same ∙ ap (behind frames) is ∙ ap (λ l. record { frames = l; ending = ending }) (append-nil frames)

  pub read_tail : (n : ℕ) (before after : Option (List ℕ)) → NextGives old new before after frame (Ok (Tail n)) → IsReadTo start bytes frames old before
      → (frames_at start bytes ≡ record { frames = frames; ending = tail n }) × (after ≡ Some [])
  read_tail n None after gives r = let told = r.told in absurd (cc)
  read_tail n (Some b) None gives r = absurd gives
  read_tail n (Some b) (Some a) gives r = (at-end (tail n) b gives.0 (Some b) refl r, ap (λ l. Some l) gives.2)

  pub read_end : (before after : Option (List ℕ)) → NextGives old new before after frame (Ok End) → IsReadTo start bytes frames old before
      → (frames_at start bytes ≡ record { frames = frames; ending = tail 0 }) × (after ≡ Some [])
  read_end None after gives r = let told = r.told in absurd (cc)
  read_end (Some b) None gives r = absurd gives
  read_end (Some b) (Some a) gives r = (at-end (tail 0) b gives.0 (Some b) refl r, ap (λ l. Some l) gives.1)

-- a fault of the source where nothing is left: no more whole records, and no refusal
pub read_cut : (start old new : CaptureState) (bytes : List ℕ) (frames : List Captured) (frame : Captured) (before after : Option (List ℕ)) → NextGives old new before after frame (Err ReadFault)
    → IsReadTo start bytes frames old before → after ≡ Some [] → (n : ℕ) × ((frames_at start bytes).ending ≡ tail n)
read_cut start old new bytes frames frame None after gives r none = let told = r.told in absurd (cc)
read_cut start old new bytes frames frame (Some b) None gives r none = absurd gives
read_cut start old new bytes frames frame (Some b) (Some a) gives r none =
    let last : a ≡ [] = cc in
    let cut = gives last in
    (cut.0, ap (λ f. f.ending) (at-end start bytes frames old new frame (tail cut.0) b cut.1 (Some b) refl r))

-- a refusal is that of the whole capture
pub read_refused : (start old new : CaptureState) (frames : List Captured) (frame : Captured) (first before after last : Option (List ℕ)) (e : NextError) → NextGives old new before after frame (Err e)
    → ((bytes : List ℕ) → first ≡ Some bytes → IsReadTo start bytes frames old before) → ReadsAs frames start first last (Err e)
read_refused start old new frames frame first None after last (TooLong offset) gives reads = λ bytes is. let r = reads bytes is in let told = r.told in absurd (cc)
read_refused start old new frames frame first (Some b) None last (TooLong offset) gives reads = absurd gives
read_refused start old new frames frame first (Some b) (Some a) last (TooLong offset) gives reads =
    λ bytes is. ap (λ f. f.ending) (at-end start bytes frames old new frame (too_long offset) b gives (Some b) refl (reads bytes is))
read_refused start old new frames frame first None after last (TooMany offset) gives reads = λ bytes is. let r = reads bytes is in let told = r.told in absurd (cc)
read_refused start old new frames frame first (Some b) None last (TooMany offset) gives reads = absurd gives
read_refused start old new frames frame first (Some b) (Some a) last (TooMany offset) gives reads =
    λ bytes is. ap (λ f. f.ending) (at-end start bytes frames old new frame (too_many offset) b gives (Some b) refl (reads bytes is))
read_refused start old new frames frame first before after last ReadFault gives reads = tt
read_refused start old new frames frame first before after last NoMemory gives reads = tt
