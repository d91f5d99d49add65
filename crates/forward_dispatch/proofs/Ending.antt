-- A forward run whose reading has ended, and whose last packets leave.
use Rattle.std.proofs.Common.{◌≡◌, ◌≢◌, ◌≤◌, ℕ, Option, List, length, refl, sym, ap, subst, ◌∙◌, ◌⊎◌, ⊎_elim, inl, inr, arith}
use Rattle.std.specs.Prelude.{Result, Ok, Err, OnOk, IfErr, IsOk, IsErrOf}
use Rattle.std.proofs.lemmas.List.{length-map}
use Rattle.pcap_source.specs.Captured.{Captured}
use Rattle.pcap_source.specs.Reading.{CaptureState}
use Rattle.ip6_views.specs.Sight.{sight_of, lane_of_sight}
use Rattle.control_script.specs.declared.stamped.Stamped.{Stamped}
use Rattle.lane_core.specs.declared.recorder.Recorder.{Ghosts}
use Rattle.lane_composition.specs.Forward.{HaveLeft, HasLeft}
use Rattle.lane_worker.specs.declared.worker.Worker.{Worker}
use Rattle.worker_pool.specs.declared.team.dispatch.Whole.{Whole}
use Rattle.worker_pool.specs.declared.job.PoolError.{PoolError}
use Rattle.worker_pool.specs.declared.job.PoolError.TheVariants.{ReadFault, WriteFault, NoMemory}
use Rattle.worker_pool.specs.Inputs.{Dealt}
use Rattle.forward_dispatch.specs.declared.dispatch.Dealing.{Dealing}
use Rattle.forward_dispatch.specs.Given.{given_from}
use Rattle.forward_dispatch.specs.Streamed.{StopsAs, Streamed, lanes_of, lane_at}
use Rattle.forward_dispatch.specs.Turns.{LeavesSo, IsLeftSo, Settles, IsRead}
use Rattle.worker_pool.proofs.Source.{no_value}
use Rattle.forward_dispatch.proofs.Turning.{settled_sent, settled_leaves, settled_cut}

-- ---- what it ends with

-- as reading did, or because the last packets could not leave
pub how : {U : Type 0} (read : Result Whole PoolError) (settled : Result U PoolError) (result : Result Whole PoolError) → OnOk settled (result ≡ read)
    → (settled ≡ Err WriteFault → result ≡ Err WriteFault) → IfErr settled (λ e. e ≢ WriteFault → IfErr read (λ first. result ≡ Err first)) → IfErr settled (λ e. IsOk read → result ≡ Err e)
    → IfErr settled (λ e. (e ≡ WriteFault) ⊎ (e ≡ NoMemory))
    → (result ≡ read) ⊎ (((result ≡ Err WriteFault) × (settled ≡ Err WriteFault)) ⊎ ((result ≡ Err NoMemory) × IsOk read))
how read (Ok u) result well fault other only kinds = inl well
how (Ok whole) (Err e) result well fault other only kinds = ⊎_elim
    (λ is. inr (inl (fault (ap Err is), ap Err is)))
    (λ is. inr (inr (only refl ∙ ap Err is, refl)))
    kinds
how (Err f) (Err e) result well fault other only kinds = ⊎_elim
    (λ is. inr (inl (fault (ap Err is), ap Err is)))
    (λ is. inl (other (λ not. (let same = sym is ∙ not in cc))))
    kinds

-- a run that ends well has settled
pub ok_settled : {U : Type 0} (read : Result Whole PoolError) (settled : Result U PoolError) (result : Result Whole PoolError)
    → (settled ≡ Err WriteFault → result ≡ Err WriteFault) → IfErr settled (λ e. e ≢ WriteFault → IfErr read (λ first. result ≡ Err first)) → IfErr settled (λ e. IsOk read → result ≡ Err e)
    → IfErr settled (λ e. (e ≡ WriteFault) ⊎ (e ≡ NoMemory)) → IsOk result → IsOk settled
ok_settled read (Ok u) result fault other only kinds ok = refl
ok_settled (Ok whole) (Err e) result fault other only kinds ok = absurd (no_value e result (only refl) ok)
ok_settled (Err f) (Err e) result fault other only kinds ok = ⊎_elim
    (λ is. absurd (no_value WriteFault result (fault (ap Err is)) ok))
    (λ is. absurd (no_value f result (other (λ not. (let same = sym is ∙ not in cc))) ok))
    kinds

pub when_ok : {T E P : Type 0} (result : Result T E) → OnOk result P → IsOk result → P
when_ok (Ok value) p ok = p
when_ok (Err e) p ok = absurd (cc)

module _ (read result : Result Whole PoolError) where
  abbrev Ends : Type 0 → Type 0
  Ends fault = (result ≡ read) ⊎ (((result ≡ Err WriteFault) × fault) ⊎ ((result ≡ Err NoMemory) × IsOk read))

  pub ends_ok : {fault : Type 0} → Ends fault → IsOk result → IsOk read
  ends_ok ends ok = ⊎_elim (λ same. subst IsOk same ok) (λ h. ⊎_elim (λ w. absurd (no_value WriteFault result w.0 ok)) (λ m. m.1) h) ends

  pub ends_stops : {fault : Type 0} (frames : List Captured) (start : CaptureState) (first left : Option (List ℕ)) → Ends fault → StopsAs frames start first left read → StopsAs frames start first left result
  ends_stops frames start first left ends stops = ⊎_elim
      (λ same. subst (StopsAs frames start first left) (sym same) stops)
      (λ h. ⊎_elim
      (λ w. subst (StopsAs frames start first left) (sym w.0) tt)
      (λ m. subst (StopsAs frames start first left) (sym m.0) tt) h)
      ends

  pub ends_read_fault : {fault : Type 0} → Ends fault → IsErrOf result ReadFault → IsErrOf read ReadFault
  ends_read_fault ends is = ⊎_elim
      (λ same. subst (λ r. IsErrOf r ReadFault) same is)
      (λ h. ⊎_elim (λ w. absurd (let e = subst (λ r. IsErrOf r ReadFault) w.0 is in cc)) (λ m. absurd (let e = subst (λ r. IsErrOf r ReadFault) m.0 is in cc)) h)
      ends

  pub ends_write_fault : {fault : Type 0} → Ends fault → IsErrOf result WriteFault → IsErrOf read WriteFault ⊎ fault
  ends_write_fault ends is = ⊎_elim
      (λ same. inl (subst (λ r. IsErrOf r WriteFault) same is))
      (λ h. ⊎_elim (λ w. inr w.1) (λ m. absurd (let e = subst (λ r. IsErrOf r WriteFault) m.0 is in cc)) h)
      ends

pub ends_error : {fault : Type 0} (read result : Result Whole PoolError) → (result ≡ read) ⊎ (((result ≡ Err WriteFault) × fault) ⊎ ((result ≡ Err NoMemory) × IsOk read))
    → IfErr read (λ e. (result ≡ Err e) ⊎ (result ≡ Err WriteFault))
ends_error (Ok whole) result ends = tt
ends_error (Err f) result ends = ⊎_elim (λ same. inl same) (λ h. ⊎_elim (λ w. inr w.0) (λ m. absurd (let ok = m.1 in cc)) h) ends

-- a run that a write fault or want of memory ended ends so
pub ends_early : (read result : Result Whole PoolError) → IfErr read (λ e. (result ≡ Err e) ⊎ (result ≡ Err WriteFault)) → (read ≡ Err WriteFault) ⊎ (read ≡ Err NoMemory)
    → (result ≡ Err WriteFault) ⊎ (result ≡ Err NoMemory)
ends_early read result error early = ⊎_elim
    (λ is. ⊎_elim (λ w. inl w) (λ w. inl w) (subst (λ r. IfErr r (λ e. (result ≡ Err e) ⊎ (result ≡ Err WriteFault))) is error))
    (λ is. ⊎_elim (λ m. inr m) (λ w. inl w) (subst (λ r. IfErr r (λ e. (result ≡ Err e) ⊎ (result ≡ Err WriteFault))) is error))
    early

-- ---- what has left

module _ {L : Type 0} (frames : List Captured) (d : Dealing L) (before out : Option (List ℕ)) where
  as_many : length (lanes_of (length d.way.all_answers.items) frames) ≡ length frames
  as_many = length-map frames (λ (f : Captured). lane_of_sight (sight_of f.bytes) (length d.way.all_answers.items))

  pub cut_frames : IsLeftSo frames d before out → HasLeft (lane_at (length d.way.all_answers.items) frames) (length frames) (given_from d.way.all_answers.items) before out
  cut_frames l = subst (λ n. HasLeft (lane_at (length d.way.all_answers.items) frames) n (given_from d.way.all_answers.items) before out) as_many l

  -- where none is on its way
  pub all_frames : length d.way.lanes.items ≤ 0 → LeavesSo frames d before out → HaveLeft (lane_at (length d.way.all_answers.items) frames) (length frames) (given_from d.way.all_answers.items) before out
  all_frames none l =
      let s = l.sent in
      let e : d.way.next ≡ length frames = omega (arith, s, as_many, none) in
      subst (λ n. HaveLeft (lane_at (length d.way.all_answers.items) frames) n (given_from d.way.all_answers.items) before out) e l.left

module _ {L : Type 0} (g : Ghosts L) (script : List Stamped) (begins : List (Worker L)) (frames : List Captured) (start : CaptureState) (first left before old new : Option (List ℕ)) (a : Dealing L)
    (read : Result Whole PoolError) (r : IsRead g script start first left begins a before old frames read) where
  -- a record was cut off while the capture was read
  pub told_cut : read ≡ Err WriteFault → Dealt g script begins a.inputs.items (λ sent. Streamed begins sent a.way.all_answers.items start first left before old read)
  told_cut is = record {
    frames = frames;
    few = r.few;
    inputs_are = r.sent.inputs_are;
    done = record {
      all_answers_are = r.sent.all_answers_are;
      left = cut_frames frames a before old r.left_so;
      whole = λ ok. absurd (no_value WriteFault read is ok);
      front = r.front;
      stops = r.stops;
    };
  }

  -- it was not, and then all left, as far as it went
  pub told_settled : {whole : Type 0} (b : Dealing L) (result : Result Whole PoolError) → read ≢ Err WriteFault → Settles g script a b old new whole → (IsOk result → whole)
      → (IsOk result → length b.way.lanes.items ≤ 0) → StopsAs frames start first left result
      → Dealt g script begins b.inputs.items (λ sent. Streamed begins sent b.way.all_answers.items start first left before new result)
  told_settled {whole} b result not p held none stops =
      let sent = settled_sent g script a b old new whole p begins frames r.sent in
      record {
        frames = frames;
        few = r.few;
        inputs_are = sent.inputs_are;
        done = record {
          all_answers_are = sent.all_answers_are;
          left = cut_frames frames b before new (settled_cut g script a b old new whole p frames before (r.leaves not));
          whole = λ ok. all_frames frames b before new (none ok) (settled_leaves g script a b old new whole p (held ok) frames before (r.leaves not));
          front = r.front;
          stops = stops;
        };
      }
