-- A forward run, turn by turn.
use Rattle.std.proofs.Common.{◌≡◌, ◌≢◌, ◌≤◌, ℕ, Option, Some, List, [], ◌∷◌, ◌++◌, length, sym, ap, subst, ◌∙◌, append_assoc, append-nil, ◌⊎◌, ⊎_elim}
use Rattle.std.specs.Prelude.{Result, Err}
use Rattle.std.specs.Io.KnownBytes.{Keeps}
use Rattle.std.proofs.lemmas.List.{map-append}
use mathlib.Core.List.{IsPrefix}
use Rattle.pcap_source.specs.Captured.{Captured}
use Rattle.pcap_source.specs.Reading.{CaptureState, frames_at}
use Rattle.pcap_source.specs.declared.errors.NextError.{NextError}
use Rattle.pcap_source.specs.declared.errors.NextError.TheVariants.{TooLong, TooMany, ReadFault, NoMemory}
use Rattle.ip6_views.specs.Sight.{sight_of, lane_of_sight}
use Rattle.control_script.specs.declared.stamped.Stamped.{Stamped}
use Rattle.lane_core.specs.declared.recorder.Recorder.{Ghosts}
use Rattle.lane_worker.specs.declared.worker.Worker.{Worker}
use Rattle.worker_pool.specs.declared.team.dispatch.Whole.{Whole}
use Rattle.worker_pool.specs.declared.job.PoolError.{PoolError}
use Rattle.worker_pool.specs.declared.job.PoolError.TheVariants.{WriteFault, NoMemory as OutOfMemory}
use Rattle.worker_pool.specs.declared.team.lane_input.LaneInput.{LaneInput}
use Rattle.worker_pool.specs.Refused.{read_refusal}
use Rattle.worker_pool.specs.Inputs.{AreInputs, ReadsAs}
use Rattle.worker_pool.specs.GoesOn.{IsReadTo}
use Rattle.forward_dispatch.specs.declared.dispatch.Dealing.{Dealing}
use Rattle.forward_dispatch.specs.declared.on_their_way.OnTheirWay.{OnTheirWay}
use Rattle.forward_dispatch.specs.OnTheirWay.{Leaves, IsCutOff, LeavesOn, sent_on}
use Rattle.forward_dispatch.specs.Streamed.{AreLaneAnswers, StopsAs, lanes_of}
use Rattle.forward_dispatch.specs.Turns.{HasSent, LeavesSo, IsLeftSo, Settles, WentOn, IsRead}
use Rattle.forward_dispatch.proofs.Given.{answers_after}
use Rattle.forward_dispatch.proofs.Leaving.{IsSomeLaw, cut_nowhere, leaves_handed}

-- the lanes of frames, with one frame more
pub lanes_more : (lanes : ℕ) (frames : List Captured) (frame : Captured) (k : ℕ) → k ≡ lane_of_sight (sight_of frame.bytes) lanes → lanes_of lanes (frames ++ frame ∷ []) ≡ lanes_of lanes frames ++ k ∷ []
lanes_more lanes frames frame k is =
    map-append (λ (f : Captured). lane_of_sight (sight_of f.bytes) lanes) frames (frame ∷ []) ∙ ap (λ l. lanes_of lanes frames ++ l ∷ []) (sym is)

module _ {L : Type 0} (g : Ghosts L) (script : List Stamped) where
  -- ---- packets that are sent

  -- nothing was sent
  pub went_none : (d : Dealing L) (out : Option (List ℕ)) → WentOn g script d d out out []
  went_none d out = record {
    sent = λ begins frames s. subst (λ (fs : List Captured). HasSent g script begins fs d) (sym (append-nil frames)) s;
    leaves = λ begins frames before s l. subst (λ (fs : List Captured). LeavesSo fs d before out) (sym (append-nil frames)) l;
  }

  pub went_then : (a b d : Dealing L) (old mid new : Option (List ℕ)) (xs ys : List Captured) → WentOn g script a b old mid xs → WentOn g script b d mid new ys → WentOn g script a d old new (xs ++ ys)
  went_then a b d old mid new xs ys p q = record {
    sent = λ begins frames s. subst (λ (fs : List Captured). HasSent g script begins fs d) (append_assoc frames xs ys) (q.sent begins (frames ++ xs) (p.sent begins frames s));
    leaves = λ begins frames before s l. subst (λ (fs : List Captured). LeavesSo fs d before new) (append_assoc frames xs ys)
        (q.leaves begins (frames ++ xs) before (p.sent begins frames s) (p.leaves begins frames before s l));
  }

  -- the inputs alone changed
  pub kept_went : (a b : Dealing L) (now : Option (List ℕ)) → ((begins : List (Worker L)) (frames : List Captured) → AreInputs g script begins frames a.inputs.items → AreInputs g script begins frames b.inputs.items)
      → b.way ≡ a.way → b.last ≡ a.last → WentOn g script a b now now []
  kept_went a b now inputs way last = record {
    sent = λ begins frames s. subst (λ (fs : List Captured). HasSent g script begins fs b) (sym (append-nil frames)) (record {
      count = s.count ∙ ap sent_on (sym way);
      newest = last ∙ s.newest;
      inputs_are = inputs begins frames s.inputs_are;
      all_answers_are = subst (λ (w : OnTheirWay). AreLaneAnswers begins w.all_answers.items) (sym way) s.all_answers_are;
    });
    leaves = λ begins frames before s l. subst (λ (fs : List Captured). LeavesSo fs b before now) (sym (append-nil frames))
        (subst (λ (w : OnTheirWay). Leaves (lanes_of (length w.all_answers.items) frames) w before now) (sym way) l);
  }

  module _ (a b : Dealing L) (old new : Option (List ℕ)) (p : WentOn g script a b old new []) (begins : List (Worker L)) (frames : List Captured) (s : HasSent g script begins frames a) where
    pub kept_sent : HasSent g script begins frames b
    kept_sent = subst (λ (fs : List Captured). HasSent g script begins fs b) (append-nil frames) (p.sent begins frames s)

    pub kept_leaves : (before : Option (List ℕ)) → LeavesSo frames a before old → LeavesSo frames b before new
    kept_leaves before l = subst (λ (fs : List Captured). LeavesSo fs b before new) (append-nil frames) (p.leaves begins frames before s l)

  -- ---- while packets leave

  -- seen as another value of the same run
  pub settles_as : (a b d : Dealing L) (old new : Option (List ℕ)) (whole : Type 0) → d.way ≡ b.way → d.last ≡ b.last → d.inputs.items ≡ b.inputs.items → Settles g script a b old new whole
      → Settles g script a d old new whole
  settles_as a b d old new whole way last inputs p = record {
    inputs = λ begins frames are. subst (λ (xs : List (LaneInput L)). AreInputs g script begins frames xs) (sym inputs) (p.inputs begins frames are);
    newest = last ∙ p.newest;
    leaves = subst (λ (w : OnTheirWay). LeavesOn a.way w old new whole) (sym way) p.leaves;
  }

  module _ (a b : Dealing L) (old new : Option (List ℕ)) (whole : Type 0) (p : Settles g script a b old new whole) where
    pub settled_sent : (begins : List (Worker L)) (frames : List Captured) → HasSent g script begins frames a → HasSent g script begins frames b
    settled_sent begins frames s = record {
      count = s.count ∙ sym p.leaves.sent;
      newest = p.newest ∙ s.newest;
      inputs_are = p.inputs begins frames s.inputs_are;
      all_answers_are = answers_after begins a.way.all_answers.items b.way.all_answers.items p.leaves.rings s.all_answers_are;
    }

    pub settled_leaves : whole → (frames : List Captured) (before : Option (List ℕ)) → LeavesSo frames a before old → LeavesSo frames b before new
    settled_leaves held frames before l =
        subst (λ n. Leaves (lanes_of n frames) b.way before new) (sym p.leaves.rings.count) (p.leaves.on held (lanes_of (length a.way.all_answers.items) frames) before l)

    pub settled_cut : (frames : List Captured) (before : Option (List ℕ)) → LeavesSo frames a before old → IsLeftSo frames b before new
    settled_cut frames before l =
        subst (λ n. IsCutOff (lanes_of n frames) b.way before new) (sym p.leaves.rings.count) (p.leaves.cut (lanes_of (length a.way.all_answers.items) frames) before l)

    -- and then packets were sent
    pub settled_went : whole → (d : Dealing L) (more : List Captured) → WentOn g script b d new new more → WentOn g script a d old new more
    settled_went held d more went = record {
      sent = λ begins frames s. went.sent begins frames (settled_sent begins frames s);
      leaves = λ begins frames before s l. went.leaves begins frames before (settled_sent begins frames s) (settled_leaves held frames before l);
    }

    pub settles_handed : IsSomeLaw → whole → (now : Option (List ℕ)) (all : Type 0) → Keeps new now → Settles g script a b old now all
    settles_handed some held now all keeps = record {
      inputs = p.inputs;
      newest = p.newest;
      leaves = leaves_handed some a.way b.way old new now whole all held p.leaves keeps;
    }

-- ---- how it stops

pub front_of : (start now : CaptureState) (bytes : List ℕ) (frames : List Captured) (left : Option (List ℕ)) → IsReadTo start bytes frames now left → IsPrefix frames (frames_at start bytes).frames
front_of start now bytes frames left r = ((frames_at now r.rest).frames, sym (ap (λ f. f.frames) r.holds))

-- where it is cut off, or out of memory, while it waits
pub stops_early : (frames : List Captured) (start : CaptureState) (old new : Option (List ℕ)) (e : PoolError) → (e ≡ WriteFault) ⊎ (e ≡ OutOfMemory) → StopsAs frames start old new (Err e)
stops_early frames start old new e only = ⊎_elim
    (λ is. subst (λ (x : PoolError). StopsAs frames start old new (Err x)) (sym is) tt)
    (λ is. subst (λ (x : PoolError). StopsAs frames start old new (Err x)) (sym is) tt)
    only

-- a refusal of the capture is told
pub stops_refused : (frames : List Captured) (start : CaptureState) (old new : Option (List ℕ)) (e : NextError) → ReadsAs frames start old new (Err e)
    → StopsAs frames start old new (Err (read_refusal e))
stops_refused frames start old new (TooLong offset) reads = reads
stops_refused frames start old new (TooMany offset) reads = reads
stops_refused frames start old new ReadFault reads = tt
stops_refused frames start old new NoMemory reads = tt

pub same_refusal : {T : Type 0} (a b : PoolError) (r : Result T PoolError) → r ≡ Err a → r ≡ Err b → a ≡ b
same_refusal a b r one two = cc

module _ {L : Type 0} (g : Ghosts L) (script : List Stamped) (some : IsSomeLaw) (begins : List (Worker L)) (frames : List Captured) (few : length frames ≤ 1048576) (start now : CaptureState)
    (first left last before : Option (List ℕ)) (reads : (bytes : List ℕ) → first ≡ Some bytes → IsReadTo start bytes frames now left) (d : Dealing L) (out : Option (List ℕ))
    (s : HasSent g script begins frames d) where
  -- where reading ends, what is not on its way has left
  pub told_whole : (result : Result Whole PoolError) → LeavesSo frames d before out → StopsAs frames start first last result → IsRead g script start first last begins d before out frames result
  told_whole result whole stops = record {
    few = few;
    sent = s;
    leaves = λ not. whole;
    left_so = cut_nowhere some (lanes_of (length d.way.all_answers.items) frames) d.way before out whole;
    front = λ bytes is. front_of start now bytes frames left (reads bytes is);
    stops = stops;
  }

  -- while a place was awaited
  pub told_early : (e : PoolError) → (e ≢ WriteFault → LeavesSo frames d before out) → IsLeftSo frames d before out → (e ≡ WriteFault) ⊎ (e ≡ OutOfMemory)
      → IsRead g script start first last begins d before out frames (Err e)
  told_early e whole cut only = record {
    few = few;
    sent = s;
    leaves = λ not. whole (λ is. not (ap (λ x. Err x) is));
    left_so = cut;
    front = λ bytes is. front_of start now bytes frames left (reads bytes is);
    stops = stops_early frames start first last e only;
  }
