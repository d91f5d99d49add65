-- What a worker did in one call, and then in another.
use Rattle.std.proofs.Common.{◌≡◌, ◌≢◌, ℕ, ◌≤◌, Option, Some, None, List, [], ◌∷◌, ◌++◌, length, map, drop, refl, sym, ap, subst, ◌∙◌, arith}
use Rattle.std.proofs.lemmas.List.{append-nil, length-append, map-append}
use Rattle.std.proofs.lemmas.List.Concat.{flat_map-append}
use Rattle.app_api.specs.App.{Meaning}
use Rattle.forest_versions.specs.declared.command.Command.{Command}
use Rattle.lane_rings.specs.declared.items.Packet.{Packet}
use Rattle.lane_rings.specs.declared.items.Batch.{Batch}
use Rattle.lane_rings.specs.declared.items.Answer.{Answer}
use Rattle.lane_rings.specs.declared.items.AnswerBatch.{AnswerBatch}
use Rattle.lane_rings.specs.declared.ring.RingTx.{RingTx}
use Rattle.lane_rings.specs.declared.ring.RingRx.{RingRx}
use Rattle.lane_rings.specs.Batch.{packets_of, packets_in}
use Rattle.lane_core.specs.declared.recorder.Recorder.{Ghosts}
use Rattle.lane_worker.specs.declared.worker.Worker.{Worker}
use Rattle.lane_worker.specs.Steps.{Turn, events_of, answers_of}
use Rattle.lane_worker.specs.Worked.{Takes, Sends, WentOn, Ran, RanSo, Worked, at_hand}
use Rattle.lane_worker.specs.Turning.{TookUp, Judged}
use Rattle.lane_worker.proofs.Rings.{takes_none, takes_then, known_kept, SameAnswers-refl, SameAnswers-trans, sends_none, sends_then, sends_same}
use Rattle.lane_worker.proofs.Stepping.{given_by, given-append, answers-append}
use Rattle.lane_worker.proofs.Going.{went_two, went_failed}

-- a lane failed, or it has not
pub by_failure : {T P : Type 0} (o : Option T) → (o ≡ None → P) → (o ≢ None → P) → P
by_failure None none some = none refl
by_failure (Some x) none some = some (λ is. absurd (cc))

-- packets that are taken unread
abbrev pub unread : List Packet → List Turn
unread packets = map (λ p. record { packet = p; commands = [] }) packets

unread_are : (packets : List Packet) → map (λ t. t.packet) (unread packets) ≡ packets
unread_are [] = refl
unread_are (p ∷ packets) = ap (λ l. p ∷ l) (unread_are packets)

module _ {L : Type 0} (g : Ghosts L) (script : List Command) where
  -- before the first step
  pub went_none : (least : ℕ) (a : L) → g.failed a ≡ None → WentOn g script least [] a a [] []
  went_none least a well = record {
    stands = λ events s. subst (g.stands a) (sym (append-nil events)) s;
    commands = (drop (g.given a) script, refl);
    within = tt;
    newest = refl;
    good = λ ok. refl;
    whole = λ ok. refl;
    version = λ ok. omega arith;
    one = λ bad. absurd (bad well);
    front = λ bad. ([], refl);
    keeping = λ is. absurd (cc);
    heavy = λ is. absurd (cc);
  }

  ran_none : (a : Worker L) (P : List Answer → Type 0) → P [] → g.failed a.lane ≡ None → RanSo g script a a [] [] P
  ran_none a P none well = record {
    turns = [];
    done = [];
    bad = [];
    of_packets = refl;
    went = went_none (at_hand g a) a.lane well;
    of_places = λ ok. refl;
    answers = λ events s. none;
  }

  -- nothing but a look into the packet ring
  pub worked_looked : (a : Worker L) (ring : RingRx Batch) → Takes a.packets ring [] → Worked g script a (record a { packets = ring })
  worked_looked a ring took = record {
    batches = [];
    places = [];
    number = refl;
    took_packets = took;
    took_places = takes_none a.commands;
    answering = SameAnswers-refl a.answers;
    app = refl;
    keeps = refl;
    stayed = λ bad. refl;
    silent = λ bad. sends_none a.answers;
    ran = λ well. let r = ran_none a (Sends a.answers a.answers) (sends_none a.answers) well in record {
      turns = r.turns;
      done = r.done;
      bad = r.bad;
      of_packets = r.of_packets;
      went = r.went;
      of_places = r.of_places;
      answers = r.answers;
    };
  }

  -- a batch was taken out of the ring and taken up
  pub worked_one : (a b : Worker L) (ring : RingRx Batch) (batch : Batch) → Takes a.packets ring (batch ∷ []) → TookUp g script (record a { packets = ring }) b (packets_of batch) → Worked g script a b
  worked_one a b ring batch took up = record {
    batches = batch ∷ [];
    places = up.places;
    number = up.number;
    took_packets = subst (λ (r : RingRx Batch). Takes a.packets r (batch ∷ [])) (sym up.same) took;
    took_places = up.took_places;
    answering = up.answering;
    app = up.app;
    keeps = up.keeps;
    stayed = up.stayed;
    silent = up.silent;
    ran = λ well. let r = up.ran well in record {
      turns = r.turns;
      done = r.done;
      bad = r.bad;
      of_packets = r.of_packets ∙ sym (append-nil (packets_of batch));
      went = r.went;
      of_places = r.of_places;
      answers = r.answers;
    };
  }

  module _ (a b c : Worker L) (xs ys : List Packet) (ps qs : List ℕ) (took : Takes a.commands b.commands ps) (app : g.app b.lane ≡ g.app a.lane) (keeps : g.keeps b.lane ≡ g.keeps a.lane)
      (stayed : g.failed b.lane ≢ None → c.lane ≡ b.lane) (P Q R : List Answer → Type 0) (joined : (us vs : List Answer) → P us → Q vs → R (us ++ vs)) (silent : g.failed b.lane ≢ None → Q [])
      (first : g.failed a.lane ≡ None → RanSo g script a b xs ps P) (then : g.failed b.lane ≡ None → RanSo g script b c ys qs Q) where
    ran_two : g.failed a.lane ≡ None → g.failed b.lane ≡ None → RanSo g script a c (xs ++ ys) (ps ++ qs) R
    ran_two well between =
        let r = first well in
        let s = then between in
        let kept = known_kept a.commands b.commands ps took in
        let version = r.went.version between in
        let places = r.of_places between in
        record {
          turns = r.turns ++ s.turns;
          done = r.done ++ s.done;
          bad = s.bad;
          of_packets = map-append (λ t. t.packet) r.turns s.turns ∙ ap (λ l. l ++ map (λ t. t.packet) s.turns) r.of_packets ∙ ap (λ l. xs ++ l) s.of_packets;
          went = went_two g script (at_hand g a) (at_hand g b) r.turns s.turns a.lane b.lane c.lane r.done r.bad s.done s.bad r.went s.went between
              (let less : at_hand g a ≤ at_hand g b = omega (arith, kept, version, places) in less) app keeps;
          of_places = λ ok.
              let e = ap length (given-append r.done s.done) in
              let f = length-append (given_by r.done) (given_by s.done) in
              let h = s.of_places ok in
              let n = length-append ps qs in
              omega (arith, e, f, h, n, places);
          answers = λ events stands.
              let one = r.answers events stands in
              let now : g.stands b.lane (events ++ events_of r.done) =
              subst (λ l. g.stands b.lane (events ++ events_of l)) (ap (λ l. r.done ++ l) (r.went.good between) ∙ append-nil r.done) (r.went.stands events stands) in
              let two = subst (λ (m : Meaning). Q (answers_of m (events ++ events_of r.done) s.done)) app (s.answers (events ++ events_of r.done) now) in
              subst R (sym (answers-append (g.app a.lane) events r.done s.done))
              (joined (answers_of (g.app a.lane) events r.done) (answers_of (g.app a.lane) (events ++ events_of r.done) s.done) one two);
        }

    ran_failed : g.failed a.lane ≡ None → g.failed b.lane ≢ None → RanSo g script a c (xs ++ ys) (ps ++ qs) R
    ran_failed well between =
        let r = first well in
        let same = stayed between in
        record {
          turns = r.turns ++ unread ys;
          done = r.done;
          bad = r.bad;
          of_packets = map-append (λ t. t.packet) r.turns (unread ys) ∙ ap (λ l. l ++ map (λ t. t.packet) (unread ys)) r.of_packets ∙ ap (λ l. xs ++ l) (unread_are ys);
          went = subst (λ (l : L). WentOn g script (at_hand g a) (r.turns ++ unread ys) a.lane l r.done r.bad) (sym same)
              (went_failed g script (at_hand g a) r.turns (unread ys) a.lane b.lane r.done r.bad r.went between);
          of_places = λ ok. absurd (between (subst (λ (l : L). g.failed l ≡ None) same ok));
          answers = λ events stands. subst R (append-nil (answers_of (g.app a.lane) events r.done))
              (joined (answers_of (g.app a.lane) events r.done) [] (r.answers events stands) (silent between));
        }

    -- a lane ran, and then on, or it had failed
    ran_both : g.failed a.lane ≡ None → RanSo g script a c (xs ++ ys) (ps ++ qs) R
    ran_both well = by_failure (g.failed b.lane) (ran_two well) (ran_failed well)

  still : (a b : Worker L) → (g.failed a.lane ≢ None → b.lane ≡ a.lane) → g.failed a.lane ≢ None → g.failed b.lane ≢ None
  still a b stayed bad is = bad (subst (λ (l : L). g.failed l ≡ None) (stayed bad) is)

  -- one call, and then another
  pub worked_two : (a b c : Worker L) → Worked g script a b → Worked g script b c → Worked g script a c
  worked_two a b c p q = record {
    batches = p.batches ++ q.batches;
    places = p.places ++ q.places;
    number = q.number ∙ p.number;
    took_packets = takes_then a.packets b.packets c.packets p.batches q.batches p.took_packets q.took_packets;
    took_places = takes_then a.commands b.commands c.commands p.places q.places p.took_places q.took_places;
    answering = SameAnswers-trans a.answers b.answers c.answers p.answering q.answering;
    app = q.app ∙ p.app;
    keeps = q.keeps ∙ p.keeps;
    stayed = λ bad. q.stayed (still a b p.stayed bad) ∙ p.stayed bad;
    silent = λ bad. sends_then a.answers b.answers c.answers [] [] (p.silent bad) (q.silent (still a b p.stayed bad));
    ran = λ well. subst (λ l. Ran g script a c l (p.places ++ q.places)) (sym (flat_map-append packets_of p.batches q.batches))
        (ran_both a b c (packets_in p.batches) (packets_in q.batches) p.places q.places p.took_places p.app p.keeps q.stayed
        (Sends a.answers b.answers) (Sends b.answers c.answers) (Sends a.answers c.answers) (sends_then a.answers b.answers c.answers) q.silent p.ran q.ran well);
  }

  pub worked_none : (a : Worker L) → Worked g script a a
  worked_none a = worked_looked a a.packets (takes_none a.packets)

  -- packets were judged, and then others
  pub judged_two : (a b c : Worker L) (xs ys : List Packet) (us vs : List Answer) → Judged g script a b xs us → Judged g script b c ys vs → Judged g script a c (xs ++ ys) (us ++ vs)
  judged_two a b c xs ys us vs p q = record {
    places = p.places ++ q.places;
    same = q.same ∙ p.same;
    number = q.number ∙ p.number;
    took_places = takes_then a.commands b.commands c.commands p.places q.places p.took_places q.took_places;
    unsent = q.unsent ∙ p.unsent;
    app = q.app ∙ p.app;
    keeps = q.keeps ∙ p.keeps;
    stayed = λ bad. q.stayed (still a b p.stayed bad) ∙ p.stayed bad;
    silent = λ bad. ap (λ l. l ++ vs) (p.silent bad) ∙ q.silent (still a b p.stayed bad);
    ran = ran_both a b c xs ys p.places q.places p.took_places p.app p.keeps q.stayed (λ right. us ≡ right) (λ right. vs ≡ right) (λ right. us ++ vs ≡ right)
        (λ u v e f. ap (λ l. l ++ vs) e ∙ ap (λ l. u ++ l) f) q.silent p.ran q.ran;
  }

  pub judged_none : (a : Worker L) → Judged g script a a [] []
  judged_none a = record {
    places = [];
    same = refl;
    number = refl;
    took_places = takes_none a.commands;
    unsent = refl;
    app = refl;
    keeps = refl;
    stayed = λ bad. refl;
    silent = λ bad. refl;
    ran = ran_none a (λ right. [] ≡ right) refl;
  }

  -- packets were judged, and their answers sent
  pub judged_sent : (a b : Worker L) (packets : List Packet) (answers : List Answer) (after : Option (RingTx AnswerBatch)) (used : Option (RingTx Batch)) → Judged g script a b packets answers → Sends b.answers after answers
      → TookUp g script a (record b { answers = after; used = used }) packets
  judged_sent a b packets answers after used judged sends =
      let sent : Sends a.answers after answers = subst (λ (from : Option (RingTx AnswerBatch)). Sends from after answers) judged.unsent sends in
      record {
        places = judged.places;
        same = judged.same;
        number = judged.number;
        took_places = judged.took_places;
        answering = sends_same a.answers after answers sent;
        app = judged.app;
        keeps = judged.keeps;
        stayed = judged.stayed;
        silent = λ bad. subst (Sends a.answers after) (judged.silent bad) sent;
        ran = λ well. let r = judged.ran well in record {
          turns = r.turns;
          done = r.done;
          bad = r.bad;
          of_packets = r.of_packets;
          went = r.went;
          of_places = r.of_places;
          answers = λ events s. subst (Sends a.answers after) (r.answers events s) sent;
        };
      }
