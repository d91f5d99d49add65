use Rattle.std.proofs.Common.{◌≡◌, ◌≢◌, [], None, Ok, Err, refl, sym, ap, subst, ◌∙◌, arith, le_refl}
use Rattle.std.proofs.lemmas.Result.{err_from_is_err_and}
use Rattle.std.specs.Prelude.{IsErrOf}
use Rattle.pcap_source.specs.Capture.{tail}
use Rattle.pcap_source.specs.Reading.{NextGives}
use Rattle.pcap_source.specs.declared.capture.Step.TheVariants.{Frame}
use Rattle.pcap_source.specs.declared.errors.NextError.TheVariants.{ReadFault, NoMemory}
use Rattle.run_outcome.specs.Greatest.{greatest_from, greatest}
use Rattle.worker_pool.specs.Inputs.{ReadsAs}
use Rattle.worker_pool.specs.Onward.{DealsOn, at_start, deal_at}
use Rattle.worker_pool.proofs.Onward.{deals_both, deals_none, deals_one, dealt_on, dealt_some, kept_on, reads_some, some_behind, some_kept, steps_by_next}
use Rattle.worker_pool.proofs.Reading.{same_error, read_none, read_tail, read_end, read_refused, read_cut}
use Rattle.worker_pool.proofs.Source.{reads_well, reads_ill, no_value, no_error}
use Rattle.worker_pool.proofs.team.dispatch.deal_all.Goals as goal

none_yet : None ≡ greatest []
unfolding greatest_from
none_yet = refl

pub loop-frame-init : goal.loop-frame-init
loop-frame-init g c =
    let given = c.requires.inputs in
    record {
      on = deals_none (deal_at c.args.inputs.now.items c.args.capture.now at_start (g.S.Source.left c.args.source.now)) (record {
        live = c.requires.opened.live;
        count = c.requires.opened.count;
        few = omega arith;
        some = c.requires.some;
        dealt = record { begins = given.0; frames = []; count = refl; inputs_are = given.1 };
      });
      faults = le_refl _;
      lasts = refl;
    }

pub deal_lent-requires : goal.deal_lent-requires
deal_lent-requires g c = record { may = c.loop-frame.invariant.on.may }

-- ---- the lent packets can't be passed over, or memory is refused

pub returns-in_err-lent-clause-dispatched : goal.returns-in_err-lent-clause-dispatched
returns-in_err-lent-clause-dispatched g c = λ begins are.
    let left = g.S.Source.left c.args.source.now in
    let at = c.loop-frame in
    let e = c.in_err-lent.field-0.0 in
    let now = g.S.Source.left c.deal_lent.new.source in
    let some = some_behind (deal_at c.args.inputs.now.items c.args.capture.now at_start left) (deal_at at.inputs.items at.capture at.so_far (g.S.Source.left at.source)) c.deal_lent.new.inputs.items
    at.invariant.on c.in_err-lent.ensures.stops in
    let p = err_from_is_err_and c.from_residual.result c.from_residual.ensures.1 in
    rw (p.1, p.2) (dealt_some begins c.args.inputs.now.items c.deal_lent.new.inputs.items (λ frames. ReadsAs frames c.args.capture.now left now (Err e)) are some
    (reads_some some.frames c.args.capture.now left now e c.in_err-lent.ensures.only))

pub returns-in_err-lent-clause-reads : goal.returns-in_err-lent-clause-reads
returns-in_err-lent-clause-reads g c =
    let at = c.loop-frame in
    let inv = at.invariant in
    let from = c.deal_lent.ensures.from in
    let p = err_from_is_err_and c.from_residual.result c.from_residual.ensures.1 in
    let is_fault : IsErrOf c.from_residual.result ReadFault → c.in_err-lent.field-0.0 ≡ ReadFault = λ fault. sym p.2 ∙ same_error p.0 ReadFault c.from_residual.result p.1 fault in
    reads_ill g.S.Source c.args.capture.now c.args.source.now c.deal_lent.new.source at.source inv.faults inv.lasts from.cause from.lasts (no_value p.0 c.from_residual.result p.1)
    (λ fault. c.in_err-lent.was ∙ ap (λ e. Err e) (is_fault fault))
    (λ fault bytes told none.
    let read = inv.on.read c.args.capture.now bytes [] (read_none c.args.capture.now bytes (g.S.Source.left c.args.source.now) told) in
    absurd (c.in_err-lent.ensures.cut (ap (λ e. Err e) (is_fault fault)) read.rest read.told none))

-- ---- the next record can't be read

pub returns-in_err-next-clause-dispatched : goal.returns-in_err-next-clause-dispatched
returns-in_err-next-clause-dispatched g c = λ begins are.
    let left = g.S.Source.left c.args.source.now in
    let lent = c.in_ok-lent.lent in
    let capture = c.deal_lent.new.capture in
    let before = g.S.Source.left c.deal_lent.new.source in
    let now = g.S.Source.left c.next.new.source in
    let start = deal_at c.args.inputs.now.items c.args.capture.now at_start left in
    let on : DealsOn g.L.Recorder c.args.context.now.script.now start (deal_at c.flush_before_read.new.inputs.items capture lent before) =
    kept_on start c.deal_lent.new.inputs.items c.flush_before_read.new.inputs.items capture lent before c.flush_before_read.ensures (deals_both _ _ _ c.loop-frame.invariant.on c.in_ok-lent.ensures.deals) in
    let p = err_from_is_err_and c.from_residual-in_err-next.result c.from_residual-in_err-next.ensures.1 in
    rw (p.1, p.2) (dealt_on begins start (deal_at c.flush_before_read.new.inputs.items capture lent before) (λ frames. ReadsAs frames c.args.capture.now left now (Err c.in_err-next.field-0.0)) are refl on
    (read_refused c.args.capture.now capture c.next.new.self on.frames c.next.new.frame left before now now c.in_err-next.field-0.0 c.in_err-next.ensures.gives
    (λ bytes told. on.read c.args.capture.now bytes [] (read_none c.args.capture.now bytes left told))))

pub returns-in_err-next-clause-reads : goal.returns-in_err-next-clause-reads
returns-in_err-next-clause-reads g c =
    let inv = c.loop-frame.invariant in
    let left = g.S.Source.left c.args.source.now in
    let capture = c.deal_lent.new.capture in
    let before = g.S.Source.left c.deal_lent.new.source in
    let new = c.next.new in
    let from = c.deal_lent.ensures.from in
    let on = deals_both _ _ _ inv.on c.in_ok-lent.ensures.deals in
    let p = err_from_is_err_and c.from_residual-in_err-next.result c.from_residual-in_err-next.ensures.1 in
    let is_fault : IsErrOf c.from_residual-in_err-next.result ReadFault → c.in_err-next.field-0.0 ≡ ReadFault =
    λ fault. sym p.2 ∙ same_error p.0 ReadFault c.from_residual-in_err-next.result p.1 fault in
    reads_ill g.S.Source c.args.capture.now c.args.source.now new.source c.deal_lent.new.source (let one = inv.faults in let two = from.cause.later in omega (arith, one, two)) (from.lasts ∙ inv.lasts)
    c.next.ensures.cause c.next.ensures.lasts (no_value p.0 c.from_residual-in_err-next.result p.1)
    (λ fault. c.in_err-next.was ∙ ap (λ e. Err e) (is_fault fault))
    (λ fault bytes told. read_cut c.args.capture.now capture new.self bytes on.frames new.frame before (g.S.Source.left new.source)
    (subst (λ e. NextGives capture new.self before (g.S.Source.left new.source) new.frame (Err e)) (is_fault fault) c.in_err-next.ensures.gives)
    (on.read c.args.capture.now bytes [] (read_none c.args.capture.now bytes left told)))

-- ---- a frame

pub deal_frame-requires-clause-some : goal.deal_frame-requires-clause-some
deal_frame-requires-clause-some g c =
    let start = deal_at c.args.inputs.now.items c.args.capture.now at_start (g.S.Source.left c.args.source.now) in
    let on = kept_on start c.deal_lent.new.inputs.items c.flush_before_read.new.inputs.items c.deal_lent.new.capture c.in_ok-lent.lent (g.S.Source.left c.deal_lent.new.source) c.flush_before_read.ensures
    (deals_both _ _ _ c.loop-frame.invariant.on c.in_ok-lent.ensures.deals) in
    on.may.some

pub deal_frame-requires-clause-dealt : goal.deal_frame-requires-clause-dealt
deal_frame-requires-clause-dealt g c =
    let start = deal_at c.args.inputs.now.items c.args.capture.now at_start (g.S.Source.left c.args.source.now) in
    let on = kept_on start c.deal_lent.new.inputs.items c.flush_before_read.new.inputs.items c.deal_lent.new.capture c.in_ok-lent.lent (g.S.Source.left c.deal_lent.new.source) c.flush_before_read.ensures
    (deals_both _ _ _ c.loop-frame.invariant.on c.in_ok-lent.ensures.deals) in
    on.may.dealt

pub returns-in_err-deal_frame-in-Frame-clause-dispatched : goal.returns-in_err-deal_frame-in-Frame-clause-dispatched
returns-in_err-deal_frame-in-Frame-clause-dispatched g c = λ begins are.
    let left = g.S.Source.left c.args.source.now in
    let lent = c.in_ok-lent.lent in
    let capture = c.deal_lent.new.capture in
    let before = g.S.Source.left c.deal_lent.new.source in
    let now = g.S.Source.left c.next.new.source in
    let start = deal_at c.args.inputs.now.items c.args.capture.now at_start left in
    let on = kept_on start c.deal_lent.new.inputs.items c.flush_before_read.new.inputs.items capture lent before c.flush_before_read.ensures (deals_both _ _ _ c.loop-frame.invariant.on c.in_ok-lent.ensures.deals) in
    let some = some_kept start (deal_at c.flush_before_read.new.inputs.items capture lent before) c.deal_frame.new.inputs.items on c.in_err-deal_frame-in-Frame.ensures.kept in
    let p = err_from_is_err_and c.from_residual-in_err-deal_frame-in-Frame.result c.from_residual-in_err-deal_frame-in-Frame.ensures.1 in
    rw (p.1, p.2) (dealt_some begins c.args.inputs.now.items c.deal_frame.new.inputs.items (λ frames. ReadsAs frames c.args.capture.now left now (Err NoMemory)) are some tt)

pub returns-in_err-deal_frame-in-Frame-clause-reads : goal.returns-in_err-deal_frame-in-Frame-clause-reads
returns-in_err-deal_frame-in-Frame-clause-reads g c =
    let inv = c.loop-frame.invariant in
    let from = c.deal_lent.ensures.from in
    let one = inv.faults in
    let two = from.cause.later in
    let three = c.next.ensures.cause.later in
    let result = c.from_residual-in_err-deal_frame-in-Frame.result in
    let p = err_from_is_err_and result c.from_residual-in_err-deal_frame-in-Frame.ensures.1 in
    reads_well g.S.Source c.args.capture.now c.args.source.now c.next.new.source (omega (arith, one, two, three)) (c.next.ensures.lasts ∙ from.lasts ∙ inv.lasts)
    (λ ok. absurd (no_value p.0 result p.1 ok)) (λ fault. let same : p.0 ≡ ReadFault = same_error p.0 ReadFault result p.1 fault in let is = p.2 in cc)

pub loop-frame-smaller : goal.loop-frame-smaller
loop-frame-smaller g c =
    let moved = c.in_ok-next.ensures.moved (ap (λ s. Ok s) c.in-Frame.is) in
    let on = c.in_ok-lent.ensures.deals in
    let within = moved.within in
    let count = moved.count in
    let more = on.count in
    let same = on.may.count in
    let packets = c.with_packet-so_far.ensures.packets in
    omega (arith, within, count, more, same, packets)

pub loop-frame-preserved : goal.loop-frame-preserved
loop-frame-preserved g c =
    let inv = c.loop-frame.invariant in
    let lent = c.in_ok-lent.lent in
    let capture = c.deal_lent.new.capture in
    let before = g.S.Source.left c.deal_lent.new.source in
    let now = g.S.Source.left c.next.new.source in
    let inputs = c.flush_before_read.new.inputs.items in
    let frame = c.next.new.frame in
    let from = c.deal_lent.ensures.from in
    let start = deal_at c.args.inputs.now.items c.args.capture.now at_start (g.S.Source.left c.args.source.now) in
    let on = kept_on start c.deal_lent.new.inputs.items inputs capture lent before c.flush_before_read.ensures (deals_both _ _ _ inv.on c.in_ok-lent.ensures.deals) in
    let moved = c.in_ok-next.ensures.moved (ap (λ s. Ok s) c.in-Frame.is) in
    let gives = subst (λ s. NextGives capture c.next.new.self before now frame (Ok s)) c.in-Frame.is c.in_ok-next.ensures.gives in
    record {
      on = deals_both start (deal_at inputs capture lent before) (deal_at c.deal_frame.new.inputs.items c.next.new.self c.with_packet-so_far.result now) on
          (deals_one (deal_at inputs capture lent before) (deal_at c.deal_frame.new.inputs.items c.next.new.self c.with_packet-so_far.result now) frame on.may moved
          (c.in_ok-next.ensures.live.1 (ap (λ s. Ok s) c.in-Frame.is)) c.with_packet-so_far.ensures.packets c.deal_frame.ensures.count c.in_ok-deal_frame-in-Frame.ensures.dealt
          (λ others is. c.with_packet-so_far.ensures.last others frame c.moment_of.ensures is)
          (steps_by_next capture c.next.new.self frame before now gives));
      faults = let one = inv.faults in let two = from.cause.later in let three = c.next.ensures.cause.later in omega (arith, one, two, three);
      lasts = c.next.ensures.lasts ∙ from.lasts ∙ inv.lasts;
    }

-- ---- the end

pub returns-in-Tail-clause-dispatched : goal.returns-in-Tail-clause-dispatched
returns-in-Tail-clause-dispatched g c = λ begins are.
    let left = g.S.Source.left c.args.source.now in
    let lent = c.in_ok-lent.lent in
    let capture = c.deal_lent.new.capture in
    let before = g.S.Source.left c.deal_lent.new.source in
    let now = g.S.Source.left c.next.new.source in
    let inputs = c.flush_before_read.new.inputs.items in
    let start = deal_at c.args.inputs.now.items c.args.capture.now at_start left in
    let on = kept_on start c.deal_lent.new.inputs.items inputs capture lent before c.flush_before_read.ensures (deals_both _ _ _ c.loop-frame.invariant.on c.in_ok-lent.ensures.deals) in
    let gives = subst (λ s. NextGives capture c.next.new.self before now c.next.new.frame (Ok s)) c.in-Tail.is c.in_ok-next.ensures.gives in
    dealt_on begins start (deal_at inputs capture lent before) (λ frames. ReadsAs frames c.args.capture.now left now (Ok c.whole.result)) are refl on
    (record {
      count = let count = on.count in let packets = c.whole.ensures.packets in omega (arith, count, packets);
      last = c.whole.ensures.last ∙ on.last [] none_yet;
      holds = λ bytes told.
          let read = read_tail c.args.capture.now bytes on.frames capture c.next.new.self c.next.new.frame c.in-Tail.tail before now gives
          (on.read c.args.capture.now bytes [] (read_none c.args.capture.now bytes left told)) in
          (read.0 ∙ ap (λ n. record { frames = on.frames; ending = tail n }) (sym c.whole.ensures.tail), read.1);
    })

pub returns-in-Tail-clause-reads : goal.returns-in-Tail-clause-reads
returns-in-Tail-clause-reads g c =
    let inv = c.loop-frame.invariant in
    let from = c.deal_lent.ensures.from in
    let one = inv.faults in
    let two = from.cause.later in
    let three = c.next.ensures.cause.later in
    let stops : c.in_ok-next.field-0 ≢ Frame = λ is. absurd (cc) in
    reads_well g.S.Source c.args.capture.now c.args.source.now c.next.new.source (omega (arith, one, two, three)) (c.next.ensures.lasts ∙ from.lasts ∙ inv.lasts)
    (λ ok. c.in_ok-next.ensures.ended stops) (no_error _ ReadFault)

pub returns-in-End-clause-dispatched : goal.returns-in-End-clause-dispatched
returns-in-End-clause-dispatched g c = λ begins are.
    let left = g.S.Source.left c.args.source.now in
    let lent = c.in_ok-lent.lent in
    let capture = c.deal_lent.new.capture in
    let before = g.S.Source.left c.deal_lent.new.source in
    let now = g.S.Source.left c.next.new.source in
    let inputs = c.flush_before_read.new.inputs.items in
    let start = deal_at c.args.inputs.now.items c.args.capture.now at_start left in
    let on = kept_on start c.deal_lent.new.inputs.items inputs capture lent before c.flush_before_read.ensures (deals_both _ _ _ c.loop-frame.invariant.on c.in_ok-lent.ensures.deals) in
    let gives = subst (λ s. NextGives capture c.next.new.self before now c.next.new.frame (Ok s)) c.in-End.is c.in_ok-next.ensures.gives in
    dealt_on begins start (deal_at inputs capture lent before) (λ frames. ReadsAs frames c.args.capture.now left now (Ok c.whole-in-End.result)) are refl on
    (record {
      count = let count = on.count in let packets = c.whole-in-End.ensures.packets in omega (arith, count, packets);
      last = c.whole-in-End.ensures.last ∙ on.last [] none_yet;
      holds = λ bytes told.
          let read = read_end c.args.capture.now bytes on.frames capture c.next.new.self c.next.new.frame before now gives
          (on.read c.args.capture.now bytes [] (read_none c.args.capture.now bytes left told)) in
          (read.0 ∙ ap (λ n. record { frames = on.frames; ending = tail n }) (sym c.whole-in-End.ensures.tail), read.1);
    })

pub returns-in-End-clause-reads : goal.returns-in-End-clause-reads
returns-in-End-clause-reads g c =
    let inv = c.loop-frame.invariant in
    let from = c.deal_lent.ensures.from in
    let one = inv.faults in
    let two = from.cause.later in
    let three = c.next.ensures.cause.later in
    let stops : c.in_ok-next.field-0 ≢ Frame = λ is. absurd (cc) in
    reads_well g.S.Source c.args.capture.now c.args.source.now c.next.new.source (omega (arith, one, two, three)) (c.next.ensures.lasts ∙ from.lasts ∙ inv.lasts)
    (λ ok. c.in_ok-next.ensures.ended stops) (no_error _ ReadFault)
