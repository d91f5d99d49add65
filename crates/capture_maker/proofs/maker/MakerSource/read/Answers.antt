-- What was copied stood in front of what is left.
use Rattle.std.proofs.Common.{◌≡◌, ◌+◌, ◌≤◌, [], ◌++◌, length, take, drop, sym, ap, subst, ◌∙◌, arith, rules, length-drop}
use Rattle.capture_maker.specs.Made.{packet_records}
use Rattle.capture_maker.proofs.Given.{ended, given, moved_on}
use Rattle.capture_maker.proofs.maker.MakerSource.read.Goals as goal
use Rattle.capture_maker.proofs.maker.MakerSource.read.Goals.{then-self-len, else-self-len}

pub returns-clause-reads : goal.returns-clause-reads
returns-clause-reads c =
    let old = c.self.inside in
    let now = c.if-self-len.self-inside in
    let count = c.copy_front-count.result in
    let was : c.args.self.now.left ≡ drop old.place old.piece ++ packet_records old.index old.turns = ap (λ m. m.left) (sym c.self.view_is) in
    let stands : c.args.self.now.left ≡ drop now.place now.piece ++ packet_records now.index now.turns =
    elim c.if-self-len.branch [
      | then-self-len w ↦ subst (λ m. c.args.self.now.left ≡ drop m.place m.piece ++ packet_records m.index m.turns) (sym w.self-inside-is)
          (was ∙ moved_on old.place old.piece w.make_next-self-inside.new.piece (packet_records old.index old.turns) _
          (w.if-self-len.true ∙ c.len.ensures.result) w.make_next-self-inside.ensures.bytes)
      | else-self-len w ↦ subst (λ m. c.args.self.now.left ≡ drop m.place m.piece ++ packet_records m.index m.turns) (sym w.self-inside-is) was
    ] in
    let last : length now.piece ≡ now.place → now.turns ≡ [] =
    elim c.if-self-len.branch [
      | then-self-len w ↦ subst (λ m. length m.piece ≡ m.place → m.turns ≡ []) (sym w.self-inside-is) w.make_next-self-inside.ensures.end
      | else-self-len w ↦ subst (λ m. length m.piece ≡ m.place → m.turns ≡ []) (sym w.self-inside-is)
          (λ whole. absurd (w.if-self-len.false (sym whole ∙ sym c.len.ensures.result)))
    ] in
    let within : now.place ≤ length now.piece =
    elim c.if-self-len.branch [
      | then-self-len w ↦ subst (λ m. m.place ≤ length m.piece) (sym w.self-inside-is) (omega arith)
      | else-self-len w ↦ subst (λ m. m.place ≤ length m.piece) (sym w.self-inside-is) c.self.invariant.within
    ] in
    let lent : c.from.result.now ≡ drop now.place now.piece = c.from.ensures in
    let few = c.copy_front-count.ensures.count in
    let fits : count ≤ length (drop now.place now.piece) = omega (arith, few, ap length lent) in
    let copied = c.copy_front-count.ensures.copied ∙ ap (λ l. take count l ++ drop count c.args.buf.now) lent in
    record {
      bound = search rules;
      bytes = (
        stands ∙ given count now.place now.piece c.copy_front-count.new.to _ (packet_records now.index now.turns) fits copied,
        λ none room.
            let len = c.copy_front-count.auto.to in
            let all : length now.piece ≡ now.place = omega (arith, none, room, len, few, within, ap length lent, length-drop now.place now.piece) in
            ended (now.place + count) now.index now.piece now.turns (omega (arith, all)) (last all),
      );
    }
