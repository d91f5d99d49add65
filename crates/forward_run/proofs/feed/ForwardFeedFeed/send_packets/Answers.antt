use Rattle.std.proofs.Common.{◌≡◌, [], None, refl, ◌∙◌}
use Rattle.run_outcome.specs.Greatest.{greatest_from, greatest}
use Rattle.forward_run.proofs.feed.ForwardFeedFeed.send_packets.Goals as goal

none_yet : None ≡ greatest []
unfolding greatest_from
none_yet = refl

pub stream-read-requires-clause-opened : goal.stream-read-requires-clause-opened
stream-read-requires-clause-opened g c = c.requires.begins.2.opened

pub stream-read-requires-clause-some : goal.stream-read-requires-clause-some
stream-read-requires-clause-some g c = rw (c.swap.ensures.x_after) c.requires.some

pub stream-read-requires-clause-begins : goal.stream-read-requires-clause-begins
stream-read-requires-clause-begins g c =
    let given = c.requires.begins in
    let may = given.2 in (
      given.0,
      g.O.Sink.taken c.args.self.now.out.now,
      record {
        count = may.none_left.sent;
        newest = may.last ∙ none_yet;
        inputs_are = rw (c.swap.ensures.x_after) given.1;
        all_answers_are = may.all_answers_are;
      },
      may.none_left,
    )

pub returns : goal.returns
returns g c = record {
  dealt = λ begins inputs may.
      let dealt = c.stream-read.ensures.streamed begins (g.O.Sink.taken c.args.self.now.out.now)
      (record {
        count = may.none_left.sent;
        newest = may.last ∙ none_yet;
        inputs_are = rw (c.swap.ensures.x_after) inputs;
        all_answers_are = may.all_answers_are;
      })
      may.none_left in
      record {
        frames = dealt.frames;
        few = dealt.few;
        inputs_are = rw (c.swap-2.ensures.y_after) dealt.inputs_are;
        done = (dealt.done, c.stream-read.ensures.outside, refl, refl, refl, refl);
      };
}
