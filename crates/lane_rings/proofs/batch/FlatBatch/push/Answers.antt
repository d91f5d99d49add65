use Rattle.std.proofs.Common.{rules, ◌≡◌, length, ◌+◌}
use Rattle.app_api.specs.declared.reaction.Verdict.TheVariants.{Pass}
use Rattle.lane_rings.specs.declared.batch.Place.{Place}
use Rattle.lane_rings.proofs.Batches.{packets-still, packets-more}
use Rattle.lane_rings.proofs.batch.FlatBatch.push.Goals as goal

pub returns-in_err-push-clause-unchanged : goal.returns-in_err-push-clause-unchanged
returns-in_err-push-clause-unchanged c =
    let still = packets-still c.self.inside.bytes.items c.args.packet.now.bytes.now c.self.inside.places.items c.self.inside.within in
    search (rules, still)

pub returns-clause-ok : goal.returns-clause-ok
returns-clause-ok c =
    let packet = c.args.packet.now in
    let bytes = c.self.inside.bytes.items in
    let place : Place = record {
      index = packet.index;
      floor = packet.floor;
      ceil = packet.ceil;
      seconds = packet.seconds;
      fraction = packet.fraction;
      original = packet.original;
      head = packet.head;
      start = c.len-start.result;
      end = c.len.result;
      verdict = Pass;
    } in
    let start : c.len-start.result ≡ length bytes = search rules in
    let end : c.len.result ≡ length bytes + length packet.bytes.now = search rules in
    let more = packets-more bytes packet.bytes.now c.self.inside.places.items place c.self.inside.within start end in
    search (rules, more)
