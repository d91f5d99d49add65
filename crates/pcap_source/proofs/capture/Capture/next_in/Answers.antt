-- The record that stands at the front is the one that the definition has there.
use Rattle.std.proofs.Common.{◌≡◌, ◌+◌, ◌<◌, ◌≤◌, length, arith, refl, rules}
use Rattle.pcap_source.specs.Capture.{captured_length}
use Rattle.pcap_source.proofs.InPlace.{standing_bytes, standing_data, standing_length, standing_next, standing_record}
use Rattle.pcap_source.proofs.capture.Capture.next_in.Goals as goal

pub returns-clause-taken : goal.returns-clause-taken
returns-clause-taken c =
    let front = c.args.front.now in
    let order = c.self.inside.order in
    let record_is = c.judge_head-record in
    let told : record_is.result.len ≡ 16 + captured_length order front = record_is.ensures.len in
    let within : record_is.result.len ≤ length front = omega (arith, c.if-record-front.false) in
    let bounded : record_is.result.len ≤ 16 + 262144 = omega (arith, c.if-record.false) in
    let few : c.self.inside.count < 1048576 = search rules in
    rw (← c.self.view_is)
    (record {
      seconds = record_is.ensures.seconds;
      fraction = record_is.ensures.fraction;
      original = record_is.ensures.original;
      within = within;
      bytes = standing_bytes order record_is.result.len front told within bounded;
      captured = standing_data order record_is.result.len front told within bounded;
      is_record = standing_record order record_is.result.len front told within bounded;
      moves = record {
        header = refl;
        order = refl;
        count = refl;
        offset = let sized = standing_length order record_is.result.len front told within bounded in omega (arith, sized);
        within = omega (arith, few);
      };
      live = search rules;
      gives = standing_next order record_is.result.len front told within bounded c.self.inside.count c.self.inside.offset few;
    })
