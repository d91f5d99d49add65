-- What stands at hand is the front of what is left.
use Rattle.std.proofs.Common.{◌≤◌, length, rules, subst}
use Rattle.mos_bytes.specs.Reads.{BeginsWith, HasAtLeast}
use Rattle.pcap_source.proofs.Cuts.{is_whole-front}
use Rattle.pcap_source.proofs.capture.Capture.is_at_hand.Goals as goal

pub returns-then-captured-le-CAPTURED_LIMIT : goal.returns-then-captured-le-CAPTURED_LIMIT
returns-then-captured-le-CAPTURED_LIMIT g c = record {
  whole = λ fits bytes told.
      let begins = subst (λ left. BeginsWith left c.at_hand-front.result.now) told c.at_hand-front.ensures.front in
      let least = subst (λ left. HasAtLeast left c.count_at_hand.result) told c.count_at_hand.ensures.least in
      let headed : 16 ≤ length c.at_hand-front.result.now = search rules in
      rw (← c.self.view_is) (is_whole-front c.self.inside.order c.u32_at-captured.result _ _ bytes begins headed c.u32_at-captured.ensures least c.if-captured-le-CAPTURED_LIMIT.true fits);
}
