use Rattle.std.proofs.Common.{refl}
use Rattle.native_filters.specs.declared.facts.Hook.TheVariants.{Rcv}
use Rattle.app_api.specs.Tally.{zeros}
use Rattle.app_traffic.specs.Counting.{is_call}
use Rattle.app_traffic.specs.Rexmit.{recounted}
use Rattle.app_traffic.proofs.Totals.{total_from_0}
use Rattle.app_traffic.proofs.laws.retransmissions_of_the_calls.Goals as goal

pub returns : goal.returns
returns c calls = record {
  rex_pkts = total_from_0 (λ t. t.t0) recounted (is_call Rcv 1) (λ call. 1) (λ t call. refl) zeros calls refl;
  rex_bytes = total_from_0 (λ t. t.t1) recounted (is_call Rcv 1) (λ call. call.facts.rexlen) (λ t call. refl) zeros calls refl;
  rex_diff = total_from_0 (λ t. t.t2) recounted (is_call Rcv 1) (λ call. call.facts.rexdiff) (λ t call. refl) zeros calls refl;
  later_pkts = total_from_0 (λ t. t.t3) recounted (is_call Rcv 2) (λ call. 1) (λ t call. refl) zeros calls refl;
}
