use Rattle.std.proofs.Common.{refl}
use Rattle.native_filters.specs.declared.facts.Hook.TheVariants.{Rcv}
use Rattle.std.specs.Prelude.{bit_and}
use Rattle.app_api.specs.Tally.{zeros}
use Rattle.app_traffic.specs.Counting.{is_call}
use Rattle.app_traffic.proofs.Totals.{total_from_0}
use Rattle.stalls.specs.Windows.{is_closed_by, noted}
use Rattle.stalls.proofs.laws.stalls_are_counted.Goals as goal

pub returns : goal.returns
returns c calls = record {
  client_closed = total_from_0 (λ t. t.t0) noted (is_closed_by 1) (λ call. 1) (λ t call. refl) zeros calls refl;
  server_closed = total_from_0 (λ t. t.t1) noted (is_closed_by 2) (λ call. 1) (λ t call. refl) zeros calls refl;
  while_closed = total_from_0 (λ t. t.t2) noted (is_call Rcv 2) (λ call. 1) (λ t call. refl) zeros calls refl;
  past_window = total_from_0 (λ t. t.t3) noted (is_call Rcv 3) (λ call. bit_and call.facts.fault 1) (λ t call. refl) zeros calls refl;
}
