use Rattle.std.proofs.Common.{refl}
use Rattle.native_filters.specs.declared.facts.Hook.TheVariants.{Snd, Rcv}
use Rattle.app_traffic.specs.Acct.{acct_fresh, accounted, is_client_step, is_server_step}
use Rattle.app_traffic.specs.Counting.{is_call_of}
use Rattle.app_traffic.proofs.Totals.{total_from_0, last}
use Rattle.app_traffic.proofs.laws.accounts_of_the_calls.Goals as goal

pub returns : goal.returns
returns c calls = record {
  up_pkts = total_from_0 (λ t. t.t0) accounted (is_call_of Snd 1 0) (λ call. 1) (λ t call. refl) acct_fresh calls refl;
  up_bytes = total_from_0 (λ t. t.t1) accounted (is_call_of Snd 1 0) (λ call. call.facts.len) (λ t call. refl) acct_fresh calls refl;
  up_new = last (λ t. t.t2) accounted (is_call_of Rcv 2 0) (λ call. call.facts.next) (λ t call. refl) acct_fresh calls;
  down_pkts = total_from_0 (λ t. t.t3) accounted (is_call_of Snd 1 1) (λ call. 1) (λ t call. refl) acct_fresh calls refl;
  down_bytes = total_from_0 (λ t. t.t4) accounted (is_call_of Snd 1 1) (λ call. call.facts.len) (λ t call. refl) acct_fresh calls refl;
  down_new = last (λ t. t.t5) accounted (is_call_of Rcv 2 1) (λ call. call.facts.next) (λ t call. refl) acct_fresh calls;
  client_state = last (λ t. t.t6) accounted is_client_step (λ call. call.facts.new) (λ t call. refl) acct_fresh calls;
  server_state = last (λ t. t.t7) accounted is_server_step (λ call. call.facts.new) (λ t call. refl) acct_fresh calls;
}
