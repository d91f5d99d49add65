-- What the tally is after any calls.
use Rattle.std.specs.Prelude.{◌≡◌, ◌%◌, ◌^◌, List, bit_and, fold}
use Rattle.native_filters.specs.declared.facts.Hook.TheVariants.{Rcv}
use Rattle.app_api.specs.declared.app.Call.{Call}
use Rattle.app_api.specs.declared.app.Tally.{Tally}
use Rattle.app_api.specs.Tally.{zeros}
use Rattle.app_traffic.specs.Counting.{is_call}
use Rattle.app_traffic.specs.Laws.{total_of}
use Rattle.stalls.specs.Windows.{is_closed_by, noted}

abbrev pub tally_after : List Call → Tally
tally_after calls = fold noted zeros calls

pub record Counts (calls : List Call) : Type 0 where
  pub client_closed : (tally_after calls).t0 ≡ total_of (is_closed_by 1) (λ call. 1) calls % 2 ^ 64
  pub server_closed : (tally_after calls).t1 ≡ total_of (is_closed_by 2) (λ call. 1) calls % 2 ^ 64
  pub while_closed : (tally_after calls).t2 ≡ total_of (is_call Rcv 2) (λ call. 1) calls % 2 ^ 64
  pub past_window : (tally_after calls).t3 ≡ total_of (is_call Rcv 3) (λ call. bit_and call.facts.fault 1) calls % 2 ^ 64
