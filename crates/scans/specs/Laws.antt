-- What the tally is after any calls.
use Rattle.std.specs.Prelude.{◌≡◌, ◌%◌, ◌^◌, List, fold}
use Rattle.app_api.specs.declared.app.Call.{Call}
use Rattle.app_api.specs.declared.app.Tally.{Tally}
use Rattle.app_api.specs.Tally.{zeros}
use Rattle.app_traffic.specs.Laws.{total_of, last_of}
use Rattle.scans.specs.Knocks.{counted, is_answer, is_knock, is_opened, is_refusal}

abbrev pub tally_after : List Call → Tally
tally_after calls = fold counted zeros calls

pub record Counts (calls : List Call) : Type 0 where
  pub syns : (tally_after calls).t0 ≡ total_of is_knock (λ call. 1) calls % 2 ^ 64
  pub answered : (tally_after calls).t1 ≡ last_of is_answer (λ call. 1) 0 calls
  pub refused : (tally_after calls).t2 ≡ last_of is_refusal (λ call. 1) 0 calls
  pub opened : (tally_after calls).t3 ≡ last_of is_opened (λ call. 1) 0 calls
