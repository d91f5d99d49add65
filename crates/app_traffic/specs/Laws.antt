-- Not of the headline. What the tallies mean over a list of calls, in the words of the subject.
use Rattle.std.specs.Prelude.{◌≡◌, ℕ, ◌+◌, ◌%◌, ◌^◌, Bool, List, [], ◌∷◌, fold, if◌then◌else◌}
use Rattle.native_filters.specs.declared.facts.Hook.TheVariants.{Snd, Rcv}
use Rattle.app_api.specs.declared.app.Call.{Call}
use Rattle.app_api.specs.declared.app.Tally.{Tally}
use Rattle.app_api.specs.Tally.{zeros}
use Rattle.app_traffic.specs.Acct.{acct_fresh, accounted, is_client_step, is_server_step}
use Rattle.app_traffic.specs.Counting.{is_call_of, is_call}
use Rattle.app_traffic.specs.Rexmit.{recounted}

-- the sum of a number over the calls that pass a test
abbrev pub total_of : (Call → Bool) → (Call → ℕ) → List Call → ℕ
total_of test number [] = 0
total_of test number (call ∷ calls) = (if test call then number call else 0) + total_of test number calls

-- the number at the last call that passes a test, or the one before where none passes
abbrev pub last_of : (Call → Bool) → (Call → ℕ) → ℕ → List Call → ℕ
last_of test number before [] = before
last_of test number before (call ∷ calls) = last_of test number (if test call then number call else before) calls

-- the tally of accounting after calls
abbrev pub accounts : List Call → Tally
accounts calls = fold accounted acct_fresh calls

-- the tally of retransmissions after calls
abbrev pub retransmissions : List Call → Tally
retransmissions calls = fold recounted zeros calls

pub record Accounts (calls : List Call) : Type 0 where
  pub up_pkts : (accounts calls).t0 ≡ total_of (is_call_of Snd 1 0) (λ call. 1) calls % 2 ^ 64
  pub up_bytes : (accounts calls).t1 ≡ total_of (is_call_of Snd 1 0) (λ call. call.facts.len) calls % 2 ^ 64
  pub up_new : (accounts calls).t2 ≡ last_of (is_call_of Rcv 2 0) (λ call. call.facts.next) 0 calls
  pub down_pkts : (accounts calls).t3 ≡ total_of (is_call_of Snd 1 1) (λ call. 1) calls % 2 ^ 64
  pub down_bytes : (accounts calls).t4 ≡ total_of (is_call_of Snd 1 1) (λ call. call.facts.len) calls % 2 ^ 64
  pub down_new : (accounts calls).t5 ≡ last_of (is_call_of Rcv 2 1) (λ call. call.facts.next) 0 calls
  pub client_state : (accounts calls).t6 ≡ last_of is_client_step (λ call. call.facts.new) 0 calls
  pub server_state : (accounts calls).t7 ≡ last_of is_server_step (λ call. call.facts.new) 1 calls

pub record Retransmissions (calls : List Call) : Type 0 where
  pub rex_pkts : (retransmissions calls).t0 ≡ total_of (is_call Rcv 1) (λ call. 1) calls % 2 ^ 64
  pub rex_bytes : (retransmissions calls).t1 ≡ total_of (is_call Rcv 1) (λ call. call.facts.rexlen) calls % 2 ^ 64
  pub rex_diff : (retransmissions calls).t2 ≡ total_of (is_call Rcv 1) (λ call. call.facts.rexdiff) calls % 2 ^ 64
  pub later_pkts : (retransmissions calls).t3 ≡ total_of (is_call Rcv 2) (λ call. 1) calls % 2 ^ 64
