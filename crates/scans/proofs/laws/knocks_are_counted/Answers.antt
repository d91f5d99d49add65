use Rattle.std.proofs.Common.{refl}
use Rattle.app_api.specs.Tally.{zeros}
use Rattle.app_traffic.proofs.Totals.{total_from_0, last}
use Rattle.scans.specs.Knocks.{counted, is_answer, is_knock, is_opened, is_refusal}
use Rattle.scans.proofs.laws.knocks_are_counted.Goals as goal

pub returns : goal.returns
returns c calls = record {
  syns = total_from_0 (λ t. t.t0) counted is_knock (λ call. 1) (λ t call. refl) zeros calls refl;
  answered = last (λ t. t.t1) counted is_answer (λ call. 1) (λ t call. refl) zeros calls;
  refused = last (λ t. t.t2) counted is_refusal (λ call. 1) (λ t call. refl) zeros calls;
  opened = last (λ t. t.t3) counted is_opened (λ call. 1) (λ t call. refl) zeros calls;
}
