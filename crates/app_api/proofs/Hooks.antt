-- Rows of a table, place by place.
use Rattle.std.proofs.Common.{◌≡◌, ℕ, zero, suc, ◌<◌, ◌≤◌, Bool, false, List, [], ◌∷◌, length, get_or, map, slice_get, refl, arith}
use Rattle.native_filters.specs.declared.facts.Hook.{Hook}
use Rattle.native_filters.specs.declared.facts.Hook.TheVariants.{Snd, Rcv}
use Rattle.app_api.specs.Events.{EventRow, raised_at, raised_by_packets}

-- a row of one table says of a side what the row of another does at its place, if the columns are the same
pub sender-at : {N M : Type 0} (rows : List EventRow) (table : List (N × Bool × Bool × M × Bool)) (i : ℕ) (d : N × Bool × Bool × M × Bool)
    → map (λ t. t.1) table ≡ map (λ r. r.at_sender) rows → i < length table → (get_or table i d).1 ≡ raised_at (slice_get rows i) Snd
sender-at rows [] i d same within = absurd (omega arith)
sender-at [] (u ∷ table) i d same within = cc
sender-at (r ∷ rows) (u ∷ table) zero d same within = cc
sender-at (r ∷ rows) (u ∷ table) (suc i) d same within =
    let rest : map (λ t. t.1) table ≡ map (λ r. r.at_sender) rows = cc in
    let less : i < length table = omega arith in
    sender-at rows table i d rest less

pub receiver-at : {N M : Type 0} (rows : List EventRow) (table : List (N × Bool × Bool × M × Bool)) (i : ℕ) (d : N × Bool × Bool × M × Bool)
    → map (λ t. t.2) table ≡ map (λ r. r.at_receiver) rows → i < length table → (get_or table i d).2 ≡ raised_at (slice_get rows i) Rcv
receiver-at rows [] i d same within = absurd (omega arith)
receiver-at [] (u ∷ table) i d same within = cc
receiver-at (r ∷ rows) (u ∷ table) zero d same within = cc
receiver-at (r ∷ rows) (u ∷ table) (suc i) d same within =
    let rest : map (λ t. t.2) table ≡ map (λ r. r.at_receiver) rows = cc in
    let less : i < length table = omega arith in
    receiver-at rows table i d rest less

-- behind a table there is no row
pub none-at : {N M : Type 0} (rows : List EventRow) (table : List (N × Bool × Bool × M × Bool)) (i : ℕ) (hook : Hook)
    → map (λ t. t.1) table ≡ map (λ r. r.at_sender) rows → length table ≤ i → false ≡ raised_at (slice_get rows i) hook
none-at [] [] i hook same past = refl
none-at (r ∷ rows) [] i hook same past = cc
none-at [] (u ∷ table) i hook same past = cc
none-at (r ∷ rows) (u ∷ table) zero hook same past = absurd (omega arith)
none-at (r ∷ rows) (u ∷ table) (suc i) hook same past =
    let rest : map (λ t. t.1) table ≡ map (λ r. r.at_sender) rows = cc in
    let more : length table ≤ i = omega arith in
    none-at rows table i hook rest more

-- the same of what a row says of packets, at a place of both tables and behind them
pub packets-at : {N M : Type 0} (rows : List EventRow) (table : List (N × Bool × Bool × M × Bool)) (i : ℕ) (d : N × Bool × Bool × M × Bool)
    → map (λ t. t.4) table ≡ map (λ r. r.by_packets) rows → i < length table → (get_or table i d).4 ≡ raised_by_packets (slice_get rows i)
packets-at rows [] i d same within = absurd (omega arith)
packets-at [] (u ∷ table) i d same within = cc
packets-at (r ∷ rows) (u ∷ table) zero d same within = cc
packets-at (r ∷ rows) (u ∷ table) (suc i) d same within =
    let rest : map (λ t. t.4) table ≡ map (λ r. r.by_packets) rows = cc in
    let less : i < length table = omega arith in
    packets-at rows table i d rest less

pub no-packets-at : {N M : Type 0} (rows : List EventRow) (table : List (N × Bool × Bool × M × Bool)) (i : ℕ)
    → map (λ t. t.4) table ≡ map (λ r. r.by_packets) rows → length table ≤ i → false ≡ raised_by_packets (slice_get rows i)
no-packets-at [] [] i same past = refl
no-packets-at (r ∷ rows) [] i same past = cc
no-packets-at [] (u ∷ table) i same past = cc
no-packets-at (r ∷ rows) (u ∷ table) zero same past = absurd (omega arith)
no-packets-at (r ∷ rows) (u ∷ table) (suc i) same past =
    let rest : map (λ t. t.4) table ≡ map (λ r. r.by_packets) rows = cc in
    let more : length table ≤ i = omega arith in
    no-packets-at rows table i rest more
