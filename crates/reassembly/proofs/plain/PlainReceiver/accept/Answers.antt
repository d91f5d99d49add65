use Rattle.std.proofs.Common.{◌≡◌, ℕ, ◌-◌, ℤ, pos, ◌+ℤ◌, List, Option, length, take, drop, ap, ap₂, sym, refl, ◌∙◌, arith, to_z-of_z, vec_len, length-drop}
use Rattle.std.proofs.lemmas.List.{with_items_is, take_rest}
use Rattle.reassembly.specs.declared.plain.Before.{Before}
use Rattle.reassembly.specs.Receiver.{Receiver, held, next_of, wide_with, limit_of, limit_at}
use Rattle.reassembly.specs.Segment.{accept, counts, held_after, from_zero, below_zero}
use Rattle.reassembly.proofs.Plains.{judged_few, resized, plain_accept, plain_judged}
use Rattle.reassembly.proofs.plain.PlainReceiver.accept.Goals as goal

pub behind_old-requires : goal.behind_old-requires
behind_old-requires c =
    let bytes = c.args.bytes.now in
    let cut = c.min-below.result in
    let rest : length (take (length bytes - cut) (drop cut bytes)) ≡ length bytes - cut = ap length (take_rest bytes cut) ∙ length-drop cut bytes in
    let few = judged_few _ _ _ _ _ c.write_all-placed.result c.write_all-placed.ensures.placed in
    let old = few.old in
    omega arith

next_is : (c : goal.After-behind_old) → c.next-next.result ≡ next_of c.self.inside.cells.items
next_is c = c.next-next.ensures ∙ ap (λ (r : Receiver). next_of r.cells) (sym c.self.view_is)

abbrev before : (c : goal.After-behind_old) → Receiver
before c = record { cells = c.self.inside.cells.items; fin = c.self.inside.fin; offer = c.self.inside.offer }

limit_is : (c : goal.After-behind_old) → c.limit.result ≡ limit_at (before c) c.args.rbuf
limit_is c = c.limit.ensures ∙ ap (limit_of c.next-next.result c.self.inside.fin) c.wide.ensures.value
    ∙ ap (λ n. limit_of n c.self.inside.fin (wide_with n c.self.inside.offer c.args.rbuf)) (next_is c)

begins : (c : goal.After-behind_old) → c.start_of-start.result.position ≡ from_zero (pos (next_of c.self.inside.cells.items) +ℤ c.args.d)
begins c = c.start_of-start.ensures.position ∙ ap₂ (λ n (z : ℤ). from_zero (pos n +ℤ z)) (next_is c) (to_z-of_z c.ranges.d)

begins_below : (c : goal.After-behind_old) → c.start_of-start.result.below ≡ below_zero (pos (next_of c.self.inside.cells.items) +ℤ c.args.d)
begins_below c = c.start_of-start.ensures.below ∙ ap₂ (λ n (z : ℤ). below_zero (pos n +ℤ z)) (next_is c) (to_z-of_z c.ranges.d)

same_cells : (c : goal.After-behind_old) (p : ℕ) → held c.deref_mut.result.now p ≡ held c.self.inside.cells.items p
same_cells c p =
    let old = c.self.inside.cells in
    let new = c.resize.new.self in
    let len : vec_len new ≡ c.max-end.result = c.in_ok-resize.ensures.len in
    let by_index = c.in_ok-resize.ensures.by_index in
    ap (λ (cells : List (Option ℕ)). held cells p) c.deref_mut.ensures.value
    ∙ resized old.items new.items c.max-end.result (omega arith) (omega arith) (λ k d l m. by_index.0 k d l (omega arith)) (λ k d l m. by_index.1 k d refl (omega arith) m) p

pub returns-clause-ok : goal.returns-clause-ok
returns-clause-ok c =
    let s = c.self.inside in
    let r = before c in
    let bytes = c.args.bytes.now in
    let cut = c.min-below.result in
    let mid = c.deref_mut.result.now in
    let new = c.write_all-placed.new.cells in
    let len : vec_len c.resize.new.self ≡ c.max-end.result = c.in_ok-resize.ensures.len in
    let long : length mid ≡ vec_len c.resize.new.self = c.deref_mut.ensures.len in
    let same : length new ≡ length mid = c.write_all-placed.auto.cells in
    let short : length (take (length bytes - cut) (drop cut bytes)) ≡ length bytes - cut = ap length (take_rest bytes cut) ∙ length-drop cut bytes in
    let after : (p : ℕ) → held new p ≡ held_after (next_of s.cells.items) (limit_at r c.args.rbuf) c.args.policy c.start_of-start.result.position
    (take (length bytes - cut) (drop cut bytes)) p (held mid p)
    = λ p. c.write_all-placed.ensures.cells p ∙ ap₂ (λ n l. held_after n l c.args.policy c.start_of-start.result.position
    (take (length bytes - cut) (drop cut bytes)) p (held mid p)) (next_is c) (limit_is c) in
    ap (λ (cells : List (Option ℕ)). record { cells = cells; fin = s.fin; offer = s.offer }) (with_items_is c.resize.new.self new (omega arith))
    ∙ plain_accept r c.args.d c.args.rbuf bytes c.args.policy c.start_of-start.result.position c.start_of-start.result.below cut mid new
    (begins c) (begins_below c) c.min-below.ensures same (omega arith) (same_cells c) after
    ∙ ap (λ (x : Receiver). accept x (pos (next_of x.cells) +ℤ c.args.d) bytes c.args.policy c.args.rbuf) c.self.view_is

pub returns-clause-counts : goal.returns-clause-counts
returns-clause-counts c =
    let s = c.self.inside in
    let r = before c in
    let judged_by : Before = record { next = c.next-next.result; limit = c.limit.result; rbuf = c.args.rbuf } in
    let told : judged_by ≡ record { next = next_of s.cells.items; limit = limit_at r c.args.rbuf; rbuf = c.args.rbuf }
    = ap₂ (λ n l. record { next = n; limit = l; rbuf = c.args.rbuf }) (next_is c) (limit_is c) in
    c.behind_old.ensures ∙ plain_judged r c.args.d c.args.rbuf c.args.bytes.now c.start_of-start.result.position c.start_of-start.result.below c.min-below.result c.deref_mut.result.now judged_by c.write_all-placed.result
    (begins c) (begins_below c) c.min-below.ensures told (same_cells c) c.write_all-placed.ensures.placed
    ∙ ap (λ (x : Receiver). counts x (pos (next_of x.cells) +ℤ c.args.d) c.args.bytes.now c.args.rbuf) c.self.view_is
