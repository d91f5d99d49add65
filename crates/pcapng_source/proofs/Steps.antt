-- What a reader's steps leave as it was.
use Rattle.std.proofs.Common.{◌≡◌, ℕ, zero, ◌+◌, ◌-◌, ◌<◌, ◌≤◌, List, [], ◌++◌, length, take, drop, Bool, true, false, ◌==◌, cond, Some, refl, sym, ap, subst, ◌∙◌, arith, length-append, ⊎_elim}
use Rattle.std.proofs.lemmas.Bool.{cases_Bool, cases_lt, cond-false, cond-true, eqb-true}
use Rattle.std.proofs.lemmas.List.{nil_from_length}
use Rattle.std.proofs.Math.Seq.{take-append-add, drop-append-add}
use Rattle.pcapng_source.specs.Given.{prepended, refused_with}
use Rattle.pcapng_source.specs.Fields.{has, head_length, block_kind}
use Rattle.pcapng_source.specs.Refusals.{refusal_of}
use Rattle.pcapng_source.specs.Blocks.{blocks_from}
use Rattle.pcapng_source.specs.Reading.{Goes, IsFitting, IsUnrefused, Judges, met_at, ready_at, behind, behind_words, rest_at, rest_of, stop_of, weight_at, weight_of}
use Rattle.pcap_source.specs.declared.order.Order.{Order}
use Rattle.pcapng_source.specs.declared.fault.NgFault.{NgFault}
use Rattle.pcapng_source.specs.declared.fault.NgFault.TheVariants.{TooManyBlocks}
use Rattle.pcapng_source.specs.declared.reader.Reader.{Reader}
use Rattle.pcapng_source.specs.declared.reader.Stage.{Stage}
use Rattle.pcapng_source.specs.declared.reader.Stage.TheVariants.{Head, Body, Refused}
use Rattle.pcapng_source.proofs.Numbers.{has-front, has-there}
use Rattle.pcapng_source.proofs.Firm.{kind_of-front}
use Rattle.pcapng_source.proofs.Blocks.{after-after, blocks-many, has-short, head_length-least}
use Rattle.pcapng_source.proofs.Enters.{blocks-short, head-refused, head-waits}

pub rest-at : (r : Reader) (stage : Stage) (left : List ℕ) → r.stage ≡ stage → rest_of r left ≡ prepended r.made (rest_at stage r left)
rest-at r stage left is = ap (λ s. prepended r.made (rest_at s r left)) is

pub weight-at : (r : Reader) (stage : Stage) → r.stage ≡ stage → weight_of r ≡ weight_at stage r
weight-at r stage is = ap (λ s. weight_at s r) is

-- nothing happens
pub goes-same : (r : Reader) → IsFitting r → Goes r r
goes-same r fits = record { same = λ left. refl; fits = fits; lighter = omega arith; met = refl }

-- a block is refused
pub refuses : (r : Reader) (stage : Stage) (fault : NgFault) → r.stage ≡ stage → met_at stage ≡ 0 → IsFitting r → ((left : List ℕ) → rest_at stage r left ≡ refused_with fault)
    → Judges r (record r { stage = Refused fault 0 })
refuses r stage fault is none fits refusal = record {
  goes = record {
    same = λ left. ap (prepended r.made) (sym (refusal left)) ∙ sym (rest-at r stage left is);
    fits = fits;
    lighter = omega arith;
    met = sym (ap met_at is ∙ none);
  };
  ready = tt;
}

pub refuses-many : (r : Reader) → r.stage ≡ Head → IsFitting r → 8 ≤ length r.head → r.place.allowed ≡ 0
    → Judges r (record r { stage = Refused (TooManyBlocks r.place.offset) 0 })
refuses-many r is fits long none = refuses r Head (TooManyBlocks r.place.offset) is refl fits (λ left.
    ap (λ n. blocks_from r.section n r.place.offset (r.head ++ left)) none
    ∙ blocks-many r.section r.place.offset (r.head ++ left) (has-front 8 r.head left long))

pub refuses-head : (r : Reader) (fault : NgFault) → r.stage ≡ Head → IsFitting r → 8 ≤ length r.head → 0 < r.place.allowed
    → refusal_of r.section r.place.offset r.head ≡ Some fault → Judges r (record r { stage = Refused fault 0 })
refuses-head r fault is fits long some refusal = refuses r Head fault is refl fits (λ left.
    head-refused r.section r.place.allowed r.place.offset r.head left fault long some refusal)

-- a head that is too short to be judged
pub waits-short : (r : Reader) → r.stage ≡ Head → IsFitting r → length r.head < 8 → Judges r r
waits-short r is fits short = record {
  goes = goes-same r fits;
  ready = subst (λ s. ready_at s r) (sym is) (
    rw (has-short 8 r.head short) short,
    ap (λ s. rest_at s r []) is ∙ blocks-short r.section r.place.allowed r.place.offset (r.head ++ []) (omega (arith, length-append r.head [])),
  );
}

-- a head that isn't refused so far
pub waits : (r : Reader) → IsUnrefused r → length r.head < head_length (block_kind r.section.order r.head) → Judges r r
waits r it short = record {
  goes = goes-same r it.fits;
  ready = subst (λ s. ready_at s r) (sym it.stage) (
    rw (has-there 8 r.head it.long) short,
    ap (λ s. rest_at s r []) it.stage ∙ head-waits r.section r.place.allowed r.place.offset r.head it.allowed it.accepted short,
  );
}

-- ---- bytes that come next, in a body

-- they are given as they are
pub gives-body : (r : Reader) (count : ℕ) (front left : List ℕ) → r.stage ≡ Body → r.made ≡ [] → count ≤ r.owed → length front ≡ count
    → rest_of r (front ++ left) ≡ prepended front (rest_of (record r { owed = r.owed - count }) left)
gives-body r count front left is none few sized =
    let new : Reader = record r { owed = r.owed - count } in
    let bytes = drop (r.owed - count + r.skip) left in
    let taken : take r.owed (front ++ left) ≡ front ++ take (r.owed - count) left =
    ap (λ k. take k (front ++ left)) (let it : r.owed ≡ length front + (r.owed - count) = omega arith in it) ∙ take-append-add front left (r.owed - count) in
    let behind_it : drop (r.owed + r.skip) (front ++ left) ≡ bytes =
    ap (λ k. drop k (front ++ left)) (let it : r.owed + r.skip ≡ length front + (r.owed - count + r.skip) = omega arith in it) ∙ drop-append-add front left (r.owed - count + r.skip) in
    rest-at r Body (front ++ left) is
    ∙ ap (λ l. prepended l (rest_at Body r (front ++ left))) none
    ∙ ap (λ l. prepended l (behind_words r r.options (drop (r.owed + r.skip) (front ++ left)))) taken
    ∙ ap (λ l. prepended (front ++ take (r.owed - count) left) (behind_words r r.options l)) behind_it
    ∙ after-after front (take (r.owed - count) left) (behind_words r r.options bytes)
    ∙ ap (prepended front) (sym (rest-at new Body left is ∙ ap (λ l. prepended l (rest_at Body new left)) none))

-- they are skipped
pub skips-body : (r : Reader) (count : ℕ) (front left : List ℕ) → r.stage ≡ Body → r.owed ≡ 0 → count ≤ r.skip → length front ≡ count
    → rest_of (record r { skip = r.skip - count }) left ≡ rest_of r (front ++ left)
skips-body r count front left is owed few sized =
    let new : Reader = record r { skip = r.skip - count } in
    let behind_it : drop (r.owed + r.skip) (front ++ left) ≡ drop (r.owed + (r.skip - count)) left =
    ap (λ k. drop k (front ++ left)) (let it : r.owed + r.skip ≡ length front + (r.owed + (r.skip - count)) = omega arith in it)
    ∙ drop-append-add front left (r.owed + (r.skip - count)) in
    let none : (bytes : List ℕ) → take r.owed bytes ≡ [] = λ bytes. ap (λ k. take k bytes) owed in
    rest-at new Body left is
    ∙ ap (λ l. prepended r.made (prepended l (behind_words r r.options (drop (r.owed + (r.skip - count)) left)))) (none left ∙ sym (none (front ++ left)))
    ∙ sym (rest-at r Body (front ++ left) is
    ∙ ap (λ l. prepended r.made (prepended (take r.owed (front ++ left)) (behind_words r r.options l))) behind_it)

pub skips : (r : Reader) (count : ℕ) (front left : List ℕ) → r.stage ≡ Body → count ≤ cond (r.owed == 0) r.skip 0 → length front ≡ count
    → rest_of (record r { skip = r.skip - count }) left ≡ rest_of r (front ++ left)
skips r count front left is few sized = ⊎_elim
    (λ zero. skips-body r count front left is (eqb-true r.owed 0 zero) (subst (λ b. count ≤ cond b r.skip 0) zero few) sized)
    (λ some.
    let stays : count ≤ 0 = subst (λ b. count ≤ cond b r.skip 0) some few in
    let none : count ≡ 0 = omega arith in
    ap (λ k. rest_of (record r { skip = k }) left) (let it : r.skip - count ≡ r.skip = omega arith in it)
    ∙ ap (λ l. rest_of r (l ++ left)) (sym (nil_from_length front (sized ∙ none))))
    (cases_Bool (r.owed == 0))

-- ---- bytes that are held

stop-least : (order : Order) (head : List ℕ) (there : Bool) → 8 ≤ cond there (head_length (block_kind order head)) 8
stop-least order head true = head_length-least (block_kind order head)
stop-least order head false = omega arith

-- no more of a head is held than is judged next
pub keeps-head : (order : Order) (head bytes : List ℕ) → length head ≤ stop_of order head → length bytes ≤ stop_of order head - length head
    → length (head ++ bytes) ≤ stop_of order (head ++ bytes)
keeps-head order head bytes fits few = ⊎_elim
    (λ short.
    let stop : stop_of order head ≡ 8 = cond-false (has 8 head) _ 8 (has-short 8 head short) in
    let least = stop-least order (head ++ bytes) (has 8 (head ++ bytes)) in
    omega (arith, stop, least, length-append head bytes))
    (λ long.
    let stop : stop_of order head ≡ head_length (block_kind order head) = cond-true (has 8 head) _ 8 (has-there 8 head long) in
    let next : stop_of order (head ++ bytes) ≡ head_length (block_kind order head) =
    cond-true (has 8 (head ++ bytes)) _ 8 (has-front 8 head bytes long) ∙ ap head_length (kind_of-front order head bytes (omega arith)) in
    omega (arith, stop, next, length-append head bytes))
    (cases_lt (length head) 8)
