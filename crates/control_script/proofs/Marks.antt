-- What the marks of a script's rows tell: its order, its ceilings and its floors.
use Rattle.std.proofs.Common.{◌≡◌, ℕ, zero, suc, ◌+◌, ◌-◌, ◌<◌, ◌≤◌, max, leb, ltb, Bool, true, false, not, ◌&&◌, ◌||◌, List, [], ◌∷◌, ◌++◌, map, length, length-append, get_or, Option, Some, None, slice_get, refl, ap, sym, ◌∙◌, arith}
use Rattle.std.specs.List.{prefix_len, list_all, list_any}
use Rattle.std.specs.Option.{unwrap_or}
use Rattle.std.specs.List.Sorted.{IsNonDecreasingBy, IsPartitionPoint}
use Rattle.std.proofs.lemmas.List.Sums.{prefix_len_is}
use Rattle.std.proofs.lemmas.Bool.{le-leb}
use Rattle.std.proofs.lemmas.List.{map-append, length-map}
use Rattle.std.proofs.lemmas.Bool.Decides.{nat_tests}
use Rattle.std.proofs.lemmas.List.Folds.{list_all-append}
use Rattle.std.proofs.lemmas.Option.{slice_get-map}
use Rattle.forest_versions.specs.declared.command.Stamp.{Stamp}
use Rattle.forest_versions.specs.declared.command.Stamp.TheVariants.{At, Live}
use Rattle.control_script.specs.declared.script.Row.{Row}
use Rattle.control_script.specs.declared.stamped.Stamped.{Stamped}
use Rattle.control_script.specs.Order.{commands_of, is_later, are_in_order}
use Rattle.control_script.specs.Rows.{stamped_of, latest_with, forced_with, AreMarked, AreRows, last_latest, last_forced}
use Rattle.control_script.specs.Versions.{is_forced, behind_one, floor, ceil, is_live}

-- as a number, which is 0 where there is none
abbrev pub num : Option ℕ → ℕ
num latest = unwrap_or latest 0

abbrev number_with : ℕ → Stamp → ℕ
number_with latest (At k) = max latest k
number_with latest Live = latest

num-with : (l : Option ℕ) (s : Stamp) → num (latest_with l s) ≡ number_with (num l) s
num-with None (At k) = omega arith
num-with (Some l) (At k) = refl
num-with None Live = refl
num-with (Some l) Live = refl

-- a row's number, where its mark is known
row-number : (l : Option ℕ) (r : Row) → r.latest ≡ latest_with l r.stamped.stamp → num r.latest ≡ number_with (num l) r.stamped.stamp
row-number l r is = ap num is ∙ num-with l r.stamped.stamp

number-least : (l : ℕ) (s : Stamp) → l ≤ number_with l s
number-least l (At k) = omega arith
number-least l Live = omega arith

least : (l : Option ℕ) (f p : ℕ) (rows : List Row) → AreMarked l f p rows → (i : ℕ) (d : Row) → i < length rows → num l ≤ num (get_or rows i d).latest
least l f p [] m i d lt = absurd (omega arith)
least l f p (r ∷ rs) m zero d lt = omega (arith, row-number l r m.0, number-least (num l) r.stamped.stamp)
least l f p (r ∷ rs) m (suc i) d lt =
    omega (arith, row-number l r m.0, number-least (num l) r.stamped.stamp, least r.latest r.forced (p + 1) rs m.1.1 i d (omega arith))

pub latest-rises : (l : Option ℕ) (f p : ℕ) (rows : List Row) → AreMarked l f p rows → IsNonDecreasingBy (λ r. num r.latest) rows
latest-rises l f p [] m i j d le lt = absurd (omega arith)
latest-rises l f p (r ∷ rs) m zero zero d le lt = omega arith
latest-rises l f p (r ∷ rs) m zero (suc j) d le lt = least r.latest r.forced (p + 1) rs m.1.1 j d (omega arith)
latest-rises l f p (r ∷ rs) m (suc i) zero d le lt = absurd (omega arith)
latest-rises l f p (r ∷ rs) m (suc i) (suc j) d le lt = latest-rises r.latest r.forced (p + 1) rs m.1.1 i j d (omega arith) (omega arith)

bars : (l n k x : ℕ) → ltb n k ≡ true → x ≡ max l k → leb x n ≡ false
bars l n k x h e = grind (arith, nat_tests)

passes : (l n k x : ℕ) → ltb n k ≡ false → x ≡ max l k → l ≤ n → leb x n ≡ true
passes l n k x h e le = grind (arith, nat_tests)

not_forced : (n k : ℕ) → ltb n k ≡ true → leb k n ≡ false
not_forced n k h = grind (arith, nat_tests)

is_passed : (n k : ℕ) → ltb n k ≡ false → leb k n ≡ true
is_passed n k h = grind (arith, nat_tests)

-- the rows that packet n may see are those before the ceiling
ceil-at : (t : Bool) (s : Stamp) (l n k : ℕ) (r : Row) (rs : List Row) → r.stamped.stamp ≡ At k → ltb n k ≡ t → num r.latest ≡ max l k → l ≤ n
    → (num r.latest ≤ n → prefix_len (λ r. leb (num r.latest) n) rs ≡ ceil (stamped_of rs) n) → prefix_len (λ r. leb (num r.latest) n) (r ∷ rs) ≡ ceil (stamped_of (r ∷ rs)) n
ceil-at true s l n k r rs at h e le more = rw (at, h, bars l n k (num r.latest) h e) refl
ceil-at false s l n k r rs at h e le more =
    let seen : num r.latest ≤ n = grind (arith, nat_tests) in
    rw (at, h, passes l n k (num r.latest) h e le, more seen) (omega arith)

ceil-step : (s : Stamp) (l n : ℕ) (r : Row) (rs : List Row) → r.stamped.stamp ≡ s → num r.latest ≡ number_with l s → l ≤ n
    → (num r.latest ≤ n → prefix_len (λ r. leb (num r.latest) n) rs ≡ ceil (stamped_of rs) n) → prefix_len (λ r. leb (num r.latest) n) (r ∷ rs) ≡ ceil (stamped_of (r ∷ rs)) n
ceil-step (At k) l n r rs is e le more = ceil-at (ltb n k) (At k) l n k r rs is refl e le more
ceil-step Live l n r rs is e le more =
    let seen : leb (num r.latest) n ≡ true = le-leb (num r.latest) n (omega arith) in
    rw (is, seen, more (omega arith)) (omega arith)

pub ceil-seen : (l : Option ℕ) (f p n : ℕ) (rows : List Row) → AreMarked l f p rows → num l ≤ n → prefix_len (λ r. leb (num r.latest) n) rows ≡ ceil (stamped_of rows) n
ceil-seen l f p n [] m le = refl
ceil-seen l f p n (r ∷ rs) m le =
    ceil-step r.stamped.stamp (num l) n r rs refl (row-number l r m.0) le (λ seen. ceil-seen r.latest r.forced (p + 1) n rs m.1.1 seen)

-- the mark of the last of so many rows
abbrev pub forced_at : ℕ → List Row → ℕ → ℕ
forced_at f rows zero = f
forced_at f [] (suc c) = f
forced_at f (r ∷ rs) (suc c) = forced_at r.forced rs c

pub forced_at-row : (f : ℕ) (rows : List Row) (c : ℕ) (d : Row) → c < length rows → (get_or rows c d).forced ≡ forced_at f rows (suc c)
forced_at-row f [] c d lt = absurd (omega arith)
forced_at-row f (r ∷ rs) zero d lt = refl
forced_at-row f (r ∷ rs) (suc c) d lt = forced_at-row r.forced rs c d (omega arith)

first : (a b : Bool) → (a && b) ≡ true → a ≡ true
first true b h = refl
first false b h = absurd (cc)

second : (a b : Bool) → (a && b) ≡ true → b ≡ true
second true b h = h
second false b h = absurd (cc)

-- behind a command that packet n may not see stands none that it has to see
floor-step : (s : Stamp) (n k : ℕ) → ltb n k ≡ true → not (is_later (At k) s) ≡ true → is_forced n s ≡ false
floor-step (At j) n k h later = grind (arith, nat_tests)
floor-step Live n k h later = refl

floor-none : (n k : ℕ) (ss : List Stamped) → ltb n k ≡ true → list_all (λ t. not (is_later (At k) t.stamp)) ss ≡ true → floor ss n ≡ 0
floor-none n k [] h later = refl
floor-none n k (s ∷ ss) h later =
    let head = not (is_later (At k) s.stamp) in
    let tail = list_all (λ t. not (is_later (At k) t.stamp)) ss in
    rw (floor-none n k ss h (second head tail later), floor-step s.stamp n k h (first head tail later)) refl

-- what a floor tells behind a place, and before the first
abbrev from : ℕ → ℕ → ℕ → ℕ
from p f (suc v) = p + suc v
from p f zero = f

from-forced : (p f g v : ℕ) → g ≡ p + 1 → from (p + 1) g v ≡ from p f (behind_one true v)
from-forced p f g zero e = e
from-forced p f g (suc v) e = omega arith

from-live : (p f v : ℕ) → from (p + 1) f v ≡ from p f (behind_one false v)
from-live p f zero = refl
from-live p f (suc v) = omega arith

mark-at : (t : Bool) (p f n k : ℕ) (r : Row) (rs : List Row) → r.stamped.stamp ≡ At k → ltb n k ≡ t → r.forced ≡ p + 1
    → list_all (λ t. not (is_later (At k) t.stamp)) (stamped_of rs) ≡ true
    → forced_at r.forced rs (ceil (stamped_of rs) n) ≡ from (p + 1) r.forced (floor (stamped_of rs) n)
    → forced_at f (r ∷ rs) (ceil (stamped_of (r ∷ rs)) n) ≡ from p f (floor (stamped_of (r ∷ rs)) n)
mark-at true p f n k r rs at h e later more = rw (at, h, floor-none n k (stamped_of rs) h later, not_forced n k h) refl
mark-at false p f n k r rs at h e later more =
    rw (at, h, is_passed n k h) (more ∙ from-forced p f r.forced (floor (stamped_of rs) n) e)

mark-step : (s : Stamp) (p f n : ℕ) (r : Row) (rs : List Row) → r.stamped.stamp ≡ s → r.forced ≡ forced_with f p s
    → list_all (λ t. not (is_later s t.stamp)) (stamped_of rs) ≡ true → forced_at r.forced rs (ceil (stamped_of rs) n) ≡ from (p + 1) r.forced
    (floor (stamped_of rs) n) → forced_at f (r ∷ rs) (ceil (stamped_of (r ∷ rs)) n) ≡ from p f (floor (stamped_of (r ∷ rs)) n)
mark-step (At k) p f n r rs is e later more = mark-at (ltb n k) p f n k r rs is refl e later more
mark-step Live p f n r rs is e later more =
    rw is (more ∙ ap (λ g. from (p + 1) g (floor (stamped_of rs) n)) e ∙ from-live p f (floor (stamped_of rs) n))

marks : (l : Option ℕ) (f p n : ℕ) (rows : List Row) → AreMarked l f p rows → are_in_order (stamped_of rows) ≡ true → forced_at f rows (ceil (stamped_of rows) n) ≡ from p f (floor (stamped_of rows) n)
marks l f p n [] m o = refl
marks l f p n (r ∷ rs) m o =
    mark-step r.stamped.stamp p f n r rs refl m.1.0 (first _ _ o) (marks r.latest r.forced (p + 1) n rs m.1.1 (second _ _ o))

from-none : (v : ℕ) → from 0 0 v ≡ v
from-none zero = refl
from-none (suc v) = omega arith

-- the floor is the mark of the last row before the ceiling
pub floor-mark : (n : ℕ) (rows : List Row) → AreMarked None 0 0 rows → are_in_order (stamped_of rows) ≡ true → forced_at 0 rows (ceil (stamped_of rows) n) ≡ floor (stamped_of rows) n
floor-mark n rows m o = marks None 0 0 n rows m o ∙ from-none (floor (stamped_of rows) n)

behind_one-most : (b : Bool) (v : ℕ) → behind_one b v ≤ suc v
behind_one-most true zero = omega arith
behind_one-most false zero = omega arith
behind_one-most b (suc v) = omega arith

behind_one-forced : (v : ℕ) → behind_one true v ≡ suc v
behind_one-forced zero = refl
behind_one-forced (suc v) = refl

below-at : (t : Bool) (n k : ℕ) (s : Stamped) (ss : List Stamped) → s.stamp ≡ At k → ltb n k ≡ t
    → list_all (λ t. not (is_later (At k) t.stamp)) ss ≡ true → floor ss n ≤ ceil ss n → floor (s ∷ ss) n ≤ ceil (s ∷ ss) n
below-at true n k s ss at h later more = rw (at, h, floor-none n k ss h later, not_forced n k h) (omega arith)
below-at false n k s ss at h later more = rw (at, h) (omega (arith, behind_one-most (leb k n) (floor ss n)))

below-step : (x : Stamp) (n : ℕ) (s : Stamped) (ss : List Stamped) → s.stamp ≡ x → list_all (λ t. not (is_later x t.stamp)) ss ≡ true → floor ss n ≤ ceil ss n → floor (s ∷ ss) n ≤ ceil (s ∷ ss) n
below-step (At k) n s ss is later more = below-at (ltb n k) n k s ss is refl later more
below-step Live n s ss is later more = rw is (omega (arith, behind_one-most false (floor ss n)))

pub floor-ceil : (n : ℕ) (ss : List Stamped) → are_in_order ss ≡ true → floor ss n ≤ ceil ss n
floor-ceil n [] o = omega arith
floor-ceil n (s ∷ ss) o = below-step s.stamp n s ss refl (first _ _ o) (floor-ceil n ss (second _ _ o))

same-at : (t : Bool) (n k : ℕ) (s : Stamped) (ss : List Stamped) → s.stamp ≡ At k → ltb n k ≡ t
    → list_all (λ t. not (is_later (At k) t.stamp)) ss ≡ true → floor ss n ≡ ceil ss n → floor (s ∷ ss) n ≡ ceil (s ∷ ss) n
same-at true n k s ss at h later more = rw (at, h, floor-none n k ss h later, not_forced n k h) refl
same-at false n k s ss at h later more = rw (at, h, is_passed n k h) (behind_one-forced (floor ss n) ∙ ap suc more)

same-step : (x : Stamp) (n : ℕ) (s : Stamped) (ss : List Stamped) → s.stamp ≡ x → not (is_live x) ≡ true
    → list_all (λ t. not (is_later x t.stamp)) ss ≡ true → floor ss n ≡ ceil ss n → floor (s ∷ ss) n ≡ ceil (s ∷ ss) n
same-step (At k) n s ss is stamped later more = same-at (ltb n k) n k s ss is refl later more
same-step Live n s ss is stamped later more = absurd (cc)

pub floor-is-ceil : (n : ℕ) (ss : List Stamped) → are_in_order ss ≡ true → list_all (λ s. not (is_live s.stamp)) ss ≡ true → floor ss n ≡ ceil ss n
floor-is-ceil n [] o a = refl
floor-is-ceil n (s ∷ ss) o a =
    same-step s.stamp n s ss refl (first _ _ a) (first _ _ o) (floor-is-ceil n ss (second _ _ o) (second _ _ a))

-- one row more
pub marked-more : (l : Option ℕ) (f p : ℕ) (rows : List Row) (r : Row) → AreMarked l f p rows → r.latest ≡ latest_with (last_latest l rows) r.stamped.stamp
    → r.forced ≡ forced_with (last_forced f rows) (p + length rows) r.stamped.stamp → AreMarked l f p (rows ++ r ∷ [])
marked-more l f p [] r m e g =
    let place : p + 0 ≡ p = omega arith in
    (e, (g ∙ ap (λ q. forced_with f q r.stamped.stamp) place, tt))
marked-more l f p (q ∷ rs) r m e g =
    let place : p + suc (length rs) ≡ p + 1 + length rs = omega arith in
    (m.0, (m.1.0, marked-more q.latest q.forced (p + 1) rs r m.1.1 e (g ∙ ap (λ k. forced_with (last_forced q.forced rs) k r.stamped.stamp) place)))

neither : (a b : Bool) → (a || b) ≡ false → (a ≡ false) × (b ≡ false)
neither true b h = absurd (cc)
neither false b h = (refl, h)

pub in_order-more : (ss : List Stamped) (s : Stamped) → are_in_order ss ≡ true → list_any (λ b. is_later b.stamp s.stamp) ss ≡ false → are_in_order (ss ++ s ∷ []) ≡ true
in_order-more [] s o h = refl
in_order-more (b ∷ ss) s o h =
    let before = neither (is_later b.stamp s.stamp) (list_any (λ b. is_later b.stamp s.stamp) ss) h in
    let later = list_all (λ t. not (is_later b.stamp t.stamp)) ss in
    rw (list_all-append (λ t. not (is_later b.stamp t.stamp)) ss (s ∷ []), first later (are_in_order ss) o, before.0, in_order-more ss s (second later (are_in_order ss) o) before.1) refl

max-test : (l j k : ℕ) → leb (max l j) k ≡ (leb l k && not (ltb k j))
max-test l j k = grind (arith, nat_tests)

joins : (a b c : Bool) → ((a && not b) && not c) ≡ (a && not (b || c))
joins true true c = refl
joins true false c = refl
joins false b c = refl

latest-test : (s : Stamp) (l k x : ℕ) (rest : Bool) → x ≡ number_with l s → (leb x k && not rest) ≡ (leb l k && not (is_later s (At k) || rest))
latest-test (At j) l k x rest e = rw (e, max-test l j k) (joins (leb l k) (ltb k j) rest)
latest-test Live l k x rest e = rw e refl

and_true : (a : Bool) → a ≡ (a && true)
and_true true = refl
and_true false = refl

-- whether an `at` stands behind a greater one is told by the greatest
pub latest-later : (l : Option ℕ) (f p k : ℕ) (rows : List Row) → AreMarked l f p rows → leb (num (last_latest l rows)) k ≡ (leb (num l) k && not (list_any (λ b. is_later b.stamp (At k)) (stamped_of rows)))
latest-later l f p k [] m = and_true (leb (num l) k)
latest-later l f p k (r ∷ rs) m =
    latest-later r.latest r.forced (p + 1) k rs m.1.1
    ∙ latest-test r.stamped.stamp (num l) k (num r.latest) (list_any (λ b. is_later b.stamp (At k)) (stamped_of rs)) (row-number l r m.0)

live-step : (s : Stamp) → is_later s Live ≡ false
live-step (At k) = refl
live-step Live = refl

pub live-later : (ss : List Stamped) → list_any (λ b. is_later b.stamp Live) ss ≡ false
live-later [] = refl
live-later (s ∷ ss) = rw (live-step s.stamp) (live-later ss)

pub last-marks : (l : Option ℕ) (f : ℕ) (rows : List Row) (d : Row) → 0 < length rows → ((get_or rows (length rows - 1) d).latest ≡ last_latest l rows)
    × ((get_or rows (length rows - 1) d).forced ≡ last_forced f rows)
last-marks l f [] d some = absurd (omega arith)
last-marks l f (r ∷ []) d some = (refl, refl)
last-marks l f (r ∷ q ∷ rs) d some =
    let end : suc (suc (length rs)) - 1 ≡ suc (suc (length rs) - 1) = omega arith in
    rw end (last-marks r.latest r.forced (q ∷ rs) d (omega arith))

pub command-at : (rows : List Row) (k : ℕ) (r : Row) → slice_get rows k ≡ Some r → slice_get (commands_of (stamped_of rows)) k ≡ Some r.stamped.command
command-at rows k r e = simp slice_get-map (rw e refl)

pub stamp-at : (rows : List Row) (k : ℕ) (r : Row) → slice_get rows k ≡ Some r → slice_get (map (λ s. s.stamp) (stamped_of rows)) k ≡ Some r.stamped.stamp
stamp-at rows k r e = simp slice_get-map (rw e refl)

-- what `may_follow` tests
pub may-follow : (rows : List Row) (ss : List Stamped) (stamp : Stamp) (k : ℕ) (x : Option ℕ) → AreMarked None 0 0 rows → stamped_of rows ≡ ss → stamp ≡ At k
    → x ≡ last_latest None rows → leb (num x) k ≡ not (list_any (λ b. is_later b.stamp stamp) ss)
may-follow rows ss stamp k x m v e g =
    rw (g, e, ← v) (latest-later None 0 0 k rows m ∙ (rw (le-leb 0 k (omega arith)) refl))

pub live-follows : (ss : List Stamped) (stamp : Stamp) → stamp ≡ Live → true ≡ not (list_any (λ b. is_later b.stamp stamp) ss)
live-follows ss stamp e = rw (e, live-later ss) refl

-- what a search for the ceiling finds
pub seen-is : (rows : List Row) (i n : ℕ) → AreMarked None 0 0 rows → i ≤ length rows → IsPartitionPoint (λ r. leb (num r.latest) n ≡ true) (λ r. leb (num r.latest) n ≡ false) rows i → i ≡ ceil (stamped_of rows) n
seen-is [] i n m le found = omega arith
seen-is (r ∷ rs) i n m le found =
    sym (prefix_len_is (λ r. leb (num r.latest) n) (r ∷ rs) i r le (λ k lt. found.0 k r (omega arith) lt) (λ lt. found.1 i r (omega arith) lt))
    ∙ ceil-seen None 0 0 n (r ∷ rs) m (omega arith)

-- a row that is added
pub rows-more : (rows : List Row) (r : Row) (s : Stamped) → AreRows rows → length (stamped_of rows) < 4096
    → list_any (λ b. is_later b.stamp s.stamp) (stamped_of rows) ≡ false → r.stamped ≡ s → r.latest ≡ latest_with (last_latest None rows) s.stamp
    → r.forced ≡ forced_with (last_forced 0 rows) (length rows) s.stamp → AreRows (rows ++ r ∷ [])
rows-more rows r s old few later same e g =
    let place : length rows ≡ 0 + length rows = omega arith in
    let stamp = ap (λ (t : Stamped). t.stamp) (sym same) in
    record {
      few = omega (arith, length-append rows (r ∷ []), length-map rows (λ (q : Row). q.stamped));
      marked = marked-more None 0 0 rows r old.marked (e ∙ ap (latest_with (last_latest None rows)) stamp) (g
          ∙ ap (forced_with (last_forced 0 rows) (length rows)) stamp ∙ ap (λ k. forced_with (last_forced 0 rows) k r.stamped.stamp) place);
      ordered = rw map-append (in_order-more (stamped_of rows) r.stamped old.ordered (rw (← stamp) later));
    }

pub none-forced : (rows : List Row) (ss : List Stamped) (n c : ℕ) → AreRows rows → stamped_of rows ≡ ss → c ≡ ceil ss n → c ≡ 0 → 0 ≡ floor ss n
none-forced rows ss n c old v e g =
    let order : are_in_order ss ≡ true = rw (← v) old.ordered in
    omega (arith, floor-ceil n ss order)

pub last-forced : (rows : List Row) (ss : List Stamped) (n c : ℕ) (row : Row) → AreRows rows → stamped_of rows ≡ ss → c ≡ ceil ss n → (c ≡ 0 → ⊥)
    → c ≤ length ss → row ≡ get_or rows (c - 1) row → row.forced ≡ floor ss n
last-forced rows ss n c row old v e some le g =
    let size : length ss ≡ length rows = ap length (sym v) ∙ length-map rows (λ (q : Row). q.stamped) in
    let next : suc (c - 1) ≡ ceil (stamped_of rows) n = rw v (omega arith) in
    ap (λ (q : Row). q.forced) g ∙ forced_at-row 0 rows (c - 1) row (omega arith) ∙ ap (forced_at 0 rows) next
    ∙ floor-mark n rows old.marked old.ordered ∙ ap (λ (l : List Stamped). floor l n) v

pub ordered : (rows : List Row) (ss : List Stamped) → AreRows rows → stamped_of rows ≡ ss → are_in_order ss ≡ true
ordered rows ss old v = rw (← v) old.ordered
