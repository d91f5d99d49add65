-- What is written is read: endpoints.
use Rattle.std.proofs.Common.{◌≡◌, ℕ, ◌+◌, ◌*◌, ◌/◌, ◌%◌, ◌^◌, ◌<◌, true, false, List, [], ◌∷◌, ◌++◌, length, drop, refl, ap, sym, ◌∙◌, arith, append_assoc, codes}
use Rattle.std.specs.Prelude.{nat_lt, slice_index, ◌==◌}
use Rattle.std.specs.Char.{digit_value}
use Rattle.std.specs.Fmt.{decimal, digits}
use Rattle.std.specs.Int.{w32, to_be_bytes, from_be_bytes}
use Rattle.std.specs.Net.Text.{dotted_text}
use Rattle.std.specs.Str.Parse.{AllDigits}
use Rattle.std.proofs.Math.Nat as nat
use Rattle.std.proofs.lemmas.Fmt.{decimal_is_IsNumeral}
use Rattle.std.proofs.lemmas.Nat.{from_be_bytes-to_be_bytes_4}
use Rattle.std.proofs.lemmas.Bool.Decides.{nat_tests}
use Rattle.flow_table.specs.declared.endpoint.Endpoint.{Endpoint}
use Rattle.flow_table.specs.declared.endpoint.Endpoint.TheVariants.{V4, V6}
use Rattle.report_text.specs.Words.{groups_of, groups_text, v6_text, endpoint_text}
use Rattle.report_text.specs.Ranges.{endpoint_fits, is_u16, is_u32}
use Rattle.report_text.specs.ReadWords.{skip, decimal_of, v4_of, group_of, joined, v6_of, is_v6, endpoint_of, after_endpoint}
use Rattle.report_text.proofs.ReadNumbers.{marked, and_parts, plain-decimal, plain-hex, number-hex}
use Rattle.report_text.proofs.ReadLoops.{joined-none, joined-on}
use Rattle.report_text.proofs.ReadParts.{skip-on, skip-zero, small-read}
use Rattle.report_text.proofs.ReadSeen.{below}

digit-no-bracket : (c : ℕ) → digit_value c < 10 → (c == 91) ≡ false
digit-no-bracket c h = grind (arith, nat_tests)

digits-no-bracket : (ds t : List ℕ) → 0 < length ds → AllDigits 10 ds → is_v6 (ds ++ t) ≡ false
digits-no-bracket [] t some all = absurd (omega arith)
digits-no-bracket (c ∷ ds) t some all = digit-no-bracket c all.0

-- four numbers, a port, and what follows
abbrev v4_line : ℕ → ℕ → ℕ → ℕ → ℕ → List ℕ → List ℕ
v4_line a b c d port t =
    decimal a ++ (codes "." ++ (decimal b ++ (codes "." ++ (decimal c ++ (codes "." ++ (decimal d ++ (codes ":" ++ (decimal port ++ t))))))))

v4-spread : (a b c d port : ℕ) (t : List ℕ) → (dotted_text a b c d ++ (codes ":" ++ decimal port)) ++ t ≡ v4_line a b c d port t
v4-spread a b c d port t = simp append_assoc

record V4Read (a b c d port : ℕ) (t : List ℕ) : Type 0 where
  read : v4_of (v4_line a b c d port t) ≡ V4 (from_be_bytes w32 (a ∷ b ∷ c ∷ d ∷ [])) port
  behind : skip 5 (v4_line a b c d port t) ≡ drop 1 t
  apart : is_v6 (v4_line a b c d port t) ≡ false

byte-read : (line t : List ℕ) (k n : ℕ) → skip k line ≡ decimal n ++ t → n < 256 → marked t ≡ true → decimal_of (skip k line) % 2 ^ 8 ≡ n
byte-read line t k n at small m = rw at (small-read n 8 t small (omega arith) (omega arith) m)

port-read : (line t : List ℕ) (k n : ℕ) → skip k line ≡ decimal n ++ t → n < 2 ^ 16 → marked t ≡ true → decimal_of (skip k line) % 2 ^ 16 ≡ n
port-read line t k n at small m = rw at (small-read n 16 t small (omega arith) (omega arith) m)

v4-read : (a b c d port : ℕ) (t : List ℕ) → a < 256 → b < 256 → c < 256 → d < 256 → port < 2 ^ 16 → marked t ≡ true → V4Read a b c d port t
v4-read a b c d port t ha hb hc hd hp m =
    let t4 = decimal port ++ t in
    let t3 = decimal d ++ (codes ":" ++ t4) in
    let t2 = decimal c ++ (codes "." ++ t3) in
    let t1 = decimal b ++ (codes "." ++ t2) in
    let line = decimal a ++ (codes "." ++ t1) in
    let s0 = skip-zero line in
    let s1 = skip-on 0 line (decimal a) (codes "." ++ t1) s0 (plain-decimal a (omega arith)) refl in
    let s2 = skip-on 1 line (decimal b) (codes "." ++ t2) s1 (plain-decimal b (omega arith)) refl in
    let s3 = skip-on 2 line (decimal c) (codes "." ++ t3) s2 (plain-decimal c (omega arith)) refl in
    let s4 = skip-on 3 line (decimal d) (codes ":" ++ t4) s3 (plain-decimal d (omega arith)) refl in
    let s5 = skip-on 4 line (decimal port) t s4 (plain-decimal port (omega arith)) m in
    let is = decimal_is_IsNumeral a (omega arith) in
    let n0 = ap (λ x. decimal_of x % 2 ^ 8) (sym s0) ∙ byte-read line (codes "." ++ t1) 0 a s0 ha refl in
    let n1 = byte-read line (codes "." ++ t2) 1 b s1 hb refl in
    let n2 = byte-read line (codes "." ++ t3) 2 c s2 hc refl in
    let n3 = byte-read line (codes ":" ++ t4) 3 d s3 hd refl in
    let n4 = port-read line t 4 port s4 hp m in
    record {
      read = λ i. V4 (from_be_bytes w32 (n0 i ∷ n1 i ∷ n2 i ∷ n3 i ∷ [])) (n4 i);
      behind = s5;
      apart = digits-no-bracket (decimal a) (codes "." ++ t1) is.0.0 is.0.1;
    }

-- an endpoint is read, and what stands behind it is found
pub record EndpointRead (e : Endpoint) (t : List ℕ) : Type 0 where
  pub read : endpoint_of (endpoint_text e ++ t) ≡ e
  pub behind : after_endpoint (endpoint_text e ++ t) ≡ drop 1 t

endpoint-v4 : (addr port : ℕ) (t : List ℕ) → addr < 2 ^ 32 → port < 2 ^ 16 → marked t ≡ true → EndpointRead (V4 addr port) t
unfolding endpoint_text
endpoint-v4 addr port t small fits m =
    let o = to_be_bytes w32 addr in
    let got = v4-read (slice_index o 0) (slice_index o 1) (slice_index o 2) (slice_index o 3) port t
    (omega arith) (omega arith) (omega arith) (omega arith) fits m in
    let is = v4-spread (slice_index o 0) (slice_index o 1) (slice_index o 2) (slice_index o 3) port t in
    let same = from_be_bytes-to_be_bytes_4 addr small in
    record {
      read = ap endpoint_of is ∙ rw (got.apart) (got.read ∙ ap (λ x. V4 x port) same);
      behind = ap after_endpoint is ∙ rw (got.apart) got.behind;
    }

-- a number of 128 bits from its groups
joined-step : (n p acc hi lo : ℕ) (r : List ℕ) → acc ≡ n / (p * 65536) → hi ≡ n / (p * 256) % 256 → lo ≡ n / p % 256 → acc < 2 ^ 112
    → joined acc ((hi * 256 + lo) ∷ r) ≡ joined (n / p) r
joined-step n p acc hi lo r is_acc is_hi is_lo small =
    let far = nat.div-div-eq-div-mul n p 65536 in
    let near = nat.div-div-eq-div-mul n p 256 in
    let sum : acc % 2 ^ 112 * 2 ^ 16 + (hi * 256 + lo) ≡ n / p = omega (arith, far, near) in
    joined-on acc (hi * 256 + lo) r ∙ ap (λ x. joined x r) sum

v6-joined : (n : ℕ) → n < 2 ^ 128 → joined 0 (groups_of n) ≡ n
unfolding groups_of
v6-joined n h =
    joined-step n (2 ^ 112) 0 _ _ _ (omega arith) refl refl (omega arith)
    ∙ joined-step n (2 ^ 96) (n / 2 ^ 112) _ _ _ refl refl refl (omega arith)
    ∙ joined-step n (2 ^ 80) (n / 2 ^ 96) _ _ _ refl refl refl (omega arith)
    ∙ joined-step n (2 ^ 64) (n / 2 ^ 80) _ _ _ refl refl refl (omega arith)
    ∙ joined-step n (2 ^ 48) (n / 2 ^ 64) _ _ _ refl refl refl (omega arith)
    ∙ joined-step n (2 ^ 32) (n / 2 ^ 48) _ _ _ refl refl refl (omega arith)
    ∙ joined-step n (2 ^ 16) (n / 2 ^ 32) _ _ _ refl refl refl (omega arith)
    ∙ joined-step n 1 (n / 2 ^ 16) _ _ _ refl refl (omega arith) (omega arith)
    ∙ ap (λ x. joined x []) (omega arith)
    ∙ joined-none n

abbrev hex : ℕ → List ℕ
hex g = digits 16 false g

-- behind the first bracket eight groups, a port, and what follows
abbrev v6_line : ℕ → ℕ → ℕ → ℕ → ℕ → ℕ → ℕ → ℕ → ℕ → List ℕ → List ℕ
v6_line a b c d e f g h port t =
    codes "[" ++ (hex a ++ (codes ":" ++ (hex b ++ (codes ":" ++ (hex c ++ (codes ":" ++ (hex d ++ (codes ":" ++ (hex e
    ++ (codes ":" ++ (hex f ++ (codes ":" ++ (hex g ++ (codes ":" ++ (hex h ++ (codes "]:" ++ (decimal port ++ t)))))))))))))))))

v6-spread : (a b c d e f g h port : ℕ) (t : List ℕ)
    → (codes "[" ++ (hex a ++ (groups_text (b ∷ c ∷ d ∷ e ∷ f ∷ g ∷ h ∷ []) ++ (codes "]:" ++ decimal port)))) ++ t ≡ v6_line a b c d e f g h port t
v6-spread a b c d e f g h port t = simp append_assoc

group-read : (line t : List ℕ) (k n : ℕ) → skip k line ≡ hex n ++ t → n < 2 ^ 16 → marked t ≡ true → group_of k line ≡ n
group-read line t k n at small m = rw at (rw (number-hex n t small m) (omega arith))

record V6Read (a b c d e f g h port : ℕ) (t : List ℕ) : Type 0 where
  read : v6_of (v6_line a b c d e f g h port t) ≡ V6 (joined 0 (a ∷ b ∷ c ∷ d ∷ e ∷ f ∷ g ∷ h ∷ [])) port
  behind : skip 11 (v6_line a b c d e f g h port t) ≡ drop 1 t

v6-read : (a b c d e f g h port : ℕ) (t : List ℕ) → a < 2 ^ 16 → b < 2 ^ 16 → c < 2 ^ 16 → d < 2 ^ 16 → e < 2 ^ 16 → f < 2 ^ 16 → g < 2 ^ 16 → h < 2 ^ 16
    → port < 2 ^ 16 → marked t ≡ true → V6Read a b c d e f g h port t
v6-read a b c d e f g h port t ha hb hc hd he hf hg hh hp m =
    let t9 = decimal port ++ t in
    let t8 = hex h ++ (codes "]:" ++ t9) in
    let t7 = hex g ++ (codes ":" ++ t8) in
    let t6 = hex f ++ (codes ":" ++ t7) in
    let t5 = hex e ++ (codes ":" ++ t6) in
    let t4 = hex d ++ (codes ":" ++ t5) in
    let t3 = hex c ++ (codes ":" ++ t4) in
    let t2 = hex b ++ (codes ":" ++ t3) in
    let t1 = hex a ++ (codes ":" ++ t2) in
    let line = codes "[" ++ t1 in
    let s1 = skip-on 0 line [] (codes "[" ++ t1) (skip-zero line) refl refl in
    let s2 = skip-on 1 line (hex a) (codes ":" ++ t2) s1 (plain-hex a ha) refl in
    let s3 = skip-on 2 line (hex b) (codes ":" ++ t3) s2 (plain-hex b hb) refl in
    let s4 = skip-on 3 line (hex c) (codes ":" ++ t4) s3 (plain-hex c hc) refl in
    let s5 = skip-on 4 line (hex d) (codes ":" ++ t5) s4 (plain-hex d hd) refl in
    let s6 = skip-on 5 line (hex e) (codes ":" ++ t6) s5 (plain-hex e he) refl in
    let s7 = skip-on 6 line (hex f) (codes ":" ++ t7) s6 (plain-hex f hf) refl in
    let s8 = skip-on 7 line (hex g) (codes ":" ++ t8) s7 (plain-hex g hg) refl in
    let s9 = skip-on 8 line (hex h) (codes "]:" ++ t9) s8 (plain-hex h hh) refl in
    let s10 = skip-on 9 line [] (codes ":" ++ t9) s9 refl refl in
    let s11 = skip-on 10 line (decimal port) t s10 (plain-decimal port (omega arith)) m in
    let n1 = group-read line (codes ":" ++ t2) 1 a s1 ha refl in
    let n2 = group-read line (codes ":" ++ t3) 2 b s2 hb refl in
    let n3 = group-read line (codes ":" ++ t4) 3 c s3 hc refl in
    let n4 = group-read line (codes ":" ++ t5) 4 d s4 hd refl in
    let n5 = group-read line (codes ":" ++ t6) 5 e s5 he refl in
    let n6 = group-read line (codes ":" ++ t7) 6 f s6 hf refl in
    let n7 = group-read line (codes ":" ++ t8) 7 g s7 hg refl in
    let n8 = group-read line (codes "]:" ++ t9) 8 h s8 hh refl in
    let n9 = port-read line t 10 port s10 hp m in
    record {
      read = λ i. V6 (joined 0 (n1 i ∷ n2 i ∷ n3 i ∷ n4 i ∷ n5 i ∷ n6 i ∷ n7 i ∷ n8 i ∷ [])) (n9 i);
      behind = s11;
    }

pair-small : (x y : ℕ) → x < 256 → y < 256 → x * 256 + y < 2 ^ 16
pair-small x y hx hy = omega arith

endpoint-v6 : (addr port : ℕ) (t : List ℕ) → addr < 2 ^ 128 → port < 2 ^ 16 → marked t ≡ true → EndpointRead (V6 addr port) t
unfolding endpoint_text v6_text groups_of
endpoint-v6 addr port t small fits m =
    let got = v6-read _ _ _ _ _ _ _ _ port t
    (pair-small (addr / 2 ^ 120 % 256) (addr / 2 ^ 112 % 256) (omega arith) (omega arith))
    (pair-small (addr / 2 ^ 104 % 256) (addr / 2 ^ 96 % 256) (omega arith) (omega arith))
    (pair-small (addr / 2 ^ 88 % 256) (addr / 2 ^ 80 % 256) (omega arith) (omega arith))
    (pair-small (addr / 2 ^ 72 % 256) (addr / 2 ^ 64 % 256) (omega arith) (omega arith))
    (pair-small (addr / 2 ^ 56 % 256) (addr / 2 ^ 48 % 256) (omega arith) (omega arith))
    (pair-small (addr / 2 ^ 40 % 256) (addr / 2 ^ 32 % 256) (omega arith) (omega arith))
    (pair-small (addr / 2 ^ 24 % 256) (addr / 2 ^ 16 % 256) (omega arith) (omega arith))
    (pair-small (addr / 2 ^ 8 % 256) (addr % 256) (omega arith) (omega arith))
    fits m in
    let is = v6-spread _ _ _ _ _ _ _ _ port t in
    let same = v6-joined addr small in
    record {
      read = ap endpoint_of is ∙ (got.read ∙ ap (λ x. V6 x port) same);
      behind = ap after_endpoint is ∙ got.behind;
    }

pub endpoint-read : (e : Endpoint) (t : List ℕ) → endpoint_fits e ≡ true → marked t ≡ true → EndpointRead e t
endpoint-read (V4 addr port) t fits m =
    let parts = and_parts (is_u32 addr) (is_u16 port) fits in
    endpoint-v4 addr port t (below addr (2 ^ 32) parts.0) (below port (2 ^ 16) parts.1) m
endpoint-read (V6 addr port) t fits m =
    let parts = and_parts (nat_lt addr (2 ^ 128)) (is_u16 port) fits in
    endpoint-v6 addr port t (below addr (2 ^ 128) parts.0) (below port (2 ^ 16) parts.1) m
