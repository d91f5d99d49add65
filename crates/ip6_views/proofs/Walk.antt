-- What the walk over the extension headers finds, by the header at which it stands.
use Rattle.std.proofs.Common.{◌≡◌, ◌≢◌, ℕ, zero, suc, ◌+◌, ◌-◌, false, true, List, slice_index, Some, None, refl, arith}
use Rattle.std.proofs.lemmas.Bool.{ne_eqb}
use Rattle.packet_views.specs.declared.packet.Class.{Class}
use Rattle.packet_views.specs.declared.packet.Class.TheVariants.{Other, Bad}
use Rattle.ip6_views.specs.Chain.{TcpAt, Only, is_extension, extension_length, blocked, chain}

pub chain_at_tcp : (left : ℕ) (frame : List ℕ) (end kind at : ℕ) → kind ≡ 6 → chain left frame end kind at ≡ TcpAt at
unfolding chain
chain_at_tcp zero frame end kind at h = rw h refl
chain_at_tcp (suc left) frame end kind at h = rw h refl

pub chain_at_other : (left : ℕ) (frame : List ℕ) (end kind at : ℕ) → kind ≢ 6 → is_extension kind ≡ false
    → chain left frame end kind at ≡ Only Other
unfolding chain
chain_at_other zero frame end kind at h e = rw (ne_eqb kind 6 h, e) refl
chain_at_other (suc left) frame end kind at h e = rw (ne_eqb kind 6 h, e) refl

pub chain_at_ninth : (left : ℕ) (frame : List ℕ) (end kind at : ℕ) → kind ≢ 6 → is_extension kind ≡ true → left ≡ 0
    → chain left frame end kind at ≡ Only Bad
unfolding chain
chain_at_ninth zero frame end kind at h e none = rw (ne_eqb kind 6 h, e) refl
chain_at_ninth (suc left) frame end kind at h e none = absurd (omega (arith, none))

pub chain_blocked : (left : ℕ) (frame : List ℕ) (end kind at : ℕ) (class : Class) → kind ≢ 6 → is_extension kind ≡ true → left ≢ 0
    → blocked frame end kind at ≡ Some class
    → chain left frame end kind at ≡ Only class
unfolding chain
chain_blocked zero frame end kind at class h e some b = absurd (some refl)
chain_blocked (suc left) frame end kind at class h e some b = rw (ne_eqb kind 6 h, e, b) refl

pub chain_passed : (left : ℕ) (frame : List ℕ) (end kind at : ℕ) → kind ≢ 6 → is_extension kind ≡ true → left ≢ 0
    → blocked frame end kind at ≡ None
    → chain (left - 1) frame end (slice_index frame at) (at + extension_length kind at frame) ≡ chain left frame end kind at
unfolding chain
chain_passed zero frame end kind at h e some b = absurd (some refl)
chain_passed (suc left) frame end kind at h e some b =
    let one : suc left - 1 ≡ left = omega arith in
    rw (ne_eqb kind 6 h, e, b, one) refl
