-- The class of a plain frame, by the tests that show it plain.
use Rattle.std.proofs.Common.{◌≡◌, ℕ, ◌+◌, ◌*◌, ◌-◌, ◌/◌, ◌%◌, ◌≤◌, ◌^◌, ◌==◌, cond, true, false, List, length, slice_index, refl, sym, ap, ◌∙◌, arith, rules}
use Rattle.std.specs.Int.Bits.{bit_and}
use Rattle.std.proofs.lemmas.Nat.{and_mask}
use Rattle.std.proofs.lemmas.Bool.{le-ltb}
use Rattle.packet_views.specs.declared.packet.Class.{Class}
use Rattle.packet_views.specs.Frame.{field, carries, ip_start, ip_words, tcp_start, total_length, ip_end, ip_version, protocol, fragment_bits}
use Rattle.packet_views.specs.Packet.{is_ip_header_cut, is_ip_header_bad, is_fragment, is_packet_cut, class_of}
use Rattle.packet_views.specs.Tcp.{is_tcp_bad}
use Rattle.ip6_views.specs.Sight.{Tcp, segment_of, sight_of}

pub plain_ipv4 : (frame : List ℕ) → field 12 2 frame ≡ 0x0800 → carries 0x86dd frame ≡ false
unfolding carries
plain_ipv4 frame type = search rules

plain_start : (frame : List ℕ) → field 12 2 frame ≡ 0x0800 → ip_start frame ≡ 14
plain_start frame type = ap (λ (k : ℕ). cond (k == 0x8100) 18 14) type

plain_carries : (frame : List ℕ) → 54 ≤ length frame → field 12 2 frame ≡ 0x0800 → carries 0x0800 frame ≡ true
unfolding carries
plain_carries frame header type = search rules

plain_good : (frame : List ℕ) → ip_start frame ≡ 14 → slice_index frame 14 ≡ 0x45 → 20 ≤ field 16 2 frame → is_ip_header_bad frame ≡ false
unfolding is_ip_header_bad
plain_good frame start words total =
    let version : ip_version frame ≡ 4 = ap (λ (k : ℕ). slice_index frame k / 16) start ∙ ap (λ (b : ℕ). b / 16) words in
    let count : ip_words frame ≡ 5 = ap (λ (k : ℕ). slice_index frame k % 16) start ∙ ap (λ (b : ℕ). b % 16) words in
    let long : total_length frame ≡ field 16 2 frame = ap (λ (k : ℕ). field (k + 2) 2 frame) start in
    rw (version, count, long, le-ltb (field 16 2 frame) 20 total) refl

plain_whole : (frame : List ℕ) → ip_start frame ≡ 14 → field 20 2 frame % 2 ^ 14 ≡ 0 → is_fragment frame ≡ false
unfolding is_fragment
plain_whole frame start bits =
    let none : fragment_bits frame ≡ 0 = ap (λ (k : ℕ). field (k + 6) 2 frame % 2 ^ 14) start ∙ bits in
    rw none refl

plain_tcp : (frame : List ℕ) (end : ℕ) → 5 ≤ slice_index frame 46 / 16 → 34 + 4 * (slice_index frame 46 / 16) ≤ end → is_tcp_bad 34 end frame ≡ false
unfolding is_tcp_bad
plain_tcp frame end low high =
    let room : 20 ≤ end - 34 = omega arith in
    let options : 4 * (slice_index frame 46 / 16) ≤ end - 34 = omega arith in
    rw (le-ltb (end - 34) 20 room, le-ltb (slice_index frame 46 / 16) 5 low, le-ltb (end - 34) (4 * (slice_index frame 46 / 16)) options) refl

pub plain_class : (frame : List ℕ) → 54 ≤ length frame → field 12 2 frame ≡ 0x0800 → slice_index frame 14 ≡ 0x45 → slice_index frame 23 ≡ 6
    → bit_and (field 20 2 frame) 0x3fff ≡ 0 → 14 + field 16 2 frame ≤ length frame → 5 ≤ slice_index frame 46 / 16
    → 34 + 4 * (slice_index frame 46 / 16) ≤ 14 + field 16 2 frame
    → class_of frame ≡ Class.Tcp
unfolding class_of
plain_class frame header type words tcp whole captured low high =
    let start : ip_start frame ≡ 14 = plain_start frame type in
    let carried : carries 0x0800 frame ≡ true = plain_carries frame header type in
    let held : is_ip_header_cut frame ≡ false = le-ltb (length frame) (ip_start frame + 20) (omega (arith, start)) in
    let total : 20 ≤ field 16 2 frame = omega arith in
    let good : is_ip_header_bad frame ≡ false = plain_good frame start words total in
    let kind : protocol frame ≡ 6 = ap (λ (k : ℕ). slice_index frame (k + 9)) start ∙ tcp in
    let one : is_fragment frame ≡ false = plain_whole frame start (sym (and_mask (field 20 2 frame) 14) ∙ whole) in
    let end : ip_end frame ≡ 14 + field 16 2 frame = ap (λ (k : ℕ). k + field (k + 2) 2 frame) start in
    let uncut : is_packet_cut frame ≡ false = le-ltb (length frame) (ip_end frame) (omega (arith, end)) in
    let at : tcp_start frame ≡ 34 = ap (λ (k : ℕ). k + 4 * (slice_index frame k % 16)) start ∙ ap (λ (b : ℕ). 14 + 4 * (b % 16)) words in
    let fits : is_tcp_bad (tcp_start frame) (ip_end frame) frame ≡ false =
    ap (λ (k : ℕ). is_tcp_bad k (ip_end frame) frame) at ∙ (ap (λ (k : ℕ). is_tcp_bad 34 k frame) end ∙ plain_tcp frame (14 + field 16 2 frame) low high) in
    rw (carried, held, good, kind, one, uncut, fits) refl

-- what is seen of it
pub plain_sight : (frame : List ℕ) → carries 0x86dd frame ≡ false → class_of frame ≡ Class.Tcp → sight_of frame ≡ Tcp (segment_of frame)
unfolding sight_of
plain_sight frame ipv4 class = rw (ipv4, class) refl
