-- Packets whose bytes stand one behind the other.
use Rattle.std.proofs.Common.{◌≡◌, ◌+◌, ◌-◌, ◌≤◌, ℕ, refl, sym, ap, ◌∙◌, List, [], ◌∷◌, ◌++◌, length, take, drop, arith}
use Rattle.std.specs.Prelude.{map}
use Rattle.std.specs.List.{All}
use Rattle.std.proofs.lemmas.List.{length-drop, drop-append-le, take-append-le, drop_at, take_all, map-append}
use Rattle.std.proofs.lemmas.List.Elements.{All-head, All-tail}
use Rattle.lane_rings.specs.declared.items.Packet.{Packet}
use Rattle.lane_rings.specs.declared.batch.Place.{Place}
use Rattle.lane_rings.specs.Places.{IsWithin, packet_of}

-- a packet in this place, with these bytes
abbrev pub placed : Place → List ℕ → Packet
placed p bytes = record {
  index = p.index;
  floor = p.floor;
  ceil = p.ceil;
  frame = record { seconds = p.seconds; fraction = p.fraction; original = p.original; head = p.head; bytes = bytes };
}

-- more bytes behind them change no packet
packet-still : (bytes more : List ℕ) (p : Place) → IsWithin (length bytes) p → packet_of (bytes ++ more) p ≡ packet_of bytes p
packet-still bytes more p w =
    let order = w.order in
    let within = w.within in
    let count = length-drop p.start bytes in
    let room : p.end - p.start ≤ length (drop p.start bytes) = omega (arith, order, within, count) in
    ap (placed p)
    (ap (take (p.end - p.start)) (drop-append-le p.start bytes more (omega (arith, order, within)))
    ∙ take-append-le (p.end - p.start) (drop p.start bytes) more room)

pub packets-still : (bytes more : List ℕ) (places : List Place) → All (IsWithin (length bytes)) places → map (packet_of (bytes ++ more)) places ≡ map (packet_of bytes) places
packets-still bytes more [] all = refl
packets-still bytes more (p ∷ places) all =
    ap (λ x. x ∷ map (packet_of (bytes ++ more)) places) (packet-still bytes more p (All-head (IsWithin (length bytes)) p places all))
    ∙ ap (λ l. packet_of bytes p ∷ l) (packets-still bytes more places (All-tail (IsWithin (length bytes)) p places all))

packet-last : (bytes more : List ℕ) (p : Place) → p.start ≡ length bytes → p.end ≡ length bytes + length more → packet_of (bytes ++ more) p ≡ placed p more
packet-last bytes more p start end =
    let room : length more ≤ p.end - p.start = omega (arith, start, end) in
    ap (placed p)
    (ap (take (p.end - p.start)) (drop_at bytes more p.start (sym start))
    ∙ take_all (p.end - p.start) more room)

-- one packet more, whose bytes are the last
pub packets-more : (bytes more : List ℕ) (places : List Place) (p : Place) → All (IsWithin (length bytes)) places → p.start ≡ length bytes → p.end ≡ length bytes + length more
    → map (packet_of (bytes ++ more)) (places ++ p ∷ []) ≡ map (packet_of bytes) places ++ placed p more ∷ []
packets-more bytes more places p all start end =
    map-append (packet_of (bytes ++ more)) places (p ∷ [])
    ∙ ap (λ l. l ++ packet_of (bytes ++ more) p ∷ []) (packets-still bytes more places all)
    ∙ ap (λ x. map (packet_of bytes) places ++ x ∷ []) (packet-last bytes more p start end)
