-- A record that stands whole at the front of some bytes.
use Rattle.std.proofs.Common.{◌≡◌, ℕ, ◌+◌, ◌<◌, ◌≤◌, List, ◌++◌, length, take, drop, Some, refl, sym, ap, subst, ◌∙◌, arith, length-append, length-drop, length-take-le, take-add}
use Rattle.std.proofs.KnownBytes.{starts_with_rest}
use Rattle.std.proofs.Math.Seq.{drop-append_seam}
use Rattle.std.specs.Io.{StartsWith}
use Rattle.std.specs.Io.KnownBytes.{Consumes}
use Rattle.pcap_source.specs.Captured.{record_bytes}
use Rattle.pcap_source.specs.Capture.{captured_length, record_at, with_frame}
use Rattle.pcap_source.specs.Reading.{IsRecord, reading, frames_at}
use Rattle.pcap_source.specs.declared.order.Order.{Order}
use Rattle.pcap_source.proofs.Lent.{is_record, passed_consumes}
use Rattle.pcap_source.proofs.Steps.{gives-whole}

module _ (order : Order) (n : ℕ) (front : List ℕ) (told : n ≡ 16 + captured_length order front) (within : n ≤ length front)
    (bounded : n ≤ 16 + 262144) where
  pub standing_record : IsRecord order (record_at order front)
  standing_record =
      is_record order (captured_length order front) front (record_at order front) (record_at order front) refl refl refl
      (omega (arith, told, within)) (omega (arith, told, bounded)) refl

  pub standing_length : n ≡ 16 + length (record_at order front).bytes
  standing_length =
      let size = length-take-le (captured_length order front) (drop 16 front) (omega (arith, told, within, length-drop 16 front)) in
      omega (arith, told, size)

  pub standing_bytes : record_bytes (record_at order front) ≡ take n front
  standing_bytes = sym (take-add 16 (captured_length order front) front) ∙ ap (λ k. take k front) (sym told)

  pub standing_data : (record_at order front).bytes ≡ drop 16 (take n front)
  standing_data =
      let head : length (take 16 front) ≡ 16 = length-take-le 16 front (omega (arith, told, within)) in
      sym (ap (drop 16) (sym standing_bytes) ∙ ap (λ k. drop k (take 16 front ++ (record_at order front).bytes)) (sym head)
      ∙ drop-append_seam (take 16 front) (record_at order front).bytes)

  pub standing_next : (count offset : ℕ) → count < 1048576 → (left : List ℕ) → StartsWith left front
      → frames_at (reading order count offset) left
      ≡ with_frame (record_at order front) (frames_at (reading order (count + 1) (offset + n)) (drop n left))
  standing_next count offset few left begins =
      let long : length front ≤ length left = starts-length left begins in
      let place : offset + 16 + length (record_at order front).bytes ≡ offset + n = omega (arith, standing_length) in
      subst (λ o. frames_at (reading order count offset) left ≡ with_frame (record_at order front) (frames_at (reading order (count + 1) o) (drop n left))) place
      (
      gives-whole order count offset (Some left) (Some (drop n left)) (record_at order front)
      (subst (Consumes (Some left) (Some (drop n left))) (sym standing_bytes)
      (passed_consumes (Some left) (Some (drop n left)) n front within begins (let fits : n ≤ length left = omega (arith, within, long) in (fits, refl))))
      standing_record few)
    where
      starts-length : (left : List ℕ) → StartsWith left front → length front ≤ length left
      starts-length left begins = let parts = starts_with_rest left front begins in omega (arith, ap length parts, length-append front (drop (length front) left))
