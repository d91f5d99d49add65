-- A record that is copied from the bytes that a source lends.
use Rattle.std.proofs.Common.{◌≡◌, ℕ, ◌+◌, ◌≤◌, List, ◌++◌, length, take, drop, refl, sym, ap, subst, ◌∙◌, arith, length-take-le, length-drop, take-add}
use Rattle.std.specs.declared.option.Option.{Option}
use Rattle.std.specs.declared.option.Option.TheVariants.{None, Some}
use Rattle.std.specs.Io.KnownBytes.{Consumes}
use Rattle.std.proofs.lemmas.List.{take-append-drop, take-take}
use Rattle.mos_bytes.specs.Reads.{BeginsWith, PassesOver}
use Rattle.pcap_source.specs.Captured.{Captured}
use Rattle.pcap_source.specs.Capture.{captured_by}
use Rattle.pcap_source.specs.Order.{number_in}
use Rattle.pcap_source.specs.Reading.{IsRecord}
use Rattle.pcap_source.specs.declared.order.Order.{Order}

-- head and data were copied, and the numbers of the head were read
module _ (order : Order) (n : ℕ) (lent : List ℕ) (copied frame : Captured) (head : copied.head ≡ take 16 lent)
    (bytes : copied.bytes ≡ take n (drop 16 lent)) (is : frame ≡ captured_by order copied.head copied.bytes) where
  pub is_record : 16 + n ≤ length lent → n ≤ 262144 → n ≡ number_in order 4 (drop 8 (take 16 lent)) → IsRecord order frame
  is_record within bounded told =
      let len : length copied.bytes ≡ n = ap length bytes ∙ length-take-le n (drop 16 lent) (omega (arith, length-drop 16 lent)) in
      subst (IsRecord order) (sym is) (record {
        head = ap length head ∙ length-take-le 16 lent (omega arith);
        whole = refl;
        told = len ∙ told ∙ ap (λ h. number_in order 4 (drop 8 h)) (sym head);
        bounded = omega (arith, len);
      })

  pub is_consumed : (old new : Option (List ℕ)) → Consumes old new (take (16 + n) lent) → Consumes old new (frame.head ++ frame.bytes)
  is_consumed old new consumed =
      subst (Consumes old new) (take-add 16 n lent ∙ ap (λ h. h ++ take n (drop 16 lent)) (sym head) ∙ ap (λ b. copied.head ++ b) (sym bytes)
      ∙ ap (λ (f : Captured). f.head ++ f.bytes) (sym is)) consumed

-- what was passed over is the front of what was lent
pub passed_consumes : (old new : Option (List ℕ)) (n : ℕ) (lent : List ℕ) → n ≤ length lent → BeginsWith old lent → PassesOver old new n
    → Consumes old new (take n lent)
passed_consumes None new n lent within begins passed = tt
passed_consumes (Some left) None n lent within begins passed = absurd passed
passed_consumes (Some left) (Some rest) n lent within begins passed =
    let front : take n left ≡ take n lent = sym (take-take n (length lent) left within) ∙ ap (take n) begins in
    sym (take-append-drop n left) ∙ ap (λ l. l ++ drop n left) front ∙ ap (λ l. take n lent ++ l) (sym passed.1)
