-- Only for proofs. What the head of an option says of the time resolution.
use Rattle.std.specs.Prelude.{◌≡◌, ℕ, ◌+◌, ◌*◌, ◌<◌, List, ◌++◌, length, Bool, true, false}
use Rattle.pcap_source.specs.Order.{number_in}
use Rattle.pcapng_source.specs.Fields.{is_resolution, option_size, resolution_in}
use Rattle.pcap_source.specs.declared.order.Order.{Order}
use Rattle.pcapng_source.specs.declared.options.Found.{Found}
use Rattle.pcapng_source.specs.declared.options.Found.TheVariants.{Nothing, Told, Other}

-- an option of so many words, and whether it is the one that tells the resolution
pub record IsOption (order : Order) (word : List ℕ) (words : ℕ) (tells : Bool) : Type 0 where
  pub some : 0 < number_in order 2 word
  pub size : option_size order word ≡ 4 * words + 4
  pub told : is_resolution order word ≡ tells

-- with the head in these four bytes, and so many words of options behind it
abbrev pub FoundIs : Order → List ℕ → ℕ → Found → Type 0
FoundIs order word left Nothing = (area : List ℕ) → length area ≡ 4 * left → resolution_in order (4 * left + 4) (word ++ area) ≡ 6
FoundIs order word left Told = (0 < left) × IsOption order word 1 true
FoundIs order word left (Other words) = (words < left) × IsOption order word words false
