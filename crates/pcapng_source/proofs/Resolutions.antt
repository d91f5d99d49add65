-- Options, one after another.
use Rattle.std.proofs.Common.{◌≡◌, ℕ, zero, suc, ◌+◌, ◌-◌, ◌*◌, ◌/◌, ◌<◌, ◌≤◌, List, [], ◌∷◌, ◌++◌, length, drop, Bool, true, false, ◌==◌, not, cond, get_or, refl, sym, ap, ◌∙◌, arith, length-append, length-drop}
use Rattle.std.proofs.lemmas.Bool.{leb-true, ne_eqb, not-false, or_from, or_left, or_parts, or_right}
use Rattle.std.proofs.lemmas.List.{drop_all, get_or-append-add}
use Rattle.std.proofs.Math.Seq.{drop-append-add}
use Rattle.std.specs.Prelude.{slice_index}
use Rattle.pcap_source.specs.Order.{number_in}
use Rattle.pcapng_source.specs.Fields.{SectionState, has, is_past_options, is_resolution, last_resolved, option_size, resolution_in, resolution_told, with_interface, with_resolution}
use Rattle.pcap_source.specs.declared.order.Order.{Order}
use Rattle.pcapng_source.specs.declared.section.Interface.{Interface}
use Rattle.pcapng_source.proofs.Numbers.{number_in-front, number_at-front, has-there}
use Rattle.pcapng_source.proofs.Blocks.{has-short}

-- an option that stands at the front is there whole
option_there : (order : Order) (options : List ℕ) → is_past_options order options ≡ false → option_size order options ≤ length options
option_there order options is =
    let outer = or_parts (not (has 4 options)) _ is in
    let inner = or_parts (number_in order 2 options == 0) (not (has (option_size order options) options)) outer.1 in
    leb-true _ _ (not-false _ inner.1)

-- too few bytes for an option
past-short : (order : Order) (options : List ℕ) → length options < 4 → is_past_options order options ≡ true
past-short order options short = or_left (not (has 4 options)) _ (rw (has-short 4 options short) refl)

resolution-step : (order : Order) (n : ℕ) (options : List ℕ) (past told : Bool) → is_past_options order options ≡ past → is_resolution order options ≡ told
    → resolution_in order (suc n) options ≡ cond past 6 (cond told (slice_index options 4) (resolution_in order n (drop (option_size order options) options)))
unfolding resolution_in
resolution-step order n options past told is_past is_told = rw (is_past, is_told) refl

resolution-none : (order : Order) (n : ℕ) (options : List ℕ) → is_past_options order options ≡ true → resolution_in order n options ≡ 6
unfolding resolution_in
resolution-none order zero options is = refl
resolution-none order (suc n) options is = rw is refl

count-by : (order : Order) (a b : ℕ) (options : List ℕ) (past told : Bool) → is_past_options order options ≡ past → is_resolution order options ≡ told
    → length options ≤ suc a → length options ≤ suc b
    → ((others : List ℕ) → length others ≤ a → length others ≤ b → resolution_in order a others ≡ resolution_in order b others)
    → resolution_in order (suc a) options ≡ resolution_in order (suc b) options
count-by order a b options true told is_past is_told fits within again = resolution-none order (suc a) options is_past ∙ sym (resolution-none order (suc b) options is_past)
count-by order a b options false true is_past is_told fits within again = resolution-step order a options false true is_past is_told ∙ sym (resolution-step order b options false true is_past is_told)
count-by order a b options false false is_past is_told fits within again =
    let there = option_there order options is_past in
    let size = option_size order options in
    resolution-step order a options false false is_past is_told
    ∙ again (drop size options) (omega (arith, length-drop size options)) (omega (arith, length-drop size options))
    ∙ sym (resolution-step order b options false false is_past is_told)

-- how many options are counted makes no difference where there aren't more bytes
pub resolution-count : (order : Order) (a b : ℕ) (options : List ℕ) → length options ≤ a → length options ≤ b → resolution_in order a options ≡ resolution_in order b options
resolution-count order zero b options fits within = resolution-none order zero options (past-short order options (omega arith))
    ∙ sym (resolution-none order b options (past-short order options (omega arith)))
resolution-count order (suc a) zero options fits within = resolution-none order (suc a) options (past-short order options (omega arith))
    ∙ sym (resolution-none order zero options (past-short order options (omega arith)))
resolution-count order (suc a) (suc b) options fits within =
    count-by order a b options (is_past_options order options) (is_resolution order options) refl refl fits within (resolution-count order a b)

-- the last interface may be resolved before or after it is added
last_resolved-push : (interfaces : List Interface) (interface : Interface) (resolution : ℕ)
    → last_resolved (interfaces ++ interface ∷ []) resolution ≡ interfaces ++ record interface { resolution = resolution_told resolution } ∷ []
last_resolved-push [] interface resolution = refl
last_resolved-push (first ∷ []) interface resolution = refl
last_resolved-push (first ∷ (second ∷ others)) interface resolution = ap (λ l. first ∷ l) (last_resolved-push (second ∷ others) interface resolution)

pub resolved-added : (section : SectionState) (interface : Interface) (resolution : ℕ)
    → with_resolution (with_interface section interface) resolution ≡ with_interface section (record interface { resolution = resolution_told resolution })
resolved-added section interface resolution = ap (λ l. record { order = section.order; interfaces = l }) (last_resolved-push section.interfaces interface resolution)

-- the head of an option, and the options behind it
module _ (order : Order) (word area : List ℕ) (whole : length word ≡ 4) where
  sized : option_size order (word ++ area) ≡ option_size order word
  sized = ap (λ n. 4 + (n + 3) / 4 * 4) (number_at-front order 2 2 word area (omega arith))

  pub past-code : number_in order 2 word ≡ 0 → is_past_options order (word ++ area) ≡ true
  past-code none =
      or_right (not (has 4 (word ++ area))) _ (or_left (number_in order 2 (word ++ area) == 0) _
      (ap (λ n. n == 0) (number_in-front order 2 word area (omega arith) ∙ none)))

  pub past-size : length area + 4 < option_size order word → is_past_options order (word ++ area) ≡ true
  past-size long =
      or_right (not (has 4 (word ++ area))) _ (or_right (number_in order 2 (word ++ area) == 0) _
      (rw (sized, has-short (option_size order word) (word ++ area) (omega (arith, length-append word area))) refl))

  pub not-past : 0 < number_in order 2 word → option_size order word ≤ length area + 4 → is_past_options order (word ++ area) ≡ false
  not-past some fits =
      or_from (not (has 4 (word ++ area))) _ (rw (has-there 4 (word ++ area) (omega (arith, length-append word area))) refl)
      (or_from (number_in order 2 (word ++ area) == 0) _
      (ap (λ n. n == 0) (number_in-front order 2 word area (omega arith)) ∙ ne_eqb _ 0 (λ none. omega arith))
      (rw (sized, has-there (option_size order word) (word ++ area) (omega (arith, length-append word area))) refl))

  pub told-here : is_resolution order (word ++ area) ≡ is_resolution order word
  told-here = rw (number_in-front order 2 word area (omega arith), number_at-front order 2 2 word area (omega arith)) refl

  -- the option tells the resolution
  pub resolution-here : (n : ℕ) → is_resolution order word ≡ true → 0 < number_in order 2 word → option_size order word ≤ length area + 4
      → resolution_in order (suc n) (word ++ area) ≡ slice_index area 0
  resolution-here n is some fits =
      resolution-step order n (word ++ area) false true (not-past some fits) (told-here ∙ is)
      ∙ ap (λ k. get_or (word ++ area) k 0) (let it : 4 ≡ length word + 0 = omega arith in it) ∙ get_or-append-add word area 0 0

  -- it is another one
  pub resolution-behind : (n : ℕ) → is_resolution order word ≡ false → 0 < number_in order 2 word → option_size order word ≤ length area + 4
      → resolution_in order (suc n) (word ++ area) ≡ resolution_in order n (drop (option_size order word - 4) area)
  resolution-behind n is some fits =
      resolution-step order n (word ++ area) false false (not-past some fits) (told-here ∙ is)
      ∙ ap (λ k. resolution_in order n (drop k (word ++ area))) (sized ∙ (let it : option_size order word ≡ length word + (option_size order word - 4) = omega arith in it))
      ∙ ap (resolution_in order n) (drop-append-add word area (option_size order word - 4))

  -- none tells it
  pub resolution-past : (n : ℕ) → is_past_options order (word ++ area) ≡ true → resolution_in order n (word ++ area) ≡ 6
  resolution-past n is = resolution-none order n (word ++ area) is

  pub resolution-last : (n : ℕ) → is_resolution order word ≡ false → 0 < number_in order 2 word → option_size order word ≡ length area + 4
      → resolution_in order (suc n) (word ++ area) ≡ 6
  resolution-last n is some all =
      let none : drop (option_size order word - 4) area ≡ [] = drop_all (option_size order word - 4) area (omega arith) in
      resolution-behind n is some (omega arith)
      ∙ ap (resolution_in order n) none
      ∙ resolution-none order n [] (past-short order [] (omega arith))
