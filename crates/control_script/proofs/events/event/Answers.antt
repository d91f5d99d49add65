use Rattle.std.proofs.Common.{◌≡◌, ℕ, Option, None, Err, ap, sym, ◌∙◌}
use Rattle.std.specs.Option.{option_map, option_or, unwrap_or}
use Rattle.number_text.specs.Numbers.{number_between}
use Rattle.app_api.specs.Names.{event_named}
use Rattle.control_script.specs.Grammar.{AfterWord, unknown_event, next_event}
use Rattle.control_script.specs.Reader.{takes}
use Rattle.control_script.proofs.events.event.Goals as goal

pub returns-in-None-number_in-clause-err : goal.returns-in-None-number_in-clause-err
returns-in-None-number_in-clause-err c =
    let words = c.args.words.now in
    let word = words.word.now in
    let unnamed : event_named word ≡ None = sym c.event_named.ensures.event ∙ c.in-None.is in
    let unnumbered : number_between 1 255 word ≡ None = sym c.number_in.ensures.number ∙ c.in-None-number_in.is in
    let neither : option_or (event_named word) (number_between 1 255 word) ≡ None = ap (λ (o : Option ℕ). option_or o (number_between 1 255 word)) unnamed ∙ unnumbered in
    let refused : (k : ℕ → AfterWord) → takes words (next_event k word) ≡ Err c.unknown.result =
    λ k. ap (λ (o : Option ℕ). takes words (unwrap_or (option_map k o) (unknown_event word))) neither ∙ c.unknown.ensures in
    record { parent = λ st number. refused _; own = λ st number. refused _ }
