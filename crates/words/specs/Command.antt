-- Only for proofs. The program's command, as a parse reads it.
use Rattle.std.specs.Prelude.{ℕ, List, Some, true, codes}
use Rattle.clap.specs.Walk.{Rule}
use Rattle.clap.specs.Simple.{App, new_app, new_rule, on_top, with_rule}

-- the option `--name`, which takes one value
abbrev pub option_rule : List ℕ → Rule
option_rule name = record (new_rule name) { long = Some name }

abbrev pub bare_app : App
bare_app = on_top (λ s. record s { no_binary_name = true; disable_help_flag = true }) (new_app (codes "mos"))

-- the five options
abbrev pub the_app : App
the_app = with_rule (with_rule (with_rule (with_rule (with_rule bare_app
    (option_rule (codes "app"))) (option_rule (codes "workers"))) (option_rule (codes "script")))
    (option_rule (codes "emit"))) (option_rule (codes "make"))
