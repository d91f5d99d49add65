-- What a callback asks.
use Rattle.std.specs.Prelude.{[], None}
use Rattle.app_api.specs.declared.reaction.Reaction.{Reaction}

-- a reaction that asks nothing
abbrev pub asks_nothing : Reaction
asks_nothing = record { drop = None; changes = [] }
