-- The line that tells refused words. Between the words of the applications stands a bar (124).
use Rattle.std.specs.Prelude.{ℕ, List, ◌++◌, map, codes}
use Rattle.std.specs.List.{join_with_byte}
use Rattle.applications.specs.Apps.{apps}

abbrev pub usage_text : List ℕ
usage_text =
    codes "mos: usage: mos [--app " ++ join_with_byte 124 (map (λ row. row.0) apps)
    ++ codes "] [--workers N] [--script NAME] [--emit report|forward] [--make N]\n"
