-- The applications of mos, each with its kind, the word that names it, and what it answers.
use Rattle.std.specs.Prelude.{ℕ, List, [], ◌∷◌, find, codes, Option, option_map}
use Rattle.std.specs.Str.{bytes_eq}
use Rattle.app_api.specs.App.{Meaning, IsLawful}
use Rattle.app_api.specs.Log.{log, log-lawful}
use Rattle.app_traffic.specs.Acct.{acct, acct-lawful}
use Rattle.app_traffic.specs.Rexmit.{rexmit, rexmit-lawful}
use Rattle.app_firewall.specs.Firewall.{firewall, firewall-lawful}
use Rattle.applications.specs.declared.apps.AppKind.{AppKind}
use Rattle.applications.specs.declared.apps.AppKind.TheVariants.{Log, Acct, Rexmit, Firewall}

-- their words and kinds, in the order in which a user is told them
abbrev pub apps : List (List ℕ × AppKind)
apps = (codes "log", Log) ∷ (codes "acct", Acct) ∷ (codes "rexmit", Rexmit) ∷ (codes "firewall", Firewall) ∷ []

abbrev pub meaning_of : AppKind → Meaning
meaning_of Log = log
meaning_of Acct = acct
meaning_of Rexmit = rexmit
meaning_of Firewall = firewall

-- each is a lawful one
pub lawful_app : (app : AppKind) → IsLawful (meaning_of app)
lawful_app Log = log-lawful
lawful_app Acct = acct-lawful
lawful_app Rexmit = rexmit-lawful
lawful_app Firewall = firewall-lawful

-- what a word names in a table of words
abbrev pub named_in : {X : Type 0} → List (List ℕ × X) → List ℕ → Option X
named_in table word = option_map (λ row. row.1) (find (λ row. bytes_eq word row.0) table)
