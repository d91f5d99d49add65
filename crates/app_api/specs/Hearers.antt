-- Not of the headline. Who hears an event at a hook, and who hears each of the built-in events.
use Rattle.std.specs.Prelude.{◌≡◌, ℕ, ◌==◌, Bool, true, false, IsTrue, slice_index_or}
use Rattle.app_api.specs.declared.hearers.Hearers.{Hearers}
use Rattle.app_api.specs.declared.hearers.Hearers.TheVariants.{Nobody, One, More}
use Rattle.app_api.specs.declared.hearers.Heard.{Heard}
use Rattle.app_api.specs.Events.{PKT_IN, place_of, is_of_packets}

-- both together: two are more than one
abbrev pub joined : Hearers → Hearers → Hearers
joined Nobody b = b
joined (One n) Nobody = One n
joined (One n) (One m) = More
joined (One n) More = More
joined More b = More

-- under a root even one counts as more, since filters are asked on the way to it
abbrev pub deep : Hearers → Hearers
deep Nobody = Nobody
deep (One n) = More
deep More = More

-- whether there is any
abbrev pub is_any : Hearers → Bool
is_any Nobody = false
is_any (One n) = true
is_any More = true

-- who hears an event. A number that isn't one of the built-in events counts as heard by more
abbrev pub hearers_in : Heard → ℕ → Hearers
hearers_in heard event = slice_index_or heard.of_each (place_of event) More

-- whether an event is heard
abbrev pub is_heard_in : Heard → ℕ → Bool
is_heard_in heard event = is_any (hearers_in heard event)

-- the registration of a number alone hears packets: it stands at `pkt_in`, and nothing else that a packet may raise is heard
pub record HearsAlone (heard : Heard) (number : ℕ) : Type 0 where
  pub one : hearers_in heard PKT_IN ≡ One number
  pub others : (event : ℕ) → IsTrue (is_of_packets event) → (PKT_IN == event) ≡ false → is_heard_in heard event ≡ false
