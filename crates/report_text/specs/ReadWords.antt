-- Only for proofs. How the words of a line are read: tolerantly, since what is read is written again and compared with the line.
use Rattle.std.specs.Prelude.{ℕ, zero, suc, ◌+◌, ◌*◌, ◌%◌, ◌^◌, ◌==◌, ◌||◌, Bool, if◌then◌else◌, List, [], ◌∷◌, nat_lt, slice_index, length, Result, Ok, Err}
use Rattle.std.specs.Char.{digit_value}
use Rattle.std.specs.Int.{w32, from_be_bytes}
use Rattle.std.specs.Option.{unwrap_or}
use Rattle.hex.specs.Hex.{decode_of}
use Rattle.hex.specs.declared.error.FromHexError.{FromHexError}
use Rattle.flow_table.specs.declared.endpoint.Endpoint.{Endpoint}
use Rattle.flow_table.specs.declared.endpoint.Endpoint.TheVariants.{V4, V6}
use Rattle.native_filters.specs.declared.facts.Hook.{Hook}
use Rattle.native_filters.specs.declared.facts.Hook.TheVariants.{Snd, Rcv}
use Rattle.packet_views.specs.declared.packet.Class.{Class}
use Rattle.packet_views.specs.declared.packet.Class.TheVariants.{Tcp, Other, Fragment, Cut, Bad}
use Rattle.app_api.specs.Names.{event_named}
use Rattle.app_api.specs.declared.entry.Seen.{Seen}
use Rattle.app_api.specs.declared.entry.Seen.TheVariants.{Nothing, Next, At}
use Rattle.app_api.specs.declared.reaction.Reason.{Reason}
use Rattle.app_api.specs.declared.reaction.Reason.TheVariants.{Reg, Rule}

-- what stands between two words: a newline, a blank, a dot, a colon or a bracket
abbrev pub is_mark : ℕ → Bool
is_mark b = b == 10 || b == 32 || b == 46 || b == 58 || b == 91 || b == 93

-- the bytes before the first mark
unfoldable pub first_word : List ℕ → List ℕ
first_word [] = []
first_word (b ∷ bs) = if is_mark b then [] else b ∷ first_word bs

-- the bytes behind the first mark
unfoldable pub after_word : List ℕ → List ℕ
after_word [] = []
after_word (b ∷ bs) = if is_mark b then bs else after_word bs

-- the text behind so many words
unfoldable pub skip : ℕ → List ℕ → List ℕ
skip zero text = text
skip (suc n) text = after_word (skip n text)

-- the number that a word writes behind the digits of n, as 64 bits keep it
unfoldable pub number_from : ℕ → ℕ → List ℕ → ℕ
number_from radix n [] = n
number_from radix n (b ∷ bs) =
    if is_mark b then n else number_from radix ((n * radix % 2 ^ 64 + digit_value b) % 2 ^ 64) bs

-- the number of the first word
abbrev pub number : ℕ → List ℕ → ℕ
number radix text = number_from radix 0 text

-- the number of the first word in decimal
abbrev pub decimal_of : List ℕ → ℕ
decimal_of text = number 10 text

abbrev pub class_of : List ℕ → Class
class_of text =
    if slice_index text 0 == 116 then Tcp else if slice_index text 0 == 111 then Other
    else if slice_index text 0 == 102 then Fragment else if slice_index text 0 == 99 then Cut else Bad

abbrev pub hook_of : List ℕ → Hook
hook_of text = if slice_index text 0 == 115 then Snd else Rcv

-- a built-in event's name, or a number, which is below the letters; a name that there isn't is 0
abbrev pub event_of : List ℕ → ℕ
event_of text =
    if nat_lt (slice_index text 0) 97 then decimal_of text % 2 ^ 16 else unwrap_or (event_named (first_word text)) 0

abbrev pub reason_of : List ℕ → Reason
reason_of text = if slice_index text 1 == 101 then Reg (decimal_of (skip 1 text) % 2 ^ 8) else Rule (decimal_of (skip 1 text) % 2 ^ 8)

abbrev pub v4_of : List ℕ → Endpoint
v4_of text =
    V4 (from_be_bytes w32 (decimal_of text % 2 ^ 8 ∷ decimal_of (skip 1 text) % 2 ^ 8 ∷ decimal_of (skip 2 text) % 2 ^ 8 ∷ decimal_of (skip 3 text) % 2 ^ 8 ∷ []))
    (decimal_of (skip 4 text) % 2 ^ 16)

-- one of the groups of 16 bits
abbrev pub group_of : ℕ → List ℕ → ℕ
group_of words text = number 16 (skip words text) % 2 ^ 16

-- groups behind those of a number, as 128 bits keep it
unfoldable pub joined : ℕ → List ℕ → ℕ
joined n [] = n
joined n (group ∷ groups) = joined (n % 2 ^ 112 * 2 ^ 16 + group) groups

-- behind the bracket the groups, and behind the empty word between the other bracket and the colon the port
abbrev pub v6_of : List ℕ → Endpoint
v6_of text =
    V6 (joined 0 (group_of 1 text ∷ group_of 2 text ∷ group_of 3 text ∷ group_of 4 text
    ∷ group_of 5 text ∷ group_of 6 text ∷ group_of 7 text ∷ group_of 8 text ∷ []))
    (decimal_of (skip 10 text) % 2 ^ 16)

abbrev pub is_v6 : List ℕ → Bool
is_v6 text = slice_index text 0 == 91

abbrev pub endpoint_of : List ℕ → Endpoint
endpoint_of text = if is_v6 text then v6_of text else v4_of text

-- the text behind an endpoint
abbrev pub after_endpoint : List ℕ → List ℕ
after_endpoint text = if is_v6 text then skip 11 text else skip 5 text

abbrev pub decoded : Result (List ℕ) FromHexError → List ℕ
decoded (Ok bytes) = bytes
decoded (Err e) = []

-- a dash is no pair of digits, and so no bytes
abbrev pub bytes_of : List ℕ → List ℕ
bytes_of text = decoded (decode_of (first_word text))

-- so many pieces at most, up to the end of the text
unfoldable pub pieces_of : ℕ → List ℕ → List (ℕ × List ℕ)
pieces_of zero text = []
pieces_of (suc most) [] = []
pieces_of (suc most) (b ∷ text) =
    (decimal_of (b ∷ text), bytes_of (skip 1 (b ∷ text))) ∷ pieces_of most (skip 2 (b ∷ text))

-- a rest that begins with `p`, with `a`, or with neither
abbrev pub seen_of : List ℕ → Seen
seen_of text =
    if slice_index text 0 == 112 then Next (decimal_of (skip 1 text)) (decimal_of (skip 2 text)) (bytes_of (skip 3 text))
    else if slice_index text 0 == 97 then At (decimal_of (skip 1 text)) (pieces_of (length text) (skip 2 text)) else Nothing
