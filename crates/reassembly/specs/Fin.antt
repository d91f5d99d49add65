-- Where a FIN stands: at the position after the last byte that its sender sends.
use Rattle.std.specs.Prelude.{ℕ, ℤ, pos, negsuc, Bool, false, not, ◌&&◌, nat_le, nat_eq, List, drop, Option, Some, None, is_some, if◌then◌else◌}
use Rattle.std.specs.List.{list_any}
use Rattle.reassembly.specs.declared.answers.FinNote.{FinNote}
use Rattle.reassembly.specs.declared.answers.FinNote.TheVariants.{Noted, Same, Refused}
use Rattle.reassembly.specs.Receiver.{Receiver}

-- no byte was accepted at p or past it
abbrev pub is_free_from : List (Option ℕ) → ℕ → Bool
is_free_from cells p = not (list_any is_some (drop p cells))

-- what becomes of a FIN at p: noted where none is, at most at the allowed edge, with no byte at it or past it
abbrev pub note_with : Option ℕ → ℕ → ℕ → Bool → FinNote
note_with None p edge is_free = if nat_le p edge && is_free then Noted else Refused
note_with (Some fin) p edge is_free = if nat_eq p fin then Same else Refused

-- the position as a natural number, unless it lies below 0
abbrev pub natural_of : ℤ → Option ℕ
natural_of (pos p) = Some p
natural_of (negsuc n) = None

-- a position below 0 is none of the stream, so a FIN there is refused
unfoldable pub note_of : Receiver → ℤ → ℕ → FinNote
note_of r (pos p) edge = note_with r.fin p edge (is_free_from r.cells p)
note_of r (negsuc n) edge = Refused

-- the FIN that is noted after that answer to one at p
abbrev pub fin_with : Option ℕ → ℕ → FinNote → Option ℕ
fin_with fin p Noted = Some p
fin_with fin p Same = fin
fin_with fin p Refused = fin

-- the receiver's FIN after that answer
abbrev pub fin_after : Receiver → ℤ → FinNote → Option ℕ
fin_after r (pos p) answer = fin_with r.fin p answer
fin_after r (negsuc n) answer = r.fin

-- the receiver after a FIN at q
unfoldable pub noted : Receiver → ℤ → ℕ → Receiver
noted r q edge = record { cells = r.cells; fin = fin_after r q (note_of r q edge); offer = r.offer }

-- all bytes up to the noted FIN were accepted
abbrev pub is_fin_reached : ℕ → Option ℕ → Bool
is_fin_reached next None = false
is_fin_reached next (Some fin) = nat_eq next fin
