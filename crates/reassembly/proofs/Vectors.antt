-- The definitions at worked segments: rbuf 8, the byte that came first stays, each line goes on from the one above.
use Rattle.std.proofs.Common.{◌≡◌, ℕ, ℤ, pos, negsuc, List, [], ◌∷◌, refl}
use Rattle.std.specs.Prelude.{codes}
use Rattle.reassembly.specs.declared.answers.Policy.TheVariants.{First}
use Rattle.reassembly.specs.declared.answers.Placed.{Placed}
use Rattle.reassembly.specs.declared.answers.FinNote.TheVariants.{Noted, Same, Refused}
use Rattle.reassembly.specs.Receiver.{Receiver, no_bytes, next_of, kept, low_of}
use Rattle.reassembly.specs.Segment.{accept, counts}
use Rattle.reassembly.specs.Fin.{note_of, noted}
use Rattle.reassembly.specs.Kept.{bytes_from, runs_from}
use Rattle.reassembly.specs.Position.{position_of}

abbrev after : Receiver → ℤ → List ℕ → Receiver
after r q bytes = accept r q bytes First 8

abbrev line : ℕ → ℕ → ℕ → ℕ → Placed
line new old differ over = record { new = new; old = old; differ = differ; over = over }

abbrev r1 : Receiver
r1 = after no_bytes (pos 4) (codes "EFGH")

abbrev r2 : Receiver
r2 = after r1 (pos 2) (codes "CDxF")

abbrev r4 : Receiver
r4 = after (after r2 (pos 6) (codes "GHIJ")) (negsuc 0) (codes "?AB")

abbrev r6 : Receiver
r6 = after (after r4 (pos 0) (codes "ABCDEFGZ")) (pos 8) (codes "IJ")

abbrev r7 : Receiver
r7 = after r6 (pos 0) (codes "ZZZ")

abbrev r10 : Receiver
r10 = noted r7 (pos 12) 18

abbrev r12 : Receiver
r12 = after r10 (pos 10) (codes "KLMN")

vector_1 : counts no_bytes (pos 4) (codes "EFGH") 8 ≡ line 4 0 0 0
unfolding accept counts note_of noted low_of
vector_1 = refl

vector_2 : counts r1 (pos 2) (codes "CDxF") 8 ≡ line 2 2 1 0
unfolding accept counts note_of noted low_of
vector_2 = refl

vector_3 : counts r2 (pos 6) (codes "GHIJ") 8 ≡ line 0 2 0 2
unfolding accept counts note_of noted low_of
vector_3 = refl

vector_4 : counts r2 (negsuc 0) (codes "?AB") 8 ≡ line 2 1 0 0
unfolding accept counts note_of noted low_of
vector_4 = refl

next_4 : next_of r4.cells ≡ 8
unfolding accept counts note_of noted low_of
next_4 = refl

vector_5 : counts r4 (pos 0) (codes "ABCDEFGZ") 8 ≡ line 0 8 1 0
unfolding accept counts note_of noted low_of
vector_5 = refl

vector_6 : counts r4 (pos 8) (codes "IJ") 8 ≡ line 2 0 0 0
unfolding accept counts note_of noted low_of
vector_6 = refl

vector_7 : counts r6 (pos 0) (codes "ZZZ") 8 ≡ line 0 3 1 0
unfolding accept counts note_of noted low_of
vector_7 = refl

vector_8 : note_of r7 (pos 9) 18 ≡ Refused
unfolding accept counts note_of noted low_of
vector_8 = refl

vector_9 : note_of r7 (pos 19) 18 ≡ Refused
unfolding accept counts note_of noted low_of
vector_9 = refl

vector_10 : note_of r7 (pos 12) 18 ≡ Noted
unfolding accept counts note_of noted low_of
vector_10 = refl

vector_11 : note_of r10 (pos 12) 18 ≡ Same
unfolding accept counts note_of noted low_of
vector_11 = refl

vector_12 : counts r10 (pos 10) (codes "KLMN") 8 ≡ line 2 0 0 2
unfolding accept counts note_of noted low_of
vector_12 = refl

next_12 : next_of r12.cells ≡ 12
unfolding accept counts note_of noted low_of
next_12 = refl

low_12 : low_of r12.cells 8 ≡ 4
unfolding accept counts note_of noted low_of
low_12 = refl

kept_12 : bytes_from (kept r12.cells 8) 4 20 ≡ codes "EFGHIJKL"
unfolding accept counts note_of noted low_of
kept_12 = refl

runs_12 : runs_from (kept r12.cells 8) 0 20 ≡ (4, 8) ∷ []
unfolding accept counts note_of noted low_of
runs_12 = refl

runs_1 : runs_from (kept (after r1 (pos 1) (codes "B")).cells 8) 0 7 ≡ (1, 1) ∷ (4, 3) ∷ []
unfolding accept counts note_of noted low_of
runs_1 = refl

below_zero_is_refused : note_of no_bytes (negsuc 0) 18 ≡ Refused
unfolding accept counts note_of noted low_of
below_zero_is_refused = refl

keep_alive : position_of 10 4294967295 9 ≡ pos 9
keep_alive = refl

wrapped : position_of 4294967300 100 105 ≡ pos 4294967300
wrapped = refl
