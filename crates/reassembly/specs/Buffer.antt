-- Only for proofs. What a buffer holds, as a window, whichever of its forms it has.
use Rattle.std.specs.Prelude.{◌≡◌, ℕ, ◌+◌, ◌-◌, ◌≤◌, ◌^◌, min, not, ◌&&◌, nat_le, nat_eq, List, [], ◌∷◌, length, slice_index, Option, Some, refl}
use Rattle.std.specs.Global.{Global}
use Rattle.std.specs.declared.vec.Vec.{Vec}
use Rattle.std.proofs.Common.{ltb-true, leb-true, inl}
use Rattle.std_collections.specs.Layout.BTreeMap.{btree_map}
use Rattle.reassembly.specs.Placing.{Places}
use Rattle.reassembly.specs.Segment.{count_below}
use Rattle.reassembly.specs.Steps.{counts_viewed}
use Rattle.reassembly.specs.Window.{view_of, IsSized}
use Rattle.reassembly.specs.declared.answers.Placed.{Placed}
use Rattle.reassembly.specs.declared.answers.Policy.{Policy}
use Rattle.reassembly.specs.declared.pages.Pages.{Pages}
use Rattle.reassembly.specs.declared.waiting.Runs.{Runs}
use Rattle.reassembly.specs.declared.window.Window.{Window}
use Rattle.reassembly.specs.declared.holed.Holed.{Holed}
use Rattle.reassembly.specs.declared.buffer.Buffer.{Buffer}
use Rattle.reassembly.specs.declared.buffer.Buffer.TheVariants.{InOrder, Holed as HasHole, Spread}

-- the key of the first page
abbrev pub first_key : Vec ℕ Global → Vec ℕ Global
first_key page = record { ptr = page.ptr; len = 1; cap = 1; alloc = page.alloc; items = 0 ∷ []; ok = (refl, leb-true 1 1 refl); small = ltb-true 1 (2 ^ 63) refl }

-- no bytes, and no room for any
abbrev pub no_page : Vec ℕ Global → Vec ℕ Global
no_page page = record { ptr = page.ptr; len = 0; cap = 0; alloc = page.alloc; items = []; ok = (refl, leb-true 0 0 refl); small = ltb-true 0 (2 ^ 63) refl }

-- one page, which begins at position 0
abbrev pub first_page : Vec ℕ Global → Pages
first_page page = record { base = 0; keys = first_key page; slab = record { slots = Some page ∷ []; vacant_key = 1; capacity = 1 }; spare = no_page page; alloc = page.alloc }

abbrev pub no_runs : Vec ℕ Global → Runs
no_runs page = record { map = btree_map [] (inl tt); alloc = page.alloc }

-- the page's bytes are all that was accepted
abbrev pub in_order : Vec ℕ Global → Window
in_order page = record { next = length page.items; bytes = first_page page; runs = no_runs page }

-- the run that ends where the page's bytes end
abbrev pub last_run : Vec ℕ Global → ℕ → Runs
last_run page start = record { map = btree_map ((start, length page.items) ∷ []) (inl tt); alloc = page.alloc }

-- those of the page's bytes were accepted that lie below next, and those from start on
abbrev pub holed : Holed → Window
holed h = record { next = h.next; bytes = first_page h.bytes; runs = last_run h.bytes h.start }

abbrev pub window_of : Buffer → Window
window_of (InOrder page) = in_order page
window_of (HasHole h) = holed h
window_of (Spread window) = window.value

-- how many bytes of a segment from q on differ from those of the list, at the positions from low on
abbrev pub differing_from : ℕ → List ℕ → ℕ → List ℕ → ℕ
differing_from low bytes q segment = count_below (λ i. nat_le low (q + i) && not (nat_eq (slice_index bytes (q + i)) (slice_index segment i))) (length segment)

-- the counts of a segment of n bytes from q on, of which those below the limit are new
abbrev pub new_below : ℕ → ℕ → ℕ → Placed
new_below limit q n = let new = min (limit - q) n in record { new = new; old = 0; differ = 0; over = n - new }

-- a segment of n bytes from q on is what is missing between next and the run, and lies below the limit
pub record FillsHole (h : Holed) (limit q n : ℕ) : Type 0 where
  pub from : q ≡ h.next
  pub to : q + n ≡ h.start
  pub below : h.start ≤ limit

-- what a segment from q on does to a window where all its bytes below the limit are new
pub record TakesAll (limit rbuf q : ℕ) (segment : List ℕ) (old new : Window) : Type 0 where
  pub places : (policy : Policy) → IsSized old rbuf → Places limit rbuf q segment policy old new
  pub counts : (fin : Option ℕ) → new_below limit q (length segment) ≡ counts_viewed (view_of old fin rbuf) limit q segment
