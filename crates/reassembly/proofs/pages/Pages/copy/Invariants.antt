use Rattle.std.proofs.Common.{◌≡◌, ℕ, ◌+◌, ◌-◌, ◌<◌, ◌≤◌, length, slice_index}
use Rattle.reassembly.specs.Pages.{byte_of}
use Rattle.reassembly.proofs.pages.Pages.copy.Given as goal

abbrev pub invariant-loop-done : goal.invariant-loop-done
invariant-loop-done l = (length l.buf ≡ length l.fn.buf) × (l.done ≤ length l.buf) × ((i : ℕ) → i < l.done → slice_index l.buf i ≡ byte_of l.self (l.low + i))

abbrev pub decreases-loop-done : goal.decreases-loop-done
decreases-loop-done l = length l.buf - l.done
