-- Not of the headline. What a forward run writes behind the capture's header.
use Rattle.std.specs.Prelude.{ℕ, zero, suc, List, [], ◌++◌}
use Rattle.run_outcome.specs.Forwarded.{bytes_under}
use Rattle.lane_rings.specs.declared.items.Answer.{Answer}

abbrev pub bytes_out : Answer → List ℕ
bytes_out a = bytes_under a.verdict a.frame

-- the bytes of the first n packets, in the order of the capture
unfoldable pub forwarded : (ℕ → Answer) → ℕ → List ℕ
forwarded answer zero = []
forwarded answer (suc n) = forwarded answer n ++ bytes_out (answer n)
