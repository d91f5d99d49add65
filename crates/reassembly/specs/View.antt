-- Not of the headline. What contracts see of a stream, and which receivers it stands for.
use Rattle.std.specs.Prelude.{◌≡◌, ℕ, List, Option}
use Rattle.reassembly.specs.Receiver.{Receiver, held, kept, next_of, wide_of}

-- next, the kept bytes by position, the noted FIN and the size of the receive buffer
pub record StreamView : Type 0 where
  pub next : ℕ
  pub kept : List (Option ℕ)
  pub fin : Option ℕ
  pub rbuf : ℕ

-- a stream stands for each receiver that has its next, its FIN and its kept bytes, whatever that one has offered; what
-- lies below them is forgotten
pub record StandsFor (s : StreamView) (r : Receiver) : Type 0 where
  pub next : s.next ≡ next_of r.cells
  pub fin : s.fin ≡ r.fin
  pub cells : (p : ℕ) → held s.kept p ≡ kept r.cells s.rbuf p

-- whatever receiver the stream stands for, this is true of it
abbrev pub ForReceiver : StreamView → (Receiver → Type 0) → Type 0
ForReceiver s IsTrueOf = (r : Receiver) → StandsFor s r → IsTrueOf r

-- this is true of the bytes that the stream keeps
abbrev pub ForKept : StreamView → ((ℕ → Option ℕ) → Type 0) → Type 0
ForKept s IsTrueOf = ForReceiver s (λ r. IsTrueOf (kept r.cells s.rbuf))

-- whatever receiver it stands for whose receive window has that many positions, this is true of it
abbrev pub ForWide : StreamView → ℕ → (Receiver → Type 0) → Type 0
ForWide s wide IsTrueOf = ForReceiver s (λ r. wide ≡ wide_of r s.rbuf → IsTrueOf r)

-- whatever receiver the stream stood for, it then stands for what the step makes of it
abbrev pub StandsAfter : StreamView → StreamView → (Receiver → Receiver) → Type 0
StandsAfter old new step = ForReceiver old (λ r. StandsFor new (step r))

-- the same for each whose receive window had that many positions
abbrev pub StandsAfterWide : StreamView → ℕ → StreamView → (Receiver → Receiver) → Type 0
StandsAfterWide old wide new step = ForWide old wide (λ r. StandsFor new (step r))
