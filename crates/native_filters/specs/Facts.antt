-- The facts of a raise, by their names and places.
use Rattle.std.specs.Prelude.{ℕ, List, [], ◌∷◌, codes, slice_index_or}
use Rattle.native_filters.specs.declared.facts.Facts.{Facts}

-- the facts by their names, in the order of their places
abbrev pub facts : List (List ℕ × (Facts → ℕ))
facts =
    (codes "dir", λ f. f.dir) ∷ (codes "nth", λ f. f.nth) ∷ (codes "src", λ f. f.src) ∷ (codes "dst", λ f. f.dst)
    ∷ (codes "sport", λ f. f.sport) ∷ (codes "dport", λ f. f.dport) ∷ (codes "seq", λ f. f.seq) ∷ (codes "ack", λ f. f.ack)
    ∷ (codes "flags", λ f. f.flags) ∷ (codes "win", λ f. f.win) ∷ (codes "len", λ f. f.len) ∷ (codes "ttl", λ f. f.ttl)
    ∷ (codes "old", λ f. f.old) ∷ (codes "new", λ f. f.new) ∷ (codes "fresh", λ f. f.fresh) ∷ (codes "rexlen", λ f. f.rexlen)
    ∷ (codes "rexdiff", λ f. f.rexdiff) ∷ (codes "fault", λ f. f.fault) ∷ (codes "next", λ f. f.next) ∷ (codes "class", λ f. f.class) ∷ []

-- the fact at a place
unfoldable pub fact : ℕ → Facts → ℕ
fact place f = (slice_index_or facts place (codes "class", λ g. g.class)).1 f

-- the facts of nothing
unfoldable pub no_facts : Facts
no_facts = record {
  dir = 0;
  nth = 0;
  src = 0;
  dst = 0;
  sport = 0;
  dport = 0;
  seq = 0;
  ack = 0;
  flags = 0;
  win = 0;
  len = 0;
  ttl = 0;
  old = 0;
  new = 0;
  fresh = 0;
  rexlen = 0;
  rexdiff = 0;
  fault = 0;
  next = 0;
  class = 0;
}
