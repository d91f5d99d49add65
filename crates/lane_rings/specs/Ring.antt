-- Not of the headline. What a contract sees of the two ends of a ring.
use Rattle.std.specs.Prelude.{ℕ, List}
use Rattle.rtrb.specs.Ring.{sent as pushed, known_free, received, known_items, IsPair, SameProducer, SameConsumer}
use Rattle.lane_rings.specs.declared.ring.RingTx.{RingTx}
use Rattle.lane_rings.specs.declared.ring.RingRx.{RingRx}

module _ {T : Type 0} where
  -- everything that was sent, in order
  abbrev pub sent : RingTx T → List T
  sent tx = pushed tx.producer

  -- how many places the sending end knows to be free
  abbrev pub free : RingTx T → ℕ
  free tx = known_free tx.producer

  -- everything that was taken, in order
  abbrev pub taken : RingRx T → List T
  taken rx = received rx.consumer

  -- what the taking end has seen in the ring: the next that it takes
  abbrev pub known : RingRx T → List T
  known rx = known_items rx.consumer

  -- the two ends of one ring
  abbrev pub AreEnds : RingTx T → RingRx T → Type 0
  AreEnds tx rx = IsPair tx.producer rx.consumer

  -- the sending end of the same ring
  abbrev pub SameTx : RingTx T → RingTx T → Type 0
  SameTx a b = SameProducer a.producer b.producer

  -- the taking end of the same ring
  abbrev pub SameRx : RingRx T → RingRx T → Type 0
  SameRx a b = SameConsumer a.consumer b.consumer
