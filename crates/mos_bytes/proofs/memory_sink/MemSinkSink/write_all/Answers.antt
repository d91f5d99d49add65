-- What the room holds in front of the place is what was taken.
use Rattle.std.proofs.Common.{◌≡◌, ◌/◌, ◌++◌, length, take, drop, arith, sym, ap, ◌∙◌}
use Rattle.std.proofs.lemmas.List.{take-append-drop}
use Rattle.mos_bytes.proofs.Moves.{room_front}
use Rattle.mos_bytes.proofs.memory_sink.MemSinkSink.write_all.Goals as goal

pub returns-then-contains-clause-bytes : goal.returns-then-contains-clause-bytes
returns-then-contains-clause-bytes c =
    let half = length c.args.bytes.now / 2 in
    let front = take half c.args.bytes.now in
    let place = c.self.inside.place in
    let items = c.self.inside.room.items in
    let lent_is = c.deref_mut.ensures.value in
    let all : c.self.inside.room.len ≡ length c.put_behind-self-inside.new.room = omega (arith, c.put_behind-self-inside.ensures.room, c.deref_mut.ensures.len) in
    let taken : take c.put_behind-self-inside.result c.put_behind-self-inside.new.room ≡ take place items ++ front =
    c.put_behind-self-inside.ensures.put ∙ ap (λ l. take place l ++ front) lent_is in
    record {
      front = front;
      rest = drop half c.args.bytes.now;
      added = rw (← c.self.view_is) (room_front c.put_behind-self-inside.result c.self.inside.room.len c.put_behind-self-inside.new.room
          (drop (length c.put_behind-self-inside.new.room) items) (take place items ++ front) all taken);
      whole = sym (take-append-drop half c.args.bytes.now);
    }
