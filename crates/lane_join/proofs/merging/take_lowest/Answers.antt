use Rattle.std.proofs.Common.{◌∙◌, [], ap, sym, subst, length}
use Rattle.std.proofs.lemmas.List.{map-set, get_or-map, length-map}
use Rattle.lane_join.specs.Queues.{waiting, IsLowest}
use Rattle.lane_join.proofs.merging.take_lowest.Goals as goal

pub returns : goal.returns
returns c =
    let qs = c.args.queues.now.items in
    let low : IsLowest (waiting qs) (length qs) c.in-Some.place.0 c.in-Some.place.1 =
    subst (λ x. IsLowest (waiting x) (length x) c.in-Some.place.0 c.in-Some.place.1) c.as_slice.ensures.value c.in-Some.ensures in
    let long = length-map qs (λ q. q.records.items) in
    let lowest : IsLowest (waiting qs) (length (waiting qs)) c.in-Some.place.0 c.in-Some.place.1 = subst (λ n. IsLowest (waiting qs) n c.in-Some.place.0 c.in-Some.place.1) (sym long) low in
    record {
      place = c.in-Some.place.0;
      name = c.in-Some.place.1;
      lowest = lowest;
      moved = c.in-Some-pop_front.record;
      rest = c.pop_front.new.self.items;
      was = get_or-map (λ q. q.records.items) qs c.in-Some.place.0 c.index_mut.result.now [] low.below ∙ ap (λ q. q.records.items) (sym c.index_mut.ensures.value) ∙ c.in-Some-pop_front.ensures.items;
      new_is = map-set (λ q. q.records.items) qs c.in-Some.place.0 (record { records = c.pop_front.new.self });
      after_is = c.in_ok-push.ensures.items;
    }
