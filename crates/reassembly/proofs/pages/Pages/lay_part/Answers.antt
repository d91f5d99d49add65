use Rattle.std.proofs.Common.{◌≡◌, ℕ, ◌+◌, ◌-◌, ◌/◌, ◌%◌, ◌<◌, ◌≤◌, arith, ap, ap₂, ◌∙◌, sym, refl, length, take, drop, List, slice_index}
use Rattle.std.proofs.lemmas.List.{get_or_read, with_items_is}
use borrow.Rule.Slice.PartMut.{put_mid}
use Rattle.std.specs.Vec.{with_items}
use Rattle.slab.specs.Slab.{get, with_value}
use Rattle.slab.proofs.SlabLemmas.{Updates-with_value}
use Rattle.reassembly.specs.declared.pages.Pages.{Pages}
use Rattle.reassembly.specs.Laying.{laid_byte, tally_of}
use Rattle.reassembly.specs.Pages.{bytes_of, page_at}
use Rattle.reassembly.proofs.Parts.{length-mid}
use Rattle.reassembly.proofs.Paged.{IsWritten, IsPart, IsLaidIn, written, written_page, page_of_key, held_in_page, held_within, laid_place, laid_page, judged_page}
use Rattle.reassembly.proofs.pages.Pages.lay_part.Goals as goal

-- the page that is written
record IsFound (c : goal.After-self-1) : Type 0 where
  part : IsPart c.args.self.now c.args.low ((c.args.low - c.args.self.now.base) / 2048) ((c.args.low - c.args.self.now.base) % 2048)
  there : (c.args.low - c.args.self.now.base) / 2048 < length c.args.self.now.keys.items
  key : c.index-key.result.now ≡ slice_index c.args.self.now.keys.items ((c.args.low - c.args.self.now.base) / 2048)
  page : page_at c.args.self.now ((c.args.low - c.args.self.now.base) / 2048) ≡ c.deref_mut.result.now
  span : (c.args.low - c.args.self.now.base) % 2048 + length c.args.bytes.now - (c.args.low - c.args.self.now.base) % 2048 ≡ length c.args.bytes.now
  within : (c.args.low - c.args.self.now.base) % 2048 + length c.args.bytes.now ≤ length (page_at c.args.self.now ((c.args.low - c.args.self.now.base) / 2048))

found : (c : goal.After-self-1) → IsFound c
found c =
    let s = c.args.self.now in
    let n = length c.args.bytes.now in
    let k = (c.args.low - s.base) / 2048 in
    let from = (c.args.low - s.base) % 2048 in
    let part : IsPart s c.args.low k from = record { base = c.requires.places.places.from; place = refl; offset = refl } in
    let there : k < length s.keys.items = held_within s c.args.low (c.requires.places.places.ready c.args.low (omega arith) (omega arith)) in
    let key : c.index-key.result.now ≡ slice_index s.keys.items k = get_or_read s.keys.items k c.index-key.result.now there c.index-key.ensures 0 in
    let last = held_in_page s c.args.low k from (n - 1) part (omega arith) (c.requires.places.places.ready (c.args.low + (n - 1)) (omega arith) (omega arith)) in
    record {
      part = part;
      there = there;
      key = key;
      page = page_of_key s k there ∙ ap (λ j. bytes_of (get s.slab j)) (sym key) ∙ ap bytes_of c.index_mut-page.ensures.value ∙ sym c.deref_mut.ensures.value;
      span = omega arith;
      within = omega (arith, last);
    }

abbrev after : (c : goal.After-self-1) → Pages
after c =
    let s = c.args.self.now in
    let from = (c.args.low - s.base) % 2048 in
    record {
      base = s.base;
      keys = s.keys;
      slab = with_value s.slab c.index-key.result.now (with_items c.index_mut-page.result.now (put_mid from (from + length c.args.bytes.now - from) c.deref_mut.result.now c.lay.new.cells));
      spare = s.spare;
      alloc = s.alloc;
    }

laid : (c : goal.After-self-1) → IsLaidIn c.args.self.now (after c) c.args.low ((c.args.low - c.args.self.now.base) / 2048)
    ((c.args.low - c.args.self.now.base) % 2048) c.args.bytes.now c.lay.new.cells
laid c =
    let f = found c in
    let s = c.args.self.now in
    let n = length c.args.bytes.now in
    let k = (c.args.low - s.base) / 2048 in
    let from = (c.args.low - s.base) % 2048 in
    let page = c.index_mut-page.result.now in
    let xs = c.deref_mut.result.now in
    let cells = c.lay.new.cells in
    let len : length cells ≡ n = omega (arith, f.span) in
    let size : length (page_at s k) ≡ length xs = ap length f.page in
    let fits : from + n ≤ length (page_at s k) = f.within in
    let whole : length (put_mid from n xs cells) ≡ length xs = length-mid from n xs cells (omega arith) len in
    let long : length xs ≡ length page.items = ap length c.deref_mut.ensures.value in
    let new_page = with_items page (put_mid from (from + n - from) xs cells) in
    let write : IsWritten s (after c) k new_page = record {
      keyed = c.requires.places.places.keyed;
      within = f.there;
      base = refl;
      keys = refl;
      updates = rw f.key (Updates-with_value s.slab _ new_page (c.requires.places.places.keyed.present k f.there));
    } in
    record {
      part = f.part;
      changed = written s (after c) k new_page write;
      page = written_page s (after c) k new_page write
          ∙ with_items_is page (put_mid from (from + n - from) xs cells) (ap (λ m. length (put_mid from m xs cells)) f.span ∙ whole ∙ c.deref_mut.ensures.len)
          ∙ ap₂ (λ m (ys : List ℕ). put_mid from m ys cells) f.span (sym f.page);
      some = c.requires.page.some;
      fits = c.requires.page.within;
      within = fits;
      len = len;
    }

pub returns : goal.returns
returns c =
    let f = found c in
    let s = c.args.self.now in
    let n = length c.args.bytes.now in
    let k = (c.args.low - s.base) / 2048 in
    let from = (c.args.low - s.base) % 2048 in
    record {
      place = laid_place s (after c) _ _ _ _ _ (laid c);
      laid = λ p l.
          laid_page s (after c) c.args.runs.now c.args.low k from c.args.policy c.args.bytes.now c.lay.new.cells (laid c)
          (λ i b. c.lay.ensures.cells i b ∙ ap₂ (λ m (ys : List ℕ). laid_byte c.args.runs.now c.args.low c.args.policy (take m (drop from ys)) c.args.bytes.now i) f.span (sym f.page))
          p l;
      judged = c.lay.ensures.tally
          ∙ ap₂ (λ m (ys : List ℕ). tally_of c.args.runs.now c.args.low (take m (drop from ys)) c.args.bytes.now n) f.span (sym f.page)
          ∙ judged_page s c.args.runs.now c.args.low k from c.args.bytes.now f.part c.requires.page.within;
    }
