use Rattle.std.proofs.Common.{◌<◌, arith, refl, length}
use Rattle.std.proofs.lemmas.List.{get_or_read}
use Rattle.slab.proofs.SlabLemmas.{Updates-with_value}
use Rattle.reassembly.proofs.Paged.{written}
use Rattle.reassembly.proofs.pages.Pages.lengthen_by.Goals as goal

pub returns-clause-changed : goal.returns-clause-changed
returns-clause-changed c =
    let s = c.args.self.now in
    let within : c.args.place < length s.keys.items = omega arith in
    let key = get_or_read s.keys.items c.args.place c.index-key.result.now within c.index-key.ensures 0 in
    written s _ c.args.place c.add_behind.new.page (record {
      keyed = c.requires.there.keyed;
      within = within;
      base = refl;
      keys = refl;
      updates = rw key (Updates-with_value s.slab _ c.add_behind.new.page (c.requires.there.keyed.present c.args.place within));
    })
