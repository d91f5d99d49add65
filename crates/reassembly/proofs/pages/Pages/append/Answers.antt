use Rattle.std.proofs.Common.{◌-◌, ◌/◌, ◌%◌, refl, rules}
use Rattle.reassembly.proofs.Appended.{bytes_added}
use Rattle.reassembly.proofs.pages.Pages.append.Goals as goal

pub returns-then-goes_on-clause-bytes : goal.returns-then-goes_on-clause-bytes
returns-then-goes_on-clause-bytes c =
    let s = c.args.self.now in
    bytes_added c.lengthen_by.result s c.lengthen_by.new.self c.args.low ((c.args.low - s.base) / 2048) ((c.args.low - s.base) % 2048) c.args.bytes.now
    (record { base = c.requires.room.from; place = refl; offset = refl }) c.lengthen_by.ensures.changed (search rules) c.lengthen_by.ensures.page (search rules)
