-- By what the head of the option says.
use Rattle.std.proofs.Common.{subst}
use Rattle.pcapng_source.specs.Found.{FoundIs}
use Rattle.pcapng_source.specs.declared.options.Found.TheVariants.{Nothing, Told, Other}
use Rattle.pcapng_source.proofs.Bodies.{ends-options, passes, tells}
use Rattle.pcapng_source.proofs.reader.Reader.take_option.Goals as goal

pub returns-in-Nothing : goal.returns-in-Nothing
returns-in-Nothing c =
    let r = c.args.self.now in
    let judged = rw (c.order.ensures, c.as_slice.ensures.bytes) at c.judge_option.ensures in
    let found : FoundIs r.section.order r.word r.options Nothing = subst (FoundIs r.section.order r.word r.options) c.in-Nothing.is judged in
    rw c.resolve.ensures (ends-options r c.requires.stage c.requires.word c.requires.fits found)

pub returns-in-Told : goal.returns-in-Told
returns-in-Told c =
    let r = c.args.self.now in
    let judged = rw (c.order.ensures, c.as_slice.ensures.bytes) at c.judge_option.ensures in
    let found : FoundIs r.section.order r.word r.options Told = subst (FoundIs r.section.order r.word r.options) c.in-Told.is judged in
    let option = found.1 in
    rw c.clear.ensures (tells r c.requires.stage c.requires.word c.requires.fits found.0 option.some option.size option.told)

pub returns-in-Other : goal.returns-in-Other
returns-in-Other c =
    let r = c.args.self.now in
    let words = c.in-Other.words in
    let judged = rw (c.order.ensures, c.as_slice.ensures.bytes) at c.judge_option.ensures in
    let found : FoundIs r.section.order r.word r.options (Other words) = subst (FoundIs r.section.order r.word r.options) c.in-Other.is judged in
    let option = found.1 in
    rw c.from.ensures (passes r words c.requires.stage c.requires.word c.requires.fits found.0 option.some option.size option.told)
