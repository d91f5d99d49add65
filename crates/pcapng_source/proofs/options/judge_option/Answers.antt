-- No option, one past the block, or the last one.
use Rattle.std.proofs.Common.{◌≡◌, ◌+◌, ◌*◌, ◌<◌, suc, ◌++◌, length, false, ap, ◌∙◌, arith}
use Rattle.pcapng_source.specs.Fields.{is_resolution, option_size, resolution_in}
use Rattle.pcapng_source.proofs.Resolutions.{past-code, past-size, resolution-last, resolution-past}
use Rattle.pcapng_source.proofs.options.judge_option.Goals as goal

pub returns-then-u16_in-eq0 : goal.returns-then-u16_in-eq0
returns-then-u16_in-eq0 c = λ area sized.
    resolution-past c.args.order c.args.word.now area c.requires (4 * c.args.left + 4)
    (past-code c.args.order c.args.word.now area c.requires cc)

pub returns-then-words-left : goal.returns-then-words-left
returns-then-words-left c = λ area sized.
    let long : length area + 4 < option_size c.args.order c.args.word.now = omega (arith, c.u16_at.ensures, c.from.ensures) in
    resolution-past c.args.order c.args.word.now area c.requires (4 * c.args.left + 4)
    (past-size c.args.order c.args.word.now area c.requires long)

pub returns-then-words-left-2 : goal.returns-then-words-left-2
returns-then-words-left-2 c = λ area sized.
    let all : option_size c.args.order c.args.word.now ≡ length area + 4 = omega (arith, c.u16_at.ensures, c.from.ensures) in
    let other : is_resolution c.args.order c.args.word.now ≡ false = cc in
    ap (λ n. resolution_in c.args.order n (c.args.word.now ++ area)) (let it : 4 * c.args.left + 4 ≡ suc (4 * c.args.left + 3) = omega arith in it)
    ∙ resolution-last c.args.order c.args.word.now area c.requires (4 * c.args.left + 3) other (omega (arith, c.u16_in.ensures)) all
