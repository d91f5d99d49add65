-- By the first four bytes.
use Rattle.std.proofs.Common.{◌≡◌, ◌++◌, true, false, ap, ◌∙◌}
use Rattle.pcapng_source.specs.Fields.{is_section}
use Rattle.pcapng_source.specs.Blocks.{classic_header}
use Rattle.pcapng_source.proofs.Bodies.{begins, begins-plain}
use Rattle.pcapng_source.proofs.reader.Reader.begin.Goals as goal

pub returns-then-begins_section : goal.returns-then-begins_section
unfolding classic_header
returns-then-begins_section c =
    let r = c.args.self.now in
    let head : c.put.new.self ≡ r.word = c.put.ensures.bytes ∙ ap (λ l. l ++ c.as_slice-word.result.now) c.clear.ensures ∙ c.as_slice-word.ensures.bytes in
    let made : c.of-self.result ≡ classic_header = c.of-self.ensures in
    let section : is_section r.word ≡ true = cc in
    rw (head, made) (begins r c.requires.stage c.requires.made c.requires.word section)

pub returns-else-begins_section : goal.returns-else-begins_section
returns-else-begins_section c =
    let r = c.args.self.now in
    let made : c.of-self-else-begins_section.result ≡ r.word = c.of-self-else-begins_section.ensures ∙ c.as_slice-word.ensures.bytes in
    let section : is_section r.word ≡ false = cc in
    rw (c.clear.ensures, made) (begins-plain r c.requires.stage c.requires.made c.requires.word section)
