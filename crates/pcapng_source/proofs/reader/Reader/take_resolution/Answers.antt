-- Behind the value of the option.
use Rattle.std.proofs.Common.{refl}
use Rattle.pcapng_source.proofs.Bodies.{resolves}
use Rattle.pcapng_source.proofs.reader.Reader.take_resolution.Goals as goal

pub returns : goal.returns
returns c =
    let r = c.args.self.now in
    rw (c.resolve.ensures, c.as_slice-word.ensures.bytes) (resolves r _ c.requires.stage c.requires.word c.requires.fits refl)
