-- In a body.
use Rattle.std.proofs.Common.{◌≤◌, min, subst, arith}
use Rattle.pcapng_source.specs.Reading.{direct_at}
use Rattle.pcapng_source.proofs.Steps.{gives-body}
use Rattle.pcapng_source.proofs.reader.Reader.gave.Goals as goal

pub overflow_sub-self : goal.overflow_sub-self
overflow_sub-self c =
    let few : c.args.count ≤ min c.args.count c.args.self.now.owed = subst (λ s. c.args.count ≤ direct_at s c.args.self.now c.args.count) c.in-Body.is c.requires.few in
    omega arith

pub returns-in-Body-clause-rest : goal.returns-in-Body-clause-rest
returns-in-Body-clause-rest c = λ front left sized.
    let few : c.args.count ≤ min c.args.count c.args.self.now.owed = subst (λ s. c.args.count ≤ direct_at s c.args.self.now c.args.count) c.in-Body.is c.requires.few in
    gives-body c.args.self.now c.args.count front left c.in-Body.is c.requires.bare.made (omega arith) sized
