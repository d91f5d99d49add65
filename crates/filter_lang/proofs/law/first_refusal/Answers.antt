use Rattle.filter_lang.specs.Grammar.{filter_begin}
use Rattle.filter_lang.proofs.Refusals.{some_goes_on, none_goes_on, filter-refused}
use Rattle.filter_lang.proofs.law.first_refusal.Goals as goal

pub returns-clause-goes_on : goal.returns-clause-goes_on
returns-clause-goes_on c = λ before p e. some_goes_on before filter_begin p e

pub returns-clause-none_goes_on : goal.returns-clause-none_goes_on
returns-clause-none_goes_on c = λ before p t refusal e stops after. none_goes_on before filter_begin p t refusal e stops after

pub returns-clause-refused : goal.returns-clause-refused
returns-clause-refused c = λ text e r. filter-refused text e r
