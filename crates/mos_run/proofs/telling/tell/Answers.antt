use Rattle.mos_run.specs.Refusal.{refusal_text}
use Rattle.mos_run.proofs.telling.tell.Goals as goal

pub returns-in-ScriptTooLong-clause-text : goal.returns-in-ScriptTooLong-clause-text
unfolding refusal_text
returns-in-ScriptTooLong-clause-text g c = rw c.in-ScriptTooLong.is c.write_text-in-ScriptTooLong.ensures.text

pub returns-in-Heavy-clause-text : goal.returns-in-Heavy-clause-text
unfolding refusal_text
returns-in-Heavy-clause-text g c = rw c.in-Heavy.is c.write_text-in-Heavy.ensures.text

pub returns-in-ReadFault-clause-text : goal.returns-in-ReadFault-clause-text
unfolding refusal_text
returns-in-ReadFault-clause-text g c = rw c.in-ReadFault.is c.write_text-in-ReadFault.ensures.text

pub returns-in-WriteFault-clause-text : goal.returns-in-WriteFault-clause-text
unfolding refusal_text
returns-in-WriteFault-clause-text g c = rw c.in-WriteFault.is c.write_text-in-WriteFault.ensures.text

pub returns-in-NoMemory-clause-text : goal.returns-in-NoMemory-clause-text
unfolding refusal_text
returns-in-NoMemory-clause-text g c = rw c.in-NoMemory.is c.write_text-in-NoMemory.ensures.text
