-- What the threads of a run share may be shared.
use denote.RattleType.{RattleType}
use denote.Bor.{Bor}
use denote.Param.Members.{Mut}
use denote.Struct.Field.{bool-field}
use denote.Param.Send.{IsSync, sendable}
use Rattle.std.proofs.Crossing.{crosses}
use Rattle.filter_lang.proofs.term.Term.TheLaws.TheKnot as term
use Rattle.filter_lang.proofs.term.Sum.TheSendSync as sum
use Rattle.filter_lang.proofs.term.Op.TheSendSync as op
use Rattle.reassembly.proofs.answers.Policy.TheSendSync as policy
use Rattle.control_script.specs.contracts.script.Script as script
use Rattle.native_filters.specs.declared.facts.Facts.{Facts}
use Rattle.native_filters.specs.contracts.book.NativeBook as book
use Rattle.std.specs.contracts.sync.atomic.AtomicBool as flag

pub script_sync : IsSync script.the_row
script_sync = search (sendable, crosses, term.sync-Term, sum.the_field_sync, op.the_field_sync, policy.the_field_sync) depth 60 fits 100000

pub book_sync : (T : RattleType) (m : Mut T.Denot (Bor Facts × Unit {0}) bool-field.Value) → IsSync T → IsSync (book.the_row T m)
book_sync T m y = search sendable depth 20

-- a flag
pub flag_sync : IsSync flag.the_row
flag_sync = search (sendable, crosses) depth 40
