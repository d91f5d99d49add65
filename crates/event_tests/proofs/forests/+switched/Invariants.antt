use Rattle.std.proofs.Common.{length}
use Rattle.event_tests.proofs.forests.+switched.Given as goal

abbrev pub decreases-switched : goal.decreases-switched
decreases-switched l = length l.regs.now
