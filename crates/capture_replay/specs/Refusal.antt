-- Why a replay ends before its output is whole.
use Rattle.pcap_source.specs.declared.errors.CaptureFault.TheVariants as Fault
use Rattle.pcap_source.specs.declared.errors.OpenError.{OpenError}
use Rattle.pcap_source.specs.declared.errors.OpenError.TheVariants as Open
use Rattle.pcap_source.specs.declared.errors.NextError.{NextError}
use Rattle.lane_core.specs.declared.errors.LaneError.{LaneError}
use Rattle.report_text.specs.declared.write.TextError.{TextError}
use Rattle.report_text.specs.declared.write.TextError.TheVariants as Report
use Rattle.worker_pool.specs.Refused.{read_refusal, lane_refusal as lane_failure}
use Rattle.worker_pool.specs.declared.job.PoolError.{PoolError}
use Rattle.worker_pool.specs.declared.job.PoolError.TheVariants as Pool
use Rattle.capture_replay.specs.declared.refusal.ReplayError.{ReplayError}
use Rattle.capture_replay.specs.declared.refusal.ReplayError.TheVariants.{Capture, TooMany, Heavy, ReadFault, WriteFault, NoMemory}

-- a refused global header, with the offset of what was refused
abbrev pub header_refusal : OpenError → ReplayError
header_refusal Open.BadMagic = Capture Fault.BadMagic 0
header_refusal Open.BadVersion = Capture Fault.BadVersion 4
header_refusal Open.BadLink = Capture Fault.BadLink 20
header_refusal (Open.ShortHeader n) = Capture Fault.ShortHeader n
header_refusal Open.ReadFault = ReadFault

-- output that can't be written
abbrev pub text_refusal : TextError → ReplayError
text_refusal Report.WriteFault = WriteFault
text_refusal Report.NoMemory = NoMemory

-- what ends a run early while its capture is read, however many lanes it has
abbrev pub pool_refusal : PoolError → ReplayError
pool_refusal (Pool.TooLong offset) = Capture Fault.TooLong offset
pool_refusal (Pool.TooMany offset) = TooMany offset
pool_refusal Pool.ReadFault = ReadFault
pool_refusal Pool.WriteFault = WriteFault
pool_refusal Pool.Heavy = Heavy
pool_refusal Pool.NoMemory = NoMemory

-- so a record of the capture that can't be read
abbrev pub record_refusal : NextError → ReplayError
record_refusal e = pool_refusal (read_refusal e)

-- and a lane that failed
abbrev pub lane_refusal : LaneError → ReplayError
lane_refusal e = pool_refusal (lane_failure e)
