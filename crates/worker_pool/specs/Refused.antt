-- Not of the headline. Why a run on several lanes ends early, by what ended it.
use Rattle.pcap_source.specs.declared.errors.NextError.{NextError}
use Rattle.pcap_source.specs.declared.errors.NextError.TheVariants as Next
use Rattle.lane_core.specs.declared.errors.LaneError.{LaneError}
use Rattle.lane_core.specs.declared.errors.LaneError.TheVariants as Lane
use Rattle.worker_pool.specs.declared.job.PoolError.{PoolError}
use Rattle.worker_pool.specs.declared.job.PoolError.TheVariants.{TooLong, TooMany, ReadFault, Heavy, NoMemory}

-- a record of the capture that can't be read
abbrev pub read_refusal : NextError → PoolError
read_refusal (Next.TooLong offset) = TooLong offset
read_refusal (Next.TooMany offset) = TooMany offset
read_refusal Next.ReadFault = ReadFault
read_refusal Next.NoMemory = NoMemory

-- a lane that failed
abbrev pub lane_refusal : LaneError → PoolError
lane_refusal Lane.NoMemory = NoMemory
lane_refusal Lane.Heavy = Heavy
