-- Not of the headline. What a source, a sink and a shelf in memory hold.
use Rattle.std.specs.Prelude.{◌≡◌, ℕ, List, Result}
use Rattle.std.specs.declared.option.Option.{Option}
use Rattle.mos_bytes.specs.Causes.{risen}
use Rattle.mos_bytes.specs.Fetches.{content_of}
use Rattle.mos_bytes.specs.Outside.{CountsFault}
use Rattle.mos_bytes.specs.declared.failed.Failed.{Failed}

-- a call counts itself, and a fault where it fails
pub record CountsCall {T : Type 0} (before after faults_before faults_after : ℕ) (result : Result T Failed) : Type 0 where
  pub calls : after ≡ risen before
  pub faults : CountsFault faults_before faults_after result

-- what no call of such a source changes: the most bytes that a read gives, and the calls that are to fail
pub record SourceLasting : Type 0 where
  pub piece : ℕ
  pub fails : List ℕ

-- a source: the bytes left, the most bytes that a read gives, the calls that are to fail (numbered from 0), the number of the
-- next call, the faults so far
pub record SourceState : Type 0 where
  pub left : List ℕ
  pub piece : ℕ
  pub fails : List ℕ
  pub calls : ℕ
  pub faults : ℕ

-- what no call of such a sink changes: the calls that are to fail, and how many bytes it has room for in all
pub record SinkLasting : Type 0 where
  pub fails : List ℕ
  pub whole : ℕ

-- a sink: the bytes taken, how many more have room, the calls that are to fail (numbered from 0), the number of the
-- next call, the faults so far
pub record SinkState : Type 0 where
  pub taken : List ℕ
  pub room : ℕ
  pub fails : List ℕ
  pub calls : ℕ
  pub faults : ℕ

-- a shelf: its names, the contents beside them, the calls that are to fail (numbered from 0), the number of the next call, the faults so far
pub record ShelfState : Type 0 where
  pub names : List (List ℕ)
  pub contents : List (List ℕ)
  pub fails : List ℕ
  pub calls : ℕ
  pub faults : ℕ

-- what it holds under a name
abbrev pub shelf_content : ShelfState → List ℕ → Option (List ℕ)
shelf_content shelf name = content_of shelf.names shelf.contents name
