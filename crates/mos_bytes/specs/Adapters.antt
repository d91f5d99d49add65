-- Not of the headline. What the adapters over std tell: their faults, and what their reader or writer tells.
use Rattle.std.specs.Prelude.{ℕ, List, slice_range}
use Rattle.std.specs.declared.option.Option.{Option}
use Rattle.std.specs.Io.KnownBytes.{prepend_known}
use Rattle.mos_bytes.specs.declared.folder_shelf.FolderShelf.{FolderShelf}
use Rattle.mos_bytes.specs.declared.read_source.ReadSource.{ReadSource}
use Rattle.mos_bytes.specs.declared.write_sink.WriteSink.{WriteSink}

-- how often a source over a reader has failed
abbrev pub source_faults : {R : Type 0} → ReadSource R → ℕ
source_faults s = s.faults

-- how often a sink over a writer has failed
abbrev pub sink_faults : {W : Type 0} → WriteSink W → ℕ
sink_faults s = s.faults

-- how often a shelf over a folder has failed
abbrev pub shelf_faults : {R : Type 0} → FolderShelf R → ℕ
shelf_faults s = s.faults

-- how many bytes the last fetch of such a shelf got
abbrev pub shelf_came : {R : Type 0} → FolderShelf R → ℕ
shelf_came s = s.came

-- the reader
abbrev pub reader_of : {R : Type 0} → ReadSource R → R
reader_of s = s.inner

-- the bytes that were read ahead
abbrev pub ahead_of : {R : Type 0} → ReadSource R → List ℕ
ahead_of s = slice_range s.buffer s.start s.end

-- those, and then what the reader has left, where it tells that
abbrev pub source_left : {R : Type 0} → (R → Option (List ℕ)) → ReadSource R → Option (List ℕ)
source_left remaining s = prepend_known (ahead_of s) (remaining s.inner)

-- what the writer holds, where it tells that
abbrev pub sink_taken : {W : Type 0} → (W → Option (List ℕ)) → WriteSink W → Option (List ℕ)
sink_taken contents s = contents s.inner
