-- What contracts see of the adapters over std.
use Rattle.std.specs.Prelude.{ℕ, List, None}
use Rattle.std.specs.declared.option.Option.{Option}
use Rattle.gw_io.specs.declared.adapters.ReaderSource.{ReaderSource}
use Rattle.gw_io.specs.declared.adapters.WriterSink.{WriterSink}
use Rattle.gw_io.specs.declared.adapters.SystemClock.{SystemClock}

-- the reader of a source
abbrev pub source_reader : {R : Type 0} → ReaderSource R → R
source_reader source = source.inner

-- how often a source failed
abbrev pub source_faults : {R : Type 0} → ReaderSource R → ℕ
source_faults source = source.faults

-- the writer of a sink
abbrev pub sink_writer : {W : Type 0} → WriterSink W → W
sink_writer sink = sink.inner

-- how often a sink failed
abbrev pub sink_faults : {W : Type 0} → WriterSink W → ℕ
sink_faults sink = sink.faults

-- the moment that a clock told last, 0 before the first
abbrev pub last_told : {R : Type 0} → SystemClock R → ℕ
last_told clock = clock.last

-- the moments that a clock tells: none, since nobody can say what the system told it
abbrev pub moments_told : {R : Type 0} → SystemClock R → Option (List ℕ)
moments_told clock = None

-- nor does it have a plan
abbrev pub no_plan : {R : Type 0} → SystemClock R → Option (ℕ → ℕ)
no_plan clock = None
