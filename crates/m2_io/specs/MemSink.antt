-- What a sink in memory shows.
use Rattle.std.specs.Prelude.{◌-◌, ℕ, List, length}
use Rattle.m2_io.specs.declared.calls.Calls.{Calls}
use Rattle.m2_io.specs.declared.memory_sink.MemSink.{MemSink}

-- the bytes that were written
abbrev pub bytes_of : MemSink → List ℕ
bytes_of sink = sink.bytes.items

-- its calls
abbrev pub calls_of : MemSink → Calls
calls_of sink = sink.calls

-- how many bytes one write takes at most
abbrev pub most_of : MemSink → ℕ
most_of sink = sink.most

-- how many bytes all writes take at most
abbrev pub room_of : MemSink → ℕ
room_of sink = sink.room

-- how many bytes there is still room for
abbrev pub free_room : MemSink → ℕ
free_room sink = room_of sink - length (bytes_of sink)

-- how often a write failed
abbrev pub faults_of : MemSink → ℕ
faults_of sink = sink.faults
