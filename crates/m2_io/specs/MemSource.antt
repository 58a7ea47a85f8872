-- What a source in memory shows.
use Rattle.std.specs.Prelude.{ℕ, List, drop}
use Rattle.m2_io.specs.declared.calls.Calls.{Calls}
use Rattle.m2_io.specs.declared.memory_source.MemSource.{MemSource}

-- the bytes that are left
abbrev pub left_of : MemSource → List ℕ
left_of source = drop source.read source.bytes.items

-- its calls
abbrev pub calls_of : MemSource → Calls
calls_of source = source.calls

-- how often a read failed
abbrev pub faults_of : MemSource → ℕ
faults_of source = source.faults
