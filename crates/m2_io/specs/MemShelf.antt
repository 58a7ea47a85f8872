-- What a shelf in memory shows.
use Rattle.std.specs.Prelude.{ℕ}
use Rattle.m2_io.specs.Files.{Files}
use Rattle.m2_io.specs.FilesOf.{files_of}
use Rattle.m2_io.specs.declared.calls.Calls.{Calls}
use Rattle.m2_io.specs.declared.memory_shelf.MemShelf.{MemShelf}

-- the texts that it keeps
abbrev pub texts_of : MemShelf → Files
texts_of shelf = files_of shelf.files

-- its calls
abbrev pub calls_of : MemShelf → Calls
calls_of shelf = shelf.calls

-- how many bytes a put that fails leaves
abbrev pub keep_of : MemShelf → ℕ
keep_of shelf = shelf.keep

-- how often get failed
abbrev pub faults_of : MemShelf → ℕ
faults_of shelf = shelf.faults

-- how often put failed
abbrev pub put_faults_of : MemShelf → ℕ
put_faults_of shelf = shelf.put_faults
