-- What dumping a module prints: the text of its object, or the line that says why there is none.
use Rattle.std.specs.Prelude.{ℕ, List, Option}
use Rattle.m2_io.specs.Files.{Files}
use Rattle.object_file.specs.Contents.{Contents}
use Rattle.object_text.specs.Text.{IsText}
use Rattle.program_load.specs.Closure.{start}
use Rattle.program_load.specs.Loads.{Failure, Finds, Stops}
use Rattle.object_commands.specs.Failures.{failure_answer, failure_text, line}
use Rattle.object_commands.specs.declared.answer.Answer.{Answer}
use Rattle.object_commands.specs.declared.answer.Answer.TheVariants.{Done}

pub data Dumps (holds : Option Files) (name : List ℕ) : (printed : List ℕ) → Answer → Type 0 where
  dumped : (o : Contents) (text : List ℕ) → Finds holds name o → IsText o text → Dumps holds name text Done
  failed : (f : Failure) → Stops holds (start name) name f
      → Dumps holds name (line (failure_text name f)) (failure_answer f)
