-- What compiling leaves of the files, however it ends.
use Rattle.std.proofs.Common.{◌≡◌, ◌∙◌, inr, ℕ, List, Option, Result, Ok, Err, ap, arith, length, refl, sym, IfOk}
use Rattle.std.specs.Prelude.{IsErrOf}
use Rattle.std.proofs.lemmas.List.{take_all}
use Rattle.m2_io.specs.Files.{Files, with_file}
use Rattle.object_file.specs.Contents.{object_bytes}
use Rattle.module_outcome.specs.Decisions.{Decides}
use Rattle.module_outcome.specs.Outcome.{Compiles, KeepsButObject, Leaves, Outcome, as_decided, keeps_all, puts_part}
use Rattle.module_outcome.specs.Verdicts.{Decision, files_after, limited, listed, no_text, object, object_name}
use Rattle.module_outcome.specs.declared.answer.Answer.{Answer}
use Rattle.module_outcome.specs.declared.answer.Stop.TheVariants as stop
use Rattle.module_outcome.specs.declared.answer.Stop.{Stop}

module _ (name : List ℕ) (holds after : Option Files) where
  decided_keeps : (d : Decision) → Decides holds name d → after ≡ files_after name d holds → KeepsButObject name holds after
  decided_keeps no_text h e = keeps_all e
  decided_keeps (limited limit) h e = keeps_all e
  decided_keeps (listed unit diags) h e = keeps_all e
  decided_keeps (object contents) h e =
      let bytes = object_bytes contents in
      puts_part contents h (inr (length bytes, e ∙ ap (with_file holds (object_name name)) (sym (take_all (length bytes) bytes (omega arith)))))

  given_keeps : (outcome : Outcome) → Compiles holds name outcome → after ≡ outcome.files → KeepsButObject name holds after
  given_keeps _ (as_decided d h) e = decided_keeps d h e

  pub compiling_keeps : (old new : Option (List ℕ)) (r : Result Answer Stop) → IfOk r (λ answer. Leaves (Compiles holds name) answer after old new) → (IsErrOf r stop.Read → after ≡ holds) → (IsErrOf r stop.Memory → after ≡ holds)
      → (IsErrOf r stop.Write → KeepsButObject name holds after) → KeepsButObject name holds after
  compiling_keeps old new (Ok answer) leaves unread memory part = given_keeps leaves.outcome leaves.is_given leaves.files_are
  compiling_keeps old new (Err stop.Read) leaves unread memory part = keeps_all (unread refl)
  compiling_keeps old new (Err stop.Write) leaves unread memory part = part refl
  compiling_keeps old new (Err stop.Memory) leaves unread memory part = keeps_all (memory refl)
