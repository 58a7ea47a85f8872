use Rattle.std.proofs.Common.{◌≡◌, ◌∙◌, ℕ, List, ◌++◌, Result, Ok, Err, append_assoc}
use Rattle.std.specs.Prelude.{OnOk}
use Rattle.object_file.specs.Contents.{export_bytes}
use Rattle.object_file.proofs.writing.export.Goals as goal

-- one after another
three : {T E : Type 0} (r : Result T E) (old a b c : List ℕ) {first second : List ℕ} (new : List ℕ) → first ≡ old ++ a → second ≡ first ++ b → OnOk r (new ≡ second ++ c) → OnOk r (new ≡ old ++ (a ++ b ++ c))
three (Ok t) old a b c new p q is = is ∙ rw (q, p) (simp append_assoc)
three (Err e) old a b c new p q is = tt

pub returns : goal.returns
unfolding export_bytes
returns c = three c.number-3.result _ _ _ _ _ c.in_ok-number.ensures c.in_ok-number-2.ensures c.number-3.ensures
