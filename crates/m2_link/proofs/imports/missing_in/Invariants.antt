use Rattle.std.proofs.Common.{◌≡◌, drop}
use Rattle.object_file.specs.Directories.{found_in}
use Rattle.m2_link.specs.Refusals.{lacks, first_in}
use Rattle.m2_link.proofs.imports.missing_in.Given as goal

abbrev pub invariant-loop-note : goal.invariant-loop-note
invariant-loop-note l = first_in (λ i. lacks (found_in l.directory i.definition.name) i.definition) l.object.imports ≡ first_in (λ i. lacks (found_in l.directory i.definition.name) i.definition) (drop l.note-index l.object.imports)
