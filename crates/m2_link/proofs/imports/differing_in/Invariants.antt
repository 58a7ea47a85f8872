use Rattle.std.proofs.Common.{◌≡◌, drop}
use Rattle.m2_link.specs.Refusals.{differs, first_in}
use Rattle.m2_link.proofs.imports.differing_in.Given as goal

abbrev pub invariant-loop-note : goal.invariant-loop-note
invariant-loop-note l = first_in (differs l.objects l.object) l.object.imports ≡ first_in (differs l.objects l.object) (drop l.note-index l.object.imports)
