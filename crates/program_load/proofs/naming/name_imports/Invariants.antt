use Rattle.std.proofs.Common.{◌≡◌, map, take}
use Rattle.m2_base.specs.Names.{with_names}
use Rattle.object_file.specs.Views.{keyed_of}
use Rattle.program_load.specs.Closure.{AreKnown, modules_in, texts_of}
use Rattle.program_load.proofs.naming.name_imports.Given as goal

abbrev pub invariant-loop-note : goal.invariant-loop-note
invariant-loop-note l = record {
  names : texts_of l.names.items ≡ with_names (texts_of l.fn.names.items) (modules_in (map keyed_of (take l.note-index l.notes)));
  known : AreKnown l.known (texts_of l.names.items);
}
