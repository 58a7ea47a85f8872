use Rattle.std.proofs.Common.{◌≡◌, ◌∙◌, ℕ, true, List, [], ◌∷◌, ap, map, subst, sym, take}
use Rattle.m2_base.specs.Names.{with_names}
use Rattle.object_file.specs.Contents.{KeyedImport}
use Rattle.object_file.specs.ObjectFormat.{is_identifier}
use Rattle.object_file.specs.Views.{keyed_of}
use Rattle.object_file.specs.declared.parts.ImportNote.{ImportNote}
use Rattle.program_load.specs.Closure.{modules_in, texts_of}
use Rattle.program_load.proofs.NamedOnce.{all_at, one_more}
use Rattle.program_load.proofs.naming.name_imports.Goals as goal

pub name_import-requires-clause-known : goal.name_import-requires-clause-known
name_import-requires-clause-known c = c.loop-note.invariant.known

pub name_import-requires-clause-identifier : goal.name_import-requires-clause-identifier
name_import-requires-clause-identifier c =
    subst (λ (n : ImportNote). is_identifier n.name.items ≡ true) (sym c.note-item.is)
    (all_at (λ (i : KeyedImport). is_identifier i.definition.name ≡ true) keyed_of c.args.notes.now c.loop-note.note-index c.note-item.result c.loop-note-test.true c.requires.identifiers)

pub loop-note-preserved : goal.loop-note-preserved
loop-note-preserved c =
    let first = texts_of c.args.names.now.items in
    let notes = c.args.notes.now in
    let i = c.loop-note.note-index in
    record {
      names = c.in_ok-name_import.ensures.named
          ∙ ap (λ (x : List (List ℕ)). with_names x (modules_in (keyed_of c.note-item.result ∷ []))) c.loop-note.invariant.names
          ∙ ap (λ (n : ImportNote). with_names (with_names first (modules_in (map keyed_of (take i notes)))) (modules_in (keyed_of n ∷ []))) c.note-item.is
          ∙ sym (one_more keyed_of first notes i c.note-item.result c.loop-note-test.true);
      known = c.in_ok-name_import.ensures.known;
    }
