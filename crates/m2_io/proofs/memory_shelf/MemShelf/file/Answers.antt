use Rattle.std.proofs.Common.{◌∙◌, ap, sym, Some}
use Rattle.std.specs.Prelude.{option_map}
use Rattle.m2_io.proofs.FilesLemmas.{get-files_of}
use Rattle.m2_io.proofs.memory_shelf.MemShelf.file.Goals as goal

pub returns-in-Some : goal.returns-in-Some
returns-in-Some c = ap Some c.as_slice.ensures.value ∙ ap (option_map (λ text. text.items)) c.in-Some.ensures.value ∙ sym (get-files_of c.args.self.now.files c.args.name.now)

pub returns-in-None : goal.returns-in-None
returns-in-None c = ap (option_map (λ text. text.items)) c.in-None.ensures.value ∙ sym (get-files_of c.args.self.now.files c.args.name.now)
