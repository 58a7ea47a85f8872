use Rattle.std.proofs.Common.{◌≡◌, ◌∙◌, ap, rules, string_bytes}
use Rattle.std.specs.FinMap.{insert}
use Rattle.m2_io.specs.FilesOf.{files_of}
use Rattle.m2_io.proofs.FilesLemmas.{files_of-insert}
use Rattle.m2_io.proofs.memory_shelf.store.Goals as goal

pub returns-clause-ok : goal.returns-clause-ok
returns-clause-ok c =
    let text : c.in_ok-text.text.items ≡ c.args.bytes.now = search rules in
    let name : string_bytes c.in_ok-name.name ≡ c.args.name.now = search rules in
    files_of-insert c.args.files.now c.insert.new.self (string_bytes c.in_ok-name.name) c.in_ok-text.text c.in_ok-insert.ensures.updates
    ∙ ap (λ n. insert (files_of c.args.files.now) n c.in_ok-text.text.items) name
    ∙ ap (λ t. insert (files_of c.args.files.now) c.args.name.now t) text
