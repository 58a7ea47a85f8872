use Rattle.std.proofs.Common.{◌≡◌, ◌∙◌, Some, ap, rules, subst, sym}
use Rattle.std.proofs.lemmas.Option.{get_or_from_slice_get}
use Rattle.object_file.specs.Contents.{Contents}
use Rattle.object_file.specs.Directories.{IsTwice}
use Rattle.object_file.specs.declared.directory.DirectoryFault.{DirectoryFault}
use Rattle.object_file.specs.declared.directory.DirectoryFault.TheVariants.{Twice}
use Rattle.m2_link.proofs.Accepted.{refuses_twice}
use Rattle.m2_link.proofs.linking.check.Goals as goal

pub returns-in_ok-to_vec-in-Err-Twice-clause-refused : goal.returns-in_ok-to_vec-in-Err-Twice-clause-refused
returns-in_ok-to_vec-in-Err-Twice-clause-refused c =
    let os = c.args.objects.now in
    let t : IsTwice (Twice c.in-Err-Twice.k) os = subst (λ (e : DirectoryFault). IsTwice e os) c.in-Err-Twice.field-0-is c.in-Err-Twice.ensures.twice in
    let o = c.index-objects-k.result in
    let same : o ≡ t.0 = c.index-objects-k.is ∙ get_or_from_slice_get os c.in-Err-Twice.k t.0 o t.1 in
    let name : c.in_ok-to_vec-in-Err-Twice.field-0.items ≡ c.name.result.now = search rules in
    refuses_twice os c.in_ok-to_vec-in-Err-Twice.field-0.items (t.2 ∙ ap (λ (p : Contents). Some p.name) (sym same) ∙ ap Some (sym c.name.ensures) ∙ ap Some (sym name))
