use Rattle.std.proofs.Common.{◌≡◌, ◌∙◌, ◌+◌, Some, None, ap, drop, sym}
use Rattle.std.specs.Prelude.{option_map}
use Rattle.m2_link.specs.Refusals.{is_missing, first_in}
use Rattle.m2_link.proofs.Firsts.{import_here, import_later, missing_of, next_object}
use Rattle.m2_link.proofs.imports.first_missing.Goals as goal

pub returns-in-Some : goal.returns-in-Some
returns-in-Some c =
    let os = c.args.objects.now in
    let k = c.loop-object.object-index in
    let o = c.object-item.result in
    let found : first_in (λ i. is_missing os i.definition) o.imports ≡ Some c.in-Some.name.now = sym (missing_of c.args.directory.now os o.imports c.requires.directory) ∙ sym c.missing_in.ensures ∙ ap (option_map _) c.in-Some.is in
    sym (c.loop-object.invariant ∙ import_here (λ p i. is_missing os i.definition) (drop k os) (drop (k + 1) os) o c.in-Some.name.now (next_object os k o c.loop-object-test.true c.object-item.is) found)

pub loop-object-preserved : goal.loop-object-preserved
loop-object-preserved c =
    let os = c.args.objects.now in
    let k = c.loop-object.object-index in
    let o = c.object-item.result in
    let none : first_in (λ i. is_missing os i.definition) o.imports ≡ None = sym (missing_of c.args.directory.now os o.imports c.requires.directory) ∙ sym c.missing_in.ensures ∙ ap (option_map _) c.in_default.is in
    c.loop-object.invariant ∙ import_later (λ p i. is_missing os i.definition) (drop k os) (drop (k + 1) os) o (next_object os k o c.loop-object-test.true c.object-item.is) none
