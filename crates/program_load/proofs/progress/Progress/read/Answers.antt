use Rattle.std.proofs.Common.{◌<◌, ◌≤◌, IsSome, arith, length, subst, sym}
use Rattle.std.specs.Prelude.{IfSome}
use Rattle.std.proofs.lemmas.Result.{err_from_is_err_and}
use Rattle.program_load.specs.Answers.{told}
use Rattle.program_load.specs.Closure.{Progress, next_module, texts_of}
use Rattle.program_load.specs.Loads.{Blocks, limited, objects, too_many}
use Rattle.program_load.proofs.Fronts.{blocks_so}
use Rattle.program_load.proofs.ImportNames.{AreNamed, imports_named}
use Rattle.program_load.proofs.NamedOnce.{asked_within}
use Rattle.program_load.proofs.progress.Progress.read.Goals as goal

pub returns-then-len-ge-MOST_OBJECTS-clause-fault : goal.returns-then-len-ge-MOST_OBJECTS-clause-fault
returns-then-len-ge-MOST_OBJECTS-clause-fault c =
    let many : 256 ≤ length c.self.inside.objects.items = omega (arith, c.if-len-ge-MOST_OBJECTS.true, c.len.ensures, c.self.inside.objects.ok.0) in
    subst (λ (s : Progress). Blocks s c.args.name.now c.args.bytes.now (limited objects)) c.self.view_is (too_many many)

pub returns-in_err-object-clause-fault : goal.returns-in_err-object-clause-fault
returns-in_err-object-clause-fault c =
    let p : Progress = record { names = texts_of c.self.inside.names.items; objects = c.self.inside.objects.items; asked = c.self.inside.asked } in
    let few : length c.self.inside.objects.items < 256 = omega (arith, c.if-len-ge-MOST_OBJECTS.false, c.len.ensures, c.self.inside.objects.ok.0) in
    let e = err_from_is_err_and c.from_residual.result c.from_residual.ensures.1 in
    rw (e.1, e.2) (subst (λ (s : Progress). IfSome (told c.in_err-object.field-0.0) (Blocks s c.args.name.now c.args.bytes.now)) c.self.view_is
    (blocks_so p c.args.name.now c.args.bytes.now c.in_err-object.field-0.0 few c.in_err-object.ensures.fault))

pub name_imports-requires-clause-identifiers : goal.name_imports-requires-clause-identifiers
name_imports-requires-clause-identifiers c = subst AreNamed (sym c.imports.ensures.imports) (imports_named c.in_ok-object.object c.validity.ensures)

pub overflow_add-self : goal.overflow_add-self
overflow_add-self c =
    let names = c.self.inside.names in
    let within = asked_within names.items c.self.inside.asked (subst (λ (s : Progress). IsSome (next_module s)) (sym c.self.view_is) c.requires) in
    omega (arith, within, names.ok.0, names.ok.1, names.small)
