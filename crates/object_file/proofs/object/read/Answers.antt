use Rattle.std.proofs.Common.{arith, map, sym, subst, Err}
use Rattle.std.proofs.lemmas.List.{length-map}
use Rattle.std.proofs.lemmas.Result.{err_from_is_err_and}
use Rattle.code_form.specs.Modules.{World}
use Rattle.object_file.specs.Links.{OutersBelow}
use Rattle.object_file.specs.Telling.{TellsAll}
use Rattle.object_file.specs.Validity.{HaveValidCode}
use Rattle.object_file.specs.Views.{procedure_of, contents_of}
use Rattle.object_file.proofs.OneTelling.{fields_are, fields_told, code_told, few_procedures, procedures_within, outers}
use Rattle.object_file.proofs.Worlds.{same_world}
use Rattle.object_file.proofs.object.read.Goals as goal

pub returns-in_err-parts : goal.returns-in_err-parts
returns-in_err-parts c =
    let p = err_from_is_err_and c.from_residual.result c.from_residual.ensures.1 in
    rw (p.1, p.2) (fields_told contents_of c.args.bytes.now c.in_err-parts.field-0.0 (λ i. omega (arith, c.type_inv.bytes i)) c.in_err-parts.ensures)

pub sizes-size-requires : goal.sizes-size-requires
sizes-size-requires c =
    let o = contents_of c.in_ok-parts.parts in
    let within = procedures_within c.args.bytes.now o (fields_are c.args.bytes.now o (λ i. omega (arith, c.type_inv.bytes i)) c.in_ok-parts.ensures) in
    rw c.deref.ensures.value (omega (arith, within))

pub check_all-requires-clause-size : goal.check_all-requires-clause-size
check_all-requires-clause-size c = rw c.sizes-size.ensures (rw c.deref.ensures.value)

pub check_all-requires-clause-few : goal.check_all-requires-clause-few
check_all-requires-clause-few c =
    let o = contents_of c.in_ok-parts.parts in
    let few = few_procedures c.args.bytes.now o (fields_are c.args.bytes.now o (λ i. omega (arith, c.type_inv.bytes i)) c.in_ok-parts.ensures) in
    omega (arith, few, length-map c.in_ok-parts.parts.procedures.items procedure_of)

pub check_all-requires-clause-short : goal.check_all-requires-clause-short
check_all-requires-clause-short c =
    let o = contents_of c.in_ok-parts.parts in
    let within = procedures_within c.args.bytes.now o (fields_are c.args.bytes.now o (λ i. omega (arith, c.type_inv.bytes i)) c.in_ok-parts.ensures) in
    rw c.sizes-size.ensures (rw c.deref.ensures.value (omega (arith, within)))

pub returns-in_err-check_all : goal.returns-in_err-check_all
returns-in_err-check_all c =
    let p = err_from_is_err_and c.from_residual-in_err-check_all.result c.from_residual-in_err-check_all.ensures.1 in
    let o = contents_of c.in_ok-parts.parts in
    let told = subst (λ (w : World). TellsAll w 0 (map procedure_of c.in_ok-parts.parts.procedures.items) (Err c.in_err-check_all.field-0.0)) (sym (same_world c.in_ok-parts.parts)) c.in_err-check_all.ensures in
    rw (p.1, p.2) (code_told contents_of c.args.bytes.now o c.in_err-check_all.field-0.0 (fields_are c.args.bytes.now o (λ i. omega (arith, c.type_inv.bytes i)) c.in_ok-parts.ensures) told)

pub returns : goal.returns
returns c =
    let o = contents_of c.in_ok-parts.parts in
    record {
      fields = fields_are c.args.bytes.now o (λ i. omega (arith, c.type_inv.bytes i)) c.in_ok-parts.ensures;
      code = subst (λ (w : World). HaveValidCode w 0 (map procedure_of c.in_ok-parts.parts.procedures.items)) (sym (same_world c.in_ok-parts.parts)) c.in_ok-check_all.ensures;
    }

pub check_all-requires-clause-outers : goal.check_all-requires-clause-outers
check_all-requires-clause-outers c =
    subst OutersBelow (same_world c.in_ok-parts.parts) (outers c.args.bytes.now (contents_of c.in_ok-parts.parts) (fields_are c.args.bytes.now (contents_of c.in_ok-parts.parts) (λ i. omega (arith, c.type_inv.bytes i)) c.in_ok-parts.ensures))
