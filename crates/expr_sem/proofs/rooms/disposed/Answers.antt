use Rattle.std.proofs.Common.{◌∙◌, ◌∷◌, [], Bool, ap, sym, if◌then◌else◌}
use Rattle.std.specs.Prelude.{pos}
use Rattle.m2_base.specs.Gives.{gives}
use Rattle.code_form.specs.declared.instr.Instr.TheVariants.{Push, Store}
use Rattle.const_eval.proofs.TypesThere.{standard_there}
use Rattle.block_code.specs.Coded.{coded, in_error}
use Rattle.expr_sem.specs.Fragments.{part}
use Rattle.block_code.specs.Parts.{plain, ◌⨟◌}
use Rattle.block_code.specs.StandardProcedures.{no_value}
use Rattle.expr_sem.proofs.Operating.{described}
use Rattle.expr_sem.proofs.Selecting.{coding_full, error_alone}
use Rattle.expr_sem.proofs.Sequencing.{behind}
use Rattle.expr_sem.proofs.rooms.disposed.Goals as goal

pub returns-then-is_bad : goal.returns-then-is_bad
returns-then-is_bad c state notes site suits =
    error_alone state notes _ site c.in_error.result _ c.in_error.ensures.told c.in_error.ensures.there
    (λ k. ap (λ (b : Bool). gives (if b then in_error else coded no_value (part c.args.fragments.now.nodes.items c.args.x.code ⨟ plain (Push (pos 0) ∷ Store ∷ [])))) (sym c.if-is_bad.true ∙ c.is_bad.ensures))

pub returns-in_err-stored : goal.returns-in_err-stored
returns-in_err-stored c state notes site suits = coding_full state notes site c.from_residual.result c.from_residual.ensures.0 c.in_err-stored.ensures

pub returns : goal.returns
returns c state notes site suits =
    let made = behind c.then.result c.args.x.code c.requires c.in_ok-stored.ensures c.then.ensures.made in
    described _ (c.answered_as.ensures state notes site _ _ _ (standard_there suits.around 10) made)
    (λ k. ap (λ (b : Bool). gives (if b then in_error else coded no_value (part c.args.fragments.now.nodes.items c.args.x.code ⨟ plain (Push (pos 0) ∷ Store ∷ [])))) (sym c.if-is_bad.false ∙ c.is_bad.ensures))
