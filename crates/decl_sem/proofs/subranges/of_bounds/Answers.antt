use Rattle.std.proofs.Common.{◌∙◌, Option, None, Some, ap, sym}
use Rattle.m2_base.specs.Statics.Subranges.{of_bounds}
use Rattle.m2_base.specs.declared.operands.Operand.{Operand}
use Rattle.const_eval.proofs.Analysing.{value_alone}
use Rattle.type_rules.specs.Sites.{context_of}
use Rattle.decl_sem.specs.Bounds.{kept}
use Rattle.decl_sem.proofs.SubrangeRows.{AreOptionBounds}
use Rattle.decl_sem.proofs.subranges.of_bounds.Goals as goal

pub returns-in_default : goal.returns-in_default
returns-in_default g c =
    let a = g.S.Scopes.state c.args.scopes.now in
    value_alone a c.args.notes.now c.args.site.now None AreOptionBounds (λ k. kept (of_bounds k c.args.base c.args.low_at c.args.high_at c.args.low c.args.high)) tt
    (λ made. let k = context_of a.frame made c.args.site.now in
    ap (λ (o : Option Operand). kept (of_bounds k c.args.base c.args.low_at c.args.high_at (Some c.in_default.field-0-0) o)) (sym c.in_default.is-1)
    ∙ ap (λ (o : Option Operand). kept (of_bounds k c.args.base c.args.low_at c.args.high_at o c.args.high)) (sym c.in_default.is-0))

pub returns-in_default-2 : goal.returns-in_default-2
returns-in_default-2 g c =
    let a = g.S.Scopes.state c.args.scopes.now in
    value_alone a c.args.notes.now c.args.site.now None AreOptionBounds (λ k. kept (of_bounds k c.args.base c.args.low_at c.args.high_at c.args.low c.args.high)) tt
    (λ made. let k = context_of a.frame made c.args.site.now in
    ap (λ (o : Option Operand). kept (of_bounds k c.args.base c.args.low_at c.args.high_at o c.args.high)) (sym c.in_default.is-0))
