use Rattle.std.proofs.Common.{◌∙◌, arith}
use Rattle.scope_core.specs.PlainScopes.{state_of}
use Rattle.m2_cases.proofs.Declarations.{at_declaration, declared_then, may_enter, all_ok}
use Rattle.m2_cases.proofs.declaring.declare_item.Goals as goal

pub declare-requires : goal.declare-requires
declare-requires c =
    let b = c.requires.block in
    at_declaration (state_of c.args.scopes.now).frame c.site-site.result c.args.block.now.sample.now.texts c.args.block.now.sample.now.tree c.args.number c.args.declaration.now c.args.made.now.cell b.sample c.requires.few
    (record { at = record { texts = c.site-site.ensures.texts; around = c.site-site.ensures.around ∙ b.around }; layout = c.site-site.ensures.layout ∙ b.layout; item = c.site-site.ensures.item }) c.requires.here c.requires.declared

pub enter-requires : goal.enter-requires
enter-requires c =
    let b = c.requires.block in
    let answer = (rw c.in-Ok-Known.field-0-is at c.in-Ok-Known.ensures) in
    may_enter (state_of c.args.scopes.now).frame c.site-site.result c.args.block.now.sample.now.texts c.args.block.now.sample.now.tree c.args.number c.args.declaration.now c.args.made.now.cell b.sample c.requires.few
    (record { at = record { texts = c.site-site.ensures.texts; around = c.site-site.ensures.around ∙ b.around }; layout = c.site-site.ensures.layout ∙ b.layout; item = c.site-site.ensures.item }) c.requires.here c.requires.declared
    c.in-Ok-Known.declared.rows.items c.in-Ok-Known.declared.effect.brought answer.next answer.laid answer.new_rows (state_of c.declare.new.scopes) answer.keeps.frame

pub returns-in-Ok-Known : goal.returns-in-Ok-Known
returns-in-Ok-Known c =
    let b = c.requires.block in
    let answer = (rw c.in-Ok-Known.field-0-is at c.in-Ok-Known.ensures) in
    all_ok c.enter.result
    (λ few entered none.
    declared_then (state_of c.args.scopes.now).frame c.site-site.result c.args.block.now.sample.now.texts c.args.block.now.sample.now.tree c.args.number c.args.declaration.now c.args.made.now.cell b.sample c.requires.few
    (record { at = record { texts = c.site-site.ensures.texts; around = c.site-site.ensures.around ∙ b.around }; layout = c.site-site.ensures.layout ∙ b.layout; item = c.site-site.ensures.item }) c.requires.here c.requires.declared
    c.in-Ok-Known.declared.rows.items c.in-Ok-Known.declared.effect.brought answer.next answer.laid answer.new_rows (state_of c.declare.new.scopes) (state_of c.enter.new.scopes) c.enter.new.made.cell answer.keeps.frame entered (omega (arith, few)) none)
    c.enter.ensures.few c.enter.ensures.entered c.enter.ensures.none
