use Rattle.std.proofs.Common.{Err, Ok, Option, subst, sym, ◌∙◌}
use Rattle.std.specs.Option.{IfSome}
use Rattle.m2_base.specs.Gives.{and_then}
use Rattle.m2_base.specs.States.{Frame}
use Rattle.m2_base.specs.Statics.Constants.{constant_of}
use Rattle.m2_base.specs.Statics.Subranges.{named_base, of_bounds}
use Rattle.m2_base.specs.Views.{expr_view}
use Rattle.m2_base.specs.declared.replies.Ask.TheVariants.{DontKnowYet}
use Rattle.m2_base.specs.declared.rows.Place.{Place}
use Rattle.const_eval.specs.NamedTexts.{IsNamedText}
use Rattle.const_eval.specs.Sites.{IsOperand}
use Rattle.const_eval.proofs.Analysing.{and_after, failed, waiting}
use Rattle.type_rules.specs.Scenes.{IsThere}
use Rattle.type_rules.specs.Sites.{SuitsSite}
use Rattle.decl_sem.specs.Bounds.{kept}
use Rattle.decl_sem.proofs.SubrangeRows.{bounds_at, bounds_by_seen}
use Rattle.decl_sem.proofs.Uses.{first_known}
use Rattle.decl_sem.proofs.subranges.bounds_in.Goals as goal

pub constant-requires-clause-suits : goal.constant-requires-clause-suits
constant-requires-clause-suits g c = subst (λ (f : Frame). SuitsSite f c.args.site.now) (sym c.named_base.ensures.works.keeps.frame) c.requires.suits

pub constant-requires-2-clause-suits : goal.constant-requires-2-clause-suits
constant-requires-2-clause-suits g c =
    subst (λ (f : Frame). SuitsSite f c.args.site.now) (sym (c.constant.ensures.analysed.works.keeps.frame ∙ c.named_base.ensures.works.keeps.frame)) c.requires.suits

pub of_bounds-requires-clause-suits : goal.of_bounds-requires-clause-suits
of_bounds-requires-clause-suits g c =
    subst (λ (f : Frame). SuitsSite f c.args.site.now)
    (sym (c.constant-2.ensures.analysed.works.keeps.frame ∙ c.constant.ensures.analysed.works.keeps.frame ∙ c.named_base.ensures.works.keeps.frame)) c.requires.suits

pub returns-in-Err-constant : goal.returns-in-Err-constant
returns-in-Err-constant g c =
    let low_at = c.args.low.now.at in
    let high_at = c.args.high.now.at in
    let low = expr_view c.args.low.now in
    let high = expr_view c.args.high.now in
    let base = first_known (g.S.Scopes.state c.args.scopes.now) (g.S.Scopes.state c.named_base.new.scopes) c.args.notes.now c.named_base.new.notes c.args.site.now
    (λ f (named : Option Place). IfSome named (λ of. IsThere f of)) (λ k. named_base k c.args.base) c.in-Ok.is c.in-Known.is c.named_base.ensures in
    bounds_by_seen c.args.base c.args.low.now c.args.high.now (Err c.in-Err-constant.memory)
    (and_after (λ k. named_base k c.args.base) (λ t k. kept (bounds_at k t low_at high_at low high)) (Err c.in-Err-constant.memory) base
    (failed c.in-Err-constant.ensures.analysed c.in-Err-constant.memory))

pub returns-in-DontKnowYet-asked : goal.returns-in-DontKnowYet-asked
returns-in-DontKnowYet-asked g c =
    let low_at = c.args.low.now.at in
    let high_at = c.args.high.now.at in
    let low = expr_view c.args.low.now in
    let high = expr_view c.args.high.now in
    let base = first_known (g.S.Scopes.state c.args.scopes.now) (g.S.Scopes.state c.named_base.new.scopes) c.args.notes.now c.named_base.new.notes c.args.site.now
    (λ f (named : Option Place). IfSome named (λ of. IsThere f of)) (λ k. named_base k c.args.base) c.in-Ok.is c.in-Known.is c.named_base.ensures in
    bounds_by_seen c.args.base c.args.low.now c.args.high.now (Ok (DontKnowYet c.in-DontKnowYet-asked.head))
    (and_after (λ k. named_base k c.args.base) (λ t k. kept (bounds_at k t low_at high_at low high)) (Ok (DontKnowYet c.in-DontKnowYet-asked.head)) base
    (waiting (rw c.in-DontKnowYet-asked.is at c.in-Ok-constant.ensures.analysed)))

pub returns-in-Err-constant-2 : goal.returns-in-Err-constant-2
returns-in-Err-constant-2 g c =
    let low_at = c.args.low.now.at in
    let high_at = c.args.high.now.at in
    let low = expr_view c.args.low.now in
    let high = expr_view c.args.high.now in
    let base = first_known (g.S.Scopes.state c.args.scopes.now) (g.S.Scopes.state c.named_base.new.scopes) c.args.notes.now c.named_base.new.notes c.args.site.now
    (λ f (named : Option Place). IfSome named (λ of. IsThere f of)) (λ k. named_base k c.args.base) c.in-Ok.is c.in-Known.is c.named_base.ensures in
    let first = first_known (g.S.Scopes.state c.named_base.new.scopes) (g.S.Scopes.state c.constant.new.scopes) c.named_base.new.notes c.constant.new.notes c.args.site.now
    (λ f constant. IfSome constant (λ operand. IsOperand f operand × IsNamedText f operand)) (λ k. constant_of k low) c.in-Ok-constant.is c.in-Known-asked.is c.constant.ensures.analysed in
    bounds_by_seen c.args.base c.args.low.now c.args.high.now (Err c.in-Err-constant-2.memory)
    (and_after (λ k. named_base k c.args.base) (λ t k. kept (bounds_at k t low_at high_at low high)) (Err c.in-Err-constant-2.memory) base
    (and_after (λ k. constant_of k low) (λ x k. kept (and_then (constant_of k high) (λ y. of_bounds k c.in-Known.value low_at high_at x y))) (Err c.in-Err-constant-2.memory) first
    (failed c.in-Err-constant-2.ensures.analysed c.in-Err-constant-2.memory)))

pub returns-in-DontKnowYet-asked-2 : goal.returns-in-DontKnowYet-asked-2
returns-in-DontKnowYet-asked-2 g c =
    let low_at = c.args.low.now.at in
    let high_at = c.args.high.now.at in
    let low = expr_view c.args.low.now in
    let high = expr_view c.args.high.now in
    let base = first_known (g.S.Scopes.state c.args.scopes.now) (g.S.Scopes.state c.named_base.new.scopes) c.args.notes.now c.named_base.new.notes c.args.site.now
    (λ f (named : Option Place). IfSome named (λ of. IsThere f of)) (λ k. named_base k c.args.base) c.in-Ok.is c.in-Known.is c.named_base.ensures in
    let first = first_known (g.S.Scopes.state c.named_base.new.scopes) (g.S.Scopes.state c.constant.new.scopes) c.named_base.new.notes c.constant.new.notes c.args.site.now
    (λ f constant. IfSome constant (λ operand. IsOperand f operand × IsNamedText f operand)) (λ k. constant_of k low) c.in-Ok-constant.is c.in-Known-asked.is c.constant.ensures.analysed in
    bounds_by_seen c.args.base c.args.low.now c.args.high.now (Ok (DontKnowYet c.in-DontKnowYet-asked-2.head))
    (and_after (λ k. named_base k c.args.base) (λ t k. kept (bounds_at k t low_at high_at low high)) (Ok (DontKnowYet c.in-DontKnowYet-asked-2.head)) base
    (and_after (λ k. constant_of k low) (λ x k. kept (and_then (constant_of k high) (λ y. of_bounds k c.in-Known.value low_at high_at x y))) (Ok (DontKnowYet c.in-DontKnowYet-asked-2.head)) first
    (waiting (rw c.in-DontKnowYet-asked-2.is at c.in-Ok-constant-2.ensures.analysed))))

pub returns : goal.returns
returns g c =
    let low_at = c.args.low.now.at in
    let high_at = c.args.high.now.at in
    let low = expr_view c.args.low.now in
    let high = expr_view c.args.high.now in
    let base = first_known (g.S.Scopes.state c.args.scopes.now) (g.S.Scopes.state c.named_base.new.scopes) c.args.notes.now c.named_base.new.notes c.args.site.now
    (λ f (named : Option Place). IfSome named (λ of. IsThere f of)) (λ k. named_base k c.args.base) c.in-Ok.is c.in-Known.is c.named_base.ensures in
    let first = first_known (g.S.Scopes.state c.named_base.new.scopes) (g.S.Scopes.state c.constant.new.scopes) c.named_base.new.notes c.constant.new.notes c.args.site.now
    (λ f constant. IfSome constant (λ operand. IsOperand f operand × IsNamedText f operand)) (λ k. constant_of k low) c.in-Ok-constant.is c.in-Known-asked.is c.constant.ensures.analysed in
    let last = first_known (g.S.Scopes.state c.constant.new.scopes) (g.S.Scopes.state c.constant-2.new.scopes) c.constant.new.notes c.constant-2.new.notes c.args.site.now
    (λ f constant. IfSome constant (λ operand. IsOperand f operand × IsNamedText f operand)) (λ k. constant_of k high) c.in-Ok-constant-2.is c.in-Known-asked-2.is c.constant-2.ensures.analysed in
    bounds_by_seen c.args.base c.args.low.now c.args.high.now c.of_bounds.result
    (and_after (λ k. named_base k c.args.base) (λ t k. kept (bounds_at k t low_at high_at low high)) c.of_bounds.result base
    (and_after (λ k. constant_of k low) (λ x k. kept (and_then (constant_of k high) (λ y. of_bounds k c.in-Known.value low_at high_at x y))) c.of_bounds.result first
    (and_after (λ k. constant_of k high) (λ y k. kept (of_bounds k c.in-Known.value low_at high_at c.in-Known-asked.value y)) c.of_bounds.result last
    c.of_bounds.ensures)))
