use Rattle.std.proofs.Common.{Option, None, ap, sym}
use Rattle.std.specs.Option.{IfSome}
use Rattle.m2_base.specs.Statics.Subranges.{named_base}
use Rattle.m2_base.specs.declared.rows.Place.{Place}
use Rattle.const_eval.proofs.Analysing.{value_alone}
use Rattle.type_rules.specs.Scenes.{IsThere}
use Rattle.type_rules.specs.Sites.{context_of}
use Rattle.decl_sem.proofs.subranges.named_base.Goals as goal

pub returns-in_default : goal.returns-in_default
returns-in_default g c =
    let a = g.S.Scopes.state c.args.scopes.now in
    value_alone a c.args.notes.now c.args.site.now None (λ f (named : Option Place). IfSome named (λ of. IsThere f of)) (λ k. named_base k c.args.base) tt
    (λ made. ap (named_base (context_of a.frame made c.args.site.now)) (sym c.in_default.is))
