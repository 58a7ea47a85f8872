use Rattle.std.proofs.Common.{Ok, Option, None, subst, sym}
use Rattle.std.specs.Option.{IfSome}
use Rattle.m2_base.specs.Statics.Lookup.{Entry}
use Rattle.m2_base.specs.Statics.TypeNames.{qualified}
use Rattle.m2_base.specs.Statics.Uses.{use_of}
use Rattle.m2_base.specs.declared.replies.Ask.TheVariants.{Known}
use Rattle.type_rules.specs.Scenes.{IsRowOf}
use Rattle.const_eval.specs.Analyses.{Analysed}
use Rattle.const_eval.proofs.Analysing.{and_after}
use Rattle.m2_base.specs.States.{Frame}
use Rattle.type_rules.specs.Sites.{SuitsSite}
use Rattle.decl_sem.proofs.names.entry_of_qual.Goals as goal

pub returns : goal.returns
returns g c =
    let s = c.args.site.now in
    let q = c.args.qual in
    let first : Analysed {T = Option Entry} (g.S.Scopes.state c.args.scopes.now) (g.S.Scopes.state c.use_name.new.scopes) c.args.notes.now c.use_name.new.notes s
    (Ok (Known c.in-Known.value)) (λ f e. IfSome e (λ r. IsRowOf f r.0 r.1)) (λ k. use_of k None q.first.name q.first.at) =
    record {
      works = c.use_name.ensures.works;
      waits = tt;
      told = rw c.in-Known.is at c.in-Ok.ensures.told;
      there = rw c.in-Known.is at c.in-Ok.ensures.row;
    } in
    and_after (λ k. use_of k None q.first.name q.first.at) (λ e k. qualified k q.first.at q.second e) c.qualified.result first c.qualified.ensures

pub qualified-requires-clause-suits : goal.qualified-requires-clause-suits
qualified-requires-clause-suits g c = subst (λ (f : Frame). SuitsSite f c.args.site.now) (sym c.use_name.ensures.works.keeps.frame) c.requires.suits

pub returns-in-DontKnowYet : goal.returns-in-DontKnowYet
returns-in-DontKnowYet g c =
    record { works = c.use_name.ensures.works; waits = rw c.in-DontKnowYet.is at c.in-Ok.ensures.waits; told = rw c.in-DontKnowYet.is at c.in-Ok.ensures.told; there = tt }
