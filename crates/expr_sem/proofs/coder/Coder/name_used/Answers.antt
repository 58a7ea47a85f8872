use Rattle.std.proofs.Common.{Ok, Option, sym, subst}
use Rattle.std.specs.Option.{IfSome}
use Rattle.m2_base.specs.Gives.{gives}
use Rattle.m2_base.specs.States.{Frame}
use Rattle.m2_base.specs.Statics.Uses.{use_of}
use Rattle.m2_base.specs.declared.replies.Ask.TheVariants.{Known}
use Rattle.m2_base.specs.declared.rows.Place.{Place}
use Rattle.m2_base.specs.declared.rows.Row.{Row}
use Rattle.type_rules.specs.Scenes.{IsRowOf}
use Rattle.const_eval.specs.Analyses.{Analysed}
use Rattle.block_code.specs.Variables.{entry_coded}
use Rattle.expr_sem.proofs.Operating.{coding_after, of_analysed}
use Rattle.expr_sem.proofs.Sequencing.{Grows-refl}
use Rattle.type_rules.specs.Sites.{SuitsSite}
use Rattle.expr_sem.proofs.coder.Coder.name_used.Goals as goal

pub entry_coded-requires-clause-entry : goal.entry_coded-requires-clause-entry
entry_coded-requires-clause-entry g c =
    subst (λ (f : Frame). IfSome c.in-Known.value (λ r. IsRowOf f r.0 r.1)) (sym c.use_name.ensures.works.keeps.frame) (rw c.in-Known.is at c.in-Ok.ensures.row)

pub returns-in-DontKnowYet-clause-codes : goal.returns-in-DontKnowYet-clause-codes
returns-in-DontKnowYet-clause-codes g c =
    record { works = c.use_name.ensures.works; waits = (rw c.in-DontKnowYet.is at c.in-Ok.ensures.waits); grows = Grows-refl _; told = λ made in_hand told of_site. tt; there = tt }

pub returns-in-Err-clause-codes : goal.returns-in-Err-clause-codes
returns-in-Err-clause-codes g c =
    record { works = c.use_name.ensures.works; waits = tt; grows = Grows-refl _; told = λ made in_hand told of_site. tt; there = tt }

pub returns-clause-codes : goal.returns-clause-codes
returns-clause-codes g c =
    let first : Analysed {T = Option (Place × Row)} (g.S.Scopes.state c.args.self.now.scopes.now) (g.S.Scopes.state c.use_name.new.scopes) c.args.self.now.notes.now c.use_name.new.notes c.args.self.now.site.now
    (Ok (Known c.in-Known.value)) (λ f e. IfSome e (λ r. IsRowOf f r.0 r.1)) (λ k. use_of k c.args.within c.args.ident.name c.args.ident.at) =
    record {
      works = c.use_name.ensures.works;
      waits = tt;
      told = rw c.in-Known.is at c.in-Ok.ensures.told;
      there = rw c.in-Known.is at c.in-Ok.ensures.row;
    } in
    coding_after (λ k. use_of k c.args.within c.args.ident.name c.args.ident.at) (λ e k. gives (entry_coded k e)) c.entry_coded.result
    (of_analysed c.args.self.now.fragments.now.nodes.items (Ok (Known c.in-Known.value)) first) (c.entry_coded.ensures c.use_name.new.notes)

pub entry_coded-requires-clause-suits : goal.entry_coded-requires-clause-suits
entry_coded-requires-clause-suits g c = subst (λ (f : Frame). SuitsSite f c.args.self.now.site.now) (sym c.use_name.ensures.works.keeps.frame) c.requires.suits
