use Rattle.std.proofs.Common.{◌∙◌, Ok, Option, ap, sym, subst}
use Rattle.std.specs.Option.{IfSome}
use Rattle.m2_base.specs.Gives.{gives}
use Rattle.m2_base.specs.Statics.Constants.{in_constant}
use Rattle.m2_base.specs.Statics.NamedOperands.{operand_of_use}
use Rattle.m2_base.specs.Statics.Uses.{use_of}
use Rattle.m2_base.specs.declared.operands.Operand.TheVariants.{InError}
use Rattle.m2_base.specs.declared.replies.Ask.TheVariants.{Known, DontKnowYet}
use Rattle.m2_base.specs.declared.rows.Place.{Place}
use Rattle.m2_base.specs.declared.rows.Row.{Row}
use Rattle.type_rules.specs.Scenes.{IsRowOf, scene_of, Suits}
use Rattle.const_eval.specs.Analyses.{Analysed}
use Rattle.const_eval.specs.Sites.{IsOperand}
use Rattle.const_eval.proofs.Analysing.{and_after, quiet, value_everywhere}
use Rattle.m2_base.specs.States.{Frame}
use Rattle.const_eval.proofs.names.name_operand.Goals as goal

pub returns-in-Known-operand_of : goal.returns-in-Known-operand_of
returns-in-Known-operand_of g c =
    let s = c.args.site.now in
    let first : Analysed {T = Option (Place × Row)} (g.S.Scopes.state c.args.scopes.now) (g.S.Scopes.state c.use_name.new.scopes) c.args.notes.now c.use_name.new.notes s
    (Ok (Known c.in-Known.value)) (λ f e. IfSome e (λ r. IsRowOf f r.0 r.1)) (λ k. use_of k c.args.within c.args.ident.name c.args.ident.at) =
    record {
      works = c.use_name.ensures.works;
      waits = tt;
      told = rw c.in-Known.is at c.in-Ok.ensures.told;
      there = rw c.in-Known.is at c.in-Ok.ensures.row;
    } in
    and_after (λ k. use_of k c.args.within c.args.ident.name c.args.ident.at) (λ e k. gives (in_constant (operand_of_use k.scene e))) (Ok (Known c.in_constant.result)) first
    (quiet c.use_name.new.notes s (Known c.in_constant.result) IsOperand (λ k. in_constant (operand_of_use k.scene c.in-Known.value))
    c.in-Known-operand_of.ensures.reads tt
    (λ made in_hand told. let scene = scene_of (g.S.Scopes.state c.use_name.new.scopes).frame made s.around.now in
    c.in_constant.ensures.told ∙ ap in_constant (c.in-Known-operand_of.ensures.told made in_hand told) ∙ ap (λ b. in_constant (operand_of_use scene b)) (sym c.in-Some.is))
    (c.in_constant.ensures.there (g.S.Scopes.state c.use_name.new.scopes).frame c.in-Known-operand_of.ensures.there))

pub returns-in-DontKnowYet-operand_of : goal.returns-in-DontKnowYet-operand_of
returns-in-DontKnowYet-operand_of g c =
    let s = c.args.site.now in
    let first : Analysed {T = Option (Place × Row)} (g.S.Scopes.state c.args.scopes.now) (g.S.Scopes.state c.use_name.new.scopes) c.args.notes.now c.use_name.new.notes s
    (Ok (Known c.in-Known.value)) (λ f e. IfSome e (λ r. IsRowOf f r.0 r.1)) (λ k. use_of k c.args.within c.args.ident.name c.args.ident.at) =
    record {
      works = c.use_name.ensures.works;
      waits = tt;
      told = rw c.in-Known.is at c.in-Ok.ensures.told;
      there = rw c.in-Known.is at c.in-Ok.ensures.row;
    } in
    and_after (λ k. use_of k c.args.within c.args.ident.name c.args.ident.at) (λ e k. gives (in_constant (operand_of_use k.scene e))) (Ok (DontKnowYet c.in-DontKnowYet-operand_of.head)) first
    (quiet c.use_name.new.notes s (DontKnowYet c.in-DontKnowYet-operand_of.head) IsOperand (λ k. in_constant (operand_of_use k.scene c.in-Known.value))
    c.in-DontKnowYet-operand_of.ensures.reads c.in-DontKnowYet-operand_of.ensures.waits (λ made in_hand told. tt) tt)

pub returns-in-None : goal.returns-in-None
returns-in-None g c =
    let s = c.args.site.now in
    let first : Analysed {T = Option (Place × Row)} (g.S.Scopes.state c.args.scopes.now) (g.S.Scopes.state c.use_name.new.scopes) c.args.notes.now c.use_name.new.notes s
    (Ok (Known c.in-Known.value)) (λ f e. IfSome e (λ r. IsRowOf f r.0 r.1)) (λ k. use_of k c.args.within c.args.ident.name c.args.ident.at) =
    record {
      works = c.use_name.ensures.works;
      waits = tt;
      told = rw c.in-Known.is at c.in-Ok.ensures.told;
      there = rw c.in-Known.is at c.in-Ok.ensures.row;
    } in
    and_after (λ k. use_of k c.args.within c.args.ident.name c.args.ident.at) (λ e k. gives (in_constant (operand_of_use k.scene e))) (Ok (Known InError)) first
    (value_everywhere (g.S.Scopes.state c.use_name.new.scopes) c.use_name.new.notes s InError IsOperand (λ k. gives (in_constant (operand_of_use k.scene c.in-Known.value))) tt
    (λ k. ap (λ b. gives (in_constant (operand_of_use k.scene b))) (sym c.in-None.is)))

pub in_constant-requires : goal.in_constant-requires
in_constant-requires g c = tt

pub use_name-requires : goal.use_name-requires
use_name-requires g c = record { suits = c.requires.suits; within = c.requires.within; named = c.requires.named }

pub operand_of-requires : goal.operand_of-requires
operand_of-requires g c =
    record {
      suits = subst (λ (f : Frame). Suits f c.args.site.now.around.now) (sym c.use_name.ensures.works.keeps.frame) c.requires.suits.around;
      row = subst (λ (f : Frame). IsRowOf f c.in-Some.place c.in-Some.row) (sym c.use_name.ensures.works.keeps.frame) (rw (c.in-Known.is, c.in-Some.is) at c.in-Ok.ensures.row);
    }

pub returns-in-DontKnowYet : goal.returns-in-DontKnowYet
returns-in-DontKnowYet g c =
    record { works = c.use_name.ensures.works; waits = rw c.in-DontKnowYet.is at c.in-Ok.ensures.waits; told = λ made in_hand told of_site. tt; there = tt }

pub returns-in-Err : goal.returns-in-Err
returns-in-Err g c = record { works = c.use_name.ensures.works; waits = tt; told = λ made in_hand told of_site. tt; there = tt }
