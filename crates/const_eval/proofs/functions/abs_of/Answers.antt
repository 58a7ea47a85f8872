use Rattle.std.proofs.Common.{◌∙◌, ap, subst, sym}
use Rattle.m2_base.specs.Gives.{and_then}
use Rattle.m2_base.specs.Statics.Folding.{number_kind, number_type}
use Rattle.m2_base.specs.Statics.Functions.{absolute}
use Rattle.m2_base.specs.Statics.Operations.{base_type}
use Rattle.m2_base.specs.Statics.Types.{base_of}
use Rattle.m2_base.specs.declared.rows.Place.{Place}
use Rattle.type_rules.specs.Scenes.{IsThere}
use Rattle.type_rules.specs.Sites.{context_of}
use Rattle.type_rules.proofs.Later.{Suits_read}
use Rattle.type_rules.proofs.Reading.{Reads-trans, Waits_read}
use Rattle.const_eval.proofs.Judging.{after_ok, told_first}
use Rattle.const_eval.proofs.Later.{IsOperand_read}
use Rattle.const_eval.proofs.TypesThere.{small_constant, type_there, number_there}
use Rattle.const_eval.proofs.functions.abs_of.Goals as goal

pub base_of-requires-clause-suits : goal.base_of-requires-clause-suits
base_of-requires-clause-suits g c = Suits_read c.in-Known.ensures.reads c.requires.suits.around

pub base_of-requires-clause-there : goal.base_of-requires-clause-there
base_of-requires-clause-there g c =
    subst (λ (t : Place). IsThere (g.S.Scopes.state c.number_argument.new.scopes).frame t) (sym c.operand_type.ensures)
    (type_there (Suits_read c.in-Known.ensures.reads c.requires.suits.around) c.in-Ok.x (IsOperand_read c.in-Ok.x c.in-Known.ensures.reads (rw c.in-Ok.is at c.in-Known.ensures.there)))

pub absolute-requires : goal.absolute-requires
absolute-requires g c = small_constant (g.S.Scopes.state c.args.scopes.now).frame c.in-Ok.x (rw c.in-Ok.is at c.in-Known.ensures.there)

pub returns-clause-reads : goal.returns-clause-reads
returns-clause-reads g c = Reads-trans c.in-Known.ensures.reads c.in-Known-base_of.ensures.reads

pub returns-clause-told : goal.returns-clause-told
returns-clause-told g c made in_hand told =
    let f = (g.S.Scopes.state c.args.scopes.now).frame in
    let s = c.args.site.now in
    let now = context_of f made s in
    let base = told_first _ f _ (λ h rows. base_of (context_of h rows s).scene c.operand_type.result) c.in-Known.ensures.reads.keeps.frame c.in-Known-base_of.ensures.told made in_hand told in
    c.absolute.ensures.told now
    ∙ ap (λ t. absolute now c.args.at t c.in-Ok.x)
    (c.number_type.ensures ∙ ap number_type (c.number_kind.ensures ∙ ap number_kind (base ∙ ap (base_of now.scene) c.operand_type.ensures)))
    ∙ after_ok _ c.in-Ok.x (λ v. absolute now c.args.at (number_type (number_kind (base_type now v))) v) ((rw c.in-Ok.is at c.in-Known.ensures.told) made in_hand told)

pub number_argument-requires : goal.number_argument-requires
number_argument-requires g c = record { suits = c.requires.suits; x = c.requires.x }

pub operand_type-requires : goal.operand_type-requires
operand_type-requires g c = tt

pub returns-in-DontKnowYet : goal.returns-in-DontKnowYet
returns-in-DontKnowYet g c =
    record {
      reads = c.in-DontKnowYet.ensures.reads;
      waits = c.in-DontKnowYet.ensures.waits;
      told = λ made in_hand told. tt;
      there = tt;
    }

pub returns-in-DontKnowYet-base_of : goal.returns-in-DontKnowYet-base_of
returns-in-DontKnowYet-base_of g c =
    record {
      reads = Reads-trans c.in-Known.ensures.reads c.in-DontKnowYet-base_of.ensures.reads;
      waits = Waits_read c.in-Known.ensures.reads c.in-DontKnowYet-base_of.ensures.waits;
      told = λ made in_hand told. tt;
      there = tt;
    }

pub returns-in-Err : goal.returns-in-Err
returns-in-Err g c =
    record {
      reads = c.in-Known.ensures.reads;
      waits = tt;
      told = λ made in_hand told. (let now = context_of (g.S.Scopes.state c.args.scopes.now).frame made c.args.site.now in
          ap (λ t. and_then t (λ v. absolute now c.args.at (number_type (number_kind (base_type now v))) v)) ((rw c.in-Err.is at c.in-Known.ensures.told) made in_hand told));
      there = tt;
    }

pub returns-clause-waits : goal.returns-clause-waits
returns-clause-waits g c = tt

pub number_kind-requires : goal.number_kind-requires
number_kind-requires g c = tt

pub number_type-requires : goal.number_type-requires
number_type-requires g c = tt

pub returns-clause-there : goal.returns-clause-there
returns-clause-there g c = c.absolute.ensures.there (g.S.Scopes.state c.args.scopes.now).frame (subst (λ (t : Place). IsThere (g.S.Scopes.state c.args.scopes.now).frame t) (sym c.number_type.ensures) (number_there c.requires.suits.around c.number_kind.result))
