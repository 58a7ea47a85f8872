use Rattle.type_rules.proofs.Later.{Suits_read, IsThere_read}
use Rattle.type_rules.proofs.Reading.{Reads-trans, Waits_read}
use Rattle.std.proofs.Common.{subst, ◌∙◌, ap, sym}
use Rattle.m2_base.specs.States.{Frame}
use Rattle.type_rules.specs.Scenes.{IsThere, scene_of}
use Rattle.std.specs.Prelude.{◌≡◌, ℤ, Option, IfSome}
use Rattle.m2_base.specs.Rows.{IsValue}
use Rattle.m2_base.specs.Statics.Operands.{constant_of_operand}
use Rattle.m2_base.specs.Statics.Types.{base_of}
use Rattle.m2_base.specs.declared.operands.Operand.{Operand}
use Rattle.m2_base.specs.declared.operands.Operand.TheVariants.{Constant}
use Rattle.m2_base.specs.declared.rows.Place.{Place}
use Rattle.type_rules.proofs.Compatibles.{told_later}
use Rattle.const_eval.specs.Sites.{IsOperand}
use Rattle.const_eval.proofs.TypesThere.{type_there}
use Rattle.decl_sem.proofs.subranges.end_of.Goals as goal

-- the value of a constant that may stand is one that a row has room for
value_of : (f : Frame) (o : Operand) → IsOperand f o → IfSome (constant_of_operand o) IsValue
value_of f (Constant t v) h = h.1
value_of f o h = tt

value_here : (f : Frame) (o : Operand) (v : Option ℤ) → v ≡ constant_of_operand o → IsOperand f o → IfSome v IsValue
value_here f o v is h = subst (λ (n : Option ℤ). IfSome n IsValue) (sym is) (value_of f o h)

pub base_of-requires-clause-suits : goal.base_of-requires-clause-suits
base_of-requires-clause-suits g c = Suits_read c.in-Known.ensures.reads c.requires.suits.around

pub returns-in-DontKnowYet-base_of-clause-reads : goal.returns-in-DontKnowYet-base_of-clause-reads
returns-in-DontKnowYet-base_of-clause-reads g c = Reads-trans c.in-Known.ensures.reads c.in-DontKnowYet-base_of.ensures.reads

pub returns-in-DontKnowYet-base_of-clause-waits : goal.returns-in-DontKnowYet-base_of-clause-waits
returns-in-DontKnowYet-base_of-clause-waits g c = Waits_read c.in-Known.ensures.reads c.in-DontKnowYet-base_of.ensures.waits

pub returns-clause-reads : goal.returns-clause-reads
returns-clause-reads g c = Reads-trans c.in-Known.ensures.reads c.in-Known-base_of.ensures.reads

pub is_ordinal-requires-clause-suits : goal.is_ordinal-requires-clause-suits
is_ordinal-requires-clause-suits g c = c.requires.suits

pub is_ordinal-requires-clause-x : goal.is_ordinal-requires-clause-x
is_ordinal-requires-clause-x g c = c.requires.x

pub base_of-requires-clause-there : goal.base_of-requires-clause-there
base_of-requires-clause-there g c =
    IsThere_read c.in-Known.ensures.reads
    (subst (λ (t : Place). IsThere (g.S.Scopes.state c.args.scopes.now).frame t) (sym c.operand_type.ensures) (type_there c.requires.suits.around c.args.x c.requires.x))

pub returns-in-DontKnowYet : goal.returns-in-DontKnowYet
returns-in-DontKnowYet g c = record { reads = c.in-DontKnowYet.ensures.reads; waits = c.in-DontKnowYet.ensures.waits; told = λ _ _ _. tt; there = tt }

pub returns-in-DontKnowYet-base_of-clause-told : goal.returns-in-DontKnowYet-base_of-clause-told
returns-in-DontKnowYet-base_of-clause-told g c made in_hand told = tt

pub returns-in-DontKnowYet-base_of-clause-there : goal.returns-in-DontKnowYet-base_of-clause-there
returns-in-DontKnowYet-base_of-clause-there g c = tt

pub returns-clause-there : goal.returns-clause-there
returns-clause-there g c = (
  subst (λ (f : Frame). IsThere f c.in-Known-base_of.value) c.in-Known.ensures.reads.keeps.frame c.in-Known-base_of.ensures.there,
  value_here (g.S.Scopes.state c.args.scopes.now).frame c.args.x c.constant_value-value.result c.constant_value-value.ensures c.requires.x,
)

pub returns-clause-waits : goal.returns-clause-waits
returns-clause-waits g c = tt

pub returns-clause-told : goal.returns-clause-told
returns-clause-told g c made in_hand told =
    let f = (g.S.Scopes.state c.args.scopes.now).frame in
    let mid = (g.S.Scopes.state c.is_ordinal.new.scopes).frame in
    let a = c.args.site.now.around.now in
    record {
      ordinal = c.in-Known.ensures.told made in_hand told;
      base = told_later f mid (λ h rows. c.in-Known-base_of.value ≡ base_of (scene_of h rows a) c.operand_type.result) c.in-Known.ensures.reads.keeps.frame c.in-Known-base_of.ensures.told made in_hand told
          ∙ ap (λ (t : Place). base_of (scene_of f made a) t) c.operand_type.ensures;
      value = c.constant_value-value.ensures;
    }
