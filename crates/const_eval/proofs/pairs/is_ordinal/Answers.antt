use Rattle.std.proofs.Common.{◌∙◌, sym, ap, subst}
use Rattle.std.specs.Prelude.{◌||◌, is_some}
use Rattle.m2_base.specs.Rows.{is_same_place}
use Rattle.m2_base.specs.Standard.{whole}
use Rattle.m2_base.specs.Statics.Operands.{operand_type}
use Rattle.m2_base.specs.Statics.Types.{range_of}
use Rattle.type_rules.specs.Scenes.{scene_of, IsThere}
use Rattle.type_rules.proofs.Reading.{Reads-refl}
use Rattle.const_eval.proofs.TypePairs.{ends_some}
use Rattle.m2_base.specs.declared.rows.Place.{Place}
use Rattle.const_eval.proofs.TypesThere.{type_there}
use Rattle.const_eval.proofs.pairs.is_ordinal.Goals as goal

pub eq-requires : goal.eq-requires
eq-requires g c = tt

pub operand_type-of-requires : goal.operand_type-of-requires
operand_type-of-requires g c = tt

pub range_of-requires-clause-suits : goal.range_of-requires-clause-suits
range_of-requires-clause-suits g c = c.requires.suits.around

pub returns-in-DontKnowYet-clause-reads : goal.returns-in-DontKnowYet-clause-reads
returns-in-DontKnowYet-clause-reads g c = c.in-DontKnowYet.ensures.reads

pub returns-in-DontKnowYet-clause-waits : goal.returns-in-DontKnowYet-clause-waits
returns-in-DontKnowYet-clause-waits g c = c.in-DontKnowYet.ensures.waits

pub returns-in-DontKnowYet-clause-told : goal.returns-in-DontKnowYet-clause-told
returns-in-DontKnowYet-clause-told g c made in_hand told = tt

pub returns : goal.returns
returns g c =
    record {
      reads = c.in-Known.ensures.reads;
      waits = tt;
      told = λ made in_hand told. (let scene = scene_of (g.S.Scopes.state c.args.scopes.now).frame made c.args.site.now.around.now in
          let is = sym (c.eq.ensures ∙ ap (λ t. is_same_place t whole) c.operand_type-of.ensures) ∙ c.if-eq.false in
          c.is_some.ensures ∙ ends_some c.in-Known.value
          ∙ ap is_some (c.in-Known.ensures.told made in_hand told ∙ ap (range_of scene) c.operand_type-of.ensures)
          ∙ sym (ap (λ b. b || is_some (range_of scene (operand_type c.args.x))) is));
      stops = tt;
    }

pub returns-then-eq : goal.returns-then-eq
returns-then-eq g c =
    record {
      reads = Reads-refl _;
      waits = tt;
      told = λ made in_hand told. (let scene = scene_of (g.S.Scopes.state c.args.scopes.now).frame made c.args.site.now.around.now in
          let is = sym (c.eq.ensures ∙ ap (λ t. is_same_place t whole) c.operand_type-of.ensures) ∙ c.if-eq.true in
          sym (ap (λ b. b || is_some (range_of scene (operand_type c.args.x))) is));
      stops = tt;
    }

pub range_of-requires-clause-there : goal.range_of-requires-clause-there
range_of-requires-clause-there g c = subst (λ (t : Place). IsThere (g.S.Scopes.state c.args.scopes.now).frame t) (sym c.operand_type-of.ensures) (type_there c.requires.suits.around c.args.x c.requires.x)
