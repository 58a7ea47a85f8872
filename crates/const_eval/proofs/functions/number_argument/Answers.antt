use Rattle.std.proofs.Common.{◌∙◌, false, true, sym, ap, subst}
use Rattle.m2_base.specs.Statics.Compatible.{is_number_type}
use Rattle.m2_base.specs.Statics.Types.{base_of}
use Rattle.type_rules.specs.Sites.{context_of}
use Rattle.type_rules.proofs.Reading.{Reads-refl}
use Rattle.const_eval.proofs.FunctionArguments.{number_bad, number_by}
use Rattle.m2_base.specs.declared.rows.Place.{Place}
use Rattle.type_rules.specs.Scenes.{IsThere}
use Rattle.const_eval.proofs.TypesThere.{type_there}
use Rattle.const_eval.proofs.functions.number_argument.Goals as goal

pub base_of-requires-clause-suits : goal.base_of-requires-clause-suits
base_of-requires-clause-suits g c = c.requires.suits.around

pub is_number-requires : goal.is_number-requires
is_number-requires g c = tt

pub is_bad-requires : goal.is_bad-requires
is_bad-requires g c = tt

pub operand_type-requires : goal.operand_type-requires
operand_type-requires g c = tt

pub returns-in-DontKnowYet : goal.returns-in-DontKnowYet
returns-in-DontKnowYet g c =
    record {
      reads = c.in-DontKnowYet.ensures.reads;
      waits = c.in-DontKnowYet.ensures.waits;
      told = λ made in_hand told. tt;
      there = tt;
    }

pub returns-then-is_bad : goal.returns-then-is_bad
returns-then-is_bad g c =
    record {
      reads = Reads-refl _;
      waits = tt;
      told = λ made in_hand told. number_bad (context_of (g.S.Scopes.state c.args.scopes.now).frame made c.args.site.now) c.args.at c.args.x (sym c.is_bad.ensures ∙ c.if-is_bad.true);
      there = c.requires.x;
    }

pub returns-else-is_number : goal.returns-else-is_number
returns-else-is_number g c =
    record {
      reads = c.in-Known.ensures.reads;
      waits = tt;
      told = λ made in_hand told. (let now = context_of (g.S.Scopes.state c.args.scopes.now).frame made c.args.site.now in
          number_by now c.args.at c.args.x false (sym c.is_bad.ensures ∙ c.if-is_bad.false)
          (sym c.if-is_number.false ∙ c.is_number.ensures ∙ ap is_number_type (c.in-Known.ensures.told made in_hand told ∙ ap (base_of now.scene) c.operand_type.ensures)));
      there = tt;
    }

pub returns-then-is_number : goal.returns-then-is_number
returns-then-is_number g c =
    record {
      reads = c.in-Known.ensures.reads;
      waits = tt;
      told = λ made in_hand told. (let now = context_of (g.S.Scopes.state c.args.scopes.now).frame made c.args.site.now in
          number_by now c.args.at c.args.x true (sym c.is_bad.ensures ∙ c.if-is_bad.false)
          (sym c.if-is_number.true ∙ c.is_number.ensures ∙ ap is_number_type (c.in-Known.ensures.told made in_hand told ∙ ap (base_of now.scene) c.operand_type.ensures)));
      there = c.requires.x;
    }

pub base_of-requires-clause-there : goal.base_of-requires-clause-there
base_of-requires-clause-there g c = subst (λ (t : Place). IsThere (g.S.Scopes.state c.args.scopes.now).frame t) (sym c.operand_type.ensures) (type_there c.requires.suits.around c.args.x c.requires.x)
