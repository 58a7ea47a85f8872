use Rattle.std.proofs.Common.{◌∙◌, sym, ap, refl, if◌then◌else◌, subst}
use Rattle.m2_base.specs.Gives.{gives}
use Rattle.m2_base.specs.Statics.Functions.{capital, wrong_at}
use Rattle.m2_base.specs.Statics.Types.{base_of}
use Rattle.type_rules.specs.Sites.{context_of}
use Rattle.type_rules.proofs.Reading.{Reads-refl}
use Rattle.const_eval.proofs.FunctionArguments.{cap_bad, cap_by}
use Rattle.m2_base.specs.declared.rows.Place.{Place}
use Rattle.type_rules.specs.Scenes.{IsThere}
use Rattle.const_eval.proofs.TypesThere.{operand_named, standard_there, type_there}
use Rattle.const_eval.proofs.functions.cap_of.Goals as goal

pub returns-then-eq-clause-told : goal.returns-then-eq-clause-told
returns-then-eq-clause-told g c made in_hand told =
    let now = context_of (g.S.Scopes.state c.args.scopes.now).frame made c.args.site.now in
    let taken = c.char_of_string-taken.result in
    ap (λ o. gives o) c.capital.ensures.told
    ∙ ap (λ b. if b then gives (capital taken) else wrong_at now c.args.at) (sym c.if-eq.true ∙ c.eq.ensures)
    ∙ cap_by now c.args.at c.args.x taken c.in-Known.value (sym c.is_bad.ensures ∙ c.if-is_bad.false)
    (c.char_of_string-taken.ensures.told now.source refl) (c.in-Known.ensures.told made in_hand told ∙ ap (base_of now.scene) c.operand_type.ensures)

pub base_of-requires-clause-suits : goal.base_of-requires-clause-suits
base_of-requires-clause-suits g c = c.requires.suits.around

pub eq-requires : goal.eq-requires
eq-requires g c = tt

pub is_bad-requires : goal.is_bad-requires
is_bad-requires g c = tt

pub operand_type-requires : goal.operand_type-requires
operand_type-requires g c = tt

pub returns-in-DontKnowYet : goal.returns-in-DontKnowYet
returns-in-DontKnowYet g c =
    record {
      reads = c.in-DontKnowYet.ensures.reads;
      waits = c.in-DontKnowYet.ensures.waits;
      told = λ made in_hand told. tt;
      there = tt;
    }

pub returns-then-is_bad : goal.returns-then-is_bad
returns-then-is_bad g c =
    record {
      reads = Reads-refl _;
      waits = tt;
      told = λ made in_hand told. cap_bad (context_of (g.S.Scopes.state c.args.scopes.now).frame made c.args.site.now) c.args.at c.args.x (sym c.is_bad.ensures ∙ c.if-is_bad.true);
      there = c.requires.x;
    }

pub returns-else-eq : goal.returns-else-eq
returns-else-eq g c =
    record {
      reads = c.in-Known.ensures.reads;
      waits = tt;
      told = λ made in_hand told. (let now = context_of (g.S.Scopes.state c.args.scopes.now).frame made c.args.site.now in
          let taken = c.char_of_string-taken.result in
          ap (λ b. if b then gives (capital taken) else wrong_at now c.args.at) (sym c.if-eq.false ∙ c.eq.ensures)
          ∙ cap_by now c.args.at c.args.x taken c.in-Known.value (sym c.is_bad.ensures ∙ c.if-is_bad.false)
          (c.char_of_string-taken.ensures.told now.source refl) (c.in-Known.ensures.told made in_hand told ∙ ap (base_of now.scene) c.operand_type.ensures));
      there = tt;
    }

pub returns-then-eq-clause-reads : goal.returns-then-eq-clause-reads
returns-then-eq-clause-reads g c = c.in-Known.ensures.reads

pub returns-then-eq-clause-waits : goal.returns-then-eq-clause-waits
returns-then-eq-clause-waits g c = tt

pub capital-requires : goal.capital-requires
capital-requires g c = tt

pub base_of-requires-clause-there : goal.base_of-requires-clause-there
base_of-requires-clause-there g c = subst (λ (t : Place). IsThere (g.S.Scopes.state c.args.scopes.now).frame t) (sym c.operand_type.ensures) (type_there c.requires.suits.around c.char_of_string-taken.result (c.char_of_string-taken.ensures.there (g.S.Scopes.state c.args.scopes.now).frame (standard_there c.requires.suits.around 2) c.requires.x))

pub char_of_string-taken-requires : goal.char_of_string-taken-requires
char_of_string-taken-requires g c = operand_named c.requires.suits c.args.x c.requires.x

pub returns-then-eq-clause-there : goal.returns-then-eq-clause-there
returns-then-eq-clause-there g c = c.capital.ensures.there (g.S.Scopes.state c.args.scopes.now).frame (c.char_of_string-taken.ensures.there (g.S.Scopes.state c.args.scopes.now).frame (standard_there c.requires.suits.around 2) c.requires.x) (standard_there c.requires.suits.around 2)
