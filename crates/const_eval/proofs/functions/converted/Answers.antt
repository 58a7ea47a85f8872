use Rattle.std.proofs.Common.{◌≡◌, ◌∙◌, ap, of_z, rules, sym, to_z, w64, if◌then◌else◌}
use Rattle.m2_base.specs.Gives.{gives}
use Rattle.m2_base.specs.Statics.Contexts.{refuse}
use Rattle.m2_base.specs.Statics.Diagnostics.{out_of_range}
use Rattle.m2_base.specs.Statics.Functions.{converted}
use Rattle.m2_base.specs.Statics.Ranges.{is_within}
use Rattle.m2_base.specs.Statics.Types.{range_of}
use Rattle.m2_base.specs.declared.operands.Operand.TheVariants.{Constant, InError}
use Rattle.type_rules.specs.Sites.{context_of}
use Rattle.const_eval.proofs.functions.converted.Goals as goal

pub returns-then-is_within-clause-told : goal.returns-then-is_within-clause-told
returns-then-is_within-clause-told g c made in_hand told =
    let now = context_of (g.S.Scopes.state c.args.scopes.now).frame made c.args.site.now in
    let same : to_z w64 (of_z w64 c.in-Constant.value) ≡ c.in-Constant.value = search rules in
    let v = to_z w64 (of_z w64 c.in-Constant.value) in
    ap (λ b. if b then gives (Constant c.args.of v) else refuse now c.args.at out_of_range InError) (sym c.if-is_within.true ∙ c.is_within.ensures ∙ ap (λ r. is_within r v) (c.in-Known.ensures.told made in_hand told))
    ∙ ap (λ u. if is_within (range_of now.scene c.args.of) u then gives (Constant c.args.of u) else refuse now c.args.at out_of_range InError) same
    ∙ ap (converted now c.args.at c.args.of) (sym c.in-Constant.is)

pub range_of-requires-clause-suits : goal.range_of-requires-clause-suits
range_of-requires-clause-suits g c = c.requires.suits.around

pub returns-in-DontKnowYet : goal.returns-in-DontKnowYet
returns-in-DontKnowYet g c =
    record {
      reads = c.in-DontKnowYet.ensures.reads;
      waits = c.in-DontKnowYet.ensures.waits;
      told = λ made in_hand told. tt;
      there = tt;
    }

pub returns-in-InError-clause-reads : goal.returns-in-InError-clause-reads
returns-in-InError-clause-reads g c = c.in-Known.ensures.reads

pub returns-in-InError-clause-waits : goal.returns-in-InError-clause-waits
returns-in-InError-clause-waits g c = tt

pub returns-else-is_within : goal.returns-else-is_within
returns-else-is_within g c =
    record {
      reads = c.in-Known.ensures.reads;
      waits = tt;
      told = λ made in_hand told. (let now = context_of (g.S.Scopes.state c.args.scopes.now).frame made c.args.site.now in
          let same : to_z w64 (of_z w64 c.in-Constant.value) ≡ c.in-Constant.value = search rules in
          let v = to_z w64 (of_z w64 c.in-Constant.value) in
          ap (λ b. if b then gives (Constant c.args.of v) else refuse now c.args.at out_of_range InError) (sym c.if-is_within.false ∙ c.is_within.ensures ∙ ap (λ r. is_within r v) (c.in-Known.ensures.told made in_hand told))
          ∙ ap (λ u. if is_within (range_of now.scene c.args.of) u then gives (Constant c.args.of u) else refuse now c.args.at out_of_range InError) same
          ∙ ap (converted now c.args.at c.args.of) (sym c.in-Constant.is));
      there = tt;
    }

pub returns-then-is_within-clause-reads : goal.returns-then-is_within-clause-reads
returns-then-is_within-clause-reads g c = c.in-Known.ensures.reads

pub returns-then-is_within-clause-waits : goal.returns-then-is_within-clause-waits
returns-then-is_within-clause-waits g c = tt

pub is_within-requires : goal.is_within-requires
is_within-requires g c = tt
