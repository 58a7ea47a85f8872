use Rattle.std.proofs.Common.{◌≡◌, ◌∙◌, Some, ap, of_z, rules, sym, to_z, w64}
use Rattle.std.specs.Prelude.{option_map}
use Rattle.m2_base.specs.Gives.{and_then, gives}
use Rattle.m2_base.specs.Statics.Functions.{end_value}
use Rattle.m2_base.specs.Statics.Ranges.{range}
use Rattle.m2_base.specs.Statics.Types.{range_of}
use Rattle.m2_base.specs.declared.operands.Operand.TheVariants.{Constant}
use Rattle.type_rules.specs.Sites.{context_of}
use Rattle.type_rules.proofs.Later.{IsThere_read, Suits_read}
use Rattle.type_rules.proofs.Reading.{Reads-trans, Waits_read}
use Rattle.const_eval.specs.Extremes.{end_in}
use Rattle.const_eval.proofs.Judging.{told_first}
use Rattle.const_eval.proofs.TypeArguments.{end_given, end_refused}
use Rattle.const_eval.proofs.extremes.extreme_of.Goals as goal

pub range_of-requires-clause-suits : goal.range_of-requires-clause-suits
range_of-requires-clause-suits g c = Suits_read c.in-Known.ensures.reads c.requires.suits.around

pub range_of-requires-clause-there : goal.range_of-requires-clause-there
range_of-requires-clause-there g c = IsThere_read c.in-Known.ensures.reads (rw c.in-Ok.is at c.in-Known.ensures.there)

pub returns-in-Least-clause-reads : goal.returns-in-Least-clause-reads
returns-in-Least-clause-reads g c = Reads-trans c.in-Known.ensures.reads c.in-Known-range_of.ensures.reads

pub returns-in-Greatest-clause-reads : goal.returns-in-Greatest-clause-reads
returns-in-Greatest-clause-reads g c = Reads-trans c.in-Known.ensures.reads c.in-Known-range_of.ensures.reads

pub returns-in-Least-clause-told : goal.returns-in-Least-clause-told
returns-in-Least-clause-told g c made in_hand told =
    let f = (g.S.Scopes.state c.args.scopes.now).frame in
    let s = c.args.site.now in
    let now = context_of f made s in
    let ends = told_first _ f _ (λ h rows. range_of (context_of h rows s).scene c.in-Ok.of) c.in-Known.ensures.reads.keeps.frame c.in-Known-range_of.ensures.told made in_hand told in
    let same : to_z w64 (of_z w64 c.in-Some.low) ≡ c.in-Some.low = search rules in
    ap (λ v. gives (Constant c.in-Ok.of v)) same
    ∙ ap (λ e. gives (end_value now c.in-Ok.of (end_in e) (Some (range c.in-Some.low c.in-Some.high)))) (sym c.in-Least.is)
    ∙ ap (λ v. gives (end_value now c.in-Ok.of (end_in c.args.extreme) (option_map (λ ends. range ends.0 ends.1) v))) (sym c.in-Some.is)
    ∙ end_given now c.in-Ok.of (end_in c.args.extreme) _ _ ends ((rw c.in-Ok.is at c.in-Known.ensures.told) made in_hand told)

pub returns-in-Greatest-clause-told : goal.returns-in-Greatest-clause-told
returns-in-Greatest-clause-told g c made in_hand told =
    let f = (g.S.Scopes.state c.args.scopes.now).frame in
    let s = c.args.site.now in
    let now = context_of f made s in
    let ends = told_first _ f _ (λ h rows. range_of (context_of h rows s).scene c.in-Ok.of) c.in-Known.ensures.reads.keeps.frame c.in-Known-range_of.ensures.told made in_hand told in
    let same : to_z w64 (of_z w64 c.in-Some.high) ≡ c.in-Some.high = search rules in
    ap (λ v. gives (Constant c.in-Ok.of v)) same
    ∙ ap (λ e. gives (end_value now c.in-Ok.of (end_in e) (Some (range c.in-Some.low c.in-Some.high)))) (sym c.in-Greatest.is)
    ∙ ap (λ v. gives (end_value now c.in-Ok.of (end_in c.args.extreme) (option_map (λ ends. range ends.0 ends.1) v))) (sym c.in-Some.is)
    ∙ end_given now c.in-Ok.of (end_in c.args.extreme) _ _ ends ((rw c.in-Ok.is at c.in-Known.ensures.told) made in_hand told)

pub ordinal_type_argument-requires : goal.ordinal_type_argument-requires
ordinal_type_argument-requires g c = record { suits = c.requires.suits; x = c.requires.x }

pub returns-in-DontKnowYet : goal.returns-in-DontKnowYet
returns-in-DontKnowYet g c =
    record {
      reads = c.in-DontKnowYet.ensures.reads;
      waits = c.in-DontKnowYet.ensures.waits;
      told = λ made in_hand told. tt;
      there = tt;
    }

pub returns-in-DontKnowYet-range_of : goal.returns-in-DontKnowYet-range_of
returns-in-DontKnowYet-range_of g c =
    record {
      reads = Reads-trans c.in-Known.ensures.reads c.in-DontKnowYet-range_of.ensures.reads;
      waits = Waits_read c.in-Known.ensures.reads c.in-DontKnowYet-range_of.ensures.waits;
      told = λ made in_hand told. tt;
      there = tt;
    }

pub returns-in-Err : goal.returns-in-Err
returns-in-Err g c =
    record {
      reads = c.in-Known.ensures.reads;
      waits = tt;
      told = λ made in_hand told. (let f = (g.S.Scopes.state c.args.scopes.now).frame in
          let s = c.args.site.now in
          let now = context_of f made s in
          end_refused f made s c.requires.suits told c.in-Err.fault (end_in c.args.extreme)
          ∙ ap (λ t. and_then t (λ of. gives (end_value now of (end_in c.args.extreme) (range_of now.scene of)))) ((rw c.in-Err.is at c.in-Known.ensures.told) made in_hand told));
      there = tt;
    }

pub returns-in-Least-clause-waits : goal.returns-in-Least-clause-waits
returns-in-Least-clause-waits g c = tt

pub returns-in-Greatest-clause-waits : goal.returns-in-Greatest-clause-waits
returns-in-Greatest-clause-waits g c = tt

pub returns-in-None : goal.returns-in-None
returns-in-None g c =
    record {
      reads = Reads-trans c.in-Known.ensures.reads c.in-Known-range_of.ensures.reads;
      waits = tt;
      told = λ made in_hand told. (let f = (g.S.Scopes.state c.args.scopes.now).frame in
          let s = c.args.site.now in
          let now = context_of f made s in
          let ends = told_first _ f _ (λ h rows. range_of (context_of h rows s).scene c.in-Ok.of) c.in-Known.ensures.reads.keeps.frame c.in-Known-range_of.ensures.told made in_hand told in
          ap (λ v. gives (end_value now c.in-Ok.of (end_in c.args.extreme) (option_map (λ ends. range ends.0 ends.1) v))) (sym c.in-None.is)
          ∙ end_given now c.in-Ok.of (end_in c.args.extreme) _ _ ends ((rw c.in-Ok.is at c.in-Known.ensures.told) made in_hand told));
      there = tt;
    }
