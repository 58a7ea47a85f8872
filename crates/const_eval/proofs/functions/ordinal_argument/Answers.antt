use Rattle.std.proofs.Common.{◌∙◌, false, true, sym, refl}
use Rattle.type_rules.specs.Sites.{context_of}
use Rattle.type_rules.proofs.Reading.{Reads-refl}
use Rattle.const_eval.proofs.FunctionArguments.{ordinal_bad, ordinal_by}
use Rattle.const_eval.proofs.TypesThere.{standard_there, operand_named}
use Rattle.const_eval.proofs.functions.ordinal_argument.Goals as goal

pub is_bad-requires : goal.is_bad-requires
is_bad-requires g c = tt

pub is_ordinal-requires-clause-suits : goal.is_ordinal-requires-clause-suits
is_ordinal-requires-clause-suits g c = c.requires.suits

pub returns-in-DontKnowYet : goal.returns-in-DontKnowYet
returns-in-DontKnowYet g c =
    record {
      reads = c.in-DontKnowYet.ensures.reads;
      waits = c.in-DontKnowYet.ensures.waits;
      told = λ made in_hand told. tt;
      there = tt;
    }

pub returns-then-is_bad : goal.returns-then-is_bad
returns-then-is_bad g c =
    record {
      reads = Reads-refl _;
      waits = tt;
      told = λ made in_hand told. ordinal_bad (context_of (g.S.Scopes.state c.args.scopes.now).frame made c.args.site.now) c.args.at c.args.x (sym c.is_bad.ensures ∙ c.if-is_bad.true);
      there = c.requires.x;
    }

pub returns-then-value : goal.returns-then-value
returns-then-value g c =
    record {
      reads = c.in-Known.ensures.reads;
      waits = tt;
      told = λ made in_hand told. (let now = context_of (g.S.Scopes.state c.args.scopes.now).frame made c.args.site.now in
          ordinal_by now c.args.at c.args.x c.char_of_string-taken.result true (sym c.is_bad.ensures ∙ c.if-is_bad.false)
          (c.char_of_string-taken.ensures.told now.source refl) (sym c.if-value.true ∙ c.in-Known.ensures.told made in_hand told));
      there = c.char_of_string-taken.ensures.there (g.S.Scopes.state c.args.scopes.now).frame (standard_there c.requires.suits.around 2) c.requires.x;
    }

pub returns-else-value : goal.returns-else-value
returns-else-value g c =
    record {
      reads = c.in-Known.ensures.reads;
      waits = tt;
      told = λ made in_hand told. (let now = context_of (g.S.Scopes.state c.args.scopes.now).frame made c.args.site.now in
          ordinal_by now c.args.at c.args.x c.char_of_string-taken.result false (sym c.is_bad.ensures ∙ c.if-is_bad.false)
          (c.char_of_string-taken.ensures.told now.source refl) (sym c.if-value.false ∙ c.in-Known.ensures.told made in_hand told));
      there = tt;
    }

pub char_of_string-taken-requires : goal.char_of_string-taken-requires
char_of_string-taken-requires g c = operand_named c.requires.suits c.args.x c.requires.x

pub is_ordinal-requires-clause-x : goal.is_ordinal-requires-clause-x
is_ordinal-requires-clause-x g c = c.char_of_string-taken.ensures.there (g.S.Scopes.state c.args.scopes.now).frame (standard_there c.requires.suits.around 2) c.requires.x
