use Rattle.std.proofs.Common.{◌∙◌}
use Rattle.expr_sem.specs.Fragments.{part}
use Rattle.expr_sem.proofs.Without.{made_other}
use Rattle.expr_sem.proofs.operators.made.Goals as goal

pub returns-in-Computed-clause-there : goal.returns-in-Computed-clause-there
returns-in-Computed-clause-there c f nodes h k = c.new.ensures.there f nodes h k

pub returns-in-Constant-clause-there : goal.returns-in-Constant-clause-there
returns-in-Constant-clause-there c f nodes h k = c.bare.ensures.there f nodes h

pub returns-in_default : goal.returns-in_default
returns-in_default c =
    record {
      told = λ nodes. c.in_error.ensures.told nodes ∙ made_other c.args.operand (part nodes c.args.code) c.in_default.not-Computed c.in_default.not-Constant;
      there = λ f nodes h k. c.in_error.ensures.there f nodes;
    }
