use Rattle.std.proofs.Common.{refl, ◌∙◌}
use Rattle.m2_base.specs.Views.{statement_view}
use Rattle.block_code.specs.BlockCode.{in_statements}
use Rattle.stmt_sem.specs.Stands.{at_first}
use Rattle.block_code.specs.Statements.{statement_flow}
use Rattle.stmt_sem.proofs.TopStatements.{unbegun, without_layout}
use Rattle.stmt_sem.proofs.top_statements.top_statement.Goals as goal

pub statement-requires-clause-stand : goal.statement-requires-clause-stand
statement-requires-clause-stand g c =
    let s = c.requires.suits in
    record {
      suits = record { around = s.around; texts = s.texts; chain = s.chain; short = s.short; down = s.down; done = λ none. s.done c.requires.item };
      item = refl;
      result = c.requires.there;
      withs = tt;
    }

pub returns-in_err-layout : goal.returns-in_err-layout
returns-in_err-layout g c =
    unbegun (g.S.Scopes.state c.args.scopes.now) c.args.notes.now c.args.fragments.now.nodes.items c.args.site.now (λ k. statement_flow (at_first (in_statements k) c.args.top.now.result) (statement_view c.args.top.now.of.now))
    c.from_residual.result c.from_residual.ensures.0

pub returns : goal.returns
returns g c =
    without_layout c.args.site.now _ c.args.top.now.result (statement_view c.args.top.now.of.now) c.requires.item refl refl (λ k. record { names = (c.in_ok-layout.ensures.names ∙ c.new.ensures.items) k; firsts = (c.in_ok-layout.ensures.firsts ∙ c.new-2.ensures.items) k; brought = c.in_ok-layout.ensures.brought k })
    refl c.statement.ensures
