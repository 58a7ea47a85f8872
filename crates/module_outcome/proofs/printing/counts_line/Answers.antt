use Rattle.std.proofs.Common.{◌∙◌, ◌++◌, ap}
use Rattle.std.specs.Prelude.{codes}
use Rattle.module_outcome.specs.Counts.{counted}
use Rattle.module_outcome.proofs.printing.counts_line.Goals as goal

pub returns : goal.returns
returns c =
    let n = c.args.counts.now in
    c.in_ok-push_count-5.ensures
    ∙ ap (λ x. x ++ counted n.diags (codes " diagnostics\n"))
    (c.in_ok-push_count-4.ensures
    ∙ ap (λ x. x ++ counted n.object (codes " object bytes, "))
    (c.in_ok-push_count-3.ensures
    ∙ ap (λ x. x ++ counted n.code (codes " code bytes, "))
    (c.in_ok-push_count-2.ensures
    ∙ ap (λ x. x ++ counted n.streams (codes " streams, "))
    (c.in_ok-push_count.ensures
    ∙ ap (λ x. x ++ counted n.tokens (codes " tokens, ")) c.in_ok-text.ensures.ok))))
