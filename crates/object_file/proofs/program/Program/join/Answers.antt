use Rattle.std.proofs.Common.{◌≡◌, ◌∙◌, List, ap, sym, subst}
use Rattle.std.specs.List.{AllByRecursion}
use Rattle.object_file.specs.Contents.{Contents}
use Rattle.object_file.specs.Programs.{IsProgram}
use Rattle.object_file.specs.Running.{IsRunningOrder, picked}
use Rattle.object_file.specs.Validity.{IsValid}
use Rattle.object_file.proofs.Joined.{joined}
use Rattle.object_file.proofs.program.Program.join.Goals as goal

pub invariant_of-result : goal.invariant_of-result
invariant_of-result c =
    let os = c.args.objects.items in
    let order = c.in_ok-order.order.items in
    let picks : c.in_ok-objects.objects.items ≡ picked os order = c.in_ok-objects.ensures.picked ∙ ap (picked os) c.deref-2.ensures.value in
    let runs : IsRunningOrder os order = subst (λ (xs : List Contents). IsRunningOrder xs order) c.deref.ensures.value c.in_ok-order.ensures.order in
    subst IsProgram (sym picks) (joined os order c.requires runs (subst (AllByRecursion IsValid) picks c.in_ok-objects.ensures.valid))
