use Rattle.std.proofs.Common.{◌∙◌, List, [], ◌∷◌, ◌++◌, ap, rules, subst, sym}
use Rattle.std.specs.List.{AllByRecursion}
use Rattle.object_file.specs.Contents.{Contents}
use Rattle.object_file.specs.Programs.{IsApart, IsProgram}
use Rattle.object_file.specs.Validity.{IsValid}
use Rattle.object_file.proofs.Meeting.{alone_program}
use Rattle.object_file.proofs.program.Program.single.Goals as goal

pub invariant_of-result : goal.invariant_of-result
invariant_of-result c =
    let valid : IsValid c.args.object = search rules in
    let apart = subst (AllByRecursion IsApart) c.imports.ensures.definitions (c.are_apart.ensures.0 c.if-not-are_apart.false) in
    let one = c.in_ok-push.ensures.items ∙ ap (λ (os : List Contents). os ++ c.args.object ∷ []) c.new-objects.ensures.items in
    subst IsProgram (sym one) (alone_program c.args.object valid apart)
