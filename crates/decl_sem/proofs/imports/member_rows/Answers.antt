use Rattle.std.specs.Prelude.{◌<◌}
use Rattle.std.specs.Option.{IfSome}
use Rattle.std.proofs.Common.{arith, refl, subst, sym}
use Rattle.m2_base.specs.States.{Frame}
use Rattle.decl_sem.specs.Brought.{listed}
use Rattle.decl_sem.proofs.ImportedNames.{alias_row, entry_before, member_as}
use Rattle.decl_sem.proofs.imports.member_rows.Goals as goal

pub module_scope-scope-requires-clause-small : goal.module_scope-scope-requires-clause-small
module_scope-scope-requires-clause-small g c = let few = c.requires.making.small in let before = c.requires.before in omega arith

pub entry_rows-requires-clause-before : goal.entry_rows-requires-clause-before
entry_rows-requires-clause-before g c =
    let fills = (g.S.Scopes.state c.args.scopes.now).frame.setting.fills in
    subst (λ (f : Frame). IfSome c.in-Known.value (λ e. e.0.scope < f.setting.fills)) (sym c.use_name.ensures.works.keeps.frame)
    (entry_before c.module_scope-scope.result fills c.in-Known.value (rw c.in-Known.is at c.in-Ok.ensures.within) (subst (λ n. n < fills) (sym c.module_scope-scope.ensures) c.requires.before))

pub returns : goal.returns
returns g c =
    member_as c.args.outer c.args.name c.module_scope-scope.result c.entry_rows.result c.module_scope-scope.ensures
    (alias_row c.module_scope-scope.result c.args.name (listed c.entry_rows.result) c.requires.making refl refl
    (record { works = c.use_name.ensures.works; waits = tt; told = rw c.in-Known.is at c.in-Ok.ensures.told; there = rw c.in-Known.is at c.in-Ok.ensures.row }) c.entry_rows.ensures)
