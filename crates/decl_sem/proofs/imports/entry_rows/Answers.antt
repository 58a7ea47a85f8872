use Rattle.std.specs.Prelude.{[], ◌∷◌}
use Rattle.std.proofs.Common.{refl}
use Rattle.m2_base.specs.Rows.{alias_kind}
use Rattle.m2_base.specs.Statics.ImportRows.{alias_row, place_or_broken}
use Rattle.m2_base.specs.Statics.ImportedConstants.{brought_by, members_of}
use Rattle.m2_base.specs.Statics.Shapes.{named}
use Rattle.decl_sem.specs.Brought.{all_names, listed}
use Rattle.decl_sem.proofs.BroughtRows.{bringing_after}
use Rattle.decl_sem.proofs.Pieces.{making_on, not_a_type}
use Rattle.decl_sem.proofs.imports.entry_rows.Goals as goal

pub bring-requires-clause-making : goal.bring-requires-clause-making
bring-requires-clause-making g c =
    making_on {ss = named alias_kind c.args.name ∷ []} {ts = []} (not_a_type (named alias_kind c.args.name) refl) c.requires.making (rw c.in-Known.is at c.in-Ok.ensures)

pub returns : goal.returns
returns g c =
    bringing_after {ss = named alias_kind c.args.name ∷ []} {ts = []} all_names (λ k. alias_row k c.args.name (place_or_broken c.args.entry)) (λ p k. brought_by k c.args.name.at (members_of k.scene c.args.entry)) (listed c.bring.result)
    (not_a_type (named alias_kind c.args.name) refl) c.requires.making (rw c.in-Known.is at c.in-Ok.ensures) c.bring.ensures
