use Rattle.std.proofs.Common.{[], ◌∷◌, Option, sym, subst}
use Rattle.std.specs.Prelude.{option_map}
use Rattle.m2_base.specs.Rows.{subrange_kind}
use Rattle.m2_base.specs.Statics.Shapes.{nameless}
use Rattle.m2_base.specs.Statics.Subranges.{subrange_row}
use Rattle.decl_sem.specs.Bounds.{bounds_view}
use Rattle.decl_sem.specs.Pieces.{Declares, IsBehind, known_of}
use Rattle.decl_sem.specs.declared.bounds.Bounds.{Bounds}
use Rattle.decl_sem.proofs.subranges.put_subrange.Goals as goal

pub returns-in-None : goal.returns-in-None
returns-in-None g c =
    let a = g.S.Scopes.state c.args.scopes.now in
    subst (λ (o : Option Bounds). Declares a a c.args.made.now c.put_wrong.new.made c.args.site.now (known_of c.put_wrong.result) (nameless subrange_kind c.args.at ∷ []) IsBehind (λ k. subrange_row k c.args.at (option_map bounds_view o)))
    (sym c.in-None.is) c.put_wrong.ensures
