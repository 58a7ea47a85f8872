use Rattle.std.proofs.Common.{refl, ◌∷◌, [], arith, length}
use Rattle.m2_base.specs.Rows.{enum_kind}
use Rattle.m2_base.specs.Statics.Enumerations.{constant_rows}
use Rattle.m2_base.specs.Statics.Makes.{makes_row}
use Rattle.m2_base.specs.Statics.Shapes.{nameless}
use Rattle.m2_base.specs.declared.rows.RowMeaning.TheVariants.{Enum}
use Rattle.decl_sem.specs.Making.{next_ordinal}
use Rattle.decl_sem.specs.Pieces.{known_of}
use Rattle.decl_sem.proofs.Constants.{enum_meaning, own_type, shapes}
use Rattle.decl_sem.proofs.Pieces.{failed, making_front, making_on, not_a_type, then_after}
use Rattle.decl_sem.proofs.enumerations.make_enumeration.Goals as goal

pub returns-in-Err : goal.returns-in-Err
returns-in-Err c a making read =
    let front = making_front (nameless enum_kind c.args.at ∷ []) (shapes c.args.names.now) making in
    failed (c.in-Err.ensures.piece a front (enum_meaning a.frame c.args.site.now (next_ordinal c.args.made.now) (length c.args.names.now) (let r = c.requires.room in omega arith))) c.in-Err.memory

pub returns : goal.returns
returns c a making read =
    let front = making_front (nameless enum_kind c.args.at ∷ []) (shapes c.args.names.now) making in
    let none = not_a_type (nameless enum_kind c.args.at) refl in
    let p = c.in-Ok.ensures.piece a front (enum_meaning a.frame c.args.site.now (next_ordinal c.args.made.now) (length c.args.names.now) (let r = c.requires.room in omega arith)) in
    then_after (λ d. makes_row d c.args.at (Enum (length c.args.names.now))) (λ t d. constant_rows d t 0 c.args.names.now) (known_of c.make_constants.result) none making p
    (c.make_constants.ensures a (making_on none making p) read (own_type front c.in-Ok.ensures.place p.there))
