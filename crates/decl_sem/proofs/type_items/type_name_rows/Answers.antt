use Rattle.std.specs.Prelude.{◌∷◌, [], Ok, Err, option_map}
use Rattle.m2_base.specs.Rows.{type_name_kind}
use Rattle.m2_base.specs.Statics.Shapes.{named, type_item_shapes}
use Rattle.m2_base.specs.Views.{type_view}
use Rattle.m2_base.specs.declared.replies.Ask.TheVariants.{Known}
use Rattle.decl_sem.proofs.Asking.{first_made}
use Rattle.decl_sem.proofs.ConstantRows.{declared_names_none, name_meaning, type_name_row}
use Rattle.decl_sem.proofs.Pieces.{making_front, making_on}
use Rattle.decl_sem.proofs.SectionLists.{type_stands}
use Rattle.decl_sem.proofs.type_items.type_name_rows.Goals as goal

pub declared_type-requires-clause-making : goal.declared_type-requires-clause-making
declared_type-requires-clause-making g c = making_front (type_item_shapes c.args.name (option_map type_view c.args.typ.now)) (named type_name_kind c.args.name ∷ []) c.requires.making

pub name_row-requires-clause-making : goal.name_row-requires-clause-making
name_row-requires-clause-making g c = making_on (declared_names_none c.args.name (option_map type_view c.args.typ.now)) c.requires.making (first_made c.in-Ok.is c.in-Known.is c.declared_type.ensures)

pub name_row-requires-clause-meaning : goal.name_row-requires-clause-meaning
name_row-requires-clause-meaning g c =
    name_meaning c.in-Known.value
    (making_on {ts = named type_name_kind c.args.name ∷ []} (declared_names_none c.args.name (option_map type_view c.args.typ.now)) c.requires.making (first_made c.in-Ok.is c.in-Known.is c.declared_type.ensures))
    (type_stands (first_made c.in-Ok.is c.in-Known.is c.declared_type.ensures))

pub returns-in-Err-name_row : goal.returns-in-Err-name_row
returns-in-Err-name_row g c = type_name_row c.args.name (option_map type_view c.args.typ.now) (Err c.in-Err-name_row.memory) c.requires.making (first_made c.in-Ok.is c.in-Known.is c.declared_type.ensures) c.in-Err-name_row.ensures

pub returns : goal.returns
returns g c = type_name_row c.args.name (option_map type_view c.args.typ.now) (Ok (Known c.in-Ok-name_row.value)) c.requires.making (first_made c.in-Ok.is c.in-Known.is c.declared_type.ensures) c.in-Ok-name_row.ensures
