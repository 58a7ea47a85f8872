use Rattle.std.proofs.Common.{[], ◌∷◌, Ok, Err, sym, subst}
use Rattle.m2_base.specs.Rows.{param_kind}
use Rattle.m2_base.specs.States.{Frame}
use Rattle.m2_base.specs.Statics.Makes.{makes_row}
use Rattle.m2_base.specs.Statics.ProcedureTypes.{parameter_type}
use Rattle.m2_base.specs.Statics.Shapes.{nameless, open_shapes}
use Rattle.m2_base.specs.declared.replies.Ask.TheVariants.{Known}
use Rattle.m2_base.specs.declared.rows.RowMeaning.TheVariants.{Param}
use Rattle.decl_sem.specs.Making.{next_ordinal}
use Rattle.decl_sem.specs.Pieces.{IsBehind}
use Rattle.decl_sem.proofs.Asking.{first_made}
use Rattle.decl_sem.proofs.Parameters.{open_no_types, param_meaning}
use Rattle.decl_sem.proofs.OneRows.{room_for_row, small_scope}
use Rattle.decl_sem.proofs.Pieces.{making_front, making_on, then_after}
use Rattle.decl_sem.proofs.formals.formal_in.Goals as goal

pub parameter_type-requires-clause-making : goal.parameter_type-requires-clause-making
parameter_type-requires-clause-making g c = making_front (open_shapes c.args.formal.now.is_open c.args.formal.now.of) (nameless param_kind c.args.formal.now.of.first.at ∷ []) c.requires.making

pub put_plain-requires-clause-room : goal.put_plain-requires-clause-room
put_plain-requires-clause-room g c =
    room_for_row (making_on (open_no_types c.args.formal.now.is_open c.args.formal.now.of) c.requires.making (first_made c.in-Ok.is c.in-Known.is c.parameter_type.ensures))

pub put_plain-requires-clause-scopes : goal.put_plain-requires-clause-scopes
put_plain-requires-clause-scopes g c = small_scope c.requires.making (first_made c.in-Ok.is c.in-Known.is c.parameter_type.ensures).there

pub returns-in-Err-put_plain : goal.returns-in-Err-put_plain
returns-in-Err-put_plain g c =
    let f = c.args.formal.now in
    let p = first_made c.in-Ok.is c.in-Known.is c.parameter_type.ensures in
    let none = open_no_types f.is_open f.of in
    let making = making_on none c.requires.making p in
    let behind = subst (λ (k : Frame). IsBehind k (next_ordinal c.parameter_type.new.made) c.in-Known.value) (sym p.works.keeps.frame) p.there in
    then_after (λ d. parameter_type d f.is_open f.of) (λ t d. makes_row d f.of.first.at (Param t f.by_ref c.args.own)) (Err c.in-Err-put_plain.memory) none c.requires.making p
    (c.in-Err-put_plain.ensures.piece (g.S.Scopes.state c.parameter_type.new.scopes) making (param_meaning f.by_ref c.args.own c.ranges.own.fits making behind))

pub returns : goal.returns
returns g c =
    let f = c.args.formal.now in
    let p = first_made c.in-Ok.is c.in-Known.is c.parameter_type.ensures in
    let none = open_no_types f.is_open f.of in
    let making = making_on none c.requires.making p in
    let behind = subst (λ (k : Frame). IsBehind k (next_ordinal c.parameter_type.new.made) c.in-Known.value) (sym p.works.keeps.frame) p.there in
    then_after (λ d. parameter_type d f.is_open f.of) (λ t d. makes_row d f.of.first.at (Param t f.by_ref c.args.own)) (Ok (Known c.in-Ok-put_plain.value)) none c.requires.making p
    (c.in-Ok-put_plain.ensures.piece (g.S.Scopes.state c.parameter_type.new.scopes) making (param_meaning f.by_ref c.args.own c.ranges.own.fits making behind))
