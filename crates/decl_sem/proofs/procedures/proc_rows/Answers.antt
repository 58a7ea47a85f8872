use Rattle.std.specs.Prelude.{◌≡◌, ℕ, ◌+◌, List, [], ◌∷◌, flat_map, map}
use Rattle.std.proofs.Common.{arith, rules, subst, sym, ap, ◌∙◌, ◌≤◌, ◌^◌}
use Rattle.m2_base.specs.Rows.{proc_kind, proc_type_kind}
use Rattle.m2_base.specs.Statics.ProcedureRows.{parameter_count, sections_length}
use Rattle.m2_base.specs.Statics.Shapes.{named, nameless, section_shapes}
use Rattle.m2_base.specs.Views.{heading_view, section_view}
use Rattle.m2_base.specs.declared.trees.declarations.Section.{Section}
use Rattle.decl_sem.proofs.Asking.{first_made}
use Rattle.decl_sem.proofs.HeadingRows.{HasNumbers, heading_failed, heading_known, heading_room, heading_waits, few_rows, rows_within, sections_making, sections_piece, typed_making}
use Rattle.decl_sem.proofs.procedures.proc_rows.Goals as goal

pub next_row-first-requires : goal.next_row-first-requires
next_row-first-requires g c =
    heading_room (flat_map section_shapes (heading_view c.args.heading.now).sections) (nameless proc_type_kind c.args.heading.now.name.at ∷ named proc_kind c.args.heading.now.name ∷ []) c.requires.making

pub heading_sizes-sizes-requires : goal.heading_sizes-sizes-requires
heading_sizes-sizes-requires g c =
    let same : c.deref.result.now ≡ c.args.heading.now.sections.items = search rules in
    subst (λ (xs : List Section). sections_length (map section_view xs) ≤ 2 ^ 31) (sym same) (few_rows c.args.heading.now c.requires.making)

pub overflow_add-own : goal.overflow_add-own
overflow_add-own g c =
    let items : c.deref.result.now ≡ c.args.heading.now.sections.items = search rules in
    let rows = c.heading_sizes-sizes.ensures.rows ∙ ap (λ (xs : List Section). sections_length (map section_view xs)) items in
    let first = c.next_row-first.ensures in
    let room = rows_within c.args.heading.now c.requires.making in
    omega (arith, rows, first, room)

pub sections_rows-requires-clause-making : goal.sections_rows-requires-clause-making
sections_rows-requires-clause-making g c =
    let same : c.deref-2.result.now ≡ c.args.heading.now.sections.items = search rules in
    sections_making c.args.heading.now c.deref-2.result.now same c.requires.making

pub typed_proc-requires-clause-making : goal.typed_proc-requires-clause-making
typed_proc-requires-clause-making g c =
    let same : c.deref-2.result.now ≡ c.args.heading.now.sections.items = search rules in
    let p = sections_piece (c.next_row-first.result + c.heading_sizes-sizes.result.rows) c.args.heading.now c.deref-2.result.now same (first_made c.in-Ok.is c.in-Known.is c.sections_rows.ensures) in
    typed_making (c.next_row-first.result + c.heading_sizes-sizes.result.rows) c.args.heading.now c.requires.making p

pub returns-in-Ok-Known : goal.returns-in-Ok-Known
returns-in-Ok-Known g c =
    let same : c.deref-2.result.now ≡ c.args.heading.now.sections.items = search rules in
    let p = sections_piece (c.next_row-first.result + c.heading_sizes-sizes.result.rows) c.args.heading.now c.deref-2.result.now same (first_made c.in-Ok.is c.in-Known.is c.sections_rows.ensures) in
    let items : c.deref.result.now ≡ c.args.heading.now.sections.items = search rules in
    let numbers : HasNumbers (g.S.Scopes.state c.args.scopes.now).frame c.args.site.now c.args.made.now c.args.kind c.args.stream c.args.heading.now (c.next_row-first.result + c.heading_sizes-sizes.result.rows) c.next_row-first.result c.heading_sizes-sizes.result.count c.proc_number-number.result c.proc_scope-scope.result =
    record {
      first_is = c.next_row-first.ensures;
      own_is = ap (λ (n : ℕ). c.next_row-first.result + n) (c.heading_sizes-sizes.ensures.rows ∙ ap (λ (xs : List Section). sections_length (map section_view xs)) items);
      count_is = c.heading_sizes-sizes.ensures.count ∙ ap (λ (xs : List Section). parameter_count (map section_view xs)) items;
      number_is = λ k e l. c.proc_number-number.ensures k e (l ∙ sym c.requires.number);
      scope_is = c.proc_scope-scope.ensures;
    } in
    heading_known (c.next_row-first.result + c.heading_sizes-sizes.result.rows) c.args.heading.now c.requires.making p c.args.kind c.args.stream c.requires.begun numbers c.heading_note.result c.heading_note.ensures (rw c.in-Ok-Known.field-0-is at c.in-Ok-Known.ensures)

pub returns-in-Ok-DontKnowYet : goal.returns-in-Ok-DontKnowYet
returns-in-Ok-DontKnowYet g c =
    let same : c.deref-2.result.now ≡ c.args.heading.now.sections.items = search rules in
    let p = sections_piece (c.next_row-first.result + c.heading_sizes-sizes.result.rows) c.args.heading.now c.deref-2.result.now same (first_made c.in-Ok.is c.in-Known.is c.sections_rows.ensures) in
    let items : c.deref.result.now ≡ c.args.heading.now.sections.items = search rules in
    let numbers : HasNumbers (g.S.Scopes.state c.args.scopes.now).frame c.args.site.now c.args.made.now c.args.kind c.args.stream c.args.heading.now (c.next_row-first.result + c.heading_sizes-sizes.result.rows) c.next_row-first.result c.heading_sizes-sizes.result.count c.proc_number-number.result c.proc_scope-scope.result =
    record {
      first_is = c.next_row-first.ensures;
      own_is = ap (λ (n : ℕ). c.next_row-first.result + n) (c.heading_sizes-sizes.ensures.rows ∙ ap (λ (xs : List Section). sections_length (map section_view xs)) items);
      count_is = c.heading_sizes-sizes.ensures.count ∙ ap (λ (xs : List Section). parameter_count (map section_view xs)) items;
      number_is = λ k e l. c.proc_number-number.ensures k e (l ∙ sym c.requires.number);
      scope_is = c.proc_scope-scope.ensures;
    } in
    heading_waits (c.next_row-first.result + c.heading_sizes-sizes.result.rows) c.args.heading.now c.requires.making p c.args.kind c.args.stream c.requires.begun numbers (rw c.in-Ok-DontKnowYet.field-0-is at c.in-Ok-DontKnowYet.ensures)

pub returns-in-Err-typed_proc : goal.returns-in-Err-typed_proc
returns-in-Err-typed_proc g c =
    let same : c.deref-2.result.now ≡ c.args.heading.now.sections.items = search rules in
    let p = sections_piece (c.next_row-first.result + c.heading_sizes-sizes.result.rows) c.args.heading.now c.deref-2.result.now same (first_made c.in-Ok.is c.in-Known.is c.sections_rows.ensures) in
    let items : c.deref.result.now ≡ c.args.heading.now.sections.items = search rules in
    let numbers : HasNumbers (g.S.Scopes.state c.args.scopes.now).frame c.args.site.now c.args.made.now c.args.kind c.args.stream c.args.heading.now (c.next_row-first.result + c.heading_sizes-sizes.result.rows) c.next_row-first.result c.heading_sizes-sizes.result.count c.proc_number-number.result c.proc_scope-scope.result =
    record {
      first_is = c.next_row-first.ensures;
      own_is = ap (λ (n : ℕ). c.next_row-first.result + n) (c.heading_sizes-sizes.ensures.rows ∙ ap (λ (xs : List Section). sections_length (map section_view xs)) items);
      count_is = c.heading_sizes-sizes.ensures.count ∙ ap (λ (xs : List Section). parameter_count (map section_view xs)) items;
      number_is = λ k e l. c.proc_number-number.ensures k e (l ∙ sym c.requires.number);
      scope_is = c.proc_scope-scope.ensures;
    } in
    heading_failed (c.next_row-first.result + c.heading_sizes-sizes.result.rows) c.args.heading.now c.requires.making p c.args.kind c.args.stream c.requires.begun numbers c.in-Err-typed_proc.memory c.in-Err-typed_proc.ensures
