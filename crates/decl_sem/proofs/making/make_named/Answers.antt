use Rattle.std.proofs.Common.{◌∙◌, ◌+◌, ◌++◌, ℕ, [], ◌∷◌, ap, sym}
use Rattle.std.proofs.lemmas.Result.{IfOk-equal}
use Rattle.m2_base.specs.Rows.{row_of}
use Rattle.m2_base.specs.declared.notes.Notes.{Notes}
use Rattle.m2_base.specs.declared.rows.Row.{Row}
use Rattle.decl_sem.specs.LaidRows.{kept_name}
use Rattle.decl_sem.specs.Making.{name_refusals, next_ordinal}
use Rattle.decl_sem.proofs.MadeFields.{field_written}
use Rattle.decl_sem.proofs.making.make_named.Goals as goal

pub put_row-requires-clause-field : goal.put_row-requires-clause-field
put_row-requires-clause-field c own name = field_written own name c.args.meaning c.write_row.ensures ∙ c.field_key-field.ensures own name

pub returns-clause-diags : goal.returns-clause-diags
returns-clause-diags c =
    record {
      rest = name_refusals c.args.site.now.around.now.text c.args.site.now.layout.now (c.args.made.now.first + c.len.result) c.args.name c.args.at;
      joined = sym (ap (λ (n : Notes). n.diags.items) c.put_row.ensures.notes ∙ c.in_ok-kept.ensures.diags);
    }

pub returns-clause-rows : goal.returns-clause-rows
returns-clause-rows c =
    let layout = c.args.site.now.layout.now in
    let made = c.args.made.now in
    IfOk-equal c.put_row.result c.put_row.new.made.rows.items (made.rows.items ++ c.write_row.result ∷ []) (made.rows.items ++ row_of (kept_name layout (next_ordinal made) c.args.name) c.args.at c.args.meaning ∷ [])
    c.put_row.ensures.rows
    (ap (λ (r : Row). made.rows.items ++ r ∷ []) (c.write_row.ensures ∙ ap (λ (n : ℕ). row_of n c.args.at c.args.meaning)
    (c.in_ok-kept.ensures.kept ∙ ap (λ (n : ℕ). kept_name layout (made.first + n) c.args.name) c.len.ensures)))
