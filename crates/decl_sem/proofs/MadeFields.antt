-- The index of fields among rows.
use Rattle.std.specs.List.{list_any}
use Rattle.std.specs.Prelude.{◌≡◌, ◌||◌, ℕ, Bool, true, false, cond, List, [], ◌∷◌, ◌++◌, Option, Some}
use Rattle.std.proofs.Common.{refl, sym, ap, ◌∙◌}
use Rattle.std.proofs.lemmas.List.Folds.{list_any-append}
use Rattle.m2_base.specs.Rows.{row_of}
use Rattle.m2_base.specs.Statics.TypeParts.{is_field, is_field_meaning}
use Rattle.m2_base.specs.declared.rows.Row.{Row}
use Rattle.m2_base.specs.declared.rows.RowMeaning.{RowMeaning}
use Rattle.m2_base.specs.declared.rows.RowMeaning.TheVariants as meanings
use Rattle.decl_sem.specs.MadeRows.{is_key, is_same_field}

-- one more field
pub index_more : {more : List Row} {key : ℕ × ℕ} {field : Option (ℕ × ℕ)} (rows : List Row) (row : Row) (own name : ℕ) (before after : Bool) → after ≡ cond (is_same_field key (own, name)) true before → before ≡ list_any (is_field own name) rows
    → is_field own name row ≡ is_key own name field → field ≡ Some key → more ≡ rows ++ row ∷ [] → after ≡ list_any (is_field own name) more
index_more {more} {key} {field} rows row own name before after updates is keyed some longer =
    updates
    ∙ either (is_same_field key (own, name)) before
    ∙ ap (λ (b : Bool). b || (is_same_field key (own, name) || false)) is
    ∙ ap (λ (b : Bool). list_any (is_field own name) rows || (b || false)) (sym (keyed ∙ ap (is_key own name) some))
    ∙ sym (list_any-append (is_field own name) rows (row ∷ []))
    ∙ ap (list_any (is_field own name)) (sym longer)
  where
    either : (a b : Bool) → cond a true b ≡ (b || (a || false))
    either true true = refl
    either true false = refl
    either false true = refl
    either false false = refl

-- a row that is written is a field as its meaning says
pub written_field : (own name n at : ℕ) (m : RowMeaning) → is_field own name (row_of n at m) ≡ is_field_meaning own name m
written_field own name n at (meanings.Const t v l) = refl
written_field own name n at (meanings.TypeName t) = refl
written_field own name n at (meanings.Var t m o) = refl
written_field own name n at (meanings.Proc t k s) = refl
written_field own name n at (meanings.Module s) = refl
written_field own name n at (meanings.Alias t) = refl
written_field own name n at (meanings.Field t o r f) = refl
written_field own name n at (meanings.Param t v r) = refl
written_field own name n at (meanings.Standard s) = refl
written_field own name n at meanings.Broken = refl
written_field own name n at meanings.Integer = refl
written_field own name n at meanings.Cardinal = refl
written_field own name n at meanings.Character = refl
written_field own name n at meanings.Nil = refl
written_field own name n at meanings.Text = refl
written_field own name n at meanings.Whole = refl
written_field own name n at (meanings.Enum k) = refl
written_field own name n at (meanings.Subrange t low high) = refl
written_field own name n at (meanings.Array i t s) = refl
written_field own name n at (meanings.OpenArray t) = refl
written_field own name n at (meanings.Record f s) = refl
written_field own name n at (meanings.Set t) = refl
written_field own name n at (meanings.Pointer t) = refl
written_field own name n at (meanings.ProcType r k f) = refl
written_field own name n at meanings.Opaque = refl

pub field_written : {n at : ℕ} {row : Row} (own name : ℕ) (m : RowMeaning) → row ≡ row_of n at m → is_field own name row ≡ is_field_meaning own name m
field_written {n} {at} own name m e = ap (is_field own name) e ∙ written_field own name n at m
