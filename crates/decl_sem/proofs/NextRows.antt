-- A row with a name, by the layout.
use Rattle.std.specs.Prelude.{◌≡◌, ℕ, Bool, true, false, not, is_some, if◌then◌else◌, [], ◌∷◌, length, Option, None, Some}
use Rattle.std.proofs.Common.{refl, ◌∙◌}
use Rattle.m2_base.specs.Rows.{row_of}
use Rattle.m2_base.specs.declared.rows.RowMeaning.{RowMeaning}
use Rattle.m2_base.specs.Standard.{is_standard}
use Rattle.m2_base.specs.Statics.Contexts.{Context, diag}
use Rattle.m2_base.specs.Statics.Diagnostics.{declared_twice, standard_declared}
use Rattle.m2_base.specs.Statics.Lookup.{first_entry, has_name}
use Rattle.m2_base.specs.Statics.Makes.{own_rows, one_row, makes_named}
use Rattle.m2_base.specs.Tables.{first_named, found_or}
use Rattle.m2_base.specs.declared.rows.Row.{Row}
use Rattle.decl_sem.specs.LaidRows.{is_of, kept_name}
use Rattle.decl_sem.specs.Making.{IsNext, name_refusals}

found_own : (s : ℕ) (hit : Option (ℕ × Row)) → is_some (found_or s hit None) ≡ is_some hit
found_own s None = refl
found_own s (Some hit) = refl

pub by_layout : (c : Context) (name at : ℕ) (m : RowMeaning) → IsNext c name
    → makes_named c name at m ≡ one_row c (row_of (kept_name c.layout (length (own_rows c)) name) at m) (name_refusals c.scene.block.text c.layout (length (own_rows c)) name at)
by_layout c name at m next =
    go (is_standard name) (has_name c.scene.tables c.scene.block.scope name) (is_of (length (own_rows c)) (first_entry c.layout name))
    (λ e. found_own c.scene.block.scope (first_named name (own_rows c) 0) ∙ next e) refl
  where
    go : (a b d : Bool) → (is_standard name ≡ false → b ≡ not d) → is_standard name ≡ a
        → (if a then one_row c (row_of 0 at m) (diag c at standard_declared ∷ []) else
        if b then one_row c (row_of 0 at m) (diag c at declared_twice ∷ []) else one_row c (row_of name at m) [])
        ≡ one_row c (row_of (if a then 0 else if d then name else 0) at m) (if a then diag c at standard_declared ∷ [] else if d then [] else diag c at declared_twice ∷ [])
    go true b d h e = refl
    go false true true h e = absurd (cc (h e))
    go false true false h e = refl
    go false false true h e = refl
    go false false false h e = absurd (cc (h e))
