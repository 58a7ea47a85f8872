-- What is asked of the headings of an implementation module and of its own definition, beside that they agree: a
-- parameter in error agrees with every other.
use Rattle.std.specs.Prelude.{◌≡◌, ℕ, false}
use Rattle.m2_base.specs.Lists.{Each, IsIn, WhereKept}
use Rattle.m2_base.specs.Rows.{row_meaning}
use Rattle.m2_base.specs.Statics.Blocks.{BlockTree, UnitTrees, blocks_of, home_of}
use Rattle.m2_base.specs.Statics.Contexts.{Scene}
use Rattle.m2_base.specs.Statics.TypeParts.{parameters}
use Rattle.m2_base.specs.Statics.Types.{is_broken}
use Rattle.m2_base.specs.Statics.UnitNotes.{complete_context}
use Rattle.m2_base.specs.Statics.UnitRows.{unit_rows}
use Rattle.m2_base.specs.Tables.{rows_at}
use Rattle.m2_base.specs.declared.rows.RowMeaning.TheVariants.{Proc}
use Rattle.m2_base.specs.declared.rows.RowMeaning.{RowMeaning}

-- of a procedure no parameter's type is in error
abbrev pub HasSoundParameters : Scene → RowMeaning → Type 0
HasSoundParameters scene (Proc t k s) = Each (λ q. is_broken scene q.typ ≡ false) (parameters scene t)
HasSoundParameters scene other = Unit {0}

-- of the procedures of this scope, seen from the module's block
abbrev pub AreSoundFor : UnitTrees → (scope : ℕ) → Type 0
AreSoundFor u s =
    (b : BlockTree) → IsIn b (blocks_of u) → b.block.scope ≡ home_of u
    → Each (λ r. HasSoundParameters (complete_context u.source (unit_rows u) b.block).scene (row_meaning r))
    (rows_at (unit_rows u) s)

-- of the procedures of an implementation module and of its own definition no parameter's type is in error
abbrev pub HasSoundHeadings : UnitTrees → Type 0
HasSoundHeadings u = WhereKept u.own (λ own. AreSoundFor u own × AreSoundFor u (home_of u))
