-- What the laws on units say of a unit's texts, where nothing is left out of them.
use Rattle.std.specs.Prelude.{◌≡◌, ◌-◌, ◌≤◌, [], ◌∷◌}
use Rattle.block_laws.specs.Named.{procedure_of}
use Rattle.block_laws.specs.Worlds.{unit_world}
use Rattle.code_form.specs.Valid.{IsValidCode}
use Rattle.m2_base.specs.Finished.{AreRead}
use Rattle.m2_base.specs.Lists.{Each}
use Rattle.m2_base.specs.Standard.{standard_rows}
use Rattle.m2_base.specs.Statics.Blocks.{UnitTrees, blocks_of, home_of}
use Rattle.m2_base.specs.Statics.FormedRows.{IsImportedBefore}
use Rattle.m2_base.specs.Statics.Items.{items_of}
use Rattle.m2_base.specs.Statics.ReadStatements.{AreReadStatements}
use Rattle.m2_base.specs.Statics.ReadTrees.{IsReadItem}
use Rattle.m2_base.specs.Statics.UnitRows.{unit_rows}
use Rattle.m2_base.specs.Units.{UnitTexts}
use Rattle.row_laws.specs.RowRanges.{EachBlock, IsSoundUnit}
use Rattle.block_code.specs.BlockCode.{block_code, block_diags}
use Rattle.block_code.specs.FlowLengths.{most_tokens}
use Rattle.block_code.specs.StatementTokens.{block_tokens}

-- no block has a diagnostic
abbrev pub NoneIsNoted : UnitTrees → Type 0
NoneIsNoted u = EachBlock (λ before b. block_diags u.source before (unit_rows u) b ≡ []) u.source
    (standard_rows ∷ []) (blocks_of u)

-- the code of each block of the main text is valid
abbrev pub IsCodeValid : UnitTrees → Type 0
IsCodeValid u =
    EachBlock (λ before b. home_of u ≤ b.block.scope → IsValidCode (unit_world u) (b.block.scope - home_of u)
    (procedure_of (block_code u.source before (unit_rows u) b)))
    u.source (standard_rows ∷ []) (blocks_of u)

-- the laws on the trees that the texts spell
pub record HasLaws (texts : UnitTexts) (u : UnitTrees) : Type 0 where
  pub imports : Each (λ b. Each (IsImportedBefore u.source b.block.scope) (items_of b.tree)) (blocks_of u)
  pub sound : IsSoundUnit texts.names u
  pub items : Each (λ b. Each (IsReadItem texts.names) (items_of b.tree)) (blocks_of u)
  pub statements : Each (λ b. AreReadStatements texts.names b.tree.body) (blocks_of u)
  pub short : Each (λ b. block_tokens b.tree ≤ most_tokens) (blocks_of u)
  pub code : NoneIsNoted u → IsCodeValid u

-- They hold of whatever trees the texts spell.
abbrev pub AreLawful : UnitTexts → Type 0
AreLawful texts = (u : UnitTrees) → AreRead texts u → HasLaws texts u
