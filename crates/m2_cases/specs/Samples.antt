-- A module that is analysed in a unit without finished rows: the unit's text begins with a fault,
-- and the module's follows.
use Rattle.std.specs.Prelude.{◌≡◌, List, [], ◌∷◌, map}
use Rattle.m2_base.specs.Finished.{main_tokens}
use Rattle.m2_base.specs.Lists.{Each}
use Rattle.m2_base.specs.Statics.Items.{decl_item, items_of}
use Rattle.m2_base.specs.Statics.ReadTrees.{IsReadItem, IsReadToken}
use Rattle.m2_base.specs.Trees.{Stream}
use Rattle.m2_base.specs.Units.{IsUnit, UnitTexts}
use Rattle.m2_base.specs.declared.kind.TokenKind.{TokenKind}
use Rattle.m2_base.specs.declared.kind.TokenKind.TheVariants.{Bad, EndOfText}
use Rattle.m2_base.specs.declared.token.Token.{Token}
use Rattle.m2_base.specs.declared.trees.declarations.StreamKind.TheVariants.{Main}
use Rattle.m2_parse.specs.Streams.{SpellsStream}

-- the kind of the first token
abbrev pub first_kind : List Token → TokenKind
first_kind [] = EndOfText
first_kind (t ∷ ts) = t.kind

-- all items of a tree are its declarations
abbrev pub HasDeclarations : Stream → Type 0
HasDeclarations tree = items_of tree ≡ map decl_item tree.decls

-- the texts of a unit, and the tree that is analysed
pub record IsSample (u : UnitTexts) (tree : Stream) : Type 0 where
  pub unit : IsUnit u
  pub faulty : first_kind (main_tokens u) ≡ Bad
  pub items : HasDeclarations tree
  pub read : Each (IsReadItem u.names) (items_of tree)
  pub spelling : List Token
  pub spelled : SpellsStream Main tree spelling
  pub tokens : Each (IsReadToken u.names) spelling
