-- The rows of constants, types and variables.
use Rattle.std.specs.Prelude.{List, None, Option, Some, [], pos, ℕ, ◌+◌, ◌∷◌}
use Rattle.m2_base.specs.Rows.{Const, Opaque, Place, Plain, RowMeaning, TypeName, Var}
use Rattle.m2_base.specs.Standard.{broken, text_type}
use Rattle.m2_base.specs.Statics.Cells.{capped}
use Rattle.m2_base.specs.Statics.Constants.{constant_of}
use Rattle.m2_base.specs.Statics.Contexts.{Context}
use Rattle.m2_base.specs.Statics.Makes.{Makes, make_then, makes, makes_named, makes_row, only_gives}
use Rattle.m2_base.specs.Statics.TypeRows.{type_rows}
use Rattle.m2_base.specs.Statics.Types.{size_of}
use Rattle.m2_base.specs.Trees.{Expr, Ident, TypeExpr}
use Rattle.m2_base.specs.declared.operands.Operand.TheVariants.{Constant, StringConstant}
use Rattle.m2_base.specs.declared.operands.Operand.{Operand}

-- without a constant the row's type is in error
abbrev pub const_meaning : Option Operand → RowMeaning
const_meaning (Some (Constant t v)) = Const t v 0
const_meaning (Some (StringConstant n len)) = Const text_type (pos n) len
const_meaning other = Const broken (pos 0) 0

-- a constant's row
abbrev pub const_rows : Context → Ident → Expr → Makes Place
const_rows c i value =
    make_then c (only_gives (constant_of c value)) (λ d o. makes_named d i.name i.at (const_meaning o))

-- without a type expression the type is opaque
abbrev pub declared_type : Context → Ident → Option TypeExpr → Makes Place
declared_type c i None = makes_row c i.at Opaque
declared_type c i (Some t) = type_rows c t

-- the rows of a type, and its name
abbrev pub type_name_rows : Context → Ident → Option TypeExpr → Makes Place
type_name_rows c i typ = make_then c (declared_type c i typ) (λ d t. makes_named d i.name i.at (TypeName t))

-- variables of one type, from this cell on; the value is the next free cell
abbrev pub var_rows : Context → Place → (cell : ℕ) → List Ident → Makes ℕ
var_rows c t cell [] = makes cell
var_rows c t cell (i ∷ names) =
    make_then c (makes_named c i.name i.at (Var t Plain cell)) (λ d p.
    var_rows d t (capped (cell + size_of d.scene t)) names)

-- the rows of a type, and the variables of it
abbrev pub vars_rows : Context → List Ident → TypeExpr → (cell : ℕ) → Makes ℕ
vars_rows c names typ cell = make_then c (type_rows c typ) (λ d t. var_rows d t cell names)
