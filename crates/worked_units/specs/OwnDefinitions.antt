-- Implementation modules with their definitions, whose diagnostics and rows are worked out by hand. Both modules are
-- called A, and their names stand at token 2.
use Rattle.std.specs.Prelude.{ℕ, ◌+◌, Bool, true, false, List, [], ◌∷◌, ◌++◌, Option, Some, None, codes, map}
use Rattle.m2_base.specs.Names.{standard_names}
use Rattle.m2_base.specs.Rows.{row_of}
use Rattle.m2_base.specs.Standard.{integer}
use Rattle.m2_base.specs.Statics.Blocks.{UnitTrees}
use Rattle.m2_base.specs.Trees.{Decl, Heading, Section, Stream, TypeExpr, TypeForm, named_type, no_fields, more_fields}
use Rattle.m2_base.specs.Trees.{no_statements, plain_fields, pointer_type, proc_decl, proc_type, record_type}
use Rattle.m2_base.specs.Trees.{type_decl, type_expr, vars_decl}
use Rattle.m2_base.specs.declared.notes.Diag.{Diag}
use Rattle.m2_base.specs.declared.rows.Mode.TheVariants.{Plain}
use Rattle.m2_base.specs.declared.rows.Row.{Row}
use Rattle.m2_base.specs.declared.rows.RowMeaning.TheVariants.{Var}
use Rattle.m2_base.specs.declared.trees.Ident.{Ident}
use Rattle.m2_base.specs.declared.trees.Qual.{Qual}
use Rattle.m2_base.specs.declared.trees.declarations.StreamKind.{StreamKind}
use Rattle.m2_base.specs.declared.trees.declarations.StreamKind.TheVariants.{Definition, Main, Procedure}

-- a diagnostic at a token of the main text
abbrev pub at : (token code : ℕ) → Diag
at token code = record { text = 0; at = token; code = code }

-- ---- parts of trees; T, F, x, y and I have the numbers from 29 on

abbrev ident : (name at : ℕ) → Ident
ident name at = record { name = name; at = at }

abbrev type_name : (name at : ℕ) → Qual
type_name name at = record { first = ident name at; second = None }

abbrev named : (name at : ℕ) → TypeExpr
named name at = type_expr at (named_type (type_name name at))

abbrev parameter : (by_ref : Bool) → (name of at : ℕ) → Section
parameter by_ref name of at =
    record { by_ref = by_ref; names = ident name at ∷ []; is_open = false; of = type_name of (at + 2) }

-- PROCEDURE F( .. ) .. ; at this token
abbrev heading : (at : ℕ) → List Section → Option Qual → Heading
heading at sections result = record { name = ident 30 at; sections = sections; result = result }

abbrev tree_of : StreamKind → (implementation : Bool) → Option Ident → Option Heading → List Decl → (close : Ident)
    → Stream
tree_of kind implementation name heading decls close =
    record {
      kind = kind;
      implementation = implementation;
      name = name;
      imports = [];
      heading = heading;
      decls = decls;
      body = no_statements;
      close = close;
    }

abbrev procedure : Heading → Stream
procedure h = tree_of Procedure false None (Some h) [] h.name

-- DEFINITION MODULE A; .. END A. with IMPLEMENTATION MODULE A; .. END A. and the procedures that this declares
abbrev unit : (definition module_ : List Decl) → List Heading → UnitTrees
unit definition module_ procedures =
    record {
      source = record {
        spellings = standard_names ++ codes "A" ∷ codes "T" ∷ codes "F" ∷ codes "x" ∷ codes "y" ∷ codes "I" ∷ [];
        definitions = record { name = 28; text = 1 } ∷ [];
      };
      own = Some 1;
      definitions = tree_of Definition false (Some (ident 28 2)) None definition (ident 28 90) ∷ [];
      main = tree_of Main true (Some (ident 28 2)) None module_ (ident 28 90) ∷ map procedure procedures;
    }

-- ---- opaque types: TYPE T; in the definition

abbrev opaque : List Decl
opaque = type_decl (ident 29 5) None ∷ []

-- the module leaves T out
abbrev pub type_left_out : UnitTrees
type_left_out = unit opaque [] []

abbrev type_given : TypeForm → UnitTrees
type_given form = unit opaque (type_decl (ident 29 5) (Some (type_expr 7 form)) ∷ []) []

-- TYPE T = CHAR;
abbrev pub given_as_scalar : UnitTrees
given_as_scalar = type_given (named_type (type_name 3 7))

-- TYPE T = POINTER TO INTEGER;
abbrev pub given_as_pointer : UnitTrees
given_as_pointer = type_given (pointer_type (named 1 9))

-- TYPE T = RECORD x: INTEGER END;
abbrev pub given_as_record : UnitTrees
given_as_record = type_given (record_type (more_fields (plain_fields (ident 31 8 ∷ []) (named 1 10)) no_fields))

-- TYPE T = PROCEDURE;
abbrev pub given_as_procedure : UnitTrees
given_as_procedure = type_given (proc_type [] None)

-- VAR T: CHAR;
abbrev pub given_as_variable : UnitTrees
given_as_variable = unit opaque (vars_decl (ident 29 5 ∷ []) (named 3 7) ∷ []) []

-- ---- headings

-- PROCEDURE F( .. ) .. ; in the definition, and in the module after these declarations, at token 20
abbrev headings : (definition : List Section) → Option Qual → (before : List Decl) → (given : List Section)
    → Option Qual → UnitTrees
headings sections result before given of =
    unit (proc_decl (heading 5 sections result) 0 ∷ []) (before ++ proc_decl (heading 20 given of) 3 ∷ [])
    (heading 20 given of ∷ [])

-- F(x: INTEGER), and the module leaves F out
abbrev pub heading_left_out : UnitTrees
heading_left_out = unit (proc_decl (heading 5 (parameter false 31 1 7 ∷ []) None) 0 ∷ []) [] []

-- F(x: INTEGER), and the module has a variable F
abbrev pub heading_as_variable : UnitTrees
heading_as_variable = unit
    (proc_decl (heading 5 (parameter false 31 1 7 ∷ []) None) 0 ∷ []) (vars_decl (ident 30 5 ∷ []) (named 3 7) ∷ []) []

-- F(x: INTEGER) by F(y: INTEGER)
abbrev pub other_name : UnitTrees
other_name = headings (parameter false 31 1 7 ∷ []) None [] (parameter false 32 1 22 ∷ []) None

-- F(x: INTEGER) by F(VAR x: INTEGER)
abbrev pub other_mode : UnitTrees
other_mode = headings (parameter false 31 1 7 ∷ []) None [] (parameter true 31 1 23 ∷ []) None

-- F(x: INTEGER) by F(x: INTEGER; y: INTEGER)
abbrev pub one_more : UnitTrees
one_more = headings (parameter false 31 1 7 ∷ []) None [] (parameter false 31 1 22 ∷ parameter false 32 1 26 ∷ []) None

-- F(x: INTEGER) by F()
abbrev pub none_given : UnitTrees
none_given = headings (parameter false 31 1 7 ∷ []) None [] [] None

-- F(x: INTEGER) by F(x: CHAR)
abbrev pub other_type : UnitTrees
other_type = headings (parameter false 31 1 7 ∷ []) None [] (parameter false 31 3 22 ∷ []) None

-- F(x: INTEGER) by F(x: I) after TYPE I = INTEGER
abbrev pub type_by_another_name : UnitTrees
type_by_another_name = headings (parameter false 31 1 7 ∷ []) None
    (type_decl (ident 33 5) (Some (named 1 7)) ∷ []) (parameter false 31 33 22 ∷ []) None

-- F(): INTEGER by F(): CHAR
abbrev pub other_result : UnitTrees
other_result = headings [] (Some (type_name 1 9)) [] [] (Some (type_name 3 24))

-- F(): INTEGER by F
abbrev pub no_result_given : UnitTrees
no_result_given = headings [] (Some (type_name 1 9)) [] [] None

-- TYPE T; PROCEDURE F(x: T) by TYPE T = CHAR; PROCEDURE F(x: CHAR)
abbrev pub opaque_parameter : (given : ℕ) → UnitTrees
opaque_parameter given =
    unit (type_decl (ident 29 5) None ∷ proc_decl (heading 8 (parameter false 31 29 10 ∷ []) None) 0 ∷ [])
    (type_decl (ident 29 5) (Some (named 3 7)) ∷ proc_decl (heading 20 (parameter false 31 given 22 ∷ []) None) 3 ∷ [])
    (heading 20 (parameter false 31 given 22 ∷ []) None ∷ [])

-- TYPE T; PROCEDURE F(x: INTEGER) by F(VAR x: INTEGER) alone
abbrev pub both_wrong : UnitTrees
both_wrong =
    unit (type_decl (ident 29 5) None ∷ proc_decl (heading 8 (parameter false 31 1 10 ∷ []) None) 0 ∷ [])
    (proc_decl (heading 20 (parameter true 31 1 23 ∷ []) None) 3 ∷ []) (heading 20 (parameter true 31 1 23 ∷ []) None
    ∷ [])

-- ---- variables

-- VAR x, y: INTEGER; in the definition, and VAR x: INTEGER; in the module
abbrev pub variable_again : UnitTrees
variable_again =
    unit (vars_decl (ident 31 5 ∷ ident 32 7 ∷ []) (named 1 9) ∷ []) (vars_decl (ident 31 5 ∷ []) (named 1 7) ∷ []) []

-- its cell is behind those of the definition's variables
abbrev pub variable_row : Row
variable_row = row_of 31 5 (Var integer Plain 2)
