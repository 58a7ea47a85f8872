-- Units with more than one block, whose diagnostics are worked out by hand.
use Rattle.std.specs.Prelude.{ℕ, true, false, List, [], ◌∷◌, ◌++◌, Option, Some, None, codes}
use Rattle.m2_base.specs.Names.{standard_names}
use Rattle.m2_base.specs.Standard.{standard_rows}
use Rattle.m2_base.specs.Statics.BlockRows.{declare_block}
use Rattle.m2_base.specs.Statics.Blocks.{BlockTree, UnitTrees, blocks_of}
use Rattle.m2_base.specs.Statics.Contexts.{Source}
use Rattle.m2_base.specs.Statics.UnitRows.{unit_rows}
use Rattle.m2_base.specs.Trees.{Decl, Designator, Expr, Heading, Section, Statement, Statements, Stream, assign_form}
use Rattle.m2_base.specs.Trees.{call_form, call_statement, designator, expr, more_exprs, more_statements, name_form}
use Rattle.m2_base.specs.Trees.{named_type, no_exprs, no_selectors, no_statements, number_form, proc_decl, return_form}
use Rattle.m2_base.specs.Trees.{statement, type_decl, type_expr, vars_decl}
use Rattle.m2_base.specs.declared.notes.Diag.{Diag}
use Rattle.m2_base.specs.declared.rows.Row.{Row}
use Rattle.m2_base.specs.declared.trees.Ident.{Ident}
use Rattle.m2_base.specs.declared.trees.Qual.{Qual}
use Rattle.m2_base.specs.declared.trees.declarations.StreamKind.TheVariants.{Definition, Main, Procedure}
use Rattle.block_code.specs.BlockCode.{block_diags}

-- the diagnostics of these blocks, over the finished scopes before them
abbrev pub noted_from : Source → (before all : List (List Row)) → List BlockTree → List Diag
noted_from source before all [] = []
noted_from source before all (b ∷ blocks) =
    block_diags source before all b
    ++ noted_from source (before ++ (declare_block source before b).rows ∷ []) all blocks

-- the diagnostics of a unit's blocks
abbrev pub noted : UnitTrees → List Diag
noted u = noted_from u.source (standard_rows ∷ []) (unit_rows u) (blocks_of u)

-- a diagnostic at a token of the main text
abbrev pub at : (token code : ℕ) → Diag
at token code = record { text = 0; at = token; code = code }

-- ---- parts of trees; the names behind the standard ones have the numbers from 28 on

abbrev ident : (name at : ℕ) → Ident
ident name at = record { name = name; at = at }

abbrev type_name : (name at : ℕ) → Qual
type_name name at = record { first = ident name at; second = None }

abbrev variable : (name at : ℕ) → Designator
variable name at = designator (ident name at) no_selectors

abbrev named : (name at : ℕ) → Expr
named name at = expr at (name_form (variable name at))

abbrev just : Statement → Statements
just st = more_statements st no_statements

-- ---- the name of a result

-- MODULE M; TYPE T = CHAR; PROCEDURE F(): T; VAR T: INTEGER; BEGIN RETURN 5 END F; END M.
abbrev own_name_heading : Heading
own_name_heading = record { name = ident 30 9; sections = []; result = Some (type_name 29 13) }

abbrev own_name_main : Stream
own_name_main =
    record {
      kind = Main;
      implementation = false;
      name = Some (ident 28 1);
      imports = [];
      heading = None;
      decls = type_decl (ident 29 4) (Some (type_expr 6 (named_type (type_name 3 6)))) ∷ proc_decl own_name_heading 2
          ∷ [];
      body = no_statements;
      close = ident 28 27;
    }

abbrev own_name_procedure : Stream
own_name_procedure =
    record {
      kind = Procedure;
      implementation = false;
      name = None;
      imports = [];
      heading = Some own_name_heading;
      decls = vars_decl (ident 29 16 ∷ []) (type_expr 18 (named_type (type_name 1 18))) ∷ [];
      body = just (statement 21 (return_form (Some (expr 22 (number_form 5)))));
      close = ident 30 24;
    }

-- the result of F is the name of one of its own variables
abbrev pub own_name : UnitTrees
own_name =
    record {
      source = record { spellings = standard_names ++ codes "M" ∷ codes "T" ∷ codes "F" ∷ []; definitions = [] };
      own = None;
      definitions = [];
      main = own_name_main ∷ own_name_procedure ∷ [];
    }

-- ---- a heading that the module lacks

-- DEFINITION MODULE A; PROCEDURE F( .. ) .. ; END A.
abbrev definition_of : List Section → (result : Option Qual) → Stream
definition_of sections result =
    record {
      kind = Definition;
      implementation = false;
      name = Some (ident 28 2);
      imports = [];
      heading = None;
      decls = proc_decl (record { name = ident 29 5; sections = sections; result = result }) 0 ∷ [];
      body = no_statements;
      close = ident 28 100;
    }

-- IMPLEMENTATION MODULE A; .. BEGIN .. END A.
abbrev implementation_of : List Decl → Statements → Stream
implementation_of decls body =
    record {
      kind = Main;
      implementation = true;
      name = Some (ident 28 2);
      imports = [];
      heading = None;
      decls = decls;
      body = body;
      close = ident 28 100;
    }

-- this definition of F, and an implementation that lacks it
abbrev lacking : List Section → (result : Option Qual) → List Decl → Statements → UnitTrees
lacking sections result decls body =
    record {
      source = record {
        spellings = standard_names ++ codes "A" ∷ codes "F" ∷ codes "x" ∷ codes "y" ∷ [];
        definitions = record { name = 28; text = 1 } ∷ [];
      };
      own = Some 1;
      definitions = definition_of sections result ∷ [];
      main = implementation_of decls body ∷ [];
    }

-- parameters of type INTEGER
abbrev integers : List Ident → List Section
integers names = record { by_ref = false; names = names; is_open = false; of = type_name 1 9 } ∷ []

-- VAR x: INTEGER;
abbrev variable_x : List Decl
variable_x = vars_decl (ident 30 5 ∷ []) (type_expr 7 (named_type (type_name 1 7))) ∷ []

-- with F(x: INTEGER), the call F(TRUE)
abbrev pub wrong_value : UnitTrees
wrong_value = lacking (integers (ident 30 7 ∷ [])) None []
    (just (statement 5 (call_statement (variable 29 5) (more_exprs (named 7 7) no_exprs))))

-- with F(x, y: INTEGER): INTEGER, the assignment x := F(INTEGER, ABS)
abbrev pub no_values : UnitTrees
no_values =
    lacking (integers (ident 30 7 ∷ ident 31 8 ∷ [])) (Some (type_name 1 12)) variable_x
    (just (statement 10 (assign_form (variable 30 10)
    (expr 12 (call_form (variable 29 12) (more_exprs (named 1 14) (more_exprs (named 10 16) no_exprs)))))))

-- with F(): CHAR, the assignment x := F() to a variable of type INTEGER
abbrev pub no_result : UnitTrees
no_result = lacking [] (Some (type_name 3 9)) variable_x
    (just (statement 10 (assign_form (variable 30 10) (expr 12 (call_form (variable 29 12) no_exprs)))))
