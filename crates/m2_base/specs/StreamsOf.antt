-- The trees of declarations and of streams, by their derivations.
use Rattle.std.specs.Prelude.{Bool, false, List, [], ◌∷◌, ◌++◌, Option, Some, None}
use Rattle.m2_base.specs.declared.token.Token.{Token}
use Rattle.m2_base.specs.Trees.{Ident, Qual, StreamKind, Main, Definition, Procedure, TypeExpr, Statement, statements}
use Rattle.m2_base.specs.Trees.{Section, Heading, Import, Decl, const_decl, type_decl, vars_decl, proc_decl, Stream}
use Rattle.m2_base.specs.ExpressionsOf.{no_ident, ident_of, idents_of, qual_of, no_expr, expr_of}
use Rattle.m2_base.specs.TypesOf.{is_there, result_of, no_type, type_of}
use Rattle.m2_base.specs.StatementsOf.{statements_of}
use Rattle.ll_grammar.specs.Derivations.{Tree, leaf, both, left, right, more, tokens}

abbrev pub section_of : Tree Token → Section
section_of (both by_ref (both names (both colon (both is_open q)))) =
    record { by_ref = is_there by_ref; names = idents_of names; is_open = is_there is_open; of = qual_of q }
section_of _ = record { by_ref = false; names = []; is_open = false; of = record { first = no_ident; second = None } }

abbrev pub more_sections_of : Tree Token → List Section
more_sections_of (more (both semicolon s) ss) = section_of s ∷ more_sections_of ss
more_sections_of _ = []

abbrev pub some_sections_of : Tree Token → List Section
some_sections_of (both s ss) = section_of s ∷ more_sections_of ss
some_sections_of _ = []

abbrev pub sections_of : Tree Token → List Section
sections_of (left ss) = some_sections_of ss
sections_of _ = []

-- what stands behind the name of a heading: the sections and the result
abbrev pub parameters_of : Tree Token → List Section × Option Qual
parameters_of (left (both opening (both ss (both close result)))) = (sections_of ss, result_of result)
parameters_of _ = ([], None)

abbrev pub heading_with : Ident → List Section × Option Qual → Heading
heading_with i parameters = record { name = i; sections = parameters.0; result = parameters.1 }

abbrev pub heading_of : Tree Token → Heading
heading_of (both procedure (both i parameters)) = heading_with (ident_of i) (parameters_of parameters)
heading_of _ = heading_with no_ident ([], None)

abbrev pub constant_of : Tree Token → Decl
constant_of (both i (both equal (both e semicolon))) = const_decl (ident_of i) (expr_of e)
constant_of _ = const_decl no_ident no_expr

abbrev pub constants_of : Tree Token → List Decl
constants_of (more c cs) = constant_of c ∷ constants_of cs
constants_of _ = []

abbrev pub type_declaration_of : Tree Token → Decl
type_declaration_of (both i (both equal (both d semicolon))) = type_decl (ident_of i) (Some (type_of d))
type_declaration_of _ = type_decl no_ident None

abbrev pub type_declarations_of : Tree Token → List Decl
type_declarations_of (more d ds) = type_declaration_of d ∷ type_declarations_of ds
type_declarations_of _ = []

-- in a definition a type may be opaque
abbrev pub defined_of : Tree Token → Option TypeExpr
defined_of (left (both equal d)) = Some (type_of d)
defined_of _ = None

abbrev pub defined_type_of : Tree Token → Decl
defined_type_of (both i (both d semicolon)) = type_decl (ident_of i) (defined_of d)
defined_type_of _ = type_decl no_ident None

abbrev pub defined_types_of : Tree Token → List Decl
defined_types_of (more d ds) = defined_type_of d ∷ defined_types_of ds
defined_types_of _ = []

abbrev pub variables_of : Tree Token → Decl
variables_of (both names (both colon (both d semicolon))) = vars_decl (idents_of names) (type_of d)
variables_of _ = vars_decl [] no_type

abbrev pub all_variables_of : Tree Token → List Decl
all_variables_of (more v vs) = variables_of v ∷ all_variables_of vs
all_variables_of _ = []

-- a procedure, with the number of its stream
abbrev pub procedure_of : Tree Token → Decl
procedure_of (both h (both semicolon (leaf t))) = proc_decl (heading_of h) t.value
procedure_of _ = proc_decl (heading_with no_ident ([], None)) 0

-- an empty CONST, TYPE or VAR leaves no entry
abbrev pub declaration_of : Tree Token → List Decl
declaration_of (left (both const cs)) = constants_of cs
declaration_of (right (left (both type ds))) = type_declarations_of ds
declaration_of (right (right (left (both var vs)))) = all_variables_of vs
declaration_of (right (right (right p))) = procedure_of p ∷ []
declaration_of _ = []

abbrev pub declarations_of : Tree Token → List Decl
declarations_of (more d ds) = declaration_of d ++ declarations_of ds
declarations_of _ = []

abbrev pub body_of : Tree Token → List Token → List Statement
body_of (left (both begin ss)) w = statements_of ss w
body_of _ w = []

-- a block with its closing name
pub record Block : Type 0 where
  pub decls : List Decl
  pub body : List Statement
  pub close : Ident

abbrev pub block_of : Tree Token → List Token → Block
block_of (both ds (both b (both end i))) w =
    record { decls = declarations_of ds; body = body_of b (tokens (both end i) ++ w); close = ident_of i }
block_of _ w = record { decls = []; body = []; close = no_ident }

-- in a definition a procedure has no stream
abbrev pub definition_declaration_of : Tree Token → List Decl
definition_declaration_of (left (both const cs)) = constants_of cs
definition_declaration_of (right (left (both type ds))) = defined_types_of ds
definition_declaration_of (right (right (left (both var vs)))) = all_variables_of vs
definition_declaration_of (right (right (right (both h semicolon)))) = proc_decl (heading_of h) 0 ∷ []
definition_declaration_of _ = []

abbrev pub definition_declarations_of : Tree Token → List Decl
definition_declarations_of (more d ds) = definition_declaration_of d ++ definition_declarations_of ds
definition_declarations_of _ = []

abbrev pub from_of : Tree Token → Option Ident
from_of (left (both from i)) = Some (ident_of i)
from_of _ = None

abbrev pub import_of : Tree Token → Import
import_of (both from (both import (both names semicolon))) = record { from = from_of from; names = idents_of names }
import_of _ = record { from = None; names = [] }

abbrev pub imports_of : Tree Token → List Import
imports_of (more i is) = import_of i ∷ imports_of is
imports_of _ = []

-- the trees of the three kinds of stream
abbrev pub main_tree : Bool → Ident → List Import → Block → Stream
main_tree implementation i imports b = record {
  kind = Main;
  implementation = implementation;
  name = Some i;
  imports = imports;
  heading = None;
  decls = b.decls;
  body = statements b.body;
  close = b.close;
}

abbrev pub definition_tree : Ident → List Import → List Decl → Ident → Stream
definition_tree i imports decls close = record {
  kind = Definition;
  implementation = false;
  name = Some i;
  imports = imports;
  heading = None;
  decls = decls;
  body = statements [];
  close = close;
}

abbrev pub procedure_tree : Heading → Block → Stream
procedure_tree h b = record {
  kind = Procedure;
  implementation = false;
  name = None;
  imports = [];
  heading = Some h;
  decls = b.decls;
  body = statements b.body;
  close = b.close;
}

abbrev pub no_stream : Stream
no_stream = definition_tree no_ident [] [] no_ident

abbrev pub main_of : Tree Token → List Token → Stream
main_of (both implementation (both module_word (both i (both semicolon (both is (both b (both period end))))))) w =
    main_tree (is_there implementation) (ident_of i) (imports_of is) (block_of b (tokens (both period end) ++ w))
main_of _ w = no_stream

abbrev pub definition_of : Tree Token → List Token → Stream
definition_of (both definition (both module_word
    (both i (both semicolon (both is (both export (both ds (both end (both close (both period stop)))))))))) w =
    definition_tree (ident_of i) (imports_of is) (definition_declarations_of ds) (ident_of close)
definition_of _ w = no_stream

abbrev pub procedure_stream_of : Tree Token → List Token → Stream
procedure_stream_of (both h (both semicolon (both b (both closing stop)))) w =
    procedure_tree (heading_of h) (block_of b (tokens (both closing stop) ++ w))
procedure_stream_of _ w = no_stream

-- the tree of a stream of this kind
abbrev pub stream_of : StreamKind → Tree Token → List Token → Stream
stream_of Main d w = main_of d w
stream_of Definition d w = definition_of d w
stream_of Procedure d w = procedure_stream_of d w
