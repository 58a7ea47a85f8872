-- Readers of declarations and of streams, where n levels are left.
use Rattle.std.specs.Prelude.{ℕ, Bool, true, false, List, [], ◌∷◌, Ok, Option, Some, None, if◌then◌else◌, length}
use Rattle.m2_base.specs.declared.kind.TokenKind.TheVariants.{EndOfText, Identifier, Cut, StreamEnd, Const, «Type»}
use Rattle.m2_base.specs.declared.kind.TokenKind.TheVariants.{Var, Procedure, Begin, End, Definition, Module}
use Rattle.m2_base.specs.declared.kind.TokenKind.TheVariants.{Implementation, Import, From, Export, Qualified, Equal}
use Rattle.m2_base.specs.declared.kind.TokenKind.TheVariants.{Semicolon, Colon, Period, LeftParenthesis}
use Rattle.m2_base.specs.declared.kind.TokenKind.TheVariants.{RightParenthesis}
use Rattle.m2_base.specs.declared.token.Token.{Token}
use Rattle.m2_base.specs.declared.trees.Ident.{Ident}
use Rattle.m2_base.specs.declared.trees.Qual.{Qual}
use Rattle.m2_base.specs.declared.trees.declarations.StreamKind.{StreamKind}
use Rattle.m2_base.specs.declared.trees.declarations.StreamKind.TheVariants as streams
use Rattle.m2_base.specs.KindNumbers.{kind_number}
use Rattle.m2_base.specs.Grammar.{number_of_token}
use Rattle.m2_base.specs.Trees.{TypeExpr, Statement, Section, Heading, Import as ImportTree, Decl, const_decl}
use Rattle.m2_base.specs.Trees.{type_decl, vars_decl, proc_decl, Stream}
use Rattle.m2_base.specs.StreamsOf.{heading_with, Block, main_tree, definition_tree, procedure_tree}
use Rattle.ll_grammar.specs.Readers.{◌>>=◌, listed, repeat, itself, all}
use Rattle.m2_parse.specs.Reading.{Read, next_is, next_in, expect}
use Rattle.m2_parse.specs.ReadNames.{ident_at, idents_at, qual_at}
use Rattle.m2_parse.specs.ReadTypes.{by_reference_at, open_array_at, result_at, type_at}
use Rattle.m2_parse.specs.ReadStatements.{expr_at, statements_with, statement_at}

-- Section = [VAR] Idents ":" [ARRAY OF] Qual
unfoldable pub section_at : Read Section
section_at ts = do
  v ← by_reference_at ts
  is ← idents_at v.1
  c ← expect Colon is.1
  o ← open_array_at c.1
  q ← qual_at o.1
  Ok (record { by_ref = v.0; names = is.0; is_open = o.0; of = q.0 }, q.1)

abbrev pub some_sections_at : Read (List Section)
some_sections_at ts = listed number_of_token (kind_number Semicolon) section_at itself ts

abbrev pub begins_section : List Token → Bool
begins_section ts = next_in (Var ∷ Identifier ∷ []) ts

unfoldable pub sections_at : Read (List Section)
sections_at ts = if begins_section ts then some_sections_at ts else Ok ([], ts)

-- ["(" [Section {";" Section}] ")" [":" Qual]]
unfoldable pub parameters_at : Read (List Section × Option Qual)
parameters_at ts =
    if next_is LeftParenthesis ts then (do
      p ← expect LeftParenthesis ts
      ss ← sections_at p.1
      q ← expect RightParenthesis ss.1
      r ← result_at q.1
      Ok ((ss.0, r.0), r.1)) else Ok (([], None), ts)

-- Heading
unfoldable pub heading_at : Read Heading
heading_at ts = do
  p ← expect Procedure ts
  i ← ident_at p.1
  ps ← parameters_at i.1
  Ok (heading_with i.0 ps.0, ps.1)

-- ident "=" Expr ";"
unfoldable pub constant_at : ℕ → Read Decl
constant_at n ts = do
  i ← ident_at ts
  e ← expect Equal i.1
  x ← expr_at n e.1
  s ← expect Semicolon x.1
  Ok (const_decl i.0 x.0, s.1)

abbrev pub constants_at : ℕ → Read (List Decl)
constants_at n ts = repeat (next_is Identifier) (constant_at n) itself (length ts) ts

-- ident "=" Type ";"
unfoldable pub type_declaration_at : ℕ → Read Decl
type_declaration_at n ts = do
  i ← ident_at ts
  e ← expect Equal i.1
  d ← type_at n e.1
  s ← expect Semicolon d.1
  Ok (type_decl i.0 (Some d.0), s.1)

abbrev pub type_declarations_at : ℕ → Read (List Decl)
type_declarations_at n ts = repeat (next_is Identifier) (type_declaration_at n) itself (length ts) ts

-- ident ["=" Type] ";"
unfoldable pub defined_at : ℕ → Read (Option TypeExpr)
defined_at n ts =
    if next_is Equal ts then (do
      e ← expect Equal ts
      d ← type_at n e.1
      Ok (Some d.0, d.1)) else Ok (None, ts)

unfoldable pub defined_type_at : ℕ → Read Decl
defined_type_at n ts = do
  i ← ident_at ts
  d ← defined_at n i.1
  s ← expect Semicolon d.1
  Ok (type_decl i.0 d.0, s.1)

abbrev pub defined_types_at : ℕ → Read (List Decl)
defined_types_at n ts = repeat (next_is Identifier) (defined_type_at n) itself (length ts) ts

-- Idents ":" Type ";"
unfoldable pub variables_at : ℕ → Read Decl
variables_at n ts = do
  is ← idents_at ts
  c ← expect Colon is.1
  d ← type_at n c.1
  s ← expect Semicolon d.1
  Ok (vars_decl is.0 d.0, s.1)

abbrev pub all_variables_at : ℕ → Read (List Decl)
all_variables_at n ts = repeat (next_is Identifier) (variables_at n) itself (length ts) ts

-- Heading ";" Cut
unfoldable pub procedure_at : Read Decl
procedure_at ts = do
  h ← heading_at ts
  s ← expect Semicolon h.1
  c ← expect Cut s.1
  Ok (proc_decl h.0 c.0.value, c.1)

-- Decl
unfoldable pub declaration_at : ℕ → Read (List Decl)
declaration_at n ts =
    if next_is Const ts then (do
      p ← expect Const ts
      ds ← constants_at n p.1
      Ok (ds.0, ds.1)) else
    (if next_is «Type» ts then (do
      p ← expect «Type» ts
      ds ← type_declarations_at n p.1
      Ok (ds.0, ds.1)) else
    (if next_is Var ts then (do
      p ← expect Var ts
      ds ← all_variables_at n p.1
      Ok (ds.0, ds.1)) else (do
        d ← procedure_at ts
        Ok (d.0 ∷ [], d.1))))

abbrev pub begins_declaration : List Token → Bool
begins_declaration ts = next_in (Const ∷ «Type» ∷ Var ∷ Procedure ∷ []) ts

abbrev pub declarations_at : ℕ → Read (List Decl)
declarations_at n ts = repeat begins_declaration (declaration_at n) all (length ts) ts

-- [BEGIN Stmts]
unfoldable pub body_at : ℕ → Read (List Statement)
body_at n ts =
    if next_is Begin ts then (do
      p ← expect Begin ts
      ss ← statements_with n (statement_at n) p.1
      Ok (ss.0, ss.1)) else Ok ([], ts)

-- Block ident
unfoldable pub block_at : ℕ → Read Block
block_at n ts = do
  ds ← declarations_at n ts
  b ← body_at n ds.1
  e ← expect End b.1
  i ← ident_at e.1
  Ok (record { decls = ds.0; body = b.0; close = i.0 }, i.1)

-- DefDecl

unfoldable pub definition_declaration_at : ℕ → Read (List Decl)
definition_declaration_at n ts =
    if next_is Const ts then (do
      p ← expect Const ts
      ds ← constants_at n p.1
      Ok (ds.0, ds.1)) else
    (if next_is «Type» ts then (do
      p ← expect «Type» ts
      ds ← defined_types_at n p.1
      Ok (ds.0, ds.1)) else
    (if next_is Var ts then (do
      p ← expect Var ts
      ds ← all_variables_at n p.1
      Ok (ds.0, ds.1)) else (do
        h ← heading_at ts
        s ← expect Semicolon h.1
        Ok (proc_decl h.0 0 ∷ [], s.1))))

abbrev pub definition_declarations_at : ℕ → Read (List Decl)
definition_declarations_at n ts = repeat begins_declaration (definition_declaration_at n) all (length ts) ts

-- Import = [FROM ident] IMPORT Idents ";"
unfoldable pub from_at : Read (Option Ident)
from_at ts =
    if next_is From ts then (do
      p ← expect From ts
      i ← ident_at p.1
      Ok (Some i.0, i.1)) else Ok (None, ts)

unfoldable pub import_at : Read ImportTree
import_at ts = do
  f ← from_at ts
  p ← expect Import f.1
  is ← idents_at p.1
  s ← expect Semicolon is.1
  Ok (record { from = f.0; names = is.0 }, s.1)

abbrev pub begins_import : List Token → Bool
begins_import ts = next_in (From ∷ Import ∷ []) ts

abbrev pub imports_at : Read (List ImportTree)
imports_at ts = repeat begins_import import_at itself (length ts) ts

-- [IMPLEMENTATION]
unfoldable pub implementation_at : Read Bool
implementation_at ts =
    if next_is Implementation ts then (do
      p ← expect Implementation ts
      Ok (true, p.1)) else Ok (false, ts)

-- Export = EXPORT QUALIFIED Idents ";", which leaves no entry
unfoldable pub export_at : Read (List Ident)
export_at ts =
    if next_is Export ts then (do
      p ← expect Export ts
      q ← expect Qualified p.1
      is ← idents_at q.1
      s ← expect Semicolon is.1
      Ok ([], s.1)) else Ok ([], ts)

-- Main
unfoldable pub main_at : ℕ → Read Stream
main_at n ts = do
  k ← implementation_at ts
  m ← expect Module k.1
  i ← ident_at m.1
  s ← expect Semicolon i.1
  is ← imports_at s.1
  b ← block_at n is.1
  p ← expect Period b.1
  e ← expect EndOfText p.1
  Ok (main_tree k.0 i.0 is.0 b.0, e.1)

-- Definition
unfoldable pub definition_at : ℕ → Read Stream
definition_at n ts = do
  k ← expect Definition ts
  m ← expect Module k.1
  i ← ident_at m.1
  s ← expect Semicolon i.1
  is ← imports_at s.1
  x ← export_at is.1
  ds ← definition_declarations_at n x.1
  f ← expect End ds.1
  c ← ident_at f.1
  p ← expect Period c.1
  e ← expect EndOfText p.1
  Ok (definition_tree i.0 is.0 ds.0 c.0, e.1)

-- Procedure = Heading ";" Block ident ";" StreamEnd
unfoldable pub procedure_stream_at : ℕ → Read Stream
procedure_stream_at n ts = do
  h ← heading_at ts
  s ← expect Semicolon h.1
  b ← block_at n s.1
  t ← expect Semicolon b.1
  e ← expect StreamEnd t.1
  Ok (procedure_tree h.0 b.0, e.1)

-- a stream of this kind
unfoldable pub stream_at : ℕ → StreamKind → Read Stream
stream_at n streams.Main ts = main_at n ts
stream_at n streams.Definition ts = definition_at n ts
stream_at n streams.Procedure ts = procedure_stream_at n ts
