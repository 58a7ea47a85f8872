-- The grammar of the language, as data. Above each rule stands its EBNF: [x] is optional, {x} is repeated, | separates
-- choices. A text can be read with one token of look-ahead.
--
-- Nesting counts Factor, Stmt, Type and FieldList: they have the numbers 1 to 4. An empty Stmt or FieldList is outside
-- its rule. Rule 0 is the procedure that is declared in a text; in a stream `Heading ";" Cut` stands in its place.
use Rattle.std.specs.Prelude.{ℕ, zero, suc, List, [], ◌∷◌, map}
use Rattle.m2_base.specs.declared.kind.TokenKind.{TokenKind}
use Rattle.m2_base.specs.declared.kind.TokenKind.TheVariants.{EndOfText, Identifier, Number, Character, String, Cut}
use Rattle.m2_base.specs.declared.kind.TokenKind.TheVariants.{StreamEnd, And, Array, Begin, By, Case, Const}
use Rattle.m2_base.specs.declared.kind.TokenKind.TheVariants.{Definition, Div, Do, Else, Elsif, End, Exit, Export, For}
use Rattle.m2_base.specs.declared.kind.TokenKind.TheVariants.{From, If, Implementation, Import, In, Loop, Mod, Module}
use Rattle.m2_base.specs.declared.kind.TokenKind.TheVariants.{Not, Of, Or, Pointer, Procedure, Qualified, Record}
use Rattle.m2_base.specs.declared.kind.TokenKind.TheVariants.{Repeat, Return, Set, Then, To, «Type», Until, Var, While}
use Rattle.m2_base.specs.declared.kind.TokenKind.TheVariants.{With, Plus, Minus, Times, Slash, Becomes, Period, Comma}
use Rattle.m2_base.specs.declared.kind.TokenKind.TheVariants.{Semicolon, LeftParenthesis, LeftBracket, LeftBrace}
use Rattle.m2_base.specs.declared.kind.TokenKind.TheVariants.{Arrow, Equal, Unequal, Less, Greater, LessEqual}
use Rattle.m2_base.specs.declared.kind.TokenKind.TheVariants.{GreaterEqual, Ellipsis, Colon, RightParenthesis}
use Rattle.m2_base.specs.declared.kind.TokenKind.TheVariants.{RightBracket, RightBrace, Bar}
use Rattle.m2_base.specs.declared.token.Token.{Token}
use Rattle.m2_base.specs.declared.trees.declarations.StreamKind.{StreamKind}
use Rattle.m2_base.specs.declared.trees.declarations.StreamKind.TheVariants as streams
use Rattle.m2_base.specs.KindNumbers.{kind_number, all_kinds, sample}
use Rattle.ll_grammar.specs.Grammar.{Rule, empty, token, then, or, many, deep, sub, ◌⨾◌, optional, Grammar}
use Rattle.ll_grammar.specs.Grammar as grammars

-- one token of this kind
abbrev pub a : TokenKind → Rule
a kind = grammars.one (kind_number kind)

-- one token of one of these kinds
abbrev pub any : List TokenKind → Rule
any kinds = token (map kind_number kinds)

-- r {k r}
abbrev pub list : Rule → TokenKind → Rule
list r kind = grammars.list r (kind_number kind)

-- r | s
infixr 4 ◌∣◌
abbrev pub ◌∣◌ : Rule → Rule → Rule
r ∣ s = or r s

abbrev pub ident : Rule
ident = a Identifier

-- Idents = ident {"," ident}
abbrev pub idents : Rule
idents = list ident Comma

-- Qual = ident ["." ident]
abbrev pub second_name : Rule
second_name = optional (a Period ⨾ ident)

abbrev pub qual : Rule
qual = ident ⨾ second_name

-- Expressions.

abbrev pub factor : Rule
factor = deep 1

-- Term = Factor {("*"|"/"|DIV|MOD|AND) Factor}
abbrev pub multiplying : List TokenKind
multiplying = Times ∷ Slash ∷ Div ∷ Mod ∷ And ∷ []

abbrev pub term : Rule
term = factor ⨾ many (any multiplying ⨾ factor)

-- Sum = ["+"|"-"] Term {("+"|"-"|OR) Term}
abbrev pub signs : List TokenKind
signs = Plus ∷ Minus ∷ []

abbrev pub adding : List TokenKind
adding = Plus ∷ Minus ∷ Or ∷ []

-- ["+"|"-"] Term
abbrev pub first_term : Rule
first_term = any signs ⨾ term ∣ term

abbrev pub sum : Rule
sum = first_term ⨾ many (any adding ⨾ term)

-- Expr = Sum [("="|"#"|"<"|"<="|">"|">="|IN) Sum]
abbrev pub relations : List TokenKind
relations = Equal ∷ Unequal ∷ Less ∷ LessEqual ∷ Greater ∷ GreaterEqual ∷ In ∷ []

abbrev pub relation : Rule
relation = optional (any relations ⨾ sum)

abbrev pub expr : Rule
expr = sum ⨾ relation

-- Label = Expr [".." Expr], and so is Element
abbrev pub upper : Rule
upper = optional (a Ellipsis ⨾ expr)

abbrev pub label : Rule
label = expr ⨾ upper

-- Labels = Label {"," Label}
abbrev pub labels : Rule
labels = list label Comma

-- Set = "{" [Element {"," Element}] "}"
abbrev pub elements : Rule
elements = optional labels

abbrev pub set_rule : Rule
set_rule = a LeftBrace ⨾ elements ⨾ a RightBrace

-- Actuals = "(" [Expr {"," Expr}] ")"
abbrev pub exprs : Rule
exprs = list expr Comma

abbrev pub arguments : Rule
arguments = optional exprs

abbrev pub actuals : Rule
actuals = a LeftParenthesis ⨾ arguments ⨾ a RightParenthesis

-- Designator = ident {"." ident | "[" Expr {"," Expr} "]" | "^"}
abbrev pub selector : Rule
selector = a Period ⨾ ident ∣ a LeftBracket ⨾ exprs ⨾ a RightBracket ∣ a Arrow

abbrev pub designator : Rule
designator = ident ⨾ many selector

-- Factor = number | char | string | Set | Designator [Set | Actuals] | "(" Expr ")" | NOT Factor
abbrev pub designated : Rule
designated = designator ⨾ (set_rule ∣ actuals ∣ empty)

abbrev pub factor_rule : Rule
factor_rule =
    a Number ∣ a Character ∣ a String ∣ set_rule ∣ designated ∣ a LeftParenthesis ⨾ expr ⨾ a RightParenthesis ∣ a Not
    ⨾ factor

-- Types.

abbrev pub type_expr : Rule
type_expr = deep 3

-- Range = "[" Expr ".." Expr "]"
abbrev pub range : Rule
range = a LeftBracket ⨾ expr ⨾ a Ellipsis ⨾ expr ⨾ a RightBracket

-- Simple = Qual [Range] | "(" Idents ")" | Range
abbrev pub simple : Rule
simple = qual ⨾ optional range ∣ a LeftParenthesis ⨾ idents ⨾ a RightParenthesis ∣ range

-- Formal = [VAR] [ARRAY OF] Qual
abbrev pub by_reference : Rule
by_reference = optional (a Var)

abbrev pub open_array : Rule
open_array = optional (a Array ⨾ a Of)

abbrev pub formal : Rule
formal = by_reference ⨾ open_array ⨾ qual

-- [":" Qual]
abbrev pub result : Rule
result = optional (a Colon ⨾ qual)

-- ["(" [Formal {"," Formal}] ")" [":" Qual]]
abbrev pub formals : Rule
formals = optional (a LeftParenthesis ⨾ optional (list formal Comma) ⨾ a RightParenthesis ⨾ result)

-- Fields = FieldList {";" FieldList}
abbrev pub one_field : Rule
one_field = deep 4

abbrev pub field_list : Rule
field_list = optional one_field

abbrev pub fields : Rule
fields = list field_list Semicolon

-- Type = Simple | ARRAY Simple {"," Simple} OF Type | RECORD Fields END | SET OF Simple | POINTER TO Type
--      | PROCEDURE ["(" [Formal {"," Formal}] ")" [":" Qual]]
abbrev pub type_rule : Rule
type_rule =
    simple
    ∣ a Array ⨾ list simple Comma ⨾ a Of ⨾ type_expr
    ∣ a Record ⨾ fields ⨾ a End
    ∣ a Set ⨾ a Of ⨾ simple
    ∣ a Pointer ⨾ a To ⨾ type_expr
    ∣ a Procedure ⨾ formals

-- Variant = [Labels ":" Fields]
abbrev pub variant : Rule
variant = optional (labels ⨾ a Colon ⨾ fields)

-- [ELSE Fields]
abbrev pub other_fields : Rule
other_fields = optional (a Else ⨾ fields)

-- FieldList = [Idents ":" Type | CASE [ident] ":" Qual OF Variant {"|" Variant} [ELSE Fields] END]
abbrev pub case_fields_rule : Rule
case_fields_rule = a Case ⨾ optional ident ⨾ a Colon ⨾ qual ⨾ a Of ⨾ list variant Bar ⨾ other_fields ⨾ a End

abbrev pub field_list_rule : Rule
field_list_rule = idents ⨾ a Colon ⨾ type_expr ∣ case_fields_rule

-- Statements.

abbrev pub one_statement : Rule
one_statement = deep 2

abbrev pub statement : Rule
statement = optional one_statement

-- Stmts = Stmt {";" Stmt}
abbrev pub statements : Rule
statements = list statement Semicolon

-- [ELSE Stmts]
abbrev pub otherwise : Rule
otherwise = optional (a Else ⨾ statements)

-- Expr THEN Stmts, behind IF or ELSIF
abbrev pub if_arm : Rule
if_arm = expr ⨾ a Then ⨾ statements

-- Arm = [Labels ":" Stmts]
abbrev pub arm : Rule
arm = optional (labels ⨾ a Colon ⨾ statements)

-- [BY Expr]
abbrev pub step : Rule
step = optional (a By ⨾ expr)

-- Stmt = [Designator (":=" Expr | [Actuals])
--      | IF Expr THEN Stmts {ELSIF Expr THEN Stmts} [ELSE Stmts] END
--      | CASE Expr OF Arm {"|" Arm} [ELSE Stmts] END
--      | WHILE Expr DO Stmts END | REPEAT Stmts UNTIL Expr
--      | LOOP Stmts END | EXIT | RETURN [Expr]
--      | FOR ident ":=" Expr TO Expr [BY Expr] DO Stmts END
--      | WITH Designator DO Stmts END]
abbrev pub designated_statement : Rule
designated_statement = designator ⨾ (a Becomes ⨾ expr ∣ optional actuals)

abbrev pub if_rule : Rule
if_rule = a If ⨾ if_arm ⨾ many (a Elsif ⨾ if_arm) ⨾ otherwise ⨾ a End

abbrev pub case_rule : Rule
case_rule = a Case ⨾ expr ⨾ a Of ⨾ list arm Bar ⨾ otherwise ⨾ a End

abbrev pub while_rule : Rule
while_rule = a While ⨾ expr ⨾ a Do ⨾ statements ⨾ a End

abbrev pub repeat_rule : Rule
repeat_rule = a Repeat ⨾ statements ⨾ a Until ⨾ expr

abbrev pub loop_rule : Rule
loop_rule = a Loop ⨾ statements ⨾ a End

abbrev pub for_rule : Rule
for_rule = a For ⨾ ident ⨾ a Becomes ⨾ expr ⨾ a To ⨾ expr ⨾ step ⨾ a Do ⨾ statements ⨾ a End

abbrev pub with_rule : Rule
with_rule = a With ⨾ designator ⨾ a Do ⨾ statements ⨾ a End

abbrev pub statement_rule : Rule
statement_rule =
    designated_statement ∣ if_rule ∣ case_rule ∣ while_rule ∣ repeat_rule ∣ loop_rule ∣ a Exit ∣ a Return
    ⨾ optional expr ∣ for_rule ∣ with_rule

-- Declarations. What is said of a procedure's block is a parameter: in a text it is the block, in a stream its cut.

-- Section = [VAR] Idents ":" [ARRAY OF] Qual
abbrev pub section : Rule
section = by_reference ⨾ idents ⨾ a Colon ⨾ open_array ⨾ qual

-- Heading = PROCEDURE ident ["(" [Section {";" Section}] ")" [":" Qual]]
abbrev pub parameters : Rule
parameters = optional (a LeftParenthesis ⨾ optional (list section Semicolon) ⨾ a RightParenthesis ⨾ result)

abbrev pub heading : Rule
heading = a Procedure ⨾ ident ⨾ parameters

-- Decl = CONST {ident "=" Expr ";"} | TYPE {ident "=" Type ";"} | VAR {Idents ":" Type
-- ";"} | Heading ";" Block ident ";"
abbrev pub constant : Rule
constant = ident ⨾ a Equal ⨾ expr ⨾ a Semicolon

abbrev pub type_declaration : Rule
type_declaration = ident ⨾ a Equal ⨾ type_expr ⨾ a Semicolon

abbrev pub variables : Rule
variables = idents ⨾ a Colon ⨾ type_expr ⨾ a Semicolon

abbrev pub declaration : Rule → Rule
declaration procedure = a Const ⨾ many constant ∣ a «Type» ⨾ many type_declaration ∣ a Var ⨾ many variables ∣ procedure

-- Block = {Decl} [BEGIN Stmts] END
abbrev pub body : Rule
body = optional (a Begin ⨾ statements)

-- Block ident
abbrev pub block : Rule → Rule
block procedure = many (declaration procedure) ⨾ body ⨾ a End ⨾ ident

-- DefDecl = CONST {ident "=" Expr ";"} | TYPE {ident ["=" Type] ";"} | VAR {Idents ":" Type ";"} | Heading ";"
abbrev pub defined_type : Rule
defined_type = ident ⨾ optional (a Equal ⨾ type_expr) ⨾ a Semicolon

abbrev pub definition_declaration : Rule
definition_declaration =
    a Const ⨾ many constant ∣ a «Type» ⨾ many defined_type ∣ a Var ⨾ many variables ∣ heading ⨾ a Semicolon

-- Import = [FROM ident] IMPORT Idents ";"
abbrev pub from : Rule
from = optional (a From ⨾ ident)

abbrev pub imported : Rule
imported = from ⨾ a Import ⨾ idents ⨾ a Semicolon

-- Export = EXPORT QUALIFIED Idents ";"
abbrev pub export : Rule
export = optional (a Export ⨾ a Qualified ⨾ idents ⨾ a Semicolon)

-- Texts and streams.

-- a procedure in a text is rule 0, and in a stream its heading and its cut
abbrev pub procedure_rule : Rule
procedure_rule = heading ⨾ a Semicolon ⨾ block sub ⨾ a Semicolon

abbrev pub procedure_cut : Rule
procedure_cut = heading ⨾ a Semicolon ⨾ a Cut

-- Main = [IMPLEMENTATION] MODULE ident ";" {Import} Block ident "." End
abbrev pub main : Rule → Rule
main procedure = optional (a Implementation) ⨾ a Module ⨾ ident ⨾ a Semicolon ⨾ many imported ⨾ block procedure
    ⨾ a Period ⨾ a EndOfText

-- Definition = DEFINITION MODULE ident ";" {Import} [Export] {DefDecl} END ident "." End
abbrev pub definition : Rule
definition =
    a Definition ⨾ a Module ⨾ ident ⨾ a Semicolon ⨾ many imported ⨾ export ⨾ many definition_declaration ⨾ a End
    ⨾ ident ⨾ a Period ⨾ a EndOfText

-- Procedure = Heading ";" Block ident ";" StreamEnd
abbrev pub procedure_stream : Rule
procedure_stream = heading ⨾ a Semicolon ⨾ block procedure_cut ⨾ a Semicolon ⨾ a StreamEnd

-- the right side that a stream of this kind is read by
abbrev pub stream : StreamKind → Rule
stream streams.Main = main procedure_cut
stream streams.Definition = definition
stream streams.Procedure = procedure_stream

-- how deep a token may be nested
abbrev pub levels : ℕ
levels = 100

-- the rules that a right side goes back to
abbrev pub rule : ℕ → Rule
rule zero = procedure_rule
rule (suc zero) = factor_rule
rule (suc (suc zero)) = statement_rule
rule (suc (suc (suc zero))) = type_rule
rule (suc (suc (suc (suc zero)))) = field_list_rule
-- no other number is used
rule (suc (suc (suc (suc (suc n))))) = a Number

-- the kinds that may follow each of them
abbrev pub follows : ℕ → List TokenKind
follows zero = Const ∷ «Type» ∷ Var ∷ Procedure ∷ Begin ∷ End ∷ []
follows (suc zero) =
    Times ∷ Slash ∷ Div ∷ Mod ∷ And ∷ Plus ∷ Minus ∷ Or ∷ Equal ∷ Unequal ∷ Less ∷ LessEqual ∷ Greater ∷ GreaterEqual
    ∷ In
    ∷ RightParenthesis ∷ RightBracket ∷ RightBrace ∷ Comma ∷ Ellipsis ∷ Semicolon ∷ End ∷ Else ∷ Elsif ∷ Then ∷ Of ∷ Do
    ∷ To ∷ By
    ∷ Until ∷ Colon ∷ Bar ∷ []
follows (suc (suc zero)) = Semicolon ∷ End ∷ Elsif ∷ Else ∷ Until ∷ Bar ∷ []
follows (suc (suc (suc zero))) = Semicolon ∷ End ∷ Bar ∷ Else ∷ []
follows (suc (suc (suc (suc zero)))) = Semicolon ∷ End ∷ Bar ∷ Else ∷ []
follows (suc (suc (suc (suc (suc n))))) = []

-- the kind's number of a token
abbrev pub number_of_token : Token → ℕ
number_of_token t = kind_number t.kind

abbrev pub grammar : Grammar Token
grammar = record {
  kind = number_of_token;
  samples = map sample all_kinds;
  rule = rule;
  follows = λ n. map kind_number (follows n);
  rounds = 2;
}
