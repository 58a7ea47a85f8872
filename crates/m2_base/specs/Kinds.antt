-- The kinds of token: what spells the reserved words and the symbols.
use Rattle.std.specs.Prelude.{ℕ, ◌≤◌, ◌==◌, Bool, false, not, IsTrue, List, [], ◌∷◌, take, drop, Option, option_map}
use Rattle.std.specs.Prelude.{find, codes}
use Rattle.std.specs.List.{list_all}
use Rattle.std.specs.Str.{bytes_eq}
use Rattle.m2_base.specs.declared.kind.TokenKind.{TokenKind}
use Rattle.m2_base.specs.declared.kind.TokenKind.TheVariants.{And, Array, Begin, By, Case, Const, Definition, Div, Do}
use Rattle.m2_base.specs.declared.kind.TokenKind.TheVariants.{Else, Elsif, End, Exit, Export, For, From, If}
use Rattle.m2_base.specs.declared.kind.TokenKind.TheVariants.{Implementation, Import, In, Loop, Mod, Module, Not, Of}
use Rattle.m2_base.specs.declared.kind.TokenKind.TheVariants.{Or, Pointer, Procedure, Qualified, Record, Repeat}
use Rattle.m2_base.specs.declared.kind.TokenKind.TheVariants.{Return, Set, Then, To, «Type», Until, Var, While, With}
use Rattle.m2_base.specs.declared.kind.TokenKind.TheVariants.{Plus, Minus, Times, Slash, Becomes, Period, Comma}
use Rattle.m2_base.specs.declared.kind.TokenKind.TheVariants.{Semicolon, LeftParenthesis, LeftBracket, LeftBrace}
use Rattle.m2_base.specs.declared.kind.TokenKind.TheVariants.{Arrow, Equal, Unequal, Less, Greater, LessEqual}
use Rattle.m2_base.specs.declared.kind.TokenKind.TheVariants.{GreaterEqual, Ellipsis, Colon, RightParenthesis}
use Rattle.m2_base.specs.declared.kind.TokenKind.TheVariants.{RightBracket, RightBrace, Bar}

-- the kind that the table has for these bytes
abbrev pub kind_in : List (List ℕ × TokenKind) → List ℕ → Option TokenKind
kind_in table spelling = option_map (λ entry. entry.1) (find (λ entry. bytes_eq spelling entry.0) table)

-- the reserved words, in the order of their kinds
abbrev pub reserved_words : List (List ℕ × TokenKind)
reserved_words =
    (codes "AND", And)
    ∷ (codes "ARRAY", Array)
    ∷ (codes "BEGIN", Begin)
    ∷ (codes "BY", By)
    ∷ (codes "CASE", Case)
    ∷ (codes "CONST", Const)
    ∷ (codes "DEFINITION", Definition)
    ∷ (codes "DIV", Div)
    ∷ (codes "DO", Do)
    ∷ (codes "ELSE", Else)
    ∷ (codes "ELSIF", Elsif)
    ∷ (codes "END", End)
    ∷ (codes "EXIT", Exit)
    ∷ (codes "EXPORT", Export)
    ∷ (codes "FOR", For)
    ∷ (codes "FROM", From)
    ∷ (codes "IF", If)
    ∷ (codes "IMPLEMENTATION", Implementation)
    ∷ (codes "IMPORT", Import)
    ∷ (codes "IN", In)
    ∷ (codes "LOOP", Loop)
    ∷ (codes "MOD", Mod)
    ∷ (codes "MODULE", Module)
    ∷ (codes "NOT", Not)
    ∷ (codes "OF", Of)
    ∷ (codes "OR", Or)
    ∷ (codes "POINTER", Pointer)
    ∷ (codes "PROCEDURE", Procedure)
    ∷ (codes "QUALIFIED", Qualified)
    ∷ (codes "RECORD", Record)
    ∷ (codes "REPEAT", Repeat)
    ∷ (codes "RETURN", Return)
    ∷ (codes "SET", Set)
    ∷ (codes "THEN", Then)
    ∷ (codes "TO", To)
    ∷ (codes "TYPE", «Type»)
    ∷ (codes "UNTIL", Until)
    ∷ (codes "VAR", Var)
    ∷ (codes "WHILE", While)
    ∷ (codes "WITH", With)
    ∷ []

-- the symbols, the common ones first; three have a second spelling
abbrev pub symbols : List (List ℕ × TokenKind)
symbols =
    (codes ";", Semicolon)
    ∷ (codes ",", Comma)
    ∷ (codes ")", RightParenthesis)
    ∷ (codes "(", LeftParenthesis)
    ∷ (codes ":=", Becomes)
    ∷ (codes ":", Colon)
    ∷ (codes ".", Period)
    ∷ (codes "=", Equal)
    ∷ (codes "+", Plus)
    ∷ (codes "-", Minus)
    ∷ (codes "*", Times)
    ∷ (codes "[", LeftBracket)
    ∷ (codes "]", RightBracket)
    ∷ (codes "^", Arrow)
    ∷ (codes "<", Less)
    ∷ (codes ">", Greater)
    ∷ (codes "#", Unequal)
    ∷ (codes "<=", LessEqual)
    ∷ (codes ">=", GreaterEqual)
    ∷ (codes "..", Ellipsis)
    ∷ (codes "|", Bar)
    ∷ (codes "/", Slash)
    ∷ (codes "{", LeftBrace)
    ∷ (codes "}", RightBrace)
    ∷ (codes "<>", Unequal)
    ∷ (codes "&", And)
    ∷ (codes "~", Not)
    ∷ []

abbrev pub begins_with : ℕ → List ℕ → Bool
begins_with first [] = false
begins_with first (b ∷ bs) = b == first

-- the reserved words that begin with this byte stand in their table from one place on, and all before another
pub record IsSpan (first start end : ℕ) : Type 0 where
  pub order : start ≤ end
  pub within : end ≤ 40
  pub before : IsTrue (list_all (λ entry. not (begins_with first entry.0)) (take start reserved_words))
  pub behind : IsTrue (list_all (λ entry. not (begins_with first entry.0)) (drop end reserved_words))
