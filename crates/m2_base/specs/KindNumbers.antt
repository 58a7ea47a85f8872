-- The numbers of the kinds of token.
use Rattle.std.specs.Prelude.{ℕ, List, [], ◌∷◌}
use Rattle.m2_base.specs.declared.kind.TokenKind.{TokenKind}
use Rattle.m2_base.specs.declared.kind.TokenKind.TheVariants.{EndOfText, Identifier, Number, Character, String, Bad}
use Rattle.m2_base.specs.declared.kind.TokenKind.TheVariants.{Cut, StreamEnd, And, Array, Begin, By, Case, Const}
use Rattle.m2_base.specs.declared.kind.TokenKind.TheVariants.{Definition, Div, Do, Else, Elsif, End, Exit, Export, For}
use Rattle.m2_base.specs.declared.kind.TokenKind.TheVariants.{From, If, Implementation, Import, In, Loop, Mod, Module}
use Rattle.m2_base.specs.declared.kind.TokenKind.TheVariants.{Not, Of, Or, Pointer, Procedure, Qualified, Record}
use Rattle.m2_base.specs.declared.kind.TokenKind.TheVariants.{Repeat, Return, Set, Then, To, «Type», Until, Var, While}
use Rattle.m2_base.specs.declared.kind.TokenKind.TheVariants.{With, Plus, Minus, Times, Slash, Becomes, Period, Comma}
use Rattle.m2_base.specs.declared.kind.TokenKind.TheVariants.{Semicolon, LeftParenthesis, LeftBracket, LeftBrace}
use Rattle.m2_base.specs.declared.kind.TokenKind.TheVariants.{Arrow, Equal, Unequal, Less, Greater, LessEqual}
use Rattle.m2_base.specs.declared.kind.TokenKind.TheVariants.{GreaterEqual, Ellipsis, Colon, RightParenthesis}
use Rattle.m2_base.specs.declared.kind.TokenKind.TheVariants.{RightBracket, RightBrace, Bar}
use Rattle.m2_base.specs.declared.token.Token.{Token}

abbrev pub kind_number : TokenKind → ℕ
kind_number EndOfText = 0
kind_number Identifier = 1
kind_number Number = 2
kind_number Character = 3
kind_number String = 4
kind_number Bad = 5
kind_number Cut = 6
kind_number StreamEnd = 7
kind_number And = 10
kind_number Array = 11
kind_number Begin = 12
kind_number By = 13
kind_number Case = 14
kind_number Const = 15
kind_number Definition = 16
kind_number Div = 17
kind_number Do = 18
kind_number Else = 19
kind_number Elsif = 20
kind_number End = 21
kind_number Exit = 22
kind_number Export = 23
kind_number For = 24
kind_number From = 25
kind_number If = 26
kind_number Implementation = 27
kind_number Import = 28
kind_number In = 29
kind_number Loop = 30
kind_number Mod = 31
kind_number Module = 32
kind_number Not = 33
kind_number Of = 34
kind_number Or = 35
kind_number Pointer = 36
kind_number Procedure = 37
kind_number Qualified = 38
kind_number Record = 39
kind_number Repeat = 40
kind_number Return = 41
kind_number Set = 42
kind_number Then = 43
kind_number To = 44
kind_number «Type» = 45
kind_number Until = 46
kind_number Var = 47
kind_number While = 48
kind_number With = 49
kind_number Plus = 50
kind_number Minus = 51
kind_number Times = 52
kind_number Slash = 53
kind_number Becomes = 54
kind_number Period = 55
kind_number Comma = 56
kind_number Semicolon = 57
kind_number LeftParenthesis = 58
kind_number LeftBracket = 59
kind_number LeftBrace = 60
kind_number Arrow = 61
kind_number Equal = 62
kind_number Unequal = 63
kind_number Less = 64
kind_number Greater = 65
kind_number LessEqual = 66
kind_number GreaterEqual = 67
kind_number Ellipsis = 68
kind_number Colon = 69
kind_number RightParenthesis = 70
kind_number RightBracket = 71
kind_number RightBrace = 72
kind_number Bar = 73

-- each kind once
abbrev pub all_kinds : List TokenKind
all_kinds =
    EndOfText
    ∷ Identifier
    ∷ Number
    ∷ Character
    ∷ String
    ∷ Bad
    ∷ Cut
    ∷ StreamEnd
    ∷ And
    ∷ Array
    ∷ Begin
    ∷ By
    ∷ Case
    ∷ Const
    ∷ Definition
    ∷ Div
    ∷ Do
    ∷ Else
    ∷ Elsif
    ∷ End
    ∷ Exit
    ∷ Export
    ∷ For
    ∷ From
    ∷ If
    ∷ Implementation
    ∷ Import
    ∷ In
    ∷ Loop
    ∷ Mod
    ∷ Module
    ∷ Not
    ∷ Of
    ∷ Or
    ∷ Pointer
    ∷ Procedure
    ∷ Qualified
    ∷ Record
    ∷ Repeat
    ∷ Return
    ∷ Set
    ∷ Then
    ∷ To
    ∷ «Type»
    ∷ Until
    ∷ Var
    ∷ While
    ∷ With
    ∷ Plus
    ∷ Minus
    ∷ Times
    ∷ Slash
    ∷ Becomes
    ∷ Period
    ∷ Comma
    ∷ Semicolon
    ∷ LeftParenthesis
    ∷ LeftBracket
    ∷ LeftBrace
    ∷ Arrow
    ∷ Equal
    ∷ Unequal
    ∷ Less
    ∷ Greater
    ∷ LessEqual
    ∷ GreaterEqual
    ∷ Ellipsis
    ∷ Colon
    ∷ RightParenthesis
    ∷ RightBracket
    ∷ RightBrace
    ∷ Bar
    ∷ []

-- a token of this kind
abbrev pub sample : TokenKind → Token
sample kind = record { kind = kind; value = 0; at = 0; line = 0; column = 0 }
