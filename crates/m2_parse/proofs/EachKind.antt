-- Each kind of token is in the list of all.
use Rattle.std.proofs.Common.{◌≡◌, true, map, refl}
use Rattle.m2_base.specs.declared.kind.TokenKind.{TokenKind}
use Rattle.m2_base.specs.declared.kind.TokenKind.TheVariants.{EndOfText, Identifier, Number, Character, String, Bad, Cut, StreamEnd, And, Array, Begin, By, Case, Const, Definition, Div, Do, Else, Elsif, End, Exit, Export, For, From, If, Implementation, Import, In, Loop, Mod, Module, Not, Of, Or, Pointer, Procedure, Qualified, Record, Repeat, Return, Set, Then, To, «Type», Until, Var, While, With, Plus, Minus, Times, Slash, Becomes, Period, Comma, Semicolon, LeftParenthesis, LeftBracket, LeftBrace, Arrow, Equal, Unequal, Less, Greater, LessEqual, GreaterEqual, Ellipsis, Colon, RightParenthesis, RightBracket, RightBrace, Bar}
use Rattle.m2_base.specs.KindNumbers.{kind_number, all_kinds}
use Rattle.ll_grammar.specs.LookAhead.{member}

pub is_in_all : (kind : TokenKind) → member (kind_number kind) (map kind_number all_kinds) ≡ true
is_in_all EndOfText = refl
is_in_all Identifier = refl
is_in_all Number = refl
is_in_all Character = refl
is_in_all String = refl
is_in_all Bad = refl
is_in_all Cut = refl
is_in_all StreamEnd = refl
is_in_all And = refl
is_in_all Array = refl
is_in_all Begin = refl
is_in_all By = refl
is_in_all Case = refl
is_in_all Const = refl
is_in_all Definition = refl
is_in_all Div = refl
is_in_all Do = refl
is_in_all Else = refl
is_in_all Elsif = refl
is_in_all End = refl
is_in_all Exit = refl
is_in_all Export = refl
is_in_all For = refl
is_in_all From = refl
is_in_all If = refl
is_in_all Implementation = refl
is_in_all Import = refl
is_in_all In = refl
is_in_all Loop = refl
is_in_all Mod = refl
is_in_all Module = refl
is_in_all Not = refl
is_in_all Of = refl
is_in_all Or = refl
is_in_all Pointer = refl
is_in_all Procedure = refl
is_in_all Qualified = refl
is_in_all Record = refl
is_in_all Repeat = refl
is_in_all Return = refl
is_in_all Set = refl
is_in_all Then = refl
is_in_all To = refl
is_in_all «Type» = refl
is_in_all Until = refl
is_in_all Var = refl
is_in_all While = refl
is_in_all With = refl
is_in_all Plus = refl
is_in_all Minus = refl
is_in_all Times = refl
is_in_all Slash = refl
is_in_all Becomes = refl
is_in_all Period = refl
is_in_all Comma = refl
is_in_all Semicolon = refl
is_in_all LeftParenthesis = refl
is_in_all LeftBracket = refl
is_in_all LeftBrace = refl
is_in_all Arrow = refl
is_in_all Equal = refl
is_in_all Unequal = refl
is_in_all Less = refl
is_in_all Greater = refl
is_in_all LessEqual = refl
is_in_all GreaterEqual = refl
is_in_all Ellipsis = refl
is_in_all Colon = refl
is_in_all RightParenthesis = refl
is_in_all RightBracket = refl
is_in_all RightBrace = refl
is_in_all Bar = refl
