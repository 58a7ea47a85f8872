-- What can be wrong with a text: the code of each diagnostic, and what a listing says of it.
use Rattle.std.specs.Prelude.{ℕ, ◌==◌, List, [], ◌∷◌, Option, Some, None, codes, find}
use Rattle.m2_base.specs.declared.diagnostic.Diagnostic.{Diagnostic}
use Rattle.m2_base.specs.declared.diagnostic.Diagnostic.TheVariants.{CharacterNotAllowed, CommentNotClosed}
use Rattle.m2_base.specs.declared.diagnostic.Diagnostic.TheVariants.{StringNotClosed, NumberTooLarge, UnexpectedToken}
use Rattle.m2_base.specs.declared.diagnostic.Diagnostic.TheVariants.{ClosingNameDiffers, NoDefinitionText}
use Rattle.m2_base.specs.declared.diagnostic.Diagnostic.TheVariants.{OtherModuleName, CircularImports, UnknownName}
use Rattle.m2_base.specs.declared.diagnostic.Diagnostic.TheVariants.{UsedBefore, DeclaredTwice, StandardDeclared}
use Rattle.m2_base.specs.declared.diagnostic.Diagnostic.TheVariants.{NotDeclaredThere, NotAType, NotAConstant}
use Rattle.m2_base.specs.declared.diagnostic.Diagnostic.TheVariants.{OutOfRange, NotAVariable, WrongOperands}
use Rattle.m2_base.specs.declared.diagnostic.Diagnostic.TheVariants.{NotAssignable, NoSuchField, NotAnArray}
use Rattle.m2_base.specs.declared.diagnostic.Diagnostic.TheVariants.{NotAPointer, NotAProcedure, WrongCount}
use Rattle.m2_base.specs.declared.diagnostic.Diagnostic.TheVariants.{WrongArgument, NotBoolean, WrongLabel}
use Rattle.m2_base.specs.declared.diagnostic.Diagnostic.TheVariants.{ExitOutsideLoop, WrongReturn, WrongIndex}
use Rattle.m2_base.specs.declared.diagnostic.Diagnostic.TheVariants.{TooManyCells, NotAControlVariable, NotImplemented}
use Rattle.m2_base.specs.declared.diagnostic.Diagnostic.TheVariants.{HeadingDiffers, NotAProcedureValue, NotARecord}
use Rattle.m2_base.specs.declared.diagnostic.Diagnostic.TheVariants.{ResultNotScalar, TooManyConstants}

abbrev pub code_of : Diagnostic → ℕ
code_of CharacterNotAllowed = 10
code_of CommentNotClosed = 11
code_of StringNotClosed = 12
code_of NumberTooLarge = 13
code_of UnexpectedToken = 20
code_of ClosingNameDiffers = 21
code_of NoDefinitionText = 30
code_of OtherModuleName = 31
code_of CircularImports = 32
code_of UnknownName = 40
code_of UsedBefore = 41
code_of DeclaredTwice = 42
code_of StandardDeclared = 43
code_of NotDeclaredThere = 44
code_of NotAType = 45
code_of NotAConstant = 46
code_of OutOfRange = 47
code_of NotAVariable = 48
code_of WrongOperands = 49
code_of NotAssignable = 50
code_of NoSuchField = 51
code_of NotAnArray = 52
code_of NotAPointer = 53
code_of NotAProcedure = 54
code_of WrongCount = 55
code_of WrongArgument = 56
code_of NotBoolean = 57
code_of WrongLabel = 58
code_of ExitOutsideLoop = 59
code_of WrongReturn = 60
code_of WrongIndex = 61
code_of TooManyCells = 62
code_of NotAControlVariable = 63
code_of NotImplemented = 64
code_of HeadingDiffers = 65
code_of NotAProcedureValue = 66
code_of NotARecord = 67
code_of ResultNotScalar = 68
code_of TooManyConstants = 69

abbrev pub text_of : Diagnostic → List ℕ
text_of CharacterNotAllowed = codes "character not allowed"
text_of CommentNotClosed = codes "comment not closed"
text_of StringNotClosed = codes "string not closed"
text_of NumberTooLarge = codes "number too large"
text_of UnexpectedToken = codes "unexpected token"
text_of ClosingNameDiffers = codes "closing name differs"
text_of NoDefinitionText = codes "no such definition text"
text_of OtherModuleName = codes "module has another name"
text_of CircularImports = codes "imports go in a circle"
text_of UnknownName = codes "unknown name"
text_of UsedBefore = codes "used before its declaration"
text_of DeclaredTwice = codes "declared twice"
text_of StandardDeclared = codes "standard name declared"
text_of NotDeclaredThere = codes "not declared there"
text_of NotAType = codes "not a type"
text_of NotAConstant = codes "not a constant"
text_of OutOfRange = codes "value out of range"
text_of NotAVariable = codes "not a variable"
text_of WrongOperands = codes "wrong operand types"
text_of NotAssignable = codes "not assignable"
text_of NoSuchField = codes "no such field"
text_of NotAnArray = codes "not an array"
text_of NotAPointer = codes "not a pointer"
text_of NotAProcedure = codes "not a procedure"
text_of WrongCount = codes "wrong number of arguments"
text_of WrongArgument = codes "wrong argument"
text_of NotBoolean = codes "not BOOLEAN"
text_of WrongLabel = codes "wrong or repeated label"
text_of ExitOutsideLoop = codes "EXIT outside LOOP"
text_of WrongReturn = codes "wrong RETURN"
text_of WrongIndex = codes "wrong index or set base"
text_of TooManyCells = codes "too many cells"
text_of NotAControlVariable = codes "not a control variable"
text_of NotImplemented = codes "not implemented"
text_of HeadingDiffers = codes "heading differs from the definition"
text_of NotAProcedureValue = codes "not a procedure value"
text_of NotARecord = codes "not a record"
text_of ResultNotScalar = codes "result not scalar"
text_of TooManyConstants = codes "too many imported constants"

-- all of them, by their codes
abbrev pub diagnostics : List Diagnostic
diagnostics =
    CharacterNotAllowed
    ∷ CommentNotClosed
    ∷ StringNotClosed
    ∷ NumberTooLarge
    ∷ UnexpectedToken
    ∷ ClosingNameDiffers
    ∷ NoDefinitionText
    ∷ OtherModuleName
    ∷ CircularImports
    ∷ UnknownName
    ∷ UsedBefore
    ∷ DeclaredTwice
    ∷ StandardDeclared
    ∷ NotDeclaredThere
    ∷ NotAType
    ∷ NotAConstant
    ∷ OutOfRange
    ∷ NotAVariable
    ∷ WrongOperands
    ∷ NotAssignable
    ∷ NoSuchField
    ∷ NotAnArray
    ∷ NotAPointer
    ∷ NotAProcedure
    ∷ WrongCount
    ∷ WrongArgument
    ∷ NotBoolean
    ∷ WrongLabel
    ∷ ExitOutsideLoop
    ∷ WrongReturn
    ∷ WrongIndex
    ∷ TooManyCells
    ∷ NotAControlVariable
    ∷ NotImplemented
    ∷ HeadingDiffers
    ∷ NotAProcedureValue
    ∷ NotARecord
    ∷ ResultNotScalar
    ∷ TooManyConstants
    ∷ []

-- the diagnostic of a code; none of any other number
unfoldable pub diagnostic_of : (code : ℕ) → Option Diagnostic
diagnostic_of code = find (λ d. code_of d == code) diagnostics

abbrev pub text_or : Option Diagnostic → List ℕ
text_or None = []
text_or (Some d) = text_of d

-- what a listing says of a code
abbrev pub text_of_code : (code : ℕ) → List ℕ
text_of_code code = text_or (diagnostic_of code)
