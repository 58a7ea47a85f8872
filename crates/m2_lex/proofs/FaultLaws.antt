-- Which fault a call ends with, where a call of its own ended with one.
use Rattle.std.proofs.Common.{◌≡◌, Result, Ok, Err}
use Rattle.std.proofs.lemmas.Bool.{false≢true}
use Rattle.std.specs.Result.{IsErr, IsErrAnd, IsErrOf, IsOk}
use Rattle.m2_lex.specs.declared.lexer.LexFault.{LexFault}
use Rattle.m2_lex.specs.declared.lexer.LexFault.TheVariants.{TooManyTokens, Memory as OutOfMemory}

-- an error is no value, and a value is no error
pub err_not_ok : {T E P : Type 0} (r : Result T E) → IsErr r → IsOk r → P
err_not_ok (Ok x) h k = absurd (false≢true h)
err_not_ok (Err e) h k = absurd (false≢true k)

pub ok_not_err : {T E P : Type 0} (r : Result T E) (x : T) (e : E) → r ≡ Ok x → IsErrOf r e → P
ok_not_err r x e o h = absurd (cc)

-- want of memory isn't too many tokens
pub of_memory : {T P : Type 0} (r : Result T LexFault) → IsErrAnd r (λ y. y ≡ OutOfMemory) → IsErrOf r TooManyTokens → P
of_memory (Ok t) h f = absurd h
of_memory (Err e) h f = absurd (cc)

-- the fault handed on
pub same_fault : {T U P : Type 0} (r : Result T LexFault) (s : Result U LexFault) (x : LexFault) → IsErrAnd r (λ y. y ≡ x) → s ≡ Err x
    → (IsErrOf s TooManyTokens → P) → IsErrOf r TooManyTokens → P
same_fault (Ok t) s x h e g f = absurd h
same_fault (Err y) s x h e g f = g (cc)
