-- Where there is no value, or nothing to tell of.
use Rattle.std.proofs.Common.{◌≡◌, false, true, List, [], ◌∷◌, length, Option, Some, None, Result, Ok, Err, refl, arith}
use Rattle.std.specs.Prelude.{IfNone, IfOk, IsErr, OnErr, OnOk}

-- what is an error has no value
pub if_ok_of_err : {T E : Type 0} (P : T → Type 0) (r : Result T E) → IsErr r → IfOk r P
if_ok_of_err P (Ok x) is = absurd (let e : false ≡ true = is in cc)
if_ok_of_err P (Err e) is = tt

-- and none of which a clause for values speaks
pub on_ok_of_err : {T E : Type 0} (P : Type 0) (r : Result T E) → IsErr r → OnOk r P
on_ok_of_err P (Ok x) is = absurd (let e : false ≡ true = is in cc)
on_ok_of_err P (Err e) is = tt

-- what holds anyway holds where there is an error
pub on_err_anyway : {T E P : Type 0} (r : Result T E) → P → OnErr r P
on_err_anyway (Ok x) p = tt
on_err_anyway (Err e) p = p

-- and where there is none
pub if_none_anyway : {T P : Type 0} (r : Option T) → P → IfNone r P
if_none_anyway (Some x) p = tt
if_none_anyway None p = p

-- a list of length 0
pub none_of : {A : Type 0} (items : List A) → length items ≡ 0 → items ≡ []
none_of [] e = refl
none_of (x ∷ xs) e = absurd (omega arith)
