-- Reading field after field: it goes on behind a field that is there, and ends at one that isn't.
use Rattle.std.proofs.Common.{◌≡◌, ◌∙◌, Bool, List, ℕ, Result, Ok, ap, subst}
use Rattle.std.specs.Prelude.{IsErrAnd}
use Rattle.std.proofs.lemmas.Result.{err_from_is_err_and}
use Rattle.object_file.specs.declared.fault.Stop.{Stop}
use Rattle.object_file.specs.declared.fault.Stop.TheVariants as stops
use Rattle.object_file.specs.Fields.{Fails, Gives, ◌then◌, valid_at}
use Rattle.object_file.specs.Formats.{Bad}

-- behind a field that is there
pub onwards : {X Y : Type 0} (field : Result X Bad) (rest : X → Result Y Bad) {read : Result Y Bad} {x : X} → field ≡ Ok x → read ≡ (field then rest) → read ≡ rest x
onwards field rest there is = is ∙ ap (λ (r : Result _ Bad). r then rest) there

-- behind a valid field, whose test is the one that the code made
pub valid_onwards : {Y : Type 0} (bytes : List ℕ) (rest : Bool → Result Y Bad) {made asked : Bool} {read : Result Y Bad} {x : Bool} → made ≡ asked → valid_at made bytes ≡ Ok x → read ≡ (valid_at asked bytes then rest) → read ≡ rest x
valid_onwards bytes rest {x} same there is = onwards _ rest (subst (λ (b : Bool). valid_at b bytes ≡ Ok x) same there) is

fails : {X Y : Type 0} (field : Result X Bad) (rest : X → Result Y Bad) (e : Stop) {read : Result Y Bad} → read ≡ (field then rest) → Fails e field → Fails e read
fails field rest stops.Memory is fault = tt
fails field rest (stops.Bad left code) is fault = is ∙ ap (λ (r : Result _ Bad). r then rest) fault

-- at a field that isn't there
pub ends_there : {X Y Z : Type 0} (field : Result X Bad) (rest : X → Result Y Bad) (view : Z → Y) (e : Stop) {read : Result Y Bad} (r : Result Z Stop) → IsErrAnd r (λ f. f ≡ e) → Fails e field → read ≡ (field then rest) → Gives view r read
ends_there field rest view e r handed fault is =
    let p = err_from_is_err_and r handed in
    rw (p.1, p.2) (fails field rest e is fault)

-- at a field that isn't valid
pub valid_ends : {Y Z : Type 0} (bytes : List ℕ) (rest : Bool → Result Y Bad) (view : Z → Y) (e : Stop) {made asked : Bool} {read : Result Y Bad} (r : Result Z Stop) → made ≡ asked → IsErrAnd r (λ f. f ≡ e) → Fails e (valid_at made bytes) → read ≡ (valid_at asked bytes then rest) → Gives view r read
valid_ends bytes rest view e r same handed fault is = ends_there _ rest view e r handed (subst (λ (b : Bool). Fails e (valid_at b bytes)) same fault) is
