-- The loops of src/lists: what the whole reads, round by round.
use Rattle.std.proofs.Common.{◌≡◌, ℕ, ◌+◌, ◌<◌, Bool, true, false, List, [], ◌∷◌, ◌++◌, Result, Ok, Err, Option, Some, None, refl, ap, sym, subst, ◌∙◌}
use Rattle.std.specs.Prelude.{◌==◌, if◌then◌else◌}
use Rattle.ll_grammar.specs.Readers.{Ends, Reader, next_is, skip, expect}
use Rattle.ll_grammar.proofs.Loops.{SeparatedSoFar, separated_goes_on, separated_ends, separated_stops}
use Rattle.m2_base.specs.declared.token.Token.{Token}
use Rattle.m2_base.specs.Grammar.{number_of_token}
use Rattle.m2_parse.specs.declared.faults.Refusal.{Refusal}
use Rattle.m2_parse.specs.Reading.{tell}

abbrev behind : Result (Token × List Token) Refusal → Option (List Token)
behind (Ok x) = Some x.1
behind (Err f) = None

if_behind : (b : Bool) (t : Token) (ts : List Token) (f : Refusal) → behind (if b then Ok (t, ts) else Err f) ≡ (if b then Some ts else None)
if_behind true t ts f = refl
if_behind false t ts f = refl

behind_is : (k : ℕ) (ts : List Token) → behind (expect tell number_of_token k ts) ≡ skip number_of_token k ts
behind_is k [] = refl
behind_is k (t ∷ ts) = if_behind (number_of_token t == k) t ts _

-- what stands behind a token that was taken
pub taken : (k : ℕ) (ts : List Token) (t : Token) (after : List Token) → expect tell number_of_token k ts ≡ Ok (t, after) → Some after ≡ skip number_of_token k ts
taken k ts t after h = sym (ap behind h) ∙ behind_is k ts

if_none : (b : Bool) (ts : List Token) → b ≡ false → None ≡ (if b then Some ts else None)
if_none true ts h = cc
if_none false ts h = refl

-- no token was taken
pub none_taken : (k : ℕ) (ts : List Token) → next_is number_of_token k ts ≡ false → None ≡ skip number_of_token k ts
none_taken k [] h = refl
none_taken k (t ∷ ts) h = if_none (number_of_token t == k) ts h

module _ {F X Y : Type 0} {k : ℕ} {item : Reader Token F X} {parts : X → List Y} where
  -- the separator and an item were read
  pub list_goes_on : {front new : List Y} {count i : ℕ} {ts part after : List Token} {total : Result (List Y × List Token) F} {x : X} {t : Token}
      → SeparatedSoFar number_of_token k item parts front count i ts total → i < count → expect tell number_of_token k ts ≡ Ok (t, part)
      → item part ≡ Ok (x, after) → new ≡ front ++ parts x → SeparatedSoFar number_of_token k item parts new count (i + 1) after total
  list_goes_on {ts = ts} {part = part} {t = t} s lt h j new = separated_goes_on s lt (taken k ts t part h) j new

  -- an item is at fault, or memory is out
  pub list_ends : {front : List Y} {count i : ℕ} {ts part : List Token} {total : Result (List Y × List Token) F} {t : Token} (f : Option F)
      → SeparatedSoFar number_of_token k item parts front count i ts total → i < count → expect tell number_of_token k ts ≡ Ok (t, part)
      → Ends f (item part) → Ends f total
  list_ends {ts = ts} {part = part} {t = t} f s lt h j = separated_ends f s lt (taken k ts t part h) j

  -- no separator follows
  pub list_stops : {front : List Y} {count i : ℕ} {ts rest : List Token} {total : Result (List Y × List Token) F}
      → SeparatedSoFar number_of_token k item parts front count i ts total → i < count → next_is number_of_token k ts ≡ false → rest ≡ ts
      → total ≡ Ok (front, rest)
  list_stops {front = front} {ts = ts} {total = total} s lt h same =
      subst (λ (r : List Token). total ≡ Ok (front, r)) (sym same) (separated_stops s lt (none_taken k ts h))
