-- What the code's reading gives, and how far it has come.
use Rattle.std.specs.Prelude.{◌≡◌, ℕ, zero, suc, ◌+◌, ◌-◌, ◌*◌, ◌≤◌, Bool, false, List, [], ◌∷◌, ◌++◌, length, take}
use Rattle.std.specs.Prelude.{drop, min, Option, Some, None, IfSome, ℤ, pos, if◌then◌else◌, unwrap_or, is_none, ◌&&◌}
use Rattle.std.specs.Prelude.{◌==◌}
use Rattle.std.specs.Option.{option_to_list}
use Rattle.stack_machine.specs.declared.reading.Reading.{Reading}
use Rattle.stack_machine.specs.declared.reading.Ahead.{Ahead}
use Rattle.stack_machine.specs.declared.op.Kind.{Kind}
use Rattle.stack_machine.specs.InOut.{Got, number_from, signed, if_in_kind, is_sign, is_digit, is_negative, behind}
use Rattle.stack_machine.specs.InOut.{front, behind_sign}
use Rattle.stack_machine.specs.declared.op.Kind.TheVariants.{Integer, Cardinal}

abbrev pub got_of : Reading → List ℕ → Got
got_of r rest = record { value = r.value; kept = r.kept; rest = rest }

-- some first bytes of what a source had left were taken, where it tells them
abbrev pub Taken : Option (List ℕ) → Option (List ℕ) → Type 0
Taken old new = IfSome old (λ l. (n : ℕ) × (new ≡ Some (drop n l)))

-- the bytes that come next, and those of them that may be taken
abbrev pub coming : Ahead → List ℕ → List ℕ
coming a l = option_to_list a.byte ++ l

abbrev pub window : Ahead → List ℕ → List ℕ
window a l = option_to_list a.byte ++ take a.more l

-- how many bytes may be taken
abbrev pub budget : Ahead → ℕ
budget a = length (option_to_list a.byte) + a.more

-- where no byte is at hand there is none that may be taken
abbrev pub IsOver : Ahead → List ℕ → Type 0
IsOver a l = a.byte ≡ None → window a l ≡ []

-- n bytes were taken
pub record Moves (n : ℕ) (a : Ahead) (l : List ℕ) (b : Ahead) (left : Option (List ℕ)) : Type 0 where
  pub rest : List ℕ
  pub left_is : left ≡ Some rest
  pub taken : ℕ
  pub rest_is : rest ≡ drop taken l
  pub coming_is : coming b rest ≡ drop n (coming a l)
  pub window_is : window b rest ≡ drop n (window a l)
  pub within : n ≤ length (window a l)
  pub count : budget b + n ≡ budget a
  pub over : IsOver b rest

-- the next byte passes a test
abbrev pub next_is : (ℕ → Bool) → Option ℕ → Bool
next_is test None = false
next_is test (Some b) = test b

-- no number has more than so much of a value
abbrev pub most : ℕ
most = 10000000000

-- the number of some digits, no more than the most
abbrev pub number_by : List ℕ → Option ℕ
number_by [] = None
number_by (d ∷ ds) = Some (min (number_from 0 (d ∷ ds)) most)

abbrev pub value_by : Kind → Bool → Option ℕ → Option ℤ
value_by kind negative None = None
value_by kind negative (Some n) = if_in_kind kind (signed negative n)

-- the sign that comes next, where signs are taken
abbrev pub sign_at : Kind → Option ℕ → Option ℕ
sign_at Integer (Some b) = if is_sign b then Some b else None
sign_at Integer None = None
sign_at Cardinal byte = None

-- the digit that comes next
abbrev pub digit_at : Option ℕ → Option ℕ
digit_at (Some b) = if is_digit b then Some b else None
digit_at None = None

-- a number with one digit more
abbrev pub number_after : Option ℕ → ℕ → Option ℕ
number_after number b = Some (min (unwrap_or number 0 * 10 + (b - 48)) most)

-- all that passes a test was taken
pub record Passed (test : ℕ → Bool) (a : Ahead) (l : List ℕ) (b : Ahead) (left : Option (List ℕ)) : Type 0 where
  pub n : ℕ
  pub moves : Moves n a l b left
  pub is : window b moves.rest ≡ behind test (window a l)

-- a sign was taken, if one came
pub record Signed (kind : Kind) (negative : Bool) (a : Ahead) (l : List ℕ) (b : Ahead)
    (left : Option (List ℕ)) : Type 0 where
  pub n : ℕ
  pub moves : Moves n a l b left
  pub is : window b moves.rest ≡ behind_sign kind (window a l)
  pub negative_is : negative ≡ is_negative kind (window a l)

-- all digits were taken
pub record Digits (number : Option ℕ) (a : Ahead) (l : List ℕ) (b : Ahead) (left : Option (List ℕ)) : Type 0 where
  pub n : ℕ
  pub moves : Moves n a l b left
  pub is : window b moves.rest ≡ behind is_digit (window a l)
  pub number_is : number ≡ number_by (front is_digit (window a l))

-- the first byte is at hand, and so many more may be taken
abbrev pub ahead_by : Option ℕ → Ahead
ahead_by None = record { byte = None; more = 65536 }
ahead_by (Some b) = record { byte = Some b; more = 65535 }

-- no more may be taken, so the number hasn't ended
abbrev pub is_cut : Ahead → Bool
is_cut a = is_none a.byte && a.more == 0

abbrev pub reading_by : Kind → Bool → Option ℕ → Ahead → Reading
reading_by kind negative number a =
    record { value = if is_cut a then None else value_by kind negative number; kept = a.byte }

-- the code's reading, and what is left
pub record IsReading (r : Reading) (got : Got) (left : Option (List ℕ)) : Type 0 where
  pub value : r.value ≡ got.value
  pub kept : r.kept ≡ got.kept
  pub left_is : left ≡ Some got.rest
