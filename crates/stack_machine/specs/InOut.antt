-- InOut: what its procedures take, print and read.
use Rattle.std.specs.Prelude.{ℕ, zero, suc, ◌<◌, ◌+◌, ◌-◌, ◌*◌, Bool, true, false, ◌&&◌, ◌||◌, ◌==◌, if◌then◌else◌, ℤ}
use Rattle.std.specs.Prelude.{pos, neg_ℤ, int_lt, int_le, nat_lt, nat_le, List, [], ◌∷◌, ◌++◌, length, take, drop}
use Rattle.std.specs.Prelude.{replicate, slice_get, decimal, unsigned_abs, Option, Some, None}
use Rattle.std.specs.List.{slice_index_or}
use Rattle.std.specs.Option.{option_to_list}
use Rattle.stack_machine.specs.declared.op.Kind.TheVariants.{Integer, Cardinal}
use Rattle.stack_machine.specs.declared.op.Kind.{Kind}
use Rattle.stack_machine.specs.declared.printing.Char.{Char}
use Rattle.stack_machine.specs.declared.printing.Char.TheVariants as chars
use Rattle.stack_machine.specs.declared.op.Service.{Service}
use Rattle.stack_machine.specs.declared.op.Service.TheVariants.{Read, ReadInt, ReadCard, Write, WriteString, WriteLn}
use Rattle.stack_machine.specs.declared.op.Service.TheVariants.{WriteInt, WriteCard}
use Rattle.stack_machine.specs.Numbers.{in_kind, is_zero, low_bits, count_of}
use Rattle.stack_machine.specs.Operands.{top_of}

-- the cells of a procedure's parameters: a variable is its address, an open array its address and its HIGH
abbrev pub params_of : Service → ℕ
params_of Read = 1
params_of ReadInt = 1
params_of ReadCard = 1
params_of Write = 1
params_of WriteString = 2
params_of WriteLn = 0
params_of WriteInt = 2
params_of WriteCard = 2

-- it reads
abbrev pub Reads : Service → Type 0
Reads Read = Unit {0}
Reads ReadInt = Unit {0}
Reads ReadCard = Unit {0}
Reads Write = ⊥
Reads WriteString = ⊥
Reads WriteLn = ⊥
Reads WriteInt = ⊥
Reads WriteCard = ⊥

-- InOut's procedures in the order of their headings; none has a result
abbrev pub services : List Service
services = Read ∷ ReadInt ∷ ReadCard ∷ Write ∷ WriteString ∷ WriteLn ∷ WriteInt ∷ WriteCard ∷ []

-- ---- printing

-- a text in cells: its bytes, and whether all the cells that it takes are there
pub record Text : Type 0 where
  pub bytes : List ℕ
  pub whole : Bool

abbrev pub and_then : ℕ → Text → Text
and_then b t = record { bytes = b ∷ t.bytes; whole = t.whole }

-- the byte in a cell, the end of the text, or no such cell
abbrev pub char_in : ℤ → Char
char_in v = if is_zero v then chars.End else chars.Byte (low_bits 8 v)

abbrev pub char_at : List ℤ → (at : ℕ) → Char
char_at cells at =
    if nat_lt 0 at && nat_lt at (length cells) then char_in (slice_index_or cells at (pos 0)) else chars.Missing

-- a byte is in one of the cells
abbrev pub IsThere : Char → (at : ℕ) → List ℤ → Type 0
IsThere chars.Missing at cells = Unit {0}
IsThere chars.End at cells = Unit {0}
IsThere (chars.Byte b) at cells = at < length cells

-- a text that begins with a character
abbrev pub begun : Char → Text → Text
begun chars.Missing t = record { bytes = []; whole = false }
begun chars.End t = record { bytes = []; whole = true }
begun (chars.Byte b) t = and_then b t

-- the characters in n cells from a place on, up to the first that is 0
unfoldable pub text_at : List ℤ → (n at : ℕ) → Text
text_at cells zero at = record { bytes = []; whole = true }
text_at cells (suc n) at = begun (char_at cells at) (text_at cells n (at + 1))

-- the same where the place is an address
abbrev pub text_from : List ℤ → (n : ℕ) → ℤ → Text
text_from cells n address =
    if int_lt address (pos 0) then record { bytes = []; whole = n == 0 } else text_at cells n (unsigned_abs address)

-- the text of WriteString
abbrev pub string_of : List ℤ → (operands : List ℤ) → Text
string_of cells operands = text_from cells (count_of (top_of 0 operands)) (top_of 1 operands)

-- a number's decimal digits, with - before those of a negative one
unfoldable pub number_digits : ℤ → List ℕ
number_digits v = if int_lt v (pos 0) then 45 ∷ decimal (unsigned_abs v) else decimal (unsigned_abs v)

-- blanks before a text up to n bytes in all
unfoldable pub padded : ℤ → List ℕ → List ℕ
padded n text = if int_lt (pos 0) n then replicate (unsigned_abs n - length text) 32 ++ text else text

-- a number is written in at most 4096 bytes
abbrev pub is_width : ℤ → Bool
is_width n = int_le n (pos 4096)

abbrev pub number_text : (operands : List ℤ) → List ℕ
number_text operands =
    if is_width (top_of 0 operands) then padded (top_of 0 operands) (number_digits (top_of 1 operands)) else []

-- what a procedure prints
abbrev pub printed : Service → (cells operands : List ℤ) → List ℕ
printed Read cells operands = []
printed ReadInt cells operands = []
printed ReadCard cells operands = []
printed Write cells operands = low_bits 8 (top_of 0 operands) ∷ []
printed WriteString cells operands = (string_of cells operands).bytes
printed WriteLn cells operands = 10 ∷ []
printed WriteInt cells operands = number_text operands
printed WriteCard cells operands = number_text operands

-- ---- reading

-- what reading gives: a value, if there is one; the byte that was taken behind it; and the rest of the input
pub record Got : Type 0 where
  pub value : Option ℤ
  pub kept : Option ℕ
  pub rest : List ℕ

-- the next byte
abbrev pub byte_of : List ℕ → Got
byte_of [] = record { value = None; kept = None; rest = [] }
byte_of (b ∷ rest) = record { value = Some (pos b); kept = None; rest = rest }

-- tab, the two ends of a line, and space
abbrev pub is_blank : ℕ → Bool
is_blank b = b == 9 || b == 10 || b == 13 || b == 32

abbrev pub is_digit : ℕ → Bool
is_digit b = nat_le 48 b && nat_le b 57

-- + and -
abbrev pub is_sign : ℕ → Bool
is_sign b = b == 43 || b == 45

-- the bytes behind those in front that pass the test, and those in front
abbrev pub behind : (ℕ → Bool) → List ℕ → List ℕ
behind test [] = []
behind test (b ∷ bs) = if test b then behind test bs else b ∷ bs

abbrev pub front : (ℕ → Bool) → List ℕ → List ℕ
front test [] = []
front test (b ∷ bs) = if test b then b ∷ front test bs else []

-- the bytes behind a sign, where signs are taken and one comes next; and whether it is -
abbrev pub behind_sign : Kind → List ℕ → List ℕ
behind_sign Cardinal bytes = bytes
behind_sign Integer [] = []
behind_sign Integer (b ∷ bs) = if is_sign b then bs else b ∷ bs

abbrev pub is_negative : Kind → List ℕ → Bool
is_negative Cardinal bytes = false
is_negative Integer [] = false
is_negative Integer (b ∷ bs) = b == 45

-- the number that digits are, behind those that are the number n
abbrev pub number_from : ℕ → List ℕ → ℕ
number_from n [] = n
number_from n (b ∷ bs) = number_from (n * 10 + (b - 48)) bs

abbrev pub signed : Bool → ℕ → ℤ
signed false n = pos n
signed true n = neg_ℤ (pos n)

abbrev pub if_in_kind : Kind → ℤ → Option ℤ
if_in_kind kind v = if in_kind kind v then Some v else None

-- at least one digit, and a number in the range of its type
abbrev pub value_of : Kind → (negative : Bool) → (digits : List ℕ) → Option ℤ
value_of kind negative [] = None
value_of kind negative (b ∷ bs) = if_in_kind kind (signed negative (number_from 0 (b ∷ bs)))

-- how many bytes one number takes at most
abbrev pub most_bytes : ℕ
most_bytes = 65536

-- the value where the number has ended: by a byte behind it, or because the input has ended
abbrev pub if_ended : List ℕ → (is_end : Bool) → Option ℤ → Option ℤ
if_ended [] is_end value = if is_end then value else None
if_ended (b ∷ bs) is_end value = value

-- Blanks are passed over, then a sign, then all digits; the byte behind them is taken too. All these bytes are among
-- those that one number takes at most.
unfoldable pub number_of : Kind → List ℕ → Got
number_of kind input =
    let start = behind is_blank (take most_bytes input) in
    let digits = behind_sign kind start in
    let after = behind is_digit digits in
    record {
      value = if_ended after (nat_lt (length input) most_bytes)
          (value_of kind (is_negative kind start) (front is_digit digits));
      kept = slice_get after 0;
      rest = drop (length (take most_bytes input) - length after + length (take 1 after)) input;
    }

-- what a procedure reads, where a byte may have been kept
abbrev pub got_by : Service → Option ℕ → List ℕ → Got
got_by Read kept input = byte_of (option_to_list kept ++ input)
got_by ReadInt kept input = number_of Integer (option_to_list kept ++ input)
got_by ReadCard kept input = number_of Cardinal (option_to_list kept ++ input)
got_by Write kept input = record { value = None; kept = kept; rest = input }
got_by WriteString kept input = record { value = None; kept = kept; rest = input }
got_by WriteLn kept input = record { value = None; kept = kept; rest = input }
got_by WriteInt kept input = record { value = None; kept = kept; rest = input }
got_by WriteCard kept input = record { value = None; kept = kept; rest = input }

-- ---- when a procedure that prints can go on

-- the cells of a text are there, the width of a number isn't too large
abbrev pub can_go_on : Service → (cells operands : List ℤ) → Bool
can_go_on Read cells operands = true
can_go_on ReadInt cells operands = true
can_go_on ReadCard cells operands = true
can_go_on Write cells operands = true
can_go_on WriteString cells operands = (string_of cells operands).whole
can_go_on WriteLn cells operands = true
can_go_on WriteInt cells operands = is_width (top_of 0 operands)
can_go_on WriteCard cells operands = is_width (top_of 0 operands)
