-- In a sound context what a constant expression stands for is right.
use Rattle.std.specs.Prelude.{◌≡◌, ℕ, ◌-◌, ◌^◌, ◌<◌, Bool, true, false, if◌then◌else◌, ℤ, pos, negsuc, ◌≤ℤ◌, int_le, int_lt, bit_and, Option, Some, None, T}
use Rattle.std.proofs.Common.{subst, sym, refl, arith}
use Rattle.std.proofs.Math.Facts.{yes_leb, leb_yes}
use Rattle.std.proofs.Math.Nat.{mod-lt}
use Rattle.std.proofs.lemmas.Bool.{both_ways, and_parts}
use Rattle.std.proofs.lemmas.Nat.{or_lt, xor_lt, and_le_l}
use Rattle.m2_base.specs.Lists.{WhereKept}
use Rattle.m2_base.specs.Rows.{Place, natural, row_meaning, RowMeaning, Const, TypeName, Var, IsValue, IsSmall, Fits, HasSmallOrdinals, is_same_place}
use Rattle.m2_base.specs.Standard.{text_type}
use Rattle.m2_base.specs.Trees.{Operator}
use Rattle.m2_base.specs.Statics.Contexts.{Scene, Source, spelling}
use Rattle.m2_base.specs.Statics.Folding.{truth, low_bits, where_in, fold_number, fold_bits, fold_ordinals, fold_by_kind, fold, is_relation}
use Rattle.m2_base.specs.Statics.Lookup.{Entry}
use Rattle.m2_base.specs.Statics.NamedOperands.{is_in_error, operand_by, operand_of_use}
use Rattle.m2_base.specs.Statics.Operands.{string_length, first_of}
use Rattle.m2_base.specs.Statics.Ranges.{Range, integer_range, cardinal_range, whole_range, is_in}
use Rattle.m2_base.specs.Statics.Types.{is_broken}
use Rattle.m2_base.specs.declared.operands.FoldKind.{FoldKind}
use Rattle.m2_base.specs.declared.operands.FoldKind.TheVariants as kinds
use Rattle.m2_base.specs.declared.operands.Operand.{Operand}
use Rattle.m2_base.specs.declared.operands.Operand.TheVariants.{Constant, StringConstant, Computed, Variable, NamedType, InError}
use Rattle.m2_base.specs.declared.trees.operators.Operator.TheVariants.{Equal, Unequal, Less, LessEqual, Greater, GreaterEqual, Plus, Minus, Or, Times, Slash, Div, Mod, And}
use Rattle.m2_base.proofs.Sound.{EntryOk, IsThere}
use Rattle.m2_base.proofs.SoundTypes.{either, before_next}
use Rattle.m2_base.proofs.TypeLaws.{same_place-is, same_place-from}

-- the names' texts are short, of bytes
pub record SoundSource (source : Source) : Type 0 where
  pub short : (n : ℕ) → string_length source n < 2 ^ 32
  pub bytes : (n : ℕ) → first_of (spelling source n) < 256

-- a constant's type is that of no string
abbrev pub IsConstant : Scene → Place → ℤ → Type 0
IsConstant scene t v = IsThere scene t × IsValue v × (t ≡ text_type → ⊥)

abbrev pub OperandOk : ℕ → Scene → Operand → Type 0
OperandOk names scene (Constant t v) = IsConstant scene t v
OperandOk names scene (StringConstant n l) = (n < names) × IsSmall l
OperandOk names scene (Computed t) = IsThere scene t
OperandOk names scene (Variable t) = IsThere scene t
OperandOk names scene (NamedType t) = IsThere scene t
OperandOk names scene other = Unit {0}

-- ** Values

pub natural-value : (n : ℕ) → n < 2 ^ 32 → IsValue (pos n)
natural-value n h = (omega (arith, yes_leb), omega (arith, yes_leb, h))

pub truth-value : (b : Bool) → IsValue (truth b)
truth-value true = natural-value 1 (omega arith)
truth-value false = natural-value 0 (omega arith)

-- ** Ranges

le_from : (a b : ℤ) → int_le a b ≡ true → a ≤ℤ b
le_from a b e = record { le = subst T (sym e) tt }

le_chain : (a b c : ℤ) → a ≤ℤ b → b ≤ℤ c → a ≤ℤ c
le_chain (pos x) (pos y) (pos z) h k = omega (arith, yes_leb, leb_yes, h.le, k.le)
le_chain (pos x) (pos y) (negsuc z) h k = absurd (k.le)
le_chain (pos x) (negsuc y) c h k = absurd (h.le)
le_chain (negsuc x) b (pos z) h k = record { le = tt }
le_chain (negsuc x) (pos y) (negsuc z) h k = absurd (k.le)
le_chain (negsuc x) (negsuc y) (negsuc z) h k = omega (arith, yes_leb, leb_yes, h.le, k.le)

abbrev pub AreValues : Range → Type 0
AreValues r = IsValue r.low × IsValue r.high

in_value : (r : Range) (v : ℤ) → AreValues r → is_in r v ≡ true → IsValue v
in_value r v h e =
    let both = and_parts _ _ e in
    (le_chain _ r.low v h.0.0 (le_from r.low v both.0), le_chain v r.high _ (le_from v r.high both.1) h.1.1)

pub integer_values : AreValues integer_range
integer_values = ((omega arith, omega arith), (omega arith, omega arith))

cardinal_values : AreValues cardinal_range
cardinal_values = ((omega arith, omega arith), (omega arith, omega arith))

pub whole_values : AreValues whole_range
whole_values = ((omega arith, omega arith), (omega arith, omega arith))

-- ** Values of operators

abbrev HasValue : Option ℤ → Type 0
HasValue o = WhereKept o IsValue

pub where_in_value : (r : Range) (v : ℤ) → AreValues r → HasValue (where_in r v)
where_in_value r v h = by_test (is_in r v) refl
  where
    by_test : (b : Bool) → is_in r v ≡ b → HasValue (if b then Some v else None)
    by_test true e = in_value r v h e
    by_test false e = tt

number_value : (r : Range) → AreValues r → (op : Operator) (x y : ℤ) → HasValue (fold_number r op x y)
number_value r h Plus x y = where_in_value r _ h
number_value r h Minus x y = where_in_value r _ h
number_value r h Times x y = where_in_value r _ h
number_value r h Div x y = either HasValue (int_lt (pos 0) y) _ None (where_in_value r _ h) tt
number_value r h Mod x y = either HasValue (int_lt (pos 0) y) _ None (where_in_value r _ h) tt
number_value r h op x y = tt

bits_value : (op : Operator) (x y : ℕ) → x < 2 ^ 32 → y < 2 ^ 32 → HasValue (fold_bits op x y)
bits_value Plus x y h k = natural-value _ (or_lt 32 x y h k)
bits_value Minus x y h k = natural-value (x - bit_and x y) (omega (arith, h))
bits_value Times x y h k = let e = and_le_l x y in natural-value (bit_and x y) (omega (arith, e, h))
bits_value Slash x y h k = natural-value _ (xor_lt 32 x y h k)
bits_value LessEqual x y h k = truth-value _
bits_value GreaterEqual x y h k = truth-value _
bits_value op x y h k = tt

ordinals_value : (op : Operator) (x y : ℤ) → HasValue (fold_ordinals op x y)
ordinals_value Less x y = truth-value _
ordinals_value Greater x y = truth-value _
ordinals_value LessEqual x y = truth-value _
ordinals_value GreaterEqual x y = truth-value _
ordinals_value And x y = truth-value _
ordinals_value Or x y = truth-value _
ordinals_value op x y = tt

low_bits_small : (v : ℤ) → low_bits v < 2 ^ 32
low_bits_small (pos n) = mod-lt n (omega arith)
low_bits_small (negsuc n) = omega arith

by_kind_value : (k : FoldKind) (op : Operator) (x y : ℤ) → HasValue (fold_by_kind k op x y)
by_kind_value kinds.Set op x y = bits_value op (low_bits x) (low_bits y) (low_bits_small x) (low_bits_small y)
by_kind_value kinds.Ordinal op x y = ordinals_value op x y
by_kind_value kinds.Integer op x y = either HasValue (is_relation op) _ _ (ordinals_value op x y) (number_value integer_range integer_values op x y)
by_kind_value kinds.Cardinal op x y = either HasValue (is_relation op) _ _ (ordinals_value op x y) (number_value cardinal_range cardinal_values op x y)
by_kind_value kinds.Whole op x y = either HasValue (is_relation op) _ _ (ordinals_value op x y) (number_value whole_range whole_values op x y)

pub fold_value : (k : FoldKind) (op : Operator) (x y : ℤ) → HasValue (fold k op x y)
fold_value k Equal x y = truth-value _
fold_value k Unequal x y = truth-value _
fold_value k op x y = by_kind_value k op x y

module _ (names : ℕ) where
  -- ** What a row stands for

  const_ok : (scene : Scene) (t q : Place) (v : ℤ) (len : ℕ) → IsThere scene q → Fits names q (Const t v len) → t.ordinal < 2 ^ 32
      → OperandOk names scene (if is_broken scene t then InError else if is_same_place t text_type then StringConstant (natural v) len else Constant t v)
  const_ok scene t q v len h f s =
      either (OperandOk names scene) (is_broken scene t) InError _ tt (by_test (is_same_place t text_type) refl)
    where
      by_test : (b : Bool) → is_same_place t text_type ≡ b → OperandOk names scene (if b then StringConstant (natural v) len else Constant t v)
      by_test true e = (f.3 (same_place-is t text_type e), f.2)
      by_test false e = (before_next scene t q s f.0 h, f.1, λ same. both_ways _ e (same_place-from t text_type same))

  by_meaning_ok : (scene : Scene) (name : ℕ) (q : Place) (m : RowMeaning) → IsThere scene q → Fits names q m → HasSmallOrdinals m
      → OperandOk names scene (operand_by scene name m)
  by_meaning_ok scene name q (Const t v len) h f s = const_ok scene t q v len h f s
  by_meaning_ok scene name q (TypeName t) h f s =
      either (OperandOk names scene) (is_broken scene t) InError (NamedType t) tt (before_next scene t q s f h)
  by_meaning_ok scene name q (Var t mode offset) h f s =
      either (OperandOk names scene) (is_in_error scene t) InError (Variable t) tt (before_next scene t q s f.0 h)
  by_meaning_ok scene name q m h f s = tt

  pub use_operand_ok : (scene : Scene) (o : Option Entry) → WhereKept o (EntryOk names scene) → OperandOk names scene (operand_of_use scene o)
  use_operand_ok scene None h = tt
  use_operand_ok scene (Some e) h = by_meaning_ok scene e.1.name e.0 (row_meaning e.1) h.there h.row.formed.fits h.row.small
