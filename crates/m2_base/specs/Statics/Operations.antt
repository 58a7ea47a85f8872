-- What an operator gives of its operands: which types it takes, the type that it gives, and the value where all
-- operands are constant.
use Rattle.std.specs.Prelude.{Bool, None, Option, Some, false, is_some, neg_ℤ, pos, true, ℕ, ℤ, if◌then◌else◌, ◌==◌}
use Rattle.std.specs.Prelude.{◌^◌, ◌&&◌, ◌||◌, ◌/◌, ◌%◌}
use Rattle.m2_base.specs.Gives.{Gives, and_then, gives}
use Rattle.m2_base.specs.Rows.{Place, RowMeaning, Set, is_same_place, natural}
use Rattle.m2_base.specs.Standard.{boolean, integer, whole}
use Rattle.m2_base.specs.Statics.Compatible.{is_compatible, is_integer_or_cardinal, is_number_type, is_pointer}
use Rattle.m2_base.specs.Statics.Compatible.{taken_beside}
use Rattle.m2_base.specs.Statics.Contexts.{Context, refuse}
use Rattle.m2_base.specs.Statics.Diagnostics.{out_of_range, wrong_operands}
use Rattle.m2_base.specs.Statics.Folding.{fold, is_arithmetic, is_equal, is_equality, is_relation, number_kind}
use Rattle.m2_base.specs.Statics.Folding.{number_type, truth, where_in}
use Rattle.m2_base.specs.Statics.Operands.{constant_of_operand, is_bad, is_procedure, operand_type, worse}
use Rattle.m2_base.specs.Statics.Ranges.{Range, integer_range, is_in, is_within, whole_range}
use Rattle.m2_base.specs.Statics.Types.{base_of, is_broken, is_same, kind_of, range_of}
use Rattle.m2_base.specs.Trees.{Operator}
use Rattle.m2_base.specs.declared.operands.FoldKind.TheVariants as kinds
use Rattle.m2_base.specs.declared.operands.FoldKind.{FoldKind}
use Rattle.m2_base.specs.declared.operands.Operand.TheVariants.{Computed, Constant, InError}
use Rattle.m2_base.specs.declared.operands.Operand.{Operand}
use Rattle.m2_base.specs.declared.trees.operators.Operator.TheVariants.{And, Equal, GreaterEqual, In, LessEqual, Minus}
use Rattle.m2_base.specs.declared.trees.operators.Operator.TheVariants.{Not, Or, Plus, Slash, Times, Unequal}
use Rattle.m2_base.specs.declared.limits.TheConstants.{GREATEST_ELEMENT}

-- union, difference, intersection and symmetric difference
abbrev pub makes_set : Operator → Bool
makes_set Plus = true
makes_set Minus = true
makes_set Times = true
makes_set Slash = true
makes_set other = false

-- equality and inclusion
abbrev pub compares_sets : Operator → Bool
compares_sets Equal = true
compares_sets Unequal = true
compares_sets LessEqual = true
compares_sets GreaterEqual = true
compares_sets other = false

-- the operator doesn't take these operands
abbrev pub wrong : Context → (op_at : ℕ) → Gives Operand
wrong c op_at = refuse c op_at wrong_operands InError

-- a value that is out of range is refused at the operator
abbrev pub folded : Context → (op_at : ℕ) → Place → Option ℤ → Gives Operand
folded c op_at t (Some v) = gives (Constant t v)
folded c op_at t None = refuse c op_at out_of_range InError

-- a value of this type, constant where both operands are
abbrev pub result_of : Context → (op_at : ℕ) → FoldKind → Operator → Place → Option ℤ → Option ℤ → Gives Operand
result_of c op_at k op t (Some x) (Some y) = folded c op_at t (fold k op x y)
result_of c op_at k op t x y = gives (Computed t)

-- the result of two operands of one kind; an operand in error gives no further diagnostic
abbrev pub gives_result : Context → (op_at : ℕ) → FoldKind → Operator → Place → Operand → Operand → Gives Operand
gives_result c op_at k op t x y =
    if is_bad x || is_bad y then gives InError
    else result_of c op_at k op t (constant_of_operand x) (constant_of_operand y)

-- the base of an operand's type
abbrev pub base_type : Context → Operand → Place
base_type c o = base_of c.scene (operand_type o)

-- a BOOLEAN
abbrev pub is_boolean : Context → Operand → Bool
is_boolean c o = is_same_place (base_type c o) boolean

-- a value of an ordinal type; a whole constant counts as one
abbrev pub is_ordinal : Context → Operand → Bool
is_ordinal c o = is_same_place (operand_type o) whole || is_some (range_of c.scene (operand_type o))

-- a whole constant takes the other operand's type, INTEGER or CARDINAL;
-- outside its range it is refused at its first token
abbrev pub as_number : Context → (at : ℕ) → (other : Place) → Operand → Gives Operand
as_number c at t (Constant u v) =
    if is_same_place u whole && is_integer_or_cardinal t then
    (if is_within (range_of c.scene t) v then gives (Constant t v) else refuse c at out_of_range InError)
    else gives (Constant u v)
as_number c at t o = gives o

-- AND and OR
abbrev pub logical : Context → Operator → (op_at : ℕ) → Operand → Operand → Gives Operand
logical c op op_at x y =
    if is_boolean c x && is_boolean c y then gives_result c op_at kinds.Ordinal op boolean x y else wrong c op_at

-- the meaning of a set's row
abbrev pub is_set_kind : RowMeaning → Bool
is_set_kind (Set base) = true
is_set_kind other = false

-- two sets of one type
abbrev pub are_sets_alike : Context → Operand → Operand → Bool
are_sets_alike c x y =
    is_set_kind (kind_of c.scene (operand_type x)) && is_set_kind (kind_of c.scene (operand_type y))
    && is_same c.scene (operand_type x) (operand_type y)

-- two sets of one type
abbrev pub set_operation : Context → Operator → (op_at : ℕ) → Operand → Operand → Gives Operand
set_operation c op op_at x y =
    if makes_set op then gives_result c op_at kinds.Set op (operand_type x) x y else
    if compares_sets op then gives_result c op_at kinds.Set op boolean x y else wrong c op_at

-- two numbers: arithmetic gives their type, a comparison BOOLEAN
abbrev pub number_operation : Context → Operator → (op_at : ℕ) → Operand → Operand → Gives Operand
number_operation c op op_at x y =
    let k = number_kind (base_type c x) in
    if is_arithmetic op then gives_result c op_at k op (number_type k) x y else
    if is_relation op then gives_result c op_at k op boolean x y else wrong c op_at

-- two numbers, of which a whole constant takes the other's type
abbrev pub on_numbers : Context → Operator → (op_at : ℕ) → Operand → (x_at : ℕ) → Operand → (y_at : ℕ) → Gives Operand
on_numbers c op op_at x x_at y y_at =
    if is_arithmetic op || is_relation op then
    and_then (as_number c x_at (base_type c y) x) (λ x'.
    and_then (as_number c y_at (base_type c x) y) (λ y'.
    number_operation c op op_at x' y'))
    else wrong c op_at

-- two scalars that are no numbers: ordinals are compared, pointers and opaque values for equality alone
abbrev pub on_scalars : Context → Operator → (op_at : ℕ) → Operand → Operand → Gives Operand
on_scalars c op op_at x y =
    let ordinals = is_some (range_of c.scene (base_type c x)) && is_some (range_of c.scene (base_type c y)) in
    let pointers = is_pointer c.scene (base_type c x) || is_pointer c.scene (base_type c y) in
    if (is_relation op && ordinals) || (is_equality op && pointers) then
    gives_result c op_at kinds.Ordinal op boolean x y
    else wrong c op_at

-- two compatible operands
abbrev pub on_compatible : Context → Operator → (op_at : ℕ) → Operand → (x_at : ℕ) → Operand → (y_at : ℕ)
    → Gives Operand
on_compatible c op op_at x x_at y y_at =
    if is_number_type (base_type c x) && is_number_type (base_type c y) then on_numbers c op op_at x x_at y y_at
    else on_scalars c op op_at x y

-- two operands of one type, or of compatible types, as they are taken beside each other
abbrev pub on_alike : Context → Operator → (op_at : ℕ) → Operand → (x_at : ℕ) → Operand → (y_at : ℕ) → Gives Operand
on_alike c op op_at x x_at y y_at =
    if are_sets_alike c x y then set_operation c op op_at x y else
    if is_compatible c.scene x y then
    on_compatible c op op_at (taken_beside c.source c.scene x y) x_at (taken_beside c.source c.scene y x) y_at
    else wrong c op_at

-- whether an element is in a set of constants
abbrev pub is_member : ℤ → ℤ → Bool
is_member v bits = is_in (record { low = pos 0; high = GREATEST_ELEMENT }) v && (natural bits / 2 ^ natural v % 2 == 1)

-- whether an element is in a set
abbrev pub member_of_set : Operand → Operand → Operand
member_of_set (Constant t v) (Constant s bits) = Constant boolean (truth (is_member v bits))
member_of_set InError y = InError
member_of_set x y = Computed boolean

-- IN: an ordinal compatible with the set's base
abbrev pub membership_in : Context → (op_at : ℕ) → Operand → (x_at : ℕ) → Operand → Place → Gives Operand
membership_in c op_at x x_at y base =
    let element = taken_beside c.source c.scene x (Computed base) in
    if is_broken c.scene base then gives InError else
    if is_compatible c.scene x (Computed base) && is_ordinal c element then
    and_then (as_number c x_at (base_of c.scene base) element) (λ e. gives (member_of_set e y))
    else wrong c op_at

-- IN: the right operand is a set
abbrev pub membership : Context → (op_at : ℕ) → Operand → (x_at : ℕ) → Operand → RowMeaning → Gives Operand
membership c op_at x x_at y (Set base) = membership_in c op_at x x_at y base
membership c op_at x x_at y other = wrong c op_at

-- each operator by its operands
abbrev pub operate_by : Context → Operator → (op_at : ℕ) → Operand → (x_at : ℕ) → Operand → (y_at : ℕ) → Gives Operand
operate_by c And op_at x x_at y y_at = logical c And op_at x y
operate_by c Or op_at x x_at y y_at = logical c Or op_at x y
operate_by c In op_at x x_at y y_at = membership c op_at x x_at y (kind_of c.scene (operand_type y))
operate_by c op op_at x x_at y y_at = on_alike c op op_at x x_at y y_at

-- What an operator between two operands gives. A bad operand gives no diagnostic; a procedure has no operator.
abbrev pub operate : Context → (op : Operator) → (op_at : ℕ) → Operand → (x_at : ℕ) → Operand → (y_at : ℕ)
    → Gives Operand
operate c op op_at x x_at y y_at =
    if is_bad x || is_bad y then gives (worse x y) else
    if is_procedure x || is_procedure y then wrong c op_at else
    operate_by c op op_at x x_at y y_at

-- NOT of a BOOLEAN: TRUE where that is FALSE
abbrev pub negated : Operand → Operand
negated (Constant t v) = Constant boolean (truth (is_equal v (pos 0)))
negated o = Computed boolean

-- a value with its sign
abbrev pub signed : Operator → ℤ → ℤ
signed Minus v = neg_ℤ v
signed other v = v

-- a sign on an INTEGER or a whole constant; a constant that leaves the range is refused
abbrev pub with_sign : Context → Operator → (op_at : ℕ) → Place → Range → Operand → Gives Operand
with_sign c op op_at t r (Constant u v) = folded c op_at t (where_in r (signed op v))
with_sign c op op_at t r o = gives (Computed t)

-- a sign stands before an INTEGER or a whole constant
abbrev pub sign_of : Context → Operator → (op_at : ℕ) → Operand → Gives Operand
sign_of c op op_at o =
    if is_same_place (base_type c o) integer then with_sign c op op_at integer integer_range o else
    if is_same_place (base_type c o) whole then with_sign c op op_at whole whole_range o else wrong c op_at

-- each operator that stands before one operand
abbrev pub apply_one_by : Context → Operator → (op_at : ℕ) → Operand → Gives Operand
apply_one_by c Not op_at o = if is_boolean c o then gives (negated o) else wrong c op_at
apply_one_by c op op_at o = sign_of c op op_at o

-- NOT on a BOOLEAN, and the signs
abbrev pub apply_one : Context → (op : Operator) → (op_at : ℕ) → Operand → Gives Operand
apply_one c op op_at o = if is_bad o then gives o else apply_one_by c op op_at o
