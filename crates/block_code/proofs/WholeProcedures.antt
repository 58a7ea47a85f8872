-- What standard functions and procedures with their code stand for isn't in error, unless a diagnostic was noted.
use Rattle.std.specs.Prelude.{◌≡◌, ℕ, suc, ◌||◌, Bool, true, false, is_some}
use Rattle.std.proofs.Common.{subst, sym, refl, arith}
use Rattle.std.proofs.lemmas.Bool.{eqb-true, or_from}
use Rattle.m2_base.specs.Gives.{Gives}
use Rattle.m2_base.specs.declared.builtins.Builtin.{Builtin}
use Rattle.m2_base.specs.declared.builtins.Builtin.TheVariants.{Abs, Cap, Chr, Dec, Dispose, Excl, Halt, High, Inc, Incl, Max, Min, New, Odd, Ord, Size, Val}
use Rattle.m2_base.specs.declared.rows.Place.{Place}
use Rattle.m2_base.specs.declared.rows.RowMeaning.{RowMeaning}
use Rattle.m2_base.specs.declared.rows.RowMeaning.TheVariants.{Array, OpenArray}
use Rattle.m2_base.specs.Standard.{cardinal, character}
use Rattle.m2_base.specs.Statics.Assignable.{taken_into}
use Rattle.m2_base.specs.Statics.Compatible.{is_compatible}
use Rattle.m2_base.specs.Statics.Contexts.{Context, Scene}
use Rattle.m2_base.specs.Statics.Functions.{abs_of, cap_of, chr_of, odd_of, ord_of, val_of}
use Rattle.m2_base.specs.Statics.Operands.{is_bad, operand_type}
use Rattle.m2_base.specs.Statics.Operations.{is_set_kind}
use Rattle.m2_base.specs.Statics.Sets.{set_base}
use Rattle.m2_base.specs.Statics.TypeParts.{target_of}
use Rattle.m2_base.specs.Statics.Types.{is_broken, kind_of, range_of}
use Rattle.m2_base.specs.declared.operands.Operand.{Operand}
use Rattle.m2_base.specs.declared.operands.Operand.TheVariants.{Computed, Constant, InError, NotConstant, Variable}
use Rattle.block_code.proofs.Noted.{UnlessNoted, and_gives, by_test, given, in_turn, noted, otherwise, weaker}
use Rattle.block_code.proofs.WholeFunctions.{abs-result, cap-result, chr-result, max-result, min-result, odd-result, ord-result, size-result, val-result}
use Rattle.block_code.proofs.WholeNames.{the_second}
use Rattle.block_code.proofs.WholeOperands.{IsResult, neither_bad, not_bad, taken_beside-whole}
use Rattle.block_code.proofs.WholeRows.{IsWhole, base-whole, kind-whole, target-whole}
use Rattle.block_code.proofs.WholeValues.{Stands, as_value-stands, in_range-stands, made-stands}
use Rattle.block_code.specs.Coded.{Coded, bare, in_error, taken}
use Rattle.block_code.specs.Fitting.{fitted_code}
use Rattle.block_code.specs.Operators.{made}
use Rattle.block_code.specs.Parts.{Part}
use Rattle.block_code.specs.StandardFunctions.{abs_code, as_variable, as_variable_by, cap_code, high_of, high_of_variable, named_type, odd_code, on_value, size_code, value_of_type}
use Rattle.block_code.specs.StandardProcedures.{beside, disposed, element_of_base, first_of_two, included, is_pointer_type, is_step, new_room, number_of_type, of_no_argument, of_one_argument, of_two_arguments, one, set_member, step_number, step_type, stepped, takes_count, variable_argument, variable_where}
use Rattle.block_code.specs.Whole.{AreWhole, HasWholeParts, IsWholeType}

-- ---- standard functions

-- a variable
abbrev pub IsVariable : Operand → Type 0
IsVariable (Variable t) = Unit {0}
IsVariable other = ⊥

variable-stands : (scene : Scene) (o : Operand) → IsVariable o → IsWhole scene o
variable-stands scene (Variable t) h = tt
variable-stands scene o h = absurd h

module _ (c : Context) where
  on_value-stands : (at : ℕ) (x : Coded) (rule : Operand → Gives Operand) (code : Coded → Part) → Stands c.scene x
      → ((o : Operand) → IsWhole c.scene o → UnlessNoted IsResult (rule o)) → UnlessNoted (Stands c.scene) (on_value c at x rule code)
  on_value-stands at x rule code h k =
      in_turn (as_value-stands c at x h) (λ v l. and_gives (λ r. made r (code v)) (k v.operand l) (λ r m. made-stands c.scene r (code v) m))

  bare-stands : (r : Operand) → IsResult r → Stands c.scene (bare r)
  bare-stands r h = made-bare r h
    where
      made-bare : (o : Operand) → IsResult o → IsWhole c.scene o
      made-bare (Computed t) h = tt
      made-bare (Constant t v) h = tt
      made-bare o h = absurd h

  variable_by : (at : ℕ) (x : Coded) (o : Operand) → x.operand ≡ o → IsWhole c.scene o → UnlessNoted (λ (y : Coded). IsVariable y.operand) (as_variable_by c at x o)
  variable_by at x (Variable t) e h = given (subst IsVariable (sym e) tt)
  variable_by at x InError e h = absurd h
  variable_by at x NotConstant e h = absurd h
  variable_by at x o e h = noted

  variable-is : (at : ℕ) (x : Coded) → Stands c.scene x → UnlessNoted (λ (y : Coded). IsVariable y.operand) (as_variable c at x)
  variable-is at x h = variable_by at x x.operand refl h

  high-stands : (at : ℕ) (x : Coded) (m : RowMeaning) → HasWholeParts c.scene m → UnlessNoted (Stands c.scene) (high_of c at x m)
  high-stands at x (Array i t s) w = otherwise (is_broken c.scene i) _ w.0 (given tt)
  high-stands at x (OpenArray t) w = given tt
  high-stands at x m w = noted

  module _ (rows : AreWhole c.scene) where
    high_of-stands : (at : ℕ) (x : Coded) → IsVariable x.operand → UnlessNoted (Stands c.scene) (high_of_variable c at x)
    high_of-stands at x h =
        otherwise (is_bad x.operand) _ (not_bad c.scene x.operand (variable-stands c.scene x.operand h))
        (high-stands at x (kind_of c.scene (operand_type x.operand)) (kind-whole c.scene rows (operand_type x.operand)))

    pub value-stands : (t_at : ℕ) (t : Coded) (at : ℕ) (x : Coded) → Stands c.scene t → Stands c.scene x → UnlessNoted (Stands c.scene) (value_of_type c t_at t at x)
    value-stands t_at t at x h k =
        on_value-stands at x (val_of c t_at t.operand at) (fitted_code c (named_type t.operand)) k (λ o l. val-result c t_at t.operand at o h l)

  -- ---- standard procedures

  -- a variable whose type passes the test
  abbrev IsVariableOf : (Place → Bool) → Coded → Type 0
  IsVariableOf test x = IsVariable x.operand × (test (operand_type x.operand) ≡ true)

  passes : (a b : Bool) → a ≡ false → (a || b) ≡ true → b ≡ true
  passes true b e f = absurd cc
  passes false b e f = f

  variable_argument-is : (at : ℕ) (test : Place → Bool) (x : Coded) → Stands c.scene x → UnlessNoted (IsVariableOf test) (variable_argument c at test x)
  variable_argument-is at test x h = in_turn (variable-is at x h) (λ v k. variable_where-is v k)
    where
      variable_where-is : (v : Coded) → IsVariable v.operand → UnlessNoted (IsVariableOf test) (variable_where c at test v)
      variable_where-is v k =
          by_test (is_bad v.operand || test (operand_type v.operand))
          (λ e. given (k, passes (is_bad v.operand) (test (operand_type v.operand)) (not_bad c.scene v.operand (variable-stands c.scene v.operand k)) e)) (λ e. noted)

  stepped-stands : (f : Builtin) (x n : Coded) → IsVariable x.operand → Stands c.scene n → Stands c.scene (stepped c f x n)
  stepped-stands f x n h k =
      the_second (Stands c.scene) (is_bad x.operand || is_bad n.operand) in_error _ (neither_bad c.scene x.operand n.operand (variable-stands c.scene x.operand h) k) tt

  included-stands : (f : Builtin) (x e : Coded) → IsVariable x.operand → Stands c.scene e → Stands c.scene (included c f x e)
  included-stands f x e h k =
      the_second (Stands c.scene) (is_bad x.operand || is_bad e.operand) in_error _ (neither_bad c.scene x.operand e.operand (variable-stands c.scene x.operand h) k) tt

  disposed-stands : (x : Coded) → IsVariable x.operand → Stands c.scene (disposed x)
  disposed-stands x h = the_second (Stands c.scene) (is_bad x.operand) in_error _ (not_bad c.scene x.operand (variable-stands c.scene x.operand h)) tt

  beside-stands : (x : Coded) (rule : Coded → Gives Coded) (v : Coded) → IsVariable x.operand → Stands c.scene v → UnlessNoted (Stands c.scene) (rule v)
      → UnlessNoted (Stands c.scene) (beside x rule v)
  beside-stands x rule v h k r =
      otherwise (is_bad x.operand || is_bad v.operand) _ (neither_bad c.scene x.operand v.operand (variable-stands c.scene x.operand h) k) r

  number_of_type-stands : (at : ℕ) (want : Place) (n : Coded) → Stands c.scene n → UnlessNoted (Stands c.scene) (number_of_type c at want n)
  number_of_type-stands at want n h = by_test (is_step c.scene want n.operand) (λ e. in_range-stands c at want n h) (λ e. noted)

  step_number-stands : (x : Coded) (at : ℕ) (n : Coded) → IsVariable x.operand → Stands c.scene n → UnlessNoted (Stands c.scene) (step_number c x at n)
  step_number-stands x at n h k =
      let want = step_type c.scene (operand_type x.operand) in
      in_turn (as_value-stands c at n k) (λ v l. beside-stands x (number_of_type c at want) v h l (number_of_type-stands at want v l))

  element_of_base-stands : (at : ℕ) (base : Place) (v : Coded) → IsWholeType c.scene base → Stands c.scene v → UnlessNoted (Stands c.scene) (element_of_base c at base v)
  element_of_base-stands at base v w h =
      otherwise (is_broken c.scene base) _ w
      (by_test (is_compatible c.scene v.operand (Computed base))
      (λ e. in_range-stands c at base (taken (taken_into c.source c.scene base v.operand) v) (taken_beside-whole c.source c.scene v.operand (Computed base) h)) (λ e. noted))

  module _ (rows : AreWhole c.scene) where
    set_member-stands : (x : Coded) (at : ℕ) (e : Coded) → IsVariableOf (λ t. is_set_kind (kind_of c.scene t)) x → Stands c.scene e → UnlessNoted (Stands c.scene) (set_member c x at e)
    set_member-stands x at e h k =
        let base = set_base c (operand_type x.operand) in
        in_turn (as_value-stands c at e k) (λ v l.
        beside-stands x (element_of_base c at base) v h.0 l (element_of_base-stands at base v (base-whole c.scene rows (operand_type x.operand) h.1) l))

    new_room-stands : (x : Coded) → IsVariableOf (λ t. is_pointer_type (kind_of c.scene t)) x → Stands c.scene (new_room c x)
    new_room-stands x h =
        let t = target_of c.scene (operand_type x.operand) in
        the_second (Stands c.scene) (is_bad x.operand || is_broken c.scene t) in_error _
        (or_from (is_bad x.operand) (is_broken c.scene t) (not_bad c.scene x.operand (variable-stands c.scene x.operand h.0)) (target-whole c.scene rows (operand_type x.operand) h.1)) tt

    -- ---- by the number of arguments

    pub no_argument-stands : (f : Builtin) → takes_count f 0 ≡ true → Stands c.scene (of_no_argument f)
    no_argument-stands Halt e = tt
    no_argument-stands f e = absurd cc

    pub one_argument-stands : (f : Builtin) (at : ℕ) (x : Coded) → takes_count f 1 ≡ true → Stands c.scene x → UnlessNoted (Stands c.scene) (of_one_argument c f at x)
    one_argument-stands Abs at x e h = on_value-stands at x (abs_of c at) (abs_code c) h (abs-result c at)
    one_argument-stands Cap at x e h = on_value-stands at x (cap_of c at) (cap_code c) h (cap-result c at)
    one_argument-stands Chr at x e h = on_value-stands at x (chr_of c at) (fitted_code c character) h (chr-result c at)
    one_argument-stands Odd at x e h = on_value-stands at x (odd_of c at) (odd_code c) h (odd-result c at)
    one_argument-stands Ord at x e h = on_value-stands at x (ord_of c at) (fitted_code c cardinal) h (ord-result c at)
    one_argument-stands Min at x e h = and_gives bare (min-result c at x.operand h) bare-stands
    one_argument-stands Max at x e h = and_gives bare (max-result c at x.operand h) bare-stands
    one_argument-stands Size at x e h = and_gives (λ r. made r (size_code c x)) (size-result c at x.operand h) (λ r k. made-stands c.scene r (size_code c x) k)
    one_argument-stands High at x e h = in_turn (variable-is at x h) (λ v k. high_of-stands rows at v k)
    one_argument-stands Inc at x e h =
        and_gives (λ v. stepped c Inc v one) (variable_argument-is at (λ t. is_some (range_of c.scene t)) x h) (λ v k. stepped-stands Inc v one k.0 tt)
    one_argument-stands Dec at x e h =
        and_gives (λ v. stepped c Dec v one) (variable_argument-is at (λ t. is_some (range_of c.scene t)) x h) (λ v k. stepped-stands Dec v one k.0 tt)
    one_argument-stands New at x e h = and_gives (new_room c) (variable_argument-is at (λ t. is_pointer_type (kind_of c.scene t)) x h) new_room-stands
    one_argument-stands Dispose at x e h =
        and_gives disposed (variable_argument-is at (λ t. is_pointer_type (kind_of c.scene t)) x h) (λ v k. disposed-stands v k.0)
    one_argument-stands f at x e h = absurd cc

    -- the first of two arguments, where it isn't in error
    abbrev pub IsFirst : Builtin → Coded → Type 0
    IsFirst Inc x = IsVariable x.operand
    IsFirst Dec x = IsVariable x.operand
    IsFirst Incl x = IsVariableOf (λ t. is_set_kind (kind_of c.scene t)) x
    IsFirst Excl x = IsVariableOf (λ t. is_set_kind (kind_of c.scene t)) x
    IsFirst f x = Stands c.scene x

    pub first-stands : (f : Builtin) (at : ℕ) (x : Coded) → Stands c.scene x → UnlessNoted (IsFirst f) (first_of_two c f at x)
    first-stands Inc at x h = weaker (λ v k. k.0) (variable_argument-is at (λ t. is_some (range_of c.scene t)) x h)
    first-stands Dec at x h = weaker (λ v k. k.0) (variable_argument-is at (λ t. is_some (range_of c.scene t)) x h)
    first-stands Incl at x h = variable_argument-is at (λ t. is_set_kind (kind_of c.scene t)) x h
    first-stands Excl at x h = variable_argument-is at (λ t. is_set_kind (kind_of c.scene t)) x h
    first-stands f at x h = given h

    pub two_arguments-stands : (f : Builtin) (others x_at : ℕ) (x : Coded) (at : ℕ) (y : Coded) → takes_count f (suc (suc others)) ≡ true → IsFirst f x → Stands c.scene y
        → UnlessNoted (Stands c.scene) (of_two_arguments c f x_at x at y)
    two_arguments-stands Inc n x_at x at y e h k = and_gives (stepped c Inc x) (step_number-stands x at y h k) (λ v l. stepped-stands Inc x v h l)
    two_arguments-stands Dec n x_at x at y e h k = and_gives (stepped c Dec x) (step_number-stands x at y h k) (λ v l. stepped-stands Dec x v h l)
    two_arguments-stands Incl n x_at x at y e h k = and_gives (included c Incl x) (set_member-stands x at y h k) (λ v l. included-stands Incl x v h.0 l)
    two_arguments-stands Excl n x_at x at y e h k = and_gives (included c Excl x) (set_member-stands x at y h k) (λ v l. included-stands Excl x v h.0 l)
    two_arguments-stands Val n x_at x at y e h k = value-stands rows x_at x at y h k
    two_arguments-stands Halt n x_at x at y e h k = absurd (let g = eqb-true (suc (suc n)) 0 e in omega (arith, g))
    two_arguments-stands f n x_at x at y e h k = absurd (let g = eqb-true (suc (suc n)) 1 e in omega (arith, g))
