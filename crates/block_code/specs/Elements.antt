-- Elements of arrays, and what pointers point to. An index is assignable to the index type, of an open array to
-- CARDINAL; the machine checks that it is one of the array's. A pointer is loaded, and must not be NIL.
use Rattle.std.specs.Prelude.{ℕ, pos, ◌||◌, [], ◌∷◌, if◌then◌else◌, Option, Some, None}
use Rattle.m2_base.specs.Gives.{Gives, gives, and_then}
use Rattle.m2_base.specs.declared.rows.Place.{Place}
use Rattle.m2_base.specs.declared.rows.RowMeaning.{RowMeaning}
use Rattle.m2_base.specs.declared.rows.RowMeaning.TheVariants.{Array, OpenArray, Pointer}
use Rattle.m2_base.specs.Standard.{cardinal}
use Rattle.m2_base.specs.Statics.Contexts.{Context, refuse}
use Rattle.m2_base.specs.Statics.Diagnostics.{not_a_pointer, not_an_array, not_assignable}
use Rattle.m2_base.specs.Statics.Operands.{is_bad}
use Rattle.m2_base.specs.Statics.Ranges.{Range, count_of}
use Rattle.m2_base.specs.Statics.TypeParts.{target_of}
use Rattle.m2_base.specs.Statics.Types.{is_broken, kind_of, range_of, size_of}
use Rattle.m2_base.specs.declared.operands.Operand.TheVariants.{InError, NotConstant, Variable}
use Rattle.m2_base.specs.declared.operands.Operand.{Operand}
use Rattle.code_form.specs.declared.instr.Instr.{Instr}
use Rattle.code_form.specs.declared.instr.Instr.TheVariants.{Load, Index, IndexOpen, Nil}
use Rattle.block_code.specs.Coded.{Coded, coded, in_error, value_code}
use Rattle.block_code.specs.Parts.{Part, plain, ◌⨟◌}
use Rattle.block_code.specs.RecordFields.{no_selector}
use Rattle.block_code.specs.Values.{assigned_to}

-- ---- what a pointer points to

-- what a variable of this type and its meaning points to
abbrev pub of_pointer : Context → (at : ℕ) → Part → Place → RowMeaning → Gives Coded
of_pointer c at code t (Pointer p) =
    if is_broken c.scene (target_of c.scene t) then gives in_error
    else gives (coded (Variable (target_of c.scene t)) (code ⨟ plain (Load ∷ Nil ∷ [])))
of_pointer c at code t other = refuse c at not_a_pointer in_error

-- by its operand, what something with this code points to
abbrev pub select_target_by : Context → (first at : ℕ) → Part → Operand → Gives Coded
select_target_by c first at code (Variable t) = of_pointer c at code t (kind_of c.scene t)
select_target_by c first at code InError = gives in_error
select_target_by c first at code NotConstant = gives in_error
select_target_by c first at code other = no_selector c first

-- What a pointer points to. `first` is the designator's first token, `at` the arrow.
abbrev pub select_target : Context → (first at : ℕ) → Coded → Gives Coded
select_target c first at x = select_target_by c first at x.code x.operand

-- ---- elements

-- the instruction that finds an element of this size by an index of this range
abbrev pub index_instr : Option Range → (size : ℕ) → Instr
index_instr None s = Index (pos 0) 0 s
index_instr (Some r) s = Index r.low (count_of r) s

-- the element of an array, by its index, unless one of them is in error
abbrev pub element_of_array : Context → Coded → (index elem : Place) → Coded → Gives Coded
element_of_array c x index elem i =
    if is_bad i.operand || is_broken c.scene elem then gives in_error
    else gives (coded (Variable elem)
    (x.code ⨟ value_code c i ⨟ plain (index_instr (range_of c.scene index) (size_of c.scene elem) ∷ [])))

-- the element of an open array, by its index, unless one of them is in error
abbrev pub element_of_open : Context → Coded → (elem : Place) → Coded → Gives Coded
element_of_open c x elem i =
    if is_bad i.operand || is_broken c.scene elem then gives in_error
    else gives (coded (Variable elem)
    (x.code ⨟ x.high ⨟ value_code c i ⨟ plain (IndexOpen (size_of c.scene elem) ∷ [])))

-- the element of a variable whose type has this meaning
abbrev pub of_array : Context → (at : ℕ) → Coded → (i_at : ℕ) → Coded → RowMeaning → Gives Coded
of_array c at x i_at i (Array index elem s) =
    and_then (assigned_to c index i_at not_assignable i) (element_of_array c x index elem)
of_array c at x i_at i (OpenArray elem) =
    and_then (assigned_to c cardinal i_at not_assignable i) (element_of_open c x elem)
of_array c at x i_at i other = refuse c at not_an_array in_error

-- by its operand, the element of an array
abbrev pub select_element_by : Context → (first at i_at : ℕ) → (i x : Coded) → Operand → Gives Coded
select_element_by c first at i_at i x (Variable t) = of_array c at x i_at i (kind_of c.scene t)
select_element_by c first at i_at i x InError = gives in_error
select_element_by c first at i_at i x NotConstant = gives in_error
select_element_by c first at i_at i x other = no_selector c first

-- The element of an array by one index. `first` is the designator's first token, `at` the bracket, `i_at` the index's
-- first token.
abbrev pub select_element : Context → (first at i_at : ℕ) → (i x : Coded) → Gives Coded
select_element c first at i_at i x = select_element_by c first at i_at i x x.operand
