-- How long the code of names, fields, elements and what pointers point to is.
use Rattle.std.specs.Prelude.{refl, ℕ, zero, suc, ◌+◌, ◌*◌, ◌≤◌, ◌==◌, ◌||◌, if◌then◌else◌, List, [], ◌∷◌, Option, Some, None, pos, slice_index, ◌-◌}
use Rattle.std.proofs.Common.{arith}
use Rattle.code_form.specs.declared.instr.Instr.{Instr}
use Rattle.code_form.specs.declared.instr.Instr.TheVariants.{Push, Local, Global, Load, Offset, Index, IndexOpen, Nil}
use Rattle.block_code.proofs.Lengths.{Spares, none-short, plain-short, spares-before, spares-behind, spares-less, spares-short, spares-then}
use Rattle.block_code.proofs.ValueHeights.{both_ways}
use Rattle.block_code.proofs.ValueLengths.{Roomy, assigned-roomy, bare-roomy, coded-sized, error-roomy, value-spares}
use Rattle.block_code.specs.Coded.{Coded, coded, in_error, value_code}
use Rattle.block_code.specs.Elements.{element_of_array, element_of_open, index_instr, of_array, of_pointer, select_element, select_element_by, select_target, select_target_by}
use Rattle.block_code.specs.Lengths.{IsShort}
use Rattle.block_code.specs.Parts.{Part, plain, with_record, ◌⨟◌}
use Rattle.block_code.specs.ProcedureNames.{import_number, is_own}
use Rattle.block_code.specs.RecordFields.{field_by, field_or, field_or_use, found_field, name_coded, of_record, offset_code, select_field, select_field_by, with_field}
use Rattle.block_code.specs.Values.{assigned_to}
use Rattle.block_code.specs.Variables.{cell_instr, entry_coded, high_of_mode, through, with_address}
use Rattle.m2_base.specs.Gives.{gives}
use Rattle.m2_base.specs.Rows.{row_meaning}
use Rattle.m2_base.specs.Standard.{cardinal}
use Rattle.m2_base.specs.Statics.Contexts.{Block, Context, Scene, level_of}
use Rattle.m2_base.specs.Statics.Diagnostics.{not_assignable}
use Rattle.m2_base.specs.Statics.Lookup.{Entry}
use Rattle.m2_base.specs.Statics.NamedOperands.{operand_of}
use Rattle.m2_base.specs.Statics.Operands.{is_bad}
use Rattle.m2_base.specs.Statics.Ranges.{Range, count_of}
use Rattle.m2_base.specs.Statics.TypeParts.{field_of, target_of}
use Rattle.m2_base.specs.Statics.Types.{is_broken, kind_of, range_of, size_of}
use Rattle.m2_base.specs.Statics.Uses.{use_of}
use Rattle.m2_base.specs.declared.operands.Operand.{Operand}
use Rattle.m2_base.specs.declared.operands.Operand.TheVariants.{ModuleName, Variable}
use Rattle.m2_base.specs.declared.rows.Mode.{Mode}
use Rattle.m2_base.specs.declared.rows.Mode.TheVariants.{Plain, ByAddress, Open}
use Rattle.m2_base.specs.declared.rows.Place.{Place}
use Rattle.m2_base.specs.declared.rows.Row.{Row}
use Rattle.m2_base.specs.declared.rows.RowMeaning.{RowMeaning}
use Rattle.m2_base.specs.declared.rows.RowMeaning.TheVariants.{Array, Field, OpenArray, Pointer, Record, Var}
use Rattle.m2_base.specs.declared.trees.Ident.{Ident}

-- ---- where a variable is

cell-short : (b : Block) (s o k : ℕ) (is : List Instr) → ((m n : ℕ) → IsShort k (plain (Global m n ∷ is))) → ((m n : ℕ) → IsShort k (plain (Local m n ∷ is)))
    → IsShort k (plain (cell_instr b s o ∷ is))
cell-short b s o k is g l =
    both_ways P (is_own b s) (Global 0 o) (if level_of b s == 0 then Global (import_number b s) o else Local (b.level - level_of b s) o)
    (g 0 o)
    (both_ways P (level_of b s == 0) (Global (import_number b s) o) (Local (b.level - level_of b s) o)
    (g (import_number b s) o) (l (b.level - level_of b s) o))
  where
    P : Instr → Type 0
    P i = IsShort k (plain (i ∷ is))

loaded-short : (b : Block) (s o : ℕ) → IsShort 10 (plain (cell_instr b s o ∷ Load ∷ []))
loaded-short b s o =
    cell-short b s o 10 (Load ∷ []) (λ m n. plain-short (Global m n ∷ Load ∷ []) 10 refl) (λ m n. plain-short (Local m n ∷ Load ∷ []) 10 refl)

address-short : (b : Block) (s o : ℕ) (m : Mode) → IsShort 10 (plain (cell_instr b s o ∷ through m))
address-short b s o Plain = cell-short b s o 10 [] (λ m n. plain-short (Global m n ∷ []) 10 refl) (λ m n. plain-short (Local m n ∷ []) 10 refl)
address-short b s o ByAddress = loaded-short b s o
address-short b s o Open = loaded-short b s o

high-short : (b : Block) (s o : ℕ) (m : Mode) → IsShort 10 (high_of_mode b s o m)
high-short b s o Open = loaded-short b s (o + 1)
high-short b s o m = plain-short (Push (pos 0) ∷ []) 10 refl

row_go : (b : Block) (s n : ℕ) (m : RowMeaning) (x : Operand) → 1 ≤ n → Roomy n (with_address b s m x)
row_go b s n (Var t mode o) (Variable u) l =
    record {
      some = l;
      code = spares-short (plain (cell_instr b s o ∷ through mode)) 10 32 n refl l (address-short b s o mode);
      high = high-short b s o mode;
    }
row_go b s n (Var t mode o) x l = bare-roomy n x l
row_go b s n m x l = bare-roomy n x l

pub entry-roomy : (c : Context) (n : ℕ) (e : Option Entry) → 1 ≤ n → Roomy n (entry_coded c e)
entry-roomy c n None l = error-roomy n l
entry-roomy c n (Some e) l = row_go c.scene.block e.0.scope n (row_meaning e.1) (operand_of c.scene e) l

-- ---- fields

offset-short : (o : ℕ) → IsShort 5 (offset_code o)
offset-short zero = none-short 5
offset-short (suc o) = plain-short (Offset (suc o) ∷ []) 5 refl

field-roomy : (scene : Scene) (n : ℕ) (code : Part) (m : RowMeaning) → 1 ≤ n → Spares 37 n code → Roomy n (field_by scene code m)
field-roomy scene n code (Field t o r i) l f =
    both_ways (Roomy n) (is_broken scene t) in_error (coded (Variable t) (code ⨟ offset_code o)) (error-roomy n l)
    (coded-sized 32 n (Variable t) (code ⨟ offset_code o) l (spares-behind code (offset_code o) 37 5 32 n refl f (offset-short o)))
field-roomy scene n code m l f = error-roomy n l

record-short : (k : ℕ) → IsShort 10 (with_record k)
record-short k = λ at. plain-short (Local 0 (slice_index at.withs k) ∷ Load ∷ []) 10 refl at

abbrev RoomyIfThere : ℕ → Option Coded → Type 0
RoomyIfThere n None = Unit {0}
RoomyIfThere n (Some x) = Roomy n x

field_or-roomy : (scene : Scene) (k n : ℕ) (f : Option Row) (outer : Option Coded) → 1 ≤ n → RoomyIfThere n outer → RoomyIfThere n (field_or scene k f outer)
field_or-roomy scene k n None outer l g = g
field_or-roomy scene k n (Some f) outer l g =
    field-roomy scene n (with_record k) (row_meaning f) l (spares-short (with_record k) 10 37 n refl l (record-short k))

with_field-roomy : (scene : Scene) (k n : ℕ) (withs : List Place) (name : ℕ) → 1 ≤ n → RoomyIfThere n (with_field scene k withs name)
with_field-roomy scene k n [] name l = tt
with_field-roomy scene k n (t ∷ ts) name l =
    field_or-roomy scene k n (field_of scene t name) (with_field scene (suc k) ts name) l (with_field-roomy scene (suc k) n ts name l)

use-roomy : (c : Context) (i : Ident) (n : ℕ) (x : Option Coded) → 1 ≤ n → RoomyIfThere n x → Roomy n (field_or_use c i x).value
use-roomy c i n None l g = entry-roomy c n (use_of c None i.name i.at).value l
use-roomy c i n (Some x) l g = g

-- a name
pub name-roomy : (c : Context) (withs : List Place) (i : Ident) → Roomy 1 (name_coded c withs i).value
name-roomy c withs i = use-roomy c i 1 (with_field c.scene 0 withs i.name) (omega arith) (with_field-roomy c.scene 0 1 withs i.name (omega arith))

-- ---- selectors

at_least : (n k : ℕ) → 1 ≤ n → 1 ≤ n + k
at_least n k l = omega (arith, l)

found-roomy : (c : Context) (n : ℕ) (code : Part) (i : Ident) (f : Option Row) → 1 ≤ n → Spares 37 n code → Roomy n (found_field c code i f).value
found-roomy c n code i None l g = error-roomy n l
found-roomy c n code i (Some f) l g = field-roomy c.scene n code (row_meaning f) l g

of_record-roomy : (c : Context) (at n : ℕ) (code : Part) (i : Ident) (t : Place) (m : RowMeaning) → 1 ≤ n → Spares 37 n code → Roomy n (of_record c at code i t m).value
of_record-roomy c at n code i t (Record f s) l g = found-roomy c n code i (field_of c.scene t i.name) l g
of_record-roomy c at n code i t m l g = error-roomy n l

field_go : (c : Context) (first at n : ℕ) (i : Ident) (code : Part) (o : Operand) → 1 ≤ n → Spares 37 n code → Roomy n (select_field_by c first at i code o).value
field_go c first at n i code (ModuleName s) l g = entry-roomy c n (use_of c (Some s) i.name i.at).value l
field_go c first at n i code (Variable t) l g = of_record-roomy c at n code i t (kind_of c.scene t) l g
field_go c first at n i code o l g = error-roomy n l

two_more : (n : ℕ) → 37 + 64 * n ≤ 32 + 64 * (n + 2)
two_more n = omega arith

pub select_field-roomy : (c : Context) (first at n : ℕ) (i : Ident) (x : Coded) → Roomy n x → Roomy (n + 2) (select_field c first at i x).value
select_field-roomy c first at n i x g =
    field_go c first at (n + 2) i x.code x.operand (at_least n 2 g.some) (spares-less x.code 32 37 n (n + 2) (two_more n) g.code)

one_more : (n : ℕ) → 34 + 64 * n ≤ 32 + 64 * (n + 1)
one_more n = omega arith

pointer-roomy : (c : Context) (at n : ℕ) (code : Part) (t : Place) (m : RowMeaning) → 1 ≤ n → Spares 34 n code → Roomy n (of_pointer c at code t m).value
pointer-roomy c at n code t (Pointer p) l g =
    both_ways (λ r. Roomy n r.value) (is_broken c.scene (target_of c.scene t)) (gives in_error)
    (gives (coded (Variable (target_of c.scene t)) (code ⨟ plain (Load ∷ Nil ∷ [])))) (error-roomy n l)
    (coded-sized 32 n (Variable (target_of c.scene t)) (code ⨟ plain (Load ∷ Nil ∷ [])) l
    (spares-behind code (plain (Load ∷ Nil ∷ [])) 34 2 32 n refl g (plain-short (Load ∷ Nil ∷ []) 2 refl)))
pointer-roomy c at n code t m l g = error-roomy n l

target_go : (c : Context) (first at n : ℕ) (code : Part) (o : Operand) → 1 ≤ n → Spares 34 n code → Roomy n (select_target_by c first at code o).value
target_go c first at n code (Variable t) l g = pointer-roomy c at n code t (kind_of c.scene t) l g
target_go c first at n code o l g = error-roomy n l

pub select_target-roomy : (c : Context) (first at n : ℕ) (x : Coded) → Roomy n x → Roomy (n + 1) (select_target c first at x).value
select_target-roomy c first at n x g =
    target_go c first at (n + 1) x.code x.operand (at_least n 1 g.some) (spares-less x.code 32 34 n (n + 1) (one_more n) g.code)

index-short : (r : Option Range) (s : ℕ) → IsShort 17 (plain (index_instr r s ∷ []))
index-short None s = plain-short (Index (pos 0) 0 s ∷ []) 17 refl
index-short (Some r) s = plain-short (Index r.low (count_of r) s ∷ []) 17 refl

same : (n k : ℕ) → 32 + 64 * (n + k) ≤ 38 + 64 * (n + k)
same n k = omega arith

array_element-roomy : (c : Context) (n k : ℕ) (x : Coded) (index elem : Place) (i : Coded) → Roomy n x → Roomy k i
    → Roomy (n + k) (element_of_array c x index elem i).value
array_element-roomy c n k x index elem i g h =
    let p : Part = plain (index_instr (range_of c.scene index) (size_of c.scene elem) ∷ []) in
    both_ways (λ r. Roomy (n + k) r.value) (is_bad i.operand || is_broken c.scene elem) (gives in_error)
    (gives (coded (Variable elem) (x.code ⨟ value_code c i ⨟ p))) (error-roomy (n + k) (at_least n k g.some))
    (coded-sized 32 (n + k) (Variable elem) (x.code ⨟ value_code c i ⨟ p) (at_least n k g.some)
    (spares-less (x.code ⨟ value_code c i ⨟ p) 38 32 (n + k) (n + k) (same n k)
    (spares-then x.code (value_code c i ⨟ p) 32 6 n k g.code
    (spares-behind (value_code c i) p 23 17 6 k refl (value-spares c k i h) (index-short (range_of c.scene index) (size_of c.scene elem))))))

open_element-roomy : (c : Context) (n k : ℕ) (x : Coded) (elem : Place) (i : Coded) → Roomy n x → Roomy k i
    → Roomy (n + k) (element_of_open c x elem i).value
open_element-roomy c n k x elem i g h =
    let p : Part = plain (IndexOpen (size_of c.scene elem) ∷ []) in
    both_ways (λ r. Roomy (n + k) r.value) (is_bad i.operand || is_broken c.scene elem) (gives in_error)
    (gives (coded (Variable elem) (x.code ⨟ x.high ⨟ value_code c i ⨟ p))) (error-roomy (n + k) (at_least n k g.some))
    (coded-sized 32 (n + k) (Variable elem) (x.code ⨟ x.high ⨟ value_code c i ⨟ p) (at_least n k g.some)
    (spares-less (x.code ⨟ x.high ⨟ value_code c i ⨟ p) 38 32 (n + k) (n + k) (same n k)
    (spares-then x.code (x.high ⨟ value_code c i ⨟ p) 32 6 n k g.code
    (spares-before x.high (value_code c i ⨟ p) 10 18 6 k refl g.high
    (spares-behind (value_code c i) p 23 5 18 k refl (value-spares c k i h) (plain-short (IndexOpen (size_of c.scene elem) ∷ []) 5 refl))))))

array-roomy : (c : Context) (at n : ℕ) (x : Coded) (i_at k : ℕ) (i : Coded) (m : RowMeaning) → Roomy n x → Roomy k i
    → Roomy (n + k) (of_array c at x i_at i m).value
array-roomy c at n x i_at k i (Array index elem s) g h =
    array_element-roomy c n k x index elem (assigned_to c index i_at not_assignable i).value g (assigned-roomy c index i_at not_assignable k i h)
array-roomy c at n x i_at k i (OpenArray elem) g h =
    open_element-roomy c n k x elem (assigned_to c cardinal i_at not_assignable i).value g (assigned-roomy c cardinal i_at not_assignable k i h)
array-roomy c at n x i_at k i m g h = error-roomy (n + k) (at_least n k g.some)

element_go : (c : Context) (first at i_at n k : ℕ) (i x : Coded) (o : Operand) → Roomy n x → Roomy k i
    → Roomy (n + k) (select_element_by c first at i_at i x o).value
element_go c first at i_at n k i x (Variable t) g h = array-roomy c at n x i_at k i (kind_of c.scene t) g h
element_go c first at i_at n k i x o g h = error-roomy (n + k) (at_least n k g.some)

pub select_element-roomy : (c : Context) (first at i_at n k : ℕ) (i x : Coded) → Roomy n x → Roomy k i
    → Roomy (n + k) (select_element c first at i_at i x).value
select_element-roomy c first at i_at n k i x g h = element_go c first at i_at n k i x x.operand g h
