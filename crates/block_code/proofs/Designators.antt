-- The heights of names, fields, elements and what pointers point to: a variable's code leaves its address.
use Rattle.std.specs.Prelude.{◌≡◌, refl, ℕ, zero, suc, ◌+◌, ◌==◌, Bool, true, false, ◌||◌, if◌then◌else◌, List, [], ◌∷◌, Option, Some, None, pos, ◌-◌, slice_index}
use Rattle.m2_base.specs.declared.rows.Mode.TheVariants.{Plain, ByAddress, Open}
use Rattle.m2_base.specs.declared.rows.RowMeaning.TheVariants.{Proc, Module, Standard, Const, TypeName, Var, Field, Array, OpenArray, Record, Pointer}
use Rattle.code_form.specs.declared.instr.Instr.TheVariants.{Push, Local, Global, Load, Offset, Index, IndexOpen, Nil}
use Rattle.block_code.proofs.Moves.{Moves-then, Moves-none, Moves-raise, plain-moves}
use Rattle.block_code.proofs.ValueHeights.{with_operand, GoodAs, Good, Valued, value-moves, both_ways}
use Rattle.block_code.proofs.Functions.{assigned-good}
use Rattle.code_form.specs.declared.instr.Instr.{Instr}
use Rattle.block_code.specs.Coded.{Coded, bare, coded, in_error, no_high, value_code}
use Rattle.block_code.specs.Elements.{element_of_array, element_of_open, index_instr, of_array, of_pointer, select_element, select_target}
use Rattle.block_code.specs.Heights.{Moves}
use Rattle.block_code.specs.Parts.{Part, plain, with_record, ◌⨟◌}
use Rattle.block_code.specs.ProcedureNames.{import_number, is_own}
use Rattle.block_code.specs.RecordFields.{field_by, field_or, field_or_use, found_field, name_coded, of_record, offset_code, select_field, with_field}
use Rattle.block_code.specs.Values.{assigned_to}
use Rattle.block_code.specs.Variables.{cell_instr, entry_coded, high_of_mode, through, with_address}
use Rattle.m2_base.specs.Gives.{gives}
use Rattle.m2_base.specs.Rows.{is_same_place, natural, row_meaning}
use Rattle.m2_base.specs.Standard.{cardinal, text_type}
use Rattle.m2_base.specs.Statics.Contexts.{Block, Context, Scene, level_of}
use Rattle.m2_base.specs.Statics.Diagnostics.{not_assignable}
use Rattle.m2_base.specs.Statics.Lookup.{Entry}
use Rattle.m2_base.specs.Statics.NamedOperands.{is_in_error, operand_by}
use Rattle.m2_base.specs.Statics.Operands.{is_bad}
use Rattle.m2_base.specs.Statics.Ranges.{Range, count_of}
use Rattle.m2_base.specs.Statics.TypeParts.{field_of, target_of}
use Rattle.m2_base.specs.Statics.Types.{is_broken, kind_of, range_of, size_of}
use Rattle.m2_base.specs.Statics.Uses.{use_of}
use Rattle.m2_base.specs.declared.operands.Operand.{Operand}
use Rattle.m2_base.specs.declared.operands.Operand.TheVariants.{Constant, InError, ModuleName, NamedType, StringConstant, Variable}
use Rattle.m2_base.specs.declared.rows.Mode.{Mode}
use Rattle.m2_base.specs.declared.rows.Place.{Place}
use Rattle.m2_base.specs.declared.rows.Row.{Row}
use Rattle.m2_base.specs.declared.rows.RowMeaning.{RowMeaning}
use Rattle.m2_base.specs.declared.trees.Ident.{Ident}

-- ---- where a variable is

cell-moves : (b : Block) (s o : ℕ) (is : List Instr) → ((h : ℕ) (n : ℕ) → Moves 0 (plain (Global h n ∷ is)) 1) → ((h : ℕ) (n : ℕ) → Moves 0 (plain (Local h n ∷ is)) 1)
    → Moves 0 (plain (cell_instr b s o ∷ is)) 1
cell-moves b s o is g l =
    both_ways P (is_own b s) (Global 0 o) (if level_of b s == 0 then Global (import_number b s) o else Local (b.level - level_of b s) o)
    (g 0 o)
    (both_ways P (level_of b s == 0) (Global (import_number b s) o) (Local (b.level - level_of b s) o)
    (g (import_number b s) o) (l (b.level - level_of b s) o))
  where
    P : Instr → Type 0
    P i = Moves 0 (plain (i ∷ is)) 1

address-moves : (b : Block) (s o : ℕ) (m : Mode) → Moves 0 (plain (cell_instr b s o ∷ through m)) 1
address-moves b s o Plain = cell-moves b s o [] (λ h n. plain-moves (Global h n ∷ []) 0 1 refl) (λ h n. plain-moves (Local h n ∷ []) 0 1 refl)
address-moves b s o ByAddress =
    cell-moves b s o (Load ∷ []) (λ h n. plain-moves (Global h n ∷ Load ∷ []) 0 1 refl) (λ h n. plain-moves (Local h n ∷ Load ∷ []) 0 1 refl)
address-moves b s o Open =
    cell-moves b s o (Load ∷ []) (λ h n. plain-moves (Global h n ∷ Load ∷ []) 0 1 refl) (λ h n. plain-moves (Local h n ∷ Load ∷ []) 0 1 refl)

no_high-moves : Moves 0 no_high 1
no_high-moves = plain-moves (Push (pos 0) ∷ []) 0 1 refl

high_of_mode-moves : (b : Block) (s o : ℕ) (m : Mode) → Moves 0 (high_of_mode b s o m) 1
high_of_mode-moves b s o Open =
    cell-moves b s (o + 1) (Load ∷ []) (λ h n. plain-moves (Global h n ∷ Load ∷ []) 0 1 refl) (λ h n. plain-moves (Local h n ∷ Load ∷ []) 0 1 refl)
high_of_mode-moves b s o Plain = no_high-moves
high_of_mode-moves b s o ByAddress = no_high-moves

row-good : (c : Context) (s name : ℕ) (m : RowMeaning) → Good c.scene (with_address c.scene.block s m (operand_by c.scene name m))
row-good c s name (Var t mode o) =
    both_ways (λ x. Good c.scene (with_address c.scene.block s (Var t mode o) x))
    (is_in_error c.scene t) InError (Variable t) refl
    (address-moves c.scene.block s o mode, high_of_mode-moves c.scene.block s o mode)
row-good c s name (Const t v len) =
    both_ways (λ x. Good c.scene (bare x)) (is_broken c.scene t) InError
    (if is_same_place t text_type then StringConstant (natural v) len else Constant t v) refl
    (both_ways (λ x. Good c.scene (bare x)) (is_same_place t text_type) (StringConstant (natural v) len) (Constant t v) tt tt)
row-good c s name (TypeName t) =
    both_ways (λ x. Good c.scene (bare x)) (is_broken c.scene t) InError (NamedType t) refl tt
row-good c s name (Proc t k n) = tt
row-good c s name (Module n) = tt
row-good c s name (Standard n) = tt
row-good c s name m = refl

pub entry-good : (c : Context) (e : Option Entry) → Good c.scene (entry_coded c e)
entry-good c None = refl
entry-good c (Some e) = row-good c e.0.scope e.1.name (row_meaning e.1)

-- ---- fields

offset-moves : (n : ℕ) → Moves 1 (offset_code n) 1
offset-moves zero = Moves-none 1
offset-moves (suc n) = plain-moves (Offset (suc n) ∷ []) 1 1 refl

field-good : (scene : Scene) (code : Part) (m : RowMeaning) → Moves 0 code 1 → Good scene (field_by scene code m)
field-good scene code (Field t o r n) g =
    both_ways (Good scene) (is_broken scene t) in_error (coded (Variable t) (code ⨟ offset_code o)) refl
    (Moves-then code (offset_code o) 0 1 1 g (offset-moves o), no_high-moves)
field-good scene code m g = refl

record-moves : (k : ℕ) → Moves 0 (with_record k) 1
record-moves k = λ at. plain-moves (Local 0 (slice_index at.withs k) ∷ Load ∷ []) 0 1 refl at

abbrev GoodIfThere : Scene → Option Coded → Type 0
GoodIfThere scene None = Unit {0}
GoodIfThere scene (Some x) = Good scene x

field_or-good : (scene : Scene) (k : ℕ) (f : Option Row) (outer : Option Coded) → GoodIfThere scene outer → GoodIfThere scene (field_or scene k f outer)
field_or-good scene k None outer g = g
field_or-good scene k (Some f) outer g = field-good scene (with_record k) (row_meaning f) (record-moves k)

with_field-good : (scene : Scene) (k : ℕ) (withs : List Place) (name : ℕ) → GoodIfThere scene (with_field scene k withs name)
with_field-good scene k [] name = tt
with_field-good scene k (t ∷ ts) name =
    field_or-good scene k (field_of scene t name) (with_field scene (suc k) ts name) (with_field-good scene (suc k) ts name)

use-good : (c : Context) (i : Ident) (x : Option Coded) → GoodIfThere c.scene x → Good c.scene (field_or_use c i x).value
use-good c i None g = entry-good c (use_of c None i.name i.at).value
use-good c i (Some x) g = g

-- a name's variable has its address
pub name-good : (c : Context) (withs : List Place) (i : Ident) → Good c.scene (name_coded c withs i).value
name-good c withs i = use-good c i (with_field c.scene 0 withs i.name) (with_field-good c.scene 0 withs i.name)

-- ---- selectors

found-good : (c : Context) (code : Part) (i : Ident) (f : Option Row) → Moves 0 code 1 → Good c.scene (found_field c code i f).value
found-good c code i None g = refl
found-good c code i (Some f) g = field-good c.scene code (row_meaning f) g

record-good : (c : Context) (at : ℕ) (code : Part) (i : Ident) (t : Place) (m : RowMeaning) → Moves 0 code 1 → Good c.scene (of_record c at code i t m).value
record-good c at code i t (Record f s) g = found-good c code i (field_of c.scene t i.name) g
record-good c at code i t m g = refl

field_go : (c : Context) (first at : ℕ) (i : Ident) (o : Operand) (code high : Part) → GoodAs c.scene code high o
    → Good c.scene (select_field c first at i (with_operand o code high)).value
field_go c first at i (ModuleName s) code high g = entry-good c (use_of c (Some s) i.name i.at).value
field_go c first at i (Variable t) code high g = record-good c at code i t (kind_of c.scene t) g.0
field_go c first at i o code high g = refl

pub select_field-good : (c : Context) (first at : ℕ) (i : Ident) (x : Coded) → Good c.scene x → Good c.scene (select_field c first at i x).value
select_field-good c first at i x g = field_go c first at i x.operand x.code x.high g

pointer-good : (c : Context) (at : ℕ) (code : Part) (t : Place) (m : RowMeaning) → Moves 0 code 1 → Good c.scene (of_pointer c at code t m).value
pointer-good c at code t (Pointer p) g =
    both_ways (λ r. Good c.scene r.value) (is_broken c.scene (target_of c.scene t)) (gives in_error)
    (gives (coded (Variable (target_of c.scene t)) (code ⨟ plain (Load ∷ Nil ∷ [])))) refl
    (Moves-then code (plain (Load ∷ Nil ∷ [])) 0 1 1 g (plain-moves (Load ∷ Nil ∷ []) 1 1 refl), no_high-moves)
pointer-good c at code t m g = refl

target_go : (c : Context) (first at : ℕ) (o : Operand) (code high : Part) → GoodAs c.scene code high o
    → Good c.scene (select_target c first at (with_operand o code high)).value
target_go c first at (Variable t) code high g = pointer-good c at code t (kind_of c.scene t) g.0
target_go c first at o code high g = refl

pub select_target-good : (c : Context) (first at : ℕ) (x : Coded) → Good c.scene x → Good c.scene (select_target c first at x).value
select_target-good c first at x g = target_go c first at x.operand x.code x.high g

index-moves : (r : Option Range) (s : ℕ) → Moves 2 (plain (index_instr r s ∷ [])) 1
index-moves None s = plain-moves (Index (pos 0) 0 s ∷ []) 2 1 refl
index-moves (Some r) s = plain-moves (Index r.low (count_of r) s ∷ []) 2 1 refl

-- where neither test holds
pub unless_either : {A : Type 0} (P : A → Type 0) (s t : Bool) (a b : A) → P a → (s ≡ false → P b) → P (if s || t then a else b)
unless_either P true t a b p q = p
unless_either P false true a b p q = p
unless_either P false false a b p q = q refl

array_element-good : (c : Context) (x : Coded) (index elem : Place) (i : Coded) → Moves 0 x.code 1 → Valued c.scene i
    → Good c.scene (element_of_array c x index elem i).value
array_element-good c x index elem i g v =
    unless_either (λ r. Good c.scene r.value) (is_bad i.operand) (is_broken c.scene elem) (gives in_error)
    (gives (coded (Variable elem)
    (x.code ⨟ value_code c i ⨟ plain (index_instr (range_of c.scene index) (size_of c.scene elem) ∷ [])))) refl
    (λ b. (
      Moves-then x.code (value_code c i ⨟ plain (index_instr (range_of c.scene index) (size_of c.scene elem) ∷ [])) 0 1 1 g
          (Moves-then (value_code c i) (plain (index_instr (range_of c.scene index) (size_of c.scene elem) ∷ [])) 1 2 1
          (Moves-raise (value_code c i) 0 1 1 (value-moves c i v b)) (index-moves (range_of c.scene index) (size_of c.scene elem))),
      no_high-moves,
    ))

open_element-good : (c : Context) (x : Coded) (elem : Place) (i : Coded) → Moves 0 x.code 1 → Moves 0 x.high 1 → Valued c.scene i
    → Good c.scene (element_of_open c x elem i).value
open_element-good c x elem i g h v =
    unless_either (λ r. Good c.scene r.value) (is_bad i.operand) (is_broken c.scene elem) (gives in_error)
    (gives (coded (Variable elem) (x.code ⨟ x.high ⨟ value_code c i ⨟ plain (IndexOpen (size_of c.scene elem) ∷ [])))) refl
    (λ b. (
      Moves-then x.code (x.high ⨟ value_code c i ⨟ plain (IndexOpen (size_of c.scene elem) ∷ [])) 0 1 1 g
          (Moves-then x.high (value_code c i ⨟ plain (IndexOpen (size_of c.scene elem) ∷ [])) 1 2 1 (Moves-raise x.high 0 1 1 h)
          (Moves-then (value_code c i) (plain (IndexOpen (size_of c.scene elem) ∷ [])) 2 3 1
          (Moves-raise (value_code c i) 0 1 2 (value-moves c i v b)) (plain-moves (IndexOpen (size_of c.scene elem) ∷ []) 3 1 refl))),
      no_high-moves,
    ))

array-good : (c : Context) (at : ℕ) (x : Coded) (i_at : ℕ) (i : Coded) (m : RowMeaning) → Moves 0 x.code 1 → Moves 0 x.high 1 → Valued c.scene i
    → Good c.scene (of_array c at x i_at i m).value
array-good c at x i_at i (Array index elem s) g h v =
    array_element-good c x index elem (assigned_to c index i_at not_assignable i).value g (assigned-good c index i_at not_assignable i v)
array-good c at x i_at i (OpenArray elem) g h v =
    open_element-good c x elem (assigned_to c cardinal i_at not_assignable i).value g h (assigned-good c cardinal i_at not_assignable i v)
array-good c at x i_at i m g h v = refl

element_go : (c : Context) (first at i_at : ℕ) (i : Coded) (o : Operand) (code high : Part) → Valued c.scene i → GoodAs c.scene code high o
    → Good c.scene (select_element c first at i_at i (with_operand o code high)).value
element_go c first at i_at i (Variable t) code high v g =
    array-good c at (with_operand (Variable t) code high) i_at i (kind_of c.scene t) g.0 g.1 v
element_go c first at i_at i o code high v g = refl

pub select_element-good : (c : Context) (first at i_at : ℕ) (i x : Coded) → Valued c.scene i → Good c.scene x
    → Good c.scene (select_element c first at i_at i x).value
select_element-good c first at i_at i x v g = element_go c first at i_at i x.operand x.code x.high v g
