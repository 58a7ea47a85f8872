-- In a sound context the parts of types are right: constants, bounds, arrays, targets, parameters and fields.
use Rattle.std.specs.Prelude.{◌≡◌, ℕ, ◌+◌, ◌*◌, ◌^◌, ◌<◌, ◌≤◌, ◌&&◌, ◌||◌, Bool, true, false, not, if◌then◌else◌, ℤ, pos, nat_lt, max, List, [], ◌∷◌, length, is_none, Option, Some, None}
use Rattle.std.proofs.Common.{arith}
use Rattle.std.proofs.Math.Nat.{min-le_right, le-min, le-max_left}
use Rattle.m2_base.specs.Gives.{Gives, gives}
use Rattle.m2_base.specs.Lists.{Each, WhereKept}
use Rattle.m2_base.specs.Rows.{Place, at_place, row_meaning, RowMeaning, Alias, Const, TypeName, Subrange, Array, OpenArray, Param, Field, Fits, HasSmallOrdinals, IsValue, IsBefore, is_same_place}
use Rattle.m2_base.specs.Standard.{integer, cardinal, whole, text_type, broken}
use Rattle.m2_base.specs.Trees.{Ident, Qual, Formal, Expr, expr_at}
use Rattle.m2_base.specs.Statics.Arrays.{array_size, array_rows, checked_index, checked_base, is_index_range, is_set_range, elements}
use Rattle.m2_base.specs.Statics.Cells.{capped, fitting, most_cells}
use Rattle.m2_base.specs.Statics.Compatible.{is_integer_or_cardinal}
use Rattle.m2_base.specs.Statics.Constants.{constant_of}
use Rattle.m2_base.specs.Statics.Contexts.{Context, Scene, Named}
use Rattle.m2_base.specs.Statics.Enumerations.{constant_rows}
use Rattle.m2_base.specs.Statics.Fields.{field_row, plain_rows, tag_type, checked_tag, tag_rows}
use Rattle.m2_base.specs.Statics.Lookup.{Entry, entry_at, first_entry}
use Rattle.m2_base.specs.Statics.Makes.{Makes, with_rows, makes_row, makes_named}
use Rattle.m2_base.specs.Statics.Operands.{operand_type, constant_of_operand, char_or_same}
use Rattle.m2_base.specs.Statics.Operations.{is_ordinal}
use Rattle.m2_base.specs.Statics.ProcedureTypes.{open_array_row, parameter_type, formal_rows, result_type, checked_result, is_structured}
use Rattle.m2_base.specs.Statics.SoundTrees.{IsSoundExpr, AreSoundNames, IsSoundTag}
use Rattle.m2_base.specs.Statics.Subranges.{Bounds, common_type, whole_base, subrange_base, subrange_if, within_base, of_common, of_values, of_ordinals, is_broken_base, of_bounds, named_base, subrange_of, subrange_row}
use Rattle.m2_base.specs.Statics.Targets.{imported_target, entry_target, layout_target, target_by_layout, target_by_name}
use Rattle.m2_base.specs.Statics.TypeNames.{type_of_qual}
use Rattle.m2_base.specs.Statics.Types.{is_broken, range_of, base_of, size_of, stands_for}
use Rattle.m2_base.specs.Statics.Uses.{followed, followed_by}
use Rattle.m2_base.specs.declared.operands.Operand.{Operand}
use Rattle.m2_base.specs.declared.operands.Operand.TheVariants.{Constant}
use Rattle.m2_base.proofs.EachLaws.{each_then}
use Rattle.m2_base.proofs.Sound.{Sound, AreOk, no_ok, ok-append, IsThere, there-with, Room, room-left, room-right, room-then, row_ok}
use Rattle.m2_base.proofs.SoundConstants.{constant_ok}
use Rattle.m2_base.proofs.SoundMade.{Made, made-append, made-then, made-before, context-with, context-then, there-then, row_made, plain_made, named_made}
use Rattle.m2_base.proofs.SoundOperands.{OperandOk, natural-value}
use Rattle.m2_base.proofs.SoundOperations.{layout_small, SoundContext, operand_there, char_or_same_ok}
use Rattle.m2_base.proofs.SoundTypes.{either, broken-there, standard-there, stands_there, base_there, qual_there}

pub capped-most : (n : ℕ) → capped n ≤ most_cells + 1
capped-most n = min-le_right n (most_cells + 1)

module _ (names : ℕ) where
  -- ** Enumerations

  pub constants_made : (idents : List Ident) (c : Context) (t : Place) (n : ℕ) → SoundContext names c → IsThere c.scene t → (t ≡ text_type → ⊥) → n + length idents < 2 ^ 32
      → AreSoundNames names idents → Room c.scene (constant_rows c t n idents).rows
      → Made names c.scene (constant_rows c t n idents).rows (constant_rows c t n idents).value
  constants_made [] c t n sound h k few good room = made-before sound.scene.room no_ok h
  constants_made (i ∷ idents) c t n sound h k few good room =
      let m = Const t (pos n) 0 in
      let first = named_made c sound i.name i.at m good.0 h.0 (h.1, natural-value n (omega (arith, few)), omega arith, λ e. absurd (k e)) tt in
      let xs = (makes_named c i.name i.at m).rows in
      made-append first.rows_ok
      (constants_made idents (with_rows c xs) t (n + 1) (context-with sound first.rows_ok (room-left xs _ room))
      (there-with c.scene xs t sound.scene.room h) k (omega (arith, few)) good.1 (room-right c.scene xs _ sound.scene.room room))

  -- ** Subranges

  abbrev pub BoundsOk : Scene → Bounds → Type 0
  BoundsOk scene b = IsThere scene b.base × IsValue b.low × IsValue b.high

  abbrev OptionThere : Scene → Option Place → Type 0
  OptionThere scene o = WhereKept o (IsThere scene)

  subrange_if_ok : (scene : Scene) (base : Place) (low high : ℤ) (good : Bool) → IsThere scene base → IsValue low → IsValue high → WhereKept (subrange_if base low high good) (BoundsOk scene)
  subrange_if_ok scene base low high true h k l = (h, k, l)
  subrange_if_ok scene base low high false h k l = tt

  within_base_ok : (c : Context) (low_at high_at : ℕ) (low high : ℤ) (o : Option Place) → OptionThere c.scene o → IsValue low → IsValue high
      → WhereKept (within_base c low_at high_at low high o).value (BoundsOk c.scene)
  within_base_ok c low_at high_at low high None h k l = tt
  within_base_ok c low_at high_at low high (Some base) h k l = subrange_if_ok c.scene base low high _ h k l

  whole_base_there : (scene : Scene) → Sound names scene → (low : ℤ) → IsThere scene (whole_base low)
  whole_base_there scene sound low = either (IsThere scene) _ cardinal integer (standard-there sound 1 (omega arith)) (standard-there sound 0 (omega arith))

  subrange_base_ok : (c : Context) → Sound names c.scene → (base : Option Place) (t : Place) (low : ℤ) → OptionThere c.scene base → IsThere c.scene t → OptionThere c.scene (subrange_base c base t low)
  subrange_base_ok c sound None t low h k =
      either (OptionThere c.scene) (is_same_place t whole) (Some (whole_base low)) (Some t) (whole_base_there c.scene sound low) k
  subrange_base_ok c sound (Some base) t low h k =
      either (OptionThere c.scene) _ (Some (stands_for c.scene base)) None (stands_there sound base h) tt

  common_ok : (scene : Scene) (t u : Place) → IsThere scene t → IsThere scene u → OptionThere scene (common_type t u)
  common_ok scene t u h k =
      either (OptionThere scene) (is_same_place t u) (Some t) _ h
      (either (OptionThere scene) (is_same_place t whole && is_integer_or_cardinal u) (Some u) _ k
      (either (OptionThere scene) (is_same_place u whole && is_integer_or_cardinal t) (Some t) None h tt))

  of_common_ok : (c : Context) → Sound names c.scene → (base : Option Place) (low_at high_at : ℕ) (low high : ℤ) (o : Option Place) → OptionThere c.scene base → OptionThere c.scene o
      → IsValue low → IsValue high → WhereKept (of_common c base low_at high_at low high o).value (BoundsOk c.scene)
  of_common_ok c sound base low_at high_at low high None h k l m = tt
  of_common_ok c sound base low_at high_at low high (Some t) h k l m =
      within_base_ok c low_at high_at low high (subrange_base c base t low) (subrange_base_ok c sound base t low h k) l m

  constant_value_ok : (scene : Scene) (o : Operand) → OperandOk names scene o → WhereKept (constant_of_operand o) IsValue
  constant_value_ok scene (Constant t v) h = h.1
  constant_value_ok scene o h = tt

  of_values_ok : (c : Context) → Sound names c.scene → (base : Option Place) (low_at high_at : ℕ) (x y : Operand) (v w : Option ℤ) → OptionThere c.scene base
      → OperandOk names c.scene x → OperandOk names c.scene y → WhereKept v IsValue → WhereKept w IsValue → WhereKept (of_values c base low_at high_at x y v w).value (BoundsOk c.scene)
  of_values_ok c sound base low_at high_at x y (Some low) (Some high) h k l m n =
      let t = base_of c.scene (operand_type x) in
      let u = base_of c.scene (operand_type y) in
      of_common_ok c sound base low_at high_at low high (common_type t u) h
      (common_ok c.scene t u (base_there sound (operand_type x) (operand_there names sound x k)) (base_there sound (operand_type y) (operand_there names sound y l))) m n
  of_values_ok c sound base low_at high_at x y v w h k l m n = tt

  of_ordinals_ok : (c : Context) → Sound names c.scene → (base : Option Place) (low_at high_at : ℕ) (x y : Operand) → OptionThere c.scene base
      → OperandOk names c.scene x → OperandOk names c.scene y → WhereKept (of_ordinals c base low_at high_at x y).value (BoundsOk c.scene)
  of_ordinals_ok c sound base low_at high_at x y h k l =
      either (λ (g : Gives (Option Bounds)). WhereKept g.value (BoundsOk c.scene)) (is_ordinal c x && is_ordinal c y) _ _
      (of_values_ok c sound base low_at high_at x y (constant_of_operand x) (constant_of_operand y) h k l (constant_value_ok c.scene x k) (constant_value_ok c.scene y l)) tt

  of_bounds_ok : (c : Context) → SoundContext names c → (base : Option Place) (low_at high_at : ℕ) (x y : Option Operand) → OptionThere c.scene base
      → WhereKept x (OperandOk names c.scene) → WhereKept y (OperandOk names c.scene) → WhereKept (of_bounds c base low_at high_at x y).value (BoundsOk c.scene)
  of_bounds_ok c sound base low_at high_at (Some x) (Some y) h k l =
      either (λ (g : Gives (Option Bounds)). WhereKept g.value (BoundsOk c.scene)) (is_broken_base c base) (gives None) _ tt
      (of_ordinals_ok c sound.scene base low_at high_at (char_or_same c.source x) (char_or_same c.source y) h (char_or_same_ok names c sound x k) (char_or_same_ok names c sound y l))
  of_bounds_ok c sound base low_at high_at (Some x) None h k l = tt
  of_bounds_ok c sound base low_at high_at None y h k l = tt

  named_base_ok : (c : Context) → Sound names c.scene → (q : Option Qual) → OptionThere c.scene (named_base c q).value
  named_base_ok c sound None = tt
  named_base_ok c sound (Some q) = qual_there c sound q

  pub subrange_ok : (c : Context) → SoundContext names c → (base : Option Qual) (low high : Expr) → IsSoundExpr names low → IsSoundExpr names high
      → WhereKept (subrange_of c base low high).value (BoundsOk c.scene)
  subrange_ok c sound base low high h k =
      of_bounds_ok c sound (named_base c base).value (expr_at low) (expr_at high) (constant_of c low).value (constant_of c high).value
      (named_base_ok c sound.scene base) (constant_ok names low c sound h) (constant_ok names high c sound k)

  pub subrange_row_made : (c : Context) → SoundContext names c → (at : ℕ) (o : Option Bounds) → WhereKept o (BoundsOk c.scene)
      → Made names c.scene (subrange_row c at o).rows (subrange_row c at o).value
  subrange_row_made c sound at (Some b) h = plain_made c sound at (Subrange b.base b.low b.high) h.0.0 (h.0.1, h.1, h.2) tt
  subrange_row_made c sound at None h =
      let there = broken-there sound.scene in
      let zero_value = natural-value 0 (omega arith) in
      made-before sound.scene.room (plain_made c sound at (Subrange broken (pos 0) (pos 0)) there.0 (there.1, zero_value, zero_value) tt).rows_ok there

  -- ** Arrays and sets

  checked_there : (c : Context) → Sound names c.scene → (b : Bool) (t : Place) (g : Gives Place) → IsThere c.scene t → IsThere c.scene g.value → IsThere c.scene (if b then gives t else g).value
  checked_there c sound b t g h k = either (λ (g' : Gives Place). IsThere c.scene g'.value) b (gives t) g h k

  pub index_there : (c : Context) → Sound names c.scene → (at : ℕ) (t : Place) → IsThere c.scene t → IsThere c.scene (checked_index c at t).value
  index_there c sound at t h = checked_there c sound (is_broken c.scene t || is_index_range (range_of c.scene t)) t _ h (broken-there sound)

  pub set_base_there : (c : Context) → Sound names c.scene → (at : ℕ) (t : Place) → IsThere c.scene t → IsThere c.scene (checked_base c at t).value
  set_base_there c sound at t h = checked_there c sound (is_broken c.scene t || is_set_range (range_of c.scene t)) t _ h (broken-there sound)

  pub fitting_there : (c : Context) → Sound names c.scene → (at size : ℕ) (t : Place) → IsThere c.scene t → IsThere c.scene (fitting c at size t).value
  fitting_there c sound at size t h = either (λ (g : Gives Place). IsThere c.scene g.value) (nat_lt most_cells size) _ (gives t) (broken-there sound) h

  size_filled : (n : ℕ) → 1 ≤ capped (max 1 n)
  size_filled n = le-min (le-max_left 1 n) (omega arith)

  pub arrays_made : (is : List Place) (c : Context) (at : ℕ) (elem : Place) → SoundContext names c → Each (IsThere c.scene) is → IsThere c.scene elem → Room c.scene (array_rows c at is elem).rows
      → Made names c.scene (array_rows c at is elem).rows (array_rows c at is elem).value
  arrays_made [] c at elem sound h k room = made-before sound.scene.room no_ok k
  arrays_made (index ∷ outer) c at elem sound h k room =
      let size = array_size c index elem in
      let small = capped-most (max 1 (elements c index * size_of c.scene elem)) in
      let made = makes_row c at (Array index elem size) in
      let first = plain_made c sound at (Array index elem size) (h.0.0, k.0) (h.0.1, k.1, omega (arith, small)) (size_filled (elements c index * size_of c.scene elem)) in
      let d = with_rows c made.rows in
      let after = context-with sound first.rows_ok (room-left made.rows _ room) in
      let u = (fitting d at size made.value).value in
      made-append first.rows_ok (made-then
      (arrays_made outer (with_rows d []) at u (context-then after)
      (each_then _ _ outer (λ p there. there-then d.scene p (there-with c.scene made.rows p sound.scene.room there)) h.1)
      (there-then d.scene u (fitting_there d after.scene at size made.value first.there))
      (room-then (room-right c.scene made.rows _ sound.scene.room room))))

  -- ** Targets of pointers

  abbrev pub IsTarget : Scene → Place → Type 0
  IsTarget scene t = (t.ordinal < 2 ^ 32) × (t.scope ≤ scene.block.scope)

  pub there_target : (scene : Scene) → Sound names scene → (t : Place) → IsThere scene t → IsTarget scene t
  there_target scene sound t h = let few = sound.few in let b = h.1 in (h.0, omega (arith, few, b))

  -- what an alias at a place of this scope leads to
  alias_target : (scene : Scene) (p q : Place) → p.ordinal < 2 ^ 32 → IsBefore p q → IsTarget scene q → IsTarget scene p
  alias_target scene p q s h k = let o = k.0 in let b = k.1 in (s, omega (arith, h, o, b))

  followed_target : (scene : Scene) (e : Entry) (m : RowMeaning) → IsTarget scene e.0 → Fits names e.0 m → HasSmallOrdinals m → IsTarget scene (followed_by scene e m).0
  followed_target scene e (Alias p) h f s = alias_target scene p e.0 s f h
  followed_target scene e m h f s = h

  imported_ok : (c : Context) → Sound names c.scene → (at : ℕ) (p : Place) (m : RowMeaning) → IsTarget c.scene p → IsTarget c.scene (imported_target c at p m).value
  imported_ok c sound at p (TypeName t) h = h
  imported_ok c sound at p m h = there_target c.scene sound broken (broken-there sound)

  layout_ok : (c : Context) → Sound names c.scene → (at : ℕ) (n : Named) → n.ordinal < 2 ^ 32 → IsTarget c.scene (layout_target c at n).value
  layout_ok c sound at n small =
      let p = at_place c.scene.block.scope n.ordinal in
      let e = entry_at c.scene p in
      let row = row_ok sound p in
      let target : IsTarget c.scene p = (small, omega arith) in
      either (λ (g : Gives Place). IsTarget c.scene g.value) _ (gives p) _ target
      (either (λ (g : Gives Place). IsTarget c.scene g.value) _ (entry_target c at (followed c.scene e)) _
      (imported_ok c sound at (followed c.scene e).0 (row_meaning (followed c.scene e).1) (followed_target c.scene e (row_meaning e.1) target row.formed.fits row.small))
      (there_target c.scene sound broken (broken-there sound)))

  abbrev TargetOk : Scene → Option (Gives Place) → Type 0
  TargetOk scene o = WhereKept o (λ g. IsTarget scene g.value)

  by_layout_ok : (c : Context) → Sound names c.scene → (i : Ident) (o : Option Named) → WhereKept o (λ n. n.ordinal < 2 ^ 32) → TargetOk c.scene (target_by_layout c i o)
  by_layout_ok c sound i None h = tt
  by_layout_ok c sound i (Some n) h = layout_ok c sound i.at n h

  pub by_name_ok : (c : Context) → SoundContext names c → (o : Option Ident) → TargetOk c.scene (target_by_name c o)
  by_name_ok c sound None = tt
  by_name_ok c sound (Some i) = by_layout_ok c sound.scene i (first_entry c.layout i.name) (layout_small c.layout sound.layout i.name)

  -- ** Parameters and results

  pub open_made : (c : Context) → SoundContext names c → (at : ℕ) (is_open : Bool) (t : Place) → IsThere c.scene t
      → Made names c.scene (open_array_row c at is_open t).rows (open_array_row c at is_open t).value
  open_made c sound at true t h = plain_made c sound at (OpenArray t) h.0 h.1 tt
  open_made c sound at false t h = made-before sound.scene.room no_ok h

  pub parameter_made : (c : Context) → SoundContext names c → (is_open : Bool) (q : Qual) → Made names c.scene (parameter_type c is_open q).rows (parameter_type c is_open q).value
  parameter_made c sound is_open q =
      made-then (open_made (with_rows c []) (context-then sound) q.first.at is_open (type_of_qual c q).value (there-then c.scene _ (qual_there c sound.scene q)))

  pub formals_ok : (formals : List Formal) (c : Context) (own : ℕ) → SoundContext names c → own < 2 ^ 32 → Room c.scene (formal_rows c own formals).rows → AreOk names c.scene (formal_rows c own formals).rows
  formals_ok [] c own sound h room = no_ok
  formals_ok (f ∷ formals) c own sound h room =
      let typ = parameter_type c f.is_open f.of in
      let first = parameter_made c sound f.is_open f.of in
      let d = with_rows c typ.rows in
      let after = context-with sound first.rows_ok (room-left typ.rows _ room) in
      let rest = room-right c.scene typ.rows _ sound.scene.room room in
      let param = makes_row d f.of.first.at (Param typ.value f.by_ref own) in
      let second = plain_made d after f.of.first.at (Param typ.value f.by_ref own) first.there.0 (first.there.1, h) tt in
      ok-append first.rows_ok (ok-append second.rows_ok
      (formals_ok formals (with_rows d param.rows) own (context-with after second.rows_ok (room-left param.rows _ rest)) h (room-right d.scene param.rows _ after.scene.room rest)))

  checked_result_ok : (c : Context) → Sound names c.scene → (at : ℕ) (t : Place) → IsThere c.scene t → OptionThere c.scene (checked_result c at t).value
  checked_result_ok c sound at t h = either (λ (g : Gives (Option Place)). OptionThere c.scene g.value) (is_structured c t) _ (gives (Some t)) (broken-there sound) h

  pub result_ok : (c : Context) → Sound names c.scene → (q : Option Qual) → WhereKept (result_type c q).value (IsThere c.scene)
  result_ok c sound None = tt
  result_ok c sound (Some q) = checked_result_ok c sound q.first.at (type_of_qual c q).value (qual_there c sound q)

  -- ** Fields

  -- rows that are right, and the offset behind them
  abbrev pub FieldsOk : Context → Makes ℕ → Type 0
  FieldsOk c made = AreOk names c.scene made.rows × (made.value ≤ most_cells + 1)

  field_made : (c : Context) → SoundContext names c → (own : ℕ) (i : Ident) (t : Place) (offset : ℕ) → own < 2 ^ 32 → i.name < names → IsThere c.scene t → offset ≤ most_cells + 1
      → AreOk names c.scene (field_row c own i t offset).rows
  field_made c sound own i t offset h k l m =
      (row_made c sound 0 i.at (Field t offset own i.name) sound.scene.some l.0 (l.1, omega (arith, m), h, k) tt).rows_ok

  pub plain_fields_made : (idents : List Ident) (c : Context) (own : ℕ) (t : Place) (offset : ℕ) → SoundContext names c → own < 2 ^ 32 → AreSoundNames names idents → IsThere c.scene t → offset ≤ most_cells + 1
      → Room c.scene (plain_rows c own t offset idents).rows → FieldsOk c (plain_rows c own t offset idents)
  plain_fields_made [] c own t offset sound h k l m room = (no_ok, m)
  plain_fields_made (i ∷ idents) c own t offset sound h k l m room =
      let xs = (field_row c own i t offset).rows in
      let first = field_made c sound own i t offset h k.0 l m in
      let d = with_rows c xs in
      let rest = plain_fields_made idents d own t (capped (offset + size_of d.scene t)) (context-with sound first (room-left xs _ room)) h k.1
      (there-with c.scene xs t sound.scene.room l) (capped-most (offset + size_of d.scene t)) (room-right c.scene xs _ sound.scene.room room) in
      (ok-append first rest.0, rest.1)

  checked_tag_there : (c : Context) → Sound names c.scene → (at : ℕ) (t : Place) → IsThere c.scene t → IsThere c.scene (checked_tag c at t).value
  checked_tag_there c sound at t h =
      either (λ (g : Gives Place). IsThere c.scene g.value) (not (is_broken c.scene t) && is_none (range_of c.scene t)) _ (gives t) (broken-there sound) h

  pub tag_there : (c : Context) → Sound names c.scene → (q : Qual) → IsThere c.scene (tag_type c q).value
  tag_there c sound q = checked_tag_there c sound q.first.at (type_of_qual c q).value (qual_there c sound q)

  pub tag_made : (tag : Option Ident) (c : Context) (own offset : ℕ) (t : Place) → SoundContext names c → own < 2 ^ 32 → IsSoundTag names tag → IsThere c.scene t → offset ≤ most_cells + 1
      → FieldsOk c (tag_rows c own offset t tag)
  tag_made None c own offset t sound h k l m = (no_ok, m)
  tag_made (Some i) c own offset t sound h k l m = (field_made c sound own i t offset h k l m, capped-most (offset + 1))
