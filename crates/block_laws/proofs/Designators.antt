-- What names and selectors make is right, and so are arguments and calls.
use Rattle.std.specs.Prelude.{◌≡◌, refl, ℕ, zero, suc, ◌+◌, ◌-◌, ◌^◌, ◌<◌, ◌≤◌, ◌==◌, ◌&&◌, ◌||◌, not, Bool, true, false, ◌⊎◌, if◌then◌else◌, is_some, pos, List, [], ◌∷◌, length, map, min, drop, slice_get, Option, Some, None}
use Rattle.std.proofs.Common.{ap, subst, sym, arith, inl, inr}
use Rattle.code_form.specs.Heights.{Step}
use Rattle.code_form.specs.declared.instr.Instr.{Instr}
use Rattle.code_form.specs.declared.instr.Instr.TheVariants.{Index, IndexOpen, Load, Move, Nil, Offset, Push}
use Rattle.block_code.specs.Arguments.{address_by, after_argument, alike, argument, array_argument, by_address, by_mode, by_value, checked_mode, is_variable, open_argument, open_element, value_argument_by}
use Rattle.block_code.specs.Calls.{Called, allowed, call_code, call_coded, called, called_by, cells_of_all, is_same_truth, lacking_call, no_call, of_target, of_variable, procedure_call, result_cells, standard_call}
use Rattle.block_code.specs.Coded.{Coded, characters, coded, in_error, taken, value_code}
use Rattle.block_code.specs.Elements.{element_of_array, element_of_open, index_instr, of_array, of_pointer, select_element_by, select_target_by}
use Rattle.block_code.specs.Expressions.{by_called}
use Rattle.block_code.specs.Parts.{Part, call, plain, plain_step, text, with_record, ◌⨟◌}
use Rattle.block_code.specs.ProcedureNames.{Target, target_of_procedure}
use Rattle.block_code.specs.RecordFields.{field_by, field_or, field_or_use, found_field, name_coded, of_record, offset_code, select_field_by, with_field}
use Rattle.block_code.specs.StandardFunctions.{high_code}
use Rattle.block_code.specs.StandardProcedures.{is_function, takes_count}
use Rattle.block_code.specs.Values.{as_value, assigned_to, in_range}
use Rattle.block_code.specs.Variables.{cell_instr, entry_coded, high_of_mode, through, with_address}
use Rattle.m2_base.proofs.EachLaws.{each_found}
use Rattle.m2_base.proofs.SoundOperands.{AreValues, natural-value}
use Rattle.m2_base.proofs.SoundTypes.{either}
use Rattle.m2_base.specs.Gives.{Gives, and_then, gives}
use Rattle.m2_base.specs.Lists.{Each, WhereKept}
use Rattle.m2_base.specs.Rows.{row_meaning}
use Rattle.m2_base.specs.declared.rows.RowMeaning.TheVariants.{Array, Broken, Field, OpenArray, Pointer, Record, Var}
use Rattle.m2_base.specs.declared.rows.Mode.TheVariants.{ByAddress, Open, Plain}
use Rattle.m2_base.specs.declared.rows.Mode.{Mode}
use Rattle.m2_base.specs.declared.rows.Place.{Place}
use Rattle.m2_base.specs.declared.rows.Row.{Row}
use Rattle.m2_base.specs.declared.rows.RowMeaning.{RowMeaning}
use Rattle.m2_base.specs.Standard.{broken, cardinal, character}
use Rattle.m2_base.specs.Statics.Assignable.{is_assignable, is_open_array, is_procedure_type, taken_into}
use Rattle.m2_base.specs.Statics.Builtins.{builtin_of}
use Rattle.m2_base.specs.Statics.Contexts.{Context, refuse}
use Rattle.m2_base.specs.Statics.Diagnostics.{not_a_procedure, not_a_variable, not_assignable, wrong_argument, wrong_count}
use Rattle.m2_base.specs.Statics.Lookup.{Entry}
use Rattle.m2_base.specs.Statics.NamedOperands.{is_in_error, operand_of}
use Rattle.m2_base.specs.Statics.Operands.{is_bad, is_string}
use Rattle.m2_base.specs.Statics.Ranges.{Range, count_of}
use Rattle.m2_base.specs.Statics.TypeParts.{Parameter, field_of, field_by as field_of_by, is_field, parameters, result_of_type, rows_between, target_of}
use Rattle.m2_base.specs.Statics.Types.{is_broken, is_same, kind_of, range_of, size_of, stands_for}
use Rattle.m2_base.specs.Statics.Uses.{use_of}
use Rattle.m2_base.specs.Tables.{rows_at}
use Rattle.m2_base.specs.declared.trees.Ident.{Ident}
use Rattle.m2_base.specs.declared.builtins.Builtin.{Builtin}
use Rattle.m2_base.specs.declared.operands.Operand.{Operand}
use Rattle.m2_base.specs.declared.operands.Operand.TheVariants.{Computed, InError, ModuleName, Procedure, StandardProcedure, StringConstant, Variable}
use Rattle.block_code.specs.Values.{has_broken_part}
use Rattle.row_laws.specs.RowRanges.{HasOperands, IsIndexRange}
use Rattle.block_laws.specs.Sight.{IsDeclared}
use Rattle.block_laws.proofs.Values.{HasValues, IsEntry, IsProcedure, entry_operand, member_use, plain_use, range_values, size_is}
use Rattle.block_laws.proofs.Parts.{Right, call-right, copy-right, record-right}
use Rattle.block_laws.proofs.Coded.{IsWhole, Setting, W, X, all, as_value-w, assigned-w, bare-x, computed-x, error-x, fitted-right, high-none, high_code-right, kind-has, nothing-right, ok, push, single, string-right, thn, value-right, worth-x}
use Rattle.std.proofs.lemmas.Bool.{both_ways}
use Rattle.row_laws.proofs.Choices.{either_by}
use Rattle.row_laws.proofs.Members.{each_drop, each_got, each_take}

-- ** Rows that are found

over : (a b c : Bool) → b ≡ true → (a || b || c) ≡ true
over true b c e = refl
over false true c e = refl
over false false c e = absurd cc

module _ (q : Step → Type 0) (seen : ℕ → Type 0) (cells bytes : ℕ) (c : Context) (n from : ℕ) (set : Setting q seen cells bytes c) where
  abbrev R : Part → Type 0
  R p = Right q cells bytes n from p

  abbrev CX : Coded → Type 0
  CX x = X q seen cells bytes c n from set x

  abbrev CW : Coded → Type 0
  CW x = W q seen cells bytes c n from set x

  abbrev GX : Gives Coded → Type 0
  GX g = CX g.value

  abbrev O : Operand → Type 0
  O o = HasValues seen (IsProcedure seen c.scene) o

  then' : (a b : Part) → R a → R b → R (a ⨟ b)
  then' a b f g = thn q seen cells bytes c n from set a b f g

  error' : CX in_error
  error' = error-x q seen cells bytes c n from set

  load : q (plain_step Load)
  load = ok q seen cells bytes c n from set Load refl (λ e. tt)

  all' : (is : List Instr) → Each q (map plain_step is) → R (plain is)
  all' is h = all q seen cells bytes c n from set is h

  -- ** Names

  cell_part : (name : ℕ) (t : Place) (mode : Mode) (o : ℕ) (d : IsDeclared seen c.scene name (Var t mode o)) → R (plain (cell_instr c.scene.block d.place.scope o ∷ through mode))
  cell_part name t Plain o d = all' (cell_instr c.scene.block d.place.scope o ∷ []) (set.leaves.cell name t Plain o d, tt)
  cell_part name t ByAddress o d = all' (cell_instr c.scene.block d.place.scope o ∷ Load ∷ []) (set.leaves.cell name t ByAddress o d, (load, tt))
  cell_part name t Open o d = all' (cell_instr c.scene.block d.place.scope o ∷ Load ∷ []) (set.leaves.cell name t Open o d, (load, tt))

  high_part : (name : ℕ) (t : Place) (mode : Mode) (o : ℕ) (d : IsDeclared seen c.scene name (Var t mode o)) → R (high_of_mode c.scene.block d.place.scope o mode)
  high_part name t Open o d = all' (cell_instr c.scene.block d.place.scope (o + 1) ∷ Load ∷ []) (set.leaves.second_cell name t o d, (load, tt))
  high_part name t mode o d = high-none q seen cells bytes c n from set

  address_x : (name : ℕ) (m : RowMeaning) (d : IsDeclared seen c.scene name m) (x : Operand) → O x → CX (with_address c.scene.block d.place.scope m x)
  address_x name (Var t mode o) d (Variable u) h = (tt, (cell_part name t mode o d, high_part name t mode o d))
  address_x name (Var t mode o) d x h = bare-x q seen cells bytes c n from set x h
  address_x name m d x h = bare-x q seen cells bytes c n from set x h

  pub entry-x : (e : Option Entry) → WhereKept e (IsEntry seen c.scene) → CX (entry_coded c e)
  entry-x None h = error'
  entry-x (Some e) h = by_case h (entry_operand seen c.scene set.rows (Some e) set.sees h)
    where
      by_case : (row_meaning e.1 ≡ Broken) ⊎ (seen e.0.scope × (slice_get (rows_at c.scene.tables e.0.scope) e.0.ordinal ≡ Some e.1)) → O (operand_of c.scene e)
          → CX (with_address c.scene.block e.0.scope (row_meaning e.1) (operand_of c.scene e))
      by_case (inl f) g = subst (λ m. CX (with_address c.scene.block e.0.scope m (operand_of c.scene e))) (sym f) (bare-x q seen cells bytes c n from set (operand_of c.scene e) g)
      by_case (inr f) g =
          address_x e.1.name (row_meaning e.1) (record { place = e.0; row = e.1; in_sight = f.0; there = f.1; means = refl; named = refl }) (operand_of c.scene e) g

  -- ** Fields

  offset-right : (o : ℕ) → o < 2 ^ 32 → R (offset_code o)
  offset-right zero h = nothing-right q seen cells bytes c n from set
  offset-right (suc o) h = single q seen cells bytes c n from set (Offset (suc o)) refl (λ e. (h, tt))

  field-x : (code : Part) (m : RowMeaning) → HasOperands c.scene m → R code → CX (field_by c.scene code m)
  field-x code (Field t o r i) h f =
      either CX (is_broken c.scene t) in_error (coded (Variable t) (code ⨟ offset_code o)) error'
      (tt, (then' code (offset_code o) f (offset-right o h), high-none q seen cells bytes c n from set))
  field-x code m h f = error'

  field_rows : (t : Place) (name : ℕ) (m : RowMeaning) → WhereKept (field_of_by c.scene t name m) (λ r. HasOperands c.scene (row_meaning r))
  field_rows t name (Record first size) =
      each_found (λ r. HasOperands c.scene (row_meaning r)) (is_field t.ordinal name) (rows_between c.scene t.scope first t.ordinal)
      (each_take _ (t.ordinal - first) (drop first (rows_at c.scene.tables t.scope))
      (each_drop _ first (rows_at c.scene.tables t.scope) (each_got _ (rows_at c.scene.tables t.scope) (λ o r e. set.rows.rows t.scope o r e))))
  field_rows t name m = tt

  field-has : (t : Place) (name : ℕ) → WhereKept (field_of c.scene t name) (λ r. HasOperands c.scene (row_meaning r))
  field-has t name = field_rows (stands_for c.scene t) name (kind_of c.scene t)

  abbrev XIf : Option Coded → Type 0
  XIf None = Unit {0}
  XIf (Some x) = CX x

  field_or-x : (k : ℕ) (f : Option Row) (outer : Option Coded) → k < n → WhereKept f (λ r. HasOperands c.scene (row_meaning r)) → XIf outer → XIf (field_or c.scene k f outer)
  field_or-x k None outer l h g = g
  field_or-x k (Some f) outer l h g = field-x (with_record k) (row_meaning f) h (record-right q cells bytes n from k l (λ t e. set.leaves.temporary t e) load)

  pub with_field-x : (k : ℕ) (withs : List Place) (name : ℕ) → k + length withs ≤ n → XIf (with_field c.scene k withs name)
  with_field-x k [] name h = tt
  with_field-x k (t ∷ ts) name h =
      field_or-x k (field_of c.scene t name) (with_field c.scene (suc k) ts name) (omega (arith, h)) (field-has t name) (with_field-x (suc k) ts name (omega (arith, h)))

  use-x : (i : Ident) (x : Option Coded) → XIf x → GX (field_or_use c i x)
  use-x i None g = entry-x (use_of c None i.name i.at).value (plain_use seen c set.sees i.name i.at)
  use-x i (Some x) g = g

  pub name-x : (withs : List Place) (i : Ident) → length withs ≤ n → GX (name_coded c withs i)
  name-x withs i h = use-x i (with_field c.scene 0 withs i.name) (with_field-x 0 withs i.name (omega (arith, h)))

  found-x : (code : Part) (i : Ident) (f : Option Row) → WhereKept f (λ r. HasOperands c.scene (row_meaning r)) → R code → GX (found_field c code i f)
  found-x code i None h g = error'
  found-x code i (Some f) h g = field-x code (row_meaning f) h g

  of_record-x : (at : ℕ) (code : Part) (i : Ident) (t : Place) (m : RowMeaning) → R code → GX (of_record c at code i t m)
  of_record-x at code i t (Record f s) g = found-x code i (field_of c.scene t i.name) (field-has t i.name) g
  of_record-x at code i t m g = error'

  pub field_go : (first at : ℕ) (i : Ident) (code : Part) (o : Operand) → O o → R code → GX (select_field_by c first at i code o)
  field_go first at i code (ModuleName s) h g = entry-x (use_of c (Some s) i.name i.at).value (member_use seen c set.sees s i.name i.at h)
  field_go first at i code (Variable t) h g = of_record-x at code i t (kind_of c.scene t) g
  field_go first at i code o h g = error'

  -- ** Pointers and elements

  pointer-x : (at : ℕ) (code : Part) (t : Place) (m : RowMeaning) → R code → GX (of_pointer c at code t m)
  pointer-x at code t (Pointer p) g =
      either GX (is_broken c.scene (target_of c.scene t)) (gives in_error) (gives (coded (Variable (target_of c.scene t)) (code ⨟ plain (Load ∷ Nil ∷ [])))) error'
      (tt, (then' code (plain (Load ∷ Nil ∷ [])) g (all' (Load ∷ Nil ∷ []) (load, (ok q seen cells bytes c n from set Nil refl (λ e. tt), tt))), high-none q seen cells bytes c n from set))
  pointer-x at code t m g = error'

  pub target_go : (first at : ℕ) (code : Part) (o : Operand) → R code → GX (select_target_by c first at code o)
  target_go first at code (Variable t) g = pointer-x at code t (kind_of c.scene t) g
  target_go first at code o g = error'

  index_step : (r : Option Range) (s : ℕ) → IsIndexRange r → WhereKept r AreValues → s < 2 ^ 32 → q (plain_step (index_instr r s))
  index_step None s h v k = ok q seen cells bytes c n from set (Index (pos 0) 0 s) refl (λ e. (natural-value 0 (omega arith), (omega arith, (k, tt))))
  index_step (Some r) s h v k = ok q seen cells bytes c n from set (Index r.low (count_of r) s) refl (λ e. (v.0, (let m = h.1 in omega (arith, m), (k, tt))))

  array_element-x : (x : Coded) (index elem : Place) (i : Coded) → CX x → CW i → IsIndexRange (range_of c.scene index) → GX (element_of_array c x index elem i)
  array_element-x x index elem i g h k =
      let p : Part = plain (index_instr (range_of c.scene index) (size_of c.scene elem) ∷ []) in
      either GX (is_bad i.operand || is_broken c.scene elem) (gives in_error) (gives (coded (Variable elem) (x.code ⨟ value_code c i ⨟ p))) error' (
        tt,
        (
          then' x.code (value_code c i ⨟ p) g.1.0
              (then' (value_code c i) p (value-right q seen cells bytes c n from set i h)
              (all' (index_instr (range_of c.scene index) (size_of c.scene elem) ∷ []) (index_step (range_of c.scene index) (size_of c.scene elem) k (range_values c set.rows index) ((size_is c set.rows elem).1), tt))),
          high-none q seen cells bytes c n from set,
        ),
      )

  open_element-x : (x : Coded) (elem : Place) (i : Coded) → CX x → CW i → GX (element_of_open c x elem i)
  open_element-x x elem i g h =
      let p : Part = plain (IndexOpen (size_of c.scene elem) ∷ []) in
      either GX (is_bad i.operand || is_broken c.scene elem) (gives in_error) (gives (coded (Variable elem) (x.code ⨟ x.high ⨟ value_code c i ⨟ p))) error' (
        tt,
        (
          then' x.code (x.high ⨟ value_code c i ⨟ p) g.1.0
              (then' x.high (value_code c i ⨟ p) g.1.1
              (then' (value_code c i) p (value-right q seen cells bytes c n from set i h)
              (single q seen cells bytes c n from set (IndexOpen (size_of c.scene elem)) refl (λ e. ((size_is c set.rows elem).1, tt))))),
          high-none q seen cells bytes c n from set,
        ),
      )

  passed_over : (to : Place) (at code : ℕ) (i : Coded) → is_broken c.scene to ≡ true → (assigned_to c to at code i).value ≡ in_error
  passed_over to at code i e =
      ap (λ (b : Bool). (if b then gives in_error else
      if is_assignable c.scene to i.operand then in_range c at to (taken (taken_into c.source c.scene to i.operand) i) else refuse c at code in_error).value)
      (over (is_bad i.operand) (is_broken c.scene to) (is_string i.operand && has_broken_part c.scene (kind_of c.scene to)) e)

  array-x : (at : ℕ) (x : Coded) (i_at : ℕ) (i : Coded) (m : RowMeaning) → HasOperands c.scene m → CX x → CW i → GX (of_array c at x i_at i m)
  array-x at x i_at i (Array index elem s) k g h = by_index (is_broken c.scene index) refl
    where
      by_index : (b : Bool) → is_broken c.scene index ≡ b → CX (element_of_array c x index elem (assigned_to c index i_at not_assignable i).value).value
      by_index true e = subst (λ (y : Coded). CX (element_of_array c x index elem y).value) (sym (passed_over index i_at not_assignable i e)) error'
      by_index false e =
          array_element-x x index elem (assigned_to c index i_at not_assignable i).value g (assigned-w q seen cells bytes c n from set index i_at not_assignable i h) (k.2 e)
  array-x at x i_at i (OpenArray elem) k g h =
      open_element-x x elem (assigned_to c cardinal i_at not_assignable i).value g (assigned-w q seen cells bytes c n from set cardinal i_at not_assignable i h)
  array-x at x i_at i m k g h = error'

  pub select_go : (first at i_at : ℕ) (i x : Coded) (o : Operand) → CX x → CW i → GX (select_element_by c first at i_at i x o)
  select_go first at i_at i x (Variable t) g h = array-x at x i_at i (kind_of c.scene t) (kind-has q seen cells bytes c n from set t) g h
  select_go first at i_at i x o g h = error'

  -- ** Arguments

  abbrev pub RIf : Option Part → Type 0
  RIf None = Unit {0}
  RIf (Some p) = R p

  abbrev GR : Gives (Option Part) → Type 0
  GR g = RIf g.value

  argument_go : (t : Place) (x : Coded) (o : Operand) → CW x → RIf (value_argument_by c t x o)
  argument_go t x InError g = tt
  argument_go t x (StringConstant name l) g =
      let cs : List ℕ = characters c.source name in
      let s = size_is c set.rows t in
      copy-right q cells bytes n from (size_of c.scene t) cs s.0 (λ k e. set.leaves.temporary k e) (λ b k e. set.leaves.characters b (length cs) k e)
      (ok q seen cells bytes c n from set (Move (min (length cs + 1) (size_of c.scene t))) refl (λ e. (let m = s.1 in omega (arith, m), tt)))
  argument_go t x o g = fitted-right q seen cells bytes c n from set t x g

  address_go : (t : Place) (at : ℕ) (code : Part) (o : Operand) → R code → GR (address_by c t at code o)
  address_go t at code (Variable u) g = either GR (is_same c.scene t u) (gives (Some code)) (refuse c at wrong_argument None) g tt
  address_go t at code o g = tt

  alike-r : (want : Place) (at : ℕ) (x : Coded) (m : RowMeaning) (elem : Place) → HasOperands c.scene m → IsWhole q seen cells bytes c n from set m → CX x → GR (alike c want at x m elem)
  alike-r want at x m elem h w g =
      either GR (is_broken c.scene elem) (gives None) _ tt
      (either GR (is_same c.scene elem want) (gives (Some (x.code ⨟ high_code c.scene x m))) (refuse c at wrong_argument None)
      (then' x.code (high_code c.scene x m) g.1.0 (high_code-right q seen cells bytes c n from set x m h w g.1.1)) tt)

  array_argument-r : (want : Place) (at : ℕ) (x : Coded) (m : RowMeaning) → HasOperands c.scene m → CX x → GR (array_argument c want at x m)
  array_argument-r want at x (Array i t s) h g =
      either_by GR (is_broken c.scene i) (gives None) (alike c want at x (Array i t s) t) (λ e. tt) (λ e. alike-r want at x (Array i t s) t h e g)
  array_argument-r want at x (OpenArray t) h g = alike-r want at x (OpenArray t) t h tt g
  array_argument-r want at x m h g = tt

  open_go : (want : Place) (at : ℕ) (x : Coded) (o : Operand) → O o → CX x → GR (open_argument c want at x o)
  open_go want at x (StringConstant name l) h g =
      either GR (is_same c.scene want character) (gives (Some (text (characters c.source name) ⨟ plain (Push (pos (l - 1)) ∷ [])))) (refuse c at wrong_argument None)
      (then' (text (characters c.source name)) (plain (Push (pos (l - 1)) ∷ [])) (string-right q seen cells bytes c n from set (characters c.source name))
      (all' (Push (pos (l - 1)) ∷ []) (push q seen cells bytes c n from set (pos (l - 1)) (natural-value (l - 1) (omega (arith, h))), tt))) tt
  open_go want at x (Variable u) h g = array_argument-r want at x (kind_of c.scene u) (kind-has q seen cells bytes c n from set u) g
  open_go want at x o h g = tt

  by_value-r : (t : Place) (at : ℕ) (x : Coded) → CW x → GR (by_value c t at x)
  by_value-r t at x g =
      let v : Coded = (assigned_to c t at not_assignable x).value in argument_go t v v.operand (assigned-w q seen cells bytes c n from set t at not_assignable x g)

  mode-r : (p : Parameter) (at : ℕ) (x : Coded) → CX x → (p.by_ref ≡ false → CW x) → GR (by_mode c p at x)
  mode-r p at x g w =
      either GR (is_open_array c.scene p.typ) (open_argument c (open_element (kind_of c.scene p.typ)) at x x.operand) _
      (open_go (open_element (kind_of c.scene p.typ)) at x x.operand g.0 g)
      (either_by GR p.by_ref (by_address c p.typ at x) (by_value c p.typ at x) (λ e. address_go p.typ at x.code x.operand g.1.0) (λ e. by_value-r p.typ at x (w e)))

  checked-r : (p : Parameter) (at : ℕ) (x : Coded) → CX x → (p.by_ref ≡ false → CW x) → GR (checked_mode c p at x)
  checked-r p at x g w =
      either GR (is_bad x.operand || is_in_error c.scene p.typ) (gives None) _ tt
      (either GR (p.by_ref && not (is_variable x.operand)) (refuse c at not_a_variable None) (by_mode c p at x) tt (mode-r p at x g w))

  pub argument-r : (p : Parameter) (at : ℕ) (x : Coded) → CX x → GR (argument c p at x)
  argument-r p at x g =
      either_by GR p.by_ref (checked_mode c p at x) (and_then (as_value c at x) (checked_mode c p at)) (λ e. checked-r p at x g (λ f. absurd (both_ways p.by_ref f e)))
      (λ e. let v : CW (as_value c at x).value = as_value-w q seen cells bytes c n from set at x g in
      checked-r p at (as_value c at x).value (worth-x q seen cells bytes c n from set (as_value c at x).value v) (λ f. v))

  pub after-r : (a b : Option Part) → RIf a → RIf b → RIf (after_argument a b)
  after-r (Some a) (Some b) f g = then' a b f g
  after-r (Some a) None f g = tt
  after-r None b f g = tt

  -- ** Calls

  abbrev pub CR : Called → Type 0
  CR (standard_call f) = Unit {0}
  CR (procedure_call ps before i result more) = R before × q (record { instr = i; takes = cells_of_all c.scene ps + more; leaves = result_cells result })
  CR (lacking_call ps) = Unit {0}
  CR no_call = Unit {0}

  abbrev GC : Gives Called → Type 0
  GC g = CR g.value

  allowed-c : (at : ℕ) (wanted found count : Bool) (what : Called) → CR what → GC (allowed c at wanted found count what)
  allowed-c at wanted found count what g =
      either GC (not (is_same_truth wanted found)) (refuse c at not_a_procedure no_call) _ tt
      (either GC (not count) (refuse c at wrong_count no_call) (gives what) tt g)

  target_c : (name : ℕ) (t : Place) (k s : ℕ) (p : Option Target) → IsProcedure seen c.scene name t k s → target_of_procedure c.scene name t k ≡ p → CR (of_target c.scene t p)
  target_c name t k s None h e = tt
  target_c name t k s (Some p) h e = (nothing-right q seen cells bytes c n from set, set.leaves.own_call name t k s p h e)

  called_go : (wanted : Bool) (at count : ℕ) (code : Part) (o : Operand) → O o → R code → GC (called_by c wanted at count code o)
  called_go wanted at count code (StandardProcedure k) h g =
      allowed-c at wanted (is_function (builtin_of k)) (takes_count (builtin_of k) count) (standard_call (builtin_of k)) tt
  called_go wanted at count code (Procedure name t k s) h g =
      allowed-c at wanted (is_some (result_of_type c.scene t)) (count == length (parameters c.scene t)) (of_target c.scene t (target_of_procedure c.scene name t k))
      (target_c name t k s (target_of_procedure c.scene name t k) h refl)
  called_go wanted at count code (Variable t) h g =
      either GC (is_procedure_type c.scene t) _ (refuse c at not_a_procedure no_call)
      (allowed-c at wanted (is_some (result_of_type c.scene t)) (count == length (parameters c.scene t)) (of_variable c.scene t code)
      (then' code (plain (Load ∷ [])) g (all' (Load ∷ []) (load, tt)), set.leaves.variable_call t)) tt
  called_go wanted at count code o h g = tt

  pub called-c : (wanted : Bool) (at count : ℕ) (x : Coded) → CX x → GC (called c wanted at count x)
  called-c wanted at count x g = called_go wanted at count x.code x.operand g.0 g.1.0

  call_go : (ps : List Parameter) (before : Part) (i : Instr) (result : Option Place) (more : ℕ) (args : Option Part) → R before
      → q (record { instr = i; takes = cells_of_all c.scene ps + more; leaves = result_cells result }) → RIf args → CX (call_coded c.scene ps before i result more args)
  call_go ps before i result more None f h g = error'
  call_go ps before i None more (Some args) f h g =
      computed-x q seen cells bytes c n from set broken (call_code c.scene ps before i None more args)
      (then' before (args ⨟ call i (cells_of_all c.scene ps + more) 0) f (then' args (call i (cells_of_all c.scene ps + more) 0) g (call-right q cells bytes n from i (cells_of_all c.scene ps + more) 0 h)))
  call_go ps before i (Some t) more (Some args) f h g =
      either CX (is_broken c.scene t) in_error (coded (Computed t) (call_code c.scene ps before i (Some t) more args)) error'
      (computed-x q seen cells bytes c n from set t (call_code c.scene ps before i (Some t) more args)
      (then' before (args ⨟ call i (cells_of_all c.scene ps + more) 1) f (then' args (call i (cells_of_all c.scene ps + more) 1) g (call-right q cells bytes n from i (cells_of_all c.scene ps + more) 1 h))))

  pub by_called-x : (what : Called) (standard : Builtin → Gives Coded) (passed : List Parameter → Gives (Option Part)) (looked : Gives Coded) → CR what
      → ((f : Builtin) → GX (standard f)) → ((ps : List Parameter) → GR (passed ps)) → GX looked → GX (by_called c what standard passed looked)
  by_called-x (standard_call f) standard passed looked g s p e = s f
  by_called-x (procedure_call ps before i result more) standard passed looked g s p e = call_go ps before i result more (passed ps).value g.0 g.1 (p ps)
  by_called-x (lacking_call ps) standard passed looked g s p e = error'
  by_called-x no_call standard passed looked g s p e = e
