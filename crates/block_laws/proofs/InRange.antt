-- Each instruction of a block's code that doesn't jump has its operands in their ranges.
use Rattle.std.specs.Prelude.{◌≡◌, refl, ℕ, suc, ◌+◌, ◌-◌, ◌*◌, ◌^◌, ◌<◌, ◌≤◌, ◌==◌, nat_lt, ◌⊎◌, List, [], ◌∷◌, length, map, drop, filter_map, slice_get, Option, Some, None}
use Rattle.std.specs.List.{cons_option}
use Rattle.std.proofs.Common.{subst, sym, arith, inl, inr}
use Rattle.std.proofs.lemmas.Bool.{cases_order}
use Rattle.std.proofs.lemmas.List.{get_or_past, length-drop, length-take}
use Rattle.code_form.specs.Heights.{Step, step_by}
use Rattle.code_form.specs.Instructions.{IsInstr, line_of}
use Rattle.code_form.specs.Valid.{jump_of}
use Rattle.code_form.specs.declared.effect.Effect.TheVariants.{CallsImport, CallsOwn, Changes, GivesResult}
use Rattle.code_form.specs.declared.effect.Effect.{Effect}
use Rattle.code_form.specs.declared.instr.Instr.TheVariants.{Call, CallX, Global, Local}
use Rattle.code_form.specs.declared.instr.Instr.{Instr}
use Rattle.block_code.specs.Calls.{call_instr, cells_of, cells_of_all, links_to, result_cells}
use Rattle.block_code.specs.Parts.{no_callees, plain_step}
use Rattle.block_code.specs.ProcedureNames.{Target, import_number, import_number_beside, import_of_target, is_foreign, is_own, is_own_definition, target, target_by, target_of_entry, target_of_procedure}
use Rattle.block_code.specs.Variables.{cell_instr, links_out}
use Rattle.m2_base.proofs.SoundTypes.{either}
use Rattle.m2_base.specs.Lists.{Each, WhereKept}
use Rattle.m2_base.specs.Rows.{IsSmall, row_meaning}
use Rattle.m2_base.specs.declared.rows.Mode.TheVariants.{Open}
use Rattle.m2_base.specs.declared.rows.Place.{Place}
use Rattle.m2_base.specs.declared.rows.RowMeaning.TheVariants.{Proc, ProcType, Var}
use Rattle.m2_base.specs.declared.rows.Row.{Row}
use Rattle.m2_base.specs.declared.rows.RowMeaning.{RowMeaning}
use Rattle.m2_base.specs.Statics.Assignable.{is_open_array}
use Rattle.m2_base.specs.Statics.BlockRows.{declare_block}
use Rattle.m2_base.specs.Statics.Blocks.{BlockTree}
use Rattle.m2_base.specs.Statics.Cells.{most_cells}
use Rattle.m2_base.specs.Statics.Contexts.{Block, Context, Scene, Source, level_of}
use Rattle.m2_base.specs.Statics.Effects.{BlockEffects, ParamCopy, open_copy, own_copy}
use Rattle.m2_base.specs.Statics.Lookup.{Entry, entry_in}
use Rattle.m2_base.specs.Statics.TypeParts.{Parameter, parameter_of, parameters, parameters_by, result_of_type, rows_between}
use Rattle.m2_base.specs.Statics.Types.{kind_of, stands_for}
use Rattle.m2_base.specs.Statics.UnitNotes.{complete_context}
use Rattle.m2_base.specs.Tables.{rows_at}
use Rattle.m2_base.specs.declared.trees.declarations.StreamKind.{StreamKind}
use Rattle.m2_base.specs.declared.trees.declarations.StreamKind.TheVariants.{Procedure}
use Rattle.block_code.specs.BlockCode.{first_cell, first_spot, run_of, stand_of}
use Rattle.block_code.specs.Flows.{Run}
use Rattle.block_code.specs.Places.{OthersInRange, block_steps}
use Rattle.block_code.specs.Statements.{flow_of}
use Rattle.m2_base.specs.Statics.ReadStatements.{AreReadStatements}
use Rattle.row_laws.specs.RowRanges.{BlockInRange, HasOperands, IsCopyInRange, RowsInRange}
use Rattle.block_laws.specs.Sight.{IsDeclared, Sees, value_instr}
use Rattle.block_laws.proofs.Values.{IsEntry, entry_operands, found_entry}
use Rattle.block_laws.proofs.Parts.{IsSpot, Leads, Leaves}
use Rattle.block_laws.proofs.Coded.{Setting}
use Rattle.block_laws.proofs.Statements.{block-f, copy_instrs}

-- the step's instruction is the one that it was made of
pub same_instr : (i : Instr) → (plain_step i).instr ≡ i
same_instr i = go (line_of i).effect
  where
    go : (e : Effect) → (step_by no_callees i e).instr ≡ i
    go (Changes takes leaves) = refl
    go (CallsOwn p) = refl
    go (CallsImport m k) = refl
    go GivesResult = refl

abbrev IsOther : Instr → Type 0
IsOther i = jump_of i ≡ None → IsInstr i

abbrev Fits : Step → Type 0
Fits s = jump_of s.instr ≡ None → IsInstr s.instr

step-fits : (i : Instr) → IsOther i → Fits (plain_step i)
step-fits i h = subst IsOther (sym (same_instr i)) h

abbrev all_seen : ℕ → Type 0
all_seen s = Unit {0}

pub sees-all : (scene : Scene) → Sees (λ s. Unit {0}) scene
sees-all scene = record { chain = λ s h. tt; own = tt; standard = tt; modules = λ n s h. tt; aliases = λ n p h. tt }

-- ** Numbers of scopes and levels

number-small : (own : Option ℕ) (s : ℕ) → s < 2 ^ 32 → import_number_beside own s < 2 ^ 32
number-small None s h = h
number-small (Some own) s h = either (λ k. k < 2 ^ 32) (nat_lt own s) (s - 1) s (omega (arith, h)) h

links-small : (b : Block) (s : ℕ) → IsSmall b.level → links_out b s < 2 ^ 32
links-small b s h = omega (arith, h)

pub scope-there : (tables : List (List Row)) (s o : ℕ) (r : Row) → slice_get (rows_at tables s) o ≡ Some r → s < length tables
scope-there tables s o r e = by_order (cases_order s (length tables))
  where
    past : length tables ≤ s → s < length tables
    past h = let none : slice_get [] o ≡ Some r = subst (λ (rows : List Row). slice_get rows o ≡ Some r) (get_or_past tables s [] h) e in absurd cc

    by_order : (s ≡ length tables) ⊎ ((s < length tables) ⊎ (length tables < s)) → s < length tables
    by_order (inl h) = past (omega (arith, h))
    by_order (inr (inl h)) = h
    by_order (inr (inr h)) = past (omega (arith, h))

-- ** Parameters

given-length : {X Y : Type 0} (h : X → Option Y) (xs : List X) → length (filter_map h xs) ≤ length xs
given-length h [] = omega arith
given-length {X} {Y} h (x ∷ xs) = by_option (h x) (filter_map h xs) (given-length h xs)
  where
    by_option : (o : Option Y) (ys : List Y) → length ys ≤ length xs → length (cons_option o ys) ≤ suc (length xs)
    by_option None ys e = omega (arith, e)
    by_option (Some y) ys e = omega (arith, e)

parameters-few : (scene : Scene) → RowsInRange scene → (t : Place) (m : RowMeaning) → length (parameters_by scene t m) < 2 ^ 31
parameters-few scene rows t (ProcType r k first) =
    let few = rows.few t.scope in
    let a = given-length (parameter_of t.ordinal) (rows_between scene t.scope first t.ordinal) in
    let b = length-take (t.ordinal - first) (drop first (rows_at scene.tables t.scope)) in
    let d = length-drop first (rows_at scene.tables t.scope) in
    omega (arith, few, a, b, d)
parameters-few scene rows t m = omega arith

cells-few : (scene : Scene) (ps : List Parameter) → cells_of_all scene ps ≤ 2 * length ps
cells-few scene [] = omega arith
cells-few scene (p ∷ ps) =
    let a : cells_of scene p ≤ 2 = either (λ k. k ≤ 2) (is_open_array scene p.typ) 2 1 (omega arith) (omega arith) in
    let b = cells-few scene ps in omega (arith, a, b)

result-few : (r : Option Place) → result_cells r ≤ 1
result-few None = omega arith
result-few (Some t) = omega arith

-- ** What the leaves are

module _ (scene : Scene) (rows : RowsInRange scene) (level : IsSmall scene.block.level) where
  row-has : (name : ℕ) (m : RowMeaning) (d : IsDeclared all_seen scene name m) → HasOperands scene m
  row-has name m d = subst (HasOperands scene) d.means (rows.rows d.place.scope d.place.ordinal d.row d.there)

  scope-small : (name : ℕ) (m : RowMeaning) (d : IsDeclared all_seen scene name m) → d.place.scope < 2 ^ 32
  scope-small name m d =
      let a = scope-there scene.tables d.place.scope d.place.ordinal d.row d.there in
      let b = rows.scopes in omega (arith, a, b)

  cell-fits : (s o : ℕ) → s < 2 ^ 32 → o < 2 ^ 32 → IsOther (cell_instr scene.block s o)
  cell-fits s o h k =
      either IsOther (is_own scene.block s) (Global 0 o) _ (λ e. (omega arith, (k, tt)))
      (either IsOther (level_of scene.block s == 0) (Global (import_number scene.block s) o) (Local (links_out scene.block s) o)
      (λ e. (number-small scene.block.own s h, (k, tt))) (λ e. (links-small scene.block s level, (k, tt))))

  abbrev IsTargetSmall : Target → Type 0
  IsTargetSmall p = (p.typ.scope < 2 ^ 32) × (p.number < 2 ^ 32)

  target_by-small : (m : RowMeaning) → HasOperands scene m → WhereKept (target_by m) IsTargetSmall
  target_by-small (Proc t k s) h = h
  target_by-small m h = tt

  target_entry-small : (e : Option Entry) → WhereKept e (IsEntry all_seen scene) → WhereKept (target_of_entry e) IsTargetSmall
  target_entry-small None h = tt
  target_entry-small (Some e) h = target_by-small (row_meaning e.1) (entry_operands all_seen scene rows e h)

  target-small : (name : ℕ) (t : Place) (k s : ℕ) → IsDeclared all_seen scene name (Proc t k s) → WhereKept (target_of_procedure scene name t k) IsTargetSmall
  target-small name t k s d =
      either (λ o. WhereKept o IsTargetSmall) (is_own_definition scene.block.own t.scope) (target_of_entry (entry_in scene.tables scene.block.home name)) (Some (target t k))
      (target_entry-small (entry_in scene.tables scene.block.home name) (found_entry all_seen scene (scene.block.home ∷ []) name (λ n i. tt)))
      (row-has name (Proc t k s) d)

  import-small : (p : Target) → IsTargetSmall p → import_of_target scene.block p < 2 ^ 32
  import-small p h = either (λ k. k < 2 ^ 32) (is_foreign scene.block p) (import_number scene.block p.typ.scope) 0 (number-small scene.block.own p.typ.scope h.0) (omega arith)

  value-fits : (o : Option Target) → WhereKept o IsTargetSmall → IsOther (value_instr scene o)
  value-fits None h = λ e. (omega arith, (omega arith, tt))
  value-fits (Some p) h = λ e. (import-small p h, (h.1, tt))

  call-fits : (p : Target) → IsTargetSmall p → IsOther (call_instr scene p)
  call-fits p h =
      either IsOther (is_foreign scene.block p) (CallX (import_of_target scene.block p) p.number) (Call p.number (links_to scene.block p.typ.scope))
      (λ e. (import-small p h, (h.1, tt)))
      (λ e. (h.1, (either (λ k. k < 2 ^ 32) (level_of scene.block p.typ.scope == 0) 0 (links_out scene.block p.typ.scope) (omega arith) (links-small scene.block p.typ.scope level), tt)))

  kept-target : (o : Option Target) (p : Target) → o ≡ Some p → WhereKept o IsTargetSmall → IsTargetSmall p
  kept-target o p e h = subst (λ x. WhereKept x IsTargetSmall) e h

  pub leaves-fit : Leaves Fits all_seen (most_cells + 1) (most_cells + 1) scene
  leaves-fit = record {
    others = λ i e f. step-fits i f;
    returns = λ k e. tt;
    temporary = λ t h e. (omega arith, (let a = h.0 in omega (arith, a), tt));
    characters = λ b n h k e. (omega (arith, h), tt);
    cell = λ name t mode o d. step-fits (cell_instr scene.block d.place.scope o)
        (cell-fits d.place.scope o (scope-small name (Var t mode o) d) (let a = row-has name (Var t mode o) d in omega (arith, a)));
    second_cell = λ name t o d. step-fits (cell_instr scene.block d.place.scope (o + 1))
        (cell-fits d.place.scope (o + 1) (scope-small name (Var t Open o) d) (row-has name (Var t Open o) d));
    procedure = λ name t k s d e. step-fits (value_instr scene (target_of_procedure scene name t k)) (value-fits (target_of_procedure scene name t k) (target-small name t k s d));
    own_call = λ name t k s p d e. call-fits p (kept-target (target_of_procedure scene name t k) p e (target-small name t k s d));
    variable_call = λ t e. (
      let a = cells-few scene (parameters scene t) in let b = parameters-few scene rows (stands_for scene t) (kind_of scene t) in omega (arith, a, b),
      (let r = result-few (result_of_type scene t) in omega (arith, r), tt),
    );
  }

-- ** The whole

first-small : (kind : StreamKind) (n : ℕ) → first_cell kind n ≤ n
first-small Procedure n = omega arith
first-small kind n = omega arith

pub first-is_spot : (b : BlockTree) (e : BlockEffects) → e.cell ≤ most_cells + 1 → IsSpot 0 0 (first_spot b.tree.kind e)
first-is_spot b e h =
    let f = first-small b.tree.kind e.cell in
    record { cell = omega (arith, f, h); byte = omega arith; from_here = omega arith; records = λ k l. absurd (omega (arith, l)) }

copy-fits : (d : ParamCopy) → IsCopyInRange d → Each Fits (map plain_step (copy_instrs d))
copy-fits (own_copy own cell size) h =
    (λ e. (omega arith, (h.0, tt)), (λ e. (omega arith, (h.1, tt)), (λ e. tt, (λ e. (h.2, tt), tt))))
copy-fits (open_copy cell size) h = (λ e. (h.0, (h.1, tt)), tt)

copies-fit : (ds : List ParamCopy) → Each IsCopyInRange ds → Each (λ d. 0 ≤ most_cells + 1 → Each Fits (map plain_step (copy_instrs d))) ds
copies-fit [] h = tt
copies-fit (d ∷ ds) h = (λ e. copy-fits d h.0, copies-fit ds h.1)

others : (ss : List Step) → Each Fits ss → OthersInRange ss
others [] h = tt
others (s ∷ ss) h = (h.0, others ss h.1)

-- what the code of a block comes to, and where it ends
abbrev pub block_run : (source : Source) (before all : List (List Row)) (b : BlockTree) → Run
block_run source before all b =
    run_of b (declare_block source before b).value (flow_of (stand_of (complete_context source all b.block) b) b.tree.body).value

block-made : (names : List (List ℕ)) (source : Source) (before all : List (List Row)) (b : BlockTree) → BlockInRange source before all b → AreReadStatements names b.tree.body
    → let r = block_run source before all b in
    Leads 0 0 (first_spot b.tree.kind (declare_block source before b).value) r.bytes r.next
    × (r.next.cell ≤ most_cells + 1 → r.next.byte ≤ most_cells + 1 → (o : ℕ) → Each Fits (r.code o))
block-made names source before all b h read =
    let c : Context = complete_context source all b.block in
    let e : BlockEffects = (declare_block source before b).value in
    let set : Setting Fits all_seen (most_cells + 1) (most_cells + 1) c = record {
      rows = h.rows;
      texts = h.text;
      sees = sees-all c.scene;
      leaves = leaves-fit c.scene h.rows h.level;
    } in
    block-f Fits all_seen (most_cells + 1) (most_cells + 1) names c b e 0 set (first-is_spot b e h.effects.cell) (copies-fit e.prologue h.effects.copies) read

-- where a block's code ends, and how long its data are
pub block-leads : (names : List (List ℕ)) (source : Source) (before all : List (List Row)) (b : BlockTree) → BlockInRange source before all b → AreReadStatements names b.tree.body
    → let r = block_run source before all b in Leads 0 0 (first_spot b.tree.kind (declare_block source before b).value) r.bytes r.next
block-leads names source before all b h read = (block-made names source before all b h read).0

-- each instruction of a block that doesn't jump has its operands in their ranges
pub block-in_range : (names : List (List ℕ)) (source : Source) (before all : List (List Row)) (b : BlockTree) → BlockInRange source before all b → AreReadStatements names b.tree.body
    → OthersInRange (block_steps source before all b)
block-in_range names source before all b h read =
    let made = block-made names source before all b h read in
    others ((block_run source before all b).code 0) (made.1 made.0.spot.cell made.0.spot.byte 0)
