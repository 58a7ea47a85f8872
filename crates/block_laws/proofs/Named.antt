-- The code of a block without diagnostics is valid where the rows in sight name what is there.
use Rattle.std.specs.Prelude.{◌≡◌, refl, ℕ, ◌+◌, ◌<◌, ◌≤◌, ◌==◌, ◌||◌, Bool, true, false, nat_le, nat_lt, if◌then◌else◌, List, [], ◌∷◌, ◌++◌, length, map, slice_get, Option, Some, None}
use Rattle.std.proofs.Common.{subst, sym, arith}
use Rattle.std.proofs.lemmas.Bool.{lt-ltb, ltb-false, or_parts}
use Rattle.code_form.specs.Heights.{Step, step_among}
use Rattle.code_form.specs.Modules.{Procedure, World}
use Rattle.code_form.specs.Valid.{IsValidCode, callees_of, has_local, linked, names_what_is_there, when_there}
use Rattle.code_form.specs.declared.instr.Instr.TheVariants.{Call, CallVar, CallX, Global, Local, OpenCopy, Return, Str, Proc as ProcValue}
use Rattle.code_form.specs.declared.instr.Instr.{Instr}
use Rattle.block_code.specs.Calls.{result_cells}
use Rattle.block_code.specs.Parts.{Spot, plain_step}
use Rattle.block_code.specs.ProcedureNames.{Target, import_number, is_own, target_of_procedure}
use Rattle.block_code.specs.Variables.{cell_instr, links_out}
use Rattle.m2_base.proofs.SoundTypes.{either}
use Rattle.m2_base.specs.Lists.{Each}
use Rattle.m2_base.specs.declared.rows.Place.{Place}
use Rattle.m2_base.specs.declared.rows.Row.{Row}
use Rattle.m2_base.specs.Statics.BlockRows.{declare_block}
use Rattle.m2_base.specs.Statics.Blocks.{BlockTree}
use Rattle.m2_base.specs.Statics.Cells.{capped, most_cells}
use Rattle.m2_base.specs.Statics.Closing.{block_name, closing_diags}
use Rattle.m2_base.specs.Statics.Contexts.{Block, Context, Scene, Source, level_of}
use Rattle.m2_base.specs.Statics.Effects.{BlockEffects, ParamCopy, open_copy, own_copy}
use Rattle.m2_base.specs.Statics.TypeParts.{result_of_type}
use Rattle.m2_base.specs.Statics.UnitNotes.{complete_context}
use Rattle.m2_base.specs.declared.trees.Ident.{Ident}
use Rattle.m2_base.specs.declared.trees.declarations.StreamKind.{StreamKind}
use Rattle.m2_base.specs.declared.trees.declarations.StreamKind.TheVariants.{Definition, Main, Procedure as ProcedureStream}
use Rattle.block_code.proofs.ReturnTakings.{returns-agree}
use Rattle.block_code.proofs.ValidBlocks.{block-valid}
use Rattle.block_code.specs.BlockCode.{block_code, block_diags, body_of, first_cell, first_spot, run_of, size_by, size_diags, too_many_at}
use Rattle.block_code.specs.Flows.{Run}
use Rattle.block_code.specs.Places.{NameThere, ProceduresAgree, calls_procedure}
use Rattle.block_code.specs.StatementTokens.{block_tokens}
use Rattle.block_laws.specs.Named.{BlockNamesThere, HasCode, procedure_of}
use Rattle.m2_base.specs.Statics.ReadStatements.{AreReadStatements}
use Rattle.row_laws.specs.RowRanges.{BlockInRange, IsCopyBelow}
use Rattle.block_laws.specs.Sight.{RowsNameThere, value_instr}
use Rattle.block_laws.proofs.Parts.{IsSpot, Leads, Leaves, names_nothing}
use Rattle.block_laws.proofs.Coded.{Setting}
use Rattle.block_laws.proofs.InRange.{block-in_range, block-leads, first-is_spot, same_instr}
use Rattle.block_laws.proofs.Statements.{block-f, copy_instrs}
use Rattle.row_laws.proofs.Joined.{none_left}

-- ** The size of a block without diagnostics

-- a diagnostic is told where the block has a name
not_told : (c : Context) (t : Bool) (name : Option Ident) (i : Ident) → name ≡ Some i → (if t then too_many_at c name else []) ≡ [] → t ≡ false
not_told c true None i f e = absurd cc
not_told c true (Some j) i f e = absurd cc
not_told c false name i f e = refl

pub small : (c : Context) (b : BlockTree) (cells bytes : ℕ) (i : Ident) → block_name b.tree ≡ Some i → size_by c b cells bytes ≡ [] → (cells ≤ most_cells) × (bytes ≤ most_cells)
small c b cells bytes i named h =
    let t = or_parts (nat_lt most_cells cells) (nat_lt most_cells bytes) (not_told c (nat_lt most_cells cells || nat_lt most_cells bytes) (block_name b.tree) i named h) in
    (ltb-false most_cells cells t.0, ltb-false most_cells bytes t.1)

-- the cells and the bytes of a block that isn't too large
pub record HasRoom (e : BlockEffects) (r : Run) : Type 0 where
  pub own : e.cell ≤ most_cells
  pub cells : r.next.cell ≤ most_cells
  pub bytes : r.next.byte ≤ most_cells

pub room : (c : Context) (b : BlockTree) (kind : StreamKind) (e : BlockEffects) (r : Run) (i : Ident) → HasCode kind → block_name b.tree ≡ Some i → first_cell kind e.cell ≤ r.next.cell → size_diags c b kind e r ≡ [] → HasRoom e r
room c b Main e r i k named f h =
    let s = small c b (capped (e.cell + r.next.cell)) r.next.byte i named h in
    let x = s.0 in record { own = omega (arith, x); cells = omega (arith, x); bytes = s.1 }
room c b ProcedureStream e r i k named f h =
    let s = small c b r.next.cell r.next.byte i named h in
    let x = s.0 in record { own = omega (arith, x, f); cells = x; bytes = s.1 }
room c b Definition e r i k named f h = absurd k

-- ** What is named

-- an instruction that names what is there, and in a call takes and leaves what its callee does
abbrev Agrees : World → (k : ℕ) → Procedure → Step → Type 0
Agrees w k p s = calls_procedure s.instr ≡ true → step_among (callees_of w p) s.instr ≡ s

abbrev Named : World → (k : ℕ) → Procedure → Step → Type 0
Named w k p s = (names_what_is_there w k p s.instr ≡ true) × Agrees w k p s

no-call : (w : World) (k : ℕ) (p : Procedure) (s : Step) → calls_procedure s.instr ≡ false → Agrees w k p s
no-call w k p s h = λ e. differ (calls_procedure s.instr) e h
  where
    differ : (b : Bool) → b ≡ true → b ≡ false → step_among (callees_of w p) s.instr ≡ s
    differ true e f = absurd cc
    differ false e f = absurd cc

-- an instruction that calls no procedure
abbrev IsQuiet : World → (k : ℕ) → Procedure → Instr → Type 0
IsQuiet w k p i = (names_what_is_there w k p i ≡ true) × (calls_procedure i ≡ false)

nothing-named : (w : World) (k : ℕ) (p : Procedure) (i : Instr) → names_nothing i ≡ true → IsQuiet w k p i
nothing-named w k p (Local h o) e = absurd cc
nothing-named w k p (Global m o) e = absurd cc
nothing-named w k p (Str o) e = absurd cc
nothing-named w k p (Call q h) e = absurd cc
nothing-named w k p (CallX m q) e = absurd cc
nothing-named w k p (CallVar n r) e = absurd cc
nothing-named w k p (ProcValue m q) e = absurd cc
nothing-named w k p (OpenCopy o s) e = absurd cc
nothing-named w k p Return e = absurd cc
nothing-named w k p i e = (refl, refl)

step-named : (w : World) (k : ℕ) (p : Procedure) (i : Instr) → IsQuiet w k p i → Named w k p (plain_step i)
step-named w k p i h =
    (subst (λ (j : Instr). names_what_is_there w k p j ≡ true) (sym (same_instr i)) h.0, no-call w k p (plain_step i) (subst (λ (j : Instr). calls_procedure j ≡ false) (sym (same_instr i)) h.1))

few-results : (r : Option Place) → nat_le (result_cells r) 1 ≡ true
few-results None = refl
few-results (Some t) = refl

cell-quiet : (b : Block) (s o : ℕ) → calls_procedure (cell_instr b s o) ≡ false
cell-quiet b s o =
    either (λ i. calls_procedure i ≡ false) (is_own b s) (Global 0 o) _ refl
    (either (λ i. calls_procedure i ≡ false) (level_of b s == 0) (Global (import_number b s) o) (Local (links_out b s) o) refl refl)

module _ (w : World) (k : ℕ) (p : Procedure) (there : slice_get w.procedures k ≡ Some p) where
  own-cell : (t : ℕ) → t < p.locals → has_local w k 0 t ≡ true
  unfolding linked
  own-cell t h = subst (λ (o : Option Procedure). when_there o (λ q. nat_lt t q.locals) ≡ true) (sym there) (lt-ltb t p.locals h)

  local-named : (t : ℕ) → t < p.locals → Named w k p (plain_step (Local 0 t))
  local-named t h = (own-cell t h, λ e. absurd cc)

  value-quiet : (scene : Scene) (name : ℕ) (t : Place) (number : ℕ) → calls_procedure (value_instr scene (target_of_procedure scene name t number)) ≡ false
  value-quiet scene name t number = by_target (target_of_procedure scene name t number)
    where
      by_target : (o : Option Target) → calls_procedure (value_instr scene o) ≡ false
      by_target None = refl
      by_target (Some q) = refl

  named-leaves : (seen : ℕ → Type 0) (scene : Scene) (cells bytes : ℕ) → RowsNameThere seen w k p scene → p.locals ≡ cells → length p.bytes ≡ bytes → cells ≤ most_cells → bytes ≤ most_cells
      → Leaves (Named w k p) seen cells bytes scene
  named-leaves seen scene cells bytes rows f g few short = record {
    others = λ i h l. step-named w k p i (nothing-named w k p i h);
    returns = λ n. (refl, λ e. absurd cc);
    temporary = λ t h. local-named t (let a = h.1 in omega (arith, a, f, few));
    characters = λ b n h l. (lt-ltb b (length p.bytes) (omega (arith, l, g, short)), λ e. absurd cc);
    cell = λ name t mode o d. step-named w k p (cell_instr scene.block d.place.scope o) (rows.cells name t mode o d, cell-quiet scene.block d.place.scope o);
    second_cell = λ name t o d. step-named w k p (cell_instr scene.block d.place.scope (o + 1)) (rows.second_cells name t o d, cell-quiet scene.block d.place.scope (o + 1));
    procedure = λ name t number s d h. step-named w k p (value_instr scene (target_of_procedure scene name t number))
        (rows.values name t number s d h, value-quiet scene name t number);
    own_call = λ name t number s q d h. let c = rows.calls name t number s q d h in (c.0, λ e. c.1);
    variable_call = λ t. (few-results (result_of_type scene t), λ e. absurd cc);
  }

  -- ** What is copied first

  copy-named : (from : ℕ) (d : ParamCopy) → IsCopyBelow from d → from ≤ p.locals → Each (Named w k p) (map plain_step (copy_instrs d))
  copy-named from (own_copy own cell size) h f =
      let a = h.0 in
      let b = h.1 in
      (local-named own (omega (arith, a, f)), (local-named cell (omega (arith, b, f)), ((refl, λ e. absurd cc), ((refl, λ e. absurd cc), tt))))
  copy-named from (open_copy cell size) h f = ((lt-ltb (cell + 1) p.locals (omega (arith, h, f)), λ e. absurd cc), tt)

  copies-named : (from : ℕ) (ds : List ParamCopy) → Each (IsCopyBelow from) ds → Each (λ d. from ≤ p.locals → Each (Named w k p) (map plain_step (copy_instrs d))) ds
  copies-named from [] h = tt
  copies-named from (d ∷ ds) h = (λ f. copy-named from d h.0 f, copies-named from ds h.1)

  names-there : (ss : List Step) → Each (Named w k p) ss → NameThere w k p ss
  names-there [] h = tt
  names-there (s ∷ ss) h = (h.0.0, names-there ss h.1)

  calls-agree : (ss : List Step) → Each (Named w k p) ss → ProceduresAgree (callees_of w p) ss
  calls-agree [] h = tt
  calls-agree (s ∷ ss) h = (h.0.1, calls-agree ss h.1)

-- ** The whole

-- the first spot, from its own cell on
spot-of : (b : BlockTree) (e : BlockEffects) → e.cell ≤ most_cells + 1 → IsSpot 0 (first_cell b.tree.kind e.cell) (first_spot b.tree.kind e)
spot-of b e h =
    let s = first-is_spot b e h in
    record { cell = s.cell; byte = s.byte; from_here = omega arith; records = s.records }

from-zero : (x n m : ℕ) → x ≡ 0 → x + n ≡ m → n ≡ m
from-zero x n m e f = omega (arith, e, f)

-- the code of a block is valid
pub block-code-valid : (seen : ℕ → Type 0) (names : List (List ℕ)) (source : Source) (before all : List (List Row)) (b : BlockTree) (w : World) (k : ℕ) → BlockNamesThere seen w k source before all b
    → BlockInRange source before all b → AreReadStatements names b.tree.body → block_tokens b.tree ≤ 1048576 → block_diags source before all b ≡ []
    → IsValidCode w k (procedure_of (block_code source before all b))
block-code-valid seen names source before all b w k n h read few told =
    let c : Context = complete_context source all b.block in
    let e : BlockEffects = (declare_block source before b).value in
    let r : Run = run_of b e (body_of c b).value in
    let p : Procedure = procedure_of (block_code source before all b) in
    let at : Spot = first_spot b.tree.kind e in
    let leads : Leads 0 0 at r.bytes r.next = block-leads names source before all b h read in
    let sized : size_diags c b b.tree.kind e r ≡ [] =
    (none_left ((declare_block source before b).diags ++ closing_diags c b.tree ++ (body_of c b).diags) (size_diags c b b.tree.kind e r) told).1 in
    let fits : HasRoom e r = room c b b.tree.kind e r n.name n.coded n.named leads.cells sized in
    let counted : length p.bytes ≡ r.next.byte = from-zero 0 (length p.bytes) r.next.byte refl (leads.counted fits.bytes) in
    let rows : RowsNameThere seen w k p c.scene = n.rows fits.own in
    let set : Setting (Named w k p) seen r.next.cell r.next.byte c = record {
      rows = h.rows;
      texts = h.text;
      sees = rows.sight;
      leaves = named-leaves w k p n.there seen c.scene r.next.cell r.next.byte rows refl counted fits.cells fits.bytes;
    } in
    let made = block-f (Named w k p) seen r.next.cell r.next.byte names c b e (first_cell b.tree.kind e.cell) set (spot-of b e h.effects.cell)
    (copies-named w k p n.there (first_cell b.tree.kind e.cell) e.prologue (n.copies fits.own)) read in
    let each : Each (Named w k p) (r.code 0) = made.1 (omega arith) (omega arith) 0 in
    block-valid source before all b w k p refl refl few (block-in_range names source before all b h read)
    (returns-agree source before all b (callees_of w p) refl (calls-agree w k p n.there (r.code 0) each)) (names-there w k p n.there (r.code 0) each)
