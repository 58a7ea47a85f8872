-- The code of the only block of a unit without procedures and imports is valid: its rows name what is there.
use Rattle.std.specs.Prelude.{◌≡◌, refl, ℕ, ◌+◌, ◌<◌, ◌≤◌, ◌==◌, ◌||◌, Bool, true, if◌then◌else◌, List, [], slice_get, Some}
use Rattle.std.proofs.Common.{ap, subst, sym, arith, ◌∙◌}
use Rattle.std.proofs.lemmas.Bool.{eq-eqb, lt-ltb}
use Rattle.code_form.specs.Modules.{Procedure, World}
use Rattle.code_form.specs.Valid.{IsValidCode, names_what_is_there}
use Rattle.code_form.specs.declared.instr.Instr.TheVariants.{Global, Local}
use Rattle.block_code.specs.ProcedureNames.{import_number, is_own, is_own_definition}
use Rattle.block_code.specs.Variables.{cell_instr, links_out}
use Rattle.m2_base.specs.Lists.{Each}
use Rattle.m2_base.specs.Rows.{row_meaning}
use Rattle.m2_base.specs.declared.rows.Mode.TheVariants.{ByAddress, Open, Plain}
use Rattle.m2_base.specs.declared.rows.Mode.{Mode}
use Rattle.m2_base.specs.declared.rows.Place.{Place}
use Rattle.m2_base.specs.declared.rows.RowMeaning.TheVariants.{Proc, Var}
use Rattle.m2_base.specs.declared.rows.Row.{Row}
use Rattle.m2_base.specs.declared.rows.RowMeaning.{RowMeaning}
use Rattle.m2_base.specs.Statics.BlockRows.{declare_block}
use Rattle.m2_base.specs.Statics.Blocks.{BlockTree}
use Rattle.m2_base.specs.Statics.Contexts.{Context, Scene, Source, level_of}
use Rattle.m2_base.specs.Statics.Effects.{BlockEffects}
use Rattle.m2_base.specs.Statics.UnitNotes.{complete_context}
use Rattle.m2_base.specs.Tables.{rows_at}
use Rattle.m2_base.specs.declared.trees.declarations.StreamKind.{StreamKind}
use Rattle.m2_base.specs.declared.trees.declarations.StreamKind.TheVariants.{Main}
use Rattle.block_code.specs.BlockCode.{block_code, block_diags}
use Rattle.block_code.specs.StatementTokens.{block_tokens}
use Rattle.block_laws.specs.Lone.{AreOfLone, IsLone, IsOfLone, lone_world}
use Rattle.block_laws.specs.Named.{BlockNamesThere, HasCode, procedure_of}
use Rattle.m2_base.specs.Statics.ReadStatements.{AreReadStatements}
use Rattle.row_laws.specs.RowRanges.{BlockInRange, IsBelow}
use Rattle.block_laws.specs.Sight.{IsDeclared, RowsNameThere}
use Rattle.block_laws.proofs.Copies.{none_copied}
use Rattle.block_laws.proofs.InRange.{sees-all}
use Rattle.block_laws.proofs.Named.{block-code-valid}
use Rattle.row_laws.proofs.Members.{each_at}

module _ (scene : Scene) (home : scene.block.home ≡ scene.block.scope) (rows : AreOfLone scene) (e : BlockEffects) (below : Each (λ r. IsBelow e.cell (row_meaning r)) (rows_at scene.tables scene.block.scope)) (p : Procedure) where
  abbrev w : World
  w = lone_world e.cell p

  of-lone : (name : ℕ) (m : RowMeaning) (d : IsDeclared (λ s. Unit {0}) scene name m) → IsOfLone d.place.scope scene.block.scope m
  of-lone name m d = subst (IsOfLone d.place.scope scene.block.scope) d.means (rows d.place.scope d.place.ordinal d.row d.there)

  cell-below : (name : ℕ) (t : Place) (mode : Mode) (o : ℕ) (d : IsDeclared (λ s. Unit {0}) scene name (Var t mode o)) → IsBelow e.cell (Var t mode o)
  cell-below name t mode o d =
      subst (IsBelow e.cell) d.means
      (each_at (λ r. IsBelow e.cell (row_meaning r)) (rows_at scene.tables scene.block.scope) below d.place.ordinal d.row
      (subst (λ (s : ℕ). slice_get (rows_at scene.tables s) d.place.ordinal ≡ Some d.row) (of-lone name (Var t mode o) d) d.there))

  first-below : (t : Place) (mode : Mode) (o : ℕ) → IsBelow e.cell (Var t mode o) → o < e.cell
  first-below t Open o h = omega (arith, h)
  first-below t Plain o h = h
  first-below t ByAddress o h = h

  is-own : (s : ℕ) → s ≡ scene.block.scope → is_own scene.block s ≡ true
  is-own s h = ap (λ (b : Bool). b || is_own_definition scene.block.own s) (eq-eqb s scene.block.home (h ∙ sym home))

  global-there : (s o : ℕ) → s ≡ scene.block.scope → o < e.cell → names_what_is_there w 0 p (cell_instr scene.block s o) ≡ true
  global-there s o h k =
      subst (λ (b : Bool). names_what_is_there w 0 p (if b then Global 0 o else if level_of scene.block s == 0 then Global (import_number scene.block s) o else Local (links_out scene.block s) o) ≡ true)
      (sym (is-own s h)) (lt-ltb o e.cell k)

  lone-rows : RowsNameThere (λ s. Unit {0}) w 0 p scene
  lone-rows = record {
    sight = sees-all scene;
    cells = λ name t mode o d. global-there d.place.scope o (of-lone name (Var t mode o) d) (first-below t mode o (cell-below name t mode o d));
    second_cells = λ name t o d. global-there d.place.scope (o + 1) (of-lone name (Var t Open o) d) (cell-below name t Open o d);
    values = λ name t k s d h. absurd (of-lone name (Proc t k s) d);
    calls = λ name t k s q d h. absurd (of-lone name (Proc t k s) d);
  }

has-code : (kind : StreamKind) → kind ≡ Main → HasCode kind
has-code kind e = subst HasCode (sym e) tt

-- the code of a lone module is valid
pub lone-valid : (names : List (List ℕ)) (source : Source) (before all : List (List Row)) (b : BlockTree) → IsLone source before all b → BlockInRange source before all b
    → AreReadStatements names b.tree.body → block_tokens b.tree ≤ 1048576 → block_diags source before all b ≡ []
    → IsValidCode (lone_world (declare_block source before b).value.cell (procedure_of (block_code source before all b))) 0 (procedure_of (block_code source before all b))
lone-valid names source before all b lone h read few told =
    let c : Context = complete_context source all b.block in
    let e : BlockEffects = (declare_block source before b).value in
    let p : Procedure = procedure_of (block_code source before all b) in
    let there : BlockNamesThere (λ s. Unit {0}) (lone_world e.cell p) 0 source before all b = record {
      coded = has-code b.tree.kind lone.main;
      name = lone.name;
      named = lone.named;
      there = refl;
      copies = λ f. none_copied _ e.prologue lone.nothing_copied;
      rows = λ f. lone-rows c.scene lone.home lone.rows e (lone.cells.variables f) p;
    } in
    block-code-valid (λ s. Unit {0}) names source before all b (lone_world e.cell p) 0 there h read few told
