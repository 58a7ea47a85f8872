-- The procedures that rows declare are there, in a world that has the unit's procedures, imports and cells.
use Rattle.std.specs.Prelude.{◌≡◌, refl, ℕ, zero, suc, ◌+◌, ◌-◌, ◌<◌, ◌≤◌, ◌==◌, ◌&&◌, ◌⊎◌, Bool, true, nat_le, nat_lt, is_some, if◌then◌else◌, List, [], ◌∷◌, length, map, option_map, slice_get, slice_index, Option, Some, None}
use Rattle.std.proofs.Common.{ap, sym, ◌∙◌, inl, inr, arith}
use Rattle.std.proofs.lemmas.Bool.{cases_order, eq-eqb, le-leb, lt-ltb}
use Rattle.std.proofs.lemmas.Option.{slice_get-map, slice_get_within}
use Rattle.code_form.specs.Heights.{Callee, Step, step_among}
use Rattle.code_form.specs.Modules.{Import, Procedure, World}
use Rattle.code_form.specs.Valid.{callees_of, can_call, has_heading, heading_or, headings_or, import_of, is_value, linked, procedure_or, when_there}
use Rattle.code_form.specs.declared.instr.Instr.TheVariants.{Call, CallX}
use Rattle.code_form.specs.declared.instr.Instr.{Instr}
use Rattle.block_code.specs.Calls.{cells_of_all, result_cells}
use Rattle.m2_base.specs.Lists.{IsIn}
use Rattle.m2_base.specs.Statics.Assignable.{is_open_array}
use Rattle.m2_base.specs.Statics.Blocks.{BlockTree, UnitTrees, blocks_of, home_of}
use Rattle.m2_base.specs.Statics.Contexts.{Scene}
use Rattle.m2_base.specs.Statics.Items.{items_of, proc_item}
use Rattle.m2_base.specs.Statics.ProcedureRows.{parameter_cells, result_cells as cells_of_result}
use Rattle.m2_base.specs.Statics.TypeParts.{Parameter, parameters, result_of_type}
use Rattle.m2_base.specs.Trees.{Heading}
use Rattle.m2_base.specs.declared.trees.Qual.{Qual}
use Rattle.m2_base.specs.declared.outputs.HeadingNote.{HeadingNote}
use Rattle.m2_base.specs.declared.rows.Place.{Place}
use Rattle.m2_base.specs.declared.rows.Row.{Row}
use Rattle.row_laws.specs.Procedures.{IsTypeOf, cells_of_parameters}
use Rattle.row_laws.specs.UnitBlocks.{HasItsProcedures, IsProcedureIn}
use Rattle.block_code.specs.BlockCode.{params_of, results_of}
use Rattle.block_laws.specs.Sight.{call_step}
use Rattle.block_laws.specs.Worlds.{callee_of}
use Rattle.block_laws.proofs.Chains.{blocks_stand}
use Rattle.block_laws.proofs.Links.{begins, unequal}
use Rattle.block_laws.proofs.WorldCells.{Furnishes, in_main}
use Rattle.row_laws.proofs.Members.{each_in}

-- ** What a call takes and leaves

pub same_cells : (scene : Scene) (ps : List Parameter) → cells_of_parameters scene ps ≡ cells_of_all scene ps
same_cells scene [] = refl
same_cells scene (p ∷ ps) = ap (λ (n : ℕ). (if is_open_array scene p.typ then 2 else 1) + n) (same_cells scene ps)

pub same_result : (o : Option Place) (r : Option Qual) → is_some o ≡ is_some r → cells_of_result r ≡ result_cells o
same_result None None e = refl
same_result (Some t) (Some q) e = refl
same_result None (Some q) e = absurd cc
same_result (Some t) None e = absurd cc

-- the cells of the heading are those of the type
takes_as : (scene : Scene) (h : Heading) (t : Place) → IsTypeOf scene h t → parameter_cells h.sections ≡ cells_of_all scene (parameters scene t) + 0
takes_as scene h t is = let e = sym is.cells ∙ same_cells scene (parameters scene t) in omega (arith, e)

pub step_is : (i : Instr) (a b c d : ℕ) → a ≡ c → b ≡ d → ◌≡◌ {A = Step} (record { instr = i; takes = a; leaves = b }) (record { instr = i; takes = c; leaves = d })
step_is i a b c d p q = λ j. record { instr = i; takes = p j; leaves = q j }

-- ** Own procedures

-- the world has procedure k, which stands in the block of scope s and has this heading
pub record IsCallable (w : World) (home s : ℕ) (h : Heading) (k : ℕ) : Type 0 where
  pub p : Procedure
  pub there : slice_get w.procedures k ≡ Some p
  pub positive : 1 ≤ k
  pub outer : p.outer ≡ s - home
  pub params : p.params ≡ parameter_cells h.sections
  pub result : p.result ≡ cells_of_result h.result

-- links from a block to the frame round a procedure of this scope: none to one of the module
pub record LinksTo (w : World) (home s from links : ℕ) : Type 0 where
  pub none : s ≡ home → links ≡ 0
  pub some : home < s → linked w links from ≡ Some (s - home)

module _ (w : World) (home s : ℕ) (behind : home ≤ s) (h : Heading) (k : ℕ) (c : IsCallable w home s h k) where
  pub own-value : s ≡ home → is_value w 0 k ≡ true
  own-value e =
      let positive = c.positive in
      let first : nat_le 1 k ≡ true = le-leb 1 k positive in
      let outer = c.outer in
      let out : c.p.outer ≡ 0 = omega (arith, outer, e) in
      ap (λ (t : Bool). t && when_there (slice_get w.procedures k) (λ (p : Procedure). p.outer == 0)) first
      ∙ ap (λ (o : Option Procedure). when_there o (λ (p : Procedure). p.outer == 0)) c.there ∙ eq-eqb c.p.outer 0 out

  pub own-call : (from links : ℕ) → LinksTo w home s from links → can_call w from k links ≡ true
  own-call from links l =
      let positive = c.positive in
      ap (λ (t : Bool). t && when_there (slice_get w.procedures k) (λ callee. if callee.outer == 0 then links == 0 else when_there (linked w links from) (λ q. q == callee.outer))) (le-leb 1 k positive)
      ∙ ap (λ (o : Option Procedure). when_there o (λ callee. if callee.outer == 0 then links == 0 else when_there (linked w links from) (λ q. q == callee.outer))) c.there
      ∙ by_order (cases_order s home)
    where
      outer : c.p.outer ≡ s - home
      outer = c.outer

      by_order : (s ≡ home) ⊎ ((s < home) ⊎ (home < s)) → (if c.p.outer == 0 then links == 0 else when_there (linked w links from) (λ q. q == c.p.outer)) ≡ true
      by_order (inl e) =
          ap (λ (t : Bool). if t then links == 0 else when_there (linked w links from) (λ q. q == c.p.outer)) (eq-eqb c.p.outer 0 (omega (arith, outer, e)))
          ∙ eq-eqb links 0 (l.none e)
      by_order (inr (inl e)) = absurd (omega (arith, e, behind))
      by_order (inr (inr e)) =
          ap (λ (t : Bool). if t then links == 0 else when_there (linked w links from) (λ q. q == c.p.outer)) (unequal c.p.outer 0 (λ f. omega (arith, outer, e, f)))
          ∙ ap (λ (o : Option ℕ). when_there o (λ q. q == c.p.outer)) (l.some e) ∙ eq-eqb (s - home) c.p.outer (sym outer)

  pub own-step : (p : Procedure) (scene : Scene) (t : Place) (links : ℕ) → IsTypeOf scene h t → step_among (callees_of w p) (Call k links) ≡ call_step scene t (Call k links) 0
  own-step p scene t links is =
      ap (λ (o : Option Procedure). record { instr = Call k links; takes = (procedure_or o).params; leaves = (procedure_or o).result }) c.there
      ∙ step_is (Call k links) c.p.params c.p.result _ _ (c.params ∙ takes_as scene h t is) (c.result ∙ same_result (result_of_type scene t) h.result is.result)

-- the procedure's block, by that of the procedure round it
pub callable : (u : UnitTrees) (w : World) (all : List (List Row)) (notes : ℕ → List HeadingNote) → Furnishes u w all notes → (b : BlockTree) → IsIn b (blocks_of u) → home_of u ≤ b.block.scope → HasItsProcedures u b
    → (h : Heading) (stream k : ℕ) → IsIn (proc_item h stream) (items_of b.tree) → k ≡ stream - b.block.home → IsCallable w (home_of u) b.block.scope h k
callable u w all notes has b i behind procedures h stream k item number =
    let found = procedures behind h stream item in
    let q : BlockTree = found.0 in
    let is : IsProcedureIn b h stream q = found.2 in
    let later = is.behind in
    let scope = is.scope in
    let far : home_of u ≤ q.block.scope = omega (arith, behind, later, scope) in
    let there = has.procedures q found.1 far in
    let home = (in_main u b i behind).home in
    let first = begins u (blocks_of u) b.block (each_in _ (blocks_of u) b (blocks_stand u) i behind) in
    let level = is.level in
    let n : q.block.scope - home_of u ≡ k = ap (λ (x : ℕ). x - home_of u) scope ∙ ap (λ (x : ℕ). stream - x) (sym home) ∙ sym number in
    record {
      p = there.p;
      there = ap (slice_get w.procedures) (sym n) ∙ there.there;
      positive = omega (arith, number, home, behind, later);
      outer = there.outer
          ∙ ap (λ (t : Bool). if t then 0 else slice_index q.block.chain 1 - q.block.home) (unequal q.block.level 0 (λ e. omega (arith, e, level)))
          ∙ ap (λ (xs : List ℕ). slice_index xs 1 - q.block.home) (is.chain ∙ ap (λ (xs : List ℕ). stream ∷ xs) first.chain)
          ∙ ap (λ (x : ℕ). b.block.scope - x) (in_main u q found.1 far).home;
      params = there.params ∙ ap params_of is.heading;
      result = there.result ∙ ap results_of is.heading;
    }

-- ** Imported procedures

heading_at : (w : World) (notes : List HeadingNote) (m k : ℕ) (i : Import) (note : HeadingNote) → import_of w m ≡ Some i → i.headings ≡ map callee_of notes → slice_get notes k ≡ Some note
    → slice_get (headings_or (import_of w m)) k ≡ Some (callee_of note)
heading_at w notes m k i note e f g =
    ap (λ (o : Option Import). slice_get (headings_or o) k) e ∙ ap (λ (cs : List Callee). slice_get cs k) f ∙ slice_get-map callee_of notes k ∙ ap (λ (o : Option HeadingNote). option_map callee_of o) g

pub import-heading : (w : World) (notes : List HeadingNote) (m k : ℕ) (i : Import) (note : HeadingNote) → import_of w m ≡ Some i → i.headings ≡ map callee_of notes → slice_get notes k ≡ Some note → has_heading w m k ≡ true
import-heading w notes m k i note e f g =
    let at = heading_at w notes m k i note e f g in
    let here : slice_get i.headings k ≡ Some (callee_of note) = sym (ap (λ (o : Option Import). slice_get (headings_or o) k) e) ∙ at in
    ap (λ (o : Option Import). when_there o (λ (x : Import). nat_lt k (length x.headings))) e ∙ lt-ltb k (length i.headings) (slice_get_within i.headings k (callee_of note) here)

pub import-value : (w : World) (m k : ℕ) → 0 < m → has_heading w m k ≡ true → is_value w m k ≡ true
import-value w zero k h e = absurd (omega (arith, h))
import-value w (suc m) k h e = e

pub import-step : (w : World) (notes : List HeadingNote) (m k : ℕ) (i : Import) (h : Heading) (name number : ℕ) (p : Procedure) (scene : Scene) (t : Place) → import_of w m ≡ Some i → i.headings ≡ map callee_of notes
    → slice_get notes k ≡ Some (record { name = name; number = number; params = parameter_cells h.sections; result = cells_of_result h.result })
    → IsTypeOf scene h t → step_among (callees_of w p) (CallX m k) ≡ call_step scene t (CallX m k) 0
import-step w notes m k i h name number p scene t e f g is =
    ap (λ (o : Option Callee). record { instr = CallX m k; takes = (heading_or o).params; leaves = (heading_or o).result }) (heading_at w notes m k i _ e f g)
    ∙ step_is (CallX m k) _ _ _ _ (takes_as scene h t is) (same_result (result_of_type scene t) h.result is.result)
