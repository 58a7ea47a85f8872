-- The procedures that a block's code names are there, and calls of them take and leave what their types say.
use Rattle.std.specs.Prelude.{◌≡◌, refl, ℕ, zero, suc, ◌+◌, ◌-◌, ◌<◌, ◌≤◌, ◌==◌, ◌&&◌, ◌||◌, ◌⊎◌, not, Bool, true, false, if◌then◌else◌, List, ◌∷◌, drop, length, slice_get, Option, Some, None}
use Rattle.std.proofs.Common.{ap, subst, sym, ◌∙◌, inl, inr, arith}
use Rattle.std.proofs.lemmas.Bool.{cases_order, eq-eqb, eqb-true}
use Rattle.code_form.specs.Heights.{step_among}
use Rattle.code_form.specs.Modules.{Procedure, World}
use Rattle.code_form.specs.Valid.{callees_of, has_heading, linked, names_what_is_there}
use Rattle.code_form.specs.declared.instr.Instr.TheVariants.{Call, CallX, Proc as ProcValue}
use Rattle.code_form.specs.declared.instr.Instr.{Instr}
use Rattle.block_code.specs.Calls.{call_instr, cells_of_all, links_to, result_cells}
use Rattle.block_code.specs.ProcedureNames.{Target, import_number, import_number_beside, import_of_target, is_foreign, is_own, is_own_definition, target, target_by, target_of_entry, target_of_procedure}
use Rattle.block_code.specs.Variables.{links_out}
use Rattle.m2_base.proofs.ChainLaws.{chains_down}
use Rattle.m2_base.proofs.NoRepeats.{some_is}
use Rattle.m2_base.specs.Lists.{Each, IsIn, WhereKept}
use Rattle.m2_base.specs.Rows.{at_place, row_meaning}
use Rattle.m2_base.specs.Statics.Blocks.{BlockTree, GoesDown, UnitTrees, blocks_of, home_of}
use Rattle.m2_base.specs.Statics.Contexts.{Scene, level_of}
use Rattle.m2_base.specs.Statics.Items.{items_of, proc_item}
use Rattle.m2_base.specs.Statics.Lookup.{Entry, entry_in}
use Rattle.m2_base.specs.Statics.TypeParts.{parameters, result_of_type}
use Rattle.m2_base.specs.Statics.UnitNotes.{complete_context}
use Rattle.m2_base.specs.Statics.UnitRows.{unit_rows}
use Rattle.m2_base.specs.Tables.{first_named, found_or, rows_at}
use Rattle.m2_base.specs.Trees.{Heading}
use Rattle.m2_base.specs.declared.outputs.HeadingNote.{HeadingNote}
use Rattle.m2_base.specs.declared.rows.Place.{Place}
use Rattle.m2_base.specs.declared.rows.Row.{Row}
use Rattle.m2_base.specs.declared.rows.RowMeaning.TheVariants.{Proc}
use Rattle.m2_base.specs.declared.trees.declarations.StreamKind.{StreamKind}
use Rattle.m2_base.specs.declared.trees.declarations.StreamKind.TheVariants.{Definition}
use Rattle.row_laws.proofs.Members.{each_in, each_at}
use Rattle.row_laws.proofs.Whole.{whole-rows}
use Rattle.row_laws.specs.Procedures.{HasNumber, IsDeclared, IsSeenAs, IsTypeOf}
use Rattle.row_laws.specs.UnitBlocks.{HasItsForm, HasItsProcedures}
use Rattle.block_laws.specs.Lone.{IsOfLone}
use Rattle.block_laws.specs.Sight.{IsInSight, call_step, value_instr}
use Rattle.block_laws.proofs.Chains.{blocks_stand}
use Rattle.block_laws.proofs.Links.{begins, in_module}
use Rattle.block_laws.proofs.LoneUnits.{standard-of-lone}
use Rattle.block_laws.proofs.OwnCalls.{IsCallable, LinksTo, callable, import-heading, import-step, import-value, own-call, own-step, own-value, step_is}
use Rattle.block_laws.proofs.WorldCells.{Furnishes, in_main, own_is, reached}

-- The module has a procedure of this name, with a type whose parameters and result have the cells of this one's, for each block of
-- the main text.
pub record IsImplemented (u : UnitTrees) (name : ℕ) (t : Place) : Type 0 where
  pub typ : Place
  pub number : ℕ
  pub scope : ℕ
  pub ordinal : ℕ
  pub row : Row
  pub there : slice_get (rows_at (unit_rows u) (home_of u)) ordinal ≡ Some row
  pub means : row_meaning row ≡ Proc typ number scope
  pub found : entry_in (unit_rows u) (home_of u) name ≡ Some (at_place (home_of u) ordinal, row)
  pub params : (b : BlockTree) → IsIn b (blocks_of u) → home_of u ≤ b.block.scope
      → let scene = (complete_context u.source (unit_rows u) b.block).scene in cells_of_all scene (parameters scene typ) ≡ cells_of_all scene (parameters scene t)
  pub result : (b : BlockTree) → IsIn b (blocks_of u) → home_of u ≤ b.block.scope
      → let scene = (complete_context u.source (unit_rows u) b.block).scene in result_cells (result_of_type scene typ) ≡ result_cells (result_of_type scene t)

-- the headings of the own definition are the module's procedures
abbrev pub AreImplemented : UnitTrees → Type 0
AreImplemented u = (own : ℕ) → u.own ≡ Some own → (n : ℕ) (r : Row) (t : Place) (k s : ℕ) → slice_get (rows_at (unit_rows u) own) n ≡ Some r → row_meaning r ≡ Proc t k s → IsImplemented u r.name t

-- a block of the unit with this scope
abbrev pub IsBlockOf : UnitTrees → (scope : ℕ) → Type 0
IsBlockOf u s = (q : BlockTree) × IsIn q (blocks_of u) × (q.block.scope ≡ s)

-- what is known of the rows of procedures
pub record Declares (u : UnitTrees) (notes : ℕ → List HeadingNote) : Type 0 where
  pub forms : Each (HasItsForm (home_of u)) (blocks_of u)
  pub procedures : Each (HasItsProcedures u) (blocks_of u)
  pub rows : (q : BlockTree) → IsIn q (blocks_of u) → Each (λ r. IsDeclared (IsSeenAs u q) q.tree.kind q.block (notes q.block.scope) (items_of q.tree) (row_meaning r)) (rows_at (unit_rows u) q.block.scope)
  pub before : (b : BlockTree) → IsIn b (blocks_of u) → (s : ℕ) → 0 < s → s ≤ b.block.scope → IsBlockOf u s
  pub own : WhereKept u.own (λ s. s < home_of u)
  pub positive : (q : BlockTree) → IsIn q (blocks_of u) → 0 < q.block.scope
  pub there : (q : BlockTree) → IsIn q (blocks_of u) → q.block.scope < length (unit_rows u)
  pub implemented : AreImplemented u

pub own_scope : (o : Option ℕ) (s : ℕ) → is_own_definition o s ≡ true → o ≡ Some s
own_scope None s e = absurd cc
own_scope (Some q) s e = ap (λ (x : ℕ). Some x) (sym (eqb-true s q e))

either_way : {A : Type 0} (b : Bool) (x y z : A) → b ≡ true → x ≡ z → (if b then x else y) ≡ z
either_way true x y z e f = f
either_way false x y z e f = absurd cc

module _ (u : UnitTrees) (w : World) (notes : ℕ → List HeadingNote) (has : Furnishes u w (unit_rows u) notes) (known : Declares u notes) (b : BlockTree) (i : IsIn b (blocks_of u)) (behind : home_of u ≤ b.block.scope) (p : Procedure) where
  abbrev scene : Scene
  scene = (complete_context u.source (unit_rows u) b.block).scene

  -- a call of this procedure names what is there, and takes and leaves what this type says
  abbrev IsCalled : Place → Target → Type 0
  IsCalled t q =
      (names_what_is_there w (b.block.scope - home_of u) p (call_instr scene q) ≡ true) × (step_among (callees_of w p) (call_instr scene q) ≡ call_step scene t (call_instr scene q) 0)

  abbrev IsWorth : Target → Type 0
  IsWorth q = names_what_is_there w (b.block.scope - home_of u) p (ProcValue (import_of_target b.block q) q.number) ≡ true

  -- ** What a row of a procedure says

  record RowSays (s : ℕ) (t : Place) (k : ℕ) : Type 0 where
    q : BlockTree
    there : IsIn q (blocks_of u)
    scope : q.block.scope ≡ s
    heading : Heading
    stream : ℕ
    item : IsIn (proc_item heading stream) (items_of q.tree)
    number : HasNumber q.tree.kind q.block (notes q.block.scope) heading stream k
    typ : t.scope ≡ s
    seen : IsTypeOf scene heading t

  says : (s n : ℕ) (r : Row) (t : Place) (k x : ℕ) → s ≤ b.block.scope → slice_get (rows_at (unit_rows u) s) n ≡ Some r → row_meaning r ≡ Proc t k x → RowSays s t k
  says s n r t k x low e m =
      let found = known.before b i s positive low in
      let q : BlockTree = found.0 in
      let d = subst (IsDeclared (IsSeenAs u q) q.tree.kind q.block (notes q.block.scope) (items_of q.tree)) m
      (each_at (λ (y : Row). IsDeclared (IsSeenAs u q) q.tree.kind q.block (notes q.block.scope) (items_of q.tree) (row_meaning y)) (rows_at (unit_rows u) q.block.scope) (known.rows q found.1) n r
      (ap (λ (z : ℕ). slice_get (rows_at (unit_rows u) z) n) found.2 ∙ e)) in
      let same = found.2 in
      record {
        q = q;
        there = found.1;
        scope = found.2;
        heading = d.0;
        stream = d.1;
        item = d.2;
        number = d.4;
        typ = d.5 ∙ found.2;
        seen = d.6 b i (omega (arith, same, low));
      }
    where
      positive : 0 < s
      positive = by_zero s refl
        where
          by_zero : (z : ℕ) → s ≡ z → 0 < z
          by_zero zero f =
              absurd (subst (IsOfLone 0 1) m
              (each_at (λ (y : Row). IsOfLone 0 1 (row_meaning y)) (rows_at (unit_rows u) 0) (subst (Each (λ (y : Row). IsOfLone 0 1 (row_meaning y))) (sym has.standard) standard-of-lone) n r
              (ap (λ (z : ℕ). slice_get (rows_at (unit_rows u) z) n) (sym f) ∙ e)))
          by_zero (suc z) f = omega arith

  -- ** The module's own procedures

  -- a scope behind the module's, in sight, is on a level
  abbrev IsOnLevel : ℕ → Type 0
  IsOnLevel s = home_of u < s → level_of b.block s ≡ 0 → ⊥

  home_level : level_of b.block (home_of u) ≡ 0
  home_level = by_test (level_of b.block (home_of u) == 0) refl
    where
      by_test : (v : Bool) → (level_of b.block (home_of u) == 0) ≡ v → level_of b.block (home_of u) ≡ 0
      by_test true e = eqb-true (level_of b.block (home_of u)) 0 e
      by_test false e = let far = (reached u w (unit_rows u) notes has b i behind (home_of u) e).behind in absurd (omega (arith, far))

  links-to : (s : ℕ) → home_of u ≤ s → IsOnLevel s → LinksTo w (home_of u) s (b.block.scope - home_of u) (links_to b.block s)
  links-to s far on = record {
    none = λ e. either_way (level_of b.block s == 0) 0 (links_out b.block s) 0 (eq-eqb (level_of b.block s) 0 (ap (level_of b.block) e ∙ home_level)) refl;
    some = λ h. by_test (level_of b.block s == 0) refl h;
  }
    where
      by_test : (v : Bool) → (level_of b.block s == 0) ≡ v → home_of u < s → linked w (if v then 0 else links_out b.block s) (b.block.scope - home_of u) ≡ Some (s - home_of u)
      by_test true e h = absurd (on h (eqb-true (level_of b.block s) 0 e))
      by_test false e h = (reached u w (unit_rows u) notes has b i behind s e).links

  not_foreign : (t : Place) (k s : ℕ) → t.scope ≡ s → home_of u ≤ s → IsOnLevel s → is_foreign b.block (target t k) ≡ false
  not_foreign t k s at far on = ap (λ (z : ℕ). (level_of b.block z == 0) && not (is_own b.block z)) at ∙ by_order (cases_order s (home_of u))
    where
      by_own : (v : Bool) → (v && not true) ≡ false
      by_own true = refl
      by_own false = refl

      by_level : (v : Bool) → (level_of b.block s == 0) ≡ v → home_of u < s → (v && not (is_own b.block s)) ≡ false
      by_level true e h = absurd (on h (eqb-true (level_of b.block s) 0 e))
      by_level false e h = refl

      by_order : (s ≡ home_of u) ⊎ ((s < home_of u) ⊎ (home_of u < s)) → ((level_of b.block s == 0) && not (is_own b.block s)) ≡ false
      by_order (inl e) =
          ap (λ (v : Bool). (level_of b.block s == 0) && not (v || is_own_definition b.block.own s)) (eq-eqb s b.block.home (e ∙ sym (in_main u b i behind).home)) ∙ by_own (level_of b.block s == 0)
      by_order (inr (inl e)) = absurd (omega (arith, e, far))
      by_order (inr (inr e)) = by_level (level_of b.block s == 0) refl e

  -- a procedure that is declared in a block of the main text
  own-target : (s n : ℕ) (r : Row) (t : Place) (k x : ℕ) → home_of u ≤ s → s ≤ b.block.scope → IsOnLevel s → slice_get (rows_at (unit_rows u) s) n ≡ Some r → row_meaning r ≡ Proc t k x
      → IsCalled t (target t k) × ((level_of b.block t.scope == 0) ≡ true → IsWorth (target t k))
  own-target s n r t k x far low on e m =
      let d = says s n r t k x low e m in
      let same = d.scope in
      let there : home_of u ≤ d.q.block.scope = omega (arith, far, same) in
      let number : k ≡ d.stream - d.q.block.home = numbered d.q d.there d.heading d.stream there d.number in
      let c0 = callable u w (unit_rows u) notes has d.q d.there there (each_in (HasItsProcedures u) (blocks_of u) d.q known.procedures d.there) d.heading d.stream k d.item number in
      let c : IsCallable w (home_of u) s d.heading k = subst (λ (z : ℕ). IsCallable w (home_of u) z d.heading k) same c0 in
      let near = not_foreign t k s d.typ far on in
      let calls : call_instr scene (target t k) ≡ Call k (links_to b.block s) =
      ap (λ (v : Bool). if v then CallX (import_of_target b.block (target t k)) k else Call k (links_to b.block t.scope)) near ∙ ap (λ (z : ℕ). Call k (links_to b.block z)) d.typ in
      let import : import_of_target b.block (target t k) ≡ 0 = ap (λ (v : Bool). if v then import_number b.block t.scope else 0) near in (
        (
          subst (λ (j : Instr). names_what_is_there w (b.block.scope - home_of u) p j ≡ true) (sym calls) (own-call w (home_of u) s far d.heading k c (b.block.scope - home_of u) (links_to b.block s) (links-to s far on)),
          subst (λ (j : Instr). step_among (callees_of w p) j ≡ call_step scene t j 0) (sym calls) (own-step w (home_of u) s far d.heading k c p scene t (links_to b.block s) d.seen),
        ),
        λ l. subst (λ (z : ℕ). names_what_is_there w (b.block.scope - home_of u) p (ProcValue z k) ≡ true) (sym import)
            (own-value w (home_of u) s far d.heading k c (on_home s far on (ap (level_of b.block) (sym d.typ) ∙ eqb-true (level_of b.block t.scope) 0 l))),
      )
    where
      numbered : (q : BlockTree) → IsIn q (blocks_of u) → (h : Heading) (stream : ℕ) → home_of u ≤ q.block.scope → HasNumber q.tree.kind q.block (notes q.block.scope) h stream k → k ≡ stream - q.block.home
      numbered q j h stream there d = by_order (cases_order q.block.scope (home_of u))
        where
          form : HasItsForm (home_of u) q
          form = each_in (HasItsForm (home_of u)) (blocks_of u) q known.forms j

          by_order : (q.block.scope ≡ home_of u) ⊎ ((q.block.scope < home_of u) ⊎ (home_of u < q.block.scope)) → k ≡ stream - q.block.home
          by_order (inl f) = subst (λ (kind : StreamKind). HasNumber kind q.block (notes q.block.scope) h stream k) (form.module_kind f) d
          by_order (inr (inl f)) = absurd (omega (arith, f, there))
          by_order (inr (inr f)) = subst (λ (kind : StreamKind). HasNumber kind q.block (notes q.block.scope) h stream k) (form.procedure f) d

      on_home : (z : ℕ) → home_of u ≤ z → IsOnLevel z → level_of b.block z ≡ 0 → z ≡ home_of u
      on_home z l on g = by_order (cases_order z (home_of u))
        where
          by_order : (z ≡ home_of u) ⊎ ((z < home_of u) ⊎ (home_of u < z)) → z ≡ home_of u
          by_order (inl f) = f
          by_order (inr (inl f)) = absurd (omega (arith, f, l))
          by_order (inr (inr f)) = absurd (on f g)

  -- ** Imported procedures

  foreign : (t : Place) (k s : ℕ) → t.scope ≡ s → s < home_of u → (u.own ≡ Some s → ⊥) → is_foreign b.block (target t k) ≡ true
  foreign t k s at low other =
      ap (λ (z : ℕ). (level_of b.block z == 0) && not (is_own b.block z)) at ∙ ap (λ (v : Bool). v && not (is_own b.block s)) (level (level_of b.block s == 0) refl) ∙ ap not (by_own (is_own b.block s) refl)
    where
      level : (v : Bool) → (level_of b.block s == 0) ≡ v → v ≡ true
      level true e = refl
      level false e = let far = (reached u w (unit_rows u) notes has b i behind s e).behind in absurd (omega (arith, far, low))

      by_place : (s ≡ home_of u) ⊎ (u.own ≡ Some s) → ⊥
      by_place (inl e) = omega (arith, e, low)
      by_place (inr e) = other e

      by_own : (v : Bool) → is_own b.block s ≡ v → v ≡ false
      by_own true e = absurd (by_place (own_is u b.block (in_main u b i behind) s e))
      by_own false e = refl

  import-target : (s n : ℕ) (r : Row) (t : Place) (k x : ℕ) → s < home_of u → (u.own ≡ Some s → ⊥) → slice_get (rows_at (unit_rows u) s) n ≡ Some r → row_meaning r ≡ Proc t k x
      → IsCalled t (target t k) × IsWorth (target t k)
  import-target s n r t k x low other e m =
      let d = says s n r t k x (omega (arith, low, behind)) e m in
      let same = d.scope in
      let form = each_in (HasItsForm (home_of u)) (blocks_of u) d.q known.forms d.there in
      let defined : HasNumber Definition d.q.block (notes d.q.block.scope) d.heading d.stream k =
      subst (λ (kind : StreamKind). HasNumber kind d.q.block (notes d.q.block.scope) d.heading d.stream k) (form.definition (omega (arith, same, low))) d.number in
      let noted : HasNumber Definition d.q.block (notes s) d.heading d.stream k = subst (λ (z : ℕ). HasNumber Definition d.q.block (notes z) d.heading d.stream k) same defined in
      let positive = known.positive d.q d.there in
      let it = has.imports s (subst (λ (z : ℕ). 0 < z) same positive) low other in
      let number : ℕ = import_number_beside u.own s in
      let there = foreign t k s d.typ low other in
      let import : import_of_target b.block (target t k) ≡ number =
      ap (λ (v : Bool). if v then import_number b.block t.scope else 0) there ∙ ap (import_number b.block) d.typ ∙ ap (λ (o : Option ℕ). import_number_beside o s) (in_main u b i behind).own in
      let calls : call_instr scene (target t k) ≡ CallX number k =
      ap (λ (v : Bool). if v then CallX (import_of_target b.block (target t k)) k else Call k (links_to b.block t.scope)) there ∙ ap (λ (z : ℕ). CallX z k) import in
      let heading : has_heading w number k ≡ true = import-heading w (notes s) number k it.i _ it.there it.headings noted in (
        (
          subst (λ (j : Instr). names_what_is_there w (b.block.scope - home_of u) p j ≡ true) (sym calls) heading,
          subst (λ (j : Instr). step_among (callees_of w p) j ≡ call_step scene t j 0) (sym calls)
              (import-step w (notes s) number k it.i d.heading d.heading.name.name k p scene t it.there it.headings noted d.seen),
        ),
        subst (λ (z : ℕ). names_what_is_there w (b.block.scope - home_of u) p (ProcValue z k) ≡ true) (sym import) (import-value w number k it.positive heading),
      )

  -- ** Targets

  -- a procedure that isn't of the own definition
  other-target : (s n : ℕ) (r : Row) (t : Place) (k x : ℕ) → s ≤ b.block.scope → IsOnLevel s → (u.own ≡ Some s → ⊥) → slice_get (rows_at (unit_rows u) s) n ≡ Some r → row_meaning r ≡ Proc t k x
      → IsCalled t (target t k) × ((level_of b.block t.scope == 0) ≡ true → IsWorth (target t k))
  other-target s n r t k x low on other e m = by_order (cases_order s (home_of u))
    where
      by_order : (s ≡ home_of u) ⊎ ((s < home_of u) ⊎ (home_of u < s)) → IsCalled t (target t k) × ((level_of b.block t.scope == 0) ≡ true → IsWorth (target t k))
      by_order (inl f) = own-target s n r t k x (omega (arith, f)) low on e m
      by_order (inr (inl f)) = let it = import-target s n r t k x f other e m in (it.0, λ l. it.1)
      by_order (inr (inr f)) = own-target s n r t k x (omega (arith, f)) low on e m

  -- ** Scopes in sight

  pub sight-low : (s : ℕ) → IsInSight b.block s → s ≤ b.block.scope
  sight-low s (inr h) = let home = (in_main u b i behind).home in omega (arith, h, home, behind)
  sight-low s (inl h) =
      let first = begins u (blocks_of u) b.block (each_in _ (blocks_of u) b (blocks_stand u) i behind) in
      let down : Each (λ q. q < b.block.scope) (drop 1 b.block.chain) = each_in GoesDown (blocks_of u) b (chains_down u known.own) i in
      by_chain first.rest (subst (λ (xs : List ℕ). Each (λ q. q < b.block.scope) (drop 1 xs)) first.chain down) (subst (IsIn s) first.chain h)
    where
      by_chain : (rest : List ℕ) → Each (λ q. q < b.block.scope) (drop 1 (b.block.scope ∷ rest)) → IsIn s (b.block.scope ∷ rest) → s ≤ b.block.scope
      by_chain rest d (inl e) = omega (arith, e)
      by_chain rest d (inr j) = let less : s < b.block.scope = each_in (λ q. q < b.block.scope) rest s d j in omega (arith, less)

  on-level : (s : ℕ) → IsInSight b.block s → IsOnLevel s
  on-level s (inr h) far e = let home = (in_main u b i behind).home in omega (arith, h, home, far)
  on-level s (inl h) far e = by_place (in_module u (suc b.block.scope) b i behind (omega arith) s h e)
    where
      by_place : (s ≡ home_of u) ⊎ (u.own ≡ Some s) → ⊥
      by_place (inl f) = omega (arith, f, far)
      by_place (inr f) = let low : s < home_of u = subst (λ (o : Option ℕ). WhereKept o (λ q. q < home_of u)) f known.own in omega (arith, low, far)

  -- ** What a row of a procedure names

  -- the procedure that a row's name is, as a target
  pub record HasTarget (name : ℕ) (t : Place) (k : ℕ) : Type 0 where
    pub q : Target
    pub is : target_of_procedure scene name t k ≡ Some q
    pub called : IsCalled t q
    pub worth : (level_of b.block t.scope == 0) ≡ true → IsWorth q

  entry_here : (name : ℕ) (e : Option Entry) → entry_in (unit_rows u) (home_of u) name ≡ e → entry_in scene.tables scene.block.home name ≡ e
  entry_here name e f =
      ap (λ (z : ℕ). entry_in scene.tables z name) (in_main u b i behind).home
      ∙ ap (λ (rs : List Row). found_or (home_of u) (first_named name rs 0) None) (whole-rows (unit_rows u) b.block (home_of u) (known.there b i) behind) ∙ f

  own-definition : (s n : ℕ) (r : Row) (t : Place) (k x name : ℕ) → u.own ≡ Some s → is_own_definition b.block.own t.scope ≡ true → slice_get (rows_at (unit_rows u) s) n ≡ Some r → row_meaning r ≡ Proc t k x → r.name ≡ name
      → HasTarget name t k
  own-definition s n r t k x name own is e m f =
      let it = known.implemented s own n r t k x e m in
      let at = other-target (home_of u) it.ordinal it.row it.typ it.number it.scope behind (λ far l. omega (arith, far)) not_home it.there it.means in
      let entry : entry_in scene.tables scene.block.home name ≡ Some (at_place (home_of u) it.ordinal, it.row) =
      entry_here name (Some (at_place (home_of u) it.ordinal, it.row)) (ap (entry_in (unit_rows u) (home_of u)) (sym f) ∙ it.found) in
      let says_home = says (home_of u) it.ordinal it.row it.typ it.number it.scope behind it.there it.means in
      let q : Target = target it.typ it.number in
      record {
        q = q;
        is = ap (λ (v : Bool). if v then target_of_entry (entry_in scene.tables scene.block.home name) else Some (target t k)) is ∙ ap target_of_entry entry ∙ ap target_by it.means;
        called = (at.0.0, at.0.1 ∙ step_is (call_instr scene q) _ _ _ _ (ap (λ (z : ℕ). z + 0) (it.params b i behind)) (it.result b i behind));
        worth = λ l. at.1 (eq-eqb (level_of b.block it.typ.scope) 0 (ap (level_of b.block) says_home.typ ∙ home_level));
      }
    where
      not_home : u.own ≡ Some (home_of u) → ⊥
      not_home g = let low : home_of u < home_of u = subst (λ (o : Option ℕ). WhereKept o (λ q. q < home_of u)) g known.own in omega (arith, low)

  pub target-there : (s n : ℕ) (r : Row) (t : Place) (k x name : ℕ) → IsInSight b.block s → slice_get (rows_at (unit_rows u) s) n ≡ Some r → row_meaning r ≡ Proc t k x → r.name ≡ name → HasTarget name t k
  target-there s n r t k x name sight e m f = by_own (is_own_definition b.block.own t.scope) refl
    where
      typ : t.scope ≡ s
      typ = (says s n r t k x (sight-low s sight) e m).typ

      own_same : b.block.own ≡ u.own
      own_same = (in_main u b i behind).own

      by_own : (v : Bool) → is_own_definition b.block.own t.scope ≡ v → HasTarget name t k
      by_own true g = own-definition s n r t k x name (sym own_same ∙ own_scope b.block.own t.scope g ∙ ap (λ (z : ℕ). Some z) typ) g e m f
      by_own false g =
          let at = other-target s n r t k x (sight-low s sight) (on-level s sight) other e m in
          record {
            q = target t k;
            is = ap (λ (v : Bool). if v then target_of_entry (entry_in scene.tables scene.block.home name) else Some (target t k)) g;
            called = at.0;
            worth = at.1;
          }
        where
          other : u.own ≡ Some s → ⊥
          other h =
              let yes : is_own_definition b.block.own t.scope ≡ true = ap (λ (o : Option ℕ). is_own_definition o t.scope) (own_same ∙ h) ∙ eq-eqb t.scope s typ in
              let no : true ≡ false = sym yes ∙ g in
              absurd cc

  pub call-there : (name : ℕ) (t : Place) (k : ℕ) (q : Target) → HasTarget name t k → target_of_procedure scene name t k ≡ Some q → IsCalled t q
  call-there name t k q h e = subst (IsCalled t) (some_is h.q q (sym h.is ∙ e)) h.called

  pub value-there : (name : ℕ) (t : Place) (k : ℕ) → HasTarget name t k → (level_of b.block t.scope == 0) ≡ true
      → names_what_is_there w (b.block.scope - home_of u) p (value_instr scene (target_of_procedure scene name t k)) ≡ true
  value-there name t k h l = ap (λ (o : Option Target). names_what_is_there w (b.block.scope - home_of u) p (value_instr scene o)) h.is ∙ h.worth l
