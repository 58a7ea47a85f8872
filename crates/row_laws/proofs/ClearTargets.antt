-- What a pointer type points to in a clear scene, where that has no diagnostic: a name of the block may be declared later, but what
-- it imports is there.
use Rattle.std.specs.Prelude.{◌≡◌, ℕ, zero, suc, ◌==◌, true, List, [], ◌∷◌, ◌++◌, slice_get, slice_index_or, Option, Some, None, option_map}
use Rattle.std.proofs.Common.{ap, subst, sym, ◌∙◌, refl}
use Rattle.std.proofs.lemmas.Bool.{false_from_ne_true}
use Rattle.std.proofs.lemmas.Option.{get_or_from_slice_get}
use Rattle.m2_base.specs.Gives.{Gives, gives}
use Rattle.m2_base.specs.Lists.{Each, WhereKept}
use Rattle.m2_base.specs.Rows.{alias_kind, at_place, is_same_place, place_of, row_of, row_meaning, type_name_kind}
use Rattle.m2_base.specs.declared.rows.Place.{Place}
use Rattle.m2_base.specs.declared.rows.Row.{Row}
use Rattle.m2_base.specs.declared.rows.RowMeaning.{RowMeaning}
use Rattle.m2_base.specs.declared.rows.RowMeaning.TheVariants.{Alias, Broken, TypeName}
use Rattle.m2_base.specs.declared.sites.Named.{Named}
use Rattle.m2_base.specs.declared.trees.Ident.{Ident}
use Rattle.m2_base.specs.Standard.{broken}
use Rattle.m2_base.specs.Trees.{TypeExpr}
use Rattle.m2_base.specs.Statics.Contexts.{Context, Scene, row_at}
use Rattle.m2_base.specs.Statics.Lookup.{entry_at, entry_named, entry_or, first_entry, moved}
use Rattle.m2_base.specs.Statics.Makes.{scene_with, with_rows}
use Rattle.m2_base.specs.Statics.Targets.{entry_target, imported_target, layout_target, target_by_layout, target_by_name, target_name}
use Rattle.m2_base.specs.Statics.Uses.{followed_by}
use Rattle.m2_base.proofs.EachLaws.{each_found, each_then}
use Rattle.m2_base.proofs.SceneLaws.{IsOpen, own_of, own-with}
use Rattle.m2_base.proofs.TypeLaws.{same_place-is}
use Rattle.row_laws.specs.Clear.{IsClear, IsTarget, LeadsOn}
use Rattle.row_laws.proofs.ClearRows.{IsClearScene, behind_clear}
use Rattle.row_laws.proofs.Choices.{either_by}
use Rattle.row_laws.proofs.ClearNotes.{GivesFine, given, refused}
use Rattle.row_laws.proofs.Lookups.{row_of_place}

-- ** What a block imports

pub front_stays : {A : Type 0} (xs ys : List A) (k : ℕ) (x : A) → slice_get xs k ≡ Some x → slice_get (xs ++ ys) k ≡ Some x
front_stays [] ys k x e = absurd (cc)
front_stays (y ∷ xs) ys zero x e = e
front_stays (y ∷ xs) ys (suc k) x e = front_stays xs ys k x e

-- the row of a name in the layout is made, and is an alias
abbrev pub IsMade : Scene → Named → Type 0
IsMade scene n = (r : Row) × (slice_get (own_of scene) n.ordinal ≡ Some r) × (r.kind ≡ alias_kind)

-- where the name is an import's, its row is made
abbrev pub IsMadeImport : Scene → Named → Type 0
IsMadeImport scene n = (n.kind == alias_kind) ≡ true → IsMade scene n

-- each name that the block imports from another module has its row, and each that was brought with one
pub record HasImports (c : Context) : Type 0 where
  pub brought : Each (IsMade c.scene) c.layout.brought
  pub names : Each (λ n. IsMadeImport c.scene (moved c.layout.brought n)) c.layout.names

pub made_with : (scene : Scene) (rows : List Row) → IsOpen scene → (n : Named) → IsMade scene n → IsMade (scene_with scene rows) n
made_with scene rows room n h =
    (h.0, subst (λ (rs : List Row). slice_get rs n.ordinal ≡ Some h.0) (sym (own-with scene rows room)) (front_stays (own_of scene) rows n.ordinal h.0 h.1), h.2)

pub imports_with : (c : Context) (rows : List Row) → IsClearScene c.scene → HasImports c → HasImports (with_rows c rows)
imports_with c rows clear h =
    record {
      brought = each_then (IsMade c.scene) (IsMade (scene_with c.scene rows)) c.layout.brought (made_with c.scene rows clear.room) h.brought;
      names = each_then (λ (n : Named). IsMadeImport c.scene (moved c.layout.brought n)) (λ (n : Named). IsMadeImport (scene_with c.scene rows) (moved c.layout.brought n)) c.layout.names
          (λ n k e. made_with c.scene rows clear.room (moved c.layout.brought n) (k e)) h.names;
    }

-- the entry under a name, of two that are found
either_made : (scene : Scene) (brought : List Named) (o p : Option Named) → WhereKept o (IsMade scene) → WhereKept p (λ n. IsMadeImport scene (moved brought n))
    → WhereKept (entry_or o (option_map (moved brought) p)) (IsMadeImport scene)
either_made scene brought (Some n) p h k = λ e. h
either_made scene brought None (Some n) h k = k
either_made scene brought None None h k = tt

first_made : (c : Context) (name : ℕ) → HasImports c → WhereKept (first_entry c.layout name) (IsMadeImport c.scene)
first_made c name h =
    either_made c.scene c.layout.brought (entry_named c.layout.brought name) (entry_named c.layout.names name)
    (each_found (IsMade c.scene) (λ n. n.name == name) c.layout.brought h.brought)
    (each_found (λ (n : Named). IsMadeImport c.scene (moved c.layout.brought n)) (λ n. n.name == name) c.layout.names h.names)

-- a row of this kind is an alias
alias_means : (r : Row) → r.kind ≡ alias_kind → row_meaning r ≡ Alias (place_of r.a)
alias_means r e = ap (λ (k : ℕ). row_meaning (record r { kind = k })) e

-- ** Targets

module _ (c : Context) (clear : IsClearScene c.scene) where
  -- the row of parts in error is no type's name
  named_clear : (p : Place) (t : Place) → row_meaning (row_at c.scene.tables p) ≡ TypeName t → IsClear p
  named_clear p t e =
      false_from_ne_true (is_same_place p broken) (λ b.
      let meaning : row_meaning (row_at c.scene.tables p) ≡ Broken =
      ap (λ (q : Place). row_meaning (row_at c.scene.tables q)) (same_place-is p broken b) ∙ ap (λ (rows : List Row). row_meaning (slice_index_or rows 10 (row_of 0 0 Broken))) clear.standard in
      let none : TypeName t ≡ Broken = sym e ∙ meaning in
      absurd (cc))

  imported_fine : (at : ℕ) (p : Place) (m : RowMeaning) → row_meaning (row_at c.scene.tables p) ≡ m → IsTarget m → GivesFine IsClear (imported_target c at p m)
  imported_fine at p (TypeName t) e h = given (named_clear p t e)
  imported_fine at p Broken e h = absurd h
  imported_fine at p m e h = refused

  alias_fine : (at : ℕ) (p : Place) (m : RowMeaning) (q : Place) → m ≡ Alias q → LeadsOn c.scene.tables m → GivesFine IsClear (entry_target c at (followed_by c.scene (entry_at c.scene p) m))
  alias_fine at p m q e leads =
      subst (λ (x : RowMeaning). LeadsOn c.scene.tables x → GivesFine IsClear (entry_target c at (followed_by c.scene (entry_at c.scene p) x))) (sym e)
      (λ h. imported_fine at q (row_meaning (row_at c.scene.tables q)) refl h.1) leads

  layout_fine : (at : ℕ) (n : Named) → IsMadeImport c.scene n → GivesFine IsClear (layout_target c at n)
  layout_fine at n made =
      let p = at_place c.scene.block.scope n.ordinal in
      let m = row_meaning (row_at c.scene.tables p) in
      either_by (λ (g : Gives Place). GivesFine IsClear g) (n.kind == type_name_kind) (gives p) _ (λ e. given (behind_clear c.scene.block.scope n.ordinal clear.positive))
      (λ none. either_by (λ (g : Gives Place). GivesFine IsClear g) (n.kind == alias_kind) (entry_target c at (followed_by c.scene (entry_at c.scene p) m)) _
      (λ e.
      let is = made e in
      let there : row_at c.scene.tables p ≡ is.0 = get_or_from_slice_get (own_of c.scene) n.ordinal is.0 (row_of 0 0 Broken) is.1 in
      alias_fine at p m (place_of is.0.a) (ap row_meaning there ∙ alias_means is.0 is.2)
      (row_of_place (λ (r : Row). LeadsOn c.scene.tables (row_meaning r)) c.scene.tables (λ s o r f. (clear.rows s o r f).1) tt p))
      (λ other. refused))

  by_layout : (i : Ident) (o : Option Named) → WhereKept o (IsMadeImport c.scene) → WhereKept (target_by_layout c i o) (GivesFine IsClear)
  by_layout i None h = tt
  by_layout i (Some n) h = layout_fine i.at n h

  by_name : (o : Option Ident) → HasImports c → WhereKept (target_by_name c o) (GivesFine IsClear)
  by_name None h = tt
  by_name (Some i) h = by_layout i (first_entry c.layout i.name) (first_made c i.name h)

  pub name_target_fine : (t : TypeExpr) → HasImports c → WhereKept (target_by_name c (target_name c t)) (GivesFine IsClear)
  name_target_fine t h = by_name (target_name c t) h
