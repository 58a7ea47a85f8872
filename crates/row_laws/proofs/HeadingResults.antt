-- The result that a heading binds in its own block depends on the scopes outside alone: a name of the block itself stands for
-- nothing there.
use Rattle.std.specs.Prelude.{◌≡◌, ℕ, ◌+◌, ◌^◌, ◌<◌, ◌==◌, Bool, true, false, if◌then◌else◌, nat_lt, drop, List, [], ◌∷◌, slice_index_or, Option, Some, None}
use Rattle.std.proofs.Common.{refl, ap, ◌∙◌, arith}
use Rattle.std.proofs.lemmas.Bool.{ltb-true}
use Rattle.m2_base.specs.Gives.{and_then, gives, gives_answer}
use Rattle.m2_base.specs.Lists.{Each, WhereKept}
use Rattle.m2_base.specs.Rows.{Fits, HasSmallOrdinals, IsBefore, at_place, row_meaning, row_of}
use Rattle.m2_base.specs.Standard.{broken, is_standard, standard_place}
use Rattle.m2_base.specs.Statics.Contexts.{Block, Context, Layout, Scene, Source, refuse, row_at}
use Rattle.m2_base.specs.Statics.Diagnostics.{not_declared_there, result_not_scalar, unknown_name, used_before}
use Rattle.m2_base.specs.Statics.Lookup.{Entry, entry_at, entry_in, first_entry}
use Rattle.m2_base.specs.Statics.ProcedureTypes.{checked_result, is_structured_kind, result_type}
use Rattle.m2_base.specs.Statics.TypeNames.{member_of, qualified, type_by, type_of_entry, type_of_qual}
use Rattle.m2_base.specs.Statics.Types.{declared_as, kind_of, meaning_at, named_or, opaque_as, stands_as, stands_for, type_named, unless_opaque}
use Rattle.m2_base.specs.Statics.Uses.{answer_of, bound, bound_or, bound_outside, followed, followed_by, stands_later, use_by_item, use_in_item, use_of}
use Rattle.m2_base.specs.Tables.{first_named, found_or, lookup, rows_at}
use Rattle.m2_base.specs.declared.rows.Place.{Place}
use Rattle.m2_base.specs.declared.rows.Row.{Row}
use Rattle.m2_base.specs.declared.rows.RowMeaning.{RowMeaning}
use Rattle.m2_base.specs.declared.rows.RowMeaning.TheVariants.{Alias, Broken, Module, Opaque, TypeName}
use Rattle.m2_base.specs.declared.sites.Named.{Named}
use Rattle.m2_base.specs.declared.trees.Ident.{Ident}
use Rattle.m2_base.specs.declared.trees.Qual.{Qual}
use Rattle.m2_base.proofs.Sound.{EntryOk, RowOk, Sound, found_ok, row_ok}
use Rattle.m2_base.proofs.StandardLaws.{standard_small}

no_less : (n : ℕ) (b : Bool) → nat_lt n 0 ≡ b → b ≡ false
no_less n true e = absurd (let h = ltb-true n 0 e in omega arith)
no_less n false e = refl

module _ (names : ℕ) (source : Source) (b : Block) (layout : Layout) (t u : List (List Row))
    (sound : Sound names (record { block = b; tables = t })) (same : (s : ℕ) → s < b.scope → rows_at u s ≡ rows_at t s)
    (down : Each (λ s. s < b.scope) (drop 1 b.chain)) (home : b.home < b.scope) (own : WhereKept b.own (λ s. s < b.scope)) where
  abbrev scene : Scene
  scene = record { block = b; tables = t }

  abbrev later : Scene
  later = record { block = b; tables = u }

  -- the heading is the block's first item
  abbrev c : Context
  c = record { source = source; scene = scene; layout = layout; item = Some 0 }

  abbrev d : Context
  d = record { source = source; scene = later; layout = layout; item = Some 0 }

  -- ** What stands outside

  record IsOuter (p : Place) : Type 0 where
    scope : p.scope < b.scope
    ordinal : p.ordinal < 2 ^ 32

  record IsOuterEntry (e : Entry) : Type 0 where
    outer : IsOuter e.0
    row : RowOk names e.0 e.1

  before_outer : (p q : Place) → p.ordinal < 2 ^ 32 → IsBefore p q → IsOuter q → IsOuter p
  before_outer p q small before h = let s = h.scope in let o = h.ordinal in record { scope = omega (arith, before, s, o); ordinal = small }

  row_same : (p : Place) → p.scope < b.scope → row_at u p ≡ row_at t p
  row_same p h = ap (λ (rows : List Row). slice_index_or rows p.ordinal (row_of 0 0 Broken)) (same p.scope h)

  meaning_same : (p : Place) → p.scope < b.scope → meaning_at later p ≡ meaning_at scene p
  meaning_same p h = ap row_meaning (row_same p h)

  lookup_same : (chain : List ℕ) (name : ℕ) → Each (λ s. s < b.scope) chain → lookup u chain name ≡ lookup t chain name
  lookup_same [] name h = refl
  lookup_same (s ∷ chain) name h =
      ap (λ (rows : List Row). found_or s (first_named name rows 0) (lookup u chain name)) (same s h.0)
      ∙ ap (found_or s (first_named name (rows_at t s) 0)) (lookup_same chain name h.1)

  lookup_outer : (chain : List ℕ) (name : ℕ) → Each (λ s. s < b.scope) chain → WhereKept (lookup t chain name) IsOuterEntry
  lookup_outer [] name h = tt
  lookup_outer (s ∷ chain) name h = by_hit (first_named name (rows_at t s) 0) (lookup t chain name) (lookup_outer chain name h.1) (found_ok sound (s ∷ chain) name)
    where
      by_hit : (o : Option (ℕ × Row)) (rest : Option Entry) → WhereKept rest IsOuterEntry → WhereKept (found_or s o rest) (EntryOk names scene) → WhereKept (found_or s o rest) IsOuterEntry
      by_hit None rest k ok = k
      by_hit (Some hit) rest k ok = record { outer = record { scope = h.0; ordinal = ok.there.0 }; row = ok.row }

  -- ** Names

  follow_same : (e : Entry) (m : RowMeaning) → IsOuterEntry e → Fits names e.0 m → HasSmallOrdinals m → followed_by later e m ≡ followed_by scene e m
  follow_same e (Alias p) h f s = ap (λ (r : Row). (p, r)) (row_same p (before_outer p e.0 s f h.outer).scope)
  follow_same e m h f s = refl

  follow_outer : (e : Entry) (m : RowMeaning) → IsOuterEntry e → Fits names e.0 m → HasSmallOrdinals m → IsOuterEntry (followed_by scene e m)
  follow_outer e (Alias p) h f s = record { outer = before_outer p e.0 s f h.outer; row = row_ok sound p }
  follow_outer e m h f s = h

  followed_same : (e : Entry) → IsOuterEntry e → followed later e ≡ followed scene e
  followed_same e h = follow_same e (row_meaning e.1) h h.row.formed.fits h.row.small

  followed_outer : (e : Entry) → IsOuterEntry e → IsOuterEntry (followed scene e)
  followed_outer e h = follow_outer e (row_meaning e.1) h h.row.formed.fits h.row.small

  -- an entry that is the same in both scenes, and stands outside
  record IsBound (x y : Option Entry) : Type 0 where
    is : y ≡ x
    outer : WhereKept x IsOuterEntry

  bound_same : (code name at : ℕ) (o : Option Entry) → WhereKept o IsOuterEntry → IsBound (bound_or c code name at o).value (bound_or d code name at o).value
  bound_same code name at None h = record { is = refl; outer = tt }
  bound_same code name at (Some e) h = record { is = ap Some (followed_same e h); outer = followed_outer e h }

  outside_same : (name at : ℕ) (o : Option Entry) → WhereKept o IsOuterEntry → IsBound (bound_outside c name at o).value (bound_outside d name at o).value
  outside_same name at None h = record { is = refl; outer = tt }
  outside_same name at (Some e) h = by_test (stands_later c at e)
    where
      by_test : (k : Bool) → IsBound (if k then and_then (gives_answer (answer_of name at e) None) (λ none. refuse c at used_before none) else bound c name at e).value
          (if k then and_then (gives_answer (answer_of name at e) None) (λ none. refuse d at used_before none) else bound d name at e).value
      by_test true = record { is = refl; outer = tt }
      by_test false = record { is = ap Some (followed_same e h); outer = followed_outer e h }

  -- in the scope of a module before the block's
  within_same : (s name at : ℕ) → s < b.scope → IsBound (use_of c (Some s) name at).value (use_of d (Some s) name at).value
  within_same s name at h =
      let there = bound_same not_declared_there name at (entry_in t s name) (lookup_outer (s ∷ []) name (h, tt)) in
      record {
        is = ap (λ (o : Option Entry). (bound_or d not_declared_there name at o).value) (lookup_same (s ∷ []) name (h, tt)) ∙ there.is;
        outer = there.outer;
      }

  -- in the heading: a name of the block itself is declared by no earlier item
  in_item_same : (name at : ℕ) (o : Option Named) → IsBound (use_in_item c 0 name at o).value (use_in_item d 0 name at o).value
  in_item_same name at (Some n) = by_test (nat_lt n.item 0) (no_less n.item (nat_lt n.item 0) refl)
    where
      by_test : (k : Bool) → k ≡ false → IsBound (if k then bound_or c unknown_name name at (entry_in t b.scope name) else refuse c at used_before None).value
          (if k then bound_or d unknown_name name at (entry_in u b.scope name) else refuse d at used_before None).value
      by_test true k = absurd (cc)
      by_test false k = record { is = refl; outer = tt }
  in_item_same name at None =
      let there = outside_same name at (lookup t (drop 1 b.chain) name) (lookup_outer (drop 1 b.chain) name down) in
      record {
        is = ap (λ (o : Option Entry). (bound_outside d name at o).value) (lookup_same (drop 1 b.chain) name down) ∙ there.is;
        outer = there.outer;
      }

  name_same : (name at : ℕ) → IsBound (use_of c None name at).value (use_of d None name at).value
  name_same name at = by_test (is_standard name) refl
    where
      by_test : (k : Bool) → is_standard name ≡ k → IsBound (if k then gives (Some (entry_at scene (standard_place name))) else use_by_item c name at (Some 0)).value
          (if k then gives (Some (entry_at later (standard_place name))) else use_by_item d name at (Some 0)).value
      by_test true k =
          record {
            is = ap (λ (r : Row). Some (standard_place name, r)) (row_same (standard_place name) sound.positive);
            outer = record { outer = record { scope = sound.positive; ordinal = standard_small name k }; row = row_ok sound (standard_place name) };
          }
      by_test false k = in_item_same name at (first_entry layout name)

  -- ** Types by name

  member_same : (at : ℕ) (i : Ident) (e : Entry) (m : RowMeaning) → IsOuterEntry e → Fits names e.0 m → IsBound (member_of c at i m).value (member_of d at i m).value
  member_same at i e (Module s) h f = let below = h.outer.scope in within_same s i.name i.at (omega (arith, f, below))
  member_same at i e Broken h f = record { is = refl; outer = tt }
  member_same at i e m h f = record { is = refl; outer = tt }

  qualified_same : (at : ℕ) (second : Option Ident) (o : Option Entry) → WhereKept o IsOuterEntry → IsBound (qualified c at second o).value (qualified d at second o).value
  qualified_same at second None h = record { is = refl; outer = tt }
  qualified_same at None (Some e) h = record { is = refl; outer = h }
  qualified_same at (Some i) (Some e) h = member_same at i e (row_meaning e.1) h h.row.formed.fits

  -- a type that is the same in both scenes, and stands outside
  record IsOf (p q : Place) : Type 0 where
    is : q ≡ p
    outer : IsOuter p

  broken_outer : IsOuter broken
  broken_outer = record { scope = sound.positive; ordinal = omega arith }

  type_by_same : (at : ℕ) (e : Entry) (m : RowMeaning) → IsOuterEntry e → Fits names e.0 m → HasSmallOrdinals m → IsOf (type_by c at m).value (type_by d at m).value
  type_by_same at e (TypeName p) h f s = record { is = refl; outer = before_outer p e.0 s f h.outer }
  type_by_same at e Broken h f s = record { is = refl; outer = broken_outer }
  type_by_same at e m h f s = record { is = refl; outer = broken_outer }

  type_of_same : (at : ℕ) (o : Option Entry) → WhereKept o IsOuterEntry → IsOf (type_of_entry c at o).value (type_of_entry d at o).value
  type_of_same at None h = record { is = refl; outer = broken_outer }
  type_of_same at (Some e) h = type_by_same at e (row_meaning e.1) h h.row.formed.fits h.row.small

  qual_same : (q : Qual) → IsOf (type_of_qual c q).value (type_of_qual d q).value
  qual_same q =
      let at = q.first.at in
      let one = name_same q.first.name at in
      let two = qualified_same at q.second (use_of c None q.first.name at).value one.outer in
      let three = type_of_same at (qualified c at q.second (use_of c None q.first.name at).value).value two.outer in
      record {
        is = ap (λ (o : Option Entry). (type_of_entry d at (qualified d at q.second o).value).value) one.is
            ∙ ap (λ (o : Option Entry). (type_of_entry d at o).value) two.is
            ∙ three.is;
        outer = three.outer;
      }

  -- ** What a type stands for

  unless_same : (p q : Place) (m : RowMeaning) → IsOuter p → IsOuter q → IsOf (unless_opaque p q m) (unless_opaque p q m)
  unless_same p q Opaque h k = record { is = refl; outer = h }
  unless_same p q m h k = record { is = refl; outer = k }

  named_by_same : (p : Place) (e : Entry) (m : RowMeaning) → IsOuter p → IsOuterEntry e → Fits names e.0 m → HasSmallOrdinals m → IsOf (type_named scene p m) (type_named later p m)
  named_by_same p e (TypeName q) h k f s =
      let outer = before_outer q e.0 s f k.outer in
      let there = unless_same p q (meaning_at scene q) h outer in
      record { is = ap (unless_opaque p q) (meaning_same q outer.scope); outer = there.outer }
  named_by_same p e m h k f s = record { is = refl; outer = h }

  named_same : (p : Place) (o : Option Entry) → IsOuter p → WhereKept o IsOuterEntry → IsOf (named_or scene p o) (named_or later p o)
  named_same p None h k = record { is = refl; outer = h }
  named_same p (Some e) h k = named_by_same p e (row_meaning e.1) h k k.row.formed.fits k.row.small

  declared_same : (p : Place) (name : ℕ) → IsOuter p → IsOf (declared_as scene p name) (declared_as later p name)
  declared_same p name h = by_test (name == 0)
    where
      by_test : (k : Bool) → IsOf (if k then p else named_or scene p (entry_in t b.home name)) (if k then p else named_or later p (entry_in u b.home name))
      by_test true = record { is = refl; outer = h }
      by_test false =
          let there = named_same p (entry_in t b.home name) h (lookup_outer (b.home ∷ []) name (home, tt)) in
          record { is = ap (named_or later p) (lookup_same (b.home ∷ []) name (home, tt)) ∙ there.is; outer = there.outer }

  opaque_same : (p : Place) (o : Option ℕ) → IsOuter p → WhereKept o (λ s. s < b.scope) → IsOf (opaque_as scene p o) (opaque_as later p o)
  opaque_same p None h k = record { is = refl; outer = h }
  opaque_same p (Some s) h k = by_test (p.scope == s)
    where
      next : Place
      next = at_place s (p.ordinal + 1)

      by_test : (x : Bool) → IsOf (if x then declared_as scene p (row_at t next).name else p) (if x then declared_as later p (row_at u next).name else p)
      by_test true =
          let there = declared_same p (row_at t next).name h in
          record { is = ap (λ (r : Row). declared_as later p r.name) (row_same next k) ∙ there.is; outer = there.outer }
      by_test false = record { is = refl; outer = h }

  stands_by_same : (p : Place) (m : RowMeaning) → IsOuter p → IsOf (stands_as scene p m) (stands_as later p m)
  stands_by_same p Opaque h = opaque_same p b.own h own
  stands_by_same p m h = record { is = refl; outer = h }

  stands_same : (p : Place) → IsOuter p → IsOf (stands_for scene p) (stands_for later p)
  stands_same p h =
      let there = stands_by_same p (meaning_at scene p) h in
      record { is = ap (stands_as later p) (meaning_same p h.scope) ∙ there.is; outer = there.outer }

  kind_same : (p : Place) → IsOuter p → kind_of later p ≡ kind_of scene p
  kind_same p h = let there = stands_same p h in ap (meaning_at later) there.is ∙ meaning_same (stands_for scene p) there.outer.scope

  -- ** The result

  checked_same : (at : ℕ) (p : Place) → IsOuter p → (checked_result d at p).value ≡ (checked_result c at p).value
  checked_same at p h =
      ap (λ (m : RowMeaning). (if is_structured_kind m then refuse d at result_not_scalar (Some broken) else gives (Some p)).value) (kind_same p h)
      ∙ by_test (is_structured_kind (kind_of scene p))
    where
      by_test : (k : Bool) → (if k then refuse d at result_not_scalar (Some broken) else gives (Some p)).value ≡ (if k then refuse c at result_not_scalar (Some broken) else gives (Some p)).value
      by_test true = refl
      by_test false = refl

  pub result_same : (o : Option Qual) → (result_type d o).value ≡ (result_type c o).value
  result_same None = refl
  result_same (Some q) =
      let there = qual_same q in
      ap (λ (p : Place). (checked_result d q.first.at p).value) there.is ∙ checked_same q.first.at (type_of_qual c q).value there.outer
