-- The imports of a unit's object have the fields that are asked: their names are identifiers, and no two have one.
use Rattle.std.specs.Prelude.{◌≡◌, refl, ℕ, ◌+◌, ◌*◌, ◌^◌, ◌<◌, ◌≤◌, ◌||◌, not, Bool, true, false, if◌then◌else◌, List, [], ◌∷◌, ◌++◌, flat_map, length, map, take, Option, Some, None}
use Rattle.std.specs.List.{AllZip, list_any}
use Rattle.std.specs.Str.{bytes_eq}
use Rattle.std.proofs.Common.{ap, subst, sym, ◌∙◌, inl, inr, arith}
use Rattle.std.proofs.lemmas.Bool.{and_from}
use Rattle.std.proofs.lemmas.List.{length-append, length-map}
use Rattle.std.proofs.lemmas.Slice.Eq.{bytes_eq-Decides}
use Rattle.code_form.specs.Heights.{Callee}
use Rattle.m2_base.specs.Lists.{Each, IsIn}
use Rattle.m2_base.specs.Names.{number_in}
use Rattle.m2_base.specs.Statics.BlockRows.{at_item, brought_in, context_of, declare_block, declare_items, first_cell, scene_of}
use Rattle.m2_base.specs.Statics.Blocks.{BlockTree}
use Rattle.m2_base.specs.Statics.Contexts.{Context, Source}
use Rattle.m2_base.specs.Statics.Declarations.{declare}
use Rattle.m2_base.specs.Statics.Effects.{heading_list}
use Rattle.m2_base.specs.Statics.Items.{Item, const_item, heading_item, import_item, items_of, proc_item, type_item, vars_item}
use Rattle.m2_base.specs.Statics.Makes.{with_rows}
use Rattle.m2_base.specs.Statics.ProcedureRows.{heading_note, parameter_cells, proc_number, result_cells, section_cells}
use Rattle.m2_base.specs.Statics.Shapes.{item_shapes, named, nameless, open_shapes, section_shapes}
use Rattle.m2_base.specs.Rows.{param_kind, proc_kind, proc_type_kind}
use Rattle.m2_base.specs.Trees.{Heading, Section, Stream}
use Rattle.m2_base.specs.Units.{AllDiffer, IsNamed}
use Rattle.m2_base.specs.declared.outputs.HeadingNote.{HeadingNote}
use Rattle.m2_base.specs.declared.rows.Row.{Row}
use Rattle.m2_base.specs.declared.trees.Ident.{Ident}
use Rattle.m2_base.specs.declared.trees.Qual.{Qual}
use Rattle.m2_base.specs.declared.trees.declarations.StreamKind.{StreamKind}
use Rattle.m2_base.specs.declared.trees.declarations.StreamKind.TheVariants.{Definition, Main, Procedure}
use Rattle.m2_base.proofs.EachLaws.{each_append}
use Rattle.m2_base.proofs.NoRepeats.{some_is}
use Rattle.block_laws.specs.Worlds.{callee_of, import_over, name_bytes, over_blocks}
use Rattle.definition_keys.specs.Keys.{Keys}
use Rattle.object_file.specs.Contents.{KeyedImport}
use Rattle.object_file.specs.FieldsOf.{AllBehind, HasHeading}
use Rattle.object_file.specs.ObjectFormat.{is_identifier, is_new_name}
use Rattle.unit_merge.specs.Objects.{HasItsNumber, spelled}
use Rattle.merge_laws.specs.UnitObject.{keyed}
use Rattle.merge_laws.proofs.Identifiers.{identifier_is}

-- ** The names of imports

-- the import has the name of the key's module
abbrev IsNameOf : (names : List (List ℕ)) → KeyedImport → ℕ × List ℕ → Type 0
IsNameOf names i k = i.definition.name ≡ spelled names k.0

pub keyed_named : (names : List (List ℕ)) (source : Source) (before : List (List Row)) (blocks : List BlockTree) (ks : Keys) (trees rest : List Stream)
    → map (λ (b : BlockTree). b.tree) blocks ≡ trees ++ rest → AllZip (λ (k : ℕ × List ℕ) (tree : Stream). spelled names k.0 ≡ name_bytes source tree.name) ks trees
    → AllZip (IsNameOf names) (keyed ks (take (length trees) (over_blocks (import_over source) source before blocks))) ks
keyed_named names source before blocks [] [] rest t z = tt
keyed_named names source before blocks [] (tree ∷ trees) rest t z = absurd z
keyed_named names source before blocks (k ∷ ks) [] rest t z = absurd z
keyed_named names source before [] (k ∷ ks) (tree ∷ trees) rest t z = absurd cc
keyed_named names source before (b ∷ blocks) (k ∷ ks) (tree ∷ trees) rest t z =
    let its : b.tree ≡ tree = cc in
    let others : map (λ (x : BlockTree). x.tree) blocks ≡ trees ++ rest = let f = t in cc in
    (ap (λ (x : Stream). name_bytes source x.name) its ∙ sym z.0, keyed_named names source (before ++ (declare_block source before b).rows ∷ []) blocks ks trees rest others z.1)

module _ (names : List (List ℕ)) where
  -- the names of two modules are equal only where their numbers are
  one_number : (m n : ℕ) → HasItsNumber names m → HasItsNumber names n → spelled names m ≡ spelled names n → m ≡ n
  one_number m n h k e = some_is m n (sym h ∙ ap (number_in names) e ∙ k)

  not_among : (name : ℕ) (before : List KeyedImport) (bks : Keys) → HasItsNumber names name → AllZip (IsNameOf names) before bks → Each (λ k. HasItsNumber names k.0) bks → (IsIn name (map (λ k. k.0) bks) → ⊥)
      → list_any (λ (i : KeyedImport). bytes_eq (spelled names name) i.definition.name) before ≡ false
  not_among name [] bks h z n apart = refl
  not_among name (i ∷ before) [] h z n apart = absurd z
  not_among name (i ∷ before) (k ∷ bks) h z n apart = by (bytes_eq (spelled names name) i.definition.name) refl (not_among name before bks h z.1 n.1 (λ j. apart (inr j)))
    where
      by : (t : Bool) → bytes_eq (spelled names name) i.definition.name ≡ t → list_any (λ (x : KeyedImport). bytes_eq (spelled names name) x.definition.name) before ≡ false
          → (t || list_any (λ (x : KeyedImport). bytes_eq (spelled names name) x.definition.name) before) ≡ false
      by false e rest = rest
      by true e rest = absurd (apart (inl (one_number name k.0 h n.0 ((bytes_eq-Decides (spelled names name) i.definition.name).0 e ∙ z.0))))

  abbrev IsNew : List KeyedImport → KeyedImport → Type 0
  IsNew before i = is_new_name before i.definition.name ≡ true

  in_more : (bks : Keys) (k : ℕ × List ℕ) (name : ℕ) → IsIn name (map (λ x. x.0) (bks ++ k ∷ [])) → (IsIn name (map (λ x. x.0) bks) → ⊥) → (name ≡ k.0 → ⊥) → ⊥
  in_more [] k name (inl e) f g = g e
  in_more [] k name (inr i) f g = i
  in_more (x ∷ bks) k name (inl e) f g = f (inl e)
  in_more (x ∷ bks) k name (inr i) f g = in_more bks k name i (λ j. f (inr j)) g

  zip_more : (before : List KeyedImport) (bks : Keys) (i : KeyedImport) (k : ℕ × List ℕ) → AllZip (IsNameOf names) before bks → IsNameOf names i k → AllZip (IsNameOf names) (before ++ i ∷ []) (bks ++ k ∷ [])
  zip_more [] [] i k z e = (e, tt)
  zip_more [] (x ∷ bks) i k z e = absurd z
  zip_more (x ∷ before) [] i k z e = absurd z
  zip_more (x ∷ before) (y ∷ bks) i k z e = (z.0, zip_more before bks i k z.1 e)

  each_more : (bks : Keys) (k : ℕ × List ℕ) → Each (λ x. HasItsNumber names x.0) bks → HasItsNumber names k.0 → Each (λ x. HasItsNumber names x.0) (bks ++ k ∷ [])
  each_more [] k h e = (e, tt)
  each_more (x ∷ bks) k h e = (h.0, each_more bks k h.1 e)

  -- each name is an identifier that none before has
  pub names_are_new : (before : List KeyedImport) (bks : Keys) (xs : List KeyedImport) (ks : Keys) → AllZip (IsNameOf names) before bks → AllZip (IsNameOf names) xs ks
      → Each (λ k. HasItsNumber names k.0) bks → Each (λ k. HasItsNumber names k.0) ks → Each (λ k. IsNamed names k.0) ks
      → Each (λ k. IsIn k.0 (map (λ x. x.0) bks) → ⊥) ks → AllDiffer (map (λ k. k.0) ks) → AllBehind IsNew before xs
  unfolding is_new_name
  names_are_new before bks [] ks zb z nb n d apart differ = tt
  names_are_new before bks (i ∷ xs) [] zb z nb n d apart differ = absurd z
  names_are_new before bks (i ∷ xs) (k ∷ ks) zb z nb n d apart differ =
      let identifier : is_identifier i.definition.name ≡ true = ap is_identifier z.0 ∙ identifier_is (spelled names k.0) d.0.spelled in
      let none : list_any (λ (x : KeyedImport). bytes_eq i.definition.name x.definition.name) before ≡ false =
      subst (λ (name : List ℕ). list_any (λ (x : KeyedImport). bytes_eq name x.definition.name) before ≡ false) (sym z.0) (not_among k.0 before bks n.0 zb nb apart.0) in (
        and_from (is_identifier i.definition.name) (not (list_any (λ (x : KeyedImport). bytes_eq i.definition.name x.definition.name) before)) identifier (ap not none),
        names_are_new (before ++ i ∷ []) (bks ++ k ∷ []) xs ks (zip_more before bks i k zb z.0) z.1 (each_more bks k nb n.0) n.1 d.1 (further ks apart.1 differ.0) differ.1,
      )
    where
      further : (qs : Keys) → Each (λ q. IsIn q.0 (map (λ x. x.0) bks) → ⊥) qs → (IsIn k.0 (map (λ q. q.0) qs) → ⊥) → Each (λ q. IsIn q.0 (map (λ x. x.0) (bks ++ k ∷ [])) → ⊥) qs
      further [] h g = tt
      further (q ∷ qs) h g = (λ j. in_more bks k q.0 j h.0 (λ e. g (inl (sym e))), further qs h.1 (λ j. g (inr j)))

-- ** The numbers of a definition's headings

-- the sections of an item's heading take at most two cells for each of its rows
section_bound : (s : Section) → section_cells s ≤ 2 * length (section_shapes s)
section_bound s = by s.is_open
  where
    by : (open_ : Bool) → (if open_ then 2 * length s.names else length s.names) ≤ 2 * length (open_shapes open_ s.of ++ map (λ (i : Ident). nameless param_kind i.at) s.names)
    by true = let l = length-map s.names (λ (i : Ident). nameless param_kind i.at) in omega (arith, l)
    by false = let l = length-map s.names (λ (i : Ident). nameless param_kind i.at) in omega (arith, l)

sections_bound : (sections : List Section) → parameter_cells sections ≤ 2 * length (flat_map section_shapes sections)
sections_bound [] = omega arith
sections_bound (s ∷ sections) =
    let first = section_bound s in
    let rest = sections_bound sections in
    let all = length-append (section_shapes s) (flat_map section_shapes sections) in
    omega (arith, first, rest, all)

pub result_bound : (r : Option Qual) → result_cells r ≤ 1
result_bound None = omega arith
result_bound (Some q) = omega arith

-- a heading whose numbers fit
abbrev Fits : ℕ → HeadingNote → Type 0
Fits n h = (h.params ≤ 2 * n) × (h.result ≤ 1)

fits_more : (m n : ℕ) (notes : List HeadingNote) → m ≤ n → Each (Fits m) notes → Each (Fits n) notes
fits_more m n [] h k = tt
fits_more m n (x ∷ notes) h k = ((let p = k.0.0 in omega (arith, p, h), k.0.1), fits_more m n notes h k.1)

-- the notes of items, by the rows that they make
record Bounded (n : ℕ) (notes : List HeadingNote) : Type 0 where
  few : length notes ≤ n
  fit : Each (Fits n) notes

note_bounded : (kind : StreamKind) (h : Heading) (number n : ℕ) → parameter_cells h.sections ≤ 2 * n → 1 ≤ n → Bounded n (heading_list (heading_note kind h number))
note_bounded Procedure h number n p q = record { few = omega arith; fit = tt }
note_bounded Main h number n p q = record { few = omega (arith, q); fit = ((p, result_bound h.result), tt) }
note_bounded Definition h number n p q = record { few = omega (arith, q); fit = ((p, result_bound h.result), tt) }

item_bounded : (x : Item) (c : Context) (kind : StreamKind) (cell : ℕ) → Bounded (length (item_shapes x)) (heading_list (declare c kind x cell).value.heading)
item_bounded (heading_item h) c kind cell = record { few = omega arith; fit = tt }
item_bounded (import_item from i) c kind cell = record { few = omega arith; fit = tt }
item_bounded (const_item i e) c kind cell = record { few = omega arith; fit = tt }
item_bounded (type_item i t) c kind cell = record { few = omega arith; fit = tt }
item_bounded (vars_item idents t) c kind cell = record { few = omega arith; fit = tt }
item_bounded (proc_item h stream) c kind cell =
    let bound = sections_bound h.sections in
    let all = length-append (flat_map section_shapes h.sections) (nameless proc_type_kind h.name.at ∷ named proc_kind h.name ∷ []) in
    note_bounded kind h (proc_number c kind stream) (length (item_shapes (proc_item h stream))) (omega (arith, bound, all)) (omega (arith, all))

items_bounded : (items : List Item) (c : Context) (kind : StreamKind) (i cell : ℕ) → Bounded (length (flat_map item_shapes items)) (declare_items c kind i cell items).value.headings
items_bounded [] c kind i cell = record { few = omega arith; fit = tt }
items_bounded (x ∷ items) c kind i cell =
    let a = at_item c i in
    let m = declare a kind x cell in
    let first = item_bounded x a kind cell in
    let d = brought_in (with_rows c m.rows) m.value.brought in
    let rest = items_bounded items d kind (i + 1) m.value.cell in
    let more = (declare_items d kind (i + 1) m.value.cell items).value.headings in
    let rows = length-append (item_shapes x) (flat_map item_shapes items) in
    let notes = length-append (heading_list m.value.heading) more in
    let p = first.few in
    let q = rest.few in
    record {
      few = omega (arith, p, q, rows, notes);
      fit = each_append (Fits (length (item_shapes x ++ flat_map item_shapes items))) (heading_list m.value.heading) more
          (fits_more (length (item_shapes x)) _ (heading_list m.value.heading) (omega (arith, rows)) first.fit)
          (fits_more (length (flat_map item_shapes items)) _ more (omega (arith, rows)) rest.fit);
    }

-- the headings of a block, by the rows that its items make
pub record HasHeadings (n : ℕ) (notes : List HeadingNote) : Type 0 where
  pub few : length notes ≤ n
  pub callees : n < 2 ^ 31 → AllBehind HasHeading [] (map callee_of notes)

pub block_headings : (source : Source) (tables : List (List Row)) (b : BlockTree) → HasHeadings (length (flat_map item_shapes (items_of b.tree))) (declare_block source tables b).value.headings
unfolding declare_block
block_headings source tables b =
    let all = items_bounded (items_of b.tree) (context_of source tables b) b.tree.kind 0 (first_cell (scene_of tables b.block) b.tree.kind b.block.own) in
    record { few = all.few; callees = λ low. callees _ _ [] low all.fit }
  where
    callees : (n : ℕ) (notes : List HeadingNote) (before : List Callee) → n < 2 ^ 31 → Each (Fits n) notes → AllBehind HasHeading before (map callee_of notes)
    callees n [] before low h = tt
    callees n (x ∷ notes) before low h =
        (record { params = let p = h.0.0 in omega (arith, p, low); result = let r = h.0.1 in omega (arith, r) }, callees n notes (before ++ callee_of x ∷ []) low h.1)
