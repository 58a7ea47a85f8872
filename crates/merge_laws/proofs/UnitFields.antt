-- The object of a unit without diagnostics is valid.
use Rattle.std.specs.Prelude.{◌≡◌, refl, ℕ, zero, suc, ◌+◌, ◌-◌, ◌^◌, ◌<◌, ◌≤◌, ◌⊎◌, ◌==◌, ◌&&◌, ◌||◌, not, nat_le, nat_lt, Bool, true, false, if◌then◌else◌, List, [], ◌∷◌, ◌++◌, drop, length, map, slice_get, slice_index, slice_index_or, take, Option, Some, None}
use Rattle.std.specs.List.{AllZip, list_all}
use Rattle.std.proofs.Common.{ap, subst, sym, ◌∙◌, inl, inr, arith}
use Rattle.std.proofs.lemmas.Bool.{cases_order, eq-eqb, eqb-true, le-leb, lt-ltb, and_from, or_right}
use Rattle.std.proofs.lemmas.List.{length-append, length-drop, length-map, length-take}
use Rattle.std.proofs.lemmas.Option.{get_or_from_slice_get, slice_get_cases, slice_get_within}
use Rattle.std.proofs.lemmas.Slice.Zip.{AllZip-long}
use Rattle.code_form.specs.Modules.{Import, Procedure, World}
use Rattle.code_form.specs.Valid.{IsValidCode}
use Rattle.m2_base.specs.Finished.{AreRead, main_number, main_tokens, no_text, tokens_of}
use Rattle.m2_base.specs.Standard.{standard_rows}
use Rattle.stream_split.specs.Agreement.{SpellsStreams}
use Rattle.stream_split.specs.Streams.{main_streams}
use Rattle.stream_split.proofs.Agree.{trees_agree}
use Rattle.m2_base.specs.Lists.{Each, IsIn, WhereKept}
use Rattle.m2_base.specs.Statics.BlockRows.{declare_block}
use Rattle.m2_base.specs.Statics.Blocks.{BlockTree, UnitTrees, blocks_of, home_of}
use Rattle.m2_base.specs.Statics.Cells.{most_cells}
use Rattle.m2_base.specs.Statics.Contexts.{Source}
use Rattle.m2_base.specs.Statics.FormedRows.{IsImportedBefore, IsSoundBlock}
use Rattle.m2_base.specs.Statics.Items.{items_of}
use Rattle.m2_base.specs.Statics.ReadStatements.{AreReadStatements}
use Rattle.m2_base.specs.Statics.ReadTrees.{IsReadItem}
use Rattle.m2_base.specs.Statics.UnitNotes.{complete_context}
use Rattle.m2_base.specs.Statics.UnitRows.{unit_rows}
use Rattle.m2_base.specs.Trees.{Heading, Stream}
use Rattle.m2_base.specs.Units.{AllDiffer, Front, IsNamed, IsUnit, TextOf, UnitTexts}
use Rattle.m2_base.specs.WholeTexts.{SpellsDefinition}
use Rattle.m2_base.specs.declared.outputs.HeadingNote.{HeadingNote}
use Rattle.m2_base.specs.declared.rows.Row.{Row}
use Rattle.row_laws.specs.RowRanges.{EachBlock}
use Rattle.row_laws.proofs.Joined.{in_append}
use Rattle.row_laws.proofs.Members.{each_got, each_in, each_take}
use Rattle.row_laws.proofs.TextBlocks as texts_blocks
use Rattle.stream_split.proofs.BlocksAgree.{blocks_agree}
use Rattle.stream_split.proofs.ReadUnits.{trees_read}
use Rattle.block_code.specs.BlockCode.{ProcedureCode, block_code, body_of, first_cell, outer_of, params_of, results_of, run_of}
use Rattle.block_code.specs.StatementTokens.{block_tokens}
use Rattle.block_code.proofs.StatementLengthLaw.{block-in_range}
use Rattle.block_laws.specs.Named.{procedure_of}
use Rattle.block_laws.specs.Worlds.{callee_of, import_over, name_bytes, of_blocks, unit_world, without_own}
use Rattle.block_laws.proofs.BlocksAt.{at_drop, before_of, in_at, scope_at, unit_each, unit_over, unit_place}
use Rattle.block_laws.proofs.Chains.{Stands, blocks_stand}
use Rattle.block_laws.proofs.InRange.{block-leads}
use Rattle.block_laws.proofs.Links.{begins, unequal}
use Rattle.block_laws.proofs.Named.{HasRoom}
use Rattle.block_laws.proofs.UnitWorlds.{IsClear, earlier, form, has_procedure, has_room, made, ranges, reads}
use Rattle.block_laws.proofs.WorldCells.{in_main}
use Rattle.unit_laws.proofs.ImportedBlocks.{imports_before}
use Rattle.unit_laws.proofs.ShortBlocks.{blocks_short}
use Rattle.unit_laws.proofs.SoundUnits.{unit_sound}
use Rattle.unit_laws.proofs.SpelledTrees.{items_read, statements_read}
use Rattle.block_laws.proofs.CodeIsValid.{code-valid}
use Rattle.definition_keys.specs.Keys.{Keys}
use Rattle.object_file.specs.Contents.{Contents, Export, KeyedImport, no_key, world_of}
use Rattle.object_file.specs.FieldsOf.{AllBehind, HasExport, HasFields, HasHeading, HasImport, HasProcedure, IsNumber}
use Rattle.object_file.specs.ObjectFormat.{as_exported, is_count, is_identifier, is_new_name, key_length}
use Rattle.object_file.specs.Validity.{HaveValidCode, IsValid}
use Rattle.object_file.proofs.Building.{valid_by_parts}
use Rattle.unit_merge.specs.Objects.{HasItsNumber, HaveTheirNumbers, export_in, exports_in, name_in, of_own, spelled}
use Rattle.merge_laws.specs.Outputs.{HasNoDiags, cells_in, codes_in, headings_in}
use Rattle.merge_laws.specs.Texts.{HaveLowHeights, IsWhole}
use Rattle.merge_laws.specs.UnitObject.{definitions_in, keyed, module_name, unit_contents}
use Rattle.merge_laws.proofs.Exports.{IsExported, exported}
use Rattle.merge_laws.proofs.Growing.{parameters_fit}
use Rattle.merge_laws.proofs.Identifiers.{identifier_is}
use Rattle.merge_laws.proofs.Imports.{block_headings, keyed_named, names_are_new, result_bound}
use Rattle.merge_laws.proofs.Lists.{all_true, behind_both, behind_from, each_without, map_without, over_long, unit_from, zip_without}
use Rattle.merge_laws.proofs.OwnCells.{own_cells_fit}
use Rattle.merge_laws.proofs.UnitNames.{keys, keys_are_long, keys_are_named, keys_differ, keys_name_trees, keys_of_order, main_is_named, main_name}
use Rattle.m2_base.proofs.NoRepeats.{some_is}

-- ** Keys

-- imports with their keys, of which this holds
keyed_each : (P : Import → Type 0) (ks : Keys) (xs : List Import) → Each (λ (k : ℕ × List ℕ). length k.1 ≡ 32) ks → Each P xs → Each (λ (i : KeyedImport). (length i.key ≡ 32) × P i.definition) (keyed ks xs)
keyed_each P [] xs h k = tt
keyed_each P (x ∷ ks) [] h k = tt
keyed_each P (x ∷ ks) (i ∷ xs) h k = ((h.0, k.0), keyed_each P ks xs h.1 k.1)

keyed_definitions : (ks : Keys) (xs : List Import) → length ks ≡ length xs → map (λ (i : KeyedImport). i.definition) (keyed ks xs) ≡ xs
keyed_definitions [] [] e = refl
keyed_definitions [] (i ∷ xs) e = absurd (omega (arith, e))
keyed_definitions (k ∷ ks) [] e = absurd (omega (arith, e))
keyed_definitions (k ∷ ks) (i ∷ xs) e = ap (λ is. i ∷ is) (keyed_definitions ks xs (omega (arith, e)))

keyed_short : (ks : Keys) (xs : List Import) → length (keyed ks xs) ≤ length ks
keyed_short [] xs = omega arith
keyed_short (k ∷ ks) [] = omega arith
keyed_short (k ∷ ks) (i ∷ xs) = let rest = keyed_short ks xs in omega (arith, rest)

own_key : (own : Option ℕ) (ks : Keys) → (WhereKept own (λ s. s - 1 < length ks)) → Each (λ (k : ℕ × List ℕ). length k.1 ≡ 32) ks → length (of_own no_key own (map (λ (k : ℕ × List ℕ). k.1) ks)) ≡ 32
unfolding no_key
own_key None ks low h = refl
own_key (Some s) ks low h = by ks (s - 1) low h
  where
    by : (xs : Keys) (i : ℕ) → i < length xs → Each (λ (k : ℕ × List ℕ). length k.1 ≡ 32) xs → length (slice_index_or (map (λ (k : ℕ × List ℕ). k.1) xs) i no_key) ≡ 32
    by [] i l k = absurd (omega (arith, l))
    by (x ∷ xs) zero l k = k.0
    by (x ∷ xs) (suc i) l k = by xs i (omega (arith, l)) k.1

without_short : {A : Type 0} (own : Option ℕ) (xs : List A) → length (without_own own xs) ≤ length xs
without_short None xs = omega arith
without_short (Some s) xs =
    let all = length-append (take (s - 1) xs) (drop s xs) in
    let front = length-take (s - 1) xs in
    let back = length-drop s xs in
    omega (arith, all, front, back)

in_taken : (x : ℕ) (n : ℕ) (xs : List ℕ) → IsIn x (take n xs) → IsIn x xs
in_taken x zero xs i = absurd i
in_taken x (suc n) [] i = absurd i
in_taken x (suc n) (y ∷ xs) (inl e) = inl e
in_taken x (suc n) (y ∷ xs) (inr i) = inr (in_taken x n xs i)

in_dropped : (x : ℕ) (n : ℕ) (xs : List ℕ) → IsIn x (drop n xs) → IsIn x xs
in_dropped x zero xs i = i
in_dropped x (suc n) [] i = absurd i
in_dropped x (suc n) (y ∷ xs) i = inr (in_dropped x n xs i)

differ_dropped : (n : ℕ) (xs : List ℕ) → AllDiffer xs → AllDiffer (drop n xs)
differ_dropped zero xs h = h
differ_dropped (suc n) [] h = tt
differ_dropped (suc n) (x ∷ xs) h = differ_dropped n xs h.1

-- where some in the middle are left out, the others differ
differ_between : (m n : ℕ) (xs : List ℕ) → m ≤ n → AllDiffer xs → AllDiffer (take m xs ++ drop n xs)
differ_between zero n xs l h = differ_dropped n xs h
differ_between (suc m) zero xs l h = absurd (omega (arith, l))
differ_between (suc m) (suc n) [] l h = tt
differ_between (suc m) (suc n) (x ∷ xs) l h = (λ i. h.0 (by (in_append x (take m xs) (drop n xs) i)), differ_between m n xs (omega (arith, l)) h.1)
  where
    by : IsIn x (take m xs) ⊎ IsIn x (drop n xs) → IsIn x xs
    by (inl i) = in_taken x m xs i
    by (inr i) = in_dropped x n xs i

differ_without : (own : Option ℕ) (xs : List ℕ) → AllDiffer xs → AllDiffer (without_own own xs)
differ_without None xs h = h
differ_without (Some s) xs h = differ_between (s - 1) s xs (omega arith) h

-- what each item has, whatever stands before it
behind_each : {A : Type 0} (Asked : List A → A → Type 0) (P : A → Type 0) → ((before : List A) (x : A) → P x → Asked before x) → (before xs : List A) → Each P xs → AllBehind Asked before xs
behind_each Asked P f before [] h = tt
behind_each Asked P f before (x ∷ xs) h = (f before x h.0, behind_each Asked P f (before ++ x ∷ []) xs h.1)

zip_each : {A B : Type 0} (R : A → B → Type 0) (P : A → Type 0) (Q : B → Type 0) → ((x : A) (y : B) → R x y → Q y → P x) → (xs : List A) (ys : List B) → AllZip R xs ys → Each Q ys → Each P xs
zip_each R P Q f [] ys z h = tt
zip_each R P Q f (x ∷ xs) [] z h = absurd z
zip_each R P Q f (x ∷ xs) (y ∷ ys) z h = (f x y z.0 h.0, zip_each R P Q f xs ys z.1 h.1)

each_both : {A : Type 0} (P Q : A → Type 0) (xs : List A) → Each P xs → Each Q xs → Each (λ x. P x × Q x) xs
each_both P Q [] h k = tt
each_both P Q (x ∷ xs) h k = ((h.0, k.0), each_both P Q xs h.1 k.1)

-- ** Code

code_from : (w : World) (k : ℕ) (ps : List Procedure) → ((j : ℕ) (p : Procedure) → slice_get ps j ≡ Some p → IsValidCode w (k + j) p) → HaveValidCode w k ps
code_from w k [] f = tt
code_from w k (p ∷ ps) f =
    let here : k + 0 ≡ k = omega arith in
    (subst (λ n. IsValidCode w n p) here (f 0 p refl), code_from w (suc k) ps (λ j q e. let next : k + suc j ≡ suc k + j = omega arith in subst (λ n. IsValidCode w n q) next (f (suc j) q e)))

-- ** The unit

module _ (texts : UnitTexts) (unit : IsUnit texts) (front : TextOf → Front) (whole : IsWhole front texts) (u : UnitTrees) (read : AreRead texts u) (none : HasNoDiags u) where
  abbrev names : List (List ℕ)
  names = texts.names

  imports : Each (λ b. Each (IsImportedBefore u.source b.block.scope) (items_of b.tree)) (blocks_of u)
  imports = imports_before texts unit front whole.fronts whole.whole u read

  is : IsClear names u
  is = record { sound = unit_sound texts u unit read imports; blocks = texts_blocks.blocks_read texts u read; none = none }

  items : Each (λ b. Each (IsReadItem names) (items_of b.tree)) (blocks_of u)
  items = items_read texts u unit read

  statements : Each (λ b. AreReadStatements names b.tree.body) (blocks_of u)
  statements = statements_read texts u unit read

  code : EachBlock (λ before b. home_of u ≤ b.block.scope → IsValidCode (unit_world u) (b.block.scope - home_of u) (procedure_of (block_code u.source before (unit_rows u) b))) u.source (standard_rows ∷ []) (blocks_of u)
  code = code-valid names texts u is.sound read statements items (blocks_short texts u unit read) none

  -- ** The module's block

  record ModuleBlock : Type 0 where
    b : BlockTree
    there : IsIn b (blocks_of u)
    home : b.block.scope ≡ home_of u

  blocks_many : length u.definitions < length (blocks_of u)
  blocks_many =
      let trees = ap length (blocks_agree texts u (trees_read texts u read)).same_trees in
      let blocks = length-map (blocks_of u) (λ (b : BlockTree). b.tree) in
      let all = length-append u.definitions u.main in
      let some = main_some u.main (trees_agree (main_number texts) (main_tokens texts) u.main read.main) in
      omega (arith, trees, blocks, all, some)
    where
      main_some : (trees : List Stream) → SpellsStreams trees (main_streams (main_number texts) (main_tokens texts)) → 0 < length trees
      main_some [] h = absurd h
      main_some (tree ∷ trees) h = omega arith

  module_block : ModuleBlock
  module_block = by ((slice_get_cases (blocks_of u) (length u.definitions)).1)
    where
      by : ((x : BlockTree) × (length u.definitions < length (blocks_of u)) × (slice_get (blocks_of u) (length u.definitions) ≡ Some x) × (slice_index_or (blocks_of u) (length u.definitions) x ≡ x))
          ⊎ ((length (blocks_of u) ≤ length u.definitions) × (slice_get (blocks_of u) (length u.definitions) ≡ None)) → ModuleBlock
      by (inl h) =
          let s = scope_at 1 (blocks_of u) is.sound.scopes (length u.definitions) h.0 h.2 in
          record { b = h.0; there = in_at (blocks_of u) (length u.definitions) h.0 h.2; home = omega (arith, s) }
      by (inr h) = let past = h.0 in absurd (omega (arith, past, blocks_many))

  abbrev b0 : BlockTree
  b0 = module_block.b

  behind0 : home_of u ≤ b0.block.scope
  behind0 = let h = module_block.home in omega (arith, h)

  -- what is made of a block, at its place
  at_scope : {A : Type 0} (f : List (List Row) → BlockTree → A) (none : A) (c : BlockTree) → IsIn c (blocks_of u) → slice_index_or (of_blocks f u) (c.block.scope - 1) none ≡ f (before_of u c) c
  at_scope f none c k = get_or_from_slice_get (of_blocks f u) (c.block.scope - 1) (f (before_of u c) c) none (unit_over u is.sound.scopes f c k)

  at_module : {A : Type 0} (f : List (List Row) → BlockTree → A) (none : A) → slice_index_or (of_blocks f u) (length u.definitions) none ≡ f (before_of u b0) b0
  at_module f none =
      let place : length u.definitions ≡ b0.block.scope - 1 = (let h = module_block.home in omega (arith, h)) in
      ap (λ (n : ℕ). slice_index_or (of_blocks f u) n none) place ∙ at_scope f none b0 module_block.there

  abbrev mine : List HeadingNote
  mine = slice_index_or (headings_in u) (length u.definitions) []

  mine_is : mine ≡ (made names u is b0).value.headings
  mine_is = at_module (λ before b. (declare_block u.source before b).value.headings) []

  -- ** The own definition

  record OwnBlock (s : ℕ) : Type 0 where
    d : BlockTree
    there : IsIn d (blocks_of u)
    scope : d.block.scope ≡ s

  own_low : (s : ℕ) → u.own ≡ Some s → (0 < s) × (s < home_of u)
  own_low s e =
      (subst (λ (o : Option ℕ). WhereKept o (λ q. 0 < q)) e is.blocks.own, subst (λ (o : Option ℕ). WhereKept o (λ q. q < home_of u)) e is.sound.own)

  own_block : (s : ℕ) → u.own ≡ Some s → OwnBlock s
  own_block s e =
      let low = own_low s e in
      let positive = low.0 in
      let below = low.1 in
      let found = earlier names u is b0 module_block.there s positive (omega (arith, below, behind0)) in
      record { d = found.0; there = found.1; scope = found.2 }

  abbrev its : List HeadingNote
  its = of_own [] u.own (headings_in u)

  all_exported : (h : HeadingNote) → IsIn h its → IsExported u mine h
  all_exported h i = by u.own refl i
    where
      by : (o : Option ℕ) → u.own ≡ o → IsIn h (of_own [] o (headings_in u)) → IsExported u mine h
      by None e k = absurd k
      by (Some s) e k =
          let own = own_block s e in
          let headings : slice_index_or (headings_in u) (s - 1) [] ≡ (made names u is own.d).value.headings =
          ap (λ (n : ℕ). slice_index_or (headings_in u) (n - 1) []) (sym own.scope) ∙ at_scope (λ before b. (declare_block u.source before b).value.headings) [] own.d own.there in
          subst (λ (hs : List HeadingNote). IsExported u hs h) (sym mine_is)
          (exported names u is statements items b0 module_block.there module_block.home own.d own.there (e ∙ ap (λ (n : ℕ). Some n) (sym own.scope)) h (subst (IsIn h) headings k))

  own_cells : of_own 0 u.own (cells_in u) ≤ (unit_world u).cells
  own_cells = by u.own refl
    where
      cells0 : (unit_world u).cells ≡ (made names u is b0).value.cell
      cells0 = at_module (λ before b. (declare_block u.source before b).value.cell) 0

      by : (o : Option ℕ) → u.own ≡ o → of_own 0 o (cells_in u) ≤ (unit_world u).cells
      by None e = omega arith
      by (Some s) e =
          let own = own_block s e in
          let low = (own_low s e).1 in
          let scope = own.scope in
          let cells : slice_index_or (cells_in u) (s - 1) 0 ≡ (made names u is own.d).value.cell =
          ap (λ (n : ℕ). slice_index_or (cells_in u) (n - 1) 0) (sym own.scope) ∙ at_scope (λ before b. (declare_block u.source before b).value.cell) 0 own.d own.there in
          let fits = own_cells_fit names u is own.d own.there (omega (arith, low, scope)) b0 module_block.there module_block.home
          ((in_main u b0 module_block.there behind0).own ∙ e ∙ ap (λ (n : ℕ). Some n) (sym own.scope)) in
          omega (arith, fits, cells, cells0)

  -- ** Procedures

  -- what is known of a procedure by its number
  record Framed (k : ℕ) (p : Procedure) : Type 0 where
    outer : (p.outer < k) ⊎ ((k ≡ 0) × (p.outer ≡ 0))
    params : (0 < k) ⊎ (p.params ≡ 0)
    result : (p.result ≤ 1) × ((0 < k) ⊎ (p.result ≡ 0))
    inside : p.params ≤ p.locals
    locals : p.locals ≤ most_cells
    bytes : length p.bytes < 2 ^ 32
    code_short : length p.code < 2 ^ 32

  abbrev code_of : BlockTree → Procedure
  code_of b = procedure_of (block_code u.source (before_of u b) (unit_rows u) b)

  results_few : (h : Option Heading) → results_of h ≤ 1
  results_few None = omega arith
  results_few (Some h) = result_bound h.result

  module _ (b : BlockTree) (i : IsIn b (blocks_of u)) (behind : home_of u ≤ b.block.scope) where
    room : HasRoom (made names u is b).value (run_of b (made names u is b).value (body_of (complete_context u.source (unit_rows u) b.block) b).value)
    room = has_room names u is statements b i behind

    place : (b.block.scope ≡ home_of u) ⊎ (home_of u < b.block.scope)
    place = by (cases_order b.block.scope (home_of u))
      where
        by : (b.block.scope ≡ home_of u) ⊎ ((b.block.scope < home_of u) ⊎ (home_of u < b.block.scope)) → (b.block.scope ≡ home_of u) ⊎ (home_of u < b.block.scope)
        by (inl e) = inl e
        by (inr (inl l)) = absurd (omega (arith, l, behind))
        by (inr (inr l)) = inr l

    outer_is : (outer_of b.block < b.block.scope - home_of u) ⊎ ((b.block.scope - home_of u ≡ 0) × (outer_of b.block ≡ 0))
    outer_is = by (each_in _ (blocks_of u) b (blocks_stand u) i behind)
      where
        by : Stands u (blocks_of u) b.block → (outer_of b.block < b.block.scope - home_of u) ⊎ ((b.block.scope - home_of u ≡ 0) × (outer_of b.block ≡ 0))
        by (inl h) = inr ((let s = h.scope in omega (arith, s)), ap (λ (t : Bool). if t then 0 else slice_index b.block.chain 1 - b.block.home) (eq-eqb b.block.level 0 h.level))
        by (inr h) =
            let level = h.level in
            let first = begins u (blocks_of u) h.outer.block (each_in _ (blocks_of u) h.outer (blocks_stand u) h.there h.behind) in
            let number : outer_of b.block ≡ h.outer.block.scope - home_of u =
            ap (λ (t : Bool). if t then 0 else slice_index b.block.chain 1 - b.block.home) (unequal b.block.level 0 (λ e. omega (arith, e, level)))
            ∙ ap (λ (xs : List ℕ). slice_index xs 1 - b.block.home) (h.chain ∙ ap (λ (xs : List ℕ). b.block.scope ∷ xs) first.chain) ∙ ap (λ (n : ℕ). h.outer.block.scope - n) h.home in
            let low = h.lower in
            let far = h.behind in
            inl (omega (arith, number, low, far))

    headless : b.block.scope ≡ home_of u → b.tree.heading ≡ None
    headless e = (form names u is b i).module_heading e

    above : (o : (b.block.scope ≡ home_of u) ⊎ (home_of u < b.block.scope)) → (f : Option Heading → ℕ) → f None ≡ 0 → (0 < b.block.scope - home_of u) ⊎ (f b.tree.heading ≡ 0)
    above (inl e) f zero_is = inr (ap f (headless e) ∙ zero_is)
    above (inr l) f zero_is = inl (omega (arith, l))

    params_fit : params_of b.tree.heading ≤ (code_of b).locals
    params_fit = by b.tree.heading refl place
      where
        leads : first_cell b.tree.kind (made names u is b).value.cell ≤ (code_of b).locals
        leads = (block-leads names u.source (before_of u b) (unit_rows u) b (ranges names u is b i) (reads names u is statements b i)).cells

        by : (h : Option Heading) → b.tree.heading ≡ h → (b.block.scope ≡ home_of u) ⊎ (home_of u < b.block.scope) → params_of h ≤ (code_of b).locals
        by None e o = omega arith
        by (Some h) e (inl same) = absurd (let no = sym e ∙ headless same in cc)
        by (Some h) e (inr far) =
            let fits = parameters_fit u.source (before_of u b) b h e room.own in
            let first : first_cell b.tree.kind (made names u is b).value.cell ≡ (made names u is b).value.cell = ap (λ k. first_cell k (made names u is b).value.cell) ((form names u is b i).procedure far) in
            omega (arith, fits, leads, first)

    data_short : length (code_of b).bytes < 2 ^ 32
    data_short =
        let bytes = room.bytes in
        let counted = (block-leads names u.source (before_of u b) (unit_rows u) b (ranges names u is b i) (reads names u is statements b i)).counted bytes in
        omega (arith, bytes, counted)

    framed : Framed (b.block.scope - home_of u) (code_of b)
    framed = record {
      outer = outer_is;
      params = above place params_of refl;
      result = (results_few b.tree.heading, above place results_of refl);
      inside = params_fit;
      locals = room.cells;
      bytes = data_short;
      code_short = let short = block-in_range u.source (before_of u b) (unit_rows u) b (each_in (λ (c : BlockTree). block_tokens c.tree ≤ 1048576) (blocks_of u) b (blocks_short texts u unit read) i) in omega (arith, short);
    }

  abbrev procedures : List Procedure
  procedures = (unit_world u).procedures

  -- the block of a procedure
  record OfProcedure (k : ℕ) (p : Procedure) : Type 0 where
    b : BlockTree
    there : IsIn b (blocks_of u)
    behind : home_of u ≤ b.block.scope
    number : b.block.scope - home_of u ≡ k
    is_code : p ≡ code_of b

  procedure_at : (k : ℕ) (p : Procedure) → slice_get procedures k ≡ Some p → OfProcedure k p
  procedure_at k p e =
      let f : List (List Row) → BlockTree → Procedure = λ before b. procedure_of (block_code u.source before (unit_rows u) b) in
      let m = unit_from f u is.sound.scopes (length u.definitions + k) p (sym (at_drop (length u.definitions) (of_blocks f u) k) ∙ e) in
      let scope = m.scope in
      record { b = m.block; there = m.there; behind = omega (arith, scope); number = omega (arith, scope); is_code = m.is }

  framed_at : (k : ℕ) (p : Procedure) → slice_get procedures k ≡ Some p → Framed k p
  framed_at k p e =
      let o = procedure_at k p e in
      subst (λ (q : Procedure). Framed k q) (sym o.is_code) (subst (λ (n : ℕ). Framed n (code_of o.b)) o.number (framed o.b o.there o.behind))

  code_at : (k : ℕ) (p : Procedure) → slice_get procedures k ≡ Some p → IsValidCode (unit_world u) k p
  code_at k p e =
      let o = procedure_at k p e in
      subst (λ (q : Procedure). IsValidCode (unit_world u) k q) (sym o.is_code)
      (subst (λ (n : ℕ). IsValidCode (unit_world u) n (code_of o.b)) o.number
      (unit_each u is.sound.scopes (λ before c. home_of u ≤ c.block.scope → IsValidCode (unit_world u) (c.block.scope - home_of u) (procedure_of (block_code u.source before (unit_rows u) c))) code o.b o.there o.behind))

  procedures_few : length procedures < 2 ^ 32
  procedures_few =
      let f : List (List Row) → BlockTree → Procedure = λ before b. procedure_of (block_code u.source before (unit_rows u) b) in
      let dropped = length-drop (length u.definitions) (of_blocks f u) in
      let all = over_long f u.source (standard_rows ∷ []) (blocks_of u) in
      let count = is.sound.count in
      omega (arith, dropped, all, count)

  procedures_some : 1 ≤ length procedures
  procedures_some = let within = slice_get_within procedures (b0.block.scope - home_of u) (code_of b0) (has_procedure names u is b0 module_block.there behind0) in omega (arith, within)

  -- ** Exports

  abbrev exports : List Export
  exports = exports_in mine its

  exported_test : (k : ℕ) (p : Procedure) → slice_get procedures k ≡ Some p → (test : Export → Bool) → ((h : HeadingNote) (x : IsExported u mine h) → x.p ≡ p → test (export_in mine h) ≡ true) → as_exported exports k test ≡ true
  unfolding as_exported
  exported_test k p e test f = all_true (λ (x : Export). not (x.0 == k) || test x) (export_in mine) its (λ h i. by h (all_exported h i) ((export_in mine h).0 == k) refl)
    where
      by : (h : HeadingNote) → IsExported u mine h → (t : Bool) → ((export_in mine h).0 == k) ≡ t → (not t || test (export_in mine h)) ≡ true
      by h x false g = refl
      by h x true g = f h x (some_is x.p p (sym x.there ∙ ap (slice_get procedures) (eqb-true (export_in mine h).0 k g) ∙ e))

  has_export : (h : HeadingNote) → IsIn h its → HasExport [] (export_in mine h)
  has_export h i =
      let x = all_exported h i in
      let within = slice_get_within procedures (export_in mine h).0 x.p x.there in
      let few = procedures_few in
      let frame = framed_at (export_in mine h).0 x.p x.there in
      let params = x.params in
      let result = x.result in
      let inside = frame.inside in
      let locals = frame.locals in
      let one = frame.result.0 in
      record {
        some = le-leb 1 (export_in mine h).0 x.positive;
        number = omega (arith, within, few);
        params = omega (arith, params, inside, locals);
        result = omega (arith, result, one);
      }

  counted : is_count exports (length procedures) ≡ true
  unfolding is_count
  counted =
      and_from (nat_le 1 (length procedures)) (list_all (λ (e : Export). nat_lt e.0 (length procedures)) exports) (le-leb 1 (length procedures) procedures_some)
      (all_true (λ (e : Export). nat_lt e.0 (length procedures)) (export_in mine) its
      (λ h i. let x = all_exported h i in lt-ltb (export_in mine h).0 (length procedures) (slice_get_within procedures (export_in mine h).0 x.p x.there)))

  -- ** Each procedure

  outer_test : (k : ℕ) (p : Procedure) → (p.outer < k) ⊎ ((k ≡ 0) × (p.outer ≡ 0)) → (nat_lt p.outer k || (k == 0 && p.outer == 0)) ≡ true
  outer_test k p (inl l) = ap (λ (t : Bool). t || (k == 0 && p.outer == 0)) (lt-ltb p.outer k l)
  outer_test k p (inr h) = or_right (nat_lt p.outer k) _ (and_from (k == 0) (p.outer == 0) (eq-eqb k 0 h.0) (eq-eqb p.outer 0 h.1))

  zero_test : (k n : ℕ) → (0 < k) ⊎ (n ≡ 0) → (nat_lt 0 k || n == 0) ≡ true
  zero_test k n (inl l) = ap (λ (t : Bool). t || n == 0) (lt-ltb 0 k l)
  zero_test k n (inr e) = or_right (nat_lt 0 k) _ (eq-eqb n 0 e)

  module _ (heights : HaveLowHeights u) where
    high_at : (k : ℕ) (p : Procedure) → slice_get procedures k ≡ Some p → p.high < 2 ^ 32
    high_at k p e =
        let o = procedure_at k p e in
        let number = o.number in
        let behind = o.behind in
        let positive = (unit_place u is.sound.scopes o.b o.there).1 in
        let f : List (List Row) → BlockTree → ProcedureCode = λ before b. block_code u.source before (unit_rows u) b in
        let at : slice_get (codes_in u) k ≡ Some (f (before_of u o.b) o.b) =
        at_drop (length u.definitions) (of_blocks f u) k ∙ ap (slice_get (of_blocks f u)) (omega (arith, number, behind, positive)) ∙ unit_over u is.sound.scopes f o.b o.there in
        let high = by (codes_in u) k (f (before_of u o.b) o.b) heights at in
        let same = ap (λ (q : Procedure). q.high) o.is_code in
        omega (arith, high, same)
      where
        by : (cs : List ProcedureCode) (k : ℕ) (c : ProcedureCode) → Each (λ (x : ProcedureCode). x.high < 2 ^ 32) cs → slice_get cs k ≡ Some c → c.high < 2 ^ 32
        by [] k c h e = absurd cc
        by (x ∷ cs) zero c h e = let same : x ≡ c = cc in subst (λ (y : ProcedureCode). y.high < 2 ^ 32) same h.0
        by (x ∷ cs) (suc k) c h e = by cs k c h.1 e

    has_procedures : AllBehind (HasProcedure exports) [] procedures
    has_procedures = behind_from (HasProcedure exports) (λ k p. slice_get procedures k ≡ Some p) one [] procedures (λ j p e. let here : j ≡ 0 + j = omega arith in subst (λ n. slice_get procedures n ≡ Some p) here e)
      where
        one : (before : List Procedure) (p : Procedure) → slice_get procedures (length before) ≡ Some p → HasProcedure exports before p
        one before p e =
            let k = length before in
            let frame = framed_at k p e in
            let within = slice_get_within procedures k p e in
            let few = procedures_few in
            let inside = frame.inside in
            let locals = frame.locals in
            let result = frame.result.0 in
            record {
              outer = and_from _ _ (outer_test k p frame.outer) (exported_test k p e (λ x. p.outer == 0) (λ h x same. eq-eqb p.outer 0 (sym (ap (λ (q : Procedure). q.outer) same) ∙ x.outer)));
              outer_fits = outer_low k p frame.outer (omega (arith, within, few));
              params = and_from _ _ (zero_test k p.params frame.params) (exported_test k p e (λ x. p.params == x.1) (λ h x same. eq-eqb p.params h.params (sym (ap (λ (q : Procedure). q.params) same) ∙ x.params)));
              params_fit = omega (arith, inside, locals);
              result = and_from _ _ (and_from _ _ (le-leb p.result 1 result) (zero_test k p.result frame.result.1))
                  (exported_test k p e (λ x. p.result == x.2) (λ h x same. eq-eqb p.result h.result (sym (ap (λ (q : Procedure). q.result) same) ∙ x.result)));
              result_fits = omega (arith, result);
              locals = and_from _ _ (le-leb p.params p.locals inside) (le-leb p.locals most_cells locals);
              locals_fit = omega (arith, locals);
              high = high_at k p e;
              bytes_short = frame.bytes;
              code_short = frame.code_short;
            }
          where
            outer_low : (k : ℕ) (p : Procedure) → (p.outer < k) ⊎ ((k ≡ 0) × (p.outer ≡ 0)) → k < 2 ^ 32 → p.outer < 2 ^ 32
            outer_low k p (inl l) h = omega (arith, l, h)
            outer_low k p (inr z) h = let e = z.1 in omega (arith, e)

  -- ** Imports

  abbrev ks : Keys
  ks = keys texts unit front whole

  many : length ks ≡ length u.definitions
  many =
      let named = ap length (keys_of_order texts unit front whole) in
      let a = length-map ks (λ (k : ℕ × List ℕ). k.0) in
      let b = length-map texts.order (λ k. (slice_index_or texts.list k no_text).name) in
      let c = AllZip-long (λ k tree. SpellsDefinition (tree ∷ []) (tokens_of texts k)) texts.order u.definitions read.definitions in
      omega (arith, named, a, b, c)

  definitions_many : length (definitions_in u) ≡ length u.definitions
  definitions_many =
      let t = length-take (length u.definitions) (of_blocks (import_over u.source) u) in
      let all = over_long (import_over u.source) u.source (standard_rows ∷ []) (blocks_of u) in
      let low = blocks_many in
      omega (arith, t, all, low)

  -- what a definition module says fits
  abbrev IsFitting : Import → Type 0
  IsFitting i = IsNumber i.cells × IsNumber (length i.headings) × AllBehind HasHeading [] i.headings

  fitting : Each IsFitting (definitions_in u)
  fitting =
      each_take IsFitting (length u.definitions) (of_blocks (import_over u.source) u)
      (each_got IsFitting (of_blocks (import_over u.source) u) (λ j x e.
      let m = unit_from (import_over u.source) u is.sound.scopes j x e in
      subst IsFitting (sym m.is) (fits m.block m.there)))
    where
      fits : (b : BlockTree) → IsIn b (blocks_of u) → IsFitting (import_over u.source (before_of u b) b)
      fits b i =
          let cell = (ranges names u is b i).effects.cell in
          let headings = block_headings u.source (before_of u b) b in
          let few = headings.few in
          let rows = (each_in (IsSoundBlock (length names) u.source) (blocks_of u) b is.sound.blocks i).few in
          let long = length-map (made names u is b).value.headings callee_of in
          (omega (arith, cell), omega (arith, few, rows, long), headings.callees (omega (arith, rows)))

  abbrev IsNameOf : KeyedImport → ℕ × List ℕ → Type 0
  IsNameOf i k = i.definition.name ≡ spelled names k.0

  abbrev all_imports : List KeyedImport
  all_imports = keyed ks (definitions_in u)

  all_named : AllZip IsNameOf all_imports ks
  all_named =
      keyed_named names u.source _ (blocks_of u) ks u.definitions u.main (blocks_agree texts u (trees_read texts u read)).same_trees
      (subst (λ (s : Source). AllZip (λ (k : ℕ × List ℕ) (tree : Stream). spelled names k.0 ≡ name_bytes s tree.name) ks u.definitions) (sym read.source)
      (keys_name_trees texts unit front whole u.definitions read.definitions))

  module _ (numbers : HaveTheirNumbers texts) where
    key_numbers : Each (λ (k : ℕ × List ℕ). HasItsNumber names k.0) ks
    key_numbers =
        back ks (subst (Each (HasItsNumber names)) (sym (keys_of_order texts unit front whole)) (forth texts.order numbers))
      where
        forth : (order : List ℕ) → Each (λ k. HasItsNumber names (slice_index_or texts.list k no_text).name) order → Each (HasItsNumber names) (map (λ k. (slice_index_or texts.list k no_text).name) order)
        forth [] h = tt
        forth (k ∷ order) h = (h.0, forth order h.1)

        back : (xs : Keys) → Each (HasItsNumber names) (map (λ (k : ℕ × List ℕ). k.0) xs) → Each (λ (k : ℕ × List ℕ). HasItsNumber names k.0) xs
        back [] h = tt
        back (x ∷ xs) h = (h.0, back xs h.1)

    abbrev others : Keys
    others = without_own u.own ks

    abbrev imported : List KeyedImport
    imported = without_own u.own all_imports

    no_one : (xs : Keys) → Each (λ (k : ℕ × List ℕ). IsIn k.0 [] → ⊥) xs
    no_one [] = tt
    no_one (x ∷ xs) = (λ i. i, no_one xs)

    new_names : AllBehind (λ before (i : KeyedImport). is_new_name before i.definition.name ≡ true) [] imported
    new_names =
        names_are_new names [] [] imported others tt (zip_without IsNameOf u.own all_imports ks all_named) tt
        (each_without (λ (k : ℕ × List ℕ). HasItsNumber names k.0) u.own ks key_numbers) (each_without (λ (k : ℕ × List ℕ). IsNamed names k.0) u.own ks (keys_are_named texts unit front whole)) (no_one others)
        (subst AllDiffer (sym (map_without (λ (k : ℕ × List ℕ). k.0) u.own ks)) (differ_without u.own (map (λ (k : ℕ × List ℕ). k.0) ks) (keys_differ texts unit front whole)))

    abbrev IsShort : KeyedImport → Type 0
    IsShort i = IsNumber (length i.definition.name)

    short_names : Each IsShort imported
    short_names =
        each_without IsShort u.own all_imports
        (zip_each IsNameOf IsShort (λ (k : ℕ × List ℕ). IsNamed names k.0)
        (λ i k e d. let same = ap length e in let short = d.numbered.short in omega (arith, same, short)) all_imports ks all_named (keys_are_named texts unit front whole))

    abbrev HasParts : KeyedImport → Type 0
    HasParts i = (length i.key ≡ 32) × IsFitting i.definition

    has_parts : Each HasParts imported
    has_parts = each_without HasParts u.own all_imports (keyed_each IsFitting ks (definitions_in u) (keys_are_long texts unit front whole) fitting)

    has_imports : AllBehind (HasImport 2) [] imported
    unfolding key_length
    has_imports =
        behind_both (λ before (i : KeyedImport). is_new_name before i.definition.name ≡ true) (HasImport 2) (λ (i : KeyedImport). IsShort i × HasParts i)
        (λ before i new parts. record {
          name = new;
          name_short = parts.0;
          key = parts.1.0;
          cells = parts.1.1.0;
          headings_few = parts.1.1.1;
          headings = parts.1.1.2;
        }) [] imported new_names (each_both IsShort HasParts imported short_names has_parts)

    imports_few : length imported < 2 ^ 32
    imports_few =
        let a = without_short u.own all_imports in
        let b = keyed_short ks (definitions_in u) in
        let c = many in
        let low = blocks_many in
        let count = is.sound.count in
        omega (arith, a, b, c, low, count)

    -- ** The whole

    module _ (heights : HaveLowHeights u) where
      abbrev contents : Contents
      contents = unit_contents ks u

      name_is : contents.name ≡ spelled names (name_in (slice_get texts.list 0))
      name_is = ap (λ (s : Source). name_bytes s (module_name u.main)) read.source ∙ main_name texts unit front whole u.main read.main

      exports_few : length exports < 2 ^ 32
      exports_few = by u.own refl
        where
          by : (o : Option ℕ) → u.own ≡ o → length (exports_in mine (of_own [] o (headings_in u))) < 2 ^ 32
          by None e = omega arith
          by (Some s) e =
              let own = own_block s e in
              let headings : slice_index_or (headings_in u) (s - 1) [] ≡ (made names u is own.d).value.headings =
              ap (λ (n : ℕ). slice_index_or (headings_in u) (n - 1) []) (sym own.scope) ∙ at_scope (λ before b. (declare_block u.source before b).value.headings) [] own.d own.there in
              let all = length-map (slice_index_or (headings_in u) (s - 1) []) (export_in mine) in
              let same = ap length headings in
              let few = (block_headings u.source (before_of u own.d) own.d).few in
              let rows = (each_in (IsSoundBlock (length names) u.source) (blocks_of u) own.d is.sound.blocks own.there).few in
              omega (arith, all, same, few, rows)

      keyed_own : WhereKept u.own (λ s. s - 1 < length ks)
      keyed_own = by u.own refl
        where
          by : (o : Option ℕ) → u.own ≡ o → WhereKept o (λ s. s - 1 < length ks)
          by None e = tt
          by (Some s) e = let low = own_low s e in let p = low.0 in let q = low.1 in let n = many in omega (arith, p, q, n)

      cells_few : contents.cells ≤ most_cells
      cells_few =
          let same : contents.cells ≡ (made names u is b0).value.cell = at_module (λ before b. (declare_block u.source before b).value.cell) 0 in
          let few = (has_room names u is statements b0 module_block.there behind0).own in
          omega (arith, same, few)

      fields : HasFields contents
      unfolding key_length
      fields = record {
        version = inr refl;
        name = ap is_identifier name_is ∙ identifier_is (spelled names (name_in (slice_get texts.list 0))) (main_is_named texts unit front whole).spelled;
        name_short = let same = ap length name_is in let short = (main_is_named texts unit front whole).numbered.short in omega (arith, same, short);
        key = own_key u.own ks keyed_own (keys_are_long texts unit front whole);
        cells = cells_few;
        own_cells = own_cells;
        exports_few = exports_few;
        exports = behind_each HasExport (λ (e : Export). HasExport [] e) (λ before e h. record { some = h.some; number = h.number; params = h.params; result = h.result }) [] exports (mapped its (λ h i. has_export h i));
        imports_few = imports_few;
        imports = has_imports;
        procedures_few = procedures_few;
        count = counted;
        procedures = has_procedures heights;
      }
        where
          mapped : (hs : List HeadingNote) → ((h : HeadingNote) → IsIn h hs → HasExport [] (export_in mine h)) → Each (λ (e : Export). HasExport [] e) (map (export_in mine) hs)
          mapped [] f = tt
          mapped (h ∷ hs) f = (f h (inl refl), mapped hs (λ x i. f x (inr i)))

      -- what its code can name is what the unit's code can
      world_same : world_of contents ≡ unit_world u
      world_same = λ i. record { cells = (unit_world u).cells; imports = definitions_same i; procedures = procedures }
        where
          definitions_same : map (λ (x : KeyedImport). x.definition) (without_own u.own (keyed ks (definitions_in u))) ≡ without_own u.own (definitions_in u)
          definitions_same =
              map_without (λ (x : KeyedImport). x.definition) u.own (keyed ks (definitions_in u))
              ∙ ap (without_own u.own) (keyed_definitions ks (definitions_in u) (let a = many in let b = definitions_many in omega (arith, a, b)))

      pub object_valid : IsValid contents
      object_valid = valid_by_parts contents fields (subst (λ w. HaveValidCode w 0 procedures) (sym world_same) (code_from (unit_world u) 0 procedures (λ j p e. let here : j ≡ 0 + j = omega arith in subst (λ n. IsValidCode (unit_world u) n p) here (code_at j p e))))
