-- What the outputs of a unit make is what its object says.
use Rattle.std.specs.Prelude.{◌≡◌, refl, ℕ, ◌^◌, ◌<◌, List, [], ◌∷◌, ◌++◌, drop, length, map, slice_get, slice_index_or, take, Option, Some, None}
use Rattle.std.specs.List.{AllZip}
use Rattle.std.proofs.Common.{ap, subst, sym, ◌∙◌}
use Rattle.std.proofs.lemmas.List.{drop-map}
use Rattle.std.proofs.lemmas.Slice.Zip.{AllZip-long}
use Rattle.m2_base.specs.Finished.{AreRead, own_scope, tokens_of}
use Rattle.m2_base.specs.Lists.{Each}
use Rattle.m2_base.specs.Standard.{standard_rows}
use Rattle.m2_base.specs.Statics.BlockRows.{declare_block}
use Rattle.m2_base.specs.Statics.Blocks.{BlockTree, UnitTrees, blocks_of}
use Rattle.m2_base.specs.Statics.Contexts.{Source}
use Rattle.m2_base.specs.Statics.UnitRows.{unit_rows}
use Rattle.m2_base.specs.Trees.{Stream}
use Rattle.m2_base.specs.Units.{Front, IsUnit, TextOf, UnitTexts}
use Rattle.m2_base.specs.WholeTexts.{SpellsDefinition}
use Rattle.m2_base.specs.declared.outputs.Output.{Output}
use Rattle.m2_base.specs.declared.rows.Row.{Row}
use Rattle.stream_split.proofs.BlocksAgree.{blocks_agree}
use Rattle.stream_split.proofs.ReadUnits.{trees_read}
use Rattle.block_code.specs.BlockCode.{ProcedureCode, block_code}
use Rattle.block_code.specs.ProcedureCodes.{code_view}
use Rattle.block_laws.specs.Named as named
use Rattle.block_laws.specs.Worlds as worlds
use Rattle.block_laws.specs.Worlds.{import_over, name_bytes, of_blocks, over_blocks, unit_world}
use Rattle.definition_keys.specs.Keys.{Keys}
use Rattle.object_file.specs.Contents.{no_key}
use Rattle.object_file.specs.Views.{procedure_of}
use Rattle.unit_merge.specs.Objects as objects
use Rattle.unit_merge.specs.Objects.{cells_by, contents_from, exports_in, headings_by, imports_from, of_own, spelled}
use Rattle.merge_laws.specs.Outputs.{AreCoded, codes_in, headings_in}
use Rattle.merge_laws.specs.Texts.{HaveLowHeights, IsWhole}
use Rattle.merge_laws.specs.UnitObject.{definitions_in, keyed, module_name, unit_contents}
use Rattle.merge_laws.proofs.UnitNames.{keys, keys_name_trees, main_name}

-- ** Imports

pub without_same : {A : Type 0} (own : Option ℕ) (xs : List A) → objects.without_own own xs ≡ worlds.without_own own xs
without_same None xs = refl
without_same (Some s) xs = refl

imports_are : (names : List (List ℕ)) (source : Source) (before : List (List Row)) (blocks : List BlockTree) (ks : Keys) (outputs : List Output) (trees rest : List Stream)
    → cells_by outputs ≡ over_blocks (λ ts b. (declare_block source ts b).value.cell) source before blocks
    → headings_by outputs ≡ over_blocks (λ ts b. (declare_block source ts b).value.headings) source before blocks
    → map (λ (b : BlockTree). b.tree) blocks ≡ trees ++ rest → AllZip (λ (k : ℕ × List ℕ) (tree : Stream). spelled names k.0 ≡ name_bytes source tree.name) ks trees
    → imports_from names ks outputs ≡ keyed ks (take (length trees) (over_blocks (import_over source) source before blocks))
imports_are names source before blocks [] outputs [] rest c h t z = refl
imports_are names source before blocks [] outputs (tree ∷ trees) rest c h t z = absurd z
imports_are names source before blocks (k ∷ ks) outputs [] rest c h t z = absurd z
imports_are names source before [] (k ∷ ks) outputs (tree ∷ trees) rest c h t z = absurd cc
imports_are names source before (b ∷ blocks) (k ∷ ks) [] (tree ∷ trees) rest c h t z = absurd cc
imports_are names source before (b ∷ blocks) (k ∷ ks) (o ∷ outputs) (tree ∷ trees) rest c h t z =
    let made = declare_block source before b in
    let cells : o.cells ≡ made.value.cell = cc in
    let headings : o.headings.items ≡ made.value.headings = cc in
    let its : b.tree ≡ tree = cc in
    let name : spelled names k.0 ≡ name_bytes source b.tree.name = z.0 ∙ ap (λ (x : Stream). name_bytes source x.name) (sym its) in
    let further : cells_by outputs ≡ over_blocks (λ ts x. (declare_block source ts x).value.cell) source (before ++ made.rows ∷ []) blocks = let f = c in cc in
    let behind : headings_by outputs ≡ over_blocks (λ ts x. (declare_block source ts x).value.headings) source (before ++ made.rows ∷ []) blocks = let f = h in cc in
    let others : map (λ (x : BlockTree). x.tree) blocks ≡ trees ++ rest = let f = t in cc in
    let more = imports_are names source (before ++ made.rows ∷ []) blocks ks outputs trees rest further behind others z.1 in
    λ i. record { key = k.1; definition = record { name = name i; cells = cells i; headings = map objects.callee_of (headings i) } } ∷ more i

-- ** Procedures

map_over : {A B : Type 0} (g : A → B) (f : List (List Row) → BlockTree → A) (source : Source) (before : List (List Row)) (blocks : List BlockTree) → map g (over_blocks f source before blocks) ≡ over_blocks (λ ts b. g (f ts b)) source before blocks
map_over g f source before [] = refl
map_over g f source before (b ∷ blocks) = ap (λ xs. g (f before b) ∷ xs) (map_over g f source (before ++ (declare_block source before b).rows ∷ []) blocks)

viewed : (outputs : List Output) → map (λ (o : Output). procedure_of o.code) outputs ≡ map named.procedure_of (map (λ (o : Output). code_view o.code) outputs)
viewed [] = refl
viewed (o ∷ outputs) = ap (λ ps. procedure_of o.code ∷ ps) (viewed outputs)

-- the procedures of a unit's world are those of its codes
pub codes_are : (u : UnitTrees) → map named.procedure_of (codes_in u) ≡ (unit_world u).procedures
codes_are u =
    sym (drop-map named.procedure_of (length u.definitions) (of_blocks (λ before b. block_code u.source before (unit_rows u) b) u))
    ∙ ap (drop (length u.definitions)) (map_over named.procedure_of (λ before b. block_code u.source before (unit_rows u) b) u.source (standard_rows ∷ []) (blocks_of u))

-- ** The whole

module _ (texts : UnitTexts) (unit : IsUnit texts) (front : TextOf → Front) (whole : IsWhole front texts) (u : UnitTrees) (read : AreRead texts u) (outputs : List Output) (coded : AreCoded u outputs) where
  abbrev ks : Keys
  ks = keys texts unit front whole

  many : length texts.order ≡ length u.definitions
  many = sym (AllZip-long (λ k tree. SpellsDefinition (tree ∷ []) (tokens_of texts k)) texts.order u.definitions read.definitions)

  name_same : spelled texts.names (objects.name_in (slice_get texts.list 0)) ≡ name_bytes u.source (module_name u.main)
  name_same = sym (ap (λ (s : Source). name_bytes s (module_name u.main)) read.source ∙ main_name texts unit front whole u.main read.main)

  keys_named : AllZip (λ (k : ℕ × List ℕ) (tree : Stream). spelled texts.names k.0 ≡ name_bytes u.source tree.name) ks u.definitions
  keys_named =
      subst (λ (s : Source). AllZip (λ (k : ℕ × List ℕ) (tree : Stream). spelled texts.names k.0 ≡ name_bytes s tree.name) ks u.definitions) (sym read.source)
      (keys_name_trees texts unit front whole u.definitions read.definitions)

  imports_same : imports_from texts.names ks outputs ≡ keyed ks (definitions_in u)
  imports_same =
      imports_are texts.names u.source (standard_rows ∷ []) (blocks_of u) ks outputs u.definitions u.main coded.cells coded.headings (blocks_agree texts u (trees_read texts u read)).same_trees keys_named

  procedures_same : map (λ (o : Output). procedure_of o.code) (drop (length texts.order) outputs) ≡ (unit_world u).procedures
  procedures_same =
      ap (λ n. map (λ (o : Output). procedure_of o.code) (drop n outputs)) many ∙ viewed (drop (length u.definitions) outputs) ∙ ap (map named.procedure_of) coded.codes ∙ codes_are u

  own_same : own_scope texts ≡ u.own
  own_same = sym read.own

  exports_same : exports_in (slice_index_or (headings_by outputs) (length texts.order) []) (of_own [] (own_scope texts) (headings_by outputs))
      ≡ exports_in (slice_index_or (headings_in u) (length u.definitions) []) (of_own [] u.own (headings_in u))
  exports_same = λ i. exports_in (slice_index_or (coded.headings i) (many i) []) (of_own [] (own_same i) (coded.headings i))

  pub contents_same : contents_from ks texts outputs ≡ unit_contents ks u
  contents_same = λ i. record {
    version = 2;
    name = name_same i;
    key = of_own no_key (own_same i) (map (λ (k : ℕ × List ℕ). k.1) ks);
    cells = slice_index_or (coded.cells i) (many i) 0;
    own_cells = of_own 0 (own_same i) (coded.cells i);
    exports = exports_same i;
    imports = imports_here i;
    procedures = procedures_same i;
  }
    where
      imports_here : objects.without_own (own_scope texts) (imports_from texts.names ks outputs) ≡ worlds.without_own u.own (keyed ks (definitions_in u))
      imports_here = (λ i. objects.without_own (own_same i) (imports_same i)) ∙ without_same u.own (keyed ks (definitions_in u))

  -- the heights of the outputs are those of the codes
  pub heights_same : objects.HaveLowHeights texts outputs → HaveLowHeights u
  heights_same h =
      subst (Each (λ (p : ProcedureCode). p.high < 2 ^ 32)) coded.codes (by (drop (length u.definitions) outputs) (subst (λ n. Each (λ (o : Output). o.code.high < 2 ^ 32) (drop n outputs)) many h))
    where
      by : (os : List Output) → Each (λ (o : Output). o.code.high < 2 ^ 32) os → Each (λ (p : ProcedureCode). p.high < 2 ^ 32) (map (λ (o : Output). code_view o.code) os)
      by [] k = tt
      by (o ∷ os) k = (k.0, by os k.1)
