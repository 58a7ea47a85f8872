-- The rows of every item in a clear scene, where it has no diagnostic.
use Rattle.std.specs.Prelude.{◌≡◌, ℕ, ◌+◌, ◌^◌, ◌<◌, ◌≤◌, ◌⊎◌, Bool, flat_map, map, length, List, [], ◌∷◌, ◌++◌, Option, Some, None}
use Rattle.std.proofs.Common.{ap, subst, sym, ◌∙◌, refl, inl, inr, arith}
use Rattle.std.proofs.lemmas.Bool.{cases_order}
use Rattle.std.proofs.lemmas.List.{length-append}
use Rattle.m2_base.specs.Lists.{Each}
use Rattle.m2_base.specs.Rows.{row_of, row_meaning}
use Rattle.m2_base.specs.declared.rows.Mode.{Mode}
use Rattle.m2_base.specs.declared.rows.Mode.TheVariants.{ByAddress, Open, Plain}
use Rattle.m2_base.specs.declared.rows.Place.{Place}
use Rattle.m2_base.specs.declared.rows.Row.{Row}
use Rattle.m2_base.specs.declared.rows.RowMeaning.TheVariants.{Alias, Module, Opaque, Param, Proc, ProcType, TypeName, Var}
use Rattle.m2_base.specs.declared.trees.Ident.{Ident}
use Rattle.m2_base.specs.declared.trees.declarations.StreamKind.{StreamKind}
use Rattle.m2_base.specs.Standard.{is_standard, text_type}
use Rattle.m2_base.specs.Tables.{rows_at}
use Rattle.m2_base.specs.Trees.{Decl, Expr, Heading, Section, Stream, TypeExpr, const_decl, proc_decl, type_decl, vars_decl}
use Rattle.m2_base.specs.Statics.BlockRows.{at_item, brought_in, declare_items}
use Rattle.m2_base.specs.Statics.Cells.{capped}
use Rattle.m2_base.specs.Statics.Constants.{constant_of}
use Rattle.m2_base.specs.Statics.Contexts.{Context, Scene, row_at, scope_of_module}
use Rattle.m2_base.specs.Statics.Declarations.{declare}
use Rattle.m2_base.specs.Statics.HeadingRows.{Placing, heading_rows, own_section_rows, own_sections_rows, parameter_row, parameter_rows, placing}
use Rattle.m2_base.specs.Statics.ImportRows.{alias_by, import_rows, place_or_broken}
use Rattle.m2_base.specs.Statics.ImportedConstants.{members_of}
use Rattle.m2_base.specs.Statics.Items.{decl_item, heading_items, import_items, items_of, Item, const_item, heading_item, import_item, proc_item, type_item, vars_item}
use Rattle.m2_base.specs.Statics.Lookup.{Entry, entry_named, has_name}
use Rattle.m2_base.specs.Statics.Makes.{Makes, makes_named, makes_row, next_place, scene_with, with_rows}
use Rattle.m2_base.specs.Statics.NameRows.{const_meaning, const_rows, declared_type, type_name_rows, var_rows, vars_rows}
use Rattle.m2_base.specs.Statics.ProcedureRows.{param_rows, parameter_cells, parameter_count, proc_number, proc_rows, proc_scope, section_rows, sections_length}
use Rattle.m2_base.specs.Statics.ProcedureTypes.{is_structured, open_array_row, parameter_type, result_type}
use Rattle.m2_base.specs.Statics.ReadTrees.{IsReadExpr, IsReadHeading, IsReadItem, IsReadSection, IsReadName, IsReadType, IsReadTypeOption}
use Rattle.m2_base.specs.Statics.TypeNames.{type_of_qual}
use Rattle.m2_base.specs.Statics.TypeRows.{type_rows}
use Rattle.m2_base.specs.Statics.Types.{size_of}
use Rattle.m2_base.specs.Statics.Uses.{use_of}
use Rattle.m2_base.specs.declared.operands.Operand.{Operand}
use Rattle.m2_base.specs.declared.operands.Operand.TheVariants.{Constant, StringConstant}
use Rattle.m2_base.proofs.RowLaws.{place_of-number_of}
use Rattle.m2_base.proofs.SceneLaws.{IsOpen, own_of, own-with, with-none}
use Rattle.m2_base.proofs.SoundTypes.{either}
use Rattle.row_laws.specs.Clear.{IsNamedTarget, LeadsOn, HasClear, IsClear, IsNamable}
use Rattle.row_laws.proofs.ClearRows.{IsClearScene, clear_again, target_there}
use Rattle.row_laws.proofs.ClearNotes.{IsEntry, MakesFine, chain, done, named_fine, one_row_fine, only, qual_fine, row_fine, use_fine}
use Rattle.row_laws.proofs.ClearConstants.{IsConstant, constant_fine}
use Rattle.row_laws.proofs.ClearTypes.{IsAny, looked, open_fine, parameter_fine, result_again, result_fine, type_fine}
use Rattle.row_laws.proofs.ClearTargets.{HasImports, imports_with}
use Rattle.row_laws.proofs.ClearImports.{IsFront, Waits, all_made, first_waits, fronts, waits_with}
use Rattle.row_laws.proofs.ClearBrought.{brought_fine, members_there}
use Rattle.row_laws.proofs.ImportedRows.{item_splits}
use Rattle.row_laws.proofs.Settled.{other_rows}
use Rattle.m2_base.specs.Statics.Layouts.{layout_of}
use Rattle.m2_base.specs.Statics.Shapes.{item_shapes}
use Rattle.m2_base.specs.declared.sites.Named.{Named}

-- ** Constants, types and variables

const_clear : (o : Option Operand) (n at : ℕ) → IsConstant o → HasClear (row_meaning (row_of n at (const_meaning o)))
const_clear None n at h = absurd h
const_clear (Some (Constant t v)) n at h = clear_again t h
const_clear (Some (StringConstant m l)) n at h = clear_again text_type refl
const_clear (Some o) n at h = absurd h

const_namable : (o : Option Operand) (n at : ℕ) → IsConstant o → IsNamable (row_meaning (row_of n at (const_meaning o)))
const_namable None n at h = absurd h
const_namable (Some (Constant t v)) n at h = tt
const_namable (Some (StringConstant m l)) n at h = tt
const_namable (Some o) n at h = absurd h

const_leads : (tables : List (List Row)) (o : Option Operand) (n at : ℕ) → IsConstant o → LeadsOn tables (row_meaning (row_of n at (const_meaning o)))
const_leads tables None n at h = absurd h
const_leads tables (Some (Constant t v)) n at h = tt
const_leads tables (Some (StringConstant m l)) n at h = tt
const_leads tables (Some o) n at h = absurd h

const_fine : (names : List (List ℕ)) (c : Context) (i : Ident) (e : Expr) → IsClearScene c.scene → IsReadExpr names e → MakesFine IsAny c (const_rows c i e)
const_fine names c i e clear read =
    let o = (constant_of c e).value in
    let d = with_rows c [] in
    chain (only clear (constant_fine c clear names e read)) (λ more h. named_fine d i.name i.at (const_meaning o) more (const_clear o i.name i.at h) (const_leads d.scene.tables o i.name i.at h) (const_namable o i.name i.at h))

declared_fine : (names : List (List ℕ)) (c : Context) (i : Ident) (t : Option TypeExpr) → IsClearScene c.scene → HasImports c → IsReadTypeOption names t → MakesFine IsClear c (declared_type c i t)
declared_fine names c i None clear imports read = row_fine c i.at Opaque clear tt tt
declared_fine names c i (Some t) clear imports read = type_fine names t c clear imports read

type_name_fine : (names : List (List ℕ)) (c : Context) (i : Ident) (t : Option TypeExpr) → IsClearScene c.scene → HasImports c → IsReadTypeOption names t → MakesFine IsAny c (type_name_rows c i t)
type_name_fine names c i t clear imports read =
    let typ = declared_type c i t in
    chain (declared_fine names c i t clear imports read) (λ more h. named_fine (with_rows c typ.rows) i.name i.at (TypeName typ.value) more (clear_again typ.value h) tt tt)

-- a variable, whatever its mode
variable_clear : (t : Place) (m : Mode) (o n at : ℕ) → IsClear t → HasClear (row_meaning (row_of n at (Var t m o)))
variable_clear t m o n at h = clear_again t h

variable_fine : (c : Context) (i : Ident) (t : Place) (m : Mode) (o : ℕ) → IsClearScene c.scene → IsClear t → MakesFine IsAny c (makes_named c i.name i.at (Var t m o))
variable_fine c i t m o clear h = named_fine c i.name i.at (Var t m o) clear (variable_clear t m o i.name i.at h) tt tt

variables_fine : (idents : List Ident) (c : Context) (t : Place) (cell : ℕ) → IsClearScene c.scene → IsClear t → MakesFine IsAny c (var_rows c t cell idents)
variables_fine [] c t cell clear h = done clear tt
variables_fine (i ∷ idents) c t cell clear h =
    let row = makes_named c i.name i.at (Var t Plain cell) in
    let d = with_rows c row.rows in
    chain (variable_fine c i t Plain cell clear h) (λ more k. variables_fine idents d t (capped (cell + size_of d.scene t)) more h)

vars_fine : (names : List (List ℕ)) (c : Context) (idents : List Ident) (t : TypeExpr) (cell : ℕ) → IsClearScene c.scene → HasImports c → IsReadType names t → MakesFine IsAny c (vars_rows c idents t cell)
vars_fine names c idents t cell clear imports read =
    let typ = type_rows c t in
    chain (type_fine names t c clear imports read) (λ more h. variables_fine idents (with_rows c typ.rows) typ.value cell more h)

-- ** Imports

-- no scope has too many rows
abbrev pub AreFew : List (List Row) → Type 0
AreFew tables = (s : ℕ) → length (rows_at tables s) < 2 ^ 31

alias_leads : (tables : List (List Row)) (o : Option Entry) (n at : ℕ) → AreFew tables → IsEntry tables o → LeadsOn tables (row_meaning (row_of n at (Alias (place_or_broken o))))
alias_leads tables None n at few h = absurd h
alias_leads tables (Some e) n at few h =
    let target : IsNamedTarget (row_at tables e.0) = subst IsNamedTarget (sym h.stands) (h.named, h.target) in
    let there = target_there tables e.0 target.1 in
    let small = few e.0.scope in
    subst (λ p. IsNamedTarget (row_at tables p)) (sym (place_of-number_of e.0 (omega (arith, there, small)))) target

-- an import's own row, whatever was brought under its name
own_alias_fine : (c : Context) (i : Ident) (p : Place) (o : Option Named) → IsClearScene c.scene → LeadsOn c.scene.tables (row_meaning (row_of i.name i.at (Alias p))) → MakesFine IsAny c (alias_by c i p o)
own_alias_fine c i p None clear leads = named_fine c i.name i.at (Alias p) clear tt leads tt
own_alias_fine c i p (Some n) clear leads = one_row_fine c.scene (row_of 0 i.at (Alias p)) clear (tt, leads, λ some. absurd (some refl)) tt

one_alias : (c : Context) (i : Ident) (p : Place) (o : Option Named) → length (alias_by c i p o).rows ≡ 1
one_alias c i p None =
    either (λ (x : Makes Place). length x.rows ≡ 1) (is_standard i.name) _ _ refl (either (λ (x : Makes Place). length x.rows ≡ 1) (has_name c.scene.tables c.scene.block.scope i.name) _ _ refl refl)
one_alias c i p (Some n) = refl

-- a scope has at most so many rows more
longer_by : (scene : Scene) (xs : List Row) → IsOpen scene → (s : ℕ) → length (rows_at (scene_with scene xs).tables s) ≤ length (rows_at scene.tables s) + length xs
longer_by scene xs room s = by_order (cases_order s scene.block.scope)
  where
    by_order : (s ≡ scene.block.scope) ⊎ ((s < scene.block.scope) ⊎ (scene.block.scope < s)) → length (rows_at (scene_with scene xs).tables s) ≤ length (rows_at scene.tables s) + length xs
    by_order (inl same) =
        let made = ap length (ap (rows_at (scene_with scene xs).tables) same ∙ own-with scene xs room) in
        let own = ap length (ap (rows_at scene.tables) same) in
        let longer = length-append (own_of scene) xs in
        omega (arith, made, own, longer)
    by_order (inr (inl less)) = let e = ap length (other_rows scene xs s (λ q. omega (arith, q, less))) in omega (arith, e)
    by_order (inr (inr more)) = let e = ap length (other_rows scene xs s (λ q. omega (arith, q, more))) in omega (arith, e)

import_fine : (names : List (List ℕ)) (c : Context) (from : Option Ident) (i : Ident) → IsClearScene c.scene → AreFew c.scene.tables → IsReadName names i → MakesFine IsAny c (import_rows c from i)
import_fine names c None i clear few read = chain (named_fine c i.name i.at (Module (scope_of_module c.source i.name)) clear tt tt tt) (λ more k. done more tt)
import_fine names c (Some m) i clear few read =
    let within = Some (scope_of_module c.source m.name) in
    let o = (use_of c within i.name i.at).value in
    let d = with_rows c [] in
    let p = place_or_broken o in
    let brought = entry_named d.layout.brought i.name in
    let own = alias_by d i p brought in
    let f = with_rows d own.rows in
    chain (only clear (use_fine c clear within i.name i.at read.some))
    (λ one h. chain (own_alias_fine d i p brought one (subst (λ (s : Scene). LeadsOn s.tables (row_meaning (row_of i.name i.at (Alias p)))) (sym (with-none c.scene)) (alias_leads c.scene.tables o i.name i.at few h)))
    (λ two k. brought_fine f i.at (members_of f.scene o) two (members_there f.scene (λ s.
    let a = longer_by d.scene own.rows one.room s in
    let b = one_alias d i p brought in
    let e = ap (λ (q : Scene). length (rows_at q.tables s)) (with-none c.scene) in
    let l = few s in
    omega (arith, a, b, e, l)) o)))

-- ** Headings

parameter_row_fine : (c : Context) (s : Section) (elem t : Place) (f : Placing) (i : Ident) → IsClearScene c.scene → IsClear t → MakesFine IsAny c (parameter_row c s elem t f i)
parameter_row_fine c s elem t f i clear h =
    let P : Makes Placing → Type 0 = λ (x : Makes Placing). MakesFine IsAny c x in
    either P s.is_open _ _ (chain (variable_fine c i t Open f.cell clear h) (λ more k. done more tt))
    (either P s.by_ref _ _ (chain (variable_fine c i t ByAddress f.cell clear h) (λ more k. done more tt))
    (either P (is_structured c t) _ _ (chain (variable_fine c i t Plain f.own clear h) (λ more k. done more tt)) (chain (variable_fine c i t Plain f.cell clear h) (λ more k. done more tt))))

parameters_fine : (idents : List Ident) (c : Context) (s : Section) (elem t : Place) (f : Placing) → IsClearScene c.scene → IsClear t → MakesFine IsAny c (parameter_rows c s elem t f idents)
parameters_fine [] c s elem t f clear h = done clear tt
parameters_fine (i ∷ idents) c s elem t f clear h =
    let row = parameter_row c s elem t f i in
    chain (parameter_row_fine c s elem t f i clear h) (λ more k. parameters_fine idents (with_rows c row.rows) s elem t row.value more h)

own_section_fine : (names : List (List ℕ)) (c : Context) (f : Placing) (s : Section) → IsClearScene c.scene → IsReadSection names s → MakesFine IsAny c (own_section_rows c f s)
own_section_fine names c f s clear read =
    let elem = (type_of_qual c s.of).value in
    let d = with_rows c [] in
    let typ = open_array_row d s.of.first.at s.is_open elem in
    chain (only clear (qual_fine c clear names s.of read.of))
    (λ one h. chain (open_fine d s.of.first.at s.is_open elem one h) (λ two k. parameters_fine s.names (with_rows d typ.rows) s elem typ.value f two k))

own_sections_fine : (names : List (List ℕ)) (sections : List Section) (c : Context) (f : Placing) → IsClearScene c.scene → Each (IsReadSection names) sections → MakesFine IsAny c (own_sections_rows c f sections)
own_sections_fine names [] c f clear read = done clear tt
own_sections_fine names (s ∷ sections) c f clear read =
    let made = own_section_rows c f s in
    chain (own_section_fine names c f s clear read.0) (λ more k. own_sections_fine names sections (with_rows c made.rows) made.value more read.1)

heading_fine : (names : List (List ℕ)) (c : Context) (h : Heading) → IsClearScene c.scene → IsReadHeading names h → MakesFine IsAny c (heading_rows c h)
heading_fine names c h clear read =
    let made = own_sections_rows c (placing 0 (capped (parameter_cells h.sections)) []) h.sections in
    let d = with_rows c made.rows in
    chain (own_sections_fine names h.sections c (placing 0 (capped (parameter_cells h.sections)) []) clear read.sections)
    (λ one k. chain (looked d (result_type d h.result) one) (λ two j. done two tt))

params_fine : (idents : List Ident) (c : Context) (own : ℕ) (by_ref : Bool) (t : Place) → IsClearScene c.scene → IsClear t → MakesFine IsAny c (param_rows c own by_ref t idents)
params_fine [] c own by_ref t clear h = done clear tt
params_fine (i ∷ idents) c own by_ref t clear h =
    let row = makes_row c i.at (Param t by_ref own) in
    chain (row_fine c i.at (Param t by_ref own) clear (clear_again t h) tt) (λ more k. params_fine idents (with_rows c row.rows) own by_ref t more h)

sections_fine : (names : List (List ℕ)) (sections : List Section) (c : Context) (own : ℕ) → IsClearScene c.scene → Each (IsReadSection names) sections → MakesFine IsAny c (section_rows c own sections)
sections_fine names [] c own clear read = done clear tt
sections_fine names (s ∷ sections) c own clear read =
    let typ = parameter_type c s.is_open s.of in
    let d = with_rows c typ.rows in
    let params = param_rows d own s.by_ref typ.value s.names in
    chain (parameter_fine names c s.is_open s.of clear read.0.of)
    (λ one h. chain (params_fine s.names d own s.by_ref typ.value one h) (λ two k. sections_fine names sections (with_rows d params.rows) own two read.1))

proc_fine : (names : List (List ℕ)) (c : Context) (kind : StreamKind) (h : Heading) (stream : ℕ) → IsClearScene c.scene → IsReadHeading names h → MakesFine IsAny c (proc_rows c kind h stream)
proc_fine names c kind h stream clear read =
    let first = (next_place c).ordinal in
    let made = section_rows c (first + sections_length h.sections) h.sections in
    let d = with_rows c made.rows in
    let r = (result_type d h.result).value in
    let e = with_rows d [] in
    let t = makes_row e h.name.at (ProcType r (parameter_count h.sections) first) in
    chain (sections_fine names h.sections c (first + sections_length h.sections) clear read.sections)
    (λ one k. chain (only one (result_fine names d h.result one read.result))
    (λ two j. chain (row_fine e h.name.at (ProcType r (parameter_count h.sections) first) two (result_again r j) tt)
    (λ three i. chain (named_fine (with_rows e t.rows) h.name.name h.name.at (Proc t.value (proc_number c kind stream) (proc_scope kind stream)) three tt tt tt) (λ four g. done four tt))))

-- ** Items

-- what each item wants of the imports before it: a heading and an import want nothing
abbrev pub Wants : Context → Item → Type 0
Wants c (heading_item h) = Unit {0}
Wants c (import_item from i) = Unit {0}
Wants c other = HasImports c

wants_less : (c : Context) (x : Item) → HasImports c → Wants c x
wants_less c (heading_item h) k = tt
wants_less c (import_item from i) k = tt
wants_less c x k = k

item_fine : (names : List (List ℕ)) (c : Context) (kind : StreamKind) (x : Item) (cell : ℕ) → IsClearScene c.scene → AreFew c.scene.tables → Wants c x → IsReadItem names x → MakesFine IsAny c (declare c kind x cell)
item_fine names c kind (heading_item h) cell clear few imports read = heading_fine names c h clear read
item_fine names c kind (import_item from i) cell clear few imports read = chain (import_fine names c from i clear few read.1) (λ more k. done more tt)
item_fine names c kind (const_item i e) cell clear few imports read = chain (const_fine names c i e clear read.1) (λ more k. done more tt)
item_fine names c kind (type_item i t) cell clear few imports read = chain (type_name_fine names c i t clear imports read.1) (λ more k. done more tt)
item_fine names c kind (vars_item idents t) cell clear few imports read = chain (vars_fine names c idents t cell clear imports read.1) (λ more k. done more tt)
item_fine names c kind (proc_item h stream) cell clear few imports read = chain (proc_fine names c kind h stream clear read.0) (λ more k. done more tt)

-- the scopes of a scene have few rows, and its own also with these
pub record HasSpace (scene : Scene) (rows : List Row) : Type 0 where
  pub few : AreFew scene.tables
  pub own : length (own_of scene) + length rows < 2 ^ 31

space_right : (scene : Scene) (xs ys : List Row) → IsOpen scene → HasSpace scene (xs ++ ys) → HasSpace (scene_with scene xs) ys
space_right scene xs ys o h =
    let joined = length-append xs ys in
    let made = ap length (own-with scene xs o) in
    let longer = length-append (own_of scene) xs in
    let own = h.own in
    record { few = λ s. by_order s (cases_order s scene.block.scope); own = omega (arith, joined, made, longer, own) }
  where
    by_order : (s : ℕ) → (s ≡ scene.block.scope) ⊎ ((s < scene.block.scope) ⊎ (scene.block.scope < s)) → length (rows_at (scene_with scene xs).tables s) < 2 ^ 31
    by_order s (inl same) =
        let joined = length-append xs ys in
        let longer = length-append (own_of scene) xs in
        let own = h.own in
        let made = ap length (ap (rows_at (scene_with scene xs).tables) same ∙ own-with scene xs o) in
        omega (arith, joined, longer, own, made)
    by_order s (inr (inl less)) = let few = h.few s in let e = ap length (other_rows scene xs s (λ q. omega (arith, q, less))) in omega (arith, few, e)
    by_order s (inr (inr more)) = let few = h.few s in let e = ap length (other_rows scene xs s (λ q. omega (arith, q, more))) in omega (arith, few, e)

space_left : (scene : Scene) (xs ys : List Row) → HasSpace scene (xs ++ ys) → HasSpace scene xs
space_left scene xs ys h = let joined = length-append xs ys in let own = h.own in record { few = h.few; own = omega (arith, joined, own) }

-- an item, and then the items behind it
step : (names : List (List ℕ)) (x : Item) (items : List Item) (c : Context) (kind : StreamKind) (i cell : ℕ) → IsClearScene c.scene → HasSpace c.scene (declare_items c kind i cell (x ∷ items)).rows → Wants (at_item c i) x
    → IsReadItem names x
    → ((d : Context) (next : ℕ) → d ≡ brought_in (with_rows c (declare (at_item c i) kind x cell).rows) (declare (at_item c i) kind x cell).value.brought → IsClearScene d.scene → HasSpace d.scene (declare_items d kind (i + 1) next items).rows
    → MakesFine IsAny d (declare_items d kind (i + 1) next items))
    → MakesFine IsAny c (declare_items c kind i cell (x ∷ items))
step names x items c kind i cell clear space wants read rest =
    let a = at_item c i in
    let m = declare a kind x cell in
    let d = brought_in (with_rows c m.rows) m.value.brought in
    let more = declare_items d kind (i + 1) m.value.cell items in
    chain (item_fine names a kind x cell clear space.few wants read)
    (λ one k. chain (rest d m.value.cell refl one (space_left d.scene more.rows [] (space_right c.scene m.rows (more.rows ++ []) clear.room space))) (λ two j. done two tt))

-- a declaration brings nothing
decl_brings : (x : Decl) (c : Context) (kind : StreamKind) (cell : ℕ) → (declare c kind (decl_item x) cell).value.brought ≡ []
decl_brings (const_decl i e) c kind cell = refl
decl_brings (type_decl i t) c kind cell = refl
decl_brings (vars_decl idents t) c kind cell = refl
decl_brings (proc_decl h s) c kind cell = refl

-- the declarations, where each import is made
decls_fine : (names : List (List ℕ)) (ds : List Decl) (c : Context) (kind : StreamKind) (i cell : ℕ) → IsClearScene c.scene → HasImports c → HasSpace c.scene (declare_items c kind i cell (map decl_item ds)).rows
    → Each (IsReadItem names) (map decl_item ds) → MakesFine IsAny c (declare_items c kind i cell (map decl_item ds))
decls_fine names [] c kind i cell clear imports space read = done clear tt
decls_fine names (x ∷ ds) c kind i cell clear imports space read =
    let m = declare (at_item c i) kind (decl_item x) cell in
    step names (decl_item x) (map decl_item ds) c kind i cell clear space (wants_less (at_item c i) (decl_item x) (record { brought = imports.brought; names = imports.names })) read.0
    (λ d next is one room. decls_fine names ds d kind (i + 1) next one
    (subst HasImports (sym is) (subst (λ (ns : List Named). HasImports (brought_in (with_rows c m.rows) ns)) (sym (decl_brings x (at_item c i) kind cell)) (imports_with c m.rows clear imports))) room read.1)

fronts_fine : (names : List (List ℕ)) (front : List Item) (ds : List Decl) (c : Context) (kind : StreamKind) (i o cell : ℕ) → IsClearScene c.scene → Each IsFront front → Waits c i o (front ++ map decl_item ds)
    → HasSpace c.scene (declare_items c kind i cell (front ++ map decl_item ds)).rows → Each (IsReadItem names) (front ++ map decl_item ds) → MakesFine IsAny c (declare_items c kind i cell (front ++ map decl_item ds))
fronts_fine names [] ds c kind i o cell clear fronts waits space read = decls_fine names ds c kind i cell clear (all_made c i o ds waits) space read
fronts_fine names (x ∷ front) ds c kind i o cell clear fronts waits space read =
    step names x (front ++ map decl_item ds) c kind i cell clear space (wants_none (at_item c i) x fronts.0) read.0
    (λ d next is one room. fronts_fine names front ds d kind (i + 1) (o + length (item_shapes x)) next one fronts.1
    (subst (λ (e : Context). Waits e (i + 1) (o + length (item_shapes x)) (front ++ map decl_item ds)) (sym is)
    (waits_with c x (front ++ map decl_item ds) i o _ clear.room (item_splits x c kind i cell clear.room) waits)) room read.1)
  where
    wants_none : (c : Context) (x : Item) → IsFront x → Wants c x
    wants_none c (heading_item h) k = tt
    wants_none c (import_item from i) k = tt
    wants_none c x k = absurd k

-- the items of a block, none of whose rows is made yet
pub items_fine : (names : List (List ℕ)) (tree : Stream) (c : Context) (kind : StreamKind) (cell : ℕ) → c.layout ≡ layout_of tree → own_of c.scene ≡ [] → IsClearScene c.scene
    → HasSpace c.scene (declare_items c kind 0 cell (items_of tree)).rows → Each (IsReadItem names) (items_of tree) → MakesFine IsAny c (declare_items c kind 0 cell (items_of tree))
items_fine names tree c kind cell layout none clear space read =
    fronts_fine names (heading_items tree.heading ++ flat_map import_items tree.imports) tree.decls c kind 0 0 cell clear (fronts tree.heading tree.imports) (first_waits c tree layout none) space read
