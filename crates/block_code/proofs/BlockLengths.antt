-- How long a block's code is: what it copies first is of its parameters.
use Rattle.std.specs.Prelude.{◌≡◌, refl, ℕ, suc, ◌+◌, ◌*◌, ◌≤◌, ◌<◌, ◌^◌, ◌==◌, Bool, true, false, List, [], ◌∷◌, ◌++◌, length, map, flat_map, if◌then◌else◌, Option, Some, None}
use Rattle.std.proofs.Common.{arith}
use Rattle.std.proofs.lemmas.List.{length-append}
use Rattle.code_form.specs.Bytes.{code_bytes, size, spelling}
use Rattle.code_form.specs.Heights.{Step}
use Rattle.code_form.specs.declared.instr.Instr.TheVariants.{Load, Local, Move, OpenCopy, Return, Trap}
use Rattle.code_form.proofs.Spellings.{length-spelling}
use Rattle.m2_base.specs.declared.rows.Place.{Place}
use Rattle.m2_base.specs.declared.rows.Row.{Row}
use Rattle.m2_base.specs.Statics.BlockRows.{at_item, brought_in, context_of, declare_block, declare_items, first_cell, scene_of}
use Rattle.m2_base.specs.declared.rows.Mode.TheVariants.{ByAddress, Open, Plain}
use Rattle.m2_base.specs.declared.rows.RowMeaning.TheVariants.{Var}
use Rattle.m2_base.specs.declared.trees.Ident.{Ident}
use Rattle.m2_base.specs.declared.trees.declarations.StreamKind.{StreamKind}
use Rattle.m2_base.specs.Statics.Blocks.{BlockTree}
use Rattle.m2_base.specs.Statics.Cells.{capped}
use Rattle.m2_base.specs.Statics.Contexts.{Context, Source}
use Rattle.m2_base.specs.Statics.Declarations.{declare}
use Rattle.m2_base.specs.Statics.Effects.{BlockEffects, Effect, ParamCopy, open_copy, own_copy}
use Rattle.m2_base.specs.Statics.HeadingRows.{Placing, open_copies, own_section_rows, own_sections_rows, parameter_row, parameter_rows, placing}
use Rattle.m2_base.specs.Statics.Items.{Item, const_item, decl_item, heading_item, heading_items, import_item, import_items, items_of, proc_item, type_item, vars_item}
use Rattle.m2_base.specs.Statics.Makes.{Makes, make_then, makes, makes_named, only_gives, with_rows}
use Rattle.m2_base.specs.Statics.ProcedureRows.{parameter_cells, parameter_count, result_cells}
use Rattle.m2_base.specs.Statics.ProcedureTypes.{is_structured, open_array_row}
use Rattle.m2_base.specs.Statics.TypeNames.{type_of_qual}
use Rattle.m2_base.specs.Statics.Types.{size_of}
use Rattle.m2_base.specs.Trees.{Decl, Heading, Import, Section, const_decl, proc_decl, type_decl, vars_decl}
use Rattle.block_code.proofs.Lengths.{call-short, none-short, plain-short, short-then, spares-short}
use Rattle.block_code.proofs.ValueHeights.{both_ways}
use Rattle.block_code.specs.Lengths.{IsShort}
use Rattle.block_code.specs.Parts.{plain, steps_size, ◌⨟◌}
use Rattle.block_code.specs.BlockCode.{copy_code, ending, first_spot, prologue, run_of}
use Rattle.block_code.specs.Flows.{Flow, straight, ◌⨾◌}
use Rattle.block_code.specs.Returns.{return_code}
use Rattle.block_code.specs.StatementTokens.{block_tokens, parameters_of, statements_tokens}
use Rattle.block_code.proofs.FlowLengths.{FlowSpares, straight-spares, then-spares}

-- ---- what is copied

-- no more is copied than was, and one for each name
abbrev Copies : ℕ → Placing → Placing → Type 0
Copies n f g = length g.copies ≤ length f.copies + n

appended : (a b : List ParamCopy) (k : ℕ) → length b ≤ k → length (a ++ b) ≤ length a + k
appended a b k f = let e = length-append a b in omega (arith, e, f)

open-one : (by_ref : Bool) (cell n : ℕ) → length (open_copies by_ref cell n) ≤ 1
open-one true cell n = omega arith
open-one false cell n = omega arith

as_before : (n : ℕ) → n ≤ n + 1
as_before n = omega arith

one-row : (c : Context) (s : Section) (elem t : Place) (f : Placing) (i : Ident) → Copies 1 f (parameter_row c s elem t f i).value
one-row c s elem t f i =
    both_ways (λ m. Copies 1 f m.value) s.is_open
    (make_then c (makes_named c i.name i.at (Var t Open f.cell)) (λ d p.
    makes (placing (capped (f.cell + 2)) f.own (f.copies ++ open_copies s.by_ref f.cell (size_of c.scene elem)))))
    (if s.by_ref then
    make_then c (makes_named c i.name i.at (Var t ByAddress f.cell)) (λ d p. makes (placing (capped (f.cell + 1)) f.own f.copies)) else
    if is_structured c t then
    make_then c (makes_named c i.name i.at (Var t Plain f.own)) (λ d p.
    makes (placing (capped (f.cell + 1)) (capped (f.own + size_of c.scene t)) (f.copies ++ own_copy f.own f.cell (size_of c.scene t) ∷ [])))
    else make_then c (makes_named c i.name i.at (Var t Plain f.cell)) (λ d p. makes (placing (capped (f.cell + 1)) f.own f.copies)))
    (appended f.copies (open_copies s.by_ref f.cell (size_of c.scene elem)) 1 (open-one s.by_ref f.cell (size_of c.scene elem)))
    (both_ways (λ m. Copies 1 f m.value) s.by_ref
    (make_then c (makes_named c i.name i.at (Var t ByAddress f.cell)) (λ d p. makes (placing (capped (f.cell + 1)) f.own f.copies)))
    (if is_structured c t then
    make_then c (makes_named c i.name i.at (Var t Plain f.own)) (λ d p.
    makes (placing (capped (f.cell + 1)) (capped (f.own + size_of c.scene t)) (f.copies ++ own_copy f.own f.cell (size_of c.scene t) ∷ [])))
    else make_then c (makes_named c i.name i.at (Var t Plain f.cell)) (λ d p. makes (placing (capped (f.cell + 1)) f.own f.copies)))
    (as_before (length f.copies))
    (both_ways (λ m. Copies 1 f m.value) (is_structured c t)
    (make_then c (makes_named c i.name i.at (Var t Plain f.own)) (λ d p.
    makes (placing (capped (f.cell + 1)) (capped (f.own + size_of c.scene t)) (f.copies ++ own_copy f.own f.cell (size_of c.scene t) ∷ []))))
    (make_then c (makes_named c i.name i.at (Var t Plain f.cell)) (λ d p. makes (placing (capped (f.cell + 1)) f.own f.copies)))
    (appended f.copies (own_copy f.own f.cell (size_of c.scene t) ∷ []) 1 (omega arith)) (as_before (length f.copies))))

onwards : (a b d m n : ℕ) → b ≤ a + m → d ≤ b + n → d ≤ a + (m + n)
onwards a b d m n f g = omega (arith, f, g)

one_on : (a b d n : ℕ) → b ≤ a + 1 → d ≤ b + n → d ≤ a + suc n
one_on a b d n f g = omega (arith, f, g)

as_was : (n : ℕ) → n ≤ n + 0
as_was n = omega arith

names-rows : (c : Context) (s : Section) (elem t : Place) (f : Placing) (names : List Ident) → Copies (length names) f (parameter_rows c s elem t f names).value
names-rows c s elem t f [] = as_was (length f.copies)
names-rows c s elem t f (i ∷ names) =
    let m : Makes Placing = parameter_row c s elem t f i in
    let d : Context = with_rows c m.rows in
    one_on (length f.copies) (length m.value.copies) (length (parameter_rows d s elem t m.value names).value.copies) (length names)
    (one-row c s elem t f i) (names-rows d s elem t m.value names)

section-rows : (c : Context) (f : Placing) (s : Section) → Copies (length s.names) f (own_section_rows c f s).value
section-rows c f s =
    let e : Makes Place = only_gives (type_of_qual c s.of) in
    let d : Context = with_rows c e.rows in
    let a : Makes Place = open_array_row d s.of.first.at s.is_open e.value in
    names-rows (with_rows d a.rows) s e.value a.value f s.names

sections-rows : (c : Context) (f : Placing) (ss : List Section) → Copies (parameter_count ss) f (own_sections_rows c f ss).value
sections-rows c f [] = as_was (length f.copies)
sections-rows c f (s ∷ ss) =
    let m : Makes Placing = own_section_rows c f s in
    let d : Context = with_rows c m.rows in
    onwards (length f.copies) (length m.value.copies) (length (own_sections_rows d m.value ss).value.copies) (length s.names) (parameter_count ss)
    (section-rows c f s) (sections-rows d m.value ss)

-- the parameters of an item
abbrev params_in : Item → ℕ
params_in (heading_item h) = parameter_count h.sections
params_in item = 0

abbrev all_params : List Item → ℕ
all_params [] = 0
all_params (x ∷ xs) = params_in x + all_params xs

from_none : (a b : ℕ) → a ≤ 0 + b → a ≤ b
from_none a b f = omega (arith, f)

item-copies : (c : Context) (kind : StreamKind) (x : Item) (cell : ℕ) → length (declare c kind x cell).value.prologue ≤ params_in x
item-copies c kind (heading_item h) cell =
    let f : Placing = placing 0 (capped (parameter_cells h.sections)) [] in
    from_none (length (own_sections_rows c f h.sections).value.copies) (parameter_count h.sections) (sections-rows c f h.sections)
item-copies c kind (import_item from i) cell = omega arith
item-copies c kind (const_item i value) cell = omega arith
item-copies c kind (type_item i typ) cell = omega arith
item-copies c kind (vars_item names typ) cell = omega arith
item-copies c kind (proc_item h stream) cell = omega arith

added : (x y z m n : ℕ) → z ≡ x + y → x ≤ m → y ≤ n → z ≤ m + n
added x y z m n e f g = omega (arith, e, f, g)

items-copies : (c : Context) (kind : StreamKind) (i cell : ℕ) (xs : List Item) → length (declare_items c kind i cell xs).value.prologue ≤ all_params xs
items-copies c kind i cell [] = omega arith
items-copies c kind i cell (x ∷ xs) =
    let m : Makes Effect = declare (at_item c i) kind x cell in
    let d : Context = brought_in (with_rows c m.rows) m.value.brought in
    let rest : List ParamCopy = (declare_items d kind (i + 1) m.value.cell xs).value.prologue in
    added (length m.value.prologue) (length rest) (length (m.value.prologue ++ rest)) (params_in x) (all_params xs)
    (length-append m.value.prologue rest) (item-copies (at_item c i) kind x cell) (items-copies d kind (i + 1) m.value.cell xs)

-- only a heading has parameters
params-append : (a b : List Item) → all_params (a ++ b) ≡ all_params a + all_params b
params-append [] b = omega arith
params-append (x ∷ a) b = let e = params-append a b in omega (arith, e)

names-none : (from : Option Ident) (names : List Ident) → all_params (map (λ n. import_item from n) names) ≡ 0
names-none from [] = refl
names-none from (n ∷ names) = let e = names-none from names in omega (arith, e)

imports-none : (is : List Import) → all_params (flat_map import_items is) ≡ 0
imports-none [] = refl
imports-none (i ∷ is) =
    let e = params-append (import_items i) (flat_map import_items is) in
    let f = names-none i.from i.names in
    let g = imports-none is in omega (arith, e, f, g)

decl-none : (d : Decl) → params_in (decl_item d) ≡ 0
decl-none (const_decl name value) = refl
decl-none (type_decl name typ) = refl
decl-none (vars_decl names typ) = refl
decl-none (proc_decl heading stream) = refl

decls-none : (ds : List Decl) → all_params (map decl_item ds) ≡ 0
decls-none [] = refl
decls-none (d ∷ ds) = let e = decl-none d in let f = decls-none ds in omega (arith, e, f)

heading-params : (h : Option Heading) → all_params (heading_items h) ≡ parameters_of h
heading-params None = refl
heading-params (Some h) = omega arith

in_all : (a b d k t x y : ℕ) → x ≡ y + d → y ≡ a + b → a ≡ k → b ≡ 0 → d ≡ 0 → t ≤ x → t ≤ k
in_all a b d k t x y e f g h i j = omega (arith, e, f, g, h, i, j)

-- one at most is copied for each name of a parameter
block-copies : (source : Source) (before : List (List Row)) (b : BlockTree) → length (declare_block source before b).value.prologue ≤ parameters_of b.tree.heading
unfolding declare_block
block-copies source before b =
    let cell : ℕ = first_cell (scene_of before b.block) b.tree.kind b.block.own in
    let c : Context = context_of source before b in
    let heading : List Item = heading_items b.tree.heading in
    let imports : List Item = flat_map import_items b.tree.imports in
    let decls : List Item = map decl_item b.tree.decls in
    in_all (all_params heading) (all_params imports) (all_params decls) (parameters_of b.tree.heading)
    (length (declare_items c b.tree.kind 0 cell (items_of b.tree)).value.prologue) (all_params (heading ++ imports ++ decls)) (all_params (heading ++ imports))
    (params-append (heading ++ imports) decls) (params-append heading imports)
    (heading-params b.tree.heading) (imports-none b.tree.imports) (decls-none b.tree.decls) (items-copies c b.tree.kind 0 cell (items_of b.tree))

copy-short : (p : ParamCopy) → IsShort 24 (copy_code p)
copy-short (own_copy own cell size) = plain-short (Local 0 own ∷ Local 0 cell ∷ Load ∷ Move size ∷ []) 24 refl
copy-short (open_copy cell elem) = plain-short (OpenCopy cell elem ∷ []) 24 refl

per_copy : (x n : ℕ) → x ≤ 24 + 24 * n → x ≤ 24 * suc n
per_copy x n f = omega (arith, f)

prologue-short : (ps : List ParamCopy) → IsShort (24 * length ps) (prologue ps)
prologue-short [] = none-short 0
prologue-short (p ∷ ps) = λ at.
    per_copy (steps_size ((copy_code p ⨟ prologue ps) at).code) (length ps)
    (short-then (copy_code p) (prologue ps) 24 (24 * length ps) (copy-short p) (prologue-short ps) at)

copied : (x n k : ℕ) → x ≤ 24 * n → n ≤ k → x + 0 ≤ 64 * k
copied x n k f g = omega (arith, f, g)

ending-short : (h : Option Heading) → IsShort 2 (ending h)
ending-short None = call-short Return 0 0 2 (omega arith)
ending-short (Some h) =
    both_ways (IsShort 2) (result_cells h.result == 0) return_code (plain (Trap 7 ∷ [])) (call-short Return 0 0 2 (omega arith)) (plain-short (Trap 7 ∷ []) 2 refl)

summed : (x p s : ℕ) → x + 0 ≤ 64 * (p + (s + 1)) → x ≤ 64 * (p + s + 1)
summed x p s f = omega (arith, f)

-- a block's code, whatever its statements made, has so many bytes at most for each token
pub run-short : (source : Source) (before : List (List Row)) (b : BlockTree) (body : Flow) → FlowSpares 0 (statements_tokens b.tree.body) body
    → steps_size ((run_of b (declare_block source before b).value body).code 0) ≤ 64 * block_tokens b.tree
run-short source before b body g =
    let e : BlockEffects = (declare_block source before b).value in
    let k : ℕ = parameters_of b.tree.heading in
    let n : ℕ = statements_tokens b.tree.body in
    let last : Flow = straight (ending b.tree.heading) in
    summed (steps_size ((run_of b e body).code 0)) k n
    (then-spares (straight (prologue e.prologue)) (body ⨾ last) 0 0 k (n + 1)
    (straight-spares (prologue e.prologue) 0 k (λ at.
    copied (steps_size (prologue e.prologue at).code) (length e.prologue) k (prologue-short e.prologue at) (block-copies source before b)))
    (then-spares body last 0 0 n 1 g
    (straight-spares (ending b.tree.heading) 0 1 (spares-short (ending b.tree.heading) 2 0 1 refl (omega arith) (ending-short b.tree.heading))))
    (first_spot b.tree.kind e) 0)

spelled : (x y z u v : ℕ) → z ≡ x + y → x ≡ u → y ≡ v → z ≡ u + v
spelled x y z u v e f g = omega (arith, e, f, g)

-- the bytes of instructions are as many as their sizes say
pub length-code : (ss : List Step) → length (code_bytes (map (λ s. s.instr) ss)) ≡ steps_size ss
length-code [] = refl
length-code (s ∷ ss) =
    let rest : List ℕ = code_bytes (map (λ s. s.instr) ss) in
    spelled (length (spelling s.instr)) (length rest) (length (spelling s.instr ++ rest)) (size s.instr) (steps_size ss)
    (length-append (spelling s.instr) rest) (length-spelling s.instr) (length-code ss)

pub below : (x y n : ℕ) → x ≡ y → y ≤ 64 * n → n ≤ 1048576 → x < 2 ^ 31
below x y n e f g = omega (arith, e, f, g)
