-- A block declares no more rows than there are tokens before its BEGIN with which a row may come.
use Rattle.std.proofs.Common.{◌≡◌, ℕ, List, [], ◌∷◌, ◌++◌, refl, ap, length, length-append, ◌≤◌, ◌+◌, arith, map, flat_map, Option}
use Rattle.std.proofs.lemmas.List.{length-map}
use Rattle.m2_base.specs.declared.kind.TokenKind.TheVariants as kinds
use Rattle.m2_base.specs.declared.kind.TokenKind.TheVariants.{Semicolon}
use Rattle.m2_base.specs.declared.token.Token.{Token}
use Rattle.m2_base.specs.declared.trees.declarations.StreamKind.{StreamKind}
use Rattle.m2_base.specs.declared.trees.declarations.StreamKind.TheVariants as streams
use Rattle.m2_base.specs.ExpressionsOf.{ident_of_token, idents_of, qual_of}
use Rattle.m2_base.specs.Grammar.{grammar, levels, a, section, parameters, heading, constant, variables, type_declaration, defined_type, declaration, definition_declaration, procedure_cut, block, main, definition, procedure_stream, imported, stream}
use Rattle.m2_base.specs.Grammar as rules
use Rattle.m2_base.specs.Rows.{var_kind, param_kind, proc_kind, proc_type_kind, type_name_kind}
use Rattle.m2_base.specs.Statics.Items.{Item, proc_item, import_item, import_items, decl_item, items_of}
use Rattle.m2_base.specs.Statics.Layouts.{firsts_from}
use Rattle.m2_base.specs.Statics.Shapes.{Shape, nameless, named, open_shapes, own_section_shapes, section_shapes, item_shapes, type_shapes}
use Rattle.m2_base.specs.StreamsOf as trees
use Rattle.m2_base.specs.declared.trees.Ident.{Ident}
use Rattle.m2_base.specs.Trees.{Section, Decl, Stream}
use Rattle.m2_base.specs.TypesOf.{type_of}
use Rattle.ll_grammar.specs.Derivations.{Tree, both, tokens, Derives, of_empty, of_token, of_then, of_left, of_right, of_last, of_more}
use Rattle.ll_grammar.specs.Grammar.{many, optional, ◌⨾◌}
use Rattle.stream_split.specs.Agreement.{SpellsStream}
use Rattle.stream_split.specs.Rooms.{last_of, rows_of}
use Rattle.stream_split.specs.Sizes.{before_begin, declared_room}
use Rattle.stream_split.specs.Streams.{StreamOf}
use Rattle.stream_split.proofs.BeforeBegin.{both_counted, definition_stand, lone_stand, main_stand, procedure_stand, rows_few}
use Rattle.stream_split.proofs.TypeSizes.{makers, idents_made, name_made, one_made, open_made, type_made}

-- ** How many rows items have

abbrev pub count : List Item → ℕ
count [] = 0
count (x ∷ xs) = length (item_shapes x) + count xs

count_append : (xs ys : List Item) → count (xs ++ ys) ≡ count xs + count ys
count_append [] ys = omega arith
count_append (x ∷ xs) ys = let i = count_append xs ys in omega (arith, i)

count_is : (xs : List Item) → length (flat_map item_shapes xs) ≡ count xs
count_is [] = refl
count_is (x ∷ xs) = let i = count_is xs in let l = length-append (item_shapes x) (flat_map item_shapes xs) in omega (arith, i, l)

firsts_last : (o : ℕ) (xs : List Item) → last_of (firsts_from o xs) ≡ o + count xs
firsts_last o [] = omega arith
firsts_last o (x ∷ xs) = let i = firsts_last (o + length (item_shapes x)) xs in let e = passed_over (o + length (item_shapes x)) xs in omega (arith, i, e)
  where
    passed_over : (p : ℕ) (xs : List Item) → last_of (o ∷ firsts_from p xs) ≡ last_of (firsts_from p xs)
    passed_over p [] = refl
    passed_over p (y ∷ ys) = refl

rows_are : (tree : Stream) → rows_of tree ≡ count (items_of tree)
rows_are tree = let i = firsts_last 0 (items_of tree) in omega (arith, i)

-- as many as its items' shapes
pub rows_are_shapes : (tree : Stream) → rows_of tree ≡ length (flat_map item_shapes (items_of tree))
rows_are_shapes tree = let i = rows_are tree in let j = count_is (items_of tree) in omega (arith, i, j)

-- ** Headings

-- both scopes of a heading have these rows of a section
abbrev section_rows : Section → ℕ
section_rows s = length (open_shapes s.is_open s.of) + length s.names

section_made : {d : Tree Token} → Derives grammar section d → section_rows (trees.section_of d) ≤ makers d
section_made (of_then v (of_then h (of_then (of_token g) (of_then {e = q} o k)))) =
    let i = idents_made h in
    let j = open_made o (qual_of q) in
    omega (arith, i, j)

module _ (shapes : Section → List Shape) (counted : (s : Section) → length (shapes s) ≤ section_rows s) where
  more_sections_made : {d : Tree Token} → Derives grammar (many (a Semicolon ⨾ section)) d → length (flat_map shapes (trees.more_sections_of d)) ≤ makers d
  more_sections_made of_last = omega arith
  more_sections_made (of_more {ds = ss} (of_then {e = s} (of_token g) h) k) =
      let i = section_made h in
      let c = counted (trees.section_of s) in
      let j = more_sections_made k in
      let l = length-append (shapes (trees.section_of s)) (flat_map shapes (trees.more_sections_of ss)) in
      omega (arith, i, c, j, l)

  sections_made : {d : Tree Token} → Derives grammar (optional (rules.list section Semicolon)) d → length (flat_map shapes (trees.sections_of d)) ≤ makers d
  sections_made (of_left (of_then {d = s} {e = ss} h k)) =
      let i = section_made h in
      let c = counted (trees.section_of s) in
      let j = more_sections_made k in
      let l = length-append (shapes (trees.section_of s)) (flat_map shapes (trees.more_sections_of ss)) in
      omega (arith, i, c, j, l)
  sections_made (of_right of_empty) = omega arith

  parameters_made : {d : Tree Token} → Derives grammar parameters d → length (flat_map shapes (trees.parameters_of d).0) ≤ makers d
  parameters_made (of_left (of_then (of_token g) (of_then h (of_then (of_token z) k)))) = let i = sections_made h in omega (arith, i)
  parameters_made (of_right of_empty) = omega arith

  -- PROCEDURE and the name are two further tokens
  heading_made : {d : Tree Token} → Derives grammar heading d → length (flat_map shapes (trees.heading_of d).sections) + 2 ≤ makers d
  heading_made (of_then (of_token {t = p} g) (of_then (of_token {t = n} h) k)) =
      let i = parameters_made k in
      let word = one_made kinds.Procedure refl p.kind g in
      let name = name_made n.kind h in
      omega (arith, i, word, name)

own_counted : (s : Section) → length (own_section_shapes s) ≤ section_rows s
own_counted s =
    let l = length-append (open_shapes s.is_open s.of) (map (named var_kind) s.names) in
    let m = length-map s.names (named var_kind) in
    omega (arith, l, m)

outer_counted : (s : Section) → length (section_shapes s) ≤ section_rows s
outer_counted s =
    let l = length-append (open_shapes s.is_open s.of) (map (λ (i : Ident). nameless param_kind i.at) s.names) in
    let m = length-map s.names (λ i. nameless param_kind i.at) in
    omega (arith, l, m)

procedure_made : {d : Tree Token} → Derives grammar heading d → (stream : ℕ) → length (item_shapes (proc_item (trees.heading_of d) stream)) ≤ makers d
procedure_made {d} h stream =
    let i = heading_made section_shapes outer_counted h in
    let l = length-append (flat_map section_shapes (trees.heading_of d).sections) (nameless proc_type_kind (trees.heading_of d).name.at ∷ named proc_kind (trees.heading_of d).name ∷ []) in
    omega (arith, i, l)

-- ** Declarations

abbrev declared : List Decl → ℕ
declared ds = count (map decl_item ds)

declared_append : (xs ys : List Decl) → declared (xs ++ ys) ≡ declared xs + declared ys
declared_append [] ys = omega arith
declared_append (x ∷ xs) ys = let i = declared_append xs ys in omega (arith, i)

constants_made : {d : Tree Token} → Derives grammar (many constant) d → declared (trees.constants_of d) ≤ makers d
constants_made of_last = omega arith
constants_made (of_more (of_then (of_token {t = t} g) (of_then (of_token e) (of_then h (of_token s)))) k) = let i = constants_made k in let n = name_made t.kind g in omega (arith, i, n)

types_made : {d : Tree Token} → Derives grammar (many type_declaration) d → declared (trees.type_declarations_of d) ≤ makers d
types_made of_last = omega arith
types_made (of_more (of_then (of_token {t = i} g) (of_then (of_token e) (of_then {d = t} h (of_token s)))) k) =
    let j = type_made h in
    let r = types_made k in
    let n = name_made i.kind g in
    let l = length-append (type_shapes (type_of t)) (named type_name_kind (ident_of_token i) ∷ []) in
    omega (arith, j, r, n, l)

defined_types_made : {d : Tree Token} → Derives grammar (many defined_type) d → declared (trees.defined_types_of d) ≤ makers d
defined_types_made of_last = omega arith
defined_types_made (of_more (of_then (of_token {t = i} g) (of_then (of_left (of_then {e = t} (of_token e) h)) (of_token s))) k) =
    let j = type_made h in
    let r = defined_types_made k in
    let n = name_made i.kind g in
    let l = length-append (type_shapes (type_of t)) (named type_name_kind (ident_of_token i) ∷ []) in
    omega (arith, j, r, n, l)
defined_types_made (of_more (of_then (of_token {t = i} g) (of_then (of_right of_empty) (of_token {t = t} s))) k) =
    let r = defined_types_made k in
    let n = name_made i.kind g in
    let o = one_made Semicolon refl t.kind s in
    omega (arith, r, n, o)

variables_made : {d : Tree Token} → Derives grammar (many variables) d → declared (trees.all_variables_of d) ≤ makers d
variables_made of_last = omega arith
variables_made (of_more (of_then {d = is} h (of_then (of_token g) (of_then {d = t} j (of_token s)))) k) =
    let i = idents_made h in
    let m = type_made j in
    let r = variables_made k in
    let l = length-append (type_shapes (type_of t)) (map (named var_kind) (idents_of is)) in
    let n = length-map (idents_of is) (named var_kind) in
    omega (arith, i, m, r, l, n)

declaration_made : {d : Tree Token} → Derives grammar (declaration procedure_cut) d → declared (trees.declaration_of d) ≤ makers d
declaration_made (of_left (of_then (of_token g) h)) = let i = constants_made h in omega (arith, i)
declaration_made (of_right (of_left (of_then (of_token g) h))) = let i = types_made h in omega (arith, i)
declaration_made (of_right (of_right (of_left (of_then (of_token g) h)))) = let i = variables_made h in omega (arith, i)
declaration_made (of_right (of_right (of_right (of_then h (of_then (of_token g) (of_token {t = c} k)))))) = let i = procedure_made h c.value in omega (arith, i)

declarations_made : {d : Tree Token} → Derives grammar (many (declaration procedure_cut)) d → declared (trees.declarations_of d) ≤ makers d
declarations_made of_last = omega arith
declarations_made (of_more {d = d} {ds = ds} h k) =
    let i = declaration_made h in
    let j = declarations_made k in
    let l = declared_append (trees.declaration_of d) (trees.declarations_of ds) in
    omega (arith, i, j, l)

definition_made : {d : Tree Token} → Derives grammar definition_declaration d → declared (trees.definition_declaration_of d) ≤ makers d
definition_made (of_left (of_then (of_token g) h)) = let i = constants_made h in omega (arith, i)
definition_made (of_right (of_left (of_then (of_token g) h))) = let i = defined_types_made h in omega (arith, i)
definition_made (of_right (of_right (of_left (of_then (of_token g) h)))) = let i = variables_made h in omega (arith, i)
definition_made (of_right (of_right (of_right (of_then h (of_token g))))) = let i = procedure_made h 0 in omega (arith, i)

definitions_made : {d : Tree Token} → Derives grammar (many definition_declaration) d → declared (trees.definition_declarations_of d) ≤ makers d
definitions_made of_last = omega arith
definitions_made (of_more {d = d} {ds = ds} h k) =
    let i = definition_made h in
    let j = definitions_made k in
    let l = declared_append (trees.definition_declaration_of d) (trees.definition_declarations_of ds) in
    omega (arith, i, j, l)

-- ** Imports

names_count : (from : Option Ident) (names : List Ident) → count (map (λ n. import_item from n) names) ≡ length names
names_count from [] = refl
names_count from (n ∷ names) = let i = names_count from names in omega (arith, i)

imports_made : {d : Tree Token} → Derives grammar (many imported) d → count (flat_map import_items (trees.imports_of d)) ≤ makers d
imports_made of_last = omega arith
imports_made (of_more {ds = is} (of_then {d = from} f (of_then (of_token g) (of_then {d = names} h (of_token s)))) k) =
    let i = idents_made h in
    let j = imports_made k in
    let n = names_count (trees.from_of from) (idents_of names) in
    let l = count_append (map (λ n. import_item (trees.from_of from) n) (idents_of names)) (flat_map import_items (trees.imports_of is)) in
    omega (arith, i, j, n, l)

-- ** Streams

-- before its BEGIN a stream has as many tokens with which rows may come
abbrev Within : Stream → Tree Token → Type 0
Within tree d = rows_of tree ≤ declared_room (before_begin (tokens d))

main_made : {d : Tree Token} → Derives grammar (main procedure_cut) d → Within (trees.main_of d []) d
main_made {d} (of_then m (of_then w (of_then i (of_then s (of_then {d = is} h (of_then (of_then {d = ds} {e = b} k (of_then x (of_then y v))) (of_then {d = p} {e = z} l n))))))) =
    let e = rows_are (trees.main_of d []) in
    let f = imports_made h in
    let g = declarations_made k in
    let c = count_append (flat_map import_items (trees.imports_of is)) (map decl_item (trees.declarations_of ds)) in
    let r = both_counted (main_stand (tokens b) (tokens (both p z)) m w i s h k) in
    omega (arith, e, f, g, c, r)

definition_rows_made : {d : Tree Token} → Derives grammar definition d → Within (trees.definition_of d []) d
definition_rows_made {d} (of_then m (of_then w (of_then i (of_then s (of_then {d = is} h (of_then x (of_then {d = ds} {e = rest} k (of_then l (of_then n (of_then p z)))))))))) =
    let e = rows_are (trees.definition_of d []) in
    let f = imports_made h in
    let g = definitions_made k in
    let c = count_append (flat_map import_items (trees.imports_of is)) (map decl_item (trees.definition_declarations_of ds)) in
    let r = both_counted (definition_stand (tokens rest) m w i s h x k) in
    omega (arith, e, f, g, c, r)

procedure_rows_made : {d : Tree Token} → Derives grammar procedure_stream d → Within (trees.procedure_stream_of d []) d
procedure_rows_made {d} (of_then (of_then (of_token {t = word} w) (of_then (of_token {t = name} i) (of_left (of_then (of_token {t = opens} o) (of_then h (of_then (of_token {t = closes} c) j)))))) (of_then s (of_then (of_then {d = ds} {e = b} k (of_then x (of_then y v))) (of_then {d = p} {e = z} l n)))) =
    let e = rows_are (trees.procedure_stream_of d []) in
    let f = sections_made own_section_shapes own_counted h in
    let g = declarations_made k in
    let r = both_counted (procedure_stand (tokens b) (tokens (both p z)) (of_then (of_token {t = word} w) (of_then (of_token {t = name} i) (of_left (of_then (of_token {t = opens} o) (of_then h (of_then (of_token {t = closes} c) j)))))) s k) in
    omega (arith, e, f, g, r)
procedure_rows_made {d} (of_then (of_then (of_token {t = word} w) (of_then (of_token {t = name} i) (of_right of_empty))) (of_then s (of_then (of_then {d = ds} {e = b} k (of_then x (of_then y v))) (of_then {d = p} {e = z} l n)))) =
    let e = rows_are (trees.procedure_stream_of d []) in
    let g = declarations_made k in
    let r = both_counted (lone_stand (tokens b) (tokens (both p z)) (of_then (of_token {t = word} w) (of_then (of_token {t = name} i) (of_right of_empty))) s k) in
    omega (arith, e, g, r)

stream_made : (kind : StreamKind) {d : Tree Token} → Derives grammar (stream kind) d → Within (trees.stream_of kind d []) d
stream_made streams.Main h = main_made h
stream_made streams.Definition h = definition_rows_made h
stream_made streams.Procedure h = procedure_rows_made h

pub stream_declares : (tree : Stream) (s : StreamOf) → SpellsStream tree s → rows_of tree ≤ declared_room (before_begin s.tokens)
stream_declares tree s h =
    let i = stream_made s.kind h.sentence.derives in
    let k = ap (λ (ts : List Token). declared_room (before_begin ts)) h.sentence.spells in
    let l = ap rows_of h.gives in
    omega (arith, i, k, l)

pub stream_rows : (tree : Stream) (s : StreamOf) → SpellsStream tree s → rows_of tree ≤ length s.tokens
stream_rows tree s h =
    let i = stream_declares tree s h in
    let j = rows_few s.tokens in
    omega (arith, i, j)
