-- What imports bring: a block whose stream has no word FROM before its BEGIN brings nothing, and there is room for what others bring.
use Rattle.std.proofs.Common.{◌≡◌, ◌∙◌, ◌⊎◌, inl, inr, ℕ, Bool, true, false, ◌||◌, ◌+◌, ◌≤◌, List, [], ◌∷◌, ◌++◌, refl, sym, ap, length, length-append, map, flat_map, take, drop, arith, Option, Some, None, is_some, if◌then◌else◌}
use Rattle.std.specs.List.{AllZip, list_any}
use Rattle.std.proofs.lemmas.Bool.{false≢true}
use Rattle.std.proofs.lemmas.List.{length-map, take-append-drop}
use Rattle.std.proofs.lemmas.List.Concat.{flat_map-append}
use Rattle.std.proofs.lemmas.List.Folds.{list_any-append}
use Rattle.ll_grammar.specs.Derivations.{Tree, both, tokens, Derives, of_empty, of_token, of_then, of_left, of_right, of_last, of_more}
use Rattle.ll_grammar.specs.Grammar.{many}
use Rattle.ll_grammar.specs.LookAhead.{member}
use Rattle.m2_base.specs.declared.kind.TokenKind.{TokenKind}
use Rattle.m2_base.specs.declared.kind.TokenKind.TheVariants.{From}
use Rattle.m2_base.specs.declared.limits.TheConstants.{MOST_BROUGHT}
use Rattle.m2_base.specs.declared.sites.Named.{Named}
use Rattle.m2_base.specs.declared.token.Token.{Token}
use Rattle.m2_base.specs.declared.trees.Ident.{Ident}
use Rattle.m2_base.specs.declared.trees.declarations.StreamKind.{StreamKind}
use Rattle.m2_base.specs.declared.trees.declarations.StreamKind.TheVariants as streams
use Rattle.m2_base.specs.Grammar.{grammar, from, imported, procedure_cut, main, definition, procedure_stream, stream}
use Rattle.m2_base.specs.KindNumbers.{kind_number}
use Rattle.m2_base.specs.Statics.Bringing.{BringsIts, HaveBrought, may_bring}
use Rattle.m2_base.specs.Statics.Items.{Item, decl_item, import_item, import_items, items_of}
use Rattle.m2_base.specs.Statics.Layouts.{all_brought, brought_shape, laid_shapes, with_brought}
use Rattle.m2_base.specs.Statics.Shapes.{Shape, item_shapes}
use Rattle.m2_base.specs.StreamsOf as trees
use Rattle.m2_base.specs.Trees.{Decl, Stream, const_decl, proc_decl, type_decl, vars_decl}
use Rattle.stream_split.specs.Agreement.{SpellsStream, SpellsStreams}
use Rattle.stream_split.specs.Rooms.{most_brought, most_rows, most_rows_of_scopes}
use Rattle.stream_split.specs.Sizes.{before_begin, brought_room, has_from, is_from, room_of, sizes_of}
use Rattle.stream_split.specs.Streams.{StreamOf}
use Rattle.stream_split.proofs.BeforeBegin.{Stand, definition_stand, main_stand, rows_few}
use Rattle.stream_split.proofs.RowCounts.{rows_are_shapes, stream_declares}

-- ** One or the other

one_of : (a b : Bool) → (a || b) ≡ true → (a ≡ true) ⊎ (b ≡ true)
one_of true b e = inl refl
one_of false b e = inr e

first_not : (a b : Bool) → (a || b) ≡ false → a ≡ false
first_not true b e = e
first_not false b e = refl

second_not : (a b : Bool) → (a || b) ≡ false → b ≡ false
second_not true b e = absurd (false≢true (sym e))
second_not false b e = e

or_true : (a : Bool) → (a || true) ≡ true
or_true true = refl
or_true false = refl

-- ** Where the word FROM stands

from_word : (k : TokenKind) → member (kind_number k) (kind_number From ∷ []) ≡ true → is_from k ≡ true
from_word From e = refl
from_word _ e = absurd (false≢true e)

from_left : (xs ys : List Token) → has_from xs ≡ true → has_from (xs ++ ys) ≡ true
from_left xs ys e = list_any-append (λ (t : Token). is_from t.kind) xs ys ∙ ap (λ b. b || has_from ys) e

from_right : (xs ys : List Token) → has_from ys ≡ true → has_from (xs ++ ys) ≡ true
from_right xs ys e = list_any-append (λ (t : Token). is_from t.kind) xs ys ∙ ap (λ b. has_from xs || b) e ∙ or_true (has_from xs)

from_there : {d : Tree Token} → Derives grammar from d → is_some (trees.from_of d) ≡ true → has_from (tokens d) ≡ true
from_there (of_left (of_then (of_token {t = t} g) (of_token {t = i} h))) e = ap (λ b. b || (is_from i.kind || false)) (from_word t.kind g)
from_there (of_right of_empty) e = absurd (false≢true e)

-- in the first of two parts before BEGIN
from_before : {x y : Tree Token} {ts : List Token} → Stand x y ts → has_from (tokens x) ≡ true → has_from (before_begin ts) ≡ true
from_before {x} {y} p e =
    let rest : List Token = p.between ++ (tokens y ++ p.behind) in
    ap has_from p.are ∙ from_right (p.one ∷ p.two ∷ p.three ∷ p.ahead) (tokens x ++ rest) (from_left (tokens x) rest e)

-- ** Which items bring

-- one of these items is a name of a module
abbrev bring : List Item → Bool
bring items = list_any may_bring items

names_bring : (from : Option Ident) (names : List Ident) → bring (map (λ n. import_item from n) names) ≡ true → is_some from ≡ true
names_bring (Some m) names e = refl
names_bring None [] e = absurd (false≢true e)
names_bring None (n ∷ names) e = names_bring None names e

imports_bring : {d : Tree Token} → Derives grammar (many imported) d → bring (flat_map import_items (trees.imports_of d)) ≡ true → has_from (tokens d) ≡ true
imports_bring of_last e = absurd (false≢true e)
imports_bring (of_more {d = i} {ds = is} (of_then {d = module_name} {e = behind} f (of_then (of_token g) (of_then {d = names} h (of_token s)))) k) e =
    by (λ later. imports_bring k later)
    (one_of (bring (import_items (trees.import_of i))) (bring (flat_map import_items (trees.imports_of is)))
    (sym (list_any-append may_bring (import_items (trees.import_of i)) (flat_map import_items (trees.imports_of is))) ∙ e))
  where
    by : (bring (flat_map import_items (trees.imports_of is)) ≡ true → has_from (tokens is) ≡ true)
        → (bring (import_items (trees.import_of i)) ≡ true) ⊎ (bring (flat_map import_items (trees.imports_of is)) ≡ true) → has_from (tokens i ++ tokens is) ≡ true
    by more (inl here) =
        from_left (tokens i) (tokens is) (from_left (tokens module_name) (tokens behind)
        (from_there f (names_bring (trees.from_of module_name) (trees.import_of i).names here)))
    by more (inr later) = from_right (tokens i) (tokens is) (more later)

decls_bring : (ds : List Decl) → bring (map decl_item ds) ≡ false
decls_bring [] = refl
decls_bring (const_decl name value ∷ ds) = decls_bring ds
decls_bring (type_decl name typ ∷ ds) = decls_bring ds
decls_bring (vars_decl names typ ∷ ds) = decls_bring ds
decls_bring (proc_decl heading stream ∷ ds) = decls_bring ds

-- of a module only its imports bring
module_brings : (imports : List Item) (ds : List Decl) → bring (imports ++ map decl_item ds) ≡ true → bring imports ≡ true
module_brings imports ds e = by (one_of (bring imports) (bring (map decl_item ds)) (sym (list_any-append may_bring imports (map decl_item ds)) ∙ e))
  where
    by : (bring imports ≡ true) ⊎ (bring (map decl_item ds) ≡ true) → bring imports ≡ true
    by (inl here) = here
    by (inr later) = absurd (false≢true (sym (decls_bring ds) ∙ later))

main_brings : {d : Tree Token} → Derives grammar (main procedure_cut) d → bring (items_of (trees.main_of d [])) ≡ true → has_from (before_begin (tokens d)) ≡ true
main_brings (of_then m (of_then w (of_then i (of_then s (of_then {d = is} h (of_then (of_then {d = ds} {e = b} k (of_then x (of_then y v))) (of_then {d = p} {e = z} l n))))))) e =
    from_before (main_stand (tokens b) (tokens (both p z)) m w i s h k) (imports_bring h (module_brings (flat_map import_items (trees.imports_of is)) (trees.declarations_of ds) e))

definition_brings : {d : Tree Token} → Derives grammar definition d → bring (items_of (trees.definition_of d [])) ≡ true → has_from (before_begin (tokens d)) ≡ true
definition_brings (of_then m (of_then w (of_then i (of_then s (of_then {d = is} h (of_then x (of_then {d = ds} {e = rest} k (of_then l (of_then n (of_then p z)))))))))) e =
    from_before (definition_stand (tokens rest) m w i s h x k) (imports_bring h (module_brings (flat_map import_items (trees.imports_of is)) (trees.definition_declarations_of ds) e))

procedure_brings : {d : Tree Token} → Derives grammar procedure_stream d → bring (items_of (trees.procedure_stream_of d [])) ≡ false
procedure_brings (of_then h (of_then s (of_then {d = b} k (of_then {d = p} {e = z} l n)))) = decls_bring (trees.block_of b (tokens (both p z) ++ [])).decls

-- ** Rooms

most_by : (b : Bool) → (if b then MOST_BROUGHT else 0) ≤ MOST_BROUGHT
most_by true = omega arith
most_by false = omega arith

room_by : (kind : StreamKind) (from b : Bool) → (b ≡ true → brought_room kind from ≡ MOST_BROUGHT) → (if b then MOST_BROUGHT else 0) ≤ brought_room kind from
room_by kind from true h = let e = h refl in omega (arith, e)
room_by kind from false h = omega arith

stream_brings : (kind : StreamKind) {d : Tree Token} → Derives grammar (stream kind) d → most_brought (items_of (trees.stream_of kind d [])) ≤ brought_room kind (has_from (before_begin (tokens d)))
stream_brings streams.Main {d} h = room_by streams.Main (has_from (before_begin (tokens d))) (bring (items_of (trees.main_of d []))) (λ e. ap (brought_room streams.Main) (main_brings h e))
stream_brings streams.Definition {d} h =
    room_by streams.Definition (has_from (before_begin (tokens d))) (bring (items_of (trees.definition_of d []))) (λ e. ap (brought_room streams.Definition) (definition_brings h e))
stream_brings streams.Procedure {d} h =
    room_by streams.Procedure (has_from (before_begin (tokens d))) (bring (items_of (trees.procedure_stream_of d []))) (λ e. absurd (false≢true (sym (procedure_brings h) ∙ e)))

-- there is room for what a stream's tree declares and what its imports bring
pub stream_most : (tree : Stream) (s : StreamOf) → SpellsStream tree s → most_rows tree ≤ room_of s
stream_most tree s h =
    let i = stream_declares tree s h in
    let j = stream_brings s.kind h.sentence.derives in
    let k = ap (λ (ts : List Token). brought_room s.kind (has_from (before_begin ts))) h.sentence.spells in
    let l = ap (λ (t : Stream). most_brought (items_of t)) h.gives in
    omega (arith, i, j, k, l)

pub scopes_most : (trees : List Stream) (streams : List StreamOf) → SpellsStreams trees streams → AllZip (λ rows room. rows ≤ room) (most_rows_of_scopes trees) (sizes_of streams)
scopes_most trees streams h = (omega arith, on trees streams h)
  where
    on : (trees : List Stream) (streams : List StreamOf) → SpellsStreams trees streams → AllZip (λ rows room. rows ≤ room) (map most_rows trees) (map room_of streams)
    on [] [] h = tt
    on [] (s ∷ ss) h = absurd h
    on (t ∷ ts) [] h = absurd h
    on (t ∷ ts) (s ∷ ss) h = (stream_most t s h.0, on ts ss h.1)

-- a room has few rows more than its stream has tokens
pub room_over : (s : StreamOf) → room_of s ≤ length s.tokens + MOST_BROUGHT
room_over s =
    let rows = rows_few s.tokens in
    let most = by s.kind (has_from (before_begin s.tokens)) in
    omega (arith, rows, most)
  where
    by : (kind : StreamKind) (from : Bool) → brought_room kind from ≤ MOST_BROUGHT
    by streams.Procedure from = omega arith
    by streams.Main true = omega arith
    by streams.Main false = omega arith
    by streams.Definition true = omega arith
    by streams.Definition false = omega arith

-- ** Rows with those that are brought

pub with_count : (shapes : List Shape) (brought : List Named) → length (with_brought shapes brought) ≡ length shapes + length brought
with_count shapes [] = omega arith
with_count shapes (b ∷ brought) =
    let l = length-append shapes (brought_shape b ∷ map brought_shape brought) in
    let m = length-map brought brought_shape in
    omega (arith, l, m)

pub laid_count : (items : List Item) (brought : List (List Named)) → AllZip BringsIts items brought → length (laid_shapes items brought) ≡ length (flat_map item_shapes items) + length (all_brought brought)
laid_count [] [] h = refl
laid_count [] (b ∷ brought) h = absurd h
laid_count (x ∷ items) [] h = absurd h
laid_count (x ∷ items) (b ∷ brought) h =
    let i = laid_count items brought h.1 in
    let w = with_count (item_shapes x) b in
    let l = length-append (with_brought (item_shapes x) b) (laid_shapes items brought) in
    let m = length-append (item_shapes x) (flat_map item_shapes items) in
    let n = length-append b (all_brought brought) in
    omega (arith, i, w, l, m, n)

none_brought : (items : List Item) (brought : List (List Named)) → AllZip BringsIts items brought → bring items ≡ false → length (all_brought brought) ≡ 0
none_brought [] [] h e = refl
none_brought [] (b ∷ brought) h e = absurd h
none_brought (x ∷ items) [] h e = absurd h
none_brought (x ∷ items) (b ∷ brought) h e =
    let first = ap length (h.0 (first_not (may_bring x) (bring items) e)) in
    let rest = none_brought items brought h.1 (second_not (may_bring x) (bring items) e) in
    let n = length-append b (all_brought brought) in
    omega (arith, first, rest, n)

brought_few : (items : List Item) (brought : List (List Named)) → HaveBrought items brought → length (all_brought brought) ≤ most_brought items
brought_few items brought h = by (bring items) refl
  where
    by : (b : Bool) → bring items ≡ b → length (all_brought brought) ≤ most_brought items
    by true e = let most = ap (λ c. if c then MOST_BROUGHT else 0) e in let few = h.few in omega (arith, most, few)
    by false e = let none = none_brought items brought h.each e in omega (arith, none)

most_more : (xs ys : List Item) → most_brought xs ≤ most_brought (xs ++ ys)
most_more xs ys = by (bring xs) refl
  where
    by : (b : Bool) → bring xs ≡ b → most_brought xs ≤ most_brought (xs ++ ys)
    by true e =
        let some = ap (λ c. if c then MOST_BROUGHT else 0) e in
        let all = ap (λ c. if c then MOST_BROUGHT else 0) (list_any-append may_bring xs ys ∙ ap (λ c. c || bring ys) e) in
        omega (arith, some, all)
    by false e = let none = ap (λ c. if c then MOST_BROUGHT else 0) e in omega (arith, none)

-- the first items of a block have no more rows than the block
pub laid_few : (tree : Stream) (count : ℕ) (brought : List (List Named)) → HaveBrought (take count (items_of tree)) brought
    → length (laid_shapes (take count (items_of tree)) brought) ≤ most_rows tree
laid_few tree count brought h =
    let first = take count (items_of tree) in
    let rest = drop count (items_of tree) in
    let all : items_of tree ≡ first ++ rest = sym (take-append-drop count (items_of tree)) in
    let n = laid_count first brought h.each in
    let few = brought_few first brought h in
    let more = most_more first rest in
    let most = ap most_brought all in
    let rows = rows_are_shapes tree in
    let c = ap (λ (xs : List Item). length (flat_map item_shapes xs)) all in
    let g = ap length (flat_map-append item_shapes first rest) in
    let l = length-append (flat_map item_shapes first) (flat_map item_shapes rest) in
    omega (arith, n, few, more, most, rows, c, g, l)

-- nor have all of them
pub laid_most : (tree : Stream) (brought : List (List Named)) → HaveBrought (items_of tree) brought → length (laid_shapes (items_of tree) brought) ≤ most_rows tree
laid_most tree brought h =
    let n = laid_count (items_of tree) brought h.each in
    let few = brought_few (items_of tree) brought h in
    let rows = rows_are_shapes tree in
    omega (arith, n, few, rows)
