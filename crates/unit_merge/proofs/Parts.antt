-- What is gathered of outputs is the object that they make.
use Rattle.std.specs.Prelude.{◌≡◌, refl, ℕ, zero, suc, ◌+◌, ◌-◌, ◌<◌, ◌≤◌, ◌==◌, Bool, List, [], ◌∷◌, ◌++◌, drop, length, map, option_map, position, slice_get, slice_index_or, take, Option, Some, None}
use Rattle.std.proofs.Common.{Vec, vec_len, ap, subst, sym, ◌∙◌, arith}
use Rattle.std.specs.List.{AllZip}
use Rattle.std.proofs.lemmas.List.{length-append, length-take-le}
use Rattle.std.proofs.lemmas.List.Quantifiers.{position-Some}
use Rattle.std.proofs.lemmas.Option.{get_or_from_slice_get}
use Rattle.definition_keys.specs.Keys.{Keys}
use Rattle.m2_base.specs.Finished.{main_number, main_tokens, own_scope, scope_in}
use Rattle.m2_base.specs.Lists.{WhereKept}
use Rattle.m2_base.specs.Units.{TextOf, UnitTexts}
use Rattle.m2_base.specs.declared.outputs.Output.{Output}
use Rattle.m2_base.specs.declared.outputs.StreamFault.{StreamFault}
use Rattle.object_file.specs.Contents.{KeyedImport, no_key}
use Rattle.object_file.specs.Views.{contents_of, heading_of, keyed_of, procedure_of}
use Rattle.object_file.specs.declared.parts.ImportNote.{ImportNote}
use Rattle.object_file.specs.declared.parts.Parts.{Parts}
use Rattle.unit_merge.specs.Earliest.{AreOf, text_of}
use Rattle.unit_merge.specs.Objects.{IsPlaceIn, callee_of, cells_by, contents_from, exports_in, headings_by, import_from, imports_from, name_in, of_own, spelled, without_own}
use Rattle.stream_split.specs.Streams.{definition_streams, main_streams, streams_of}
use Rattle.unit_merge.specs.Outputs.{IsOutputOf, told_by}

-- a vector has as many items as it says
pub vec_long : {X Z : Type 0} (v : Vec X Z) → vec_len v ≡ length v.items
vec_long v = omega (arith, v.ok)

pub vec_empty : {X Z : Type 0} (v : Vec X Z) (r b : Bool) → r ≡ (vec_len v == 0) → r ≡ b → (length v.items == 0) ≡ b
vec_empty v r b e h = ap (λ n. n == 0) (sym (vec_long v)) ∙ sym e ∙ h

-- ** Faults

-- a fault that an output tells is of one of so many texts
pub told_low : (count : ℕ) (outputs : List Output) (i : ℕ) (o : Output) (f : StreamFault) → AreOf count (told_by outputs) → i < length outputs → o ≡ slice_index_or outputs i o → o.fault ≡ Some f → text_of f < count
told_low count [] i o f h l e g = absurd (omega (arith, l))
told_low count (x ∷ outputs) zero o f h l e g =
    let fault : x.fault ≡ Some f = ap (λ (y : Output). y.fault) (sym e) ∙ g in
    subst (λ (z : Option StreamFault). WhereKept z (λ k. text_of k < count)) fault h.0
told_low count (x ∷ outputs) (suc i) o f h l e g = told_low count outputs i o f h.1 (omega (arith, l)) e g

-- ** Outputs

zip_long : {A B : Type 0} (P : A → B → Type 0) (xs : List A) (ys : List B) → AllZip P xs ys → length xs ≡ length ys
zip_long P [] [] h = refl
zip_long P [] (y ∷ ys) h = absurd h
zip_long P (x ∷ xs) [] h = absurd h
zip_long P (x ∷ xs) (y ∷ ys) h = ap suc (zip_long P xs ys h.1)

definitions_streamed : (j : ℕ) (texts : List TextOf) (order : List ℕ) → length (definition_streams j texts order) ≡ length order
definitions_streamed j texts [] = refl
definitions_streamed j texts (k ∷ order) = ap suc (definitions_streamed (suc j) texts order)

-- there is one for the main module
pub main_there : (texts : UnitTexts) (outputs : List Output) → AllZip IsOutputOf (streams_of texts) outputs → length texts.order < length outputs
main_there texts outputs h =
    let same = zip_long IsOutputOf (streams_of texts) outputs h in
    let split = length-append (definition_streams 1 texts.list texts.order) (main_streams (main_number texts) (main_tokens texts)) in
    let many = definitions_streamed 1 texts.list texts.order in
    omega (arith, same, split, many)

-- ** Imports

pub import_is : (names : List (List ℕ)) (k : ℕ × List ℕ) (o : Output) (bytes : List ℕ) (note : ImportNote) → slice_get names k.0 ≡ Some bytes → note.name.items ≡ bytes → note.key.items ≡ k.1 → note.cells ≡ o.cells
    → map heading_of note.headings.items ≡ map callee_of o.headings.items → keyed_of note ≡ import_from names k o
import_is names k o bytes note there name key cells headings =
    let spelt : note.name.items ≡ spelled names k.0 = name ∙ sym (get_or_from_slice_get names k.0 bytes [] there) in
    λ i. record { key = key i; definition = record { name = spelt i; cells = cells i; headings = headings i } }

pub imports_long : (names : List (List ℕ)) (ks : Keys) (outputs : List Output) → length outputs ≡ length ks → length (imports_from names ks outputs) ≡ length ks
imports_long names [] outputs e = refl
imports_long names (k ∷ ks) [] e = absurd (omega (arith, e))
imports_long names (k ∷ ks) (o ∷ outputs) e = ap suc (imports_long names ks outputs (omega (arith, e)))

map_take : {A B : Type 0} (f : A → B) (n : ℕ) (xs : List A) → map f (take n xs) ≡ take n (map f xs)
map_take f zero xs = refl
map_take f (suc n) [] = refl
map_take f (suc n) (x ∷ xs) = ap (λ ys. f x ∷ ys) (map_take f n xs)

map_drop : {A B : Type 0} (f : A → B) (n : ℕ) (xs : List A) → map f (drop n xs) ≡ drop n (map f xs)
map_drop f zero xs = refl
map_drop f (suc n) [] = refl
map_drop f (suc n) (x ∷ xs) = map_drop f n xs

map_append : {A B : Type 0} (f : A → B) (xs ys : List A) → map f (xs ++ ys) ≡ map f xs ++ map f ys
map_append f [] ys = refl
map_append f (x ∷ xs) ys = ap (λ zs. f x ∷ zs) (map_append f xs ys)

-- the others are left where the own one is removed
pub removed : (own : Option ℕ) (place : ℕ) (xs zs : List ImportNote) (ys : List KeyedImport) → own ≡ Some place → map keyed_of xs ≡ ys → zs ≡ take place xs ++ drop (place + 1) xs
    → map keyed_of zs ≡ without_own (option_map (λ n. n + 1) own) ys
removed own place xs zs ys e h z =
    let back : place ≡ place + 1 - 1 = omega arith in
    ap (map keyed_of) z ∙ map_append keyed_of (take place xs) (drop (place + 1) xs) ∙ (λ i. map_take keyed_of place xs i ++ map_drop keyed_of (place + 1) xs i)
    ∙ ap (λ ks. take place ks ++ drop (place + 1) ks) h ∙ ap (λ n. take n ys ++ drop (place + 1) ys) back ∙ ap (λ (o : Option ℕ). without_own (option_map (λ n. n + 1) o) ys) (sym e)

pub none_removed : (own : Option ℕ) (xs : List ImportNote) (ys : List KeyedImport) → own ≡ None → map keyed_of xs ≡ ys → map keyed_of xs ≡ without_own (option_map (λ n. n + 1) own) ys
none_removed own xs ys e h = h ∙ ap (λ (o : Option ℕ). without_own (option_map (λ n. n + 1) o) ys) (sym e)

pub place_low : (ks : Keys) (own : Option ℕ) (place : ℕ) → IsPlaceIn ks own → own ≡ Some place → place < length ks
place_low ks own place h e = subst (λ (o : Option ℕ). WhereKept o (λ n. n < length ks)) e h

-- ** The own definition

-- its place is one of the order's
pub own_in : (ks : Keys) (texts : UnitTexts) (own : Option ℕ) → length ks ≡ length texts.order → option_map (λ n. n + 1) own ≡ own_scope texts → IsPlaceIn ks own
own_in ks texts None e h = tt
own_in ks texts (Some place) e h = by texts.own h
  where
    by : (o : Option ℕ) → Some (place + 1) ≡ scope_in texts.order o → place < length ks
    by None g = absurd cc
    by (Some k) g = at (position (λ x. x == k) texts.order) refl g
      where
        at : (p : Option ℕ) → position (λ x. x == k) texts.order ≡ p → Some (place + 1) ≡ option_map (λ n. n + 1) p → place < length ks
        at None f g = absurd cc
        at (Some n) f g =
            let same : place + 1 ≡ n + 1 = cc in
            let low = (position-Some (λ x. x == k) texts.order n 0 f).0 in
            omega (arith, same, low, e)

index_taken : {A : Type 0} (n : ℕ) (xs : List A) (i : ℕ) (d : A) → i < n → slice_index_or (take n xs) i d ≡ slice_index_or xs i d
index_taken zero xs i d h = absurd (omega (arith, h))
index_taken (suc n) [] i d h = refl
index_taken (suc n) (x ∷ xs) zero d h = refl
index_taken (suc n) (x ∷ xs) (suc i) d h = index_taken n xs i d (omega (arith, h))

-- what there is of it among the definition modules is what there is among all blocks
of_own_taken : {A B : Type 0} (f : A → B) (none : B) (n : ℕ) (xs : List A) (own : Option ℕ) → WhereKept own (λ place. place < n) → of_own none (option_map (λ k. k + 1) own) (map f (take n xs)) ≡ of_own none (option_map (λ k. k + 1) own) (map f xs)
of_own_taken f none n xs None h = refl
of_own_taken f none n xs (Some place) h =
    ap (λ ys. slice_index_or ys (place + 1 - 1) none) (map_take f n xs) ∙ index_taken n (map f xs) (place + 1 - 1) none (omega (arith, h))

imports_taken : (names : List (List ℕ)) (ks : Keys) (n : ℕ) (outputs : List Output) → length ks ≤ n → imports_from names ks (take n outputs) ≡ imports_from names ks outputs
imports_taken names [] n outputs h = refl
imports_taken names (k ∷ ks) zero outputs h = absurd (omega (arith, h))
imports_taken names (k ∷ ks) (suc n) [] h = refl
imports_taken names (k ∷ ks) (suc n) (o ∷ outputs) h = ap (λ is. import_from names k o ∷ is) (imports_taken names ks n outputs (omega (arith, h)))

pub definitions_long : (n : ℕ) (outputs : List Output) (ks : Keys) → n < length outputs → length ks ≡ n → length (take n outputs) ≡ length ks
definitions_long n outputs ks h e = length-take-le n outputs (omega (arith, h)) ∙ sym e

-- ** The whole

dropped_first : {A : Type 0} (n : ℕ) (xs : List A) (x : A) → n < length xs → x ≡ slice_index_or (drop n xs) 0 x → slice_get xs n ≡ Some x
dropped_first n [] x h e = absurd (omega (arith, h))
dropped_first zero (y ∷ xs) x h e = ap (λ z. Some z) (sym e)
dropped_first (suc n) (y ∷ xs) x h e = dropped_first n xs x (omega (arith, h)) e

index_mapped : {A B : Type 0} (f : A → B) (n : ℕ) (xs : List A) (x : A) (d : B) → slice_get xs n ≡ Some x → slice_index_or (map f xs) n d ≡ f x
index_mapped f n [] x d e = absurd cc
index_mapped f zero (y ∷ xs) x d e = let same : y ≡ x = cc in ap f same
index_mapped f (suc n) (y ∷ xs) x d e = index_mapped f n xs x d e

-- what the parts say that are gathered
pub record Gathered (texts : UnitTexts) (ks : Keys) (outputs : List Output) (own : Option ℕ) (main : Output) (parts : Parts) : Type 0 where
  pub version : parts.version ≡ 2
  pub text : TextOf
  pub first : slice_get texts.list 0 ≡ Some text
  pub name : parts.name.items ≡ spelled texts.names text.name
  pub key : parts.key.items ≡ of_own no_key (option_map (λ n. n + 1) own) (map (λ (k : ℕ × List ℕ). k.1) ks)
  pub cells : parts.cells ≡ main.cells
  pub own_cells : parts.own_cells ≡ of_own 0 (option_map (λ n. n + 1) own) (cells_by (take (length texts.order) outputs))
  pub exports : parts.exports.items ≡ exports_in main.headings.items (of_own [] (option_map (λ n. n + 1) own) (headings_by (take (length texts.order) outputs)))
  pub imports : map keyed_of parts.imports.items ≡ without_own (option_map (λ n. n + 1) own) (imports_from texts.names ks (take (length texts.order) outputs))
  pub procedures : map procedure_of parts.procedures.items ≡ map (λ (o : Output). procedure_of o.code) (drop (length texts.order) outputs)

pub gathered_is : (texts : UnitTexts) (ks : Keys) (outputs : List Output) (own : Option ℕ) (main : Output) (parts : Parts) → length texts.order < length outputs → length ks ≡ length texts.order
    → option_map (λ n. n + 1) own ≡ own_scope texts → main ≡ slice_index_or (drop (length texts.order) outputs) 0 main → Gathered texts ks outputs own main parts → contents_of parts ≡ contents_from ks texts outputs
gathered_is texts ks outputs own main parts long many owned main_is g =
    let n = length texts.order in
    let low : WhereKept own (λ place. place < n) = subst (λ m. WhereKept own (λ place. place < m)) many (own_in ks texts own many owned) in
    let at : slice_get outputs n ≡ Some main = dropped_first n outputs main long main_is in
    let name : parts.name.items ≡ spelled texts.names (name_in (slice_get texts.list 0)) = g.name ∙ ap (λ (o : Option TextOf). spelled texts.names (name_in o)) (sym g.first) in
    let key : parts.key.items ≡ of_own no_key (own_scope texts) (map (λ (k : ℕ × List ℕ). k.1) ks) = g.key ∙ ap (λ o. of_own no_key o (map (λ (k : ℕ × List ℕ). k.1) ks)) owned in
    let cells : parts.cells ≡ slice_index_or (cells_by outputs) n 0 = g.cells ∙ sym (index_mapped (λ (o : Output). o.cells) n outputs main 0 at) in
    let own_cells : parts.own_cells ≡ of_own 0 (own_scope texts) (cells_by outputs) = g.own_cells ∙ of_own_taken (λ (o : Output). o.cells) 0 n outputs own low ∙ ap (λ o. of_own 0 o (cells_by outputs)) owned in
    let mine : main.headings.items ≡ slice_index_or (headings_by outputs) n [] = sym (index_mapped (λ (o : Output). o.headings.items) n outputs main [] at) in
    let its : of_own [] (option_map (λ k. k + 1) own) (headings_by (take n outputs)) ≡ of_own [] (own_scope texts) (headings_by outputs) =
    of_own_taken (λ (o : Output). o.headings.items) [] n outputs own low ∙ ap (λ o. of_own [] o (headings_by outputs)) owned in
    let exports : parts.exports.items ≡ exports_in (slice_index_or (headings_by outputs) n []) (of_own [] (own_scope texts) (headings_by outputs)) = g.exports ∙ (λ i. exports_in (mine i) (its i)) in
    let imports : map keyed_of parts.imports.items ≡ without_own (own_scope texts) (imports_from texts.names ks outputs) =
    g.imports ∙ (λ i. without_own (owned i) (imports_taken texts.names ks n outputs (omega (arith, many)) i)) in
    λ i. record { version = g.version i; name = name i; key = key i; cells = cells i; own_cells = own_cells i; exports = exports i; imports = imports i; procedures = g.procedures i }
