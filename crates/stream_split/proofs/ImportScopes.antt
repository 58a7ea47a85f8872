-- The modules that the tree of a stream imports have scopes before, where each definition text comes after those that it imports.
use Rattle.std.proofs.Common.{get_or, ◌≡◌, ◌∙◌, ℕ, zero, suc, ◌+◌, ◌<◌, ◌≤◌, Bool, true, false, cond, List, [], ◌∷◌, ◌++◌, length, map, refl, sym, ap, subst, inl, inr, true≢false, arith}
use Rattle.std.specs.List.{position_or_len}
use Rattle.std.specs.Prelude.{◌==◌, ◌⊎◌, Option, Some, None, flat_map, option_map, position, slice_get, slice_index_or, unwrap_or}
use Rattle.std.proofs.lemmas.List.{length-map}
use Rattle.std.proofs.lemmas.List.Quantifiers.{position-Some}
use Rattle.std.proofs.lemmas.Option.{slice_get_cases}
use Rattle.std.proofs.lemmas.List.Recursion.{is_position_or_len}
use Rattle.m2_base.proofs.EachLaws.{each_all, each_append, each_back, each_front}
use Rattle.m2_base.specs.Finished.{definitions_of, no_text, source_of, tokens_in, tokens_of}
use Rattle.m2_base.specs.Fronts as grammar_fronts
use Rattle.m2_base.specs.Fronts.{IsFront, modules_of, modules_with}
use Rattle.m2_base.specs.Lists.{Each, IsIn}
use Rattle.m2_base.specs.Statics.Contexts.{DefinitionModule, Source, scope_of_module}
use Rattle.m2_base.specs.Statics.FormedRows.{IsImportedBefore}
use Rattle.m2_base.specs.Statics.Items.{decl_item, heading_items, import_item, import_items, items_of}
use Rattle.m2_base.specs.Trees.{Decl, Heading, Import, Stream, const_decl, proc_decl, type_decl, vars_decl}
use Rattle.m2_base.specs.Units.{Front, HasOneMain, IsDefinition, IsTextOf, IsUnit, IsWholeBy, StandsBefore, TextOf, UnitTexts}
use Rattle.m2_base.specs.WholeTexts.{SpellsDefinition}
use Rattle.m2_base.specs.declared.trees.Ident.{Ident}
use Rattle.stream_split.specs.Agreement.{SpellsStream}
use Rattle.stream_split.specs.Streams.{StreamOf, definition_stream, streams_of}
use Rattle.stream_split.proofs.DefinitionTexts.{definition_whole}
use Rattle.stream_split.proofs.StreamCounts.{definition_at, number_is}
use Rattle.stream_split.specs.Fronts.{AreFronts, front_of}
use Rattle.stream_split.proofs.Definitions.{map_append}
use Rattle.stream_split.proofs.TextFronts.{HasFront, front_told}

-- ** Lists

each_from : {A : Type 0} (P : A → Type 0) (xs : List A) → ((x : A) → IsIn x xs → P x) → Each P xs
each_from P [] f = tt
each_from P (x ∷ xs) f = (f x (inl refl), each_from P xs (λ y i. f y (inr i)))

each_at : {A : Type 0} (P : A → Type 0) (x : A) (xs : List A) → Each P xs → IsIn x xs → P x
each_at P x [] h i = absurd i
each_at P x (y ∷ xs) h (inl e) = subst P (sym e) h.0
each_at P x (y ∷ xs) h (inr i) = each_at P x xs h.1 i

each_unmapped : {A B : Type 0} (P : B → Type 0) (f : A → B) (xs : List A) → Each P (map f xs) → Each (λ x. P (f x)) xs
each_unmapped P f [] h = tt
each_unmapped P f (x ∷ xs) h = (h.0, each_unmapped P f xs h.1)

in_mapped : {A B : Type 0} (f : A → B) (x : A) (xs : List A) → IsIn x xs → IsIn (f x) (map f xs)
in_mapped f x [] i = absurd i
in_mapped f x (y ∷ xs) (inl e) = inl (ap f e)
in_mapped f x (y ∷ xs) (inr i) = inr (in_mapped f x xs i)

got : {A : Type 0} (xs : List A) (k : ℕ) (d : A) → k < length xs → slice_get xs k ≡ Some (slice_index_or xs k d)
got [] k d h = absurd (omega (arith, h))
got (x ∷ xs) zero d h = refl
got (x ∷ xs) (suc k) d h = got xs k d (omega (arith, h))

each_got : {A : Type 0} (P : A → Type 0) (xs : List A) (k : ℕ) (d : A) → Each P xs → k < length xs → P (slice_index_or xs k d)
each_got P [] k d h l = absurd (omega (arith, l))
each_got P (x ∷ xs) zero d h l = h.0
each_got P (x ∷ xs) (suc k) d h l = each_got P xs k d h.1 (omega (arith, l))

-- the list before and behind its element at this index
record Split {A : Type 0} (xs : List A) (k : ℕ) (x : A) : Type 0 where
  before : List A
  rest : List A
  is : xs ≡ before ++ x ∷ rest
  long : length before ≡ k

split_at : {A : Type 0} (xs : List A) (k : ℕ) (x : A) → slice_get xs k ≡ Some x → Split xs k x
split_at [] k x g = cc
split_at (y ∷ xs) zero x g = let same : y ≡ x = cc in record { before = []; rest = xs; is = ap (λ z. z ∷ xs) same; long = refl }
split_at (y ∷ xs) (suc k) x g =
    let s = split_at xs k x g in
    let long = s.long in
    record { before = y ∷ s.before; rest = s.rest; is = ap (λ zs. y ∷ zs) s.is; long = omega (arith, long) }

is_in : {A : Type 0} (xs : List A) (k : ℕ) (x : A) → slice_get xs k ≡ Some x → IsIn x xs
is_in [] k x g = cc
is_in (y ∷ xs) zero x g = let same : y ≡ x = cc in inl (sym same)
is_in (y ∷ xs) (suc k) x g = inr (is_in xs k x g)

-- ** The scope of a module

-- where the first stands for which the test is true
abbrev first_at : {A : Type 0} (p : A → Bool) → List A → ℕ
first_at p [] = 0
first_at p (x ∷ xs) = cond (p x) 0 (1 + first_at p xs)

first_is : {A : Type 0} (p : A → Bool) (xs : List A) → first_at p xs ≡ position_or_len p xs
first_is p xs = is_position_or_len (first_at p) p refl (λ x ys. refl) xs

low_step : (b : Bool) (n m : ℕ) → (b ≡ true) ⊎ (n < m) → cond b 0 (1 + n) < suc m
low_step true n m h = omega arith
low_step false n m (inl e) = absurd (true≢false (sym e))
low_step false n m (inr h) = omega (arith, h)

first_low : {A : Type 0} (p : A → Bool) (xs ys : List A) (x : A) → IsIn x xs → p x ≡ true → first_at p (xs ++ ys) < length xs
first_low p [] ys x i t = absurd i
first_low p (y ∷ xs) ys x (inl e) t = low_step (p y) (first_at p (xs ++ ys)) (length xs) (inl (ap p (sym e) ∙ t))
first_low p (y ∷ xs) ys x (inr i) t = low_step (p y) (first_at p (xs ++ ys)) (length xs) (inr (first_low p xs ys x i t))

scope_low : {A : Type 0} (p : A → Bool) (xs : List A) (n : ℕ) → first_at p xs < n → unwrap_or (option_map (λ m. m + 1) (position p xs)) 0 < n + 1
scope_low p xs n h = by _ (position_or_len p xs) (let e = first_is p xs in omega (arith, e, h))
  where
    by : (b : Bool) (k : ℕ) → k < n → unwrap_or (option_map (λ m. m + 1) (cond b (Some k) None)) 0 < n + 1
    by true k l = omega (arith, l)
    by false k l = omega arith

scope_most : {A : Type 0} (p : A → Bool) (xs : List A) (d : A) → unwrap_or (option_map (λ m. m + 1) (position p xs)) 0 ≤ length xs
scope_most p xs d = by (position p xs) refl
  where
    by : (o : Option ℕ) → position p xs ≡ o → unwrap_or (option_map (λ m. m + 1) o) 0 ≤ length xs
    by None e = omega arith
    by (Some n) e = let low = (position-Some p xs n d e).0 in omega (arith, low)

same_name : (m n : ℕ) → m ≡ n → (m == n) ≡ true
same_name m n e = grind arith

-- ** Items

module _ (source : Source) (s : ℕ) where
  abbrev IsLow : Ident → Type 0
  IsLow i = scope_of_module source i.name < s

  one_import : (from : Option Ident) (names : List Ident) → Each IsLow (modules_with from names) → Each (IsImportedBefore source s) (map (λ n. import_item from n) names)
  one_import None [] h = tt
  one_import None (n ∷ names) h = (h.0, one_import None names h.1)
  one_import (Some m) [] h = tt
  one_import (Some m) (n ∷ names) h = (h.0, one_import (Some m) names h)

  each_import : (imports : List Import) → Each IsLow (flat_map modules_of imports) → Each (IsImportedBefore source s) (flat_map import_items imports)
  each_import [] h = tt
  each_import (i ∷ imports) h =
      each_append (IsImportedBefore source s) (import_items i) (flat_map import_items imports)
      (one_import i.from i.names (each_front IsLow (modules_of i) (flat_map modules_of imports) h))
      (each_import imports (each_back IsLow (modules_of i) (flat_map modules_of imports) h))

  heading_before : (h : Option Heading) → Each (IsImportedBefore source s) (heading_items h)
  heading_before None = tt
  heading_before (Some h) = (tt, tt)

  decls_before : (ds : List Decl) → Each (IsImportedBefore source s) (map decl_item ds)
  decls_before [] = tt
  decls_before (const_decl i e ∷ ds) = (tt, decls_before ds)
  decls_before (type_decl i t ∷ ds) = (tt, decls_before ds)
  decls_before (vars_decl is t ∷ ds) = (tt, decls_before ds)
  decls_before (proc_decl h n ∷ ds) = (tt, decls_before ds)

  items_before : (tree : Stream) → Each IsLow (flat_map modules_of tree.imports) → Each (IsImportedBefore source s) (items_of tree)
  items_before tree h =
      each_append (IsImportedBefore source s) (heading_items tree.heading ++ flat_map import_items tree.imports) (map decl_item tree.decls)
      (each_append (IsImportedBefore source s) (heading_items tree.heading) (flat_map import_items tree.imports) (heading_before tree.heading) (each_import tree.imports h)) (decls_before tree.decls)

-- ** Definition modules

-- the text stands before n
stands_in : (before rest : List ℕ) (k n : ℕ) → StandsBefore (before ++ n ∷ rest) k n → IsIn k before
stands_in [] rest k n h = absurd (h.0 refl)
stands_in (x ∷ before) rest k n (d, inl e) = inl (sym e)
stands_in (x ∷ before) rest k n (d, inr h) = inr (stands_in before rest k n h)

each_definition : (list : List TextOf) → HasOneMain list → (k : ℕ) → 0 < k → k < length list → (slice_index_or list k no_text).definition ≡ true
each_definition [] h k p l = absurd h
each_definition (main ∷ texts) h zero p l = absurd (omega (arith, p))
each_definition (main ∷ texts) h (suc k) p l = each_got (λ (t : TextOf). t.definition ≡ true) texts k no_text h.1 (omega (arith, l))

module _ (texts : UnitTexts) (unit : IsUnit texts) (front : TextOf → Front) (fronts : AreFronts front texts) (whole : IsWholeBy front texts) where
  abbrev text_at : ℕ → TextOf
  text_at k = slice_index_or texts.list k no_text

  abbrev module_of : ℕ → DefinitionModule
  module_of k = record { name = (text_at k).name; text = k }

  -- the module with the name of a text before
  name_low : (before rest : List ℕ) (k name : ℕ) → texts.order ≡ before ++ rest → IsIn k before → IsTextOf texts name k → scope_of_module (source_of texts) name < length before + 1
  name_low before rest k name e i h =
      let same : definitions_of texts ≡ map module_of before ++ map module_of rest = ap (map module_of) e ∙ map_append module_of before rest in
      let named : (text_at k).name ≡ name = h.named (text_at k) (got texts.list k no_text h.definition.1) in
      let first = first_low (λ (d : DefinitionModule). d.name == name) (map module_of before) (map module_of rest) (module_of k) (in_mapped module_of k before i) (same_name (text_at k).name name named) in
      let count = length-map before module_of in
      scope_low (λ (d : DefinitionModule). d.name == name) (definitions_of texts) (length before)
      (subst (λ (ds : List DefinitionModule). first_at (λ (d : DefinitionModule). d.name == name) ds < length before) (sym same) (omega (arith, first, count)))

  -- what the text of a definition imports stands before it
  imports_low : (before rest : List ℕ) (n : ℕ) → texts.order ≡ before ++ n ∷ rest → IsDefinition texts.list n → (name : ℕ) → IsIn name (front (text_at n)).imports → scope_of_module (source_of texts) name < length before + 1
  imports_low before rest n e d name i =
      let there : slice_get texts.list n ≡ Some (text_at n) = got texts.list n no_text d.1 in
      let found : (k : ℕ) × IsTextOf texts name k = each_at (λ m. (k : ℕ) × IsTextOf texts m k) name (front (text_at n)).imports (whole.imported n (text_at n) there) i in
      let stands : StandsBefore (before ++ n ∷ rest) found.0 n = subst (λ order. StandsBefore order found.0 n) e (whole.after n found.0 name (text_at n) d there i found.1) in
      name_low before (n ∷ rest) found.0 name e (stands_in before rest found.0 n stands) found.1

  tree_low : (before rest : List ℕ) (n : ℕ) (tree : Stream) → texts.order ≡ before ++ n ∷ rest → IsDefinition texts.list n → SpellsDefinition (tree ∷ []) (tokens_of texts n)
      → Each (IsLow (source_of texts) (length before + 1)) (flat_map modules_of tree.imports)
  tree_low before rest n tree e d spelled =
      let there : slice_get texts.list n ≡ Some (text_at n) = got texts.list n no_text d.1 in
      let told : HasFront (flat_map modules_of tree.imports) (text_at n).tokens = front_told tree (text_at n).tokens (subst (SpellsDefinition (tree ∷ [])) (ap tokens_in there) spelled) in
      let kind : (text_at n).definition ≡ true = each_definition texts.list unit.main n d.0 d.1 in
      let is : front (text_at n) ≡ front_of told.front = each_got (λ t. (f : grammar_fronts.Front) → IsFront t.definition t.tokens f → front t ≡ front_of f) texts.list n no_text fronts d.1 told.front (subst (λ b. IsFront b (text_at n).tokens told.front) (sym kind) told.is) in
      let same : (front (text_at n)).imports ≡ map (λ i. i.name) (flat_map modules_of tree.imports) = ap (λ (f : Front). f.imports) is ∙ ap (map (λ (i : Ident). i.name)) told.imports in
      each_unmapped (λ name. scope_of_module (source_of texts) name < length before + 1) (λ (i : Ident). i.name) (flat_map modules_of tree.imports)
      (subst (Each (λ name. scope_of_module (source_of texts) name < length before + 1)) same
      (each_from (λ name. scope_of_module (source_of texts) name < length before + 1) (front (text_at n)).imports (imports_low before rest n e d)))

  -- ** Streams

  all_low : (s : ℕ) (tree : Stream) → length texts.order < s → Each (IsImportedBefore (source_of texts) s) (items_of tree)
  all_low s tree h =
      items_before (source_of texts) s tree (each_all (IsLow (source_of texts) s) (flat_map modules_of tree.imports) (λ i.
      let most = scope_most (λ (d : DefinitionModule). d.name == i.name) (definitions_of texts) (module_of 0) in
      let count = length-map texts.order module_of in
      omega (arith, h, most, count)))

  -- the tree of a stream imports modules with scopes before its number
  pub stream_imports : (k : ℕ) (s : StreamOf) (tree : Stream) → slice_get (streams_of texts) k ≡ Some s → SpellsStream tree s → Each (IsImportedBefore (source_of texts) s.stream) (items_of tree)
  stream_imports k s tree g spelled = by (slice_get_cases texts.order k).1
    where
      number : s.stream ≡ k + 1
      number = number_is texts k s g

      by : ((n : ℕ) × (k < length texts.order) × (slice_get texts.order k ≡ Some n) × (get_or texts.order k n ≡ n)) ⊎ ((length texts.order ≤ k) × (slice_get texts.order k ≡ None))
          → Each (IsImportedBefore (source_of texts) s.stream) (items_of tree)
      by (inl h) =
          let n : ℕ = h.0 in
          let parts = split_at texts.order k n h.2 in
          let same : s ≡ definition_stream (k + 1) n (tokens_of texts n) = (let e = sym g ∙ definition_at texts k n h.2 in cc) in
          let whole_text : SpellsDefinition (tree ∷ []) (tokens_of texts n) =
          definition_whole (k + 1) n (tokens_of texts n) (tree ∷ []) (subst (SpellsStream tree) same spelled, tt) in
          let at : length parts.before + 1 ≡ s.stream = (let long = parts.long in omega (arith, long, number)) in
          let is_definition : IsDefinition texts.list n = each_at (IsDefinition texts.list) n texts.order unit.ordered (is_in texts.order k n h.2) in
          items_before (source_of texts) s.stream tree
          (subst (λ i. Each (IsLow (source_of texts) i) (flat_map modules_of tree.imports)) at (tree_low parts.before parts.rest n tree parts.is is_definition whole_text))
      by (inr h) = let past = h.0 in all_low s.stream tree (omega (arith, past, number))
