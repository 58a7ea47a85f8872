-- The modules of a unit have the names of their texts, and no two of the definition modules have one.
use Rattle.std.specs.Prelude.{◌≡◌, refl, ℕ, zero, suc, ◌<◌, Bool, true, false, List, [], ◌∷◌, ◌++◌, length, map, option_map, slice_get, slice_index_or, Option, Some}
use Rattle.std.specs.List.{AllZip}
use Rattle.std.proofs.Common.{ap, subst, sym, ◌∙◌, inl, inr, arith}
use Rattle.std.proofs.lemmas.List.{append-nil}
use Rattle.sha2.proofs.Facts256.{length-sha256}
use Rattle.m2_base.specs.Finished.{no_text, source_of, tokens_in, tokens_of, main_number, main_tokens}
use Rattle.m2_base.specs.Fronts as grammar
use Rattle.m2_base.specs.Fronts.{IsFront}
use Rattle.m2_base.specs.Lists.{Each, IsIn}
use Rattle.m2_base.specs.Trees.{Stream}
use Rattle.m2_base.specs.Units as units
use Rattle.m2_base.specs.Units.{AllDiffer, Front, HasOneMain, IsDefinition, IsNamed, IsText, IsUnit, TextOf, UnitTexts}
use Rattle.m2_base.specs.WholeTexts.{SpellsDefinition, SpellsMain}
use Rattle.m2_base.specs.declared.trees.Ident.{Ident}
use Rattle.stream_split.specs.Fronts.{front_of}
use Rattle.definition_keys.specs.Keys.{Keys, key_of, keys_from, message_of, ordered_texts, unit_keys}
use Rattle.block_laws.specs.Worlds.{name_bytes}
use Rattle.unit_merge.specs.Objects.{name_in, spelled}
use Rattle.merge_laws.specs.Texts.{HasFront, IsWhole}
use Rattle.merge_laws.specs.UnitObject.{module_name}
use Rattle.merge_laws.proofs.Fronts.{HasName, IsNamedMain, definition_named, main_named}
use Rattle.m2_base.proofs.NoRepeats.{some_is}
use Rattle.row_laws.proofs.Members.{each_index}

-- ** Lists

pub got : {A : Type 0} (xs : List A) (k : ℕ) (d : A) → k < length xs → slice_get xs k ≡ Some (slice_index_or xs k d)
got [] k d h = absurd (omega (arith, h))
got (x ∷ xs) zero d h = refl
got (x ∷ xs) (suc k) d h = got xs k d (omega (arith, h))

definition_text : (list : List TextOf) → HasOneMain list → (k : ℕ) → 0 < k → k < length list → (slice_index_or list k no_text).definition ≡ true
definition_text [] h k p l = absurd h
definition_text (main ∷ texts) h zero p l = absurd (omega (arith, p))
definition_text (main ∷ texts) h (suc k) p l = each_index (λ (t : TextOf). t.definition ≡ true) texts no_text h.1 k (omega (arith, l))

main_text : (list : List TextOf) → HasOneMain list → (0 < length list) × ((slice_index_or list 0 no_text).definition ≡ false)
main_text [] h = absurd h
main_text (main ∷ texts) h = (omega arith, h.0)

-- ** A module has the name of its text

-- a tree with this name
pub record IsNamedAs (name : ℕ) (tree : Stream) : Type 0 where
  pub ident : Ident
  pub named : tree.name ≡ Some ident
  pub same : ident.name ≡ name

module _ (texts : UnitTexts) (unit : IsUnit texts) (front : TextOf → Front) (whole : IsWhole front texts) where
  abbrev text_at : ℕ → TextOf
  text_at k = slice_index_or texts.list k no_text

  -- the name of a front is that of its text
  by_front : (k : ℕ) → k < length texts.list → (f : grammar.Front) → IsFront (text_at k).definition (text_at k).tokens f → (tree : Stream) → HasName tree f → IsNamedAs (text_at k).name tree
  by_front k low f is tree has =
      let same : front (text_at k) ≡ front_of f =
      each_index (λ t. (f : grammar.Front) → IsFront t.definition t.tokens f → front t ≡ front_of f) texts.list no_text whole.fronts k low f is in
      let told : (front (text_at k)).name ≡ Some has.name.name = ap (λ (x : Front). x.name) same ∙ ap (option_map (λ (i : Ident). i.name)) has.of_front in
      record { ident = has.name; named = has.of_tree; same = each_index (λ t. (name : ℕ) → (front t).name ≡ Some name → name ≡ t.name) texts.list no_text whole.whole.named k low has.name.name told }

  pub definition_name : (k : ℕ) → IsDefinition texts.list k → (tree : Stream) → SpellsDefinition (tree ∷ []) (tokens_of texts k) → IsNamedAs (text_at k).name tree
  definition_name k d tree spells =
      let t = text_at k in
      let there : slice_get texts.list k ≡ Some t = got texts.list k no_text d.1 in
      let told : HasFront t = each_index HasFront texts.list no_text whole.told k d.1 in
      let kind : t.definition ≡ true = definition_text texts.list unit.main k d.0 d.1 in
      by_front k d.1 told.0 told.1 tree
      (definition_named tree t.tokens told.0 (subst (SpellsDefinition (tree ∷ [])) (ap tokens_in there) spells) (subst (λ (b : Bool). IsFront b t.tokens told.0) kind told.1))

  -- the module itself
  pub main_name : (trees : List Stream) → SpellsMain (main_number texts) trees (main_tokens texts) → name_bytes (source_of texts) (module_name trees) ≡ spelled texts.names (name_in (slice_get texts.list 0))
  main_name trees spells =
      let main = main_text texts.list unit.main in
      let t = text_at 0 in
      let there : slice_get texts.list 0 ≡ Some t = got texts.list 0 no_text main.0 in
      let told : HasFront t = each_index HasFront texts.list no_text whole.told 0 main.0 in
      let has = main_named (main_number texts) trees t.tokens told.0 (subst (SpellsMain (main_number texts) trees) (ap tokens_in there) spells) (subst (λ (b : Bool). IsFront b t.tokens told.0) main.1 told.1) in
      by trees told.0 told.1 has ∙ ap (λ (o : Option TextOf). spelled texts.names (name_in o)) (sym there)
    where
      by : (trees : List Stream) (f : grammar.Front) → IsFront (text_at 0).definition (text_at 0).tokens f → IsNamedMain trees f → name_bytes (source_of texts) (module_name trees) ≡ spelled texts.names (text_at 0).name
      by [] f is has = absurd has
      by (tree ∷ trees) f is has =
          let n = by_front 0 (main_text texts.list unit.main).0 f is tree has in
          ap (name_bytes (source_of texts)) n.named ∙ ap (spelled texts.names) n.same

  -- ** Keys

  -- the keys have the names of these texts behind those before
  keys_named : (ts : List TextOf) (keys : Keys) → map (λ k. k.0) (keys_from texts.names front keys ts) ≡ map (λ k. k.0) keys ++ map (λ (t : TextOf). t.name) ts
  keys_named [] keys = sym (append-nil (map (λ k. k.0) keys))
  keys_named (t ∷ ts) keys = keys_named ts (keys ++ (t.name, key_of texts.names front keys t) ∷ []) ∙ moved keys (t.name, key_of texts.names front keys t) (map (λ (x : TextOf). x.name) ts)
    where
      moved : (xs : Keys) (x : ℕ × List ℕ) (ns : List ℕ) → map (λ k. k.0) (xs ++ x ∷ []) ++ ns ≡ map (λ k. k.0) xs ++ x.0 ∷ ns
      moved [] x ns = refl
      moved (y ∷ xs) x ns = ap (λ zs. y.0 ∷ zs) (moved xs x ns)

  texts_named : (order : List ℕ) → map (λ (t : TextOf). t.name) (map text_at order) ≡ map (λ k. (text_at k).name) order
  texts_named [] = refl
  texts_named (k ∷ order) = ap (λ ns. (text_at k).name ∷ ns) (texts_named order)

  abbrev pub keys : Keys
  keys = unit_keys front texts

  -- they are those of the definition texts in their order
  pub keys_of_order : map (λ k. k.0) keys ≡ map (λ k. (text_at k).name) texts.order
  unfolding unit_keys
  keys_of_order = keys_named (ordered_texts texts) [] ∙ texts_named texts.order

  abbrev IsKey : ℕ × List ℕ → Type 0
  IsKey k = length k.1 ≡ 32

  keys_long : (ts : List TextOf) (before : Keys) → Each IsKey before → Each IsKey (keys_from texts.names front before ts)
  keys_long [] before h = h
  keys_long (t ∷ ts) before h =
      keys_long ts (before ++ (t.name, key_of texts.names front before t) ∷ []) (more before h)
    where
      more : (xs : Keys) → Each IsKey xs → Each IsKey (xs ++ (t.name, key_of texts.names front before t) ∷ [])
      more [] g = (length-sha256 (message_of texts.names front before t), tt)
      more (x ∷ xs) g = (g.0, more xs g.1)

  -- each is a digest
  pub keys_are_long : Each IsKey keys
  unfolding unit_keys
  keys_are_long = keys_long (ordered_texts texts) [] tt

  -- ** The names of the definition modules

  abbrev pub IsKeyOf : ℕ × List ℕ → Stream → Type 0
  IsKeyOf k tree = spelled texts.names k.0 ≡ name_bytes (source_of texts) tree.name

  each_key : (order : List ℕ) (trees : List Stream) (ks : Keys) → Each (IsDefinition texts.list) order → AllZip (λ k tree. SpellsDefinition (tree ∷ []) (tokens_of texts k)) order trees
      → map (λ k. k.0) ks ≡ map (λ k. (text_at k).name) order → AllZip IsKeyOf ks trees
  each_key [] [] [] d h e = tt
  each_key [] [] (k ∷ ks) d h e = absurd cc
  each_key [] (tree ∷ trees) ks d h e = absurd h
  each_key (n ∷ order) [] ks d h e = absurd h
  each_key (n ∷ order) (tree ∷ trees) [] d h e = absurd cc
  each_key (n ∷ order) (tree ∷ trees) (k ∷ ks) d h e =
      let first : k.0 ≡ (text_at n).name = let f = e in cc in
      let rest : map (λ k. k.0) ks ≡ map (λ k. (text_at k).name) order = let f = e in cc in
      let named = definition_name n d.0 tree h.0 in
      (ap (spelled texts.names) (first ∙ sym named.same) ∙ sym (ap (name_bytes (source_of texts)) named.named), each_key order trees ks d.1 h.1 rest)

  pub keys_name_trees : (trees : List Stream) → AllZip (λ k tree. SpellsDefinition (tree ∷ []) (tokens_of texts k)) texts.order trees → AllZip IsKeyOf keys trees
  keys_name_trees trees h = each_key texts.order trees keys unit.ordered h keys_of_order

  -- ** They differ

  in_at : {A : Type 0} (xs : List A) (k : ℕ) (x : A) → slice_get xs k ≡ Some x → IsIn x xs
  in_at [] k x e = absurd cc
  in_at (y ∷ xs) zero x e = inl (sym (some_is y x e))
  in_at (y ∷ xs) (suc k) x e = inr (in_at xs k x e)

  in_mapped : {A B : Type 0} (f : A → B) (x : A) (xs : List A) → IsIn x xs → IsIn (f x) (map f xs)
  in_mapped f x [] i = absurd i
  in_mapped f x (y ∷ xs) (inl e) = inl (ap f e)
  in_mapped f x (y ∷ xs) (inr i) = inr (in_mapped f x xs i)

  -- of texts that differ in their names those of one name are one
  one_text : (ts : List TextOf) → AllDiffer (map (λ (t : TextOf). t.name) ts) → (m n : ℕ) (s t : TextOf) → slice_get ts m ≡ Some s → slice_get ts n ≡ Some t → s.name ≡ t.name → m ≡ n
  one_text [] h m n s t e f g = absurd cc
  one_text (x ∷ ts) h zero zero s t e f g = refl
  one_text (x ∷ ts) h zero (suc n) s t e f g =
      let first : x.name ≡ t.name = ap (λ (y : TextOf). y.name) (some_is x s e) ∙ g in
      absurd (h.0 (subst (λ (name : ℕ). IsIn name (map (λ (y : TextOf). y.name) ts)) (sym first) (in_mapped (λ (y : TextOf). y.name) t ts (in_at ts n t f))))
  one_text (x ∷ ts) h (suc m) zero s t e f g =
      let first : x.name ≡ s.name = ap (λ (y : TextOf). y.name) (some_is x t f) ∙ sym g in
      absurd (h.0 (subst (λ (name : ℕ). IsIn name (map (λ (y : TextOf). y.name) ts)) (sym first) (in_mapped (λ (y : TextOf). y.name) s ts (in_at ts m s e))))
  one_text (x ∷ ts) h (suc m) (suc n) s t e f g = ap suc (one_text ts h.1 m n s t e f g)

  same_definition : (list : List TextOf) → AllDiffer (map (λ (t : TextOf). t.name) (units.definitions_of list)) → (m n : ℕ) → IsDefinition list m → IsDefinition list n
      → (slice_index_or list m no_text).name ≡ (slice_index_or list n no_text).name → m ≡ n
  same_definition [] h m n (p, l) (q, r) e = absurd (omega (arith, l))
  same_definition (main ∷ ts) h zero n (p, l) (q, r) e = absurd (omega (arith, p))
  same_definition (main ∷ ts) h (suc m) zero (p, l) (q, r) e = absurd (omega (arith, q))
  same_definition (main ∷ ts) h (suc m) (suc n) (p, l) (q, r) e =
      ap suc (one_text ts h m n (slice_index_or ts m no_text) (slice_index_or ts n no_text) (got ts m no_text (omega (arith, l))) (got ts n no_text (omega (arith, r))) e)

  differ_from : (order : List ℕ) → Each (IsDefinition texts.list) order → AllDiffer order → AllDiffer (map (λ k. (text_at k).name) order)
  differ_from [] d h = tt
  differ_from (k ∷ order) d h = (λ i. h.0 (back order d.1 i), differ_from order d.1 h.1)
    where
      back : (ks : List ℕ) → Each (IsDefinition texts.list) ks → IsIn (text_at k).name (map (λ k. (text_at k).name) ks) → IsIn k ks
      back [] e i = absurd i
      back (n ∷ ks) e (inl same) = inl (same_definition texts.list unit.differ k n d.0 e.0 same)
      back (n ∷ ks) e (inr i) = inr (back ks e.1 i)

  -- the names of the keys differ
  pub keys_differ : AllDiffer (map (λ k. k.0) keys)
  keys_differ = subst AllDiffer (sym keys_of_order) (differ_from texts.order unit.ordered unit.once)

  -- each is an identifier's
  pub keys_are_named : Each (λ k. IsNamed texts.names k.0) keys
  keys_are_named = each_of keys (subst (Each (IsNamed texts.names)) (sym keys_of_order) (named_from texts.order unit.ordered))
    where
      named_from : (order : List ℕ) → Each (IsDefinition texts.list) order → Each (IsNamed texts.names) (map (λ k. (text_at k).name) order)
      named_from [] d = tt
      named_from (k ∷ order) d = ((each_index (IsText texts.names) texts.list no_text unit.texts k d.0.1).named, named_from order d.1)

      each_of : (ks : Keys) → Each (IsNamed texts.names) (map (λ k. k.0) ks) → Each (λ k. IsNamed texts.names k.0) ks
      each_of [] h = tt
      each_of (k ∷ ks) h = (h.0, each_of ks h.1)

  pub main_is_named : IsNamed texts.names (name_in (slice_get texts.list 0))
  main_is_named =
      let low = (main_text texts.list unit.main).0 in
      subst (λ (o : Option TextOf). IsNamed texts.names (name_in o)) (sym (got texts.list 0 no_text low)) (each_index (IsText texts.names) texts.list no_text unit.texts 0 low).named
