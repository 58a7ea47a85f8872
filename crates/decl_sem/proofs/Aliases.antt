-- Imports stand before declarations: where an item makes the row of a pointer, each alias that the layout gives stands before it.
use Rattle.std.specs.Prelude.{◌≡◌, ◌≢◌, ◌⊎◌, ℕ, suc, ◌+◌, ◌<◌, ◌≤◌, ◌==◌, Bool, true, false, if◌then◌else◌, List, [], ◌∷◌, ◌++◌, length, map, flat_map, option_map, Option, None, Some}
use Rattle.std.proofs.Common.{refl, ap, sym, ◌∙◌, subst, arith, inl, inr}
use Rattle.m2_base.specs.Lists.{Each, IsIn}
use Rattle.m2_base.specs.Rows.{alias_kind, array_kind, const_kind, enum_kind, field_kind, module_kind, opaque_kind, open_array_kind, param_kind, pointer_kind, proc_kind, proc_type_kind, record_kind, set_kind, subrange_kind, type_name_kind, var_kind}
use Rattle.m2_base.specs.Statics.Contexts.{Layout}
use Rattle.m2_base.specs.Statics.Items.{Item, const_item, decl_item, heading_item, heading_items, import_item, import_items, items_of, proc_item, type_item, vars_item}
use Rattle.m2_base.specs.Statics.Layouts.{names_from, names_of_item}
use Rattle.m2_base.specs.Statics.Lookup.{brought_before, entry_named, entry_or, moved}
use Rattle.m2_base.specs.Statics.Shapes.{Shape, arm_shapes, arms_shapes, array_shapes, field_shapes, fields_shapes, form_shapes, formal_shapes, item_shapes, named, nameless, open_shapes, own_section_shapes, section_shapes, tag_shapes, type_item_shapes, type_shapes, types_shapes}
use Rattle.m2_base.specs.Trees.{Decl, const_decl, proc_decl, type_decl, vars_decl, FieldList, FieldLists, Heading, Import, Section, Stream, TypeExpr, TypeExprs, TypeForm, VariantArm, VariantArms, array_type, case_fields, enum_type, more_fields, more_types, more_variant_arms, named_type, no_fields, no_types, no_variant_arms, plain_fields, pointer_type, proc_type, record_type, set_type, sub_type, type_expr, variant_arm}
use Rattle.m2_base.specs.declared.sites.Named.{Named}
use Rattle.m2_base.specs.declared.trees.Ident.{Ident}
use Rattle.m2_base.specs.declared.trees.Qual.{Qual}
use Rattle.m2_base.specs.declared.trees.types.Formal.{Formal}
use Rattle.m2_base.proofs.EachLaws.{each_append, each_then}
use Rattle.decl_sem.specs.Pieces.{AreAliasesBefore}
use Rattle.decl_sem.proofs.FirstOrdinals.{before_few, early_entry, entry_of, of_item, rows_of}

-- ** The kinds of the rows of types

-- a constant, or a row of one of the later kinds
abbrev IsOfType : Shape → Type 0
IsOfType s = (s.kind ≡ const_kind) ⊎ (field_kind ≤ s.kind)

both : (xs ys : List Shape) → Each IsOfType xs → Each IsOfType ys → Each IsOfType (xs ++ ys)
both xs ys h k = each_append IsOfType xs ys h k

many : {X : Type 0} (k : ℕ) (at : X → ℕ) → field_kind ≤ k → (xs : List X) → Each IsOfType (map (λ x. nameless k (at x)) xs)
many k at h [] = tt
many k at h (x ∷ xs) = (inr h, many k at h xs)

constants : (names : List Ident) → Each IsOfType (map (named const_kind) names)
constants [] = tt
constants (i ∷ names) = (inl refl, constants names)

opens : (is_open : Bool) (q : Qual) → Each IsOfType (open_shapes is_open q)
opens true q = (inr (omega arith), tt)
opens false q = tt

formals : (fs : List Formal) → Each IsOfType (flat_map formal_shapes fs)
formals [] = tt
formals (f ∷ fs) =
    both (formal_shapes f) (flat_map formal_shapes fs) (both (open_shapes f.is_open f.of) (nameless param_kind f.of.first.at ∷ []) (opens f.is_open f.of) (inr (omega arith), tt)) (formals fs)

tags : (i : Option Ident) → Each IsOfType (tag_shapes i)
tags None = tt
tags (Some i) = (inr (omega arith), tt)

arrays : (at : ℕ) (ts : TypeExprs) → Each IsOfType (array_shapes at ts)
arrays at no_types = tt
arrays at (more_types t ts) = (inr (omega arith), arrays at ts)

last : (xs : List Shape) (k at : ℕ) → field_kind ≤ k → Each IsOfType xs → Each IsOfType (xs ++ nameless k at ∷ [])
last xs k at h all = both xs (nameless k at ∷ []) all (inr h, tt)

mutual
  types : (t : TypeExpr) → Each IsOfType (type_shapes t)
  types (type_expr at form) = forms at form

  forms : (at : ℕ) (form : TypeForm) → Each IsOfType (form_shapes at form)
  forms at (named_type q) = tt
  forms at (enum_type names) = (inr (omega arith), constants names)
  forms at (sub_type base low high) = (inr (omega arith), tt)
  forms at (array_type index of) = both (types_shapes index ++ type_shapes of) (array_shapes at index) (both (types_shapes index) (type_shapes of) (all_types index) (types of)) (arrays at index)
  forms at (record_type fs) = last (fields_shapes fs) record_kind at (omega arith) (fields fs)
  forms at (set_type of) = last (type_shapes of) set_kind at (omega arith) (types of)
  forms at (pointer_type of) = last (type_shapes of) pointer_kind at (omega arith) (types of)
  forms at (proc_type fs result) = last (flat_map formal_shapes fs) proc_type_kind at (omega arith) (formals fs)

  all_types : (ts : TypeExprs) → Each IsOfType (types_shapes ts)
  all_types no_types = tt
  all_types (more_types t ts) = both (type_shapes t) (types_shapes ts) (types t) (all_types ts)

  fields : (fs : FieldLists) → Each IsOfType (fields_shapes fs)
  fields no_fields = tt
  fields (more_fields f fs) = both (field_shapes f) (fields_shapes fs) (field f) (fields fs)

  field : (f : FieldList) → Each IsOfType (field_shapes f)
  field (plain_fields names t) = both (type_shapes t) (map (λ (i : Ident). nameless field_kind i.at) names) (types t) (many field_kind (λ (i : Ident). i.at) (omega arith) names)
  field (case_fields i of arms other) = both (tag_shapes i ++ arms_shapes arms) (fields_shapes other) (both (tag_shapes i) (arms_shapes arms) (tags i) (all_arms arms)) (fields other)

  all_arms : (arms : VariantArms) → Each IsOfType (arms_shapes arms)
  all_arms no_variant_arms = tt
  all_arms (more_variant_arms a arms) = both (arm_shapes a) (arms_shapes arms) (one_arm a) (all_arms arms)

  one_arm : (a : VariantArm) → Each IsOfType (arm_shapes a)
  one_arm (variant_arm ls fs) = fields fs

-- ** The rows of declarations

abbrev IsNoAlias : Shape → Type 0
IsNoAlias s = s.kind ≢ alias_kind

no_alias : (s : Shape) → IsOfType s → IsNoAlias s
no_alias s (inl k) e = let a : s.kind ≡ const_kind = k in let b : s.kind ≡ alias_kind = e in absurd (omega (arith, a, b))
no_alias s (inr k) e = let b : s.kind ≡ alias_kind = e in absurd (omega (arith, k, b))

of_type : (xs : List Shape) → Each IsOfType xs → Each IsNoAlias xs
of_type xs h = each_then IsOfType IsNoAlias xs no_alias h

other : (k : ℕ) (i : Ident) → k ≢ alias_kind → Each IsNoAlias (named k i ∷ [])
other k i h = (h, tt)

variables : (names : List Ident) → Each IsNoAlias (map (named var_kind) names)
variables [] = tt
variables (i ∷ names) = ((λ e. absurd (let h : var_kind ≡ alias_kind = e in omega (arith, h))), variables names)

parameters : (sections : List Section) → Each IsOfType (flat_map section_shapes sections)
parameters [] = tt
parameters (s ∷ sections) =
    both (section_shapes s) (flat_map section_shapes sections)
    (both (open_shapes s.is_open s.of) (map (λ (i : Ident). nameless param_kind i.at) s.names) (opens s.is_open s.of) (many param_kind (λ (i : Ident). i.at) (omega arith) s.names)) (parameters sections)

type_items : (name : Ident) (typ : Option TypeExpr) → Each IsOfType (type_item_shapes name typ)
type_items name None = (inr (omega arith), tt)
type_items name (Some t) = types t

-- no declaration makes the row of an alias
declared : (d : Decl) → Each IsNoAlias (item_shapes (decl_item d))
declared (const_decl name value) = other const_kind name (λ e. let h : const_kind ≡ alias_kind = e in absurd (omega (arith, h)))
declared (type_decl name typ) =
    each_append IsNoAlias (type_item_shapes name typ) (named type_name_kind name ∷ []) (of_type (type_item_shapes name typ) (type_items name typ))
    (other type_name_kind name (λ e. let h : type_name_kind ≡ alias_kind = e in absurd (omega (arith, h))))
declared (vars_decl names typ) = each_append IsNoAlias (type_shapes typ) (map (named var_kind) names) (of_type (type_shapes typ) (types typ)) (variables names)
declared (proc_decl h stream) =
    each_append IsNoAlias (flat_map section_shapes h.sections) (nameless proc_type_kind h.name.at ∷ named proc_kind h.name ∷ []) (of_type (flat_map section_shapes h.sections) (parameters h.sections))
    ((λ e. let k : proc_type_kind ≡ alias_kind = e in absurd (omega (arith, k))), other proc_kind h.name (λ e. let k : proc_kind ≡ alias_kind = e in absurd (omega (arith, k))))

-- ** The items of aliases

-- the names of one item have the kinds of its rows
kinds_of_item : (i o : ℕ) (ss : List Shape) → Each IsNoAlias ss → Each (λ n. n.kind ≢ alias_kind) (names_of_item i o ss)
kinds_of_item i o [] h = tt
kinds_of_item i o (s ∷ ss) h = go (s.name == 0) (kinds_of_item i (o + 1) ss h.1)
  where
    go : (b : Bool) → Each (λ n. n.kind ≢ alias_kind) (names_of_item i (o + 1) ss)
        → Each (λ n. n.kind ≢ alias_kind) (if b then names_of_item i (o + 1) ss else record { name = s.name; ordinal = o; kind = s.kind; at = s.at; item = i } ∷ names_of_item i (o + 1) ss)
    go true rest = rest
    go false rest = (h.0, rest)

-- an alias is of an item before this one
abbrev IsAliasBefore : (item : ℕ) → Named → Type 0
IsAliasBefore item n = n.kind ≡ alias_kind → n.item < item

no_aliases : (item : ℕ) (decls : List Decl) (i o : ℕ) → Each (IsAliasBefore item) (names_from i o (map decl_item decls))
no_aliases item [] i o = tt
no_aliases item (d ∷ decls) i o =
    each_append (IsAliasBefore item) (names_of_item i o (item_shapes (decl_item d))) (names_from (i + 1) (o + length (item_shapes (decl_item d))) (map decl_item decls))
    (each_then (λ n. n.kind ≢ alias_kind) (IsAliasBefore item) (names_of_item i o (item_shapes (decl_item d))) (λ n h e. absurd (h e)) (kinds_of_item i o (item_shapes (decl_item d)) (declared d)))
    (no_aliases item decls (i + 1) (o + length (item_shapes (decl_item d))))

imported : (front : List Item) (decls : List Decl) (i o : ℕ) → Each (IsAliasBefore (i + length front)) (names_from i o (front ++ map decl_item decls))
imported [] decls i o = no_aliases (i + 0) decls i o
imported (x ∷ front) decls i o =
    let n : i + 1 + length front ≡ i + length (x ∷ front) = omega arith in
    each_append (IsAliasBefore (i + length (x ∷ front))) (names_of_item i o (item_shapes x)) (names_from (i + 1) (o + length (item_shapes x)) (front ++ map decl_item decls))
    (of_item (IsAliasBefore (i + length (x ∷ front))) i o (item_shapes x) (λ name m kind at p k e. omega arith))
    (subst (λ (k : ℕ). Each (IsAliasBefore k) (names_from (i + 1) (o + length (item_shapes x)) (front ++ map decl_item decls))) n (imported front decls (i + 1) (o + length (item_shapes x))))

-- ** The item of a pointer

-- a declaration, and no heading of the block itself or import
abbrev IsDeclaration : Item → Type 0
IsDeclaration (heading_item h) = ⊥
IsDeclaration (import_item from name) = ⊥
IsDeclaration x = Unit {0}

abbrev IsNoPointer : Shape → Type 0
IsNoPointer s = s.kind ≢ pointer_kind

absent : (t : Shape) (ss : List Shape) → Each IsNoPointer ss → IsIn t ss → t.kind ≡ pointer_kind → ⊥
absent t [] all on is = on
absent t (s ∷ ss) all (inl e) is = all.0 (ap (λ (u : Shape). u.kind) (sym e) ∙ is)
absent t (s ∷ ss) all (inr on) is = absent t ss all.1 on is

own_open : (is_open : Bool) (q : Qual) → Each IsNoPointer (open_shapes is_open q)
own_open true q = ((λ e. let h : open_array_kind ≡ pointer_kind = e in absurd (omega (arith, h))), tt)
own_open false q = tt

own_variables : (names : List Ident) → Each IsNoPointer (map (named var_kind) names)
own_variables [] = tt
own_variables (i ∷ names) = ((λ e. let h : var_kind ≡ pointer_kind = e in absurd (omega (arith, h))), own_variables names)

own_parameters : (sections : List Section) → Each IsNoPointer (flat_map own_section_shapes sections)
own_parameters [] = tt
own_parameters (s ∷ sections) =
    each_append IsNoPointer (own_section_shapes s) (flat_map own_section_shapes sections)
    (each_append IsNoPointer (open_shapes s.is_open s.of) (map (named var_kind) s.names) (own_open s.is_open s.of) (own_variables s.names)) (own_parameters sections)

of_import : (from : Option Ident) (name : Ident) → Each IsNoPointer (item_shapes (import_item from name))
of_import None name = ((λ e. let h : module_kind ≡ pointer_kind = e in absurd (omega (arith, h))), tt)
of_import (Some m) name = ((λ e. let h : alias_kind ≡ pointer_kind = e in absurd (omega (arith, h))), tt)

declares : (x : Item) (t : Shape) → IsIn t (item_shapes x) → t.kind ≡ pointer_kind → IsDeclaration x
declares (heading_item h) t on is = absurd (absent t (flat_map own_section_shapes h.sections) (own_parameters h.sections) on is)
declares (import_item from name) t on is = absurd (absent t (item_shapes (import_item from name)) (of_import from name) on is)
declares x t on is = tt

-- the items in front are no declarations, so a declaration stands behind them
front_is_before : (front behind before rest : List Item) (x : Item) → front ++ behind ≡ before ++ x ∷ rest → Each (λ y. IsDeclaration y → ⊥) front → IsDeclaration x → length front ≤ length before
front_is_before [] behind before rest x e none is = omega arith
front_is_before (y ∷ front) behind [] rest x e none is = let same : y ≡ x = cc in absurd (none.0 (subst IsDeclaration (sym same) is))
front_is_before (y ∷ front) behind (z ∷ before) rest x e none is =
    let tail : front ++ behind ≡ before ++ x ∷ rest = cc in
    let h = front_is_before front behind before rest x tail none.1 is in
    omega (arith, h)

of_names : (from : Option Ident) (names : List Ident) → Each (λ y. IsDeclaration y → ⊥) (map (λ n. import_item from n) names)
of_names from [] = tt
of_names from (n ∷ names) = ((λ h. h), of_names from names)

of_imports : (imports : List Import) → Each (λ y. IsDeclaration y → ⊥) (flat_map import_items imports)
of_imports [] = tt
of_imports (i ∷ imports) = each_append (λ y. IsDeclaration y → ⊥) (import_items i) (flat_map import_items imports) (of_names i.from i.names) (of_imports imports)

of_heading : (h : Option Heading) → Each (λ y. IsDeclaration y → ⊥) (heading_items h)
of_heading None = tt
of_heading (Some h) = ((λ k. k), tt)

-- ** The aliases of a block

module _ (s : Stream) (before rest : List Item) (x : Item) (items : items_of s ≡ before ++ x ∷ rest) (is : IsDeclaration x) where
  abbrev front : List Item
  front = heading_items s.heading ++ flat_map import_items s.imports

  front_within : length front ≤ length before
  front_within =
      front_is_before front (map decl_item s.decls) before rest x items
      (each_append (λ y. IsDeclaration y → ⊥) (heading_items s.heading) (flat_map import_items s.imports) (of_heading s.heading) (of_imports s.imports)) is

  all_before : Each (IsAliasBefore (0 + length front)) (names_from 0 0 (before ++ x ∷ rest))
  all_before = subst (λ (xs : List Item). Each (IsAliasBefore (0 + length front)) (names_from 0 0 xs)) items (imported front s.decls 0 0)

  alias_early : (name : ℕ) (n : Named) → entry_named (names_from 0 0 (before ++ x ∷ rest)) name ≡ Some n → n.kind ≡ alias_kind → n.ordinal < rows_of before
  alias_early name n found kind =
      let early = entry_of (IsAliasBefore (0 + length front)) (names_from 0 0 (before ++ x ∷ rest)) name n all_before found kind in
      let within = front_within in
      early_entry before (x ∷ rest) name n found (omega (arith, early, within))

-- an item that makes the row of a pointer begins behind all aliases
pub aliases_before : (l : Layout) (s : Stream) (before rest : List Item) (x : Item) (first : ℕ) → items_of s ≡ before ++ x ∷ rest → l.names ≡ names_from 0 0 (before ++ x ∷ rest) → first ≡ rows_of before + length l.brought
    → Each (λ b. b.ordinal < first) l.brought → (t : Shape) → IsIn t (item_shapes x) → t.kind ≡ pointer_kind → AreAliasesBefore l first
aliases_before l s before rest x first items names count old t on pointer name e some kind = go (entry_named l.brought name) (entry_named l.names name) refl refl some
  where
    by_syntax : (n : Named) → entry_named l.names name ≡ Some n → moved l.brought n ≡ e → e.ordinal < first
    by_syntax n found same =
        let at : e.ordinal ≡ n.ordinal + brought_before l.brought n.item = ap (λ (m : Named). m.ordinal) (sym same) in
        let of : n.kind ≡ alias_kind = ap (λ (m : Named). m.kind) same ∙ kind in
        let r = alias_early s before rest x items (declares x t on pointer) name n (ap (λ (ns : List Named). entry_named ns name) (sym names) ∙ found) of in
        let f = before_few l.brought n.item in
        omega (arith, at, r, f, count)

    go : (b n : Option Named) → entry_named l.brought name ≡ b → entry_named l.names name ≡ n → entry_or b (option_map (moved l.brought) n) ≡ Some e → e.ordinal < first
    go (Some b) n found in_names is =
        let same : b ≡ e = cc in
        subst (λ (d : Named). d.ordinal < first) same (entry_of (λ d. d.ordinal < first) l.brought name b old found)
    go None (Some n) found in_names is = let same : moved l.brought n ≡ e = cc in by_syntax n in_names same
    go None None found in_names is = absurd (cc)
