-- What is found in rows that are in range, and the constants that operators and functions give, have values in range.
use Rattle.std.specs.Prelude.{◌≡◌, ℕ, ◌-◌, ◌^◌, ◌<◌, ◌≤◌, ◌⊎◌, nat_lt, List, [], ◌∷◌, length, drop, slice_get, slice_index_or, Option, Some, None}
use Rattle.std.proofs.Common.{ap, subst, sym, ◌∙◌, refl, inl, inr, arith}
use Rattle.std.proofs.lemmas.List.{get_or_past}
use Rattle.std.proofs.lemmas.Option.{get_or_from_slice_get, slice_get_cases}
use Rattle.m2_base.proofs.SoundOperands.{AreValues, integer_values, natural-value}
use Rattle.m2_base.proofs.SoundTypes.{either}
use Rattle.m2_base.specs.Gives.{Gives, gives}
use Rattle.m2_base.specs.Lists.{IsIn, WhereKept}
use Rattle.m2_base.specs.Rows.{IsSmall, IsValue, is_same_place, natural, row_meaning, row_of}
use Rattle.m2_base.specs.declared.rows.RowMeaning.TheVariants.{Alias, Array, Broken, Cardinal, Character, Const, Enum, Integer, Module, Proc, Record, Standard, Subrange, TypeName, Var}
use Rattle.m2_base.specs.declared.rows.Place.{Place}
use Rattle.m2_base.specs.declared.rows.Row.{Row}
use Rattle.m2_base.specs.declared.rows.RowMeaning.{RowMeaning}
use Rattle.m2_base.specs.Standard.{is_standard, standard_place, text_type}
use Rattle.m2_base.specs.Statics.Contexts.{Context, Scene, row_at}
use Rattle.m2_base.specs.declared.sites.Named.{Named}
use Rattle.m2_base.specs.Statics.Lookup.{Entry, entry_at, entry_in, first_entry}
use Rattle.m2_base.specs.Statics.NamedOperands.{is_in_error, operand_by, operand_of_use}
use Rattle.m2_base.specs.Statics.Types.{is_broken, kind_of, range_by, range_of, size_by, size_of}
use Rattle.m2_base.specs.Statics.Uses.{bound, bound_or, bound_outside, followed, followed_by, stands_later, use_by_item, use_in_item, use_of}
use Rattle.m2_base.specs.Tables.{first_named, found_or, lookup, rows_at}
use Rattle.m2_base.specs.declared.operands.Operand.TheVariants.{Constant, InError, ModuleName, NamedType, Procedure, StringConstant, Variable}
use Rattle.m2_base.specs.declared.operands.Operand.{Operand}
use Rattle.row_laws.specs.RowRanges.{HasOperands, RowsInRange}
use Rattle.block_laws.specs.Sight.{IsDeclared, Sees}
use Rattle.row_laws.proofs.Lookups.{named_at}

-- ** What is found

-- an entry that is a row of a scope, or none
abbrev pub IsEntry : (seen : ℕ → Type 0) → Scene → Entry → Type 0
IsEntry seen scene e = (row_meaning e.1 ≡ Broken) ⊎ (seen e.0.scope × (slice_get (rows_at scene.tables e.0.scope) e.0.ordinal ≡ Some e.1))

module _ (seen : ℕ → Type 0) (scene : Scene) where
  pub found_entry : (chain : List ℕ) (name : ℕ) → ((s : ℕ) → IsIn s chain → seen s) → WhereKept (lookup scene.tables chain name) (IsEntry seen scene)
  found_entry [] name h = tt
  found_entry (s ∷ chain) name h = by_hit (first_named name (rows_at scene.tables s) 0) refl (found_entry chain name (λ n i. h n (inr i)))
    where
      by_hit : (o : Option (ℕ × Row)) → first_named name (rows_at scene.tables s) 0 ≡ o → WhereKept (lookup scene.tables chain name) (IsEntry seen scene)
          → WhereKept (found_or s o (lookup scene.tables chain name)) (IsEntry seen scene)
      by_hit None e rest = rest
      by_hit (Some hit) e rest =
          let at = named_at name (rows_at scene.tables s) 0 hit e in
          let same : at.0 ≡ hit.0 = let h = at.1 in omega (arith, h) in
          inr (h s (inl refl), subst (λ n. slice_get (rows_at scene.tables s) n ≡ Some hit.1) same at.2)

  pub entry_there : (p : Place) → seen p.scope → IsEntry seen scene (entry_at scene p)
  entry_there p h = by_case ((slice_get_cases (rows_at scene.tables p.scope) p.ordinal).1)
    where
      by_case : ((x : Row) × (p.ordinal < length (rows_at scene.tables p.scope)) × (slice_get (rows_at scene.tables p.scope) p.ordinal ≡ Some x) × (slice_index_or (rows_at scene.tables p.scope) p.ordinal x ≡ x))
          ⊎ ((length (rows_at scene.tables p.scope) ≤ p.ordinal) × (slice_get (rows_at scene.tables p.scope) p.ordinal ≡ None))
          → IsEntry seen scene (entry_at scene p)
      by_case (inl f) =
          let e = get_or_from_slice_get (rows_at scene.tables p.scope) p.ordinal f.0 (row_of 0 0 Broken) f.2 in
          inr (h, f.2 ∙ ap (λ (r : Row). Some r) (sym e))
      by_case (inr f) = inl (ap row_meaning (get_or_past (rows_at scene.tables p.scope) p.ordinal (row_of 0 0 Broken) f.0))

  declared : (e : Entry) (m : RowMeaning) → seen e.0.scope → slice_get (rows_at scene.tables e.0.scope) e.0.ordinal ≡ Some e.1 → row_meaning e.1 ≡ m → IsDeclared seen scene e.1.name m
  declared e m s h k = record { place = e.0; row = e.1; in_sight = s; there = h; means = k; named = refl }

  followed_entry : Sees seen scene → (e : Entry) → IsEntry seen scene e → IsEntry seen scene (followed scene e)
  followed_entry sees e (inl h) = subst (λ m. IsEntry seen scene (followed_by scene e m)) (sym h) (inl h)
  followed_entry sees e (inr h) = by_meaning (row_meaning e.1) refl
    where
      by_meaning : (m : RowMeaning) → row_meaning e.1 ≡ m → IsEntry seen scene (followed_by scene e m)
      by_meaning (Alias p) k = entry_there p (sees.aliases e.1.name p (declared e (Alias p) h.0 h.1 k))
      by_meaning m k = inr h

  -- the rows' own numbers
  pub entry_operands : RowsInRange scene → (e : Entry) → IsEntry seen scene e → HasOperands scene (row_meaning e.1)
  entry_operands rows e (inl h) = subst (HasOperands scene) (sym h) tt
  entry_operands rows e (inr h) = rows.rows e.0.scope e.0.ordinal e.1 h.1

-- ** What a name is bound to

module _ (seen : ℕ → Type 0) (c : Context) (sees : Sees seen c.scene) where
  abbrev Bound : Gives (Option Entry) → Type 0
  Bound g = WhereKept g.value (IsEntry seen c.scene)

  bound_or_entry : (code name at : ℕ) (o : Option Entry) → WhereKept o (IsEntry seen c.scene) → Bound (bound_or c code name at o)
  bound_or_entry code name at None h = tt
  bound_or_entry code name at (Some e) h = followed_entry seen c.scene sees e h

  outside_entry : (name at : ℕ) (o : Option Entry) → WhereKept o (IsEntry seen c.scene) → Bound (bound_outside c name at o)
  outside_entry name at None h = tt
  outside_entry name at (Some e) h = either Bound (stands_later c at e) _ (bound c name at e) tt (followed_entry seen c.scene sees e h)

  dropped : (chain : List ℕ) → ((s : ℕ) → IsIn s chain → seen s) → (s : ℕ) → IsIn s (drop 1 chain) → seen s
  dropped [] h s i = absurd i
  dropped (x ∷ chain) h s i = h s (inr i)

  in_item_entry : (item name at : ℕ) (o : Option Named) → Bound (use_in_item c item name at o)
  in_item_entry item name at (Some n) =
      either Bound (nat_lt n.item item) _ _
      (bound_or_entry 40 name at (entry_in c.scene.tables c.scene.block.scope name) (found_entry seen c.scene (c.scene.block.scope ∷ []) name (λ s i. own s i))) tt
    where
      own : (s : ℕ) → IsIn s (c.scene.block.scope ∷ []) → seen s
      own s (inl e) = subst seen (sym e) sees.own
      own s (inr e) = absurd e
  in_item_entry item name at None =
      outside_entry name at (lookup c.scene.tables (drop 1 c.scene.block.chain) name)
      (found_entry seen c.scene (drop 1 c.scene.block.chain) name (dropped c.scene.block.chain sees.chain))

  by_item_entry : (name at : ℕ) (o : Option ℕ) → Bound (use_by_item c name at o)
  by_item_entry name at (Some item) = in_item_entry item name at (first_entry c.layout name)
  by_item_entry name at None = bound_or_entry 40 name at (lookup c.scene.tables c.scene.block.chain name) (found_entry seen c.scene c.scene.block.chain name sees.chain)

  pub plain_use : (name at : ℕ) → Bound (use_of c None name at)
  plain_use name at =
      either Bound (is_standard name) (gives (Some (entry_at c.scene (standard_place name)))) _ (entry_there seen c.scene (standard_place name) sees.standard)
      (by_item_entry name at c.item)

  pub member_use : (s name at : ℕ) → seen s → Bound (use_of c (Some s) name at)
  member_use s name at h = bound_or_entry 44 name at (entry_in c.scene.tables s name) (found_entry seen c.scene (s ∷ []) name (λ n i. only n i))
    where
      only : (n : ℕ) → IsIn n (s ∷ []) → seen n
      only n (inl e) = subst seen (sym e) h
      only n (inr e) = absurd e

-- ** Operands

-- A constant is a value, a string's length has 32 bits, a module's scope is seen, and of a procedure this holds.
abbrev pub HasValues : (seen : ℕ → Type 0) → (ℕ → Place → ℕ → ℕ → Type 0) → Operand → Type 0
HasValues seen P (Constant t v) = IsValue v
HasValues seen P (StringConstant n l) = IsSmall l
HasValues seen P (Procedure name t k s) = P name t k s
HasValues seen P (ModuleName s) = seen s
HasValues seen P other = Unit {0}

-- a procedure that is declared
abbrev pub IsProcedure : (seen : ℕ → Type 0) → Scene → ℕ → Place → ℕ → ℕ → Type 0
IsProcedure seen scene name t k s = IsDeclared seen scene name (Proc t k s)

pub entry_operand : (seen : ℕ → Type 0) (scene : Scene) → RowsInRange scene → (o : Option Entry) → Sees seen scene → WhereKept o (IsEntry seen scene) → HasValues seen (IsProcedure seen scene) (operand_of_use scene o)
entry_operand seen scene rows None sees h = tt
entry_operand seen scene rows (Some e) sees (inl h) = subst (λ m. HasValues seen (IsProcedure seen scene) (operand_by scene e.1.name m)) (sym h) tt
entry_operand seen scene rows (Some e) sees (inr h) = by_meaning (row_meaning e.1) refl (entry_operands seen scene rows e (inr h))
  where
    Q : Operand → Type 0
    Q o = HasValues seen (IsProcedure seen scene) o

    by_meaning : (m : RowMeaning) → row_meaning e.1 ≡ m → HasOperands scene m → Q (operand_by scene e.1.name m)
    by_meaning (Const t v len) k f =
        either Q (is_broken scene t) InError _ tt (either Q (is_same_place t text_type) (StringConstant (natural v) len) (Constant t v) f.1 f.0)
    by_meaning (TypeName t) k f = either Q (is_broken scene t) InError (NamedType t) tt tt
    by_meaning (Var t mode offset) k f = either Q (is_in_error scene t) InError (Variable t) tt tt
    by_meaning (Proc t number s) k f = declared seen scene e (Proc t number s) h.0 h.1 k
    by_meaning (Module s) k f = sees.modules e.1.name s (declared seen scene e (Module s) h.0 h.1 k)
    by_meaning (Standard n) k f = tt
    by_meaning m k f = tt

-- ** Types

pub kind_operands : (scene : Scene) → RowsInRange scene → (p : Place) → HasOperands scene (row_meaning (row_at scene.tables p))
kind_operands scene rows p = entry_operands (λ s. Unit {0}) scene rows (entry_at scene p) (entry_there (λ s. Unit {0}) scene p tt)

meaning_values : (scene : Scene) (m : RowMeaning) → HasOperands scene m → WhereKept (range_by m) AreValues
meaning_values scene Integer h = integer_values
meaning_values scene Cardinal h = (natural-value 0 (omega arith), natural-value 4294967295 (omega arith))
meaning_values scene Character h = (natural-value 0 (omega arith), natural-value 255 (omega arith))
meaning_values scene (Enum n) h = (natural-value 0 (omega arith), natural-value (n - 1) (omega (arith, h)))
meaning_values scene (Subrange t low high) h = h
meaning_values scene m h = tt

size_bounds : (scene : Scene) (m : RowMeaning) → HasOperands scene m → (1 ≤ size_by m) × (size_by m < 2 ^ 32)
size_bounds scene (Array i t s) h = (h.0, h.1)
size_bounds scene (Record f s) h = h
size_bounds scene m h = (omega arith, omega arith)

module _ (c : Context) (rows : RowsInRange c.scene) where
  pub range_values : (t : Place) → WhereKept (range_of c.scene t) AreValues
  range_values t = meaning_values c.scene (kind_of c.scene t) (kind_operands c.scene rows _)

  pub size_is : (t : Place) → (1 ≤ size_of c.scene t) × (size_of c.scene t < 2 ^ 32)
  size_is t = size_bounds c.scene (kind_of c.scene t) (kind_operands c.scene rows _)
