-- In rows no part of which is in error, a name is bound to what isn't, unless it was refused.
use Rattle.std.specs.Prelude.{◌≡◌, ◌≢◌, ℕ, zero, suc, ◌+◌, ◌<◌, ◌≤◌, ◌==◌, ◌&&◌, not, Bool, true, false, if◌then◌else◌, nat_lt, nat_le, List, [], ◌∷◌, length, drop, slice_index_or, Option, Some, None}
use Rattle.std.proofs.Common.{◌∙◌, subst, sym, refl, arith}
use Rattle.std.proofs.lemmas.Bool.{and_parts, eqb-true, leb-true}
use Rattle.m2_base.specs.Lists.{Each, WhereKept}
use Rattle.m2_base.specs.Rows.{is_same_place, natural, row_meaning, row_of}
use Rattle.m2_base.specs.declared.rows.Place.{Place}
use Rattle.m2_base.specs.declared.rows.Row.{Row}
use Rattle.m2_base.specs.declared.rows.RowMeaning.{RowMeaning}
use Rattle.m2_base.specs.declared.rows.RowMeaning.TheVariants.{Alias, Broken, Const, Module, Proc, Standard, TypeName, Var}
use Rattle.m2_base.specs.declared.sites.Named.{Named}
use Rattle.m2_base.specs.Standard.{is_standard, standard_place, standard_rows, text_type}
use Rattle.m2_base.specs.Statics.Contexts.{Context, Scene, row_at}
use Rattle.m2_base.specs.Statics.Diagnostics.{not_declared_there, unknown_name}
use Rattle.m2_base.specs.Statics.Lookup.{Entry, entry_at, entry_in, first_entry}
use Rattle.m2_base.specs.Statics.NamedOperands.{is_in_error, operand_by, operand_of}
use Rattle.m2_base.specs.Statics.Types.{is_broken, meaning_at}
use Rattle.m2_base.specs.Statics.Uses.{bound_or, bound_outside, followed, followed_by, stands_later, use_by_item, use_in_item, use_of}
use Rattle.m2_base.specs.Tables.{first_named, found_or, lookup, rows_at}
use Rattle.m2_base.specs.declared.operands.Operand.TheVariants.{Constant, InError, NamedType, StringConstant, Variable}
use Rattle.block_code.proofs.Noted.{UnlessNoted, answered, by_test, given, noted}
use Rattle.block_code.proofs.WholeRows.{IsWhole, at_row, each_got, type-whole}
use Rattle.block_code.specs.Whole.{AreWhole, IsNoAlias, IsWholeName, IsWholeRow}

-- of two values the second, where the test is known to fail
pub the_second : {A : Type 0} (P : A → Type 0) (b : Bool) (x y : A) → b ≡ false → P y → P (if b then x else y)
the_second P true x y e h = absurd cc
the_second P false x y e h = h

-- ---- standard names

abbrev is_no_alias : RowMeaning → Bool
is_no_alias (Alias p) = false
is_no_alias other = true

-- a row that a name stands for at once
abbrev is_plain : Row → Bool
is_plain r = not (r.name == 0) && is_no_alias (row_meaning r)

abbrev every : {A : Type 0} → (A → Bool) → List A → Bool
every f [] = true
every f (x ∷ xs) = f x && every f xs

no_alias : (m : RowMeaning) → is_no_alias m ≡ true → IsNoAlias m
no_alias (Alias p) e = absurd cc
no_alias m e = tt

standard-plain : every is_plain (drop 11 standard_rows) ≡ true
standard-plain = refl

at_every : {A : Type 0} (f : A → Bool) (xs : List A) (n : ℕ) (d : A) → every f xs ≡ true → n < length xs → f (slice_index_or xs n d) ≡ true
at_every f [] n d e h = absurd (omega (arith, h))
at_every f (x ∷ xs) zero d e h = (and_parts (f x) (every f xs) e).0
at_every f (x ∷ xs) (suc n) d e h = at_every f xs n d (and_parts (f x) (every f xs) e).1 (omega (arith, h))

at_dropped : {A : Type 0} (f : A → Bool) (k : ℕ) (xs : List A) (n : ℕ) (d : A) → every f (drop k xs) ≡ true → k ≤ n → n < length xs → f (slice_index_or xs n d) ≡ true
at_dropped f zero xs n d e h l = at_every f xs n d e l
at_dropped f (suc k) [] n d e h l = absurd (omega (arith, l))
at_dropped f (suc k) (x ∷ xs) zero d e h l = absurd (omega (arith, h))
at_dropped f (suc k) (x ∷ xs) (suc n) d e h l = at_dropped f k xs n d e (omega (arith, h)) (omega (arith, l))

-- ---- what is found

-- a row with a name, no part of which is in error
abbrev pub IsFound : Scene → Row → Type 0
IsFound scene r = IsWholeRow scene r × (r.name ≢ 0)

-- an entry that isn't in error
abbrev pub IsBound : Scene → Option Entry → Type 0
IsBound scene None = ⊥
IsBound scene (Some e) = IsWhole scene (operand_of scene e)

first_found : (scene : Scene) (name : ℕ) (xs : List Row) (k : ℕ) → name ≢ 0 → Each (IsWholeRow scene) xs
    → WhereKept (first_named name xs k) (λ hit. IsFound scene hit.1)
first_found scene name [] k n h = tt
first_found scene name (r ∷ xs) k n h = go (r.name == name) refl (first_found scene name xs (k + 1) n h.1)
  where
    go : (b : Bool) → (r.name == name) ≡ b → WhereKept (first_named name xs (k + 1)) (λ hit. IsFound scene hit.1)
        → WhereKept (if b then Some (k, r) else first_named name xs (k + 1)) (λ hit. IsFound scene hit.1)
    go true e rest = (h.0, λ z. n (sym (eqb-true r.name name e) ∙ z))
    go false e rest = rest

module _ (scene : Scene) (rows : AreWhole scene) where
  lookup-found : (chain : List ℕ) (name : ℕ) → name ≢ 0 → WhereKept (lookup scene.tables chain name) (λ e. IsFound scene e.1)
  lookup-found [] name n = tt
  lookup-found (s ∷ chain) name n =
      go (first_named name (rows_at scene.tables s) 0)
      (first_found scene name (rows_at scene.tables s) 0 n (each_got (IsWholeRow scene) (rows_at scene.tables s) (rows.rows s)))
      (lookup-found chain name n)
    where
      go : (o : Option (ℕ × Row)) → WhereKept o (λ hit. IsFound scene hit.1) → WhereKept (lookup scene.tables chain name) (λ e. IsFound scene e.1)
          → WhereKept (found_or s o (lookup scene.tables chain name)) (λ e. IsFound scene e.1)
      go None h rest = rest
      go (Some hit) h rest = h

  -- what a name stands for that is no alias
  named_operand : (name : ℕ) (m : RowMeaning) → IsWholeName scene name m → IsNoAlias m → IsWhole scene (operand_by scene name m)
  named_operand name (Const t v len) h a =
      the_second (IsWhole scene) (is_broken scene t) InError (if is_same_place t text_type then StringConstant (natural v) len else Constant t v) h
      (go (is_same_place t text_type))
    where
      go : (b : Bool) → IsWhole scene (if b then StringConstant (natural v) len else Constant t v)
      go true = tt
      go false = tt
  named_operand name (TypeName t) h a = the_second (IsWhole scene) (is_broken scene t) InError (NamedType t) h h
  named_operand name (Var t mode offset) h a = the_second (IsWhole scene) (is_in_error scene t) InError (Variable t) (type-whole scene rows t h) tt
  named_operand name (Proc t number s) h a = h
  named_operand name (Module s) h a = tt
  named_operand name (Standard n) h a = tt
  named_operand name (Alias p) h a = absurd a
  named_operand name m h a = absurd h

  -- the row at a place, where it has a name and is no alias
  at_name : (p : Place) → (row_at scene.tables p).name ≢ 0 → IsNoAlias (meaning_at scene p) → IsWhole scene (operand_of scene (entry_at scene p))
  at_name p =
      at_row scene rows (λ (r : Row). r.name ≢ 0 → IsNoAlias (row_meaning r) → IsWhole scene (operand_by scene r.name (row_meaning r)))
      (λ n a. absurd (n refl)) (λ r h n a. named_operand r.name (row_meaning r) (h.named n) a) p

  followed-bound : (e : Entry) → IsFound scene e.1 → IsBound scene (Some (followed scene e))
  followed-bound e h = go (row_meaning e.1) refl (h.0.named h.1)
    where
      go : (m : RowMeaning) → row_meaning e.1 ≡ m → IsWholeName scene e.1.name m → IsWhole scene (operand_of scene (followed_by scene e m))
      go (Alias p) k w = at_name p w.0 w.1
      go m k w = subst (λ n. IsWhole scene (operand_by scene e.1.name n)) (sym k) (named_operand e.1.name m w tt)

  standard-bound : (name : ℕ) → is_standard name ≡ true → IsBound scene (Some (entry_at scene (standard_place name)))
  standard-bound name e =
      let d : Row = row_of 0 0 Broken in
      let b = and_parts (nat_le 1 name) (nat_le name 26) e in
      let low = leb-true 1 name b.0 in
      let high = leb-true name 26 b.1 in
      let long : length standard_rows ≡ 37 = refl in
      let plain : is_plain (slice_index_or standard_rows (name + 10) d) ≡ true =
      at_dropped is_plain 11 standard_rows (name + 10) d standard-plain (omega (arith, low)) (omega (arith, high, long)) in
      let here : is_plain (row_at scene.tables (standard_place name)) ≡ true =
      subst (λ (all : List Row). is_plain (slice_index_or all (name + 10) d) ≡ true) (sym rows.standard) plain in
      let r : Row = row_at scene.tables (standard_place name) in
      let both = and_parts (not (r.name == 0)) (is_no_alias (row_meaning r)) here in
      at_name (standard_place name) (λ z. absurd (let f : not (0 == 0) ≡ true = subst (λ n. not (n == 0) ≡ true) z both.0 in cc))
      (no_alias (row_meaning r) both.1)

module _ (c : Context) (rows : AreWhole c.scene) where
  bound_or-whole : (code name at : ℕ) (o : Option Entry) → WhereKept o (λ e. IsFound c.scene e.1) → UnlessNoted (IsBound c.scene) (bound_or c code name at o)
  bound_or-whole code name at None h = noted
  bound_or-whole code name at (Some e) h = answered (followed-bound c.scene rows e h)

  outside-whole : (name at : ℕ) (o : Option Entry) → WhereKept o (λ e. IsFound c.scene e.1) → UnlessNoted (IsBound c.scene) (bound_outside c name at o)
  outside-whole name at None h = noted
  outside-whole name at (Some e) h =
      by_test (stands_later c at e) (λ k. record { holds = λ n. absurd cc }) (λ k. answered (followed-bound c.scene rows e h))

  in_item-whole : (item name at : ℕ) (o : Option Named) → name ≢ 0 → UnlessNoted (IsBound c.scene) (use_in_item c item name at o)
  in_item-whole item name at (Some n) k =
      by_test (nat_lt n.item item)
      (λ e. bound_or-whole unknown_name name at (entry_in c.scene.tables c.scene.block.scope name) (lookup-found c.scene rows (c.scene.block.scope ∷ []) name k)) (λ e. noted)
  in_item-whole item name at None k =
      outside-whole name at (lookup c.scene.tables (drop 1 c.scene.block.chain) name) (lookup-found c.scene rows (drop 1 c.scene.block.chain) name k)

  by_item-whole : (name at : ℕ) (o : Option ℕ) → name ≢ 0 → UnlessNoted (IsBound c.scene) (use_by_item c name at o)
  by_item-whole name at (Some item) k = in_item-whole item name at (first_entry c.layout name) k
  by_item-whole name at None k =
      bound_or-whole unknown_name name at (lookup c.scene.tables c.scene.block.chain name) (lookup-found c.scene rows c.scene.block.chain name k)

  pub use-whole : (within : Option ℕ) (name at : ℕ) → name ≢ 0 → UnlessNoted (IsBound c.scene) (use_of c within name at)
  use-whole (Some s) name at k = bound_or-whole not_declared_there name at (entry_in c.scene.tables s name) (lookup-found c.scene rows (s ∷ []) name k)
  use-whole None name at k =
      by_test (is_standard name) (λ e. given (standard-bound c.scene rows name e)) (λ e. by_item-whole name at c.item k)
