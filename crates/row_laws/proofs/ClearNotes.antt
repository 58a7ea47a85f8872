-- What names and types by name give in a clear scene, where they have no diagnostic; and how what is given without diagnostics
-- goes together.
use Rattle.std.specs.Prelude.{◌≡◌, ◌≢◌, ℕ, Bool, true, if◌then◌else◌, drop, nat_lt, List, [], ◌∷◌, ◌++◌, Option, Some, None}
use Rattle.std.proofs.Common.{subst, sym, ◌∙◌, refl}
use Rattle.m2_base.specs.Gives.{Gives, gives}
use Rattle.m2_base.specs.Lists.{WhereKept}
use Rattle.m2_base.specs.Rows.{row_of, row_meaning}
use Rattle.m2_base.specs.declared.rows.Place.{Place}
use Rattle.m2_base.specs.declared.rows.RowMeaning.{RowMeaning}
use Rattle.m2_base.specs.declared.rows.RowMeaning.TheVariants.{Alias, Broken, Module, TypeName}
use Rattle.m2_base.specs.declared.rows.Row.{Row}
use Rattle.m2_base.specs.declared.sites.Named.{Named}
use Rattle.m2_base.specs.Standard.{is_standard, standard_place}
use Rattle.m2_base.specs.Tables.{lookup}
use Rattle.m2_base.specs.declared.trees.Ident.{Ident}
use Rattle.m2_base.specs.declared.trees.Qual.{Qual}
use Rattle.m2_base.specs.Statics.Contexts.{Context, Scene, row_at}
use Rattle.m2_base.specs.Statics.Lookup.{Entry, entry_at, entry_in, first_entry, has_name}
use Rattle.m2_base.specs.Statics.Makes.{Makes, makes_named, makes_row, next_place, scene_with}
use Rattle.m2_base.specs.Statics.ReadTrees.{IsReadOption, IsReadQual}
use Rattle.m2_base.specs.Statics.TypeNames.{entry_of_qual, member_of, qualified, type_by, type_of_entry, type_of_qual}
use Rattle.m2_base.specs.Statics.Uses.{bound, bound_or, bound_outside, followed_by, stands_later, use_by_item, use_in_item, use_of}
use Rattle.m2_base.specs.declared.notes.Diag.{Diag}
use Rattle.m2_base.proofs.SceneLaws.{with-none, with-twice}
use Rattle.m2_base.proofs.SoundTypes.{either}
use Rattle.row_laws.specs.Clear.{IsNamedTarget, LeadsOn, HasClear, IsClear, IsClearRow, IsNamable, IsTarget}
use Rattle.row_laws.proofs.Choices.{either_by}
use Rattle.row_laws.proofs.ClearRows.{IsClearScene, behind_clear, clear_with, have_clear, place_clear, standard_target}
use Rattle.row_laws.proofs.Joined.{none_left}
use Rattle.row_laws.proofs.Lookups.{Found, found_row}

-- ** What is given and made

-- a value that has P where there is no diagnostic
pub record Fine {T : Type 0} (P : T → Type 0) (ds : List Diag) (v : T) : Type 0 where
  pub keeps : ds ≡ [] → P v

abbrev pub GivesFine : {T : Type 0} → (T → Type 0) → Gives T → Type 0
GivesFine P g = Fine P g.diags g.value

pub fine : {T : Type 0} {P : T → Type 0} {ds : List Diag} {v : T} → P v → Fine P ds v
fine h = record { keeps = λ e. h }

-- a value without diagnostic
pub given : {T : Type 0} {P : T → Type 0} {v : T} → P v → Fine P [] v
given h = record { keeps = λ e. h }

pub refused : {T : Type 0} {P : T → Type 0} {d : Diag} {ds : List Diag} {v : T} → Fine P (d ∷ ds) v
refused = record { keeps = λ e. absurd (cc) }

pub join : {S T : Type 0} {P : S → Type 0} {Q : T → Type 0} {ds es : List Diag} {v : S} {w : T} → Fine P ds v → (P v → Fine Q es w) → Fine Q (ds ++ es) w
join {ds = ds} {es = es} h k = record { keeps = λ e. (k (h.keeps (none_left ds es e).0)).keeps (none_left ds es e).1 }

pub fine_either : {T : Type 0} {P : T → Type 0} (b : Bool) (x y : Gives T) → GivesFine P x → GivesFine P y → GivesFine P (if b then x else y)
fine_either {P = P} b x y h k = either (λ g. GivesFine P g) b x y h k

-- rows that make a clear scene where there is no diagnostic, and a value that has P then
pub record Leaves {T : Type 0} (P : T → Type 0) (scene : Scene) (rows : List Row) (ds : List Diag) (v : T) : Type 0 where
  pub clear : ds ≡ [] → IsClearScene (scene_with scene rows)
  pub value : ds ≡ [] → P v

abbrev pub MakesFine : {T : Type 0} → (T → Type 0) → Context → Makes T → Type 0
MakesFine P c m = Leaves P c.scene m.rows m.diags m.value

pub chain : {S T : Type 0} {P : S → Type 0} {Q : T → Type 0} {scene : Scene} {xs ys : List Row} {ds es : List Diag} {v : S} {w : T}
    → Leaves P scene xs ds v → (IsClearScene (scene_with scene xs) → P v → Leaves Q (scene_with scene xs) ys es w) → Leaves Q scene (xs ++ ys) (ds ++ es) w
chain {scene = scene} {xs = xs} {ys = ys} {ds = ds} {es = es} h k =
    record {
      clear = λ e. let f = (none_left ds es e).0 in subst IsClearScene (with-twice scene xs ys) ((k (h.clear f) (h.value f)).clear (none_left ds es e).1);
      value = λ e. let f = (none_left ds es e).0 in (k (h.clear f) (h.value f)).value (none_left ds es e).1;
    }

-- what makes no rows
pub only : {T : Type 0} {P : T → Type 0} {scene : Scene} {ds : List Diag} {v : T} → IsClearScene scene → Fine P ds v → Leaves P scene [] ds v
only {scene = scene} clear h = record { clear = λ e. subst IsClearScene (sym (with-none scene)) clear; value = h.keeps }

pub done : {T : Type 0} {P : T → Type 0} {scene : Scene} {v : T} → IsClearScene scene → P v → Leaves P scene [] [] v
done clear h = only clear (given h)

-- of the value nothing is asked
pub forget : {T : Type 0} {P : T → Type 0} {scene : Scene} {rows : List Row} {ds : List Diag} {v : T} → Leaves P scene rows ds v → Leaves (λ (x : T). Unit {0}) scene rows ds v
forget h = record { clear = h.clear; value = λ e. tt }

pub one_row_fine : {T : Type 0} {P : T → Type 0} {ds : List Diag} {v : T} (scene : Scene) (r : Row) → IsClearScene scene → IsClearRow scene.tables r → P v → Leaves P scene (r ∷ []) ds v
one_row_fine scene r clear h p = record { clear = λ e. clear_with scene (r ∷ []) clear (h, tt); value = λ e. p }

pub next_clear : (c : Context) → IsClearScene c.scene → IsClear (next_place c)
next_clear c clear = behind_clear c.scene.block.scope _ clear.positive

-- a row without a name
pub row_fine : (c : Context) (at : ℕ) (m : RowMeaning) → IsClearScene c.scene → HasClear (row_meaning (row_of 0 at m)) → LeadsOn c.scene.tables (row_meaning (row_of 0 at m)) → MakesFine IsClear c (makes_row c at m)
row_fine c at m clear h leads = one_row_fine c.scene (row_of 0 at m) clear (h, leads, λ some. absurd (some refl)) (next_clear c clear)

pub row_refused : {T : Type 0} {P : T → Type 0} {scene : Scene} {rows : List Row} {d : Diag} {v : T} → Leaves P scene rows (d ∷ []) v
row_refused = record { clear = λ e. absurd (cc); value = λ e. absurd (cc) }

-- a row with a name
pub named_fine : (c : Context) (name at : ℕ) (m : RowMeaning) → IsClearScene c.scene → HasClear (row_meaning (row_of name at m)) → LeadsOn c.scene.tables (row_meaning (row_of name at m)) → IsNamable (row_meaning (row_of name at m))
    → MakesFine (λ p. Unit {0}) c (makes_named c name at m)
named_fine c name at m clear h leads k =
    either (λ (x : Makes Place). MakesFine (λ p. Unit {0}) c x) (is_standard name) _ _ row_refused
    (either (λ (x : Makes Place). MakesFine (λ p. Unit {0}) c x) (has_name c.scene.tables c.scene.block.scope name) _ _ row_refused
    (one_row_fine c.scene (row_of name at m) clear (h, leads, λ some. k) tt))

-- ** Names

-- an entry whose row has a name and leads to something, and stands at its place
pub record IsGiven (tables : List (List Row)) (e : Entry) : Type 0 where
  pub clear : HasClear (row_meaning e.1)
  pub named : e.1.name ≢ 0
  pub target : IsTarget (row_meaning e.1)
  pub stands : row_at tables e.0 ≡ e.1

abbrev pub IsEntry : List (List Row) → Option Entry → Type 0
IsEntry tables None = ⊥
IsEntry tables (Some e) = IsGiven tables e

abbrev IsFoundEntry : List (List Row) → (name : ℕ) → Entry → Type 0
IsFoundEntry tables name e = Found (IsClearRow tables) tables name e

-- where this holds of an option's value, if there is one
abbrev WhereFound : List (List Row) → (name : ℕ) → Option Entry → Type 0
WhereFound tables name o = WhereKept o (IsFoundEntry tables name)

module _ (c : Context) (clear : IsClearScene c.scene) where
  found_clear : (chain : List ℕ) (name : ℕ) → WhereFound c.scene.tables name (lookup c.scene.tables chain name)
  found_clear chain name = found_row (IsClearRow c.scene.tables) c.scene.tables clear.rows chain name

  followed_given : (e : Entry) (m : RowMeaning) → row_meaning e.1 ≡ m → HasClear (row_meaning e.1) → row_at c.scene.tables e.0 ≡ e.1 → LeadsOn c.scene.tables m → e.1.name ≢ 0 → IsNamable m
      → IsGiven c.scene.tables (followed_by c.scene e m)
  followed_given e (Alias p) same h stands leads some k =
      record { clear = place_clear c.scene.tables (have_clear c.scene.tables clear.rows) p; named = leads.0; target = leads.1; stands = refl }
  followed_given e m same h stands leads some k = record { clear = h; named = some; target = subst IsTarget (sym same) k; stands = stands }

  bound_fine : (name at : ℕ) (e : Entry) → name ≢ 0 → IsFoundEntry c.scene.tables name e → GivesFine (IsEntry c.scene.tables) (bound c name at e)
  bound_fine name at e some h =
      let some_name : e.1.name ≢ 0 = λ none. some (sym h.named ∙ none) in
      given (followed_given e (row_meaning e.1) refl h.holds.0 h.stands h.holds.1 some_name (h.holds.2 some_name))

  bound_or_fine : (code name at : ℕ) (o : Option Entry) → name ≢ 0 → WhereFound c.scene.tables name o → GivesFine (IsEntry c.scene.tables) (bound_or c code name at o)
  bound_or_fine code name at None some h = refused
  bound_or_fine code name at (Some e) some h = bound_fine name at e some h

  bound_outside_fine : (name at : ℕ) (o : Option Entry) → name ≢ 0 → WhereFound c.scene.tables name o → GivesFine (IsEntry c.scene.tables) (bound_outside c name at o)
  bound_outside_fine name at None some h = refused
  bound_outside_fine name at (Some e) some h = fine_either (stands_later c at e) _ (bound c name at e) refused (bound_fine name at e some h)

  use_in_item_fine : (item name at : ℕ) (o : Option Named) → name ≢ 0 → GivesFine (IsEntry c.scene.tables) (use_in_item c item name at o)
  use_in_item_fine item name at (Some n) some =
      fine_either (nat_lt n.item item) _ _ (bound_or_fine 40 name at (entry_in c.scene.tables c.scene.block.scope name) some (found_clear (c.scene.block.scope ∷ []) name)) refused
  use_in_item_fine item name at None some =
      bound_outside_fine name at (lookup c.scene.tables (drop 1 c.scene.block.chain) name) some (found_clear (drop 1 c.scene.block.chain) name)

  use_by_item_fine : (name at : ℕ) (o : Option ℕ) → name ≢ 0 → GivesFine (IsEntry c.scene.tables) (use_by_item c name at o)
  use_by_item_fine name at (Some item) some = use_in_item_fine item name at (first_entry c.layout name) some
  use_by_item_fine name at None some = bound_or_fine 40 name at (lookup c.scene.tables c.scene.block.chain name) some (found_clear c.scene.block.chain name)

  -- the row of a standard name
  standard_given : (name : ℕ) → is_standard name ≡ true → IsGiven c.scene.tables (entry_at c.scene (standard_place name))
  standard_given name e =
      record {
        clear = place_clear c.scene.tables (have_clear c.scene.tables clear.rows) (standard_place name);
        named = (subst (λ (rs : List Row). IsNamedTarget (row_at (rs ∷ []) (standard_place name))) (sym clear.standard) (standard_target name e)).0;
        target = (subst (λ (rs : List Row). IsNamedTarget (row_at (rs ∷ []) (standard_place name))) (sym clear.standard) (standard_target name e)).1;
        stands = refl;
      }

  pub use_fine : (within : Option ℕ) (name at : ℕ) → name ≢ 0 → GivesFine (IsEntry c.scene.tables) (use_of c within name at)
  use_fine (Some s) name at some = bound_or_fine 44 name at (entry_in c.scene.tables s name) some (found_clear (s ∷ []) name)
  use_fine None name at some =
      either_by (λ (g : Gives (Option Entry)). GivesFine (IsEntry c.scene.tables) g) (is_standard name) (gives (Some (entry_at c.scene (standard_place name)))) (use_by_item c name at c.item)
      (λ e. given (standard_given name e)) (λ e. use_by_item_fine name at c.item some)

  -- ** Types by name

  member_fine : (at : ℕ) (i : Ident) (m : RowMeaning) → i.name ≢ 0 → IsTarget m → GivesFine (IsEntry c.scene.tables) (member_of c at i m)
  member_fine at i (Module s) some h = use_fine (Some s) i.name i.at some
  member_fine at i Broken some h = absurd h
  member_fine at i m some h = refused

  qualified_fine : (names : List (List ℕ)) (at : ℕ) (second : Option Ident) (o : Option Entry) → IsReadOption names second → IsEntry c.scene.tables o → GivesFine (IsEntry c.scene.tables) (qualified c at second o)
  qualified_fine names at second None read h = absurd h
  qualified_fine names at None (Some e) read h = given h
  qualified_fine names at (Some i) (Some e) read h = member_fine at i (row_meaning e.1) read.some h.target

  type_by_fine : (at : ℕ) (m : RowMeaning) → HasClear m → IsTarget m → GivesFine IsClear (type_by c at m)
  type_by_fine at (TypeName t) h k = given h
  type_by_fine at Broken h k = absurd k
  type_by_fine at m h k = refused

  type_of_entry_fine : (at : ℕ) (o : Option Entry) → IsEntry c.scene.tables o → GivesFine IsClear (type_of_entry c at o)
  type_of_entry_fine at None h = absurd h
  type_of_entry_fine at (Some e) h = type_by_fine at (row_meaning e.1) h.clear h.target

  pub qual_fine : (names : List (List ℕ)) (q : Qual) → IsReadQual names q → GivesFine IsClear (type_of_qual c q)
  qual_fine names q read =
      join (join (use_fine None q.first.name q.first.at read.first.some) (λ h. qualified_fine names q.first.at q.second (use_of c None q.first.name q.first.at).value read.second h))
      (λ h. type_of_entry_fine q.first.at (entry_of_qual c q).value h)
