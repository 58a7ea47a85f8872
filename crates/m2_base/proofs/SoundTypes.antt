-- In a sound scene what a name is bound to is right, and types stand before the next row.
use Rattle.std.specs.Prelude.{◌≡◌, ℕ, ◌+◌, ◌^◌, ◌<◌, ◌==◌, Bool, true, false, if◌then◌else◌, [], ◌∷◌, drop, nat_lt, Option, Some, None}
use Rattle.std.proofs.Common.{refl, arith}
use Rattle.m2_base.specs.Gives.{Gives, gives}
use Rattle.m2_base.specs.Lists.{WhereKept}
use Rattle.m2_base.specs.Rows.{Place, at_place, row_meaning, RowMeaning, TypeName, Module, Alias, Subrange, Opaque, IsBefore, Fits, HasSmallOrdinals}
use Rattle.m2_base.specs.Standard.{is_standard, standard_place, broken}
use Rattle.m2_base.specs.Tables.{lookup}
use Rattle.m2_base.specs.Trees.{Ident, Qual}
use Rattle.m2_base.specs.Statics.Contexts.{Context, Scene, Named, row_at}
use Rattle.m2_base.specs.Statics.Lookup.{Entry, entry_at, entry_in, first_entry}
use Rattle.m2_base.specs.Statics.TypeNames.{member_of, qualified, type_by, type_of_entry, type_of_qual}
use Rattle.m2_base.specs.Statics.Types.{meaning_at, unless_opaque, type_named, named_or, declared_as, opaque_as, stands_as, stands_for, kind_of, base_by, base_of}
use Rattle.m2_base.specs.Statics.Uses.{followed, followed_by, bound, bound_or, stands_later, bound_outside, use_in_item, use_by_item, use_of}
use Rattle.m2_base.proofs.Sound.{Sound, EntryOk, IsThere, found_ok, row_ok}
use Rattle.m2_base.proofs.StandardLaws.{standard_small}

-- of two values one, by a test
pub either : {A : Type 0} (P : A → Type 0) (b : Bool) (x y : A) → P x → P y → P (if b then x else y)
either P true x y h k = h
either P false x y h k = k

-- what stands before a place that is there is there
pub before_next : (scene : Scene) (t q : Place) → t.ordinal < 2 ^ 32 → IsBefore t q → IsThere scene q → IsThere scene t
before_next scene t q s h k = let b = k.1 in (s, omega (arith, h, b))

pub broken-there : {names : ℕ} {scene : Scene} → Sound names scene → IsThere scene broken
broken-there sound = let p = sound.positive in (omega arith, omega (arith, p))

-- a row of the standard scope
pub standard-there : {names : ℕ} {scene : Scene} → Sound names scene → (n : ℕ) → n < 2 ^ 32 → IsThere scene (at_place 0 n)
standard-there sound n h = let p = sound.positive in (h, omega (arith, p, h))

-- ** Types

unless_there : (scene : Scene) (t u : Place) (m : RowMeaning) → IsThere scene t → IsThere scene u → IsThere scene (unless_opaque t u m)
unless_there scene t u Opaque h k = h
unless_there scene t u m h k = k

named_type_there : (names : ℕ) (scene : Scene) (t q : Place) (m : RowMeaning) → IsThere scene t → IsThere scene q → Fits names q m → HasSmallOrdinals m
    → IsThere scene (type_named scene t m)
named_type_there names scene t q (TypeName u) h k f s = unless_there scene t u (meaning_at scene u) h (before_next scene u q s f k)
named_type_there names scene t q m h k f s = h

named_there : (names : ℕ) (scene : Scene) (t : Place) (o : Option Entry) → IsThere scene t → WhereKept o (EntryOk names scene) → IsThere scene (named_or scene t o)
named_there names scene t None h k = h
named_there names scene t (Some e) h k = named_type_there names scene t e.0 (row_meaning e.1) h k.there k.row.formed.fits k.row.small

opaque_there : {names : ℕ} {scene : Scene} → Sound names scene → (t : Place) (own : Option ℕ) → IsThere scene t → IsThere scene (opaque_as scene t own)
opaque_there sound t None h = h
opaque_there {names} {scene} sound t (Some own) h =
    let name = (row_at scene.tables (at_place own (t.ordinal + 1))).name in
    either (IsThere scene) (t.scope == own) (declared_as scene t name) t
    (either (IsThere scene) (name == 0) t (named_or scene t (entry_in scene.tables scene.block.home name)) h
    (named_there names scene t (entry_in scene.tables scene.block.home name) h (found_ok sound (scene.block.home ∷ []) name)))
    h

stands_there_by : {names : ℕ} {scene : Scene} → Sound names scene → (t : Place) (m : RowMeaning) → IsThere scene t → IsThere scene (stands_as scene t m)
stands_there_by {names} {scene} sound t Opaque h = opaque_there sound t scene.block.own h
stands_there_by sound t m h = h

pub stands_there : {names : ℕ} {scene : Scene} → Sound names scene → (t : Place) → IsThere scene t → IsThere scene (stands_for scene t)
stands_there {names} {scene} sound t h = stands_there_by sound t (meaning_at scene t) h

-- the meaning of what a type stands for is right at its place
pub kind_fits : {names : ℕ} {scene : Scene} → Sound names scene → (t : Place) → Fits names (stands_for scene t) (kind_of scene t)
kind_fits {names} {scene} sound t = (row_ok sound (stands_for scene t)).formed.fits

pub kind_small : {names : ℕ} {scene : Scene} → Sound names scene → (t : Place) → HasSmallOrdinals (kind_of scene t)
kind_small {names} {scene} sound t = (row_ok sound (stands_for scene t)).small

base_there_by : (names : ℕ) (scene : Scene) (t : Place) (m : RowMeaning) → IsThere scene t → Fits names t m → HasSmallOrdinals m → IsThere scene (base_by t m)
base_there_by names scene t (Subrange b low high) h f s = before_next scene b t s f.0 h
base_there_by names scene t m h f s = h

pub base_there : {names : ℕ} {scene : Scene} → Sound names scene → (t : Place) → IsThere scene t → IsThere scene (base_of scene t)
base_there {names} {scene} sound t h =
    base_there_by names scene (stands_for scene t) (kind_of scene t) (stands_there sound t h) (kind_fits sound t) (kind_small sound t)

-- ** Names

followed_ok_by : {names : ℕ} {scene : Scene} → Sound names scene → (e : Entry) (m : RowMeaning) → EntryOk names scene e → Fits names e.0 m → HasSmallOrdinals m
    → EntryOk names scene (followed_by scene e m)
followed_ok_by {scene = scene} sound e (Alias p) h f s = record { there = before_next scene p e.0 s f h.there; row = row_ok sound p }
followed_ok_by sound e m h f s = h

pub followed_ok : {names : ℕ} {scene : Scene} → Sound names scene → (e : Entry) → EntryOk names scene e → EntryOk names scene (followed scene e)
followed_ok sound e h = followed_ok_by sound e (row_meaning e.1) h h.row.formed.fits h.row.small

bound_or_ok : {names : ℕ} (c : Context) → Sound names c.scene → (code name at : ℕ) (o : Option Entry) → WhereKept o (EntryOk names c.scene)
    → WhereKept (bound_or c code name at o).value (EntryOk names c.scene)
bound_or_ok c sound code name at None h = tt
bound_or_ok c sound code name at (Some e) h = followed_ok sound e h

bound_outside_ok : {names : ℕ} (c : Context) → Sound names c.scene → (name at : ℕ) (o : Option Entry) → WhereKept o (EntryOk names c.scene)
    → WhereKept (bound_outside c name at o).value (EntryOk names c.scene)
bound_outside_ok c sound name at None h = tt
bound_outside_ok {names} c sound name at (Some e) h =
    either (λ (g : Gives (Option Entry)). WhereKept g.value (EntryOk names c.scene)) (stands_later c at e) _ (bound c name at e) tt (followed_ok sound e h)

use_in_item_ok : {names : ℕ} (c : Context) → Sound names c.scene → (item name at : ℕ) (o : Option Named) → WhereKept (use_in_item c item name at o).value (EntryOk names c.scene)
use_in_item_ok {names} c sound item name at (Some n) =
    either (λ (g : Gives (Option Entry)). WhereKept g.value (EntryOk names c.scene)) (nat_lt n.item item) _ _
    (bound_or_ok c sound 40 name at (entry_in c.scene.tables c.scene.block.scope name) (found_ok sound (c.scene.block.scope ∷ []) name)) tt
use_in_item_ok c sound item name at None =
    bound_outside_ok c sound name at (lookup c.scene.tables (drop 1 c.scene.block.chain) name) (found_ok sound (drop 1 c.scene.block.chain) name)

use_by_item_ok : {names : ℕ} (c : Context) → Sound names c.scene → (name at : ℕ) (o : Option ℕ) → WhereKept (use_by_item c name at o).value (EntryOk names c.scene)
use_by_item_ok c sound name at (Some item) = use_in_item_ok c sound item name at (first_entry c.layout name)
use_by_item_ok c sound name at None =
    bound_or_ok c sound 40 name at (lookup c.scene.tables c.scene.block.chain name) (found_ok sound c.scene.block.chain name)

pub use_ok : {names : ℕ} (c : Context) → Sound names c.scene → (within : Option ℕ) (name at : ℕ) → WhereKept (use_of c within name at).value (EntryOk names c.scene)
use_ok c sound (Some s) name at = bound_or_ok c sound 44 name at (entry_in c.scene.tables s name) (found_ok sound (s ∷ []) name)
use_ok {names} c sound None name at = by_test (is_standard name) refl
  where
    by_test : (b : Bool) → is_standard name ≡ b
        → WhereKept (if b then gives (Some (entry_at c.scene (standard_place name))) else use_by_item c name at c.item).value (EntryOk names c.scene)
    by_test true e = record { there = standard-there sound (name + 10) (standard_small name e); row = row_ok sound (standard_place name) }
    by_test false e = use_by_item_ok c sound name at c.item

-- ** Types by name

member_ok : {names : ℕ} (c : Context) → Sound names c.scene → (at : ℕ) (i : Ident) (m : RowMeaning) → WhereKept (member_of c at i m).value (EntryOk names c.scene)
member_ok c sound at i (Module s) = use_ok c sound (Some s) i.name i.at
member_ok c sound at i m = tt

qualified_ok : {names : ℕ} (c : Context) → Sound names c.scene → (at : ℕ) (second : Option Ident) (o : Option Entry) → WhereKept o (EntryOk names c.scene)
    → WhereKept (qualified c at second o).value (EntryOk names c.scene)
qualified_ok c sound at second None h = tt
qualified_ok c sound at None (Some e) h = h
qualified_ok c sound at (Some i) (Some e) h = member_ok c sound at i (row_meaning e.1)

type_by_there : {names : ℕ} (c : Context) → Sound names c.scene → (at : ℕ) (q : Place) (m : RowMeaning) → IsThere c.scene q → Fits names q m → HasSmallOrdinals m
    → IsThere c.scene (type_by c at m).value
type_by_there c sound at q (TypeName t) h f s = before_next c.scene t q s f h
type_by_there c sound at q m h f s = broken-there sound

type_of_entry_there : {names : ℕ} (c : Context) → Sound names c.scene → (at : ℕ) (o : Option Entry) → WhereKept o (EntryOk names c.scene)
    → IsThere c.scene (type_of_entry c at o).value
type_of_entry_there c sound at None h = broken-there sound
type_of_entry_there c sound at (Some e) h = type_by_there c sound at e.0 (row_meaning e.1) h.there h.row.formed.fits h.row.small

pub qual_there : {names : ℕ} (c : Context) → Sound names c.scene → (q : Qual) → IsThere c.scene (type_of_qual c q).value
qual_there {names} c sound q =
    let first = (use_of c None q.first.name q.first.at).value in
    type_of_entry_there c sound q.first.at (qualified c q.first.at q.second first).value
    (qualified_ok c sound q.first.at q.second first (use_ok c sound None q.first.name q.first.at))
