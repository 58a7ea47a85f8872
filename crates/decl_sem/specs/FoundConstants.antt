-- The constants of an enumeration that an import names, as the code finds them.
use Rattle.std.specs.HashSet.{contains}
use Rattle.std.specs.List.{list_any}
use Rattle.std.specs.Prelude.{◌≡◌, ◌≢◌, ◌<◌, ◌^◌, ℕ, ◌+◌, ◌-◌, ◌==◌, ◌||◌, ◌&&◌, nat_eq, Bool, false, not}
use Rattle.std.specs.Prelude.{if◌then◌else◌, List, [], ◌∷◌, ◌++◌, length, map, take, drop, Option, None, Some}
use Rattle.m2_base.specs.Lists.{Each}
use Rattle.m2_base.specs.Rows.{at_place, row_meaning}
use Rattle.m2_base.specs.Standard.{is_standard}
use Rattle.m2_base.specs.States.{Frame}
use Rattle.m2_base.specs.Statics.Contexts.{Context, Scene, row_at}
use Rattle.m2_base.specs.Statics.ImportedConstants as plain
use Rattle.m2_base.specs.Statics.ImportedConstants.{brings, constants_from, is_constant, is_hidden, new_members}
use Rattle.m2_base.specs.Statics.Types.{meaning_at}
use Rattle.m2_base.specs.Tables.{rows_at}
use Rattle.m2_base.specs.declared.rows.Place.{Place}
use Rattle.m2_base.specs.declared.rows.Row.{Row}
use Rattle.m2_base.specs.declared.sites.Site.{Site}
use Rattle.type_rules.specs.Sites.{context_of}
use Rattle.decl_sem.specs.Brought.{brings_new}
use Rattle.decl_sem.specs.Making.{next_ordinal}
use Rattle.decl_sem.specs.NewNames.{earlier_row}
use Rattle.decl_sem.specs.Pieces.{WhereMaking}
use Rattle.decl_sem.specs.declared.brought.Found.{Found}
use Rattle.decl_sem.specs.declared.brought.Member.{Member}
use Rattle.decl_sem.specs.declared.making.Made.{Made}

-- a constant, as the definitions see it
abbrev pub member_view : Member → plain.Member
member_view m = record { name = m.name; place = m.place }

-- the constant in a row at this place, if it has a name
abbrev pub constant_by : Place → Row → Option plain.Member
constant_by p r =
    if is_constant (row_meaning r) && not (r.name == 0) then Some (record { name = r.name; place = p }) else None

-- with one more constant, if there is one
abbrev pub with_member : Option plain.Member → List plain.Member → List plain.Member
with_member None rest = rest
with_member (Some m) rest = m ∷ rest

-- the constants of an enumeration at this place that has so many, if there is one
abbrev pub constants_of : Scene → Option (Place × ℕ) → List plain.Member
constants_of scene None = []
constants_of scene (Some e) =
    constants_from e.0.scope (e.0.ordinal + 1) (take e.1 (drop (e.0.ordinal + 1) (rows_at scene.tables e.0.scope)))

-- those in the rows of a scope from one ordinal up to the end
abbrev pub constants_left : (scope o end : ℕ) → Context → List plain.Member
constants_left scope o end c = constants_from scope o (take (end - o) (drop o (rows_at c.scene.tables scope)))

-- those of a type that is named, if there is one, and isn't one of the standard scope
abbrev pub members_of_named : Scene → Option Place → List plain.Member
members_of_named scene None = []
members_of_named scene (Some t) = plain.members_by scene.tables t (meaning_at scene t)

-- a constant's name is one of the unit's, and its row stands in a scope before
pub record IsMember (f : Frame) (m : Member) : Type 0 where
  pub named : m.name ≢ 0
  pub known : m.name < length f.setting.texts.names
  pub before : m.place.scope < f.setting.fills
  pub small : m.place.ordinal < 2 ^ 32

-- no row so far has the constant's name
pub record IsNewMember (f : Frame) (s : Site) (next : ℕ) (m : Member) : Type 0 where
  pub member : IsMember f m
  pub plain : is_standard m.name ≡ false
  pub unknown : earlier_row s.layout.now next m.name ≡ None

-- their names differ
abbrev pub Differ : List Member → Type 0
Differ [] = Unit {0}
Differ (m ∷ members) = Each (λ k. k.name ≢ m.name) members × Differ members

-- new constants
pub record AreNewMembers (f : Frame) (s : Site) (made : Made) (members : List Member) : Type 0 where
  pub each : Each (IsNewMember f s (next_ordinal made)) members
  pub differ : Differ members

-- What is found of all these constants, where the rest is to come.
pub record AreFound (f : Frame) (s : Site) (made : Made) (all rest : Context → List plain.Member)
    (found : Found) : Type 0 where
  pub new : AreNewMembers f s made found.members.items
  pub names : List ℕ
  pub same : (n : ℕ) → list_any (λ k. k == n) names ≡ list_any (λ m. m.name == n) found.members.items
  pub index : (n : ℕ) → contains nat_eq found.names n ≡ list_any (λ k. k == n) names
  pub told : WhereMaking f made (λ hand. new_members (context_of f hand s) [] (all (context_of f hand s))
      ≡ map member_view found.members.items ++ new_members (context_of f hand s) names (rest (context_of f hand s)))
  pub hides : WhereMaking f made (λ hand. list_any (is_hidden (context_of f hand s)) (all (context_of f hand s))
      ≡ (found.hidden || list_any (is_hidden (context_of f hand s)) (rest (context_of f hand s))))

-- all of these constants are seen, or so many that the block's imports would bring too many
pub record AreSeen (f : Frame) (s : Site) (made : Made) (all : Context → List plain.Member)
    (found : Found) : Type 0 where
  pub new : AreNewMembers f s made found.members.items
  pub told : (at : ℕ) → WhereMaking f made (λ hand. let c = context_of f hand s in
      plain.brought_by c at (all c) ≡ brings_new c at (map member_view found.members.items) found.hidden)
