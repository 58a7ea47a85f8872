-- A piece of an item: what making it needs, leaves and gives. The rows of an item are in hand until all are made, and
-- are then entered at once.
use Rattle.std.specs.Prelude.{◌≡◌, ◌≢◌, ℕ, ◌+◌, ◌<◌, ◌≤◌, ◌^◌, false, List, [], ◌∷◌, ◌++◌, length, Option, Some, None}
use Rattle.std.specs.Prelude.{unwrap_or, Result, Ok, Err}
use Rattle.m2_base.specs.Asks.{IfKnown, IfWaits}
use Rattle.m2_base.specs.Lists.{Each, IsIn}
use Rattle.m2_base.specs.Rows.{Fits, HasSmallOrdinals, HasSmallScopes, alias_kind, at_place, numbers_of, pointer_kind}
use Rattle.m2_base.specs.Rows.{row_meaning}
use Rattle.m2_base.specs.States.{Frame, State, Waits, Works}
use Rattle.m2_base.specs.Statics.Contexts.{Context, Layout}
use Rattle.m2_base.specs.Statics.FormedRows.{IsFilled, IsRight}
use Rattle.m2_base.specs.Statics.Layouts.{first_row}
use Rattle.m2_base.specs.Statics.Lookup.{first_entry}
use Rattle.m2_base.specs.Statics.Makes.{Makes}
use Rattle.m2_base.specs.Statics.Shapes.{Shape}
use Rattle.m2_base.specs.declared.memory.Memory.{Memory}
use Rattle.m2_base.specs.declared.replies.Ask.{Ask}
use Rattle.m2_base.specs.declared.replies.Ask.TheVariants.{Known}
use Rattle.m2_base.specs.declared.rows.Place.{Place}
use Rattle.m2_base.specs.declared.rows.Row.{Row}
use Rattle.m2_base.specs.declared.rows.RowMeaning.{RowMeaning}
use Rattle.m2_base.specs.declared.rows.RowMeaning.TheVariants.{Field}
use Rattle.m2_base.specs.declared.sites.Named.{Named}
use Rattle.m2_base.specs.declared.sites.Site.{Site}
use Rattle.type_rules.specs.Scenes.{Hand, NamesNoType, WhereTold, hand}
use Rattle.type_rules.specs.Sites.{SuitsSite, context_of}
use Rattle.decl_sem.specs.LaidRows.{AreLaid, IsAhead}
use Rattle.decl_sem.specs.Making.{MakesAll, next_ordinal}
use Rattle.decl_sem.specs.declared.making.Made.{Made}

-- ** Rows in hand

-- the ordinal of the first row of an item, if there is one
abbrev pub first_by : Layout → Option ℕ → Option ℕ
first_by l None = None
first_by l (Some item) = first_row l item

-- the ordinal behind the rows of an item, before those of the names that it brings
abbrev pub end_by : Layout → Option ℕ → ℕ
end_by l None = 0
end_by l (Some item) = unwrap_or (first_row l (item + 1)) 0

-- that of the site's item
abbrev pub item_end : Site → ℕ
item_end s = end_by s.layout.now s.item

-- the record of a field stands before this ordinal
abbrev pub IsOwned : (limit : ℕ) → RowMeaning → Type 0
IsOwned limit (Field t o own n) = own < limit
IsOwned limit other = Unit {0}

-- a row in hand with this ordinal: it is right at its place, and the record of a field stands before the limit
pub record IsNewRow (f : Frame) (limit o : ℕ) (r : Row) : Type 0 where
  pub right : IsRight (length f.setting.texts.names) (at_place f.setting.fills o) r
  pub owned : IsOwned limit (row_meaning r)

-- rows in hand, the first of which has this ordinal
abbrev pub AreNewRows : Frame → (limit o : ℕ) → List Row → Type 0
AreNewRows f limit o [] = Unit {0}
AreNewRows f limit o (r ∷ rows) = IsNewRow f limit o r × AreNewRows f limit (o + 1) rows

-- A type stands before the row with this ordinal: its scope isn't above the block's, and in the own scope it is
-- entered or in hand.
pub record IsBehind (f : Frame) (next : ℕ) (p : Place) : Type 0 where
  pub small : p.ordinal < 2 ^ 32
  pub scope : p.scope ≤ f.setting.fills
  pub before : p.scope ≡ f.setting.fills → p.ordinal < next

-- a type in hand of the own scope
pub record IsOwnType (f : Frame) (next : ℕ) (p : Place) : Type 0 where
  pub own : p.scope ≡ f.setting.fills
  pub behind : IsBehind f next p

-- a type that may be absent
abbrev pub IsOptionBehind : Frame → (next : ℕ) → Option Place → Type 0
IsOptionBehind f next None = Unit {0}
IsOptionBehind f next (Some p) = IsBehind f next p

-- any value may stand
abbrev pub IsAny : {T : Type 0} → Frame → (next : ℕ) → T → Type 0
IsAny f next v = Unit {0}

-- A meaning for the row in hand with this ordinal: the row will be right, and its places can be named by numbers.
pub record IsNewMeaning (f : Frame) (s : Site) (o : ℕ) (m : RowMeaning) : Type 0 where
  pub small : HasSmallOrdinals m
  pub scopes : HasSmallScopes m
  pub fits : Fits (length f.setting.texts.names) (at_place f.setting.fills o) m
  pub filled : IsFilled m
  pub owned : IsOwned (item_end s) m

-- the kind of the rows of a meaning
abbrev pub kind_number : RowMeaning → ℕ
kind_number m = (numbers_of m).0

-- ** What making a piece needs

-- the item begins at this ordinal: an earlier item's names have rows before it
pub record BeginsAt (layout : Layout) (item first : ℕ) : Type 0 where
  pub before : (name : ℕ) (e : Named) → name ≢ 0 → first_entry layout name ≡ Some e → e.item < item → e.ordinal < first

-- the aliases that the layout gives stand before this ordinal
abbrev pub AreAliasesBefore : Layout → (first : ℕ) → Type 0
AreAliasesBefore l first =
    (name : ℕ) (e : Named) → first_entry l name ≡ Some e → e.kind ≡ alias_kind → e.ordinal < first

-- The rows of the site's item are being made: these are in hand, and rows of these shapes are the next. The scope
-- isn't complete; as many rows are entered as the first in hand has its ordinal; the item has room for the shapes. An
-- item that makes the row of a pointer stands behind all imports.
pub record IsMaking (f : Frame) (s : Site) (made : Made) (shapes : List Shape) : Type 0 where
  pub suits : SuitsSite f s
  pub small : f.setting.fills < 2 ^ 31
  pub begun : f.closed ≡ false
  pub item : ℕ
  pub of_item : s.item ≡ Some item
  pub begins : BeginsAt s.layout.now item made.first
  pub old : Each (λ b. b.ordinal < made.first) s.layout.now.brought
  pub aliases : (t : Shape) → IsIn t shapes → t.kind ≡ pointer_kind → AreAliasesBefore s.layout.now made.first
  pub count : length f.entered ≡ made.first
  pub entered : Each (λ r. IsOwned made.first (row_meaning r)) f.entered
  pub types : Each (λ r. NamesNoType (row_meaning r)) made.rows.items
  pub rows : AreNewRows f (item_end s) made.first made.rows.items
  pub ahead : IsAhead s.layout.now (f.entered ++ made.rows.items) shapes
  pub room : next_ordinal made + length shapes ≤ item_end s
  pub few : item_end s ≤ 2 ^ 31

-- ** What it leaves and gives

-- the rows in hand have grown by rows of these shapes, as the layout gives them
pub record Grown (f : Frame) (s : Site) (before after : Made) (shapes : List Shape) : Type 0 where
  pub rows : List Row
  pub more : after.rows.items ≡ before.rows.items ++ rows
  pub laid : AreLaid s.layout.now (next_ordinal before) shapes rows
  pub new : AreNewRows f (item_end s) (next_ordinal before) rows

-- P of the rows in hand, where the texts are told
abbrev pub WhereMaking : Frame → Made → (Hand → Type 0) → Type 0
WhereMaking f made P = WhereTold f (λ held. held.rows ≡ made.rows.items → P held)

-- with more rows in hand
abbrev pub holding : Hand → List Row → Hand
holding held more = hand held.finished (held.rows ++ more)

-- Previous notes stay, and each answer noted was found by a search. The scope that the answer waits for is incomplete,
-- and before the own one. Where the answer is known, rows of these shapes are made, and the value may stand behind
-- them; where the texts are told, the rows, the value and what is noted are the definition's.
pub record Declares {T : Type 0} (old new : State) (before after : Made) (s : Site) (answer : Result (Ask T) Memory)
    (shapes : List Shape) (MayStand : Frame → (next : ℕ) → T → Type 0) (given : Context → Makes T) : Type 0 where
  pub works : Works old new before.notes after.notes
  pub waits : IfWaits answer (λ h. Waits old new h)
  pub first : after.first ≡ before.first
  pub grown : IfKnown answer (λ v. Grown old.frame s before after shapes)
  pub told : WhereMaking old.frame before (λ hand.
      IfKnown answer (λ v. MakesAll before after (given (context_of old.frame hand s)) v))
  pub there : IfKnown answer (λ v. MayStand old.frame (next_ordinal after) v)

-- an answer that never waits
abbrev pub known_of : {T : Type 0} → Result T Memory → Result (Ask T) Memory
known_of (Ok v) = Ok (Known v)
known_of (Err m) = Err m

-- a piece that asks nothing, at any state of the scopes in which it can be made
abbrev pub Puts : {T : Type 0} → (before after : Made) → Site → Result T Memory → List Shape
    → (Frame → (next : ℕ) → T → Type 0) → (Context → Makes T) → Type 0
Puts before after s result shapes MayStand given =
    (a : State) → IsMaking a.frame s before shapes
    → Declares a a before after s (known_of result) shapes MayStand given
