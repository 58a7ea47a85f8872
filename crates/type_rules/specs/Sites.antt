-- Where a name is used, and what a search for it leaves.
use Rattle.std.specs.Prelude.{◌≡◌, ◌≢◌, ◌⊎◌, ℕ, ◌<◌, ◌≤◌, nat_lt, if◌then◌else◌, true, List, [], ◌∷◌, ◌++◌, Option}
use Rattle.std.specs.Prelude.{Some, None, length, drop}
use Rattle.std.specs.Option.{IfSome}
pub use Rattle.m2_base.specs.Finished.{definitions_of, source_of}
use Rattle.m2_base.specs.Lists.{IsIn, Each, WhereLast}
use Rattle.m2_base.specs.Rows.{row_meaning}
use Rattle.m2_base.specs.Standard.{is_standard}
use Rattle.m2_base.specs.States.{State, Frame, Look, Keeps, IsAmong}
use Rattle.m2_base.specs.Statics.Contexts.{Context, Layout}
use Rattle.m2_base.specs.Statics.Lookup.{Entry, first_entry}
use Rattle.m2_base.specs.Statics.Uses.{answer_of}
use Rattle.m2_base.specs.Tables.{Lacks}
use Rattle.m2_base.specs.declared.notes.Answer.{Answer}
use Rattle.m2_base.specs.declared.notes.Notes.{Notes}
use Rattle.m2_base.specs.declared.replies.Ask.{Ask}
use Rattle.m2_base.specs.declared.replies.Head.{Head}
use Rattle.m2_base.specs.declared.replies.Reply.{Reply}
use Rattle.m2_base.specs.declared.replies.Reply.TheVariants.{DontKnowYet}
use Rattle.m2_base.specs.declared.rows.Place.{Place}
use Rattle.m2_base.specs.declared.rows.Row.{Row}
use Rattle.m2_base.specs.declared.rows.RowMeaning.TheVariants.{Alias}
use Rattle.m2_base.specs.declared.sites.Named.{Named}
use Rattle.m2_base.specs.declared.sites.Site.{Site}
use Rattle.type_rules.specs.Asks.{WhereKnown}
use Rattle.type_rules.specs.Scenes.{Hand, Suits, scene_of}

-- the place where a name stands, as the definitions see it
abbrev pub context_of : Frame → (made : Hand) → Site → Context
context_of f made s = record {
  source = source_of s.texts.now;
  scene = scene_of f made s.around.now;
  layout = s.layout.now;
  item = s.item;
}

-- rows of an item: none has a name that the layout first gives to an earlier item
pub record AreOfItem (layout : Layout) (item : ℕ) (made : List Row) : Type 0 where
  pub lack : (name : ℕ) (e : Named) → name ≢ 0 → first_entry layout name ≡ Some e → e.item < item → Lacks made name

-- rows of the item in which a name stands
abbrev pub AreOfSite : Site → Hand → Type 0
AreOfSite s made = IfSome s.item (λ item. AreOfItem s.layout.now item made.rows)

-- The scopes suit a site: its texts are theirs, its chain has the own scope and then scopes before it, and where it
-- stands in no declaration the own scope is complete.
pub record SuitsSite (f : Frame) (s : Site) : Type 0 where
  pub around : Suits f s.around.now
  pub texts : s.texts.now ≡ f.setting.texts
  pub chain : s.around.now.chain ≡ f.setting.fills ∷ drop 1 s.around.now.chain
  pub short : length s.around.now.chain ≤ 18
  pub down : Each (λ k. k < f.setting.fills) (drop 1 s.around.now.chain)
  pub done : s.item ≡ None → f.closed ≡ true

-- A chain can be searched: its scopes aren't above the own one, and where it has that, the own scope is complete or
-- all that there is.
pub record CanLook (f : Frame) (chain : List ℕ) : Type 0 where
  pub short : length chain ≤ 18
  pub inner : Each (λ s. s ≤ f.setting.fills) chain
  pub settled : (chain ≡ f.setting.fills ∷ []) ⊎ (IsIn f.setting.fills chain → f.closed ≡ true)

-- the place is of a scope of the chain, or of one before such a scope
pub record IsWithin (chain : List ℕ) (p : Place) : Type 0 where
  pub scope : ℕ
  pub on : IsIn scope chain
  pub upto : p.scope ≤ scope

-- what a search leaves as before, and that what it found is the reply of a look that it added
pub record Looked (old new : State) (at name : ℕ) (answer : Ask (Option Entry)) : Type 0 where
  pub looks : List Look
  pub keeps : Keeps old new looks
  pub among : WhereKnown answer (λ found. IfSome found (λ e. IsAmong looks (answer_of name at e)))

-- this look is the search for a name in a chain, and it answered this
pub record IsLookFor (at name : ℕ) (chain : List ℕ) (reply : Reply) (look : Look) : Type 0 where
  pub at_is : look.at ≡ at
  pub name_is : look.name ≡ name
  pub chain_is : look.chain ≡ chain
  pub replied : look.reply ≡ reply

-- the row is an alias of a place whose row this head doesn't count
abbrev pub LeadsTo : Row → Head → Type 0
LeadsTo r h = (p : Place) × (row_meaning r ≡ Alias p) × (h.scope ≡ p.scope) × (h.count ≤ p.ordinal)

-- the last answer noted is this name's, and its row an alias of a place whose row this head doesn't count
abbrev pub EndsWithAlias : List Answer → (at name : ℕ) → Head → Type 0
EndsWithAlias answers at name h =
    (front : List Answer) × (e : Entry) × (answers ≡ front ++ answer_of name at e ∷ []) × LeadsTo e.1 h

-- The head is that at which the search for this name in this chain stopped, which was the last look; or it doesn't
-- count the row of the target of an alias, which was the last answer noted.
abbrev pub IsAskedIn : State → Notes → (at name : ℕ) → List ℕ → Head → Type 0
IsAskedIn new notes at name chain h =
    WhereLast new.looks (IsLookFor at name chain (DontKnowYet h)) ⊎ EndsWithAlias notes.answers.items at name h

-- the chain in which a name of a declaration is looked up: the own scope alone where the layout gives it to an earlier
-- item, none where to this or a later one, else the scopes outside
abbrev pub chain_in_item : Site → (item : ℕ) → Option Named → List ℕ
chain_in_item s item (Some n) = if nat_lt n.item item then s.around.now.scope ∷ [] else []
chain_in_item s item None = drop 1 s.around.now.chain

-- in statements the whole chain
abbrev pub chain_by_item : Site → (name : ℕ) → Option ℕ → List ℕ
chain_by_item s name (Some item) = chain_in_item s item (first_entry s.layout.now name)
chain_by_item s name None = s.around.now.chain

-- after a module's point its scope alone; a standard name isn't looked up
abbrev pub chain_of : Site → Option ℕ → (name : ℕ) → List ℕ
chain_of s (Some scope) name = scope ∷ []
chain_of s None name = if is_standard name then [] else chain_by_item s name s.item
