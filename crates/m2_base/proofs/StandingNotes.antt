-- How diagnostics of one text that stand here go together; those of names, and of types by name, stand where the names do.
use Rattle.std.specs.Prelude.{if◌then◌else◌, ◌≡◌, ℕ, drop, nat_lt, Bool, true, false, List, [], ◌∷◌, ◌++◌, Option, Some, None}
use Rattle.std.proofs.Common.{refl}
use Rattle.m2_base.specs.Gives.{Gives, gives}
use Rattle.m2_base.specs.Lists.{Each}
use Rattle.m2_base.specs.Rows.{RowMeaning, Broken, Module, TypeName, row_meaning}
use Rattle.m2_base.specs.Standard.{is_standard, standard_place}
use Rattle.m2_base.specs.Tables.{lookup}
use Rattle.m2_base.specs.Trees.{Ident, Qual}
use Rattle.m2_base.specs.Statics.Contexts.{Context, Named}
use Rattle.m2_base.specs.Statics.Diagnostics.{not_declared_there, unknown_name}
use Rattle.m2_base.specs.Statics.Lookup.{Entry, entry_at, entry_in, first_entry, has_name}
use Rattle.m2_base.specs.Statics.Makes.{Makes, makes_named}
use Rattle.m2_base.specs.Statics.Leaves.{NameOptionHas, QualHas}
use Rattle.m2_base.specs.Statics.StandingTrees.{Stands}
use Rattle.m2_base.specs.Statics.TypeNames.{entry_of_qual, member_of, qualified, type_by, type_of_entry, type_of_qual}
use Rattle.m2_base.specs.Statics.Uses.{bound, bound_or, bound_outside, stands_later, use_by_item, use_in_item, use_of}
use Rattle.m2_base.specs.declared.notes.Diag.{Diag}
use Rattle.m2_base.proofs.EachLaws.{each_append, each_then}

-- diagnostics of this text that stand here
pub record Noted (text : ℕ) (Here : ℕ → Type 0) (ds : List Diag) : Type 0 where
  pub each : Each (λ (d : Diag). (d.text ≡ text) × Here d.at) ds

pub none : {text : ℕ} {Here : ℕ → Type 0} → Noted text Here []
none = record { each = tt }

pub one : {text at code : ℕ} {Here : ℕ → Type 0} → Here at → Noted text Here (record { text = text; at = at; code = code } ∷ [])
one h = record { each = ((refl, h), tt) }

pub join : {text : ℕ} {Here : ℕ → Type 0} {ds es : List Diag} → Noted text Here ds → Noted text Here es → Noted text Here (ds ++ es)
join {text} {Here} {ds} {es} h k = record { each = each_append (λ (d : Diag). (d.text ≡ text) × Here d.at) ds es h.each k.each }

-- where they stand, and in which text
pub places : {text : ℕ} {Here : ℕ → Type 0} {ds : List Diag} → Noted text Here ds → Each (λ (d : Diag). Here d.at) ds
places {text} {Here} {ds} h = each_then (λ (d : Diag). (d.text ≡ text) × Here d.at) (λ (d : Diag). Here d.at) ds (λ d k. k.1) h.each

pub texts : {text : ℕ} {Here : ℕ → Type 0} {ds : List Diag} → Noted text Here ds → Each (λ (d : Diag). d.text ≡ text) ds
texts {text} {Here} {ds} h = each_then (λ (d : Diag). (d.text ≡ text) × Here d.at) (λ (d : Diag). d.text ≡ text) ds (λ d k. k.0) h.each

-- either of two
pub notes_either : {text : ℕ} {Here : ℕ → Type 0} (b : Bool) (ds es : List Diag) → Noted text Here ds → Noted text Here es → Noted text Here (if b then ds else es)
notes_either true ds es h k = h
notes_either false ds es h k = k

pub gives_either : {T : Type 0} {text : ℕ} {Here : ℕ → Type 0} (b : Bool) (x y : Gives T) → Noted text Here x.diags → Noted text Here y.diags → Noted text Here (if b then x else y).diags
gives_either true x y h k = h
gives_either false x y h k = k

pub makes_either : {T : Type 0} {text : ℕ} {Here : ℕ → Type 0} (b : Bool) (x y : Makes T) → Noted text Here x.diags → Noted text Here y.diags → Noted text Here (if b then x else y).diags
makes_either true x y h k = h
makes_either false x y h k = k

module _ (Here : ℕ → Type 0) where
  -- diagnostics of the text of a block, and what a definition gives or makes with such ones
  abbrev pub NotesAt : Context → List Diag → Type 0
  NotesAt c ds = Noted c.scene.block.text Here ds

  abbrev pub GivesAt : {T : Type 0} → Context → Gives T → Type 0
  GivesAt c g = NotesAt c g.diags

  abbrev pub MakesAt : {T : Type 0} → Context → Makes T → Type 0
  MakesAt c m = NotesAt c m.diags

  -- ** Names

  bound_or_at : (c : Context) (code name at : ℕ) (o : Option Entry) → Here at → GivesAt c (bound_or c code name at o)
  bound_or_at c code name at None h = one h
  bound_or_at c code name at (Some e) h = none

  bound_outside_at : (c : Context) (name at : ℕ) (o : Option Entry) → Here at → GivesAt c (bound_outside c name at o)
  bound_outside_at c name at None h = one h
  bound_outside_at c name at (Some e) h = gives_either (stands_later c at e) _ (bound c name at e) (join none (one h)) none

  use_in_item_at : (c : Context) (item name at : ℕ) (o : Option Named) → Here at → GivesAt c (use_in_item c item name at o)
  use_in_item_at c item name at (Some x) h =
      gives_either (nat_lt x.item item) _ _ (bound_or_at c unknown_name name at (entry_in c.scene.tables c.scene.block.scope name) h) (one h)
  use_in_item_at c item name at None h = bound_outside_at c name at (lookup c.scene.tables (drop 1 c.scene.block.chain) name) h

  use_by_item_at : (c : Context) (name at : ℕ) (o : Option ℕ) → Here at → GivesAt c (use_by_item c name at o)
  use_by_item_at c name at (Some item) h = use_in_item_at c item name at (first_entry c.layout name) h
  use_by_item_at c name at None h = bound_or_at c unknown_name name at (lookup c.scene.tables c.scene.block.chain name) h

  pub use_at : (c : Context) (within : Option ℕ) (name at : ℕ) → Here at → GivesAt c (use_of c within name at)
  use_at c (Some s) name at h = bound_or_at c not_declared_there name at (entry_in c.scene.tables s name) h
  use_at c None name at h =
      gives_either (is_standard name) (gives (Some (entry_at c.scene (standard_place name)))) (use_by_item c name at c.item) none (use_by_item_at c name at c.item h)

  -- ** Types by name

  member_at : (c : Context) (at : ℕ) (i : Ident) (m : RowMeaning) → Here at → Here i.at → GivesAt c (member_of c at i m)
  member_at c at i (Module s) h k = use_at c (Some s) i.name i.at k
  member_at c at i Broken h k = none
  member_at c at i m h k = one h

  qualified_at : (c : Context) (at : ℕ) (second : Option Ident) (o : Option Entry) → Here at → NameOptionHas (Stands Here) second → GivesAt c (qualified c at second o)
  qualified_at c at second None h k = none
  qualified_at c at None (Some e) h k = none
  qualified_at c at (Some i) (Some e) h k = member_at c at i (row_meaning e.1) h k

  type_by_at : (c : Context) (at : ℕ) (m : RowMeaning) → Here at → GivesAt c (type_by c at m)
  type_by_at c at (TypeName t) h = none
  type_by_at c at Broken h = none
  type_by_at c at m h = one h

  type_of_entry_at : (c : Context) (at : ℕ) (o : Option Entry) → Here at → GivesAt c (type_of_entry c at o)
  type_of_entry_at c at None h = none
  type_of_entry_at c at (Some e) h = type_by_at c at (row_meaning e.1) h

  pub qual_at : (c : Context) (q : Qual) → QualHas (Stands Here) q → GivesAt c (type_of_qual c q)
  qual_at c q h =
      join (join (use_at c None q.first.name q.first.at h.first) (qualified_at c q.first.at q.second (use_of c None q.first.name q.first.at).value h.first h.second))
      (type_of_entry_at c q.first.at (entry_of_qual c q).value h.first)

  -- ** Rows with a name

  pub named_at : (c : Context) (name at : ℕ) (m : RowMeaning) → Here at → MakesAt c (makes_named c name at m)
  named_at c name at m h = makes_either (is_standard name) _ _ (one h) (makes_either (has_name c.scene.tables c.scene.block.scope name) _ _ (one h) none)
