-- What a pointer may point to, as the code has it.
use Rattle.std.specs.Prelude.{◌≡◌, ℕ, ◌<◌, ◌≤◌, ◌^◌, Option, Some, None}
use Rattle.m2_base.specs.Gives.{Gives, gives}
use Rattle.m2_base.specs.Rows.{alias_kind}
use Rattle.m2_base.specs.Standard.{broken}
use Rattle.m2_base.specs.States.{Frame}
use Rattle.m2_base.specs.Statics.Contexts.{Context, Layout, refuse}
use Rattle.m2_base.specs.Statics.Diagnostics.{not_a_type}
use Rattle.m2_base.specs.Statics.Lookup.{entry_at, first_entry}
use Rattle.m2_base.specs.Statics.Targets.{entry_target}
use Rattle.m2_base.specs.Statics.Uses.{followed}
use Rattle.m2_base.specs.declared.rows.Place.{Place}
use Rattle.m2_base.specs.declared.sites.Named.{Named}
use Rattle.decl_sem.specs.declared.targets.Laid.{Laid}
use Rattle.decl_sem.specs.declared.targets.Laid.TheVariants.{Alias, Other, TypeName}

-- A target has a scope that isn't above the block's. In the own scope it may be a row that isn't made yet.
pub record IsTarget (f : Frame) (p : Place) : Type 0 where
  pub small : p.ordinal < 2 ^ 32
  pub scope : p.scope ≤ f.setting.fills

-- a target that may be absent
abbrev pub IsOptionTarget : Frame → (next : ℕ) → Option Place → Type 0
IsOptionTarget f next None = Unit {0}
IsOptionTarget f next (Some p) = IsTarget f p

-- an entry that the layout has first under some name
pub record IsFirst (l : Layout) (n : Named) : Type 0 where
  pub name : ℕ
  pub first : first_entry l name ≡ Some n

-- an alias has the kind of an alias
abbrev pub HasItsKind : Laid → (kind : ℕ) → Type 0
HasItsKind Alias kind = kind ≡ alias_kind
HasItsKind _ kind = Unit {0}

-- the target, where there is one
abbrev pub optional : Option (Gives Place) → Gives (Option Place)
optional None = gives None
optional (Some g) = record { value = Some g.value; diags = g.diags; answers = g.answers }

-- the target at a place of the own scope, by what the layout has there
abbrev pub laid_target_of : Context → (at : ℕ) → Place → Laid → Gives Place
laid_target_of c at p TypeName = gives p
laid_target_of c at p Alias = entry_target c at (followed c.scene (entry_at c.scene p))
laid_target_of c at p Other = refuse c at not_a_type broken
