-- What a block sees of the scopes, and when the scopes suit its questions.
use Rattle.std.specs.Prelude.{◌≡◌, ℕ, ◌<◌, ◌≤◌, ◌^◌, true, false, List, [], ◌∷◌, ◌++◌, length, take}
use Rattle.m2_base.specs.Finished.{IsFinished, WhereFinished}
use Rattle.m2_base.specs.Lists.{Each, IsPrefixOf, WhereKept}
use Rattle.m2_base.specs.Names.{standard_names}
use Rattle.m2_base.specs.Standard.{standard_rows}
use Rattle.m2_base.specs.Rows.{Fits, HasSmallNumbers, row_meaning}
use Rattle.m2_base.specs.States.{Frame}
use Rattle.m2_base.specs.Statics.Contexts.{Block, Scene}
use Rattle.m2_base.specs.Statics.Types.{stands_for, kind_of}
use Rattle.m2_base.specs.Tables.{rows_at}
use Rattle.m2_base.specs.declared.operands.Operand.{Operand}
use Rattle.m2_base.specs.declared.operands.Operand.TheVariants.{Constant, Computed, Variable, NamedType, Procedure}
use Rattle.m2_base.specs.declared.rows.Place.{Place}
use Rattle.m2_base.specs.declared.rows.Row.{Row}
use Rattle.m2_base.specs.declared.rows.RowMeaning.{RowMeaning}
use Rattle.m2_base.specs.declared.rows.RowMeaning.TheVariants.{TypeName}
use Rattle.m2_base.specs.declared.sites.Around.{Around}

-- what surrounds a block, as the definitions see it
abbrev pub block_of : Around → Block
block_of a = record { scope = a.scope; text = a.text; level = a.level; home = a.module; own = a.own; chain = a.chain }

-- What counts beside the rows that are entered: the finished rows, of the scopes before the own one, and rows in hand,
-- which are made but not entered yet.
pub record Hand : Type 0 where
  pub finished : List (List Row)
  pub rows : List Row

abbrev pub hand : (finished : List (List Row)) → (rows : List Row) → Hand
hand finished rows = record { finished = finished; rows = rows }

-- The rows that count: of the scopes before the own one all; of the own one those that are entered,
-- and after them those in hand.
abbrev pub rows_of : Frame → (made : Hand) → List (List Row)
rows_of f made = take f.setting.fills made.finished ++ (f.entered ++ made.rows) ∷ []

-- a block and the rows that count there
abbrev pub scene_of : Frame → (made : Hand) → Around → Scene
scene_of f made a = record { block = block_of a; tables = rows_of f made }

-- not the row of a type's name
abbrev pub NamesNoType : RowMeaning → Type 0
NamesNoType (TypeName t) = ⊥
NamesNoType other = Unit {0}

-- Rows can be in hand: a complete scope has none, and none of them is that of a type's name,
-- which is the last of its item.
pub record AreInHand (f : Frame) (made : Hand) : Type 0 where
  pub closed : f.closed ≡ true → made.rows ≡ []
  pub types : Each (λ r. NamesNoType (row_meaning r)) made.rows

-- P of any rows in hand beside the finished rows, where no text has a syntax error
abbrev pub WhereTold : Frame → (Hand → Type 0) → Type 0
WhereTold f P = (made : Hand) → AreInHand f made → IsFinished f.setting.texts made.finished → P made

-- What holds of the scopes and the finished rows: those of the scopes before are there, scope 0 is the standard one,
-- each scope has fewer rows than numbers of 32 bits, and what is entered is the beginning of the own scope's rows,
-- in the end the whole.
pub record Agrees (f : Frame) (finished : List (List Row)) : Type 0 where
  pub scopes : f.setting.fills < length finished
  pub standard : rows_at finished 0 ≡ standard_rows
  pub few : (s : ℕ) → length (rows_at finished s) < 2 ^ 32
  pub entered : IsPrefixOf f.entered (rows_at finished f.setting.fills)
  pub whole : f.closed ≡ true → f.entered ≡ rows_at finished f.setting.fills

-- The scopes suit a block: they fill its scope, and have all scopes before it; the module and the own definition are
-- no later scopes.
pub record Suits (f : Frame) (a : Around) : Type 0 where
  pub fills : a.scope ≡ f.setting.fills
  pub inner : 0 < f.setting.fills
  pub exist : f.setting.fills < length f.setting.areas
  pub names : length f.setting.texts.names ≤ 2 ^ 32
  pub standard : IsPrefixOf standard_names f.setting.texts.names
  pub home : a.module ≤ f.setting.fills
  pub own : WhereKept a.own (λ s. s < f.setting.fills)
  pub told : WhereFinished f.setting.texts (Agrees f)

-- The place of a type can be asked for: its scope isn't above the block's, and where it is of the own scope, which
-- isn't complete, its row is entered.
pub record IsThere (f : Frame) (p : Place) : Type 0 where
  pub scope : p.scope ≤ f.setting.fills
  pub entered : p.scope ≡ f.setting.fills → f.closed ≡ false → p.ordinal < length f.entered

-- what a row at a place says: it fits the place, and its numbers have 32 bits
pub record IsSaid (f : Frame) (p : Place) (m : RowMeaning) : Type 0 where
  pub fits : Fits (length f.setting.texts.names) p m
  pub small : HasSmallNumbers m

-- a row of a place that can be asked for
pub record IsRowOf (f : Frame) (p : Place) (r : Row) : Type 0 where
  pub there : IsThere f p
  pub said : IsSaid f p (row_meaning r)

-- a row of some place that can be asked for
pub record IsHere (f : Frame) (r : Row) : Type 0 where
  pub place : Place
  pub row : IsRowOf f place r

-- the type of an operand can be asked for
abbrev pub IsOperandThere : Frame → Operand → Type 0
IsOperandThere f (Constant t v) = IsThere f t
IsOperandThere f (Computed t) = IsThere f t
IsOperandThere f (Variable t) = IsThere f t
IsOperandThere f (NamedType t) = IsThere f t
IsOperandThere f (Procedure n t k s) = IsThere f t
IsOperandThere f other = Unit {0}

-- what a type stands for, and what its row says
pub record IsStood (scene : Scene) (t : Place) (stood : Place × RowMeaning) : Type 0 where
  pub place : stood.0 ≡ stands_for scene t
  pub meaning : stood.1 ≡ kind_of scene t

pub record IsStoodHere (f : Frame) (stood : Place × RowMeaning) : Type 0 where
  pub there : IsThere f stood.0
  pub said : IsSaid f stood.0 stood.1
