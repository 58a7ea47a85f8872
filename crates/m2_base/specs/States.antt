-- What a value of Scopes holds, and how calls change it.
use Rattle.std.specs.Prelude.{◌≡◌, ◌⊎◌, ℕ, ◌<◌, ◌≤◌, Bool, true, false, List, [], ◌∷◌, ◌++◌, Option, slice_set}
use Rattle.m2_base.specs.Lists.{IsPrefixOf, Each, Grows}
use Rattle.m2_base.specs.Rows.{Row}
use Rattle.m2_base.specs.Tables.{Table}
use Rattle.m2_base.specs.Units.{UnitTexts}
use Rattle.m2_base.specs.declared.notes.Answer.{Answer}
use Rattle.m2_base.specs.declared.notes.Notes.{Notes}
use Rattle.m2_base.specs.declared.replies.Head.{Head}
use Rattle.m2_base.specs.declared.replies.Reply.{Reply}
use Rattle.m2_base.specs.declared.replies.Reply.TheVariants.{Found}

-- a head without its scope
pub record Mark : Type 0 where
  pub count : ℕ
  pub complete : Bool

abbrev pub mark_of : Head → Mark
mark_of h = record { count = h.count; complete = h.complete }

-- a search: the token and the name, the scopes that it was to try, the heads that it loaded, and its reply
pub record Look : Type 0 where
  pub at : ℕ
  pub name : ℕ
  pub chain : List ℕ
  pub heads : List Head
  pub reply : Reply

-- What no call changes: the texts of the unit, the scope that the value may fill, for each scope how many rows it has
-- room for, and, where nobody else changes the tables, all tables but that of the own scope,
-- which stands empty in them.
pub record Setting : Type 0 where
  pub texts : UnitTexts
  pub fills : ℕ
  pub areas : List ℕ
  pub others : Option (List Table)

-- What no search changes: the setting, the rows of the own scope that are shown, and whether it is complete.
pub record Frame : Type 0 where
  pub setting : Setting
  pub entered : List Row
  pub closed : Bool

-- The whole: `seen` has for each scope the latest head that this value loaded, stored or was told of, and `looks` has
-- its searches, where they are kept.
pub record State : Type 0 where
  pub frame : Frame
  pub seen : ℕ → Mark
  pub looks : Option (List Look)

abbrev pub texts_of : State → UnitTexts
texts_of st = st.frame.setting.texts

abbrev pub fills_of : State → ℕ
fills_of st = st.frame.setting.fills

abbrev pub areas_of : State → List ℕ
areas_of st = st.frame.setting.areas

abbrev pub others_of : State → Option (List Table)
others_of st = st.frame.setting.others

-- all tables, of a value that keeps the others
abbrev pub tables_of : State → List Table → List Table
tables_of st others = slice_set others (fills_of st) (record { rows = st.frame.entered; complete = st.frame.closed })

-- a head that can be loaded after another of the same scope: it has no fewer rows,
-- and after a complete one it is that one
pub record IsLater (m n : Mark) : Type 0 where
  pub count : m.count ≤ n.count
  pub complete : m.complete ≡ true → n ≡ m

-- what every value keeps
pub record IsSound (st : State) : Type 0 where
  pub zero_seen : (st.seen 0).complete ≡ true
  pub own_seen : st.frame.closed ≡ true → (st.seen (fills_of st)).complete ≡ true

-- what a call that only searches leaves as before, and what grows; the looks that it adds are `looks`
pub record Keeps (old new : State) (looks : List Look) : Type 0 where
  pub frame : new.frame ≡ old.frame
  pub seen : (s : ℕ) → IsLater (old.seen s) (new.seen s)
  pub grows : Grows old.looks looks new.looks

-- what any call leaves as before, and what grows
pub record Turns (old new : State) : Type 0 where
  pub setting : new.frame.setting ≡ old.frame.setting
  pub seen : (s : ℕ) → IsLater (old.seen s) (new.seen s)
  pub looks : List Look
  pub grows : Grows old.looks looks new.looks

-- this answer is the reply Found of this look, with its token and its name
abbrev pub IsReplyOf : Answer → Look → Type 0
IsReplyOf a l = (l.at ≡ a.at) × (l.name ≡ a.name) × (l.reply ≡ Found a.place a.row)

abbrev pub IsAmong : List Look → Answer → Type 0
IsAmong [] a = ⊥
IsAmong (l ∷ looks) a = IsReplyOf a l ⊎ IsAmong looks a

-- what an analyser leaves as before, and what grows: each answer that it notes is the reply of a look that it added
pub record Works (old new : State) (before after : Notes) : Type 0 where
  pub looks : List Look
  pub keeps : Keeps old new looks
  pub answers : List Answer
  pub noted : after.answers.items ≡ before.answers.items ++ answers
  pub shown : Each (IsAmong looks) answers
  pub diags : IsPrefixOf before.diags.items after.diags.items

-- This call loaded this head of a scope with a smaller number: it was incomplete, and so was the head of its scope
-- that was seen before.
pub record Waits (old new : State) (h : Head) : Type 0 where
  pub smaller : h.scope < fills_of old
  pub incomplete : h.complete ≡ false
  pub from : IsLater (old.seen h.scope) (mark_of h)
  pub upto : IsLater (mark_of h) (new.seen h.scope)
