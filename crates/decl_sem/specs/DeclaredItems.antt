-- What is answered for a declaration.
use Rattle.std.specs.Prelude.{◌≡◌, ◌+◌, ◌++◌, ◌∷◌, List, [], Some, length, Result}
use Rattle.m2_base.specs.Asks.{IfKnown, IfWaits}
use Rattle.m2_base.specs.Lists.{Each}
use Rattle.m2_base.specs.States.{IsAmong, Keeps, Look, State, Waits}
use Rattle.m2_base.specs.Statics.Contexts.{Context}
use Rattle.m2_base.specs.Statics.Effects.{Effect}
use Rattle.m2_base.specs.Statics.Layouts.{extended, with_brought}
use Rattle.m2_base.specs.Statics.Makes.{Makes}
use Rattle.m2_base.specs.Statics.Shapes.{Shape}
use Rattle.m2_base.specs.Trees.{Stream}
use Rattle.m2_base.specs.declared.memory.Memory.{Memory}
use Rattle.m2_base.specs.declared.replies.Ask.{Ask}
use Rattle.m2_base.specs.declared.sites.Named.{Named}
use Rattle.m2_base.specs.declared.sites.Site.{Site}
use Rattle.type_rules.specs.Scenes.{WhereTold}
use Rattle.type_rules.specs.Sites.{context_of}
use Rattle.decl_sem.specs.Items.{IsEffect}
use Rattle.decl_sem.specs.LaidRows.{AreLaid}
use Rattle.decl_sem.specs.Layouts.{IsLayoutAt}
use Rattle.decl_sem.specs.Pieces.{AreNewRows, item_end}
use Rattle.decl_sem.specs.declared.declaring.Declared.{Declared}

-- all that is answered is the definition's: the rows, the diagnostics, the answers, and what is given beside them
pub record GivesAll (d : Declared) (m : Makes Effect) : Type 0 where
  pub effect : d.effect ≡ m.value
  pub rows : d.rows.items ≡ m.rows
  pub diags : d.notes.diags.items ≡ m.diags
  pub answers : d.notes.answers.items ≡ m.answers

-- Only searches are made, and each answer noted was found by one. The scope that the answer waits for is incomplete,
-- and before the own one. Where the answer is known, the rows are as the layout gives them with the names that the
-- item brings, which is the layout at the next item; they are right at their places, the next free cell is one, and
-- the type of the result stands before the next row; where the texts are told, all is the definition's.
pub record DeclaresItem (old new : State) (s : Site) (stream : Stream) (answer : Result (Ask Declared) Memory)
    (shapes : List Shape) (given : Context → Makes Effect) : Type 0 where
  pub looks : List Look
  pub keeps : Keeps old new looks
  pub waits : IfWaits answer (λ h. Waits old new h)
  pub shown : IfKnown answer (λ d. Each (IsAmong looks) d.notes.answers.items)
  pub laid : IfKnown answer (λ d. AreLaid (extended s.layout.now d.effect.brought) (length old.frame.entered)
      (with_brought shapes d.effect.brought) d.rows.items)
  pub of_item : IfKnown answer (λ d. Each (λ b. s.item ≡ Some b.item) d.effect.brought)
  pub next : (brought : List (List Named)) → s.item ≡ Some (length brought)
      → IsLayoutAt s.layout.now stream brought → IfKnown answer
      (λ d. IsLayoutAt (extended s.layout.now d.effect.brought) stream (brought ++ d.effect.brought ∷ []))
  pub new_rows : IfKnown answer (λ d. AreNewRows old.frame (item_end s) (length old.frame.entered) d.rows.items)
  pub effect : IfKnown answer (λ d. IsEffect old.frame (length old.frame.entered + length d.rows.items) d.effect)
  pub told : WhereTold old.frame (λ hand.
      hand.rows ≡ [] → IfKnown answer (λ d. GivesAll d (given (context_of old.frame hand s))))
