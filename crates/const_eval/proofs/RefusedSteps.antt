-- Rules that note nothing, or whose value is wrong: what they become one after another, and by a test.
use Rattle.std.specs.Prelude.{◌≡◌, ◌++◌, List, [], pos, Bool, true, false, ◌||◌, if◌then◌else◌, Option, None, slice_index_or}
use Rattle.std.proofs.Common.{◌∙◌, ap, subst, sym}
use Rattle.m2_base.specs.Finished.{IsFinished}
use Rattle.m2_base.specs.Gives.{Gives, and_then}
use Rattle.m2_base.specs.Rows.{is_same_place, row_meaning, row_of}
use Rattle.m2_base.specs.Standard.{broken}
use Rattle.m2_base.specs.States.{Frame}
use Rattle.m2_base.specs.Statics.Contexts.{Context}
use Rattle.m2_base.specs.Statics.Operands.{is_bad}
use Rattle.m2_base.specs.Statics.Sets.{no_elements, set_base_by}
use Rattle.m2_base.specs.Statics.Types.{is_broken, kind_of, meaning_at, range_by, range_of, stands_as, stands_for}
use Rattle.m2_base.specs.declared.operands.Operand.TheVariants.{Constant, InError}
use Rattle.m2_base.specs.declared.operands.Operand.{Operand}
use Rattle.m2_base.specs.declared.rows.Place.{Place}
use Rattle.m2_base.specs.declared.rows.Row.{Row}
use Rattle.m2_base.specs.declared.rows.RowMeaning.TheVariants.{Broken}
use Rattle.m2_base.specs.declared.sites.Site.{Site}
use Rattle.m2_base.proofs.SoundTypes.{either}
use Rattle.type_rules.proofs.Counting.{counted_below}
use Rattle.type_rules.specs.Scenes.{Hand}
use Rattle.type_rules.specs.Sites.{SuitsSite, context_of}

-- nothing is noted, or the value is wrong
pub data QuietOr {A : Type 0} (Wrong : A → Type 0) (g : Gives A) : Type 0 where
  quiet : g.diags ≡ [] → QuietOr Wrong g
  wrong : Wrong g.value → QuietOr Wrong g

-- what isn't wrong was refused nowhere
pub quiet-unless : {A : Type 0} (W : A → Type 0) (g : Gives A) → QuietOr W g → (W g.value → ⊥) → g.diags ≡ []
quiet-unless W g (quiet p) right = p
quiet-unless W g (wrong w) right = absurd (right w)

-- one rule after another, where what becomes of a wrong value is wrong
pub quiet-then : {A B : Type 0} (V : A → Type 0) (W : B → Type 0) (a : Gives A) (f : A → Gives B) → QuietOr V a
    → (V a.value → W (f a.value).value) → QuietOr W (f a.value) → QuietOr W (and_then a f)
quiet-then V W a f (quiet p) kept (quiet q) = quiet (ap (λ l. l ++ (f a.value).diags) p ∙ q)
quiet-then V W a f (quiet p) kept (wrong w) = wrong w
quiet-then V W a f (wrong v) kept q = wrong (kept v)

-- by a test
pub quiet-if : {A : Type 0} (W : A → Type 0) (t : Bool) (a b : Gives A) → QuietOr W a → QuietOr W b → QuietOr W (if t then a else b)
quiet-if W t a b p q = either (QuietOr W) t a b p q

-- a rule that is one step with a test in it
pub ruleset tests = (quiet-if, quiet, wrong)

-- ---- what is wrong

abbrev pub IsError : Operand → Type 0
IsError o = o ≡ InError

abbrev pub IsMissing : {A : Type 0} → Option A → Type 0
IsMissing o = o ≡ None

abbrev pub IsUntyped : Place → Type 0
IsUntyped t = t ≡ broken

-- what holds of an error holds of an operand in error
pub of-error : (P : Operand → Type 0) (o : Operand) → IsError o → P InError → P o
of-error P o e p = subst P (sym e) p

-- a test for parts in error goes the same way where the second is one
pub of-second : {A : Type 0} (P : A → Type 0) (b : Bool) (o : Operand) (s t : A) → IsError o → P s → P (if b || is_bad o then s else t)
of-second P b o s t e p = of-error (λ q. P (if b || is_bad q then s else t)) o e (by_first b)
  where
    by_first : (b : Bool) → P (if b || true then s else t)
    by_first true = p
    by_first false = p

-- ---- the type of parts in error

-- its row is where it belongs
abbrev pub BrokenIsThere : Context → Type 0
BrokenIsThere c = meaning_at c.scene broken ≡ Broken

-- so it is where the texts are told
pub broken-told : (f : Frame) (made : Hand) (s : Site) → SuitsSite f s → IsFinished f.setting.texts made.finished → BrokenIsThere (context_of f made s)
broken-told f made s suits told =
    let agrees = suits.around.told made.finished told in
    ap (λ (rows : List Row). row_meaning (slice_index_or rows 10 (row_of 0 0 Broken))) (counted_below f made 0 agrees suits.around.inner ∙ agrees.standard)

broken-stands : (c : Context) → BrokenIsThere c → stands_for c.scene broken ≡ broken
broken-stands c h = ap (stands_as c.scene broken) h

broken-kind : (c : Context) → BrokenIsThere c → kind_of c.scene broken ≡ Broken
broken-kind c h = ap (meaning_at c.scene) (broken-stands c h) ∙ h

pub broken-is : (c : Context) → BrokenIsThere c → is_broken c.scene broken ≡ true
broken-is c h = ap (λ p. is_same_place p broken) (broken-stands c h)

pub broken-range : (c : Context) → BrokenIsThere c → range_of c.scene broken ≡ None
broken-range c h = ap range_by (broken-kind c h)

-- no set has that type
pub no-broken_set : (c : Context) → BrokenIsThere c → no_elements c broken ≡ InError
no-broken_set c h =
    ap (λ t. if is_broken c.scene t then InError else Constant broken (pos 0)) (ap set_base_by (broken-kind c h))
    ∙ ap (λ (b : Bool). if b then InError else Constant broken (pos 0)) (broken-is c h)
