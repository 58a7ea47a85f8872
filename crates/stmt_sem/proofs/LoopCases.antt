-- Cases of the variable of a FOR, of its step and of what it makes.
use Rattle.std.proofs.Common.{◌≡◌, ◌∙◌, ℕ, ℤ, Bool, true, false, not, if◌then◌else◌, List, Option, Some, None, Result, Ok, ap, sym, refl, option_map}
use Rattle.std.specs.Prelude.{is_some, ◌&&◌}
use Rattle.m2_base.specs.Gives.{Gives, and_then, gives}
use Rattle.m2_base.specs.States.{Frame, State}
use Rattle.m2_base.specs.Statics.Constants.{constant_of}
use Rattle.m2_base.specs.Statics.Contexts.{Context, Scene}
use Rattle.m2_base.specs.Statics.Lookup.{Entry}
use Rattle.m2_base.specs.Trees.{expr_at}
use Rattle.m2_base.specs.Views.{expr_view}
use Rattle.m2_base.specs.declared.memory.Memory.{Memory}
use Rattle.m2_base.specs.declared.notes.Notes.{Notes}
use Rattle.m2_base.specs.declared.operands.Operand.{Operand}
use Rattle.m2_base.specs.declared.replies.Ask.{Ask}
use Rattle.m2_base.specs.declared.replies.Ask.TheVariants.{Known}
use Rattle.m2_base.specs.declared.rows.Place.{Place}
use Rattle.m2_base.specs.declared.rows.Row.{Row}
use Rattle.m2_base.specs.declared.sites.Site.{Site}
use Rattle.m2_base.specs.declared.trees.expressions.Expr.{Expr}
use Rattle.const_eval.specs.Analyses.{Analysed}
use Rattle.const_eval.proofs.Analysing.{and_then_assoc}
use Rattle.const_eval.proofs.ReadParts.{at_seen}
use Rattle.block_code.specs.Parts.{Part, with_record}
use Rattle.block_code.specs.RecordFields.{with_field, field_coded}
use Rattle.expr_sem.specs.Selections.{with_number}
use Rattle.block_code.specs.Coded.{Coded, in_error}
use Rattle.expr_sem.specs.Codings.{Coding}
use Rattle.expr_sem.specs.declared.fragments.Node.{Node}
use Rattle.expr_sem.proofs.Operating.{coding_after, described, of_analysed}
use Rattle.expr_sem.proofs.Selecting.{with_field_numbered}
use Rattle.block_code.specs.Counting.{by_constant, controls, for_more, for_test, has_code, or_one}
use Rattle.block_code.specs.Flows.{Flow, counted}
use Rattle.stmt_sem.specs.Plain.{IsStep, itself}
use Rattle.stmt_sem.specs.Stands.{stand_in}
use Rattle.block_code.specs.Statements.{by_of}
use Rattle.stmt_sem.specs.declared.stands.Stand.{Stand}

some_mapped : {A B : Type 0} (f : A → B) (o : Option A) → is_some o ≡ is_some (option_map f o)
some_mapped f None = refl
some_mapped f (Some a) = refl

-- whether an open WITH has a field of this name
pub withs_have : (scene : Scene) (ts : List Place) (name : ℕ) (found : Option (ℕ × Row)) → found ≡ with_number scene 0 ts name → is_some found ≡ is_some (with_field scene 0 ts name)
withs_have scene ts name found e =
    some_mapped (λ n. field_coded scene (with_record n.0) n.1) found
    ∙ ap (λ (o : Option (ℕ × Row)). is_some (option_map (λ n. field_coded scene (with_record n.0) n.1) o)) e
    ∙ sym (ap (λ (o : Option Coded). is_some o) (with_field_numbered scene 0 ts name))

-- a name that nothing was found for
pub no_entry : (c : Context) (at : ℕ) (e : Option Entry) → ((x : Entry) → e ≡ Some x → ⊥) → gives in_error ≡ controls c at e
no_entry c at None h = refl
no_entry c at (Some x) h = absurd (h x refl)

-- ---- the step

-- by its constant
abbrev pub step_by : Context → (at : ℕ) → Option Operand → Gives ℤ
step_by c at o = and_then (by_constant c at o) (λ n. gives (or_one n))

-- by its expression
abbrev pub step_of : Context → Stand → Option Expr → Gives ℤ
step_of c s by = and_then (by_of (stand_in c s) (option_map expr_view by)) (λ n. gives (or_one n))

-- 1 where there is none
pub no_step : {A : Type 0} (o : Option A) → ((x : A) → o ≡ Some x → ⊥) → None ≡ o
no_step None h = refl
no_step (Some x) h = absurd (h x refl)

-- its constant is found first
pub step_found : {a b d : State} {x y z : Notes} {site : Site} {P : Frame → Option Operand → Type 0} {o : Option Operand} (ns : List Node) (s : Stand) (by : Option Expr) (e : Expr) (answer : Result (Ask ℤ) Memory) → Some e ≡ by
    → Analysed a b x y site (Ok (Known o)) P (λ c. constant_of c (expr_view e)) → Coding b d y z ns ns site answer IsStep itself (λ c. step_by c e.at o) → Coding a d x z ns ns site answer IsStep itself (λ c. step_of c s by)
step_found {o = o} ns s by e answer is found p =
    described answer (coding_after (λ c. constant_of c (expr_view e)) (λ v c. step_by c e.at v) answer (of_analysed ns (Ok (Known o)) found) p)
    (λ c. ap (λ (at : ℕ). and_then (constant_of c (expr_view e)) (step_by c at)) (sym (at_seen e))
    ∙ sym (and_then_assoc (constant_of c (expr_view e)) (by_constant c (expr_at (expr_view e))) (λ n. gives (or_one n)))
    ∙ ap (step_of c s) is)

-- ---- the code

-- the body as often as the comparisons with this cell say; once where the variable is in error
abbrev pub turns : (cell : ℕ) → (variable : Coded) → (by : ℤ) → (step : Part) → Flow → Flow
turns t x by step body = if has_code x then counted (for_test t x by) body (for_more t x by) step else body

-- what has code where neither of two is in error

module _ {A : Type 0} (made none : A) where
  pub first_bad : (a b : Bool) → true ≡ a → none ≡ (if not a && not b then made else none)
  first_bad a b e = ap (λ (v : Bool). if not v && not b then made else none) e

  pub second_bad : (a b : Bool) → false ≡ a → true ≡ b → none ≡ (if not a && not b then made else none)
  second_bad a b d e = ap (λ (v : Bool). if not false && not v then made else none) e ∙ ap (λ (v : Bool). if not v && not b then made else none) d

  pub none_bad : (a b : Bool) → false ≡ a → false ≡ b → made ≡ (if not a && not b then made else none)
  none_bad a b d e = ap (λ (v : Bool). if not false && not v then made else none) e ∙ ap (λ (v : Bool). if not v && not b then made else none) d
