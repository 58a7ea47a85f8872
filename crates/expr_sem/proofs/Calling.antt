-- Calls: what stays of what is called, of the parameters that are left and of the arguments so far.
use Rattle.std.proofs.Common.{◌≡◌, ◌∙◌, [], ◌∷◌, List, Option, Some, None, Result, Ok, Bool, true, map, ap, refl, sym, subst}
use Rattle.std.specs.Prelude.{slice_get}
use Rattle.std.specs.Option.{IfSome}
use Rattle.m2_base.specs.Gives.{Gives, and_then, gives}
use Rattle.m2_base.specs.Lists.{Each}
use Rattle.m2_base.specs.States.{Frame, State}
use Rattle.m2_base.specs.Statics.Contexts.{Context}
use Rattle.m2_base.specs.Statics.TypeParts as parts
use Rattle.m2_base.specs.Trees.{Expr, expr_at}
use Rattle.m2_base.specs.declared.memory.Memory.{Memory}
use Rattle.m2_base.specs.declared.notes.Notes.{Notes}
use Rattle.m2_base.specs.declared.replies.Ask.{Ask}
use Rattle.m2_base.specs.declared.replies.Ask.TheVariants.{Known}
use Rattle.m2_base.specs.declared.rows.Place.{Place}
use Rattle.m2_base.specs.declared.sites.Site.{Site}
use Rattle.type_rules.specs.Scenes.{IsThere}
use Rattle.expr_sem.specs.ArgumentCodes.{IsArgument, argument_in, parameter_view}
use Rattle.block_code.specs.Arguments.{after_argument, argument}
use Rattle.expr_sem.specs.Callees.{IsCallee}
use Rattle.block_code.specs.Coded as code
use Rattle.block_code.specs.Coded.{in_error}
use Rattle.expr_sem.specs.Codings.{Coding, IsCoded, coded_in}
use Rattle.expr_sem.specs.ExpressionParts.{behind_first, next_passed}
use Rattle.block_code.specs.Expressions.{expression}
use Rattle.expr_sem.specs.Fragments.{Grows}
use Rattle.block_code.specs.Parts.{Part}
use Rattle.expr_sem.specs.declared.arguments.Parameter.{Parameter}
use Rattle.expr_sem.specs.declared.calls.Callee.{Callee}
use Rattle.expr_sem.specs.declared.coded.Coded.{Coded}
use Rattle.expr_sem.specs.declared.fragments.Fragment.{Fragment}
use Rattle.expr_sem.specs.declared.fragments.Node.{Node}
use Rattle.expr_sem.proofs.Onwards.{holds_after}
use Rattle.expr_sem.proofs.Sequencing.{in_later, part_later}

-- ** Arguments that are looked at

-- what came before doesn't matter: what comes out is in error
abbrev pub NoMatter : Frame → List Node → Bool → Type 0
NoMatter f ns any = Unit {0}

abbrev pub error_in : List Node → Bool → code.Coded
error_in ns any = in_error

pub as_error : {a b : State} {x y : Notes} {ns ms : List Node} {s : Site} {g : Context → Gives code.Coded} → Coding a b x y ns ms s (Ok (Known true)) NoMatter error_in g → (v : Coded)
    → ((nodes : List Node) → coded_in nodes v ≡ in_error) → ((f : Frame) (nodes : List Node) → IsCoded f nodes v) → Coding a b x y ns ms s (Ok (Known v)) IsCoded coded_in g
as_error {a} {b} {x} {y} {ns} {ms} p v told there =
    record {
      works = p.works;
      waits = tt;
      grows = p.grows;
      told = λ made in_hand t of_site. let h = p.told made in_hand t of_site in record { value_is = told ms ∙ h.value_is; diags = h.diags; answers = h.answers };
      there = there a.frame ms;
    }

-- ** Parameters and arguments

abbrev pub AreParameters : Frame → List Parameter → Type 0
AreParameters f ps = Each (λ p. IsThere f p.of) ps

-- the parameters that are left, and the code of the arguments so far
abbrev pub AreLeft : Frame → List Node → List Parameter × Option Fragment → Type 0
AreLeft f ns left = AreParameters f left.0 × IsArgument f ns left.1

abbrev pub left_in : List Node → List Parameter × Option Fragment → List parts.Parameter × Option Part
left_in ns left = (map parameter_view left.0, argument_in ns left.1)

behind_seen : (ps : List Parameter) → map parameter_view (behind_first ps) ≡ behind_first (map parameter_view ps)
behind_seen [] = refl
behind_seen (p ∷ ps) = refl

pub behind_in : (left ps : List Parameter) (made : Option Part) → left ≡ behind_first ps → ◌≡◌ {A = List parts.Parameter × Option Part} (map parameter_view left, made) (behind_first (map parameter_view ps), made)
behind_in left ps made e = ap (λ (rest : List Parameter). (map parameter_view rest, made)) e ∙ ap (λ (rest : List parts.Parameter). (rest, made)) (behind_seen ps)

fewer_there : (f : Frame) (ps : List Parameter) → AreParameters f ps → AreParameters f (behind_first ps)
fewer_there f [] h = tt
fewer_there f (p ∷ ps) h = h.1

pub behind_there : (f : Frame) (ps left : List Parameter) → left ≡ behind_first ps → AreParameters f ps → AreParameters f left
behind_there f ps left e h = subst (λ (rest : List Parameter). AreParameters f rest) (sym e) (fewer_there f ps h)

-- the code of an argument is the same among more fragments, and is one of them
pub argument_later : {from to : List Node} → Grows from to → (f : Frame) (x : Option Fragment) → IsArgument f from x → argument_in to x ≡ argument_in from x
argument_later g f None h = refl
argument_later g f (Some x) h = ap (λ (p : Part). Some p) (part_later g x h)

argument_there : {from to : List Node} → Grows from to → (f e : Frame) (x : Option Fragment) → IsArgument f from x → IsArgument e to x
argument_there g f e None h = tt
argument_there g f e (Some x) h = in_later g x h

module _ {T V : Type 0} {a b : State} {x y : Notes} {n1 n2 : List Node} {s : Site} {P : Frame → List Node → T → Type 0} {as_p : List Node → T → V} {g : Context → Gives V} {answer : Result (Ask T) Memory} (p : Coding a b x y n1 n2 s answer P as_p g) where
  pub params_after : (ps : List Parameter) → AreParameters a.frame ps → AreParameters b.frame ps
  params_after ps h = holds_after p (λ (f : Frame). AreParameters f ps) h

  pub argument_after : (z : Option Fragment) → IsArgument a.frame n1 z → IsArgument b.frame n2 z
  argument_after z h = argument_there p.grows a.frame b.frame z h

  pub callee_after : (q : Callee) → IsCallee a.frame n1 q → IsCallee b.frame n2 q
  callee_after q h =
      record {
        params = params_after q.params.items h.params;
        before = in_later p.grows q.before h.before;
        result = holds_after p (λ (f : Frame). IfSome q.result (IsThere f)) h.result;
      }

-- ** The first parameter

first_is : (q p : Parameter) → Some p ≡ Some q → q ≡ p
first_is q p e = cc

pub first_there : (f : Frame) (ps : List Parameter) (p : Parameter) → Some p ≡ slice_get ps 0 → AreParameters f ps → IsThere f p.of
first_there f [] p e all = absurd (cc)
first_there f (q ∷ ps) p e all = subst (λ (r : Parameter). IsThere f r.of) (first_is q p e) all.0

pub next_given : (c : Context) (withs : List Place) (ps : List Parameter) (p : Parameter) (made : Option Part) (e : Expr) → Some p ≡ slice_get ps 0
    → and_then (expression c withs e) (λ x. and_then (argument c (parameter_view p) (expr_at e) x) (λ a. gives (after_argument made a))) ≡ next_passed c withs (map parameter_view ps) made e
next_given c withs [] p made e is = absurd (cc)
next_given c withs (q ∷ ps) p made e is =
    ap (λ (r : Parameter). and_then (expression c withs e) (λ x. and_then (argument c (parameter_view r) (expr_at e) x) (λ a. gives (after_argument made a)))) (sym (first_is q p is))

-- there is none
pub none_passed : (c : Context) (withs : List Place) (ps : List Parameter) (made : Option Part) (e : Expr) → None ≡ slice_get ps 0 → gives None ≡ next_passed c withs (map parameter_view ps) made e
none_passed c withs [] made e is = refl
none_passed c withs (q ∷ ps) made e is = absurd (cc)
