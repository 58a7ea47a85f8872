-- Procedure types of the same form.
use Rattle.std.proofs.Common.{◌≡◌, ◌∙◌, ℕ, Bool, true, false, not, ◌&&◌, ◌||◌, Option, Some, None, refl, sym, ap, subst}
use Rattle.std.specs.Prelude.{List, [], ◌∷◌, is_none, unwrap_or}
use Rattle.m2_base.specs.States.{Frame}
use Rattle.m2_base.specs.Statics.Assignable.{are_both_numbers, is_open_array, is_procedure_kind, takes, takes_procedure}
use Rattle.m2_base.specs.Statics.Compatible.{is_compatible}
use Rattle.m2_base.specs.Statics.Operands.{operand_type}
use Rattle.m2_base.specs.Statics.Contexts.{Scene}
use Rattle.m2_base.specs.Statics.SameForm.{are_same_parameters, is_same_by, is_same_form, is_same_parameter_type, is_same_result}
use Rattle.m2_base.specs.Statics.TypeParts.{Parameter, parameters_by as spec_parameters_by, result_by}
use Rattle.m2_base.specs.Statics.Types.{base_of, kind_of, stands_for}
use Rattle.m2_base.specs.declared.operands.Operand.{Operand}
use Rattle.m2_base.specs.declared.operands.Operand.TheVariants.{Computed, Procedure, StringConstant}
use Rattle.m2_base.specs.declared.replies.Ask.{Ask}
use Rattle.m2_base.specs.declared.rows.Place.{Place}
use Rattle.m2_base.specs.declared.rows.RowMeaning.{RowMeaning}
use Rattle.m2_base.specs.declared.rows.RowMeaning.TheVariants.{OpenArray, ProcType}
use Rattle.m2_base.specs.declared.sites.Around.{Around}
use Rattle.type_rules.specs.Asks.{WhereKnown}
use Rattle.type_rules.specs.Assigning.{takes_closed, takes_value}
use Rattle.type_rules.specs.Forms.{are_none, are_same_places, compared, form_by, is_bare, parameters_by, parameters_from, same_by, same_forms, same_kinds}
use Rattle.type_rules.specs.Scenes.{IsStood, WhereTold, scene_of}
use Rattle.type_rules.specs.declared.forms.Compared.{Compared}
use Rattle.type_rules.specs.declared.forms.Form.{Form}
use Rattle.type_rules.specs.declared.forms.Formal.{Formal}

-- ** Types of parameters

-- neither is an open array
pub default_same : (scene : Scene) (l r : Place) (k m : RowMeaning) → ((a : Place) → k ≡ OpenArray a → ⊥) → ((a : Place) → m ≡ OpenArray a → ⊥) → are_same_places l r ≡ same_kinds scene l r k m
default_same scene l r (OpenArray a) m left right = absurd (left a refl)
default_same scene l r k (OpenArray b) left right = absurd (right b refl)
default_same scene l r k m left right = refl

kinds_same : (scene : Scene) (x y : Place) (k m : RowMeaning) → same_kinds scene (stands_for scene x) (stands_for scene y) k m ≡ is_same_by scene x y k m
kinds_same scene x y (OpenArray a) (OpenArray b) = refl
kinds_same scene x y (OpenArray a) m = refl
kinds_same scene x y k (OpenArray b) = refl
kinds_same scene x y k m = refl

pub stood_same : (scene : Scene) (x y : Place) (l r : Place × RowMeaning) → IsStood scene x l → IsStood scene y r → same_by scene l r ≡ is_same_parameter_type scene x y
stood_same scene x y l r left right =
    ap (λ p. same_kinds scene p r.0 l.1 r.1) left.place
    ∙ ap (λ p. same_kinds scene (stands_for scene x) p l.1 r.1) right.place
    ∙ ap (λ k. same_kinds scene (stands_for scene x) (stands_for scene y) k r.1) left.meaning
    ∙ ap (λ k. same_kinds scene (stands_for scene x) (stands_for scene y) (kind_of scene x) k) right.meaning
    ∙ kinds_same scene x y (kind_of scene x) (kind_of scene y)

-- ** Lists of parameters

pub next_told : (answer : Ask Compared) (f mid : Frame) (a : Around) (x y : Place) (left right : ℕ) (o p : Option Formal) (first second : Formal) → mid ≡ f → o ≡ Some first → p ≡ Some second
    → WhereTold f (λ made. parameters_from (scene_of f made a) x left ≡ parameters_by (scene_of f made a) x o)
    → WhereTold f (λ made. parameters_from (scene_of f made a) y right ≡ parameters_by (scene_of f made a) y p)
    → WhereTold mid (λ made. (x y : Place) → WhereKnown answer (λ step. are_same_parameters (scene_of mid made a) (parameters_by (scene_of mid made a) x (Some first)) (parameters_by (scene_of mid made a) y (Some second)) ≡ compared (scene_of mid made a) x y step))
    → WhereTold f (λ made. WhereKnown answer (λ step. are_same_parameters (scene_of f made a) (parameters_from (scene_of f made a) x left) (parameters_from (scene_of f made a) y right) ≡ compared (scene_of f made a) x y step))
next_told answer f mid a x y left right o p first second same is_first is_second from_left from_right asked made in_hand told =
    let scene = scene_of f made a in
    let here : WhereKnown answer (λ step. are_same_parameters scene (parameters_by scene x (Some first)) (parameters_by scene y (Some second)) ≡ compared scene x y step) =
    subst (λ (h : Frame). WhereTold h (λ rows. (x y : Place) → WhereKnown answer (λ step. are_same_parameters (scene_of h rows a) (parameters_by (scene_of h rows a) x (Some first)) (parameters_by (scene_of h rows a) y (Some second)) ≡ compared (scene_of h rows a) x y step)))
    same asked made in_hand told x y in
    let xs : parameters_by scene x (Some first) ≡ parameters_from scene x left = sym (from_left made in_hand told ∙ ap (parameters_by scene x) is_first) in
    let ys : parameters_by scene y (Some second) ≡ parameters_from scene y right = sym (from_right made in_hand told ∙ ap (parameters_by scene y) is_second) in
    let lists : are_same_parameters scene (parameters_by scene x (Some first)) (parameters_by scene y (Some second)) ≡ are_same_parameters scene (parameters_from scene x left) (parameters_from scene y right) =
    ap (λ l. are_same_parameters scene l (parameters_by scene y (Some second))) xs ∙ ap (are_same_parameters scene (parameters_from scene x left)) ys in
    subst (λ b. WhereKnown answer (λ step. b ≡ compared scene x y step)) lists here

-- ** Procedure types

-- what a procedure type's form says
pub record HasForm (scene : Scene) (p : Place) (m : RowMeaning) (x : Form) : Type 0 where
  pub procedure : is_procedure_kind m ≡ true
  pub list : spec_parameters_by scene p m ≡ parameters_from scene x.of x.first
  pub result : result_by m ≡ x.result

has_form : (scene : Scene) (p : Place) (m : RowMeaning) (x : Form) → form_by p m ≡ Some x → HasForm scene p m x
has_form scene p (ProcType r n first) x h =
    let same : record { of = p; first = first; result = r } ≡ x = ap (λ o. unwrap_or {T = Form} o x) h in
    subst (λ (y : Form). HasForm scene p (ProcType r n first) y) same (record { procedure = refl; list = refl; result = refl })
has_form scene p m x h = absurd (cc)

pub no_form : (p : Place) (m : RowMeaning) → form_by p m ≡ None → is_procedure_kind m ≡ false
no_form p (ProcType r n first) h = absurd (cc)
no_form p m h = refl

pub forms_same : (scene : Scene) (to of : Place) (x y : Form) → form_by (stands_for scene to) (kind_of scene to) ≡ Some x → form_by (stands_for scene of) (kind_of scene of) ≡ Some y
    → same_forms scene x y ≡ takes_procedure scene to of
forms_same scene to of x y left right =
    let l = has_form scene (stands_for scene to) (kind_of scene to) x left in
    let r = has_form scene (stands_for scene of) (kind_of scene of) y right in
    sym (
    ap (λ b. b && is_procedure_kind (kind_of scene of) && is_same_form scene to of) l.procedure
    ∙ ap (λ b. b && is_same_form scene to of) r.procedure
    ∙ ap (λ ps. are_same_parameters scene ps (spec_parameters_by scene (stands_for scene of) (kind_of scene of)) && is_same_result scene (result_by (kind_of scene to)) (result_by (kind_of scene of))) l.list
    ∙ ap (λ ps. are_same_parameters scene (parameters_from scene x.of x.first) ps && is_same_result scene (result_by (kind_of scene to)) (result_by (kind_of scene of))) r.list
    ∙ ap (λ o. are_same_parameters scene (parameters_from scene x.of x.first) (parameters_from scene y.of y.first) && is_same_result scene o (result_by (kind_of scene of))) l.result
    ∙ ap (λ o. are_same_parameters scene (parameters_from scene x.of x.first) (parameters_from scene y.of y.first) && is_same_result scene x.result o) r.result)

false_right : (b c : Bool) → false ≡ (b && false && c)
false_right false c = refl
false_right true c = refl

-- what is no procedure type takes none and is taken by none
pub none_to : (scene : Scene) (to of : Place) → form_by (stands_for scene to) (kind_of scene to) ≡ None → false ≡ takes_procedure scene to of
none_to scene to of none =
    sym (ap (λ b. b && is_procedure_kind (kind_of scene of) && is_same_form scene to of) (no_form (stands_for scene to) (kind_of scene to) none))

pub none_of : (scene : Scene) (to of : Place) → form_by (stands_for scene of) (kind_of scene of) ≡ None → false ≡ takes_procedure scene to of
none_of scene to of none =
    false_right (is_procedure_kind (kind_of scene to)) (is_same_form scene to of)
    ∙ ap (λ b. is_procedure_kind (kind_of scene to) && b && is_same_form scene to of) (sym (no_form (stands_for scene of) (kind_of scene of) none))

-- ** Headings

-- what is no procedure type has no parameters and no result
no_parts : (scene : Scene) (p : Place) (m : RowMeaning) → form_by p m ≡ None → (spec_parameters_by scene p m ≡ []) × (result_by m ≡ None)
no_parts scene p (ProcType r n first) h = absurd (cc)
no_parts scene p m h = (refl, refl)

-- the same form, by the parameters and the results of both
form_parts : (scene : Scene) (t u : Place) (ps qs : List Parameter) (r q : Option Place)
    → spec_parameters_by scene (stands_for scene t) (kind_of scene t) ≡ ps → spec_parameters_by scene (stands_for scene u) (kind_of scene u) ≡ qs
    → result_by (kind_of scene t) ≡ r → result_by (kind_of scene u) ≡ q
    → is_same_form scene t u ≡ (are_same_parameters scene ps qs && is_same_result scene r q)
form_parts scene t u ps qs r q left right to from =
    ap (λ l. are_same_parameters scene l (spec_parameters_by scene (stands_for scene u) (kind_of scene u)) && is_same_result scene (result_by (kind_of scene t)) (result_by (kind_of scene u))) left
    ∙ ap (λ l. are_same_parameters scene ps l && is_same_result scene (result_by (kind_of scene t)) (result_by (kind_of scene u))) right
    ∙ ap (λ o. are_same_parameters scene ps qs && is_same_result scene o (result_by (kind_of scene u))) to
    ∙ ap (λ o. are_same_parameters scene ps qs && is_same_result scene r o) from

bare_before : (scene : Scene) (ps : List Parameter) (r : Option Place) → (are_none ps && is_none r) ≡ (are_same_parameters scene ps [] && is_same_result scene r None)
bare_before scene [] None = refl
bare_before scene [] (Some t) = refl
bare_before scene (p ∷ ps) None = refl
bare_before scene (p ∷ ps) (Some t) = refl

bare_behind : (scene : Scene) (ps : List Parameter) (r : Option Place) → (are_none ps && is_none r) ≡ (are_same_parameters scene [] ps && is_same_result scene None r)
bare_behind scene [] None = refl
bare_behind scene [] (Some t) = refl
bare_behind scene (p ∷ ps) None = refl
bare_behind scene (p ∷ ps) (Some t) = refl

-- no parameter is left where none is read
pub none_left : (scene : Scene) (p : Place) (o : Option Formal) (ps : List Parameter) → ps ≡ parameters_by scene p o → is_none o ≡ are_none ps
none_left scene p None ps h = sym (ap are_none h)
none_left scene p (Some formal) ps h = sym (ap are_none h)

module _ (scene : Scene) (t u : Place) where
  abbrev to : Option Form
  to = form_by (stands_for scene t) (kind_of scene t)

  abbrev of : Option Form
  of = form_by (stands_for scene u) (kind_of scene u)

  pub both_same : (x y : Form) → to ≡ Some x → of ≡ Some y → same_forms scene x y ≡ is_same_form scene t u
  both_same x y left right =
      let l = has_form scene (stands_for scene t) (kind_of scene t) x left in
      let r = has_form scene (stands_for scene u) (kind_of scene u) y right in
      sym (form_parts scene t u (parameters_from scene x.of x.first) (parameters_from scene y.of y.first) x.result y.result l.list r.list l.result r.result)

  pub left_bare : (x : Form) → to ≡ Some x → of ≡ None → is_bare scene x ≡ is_same_form scene t u
  left_bare x left right =
      let l = has_form scene (stands_for scene t) (kind_of scene t) x left in
      let r = no_parts scene (stands_for scene u) (kind_of scene u) right in
      bare_before scene (parameters_from scene x.of x.first) x.result
      ∙ sym (form_parts scene t u (parameters_from scene x.of x.first) [] x.result None l.list r.0 l.result r.1)

  pub right_bare : (y : Form) → to ≡ None → of ≡ Some y → is_bare scene y ≡ is_same_form scene t u
  right_bare y left right =
      let l = no_parts scene (stands_for scene t) (kind_of scene t) left in
      let r = has_form scene (stands_for scene u) (kind_of scene u) y right in
      bare_behind scene (parameters_from scene y.of y.first) y.result
      ∙ sym (form_parts scene t u [] (parameters_from scene y.of y.first) None y.result l.0 r.list l.1 r.result)

  pub none_same : to ≡ None → of ≡ None → true ≡ is_same_form scene t u
  none_same left right =
      let l = no_parts scene (stands_for scene t) (kind_of scene t) left in
      let r = no_parts scene (stands_for scene u) (kind_of scene u) right in
      sym (form_parts scene t u [] [] None None l.0 r.0 l.1 r.1)

-- ** What a variable takes

or_assoc : (a b c : Bool) → (a || (b || c)) ≡ (a || b || c)
or_assoc true b c = refl
or_assoc false b c = refl

closed_parts : (scene : Scene) (to : Place) (o : Operand) → takes_closed scene to o ≡ (not (is_open_array scene (operand_type o)) && (is_compatible scene o (Computed to) || are_both_numbers (base_of scene to) (base_of scene (operand_type o)) || takes_procedure scene to (operand_type o)))
closed_parts scene to o =
    ap (λ b. not (is_open_array scene (operand_type o)) && b)
    (or_assoc (is_compatible scene o (Computed to)) (are_both_numbers (base_of scene to) (base_of scene (operand_type o))) (takes_procedure scene to (operand_type o)))

-- any operand but a procedure and a string
pub takes_default : (scene : Scene) (to : Place) (o : Operand) → ((n : ℕ) (t : Place) (k s : ℕ) → o ≡ Procedure n t k s → ⊥) → ((n l : ℕ) → o ≡ StringConstant n l → ⊥) → takes_closed scene to o ≡ takes scene to o
takes_default scene to (Procedure n t k s) procedure text = absurd (procedure n t k s refl)
takes_default scene to (StringConstant n l) procedure text = absurd (text n l refl)
takes_default scene to o procedure text = closed_parts scene to o

-- a closed type
pub takes_if_closed : (scene : Scene) (to : Place) (o : Operand) → is_open_array scene (operand_type o) ≡ false → takes_value scene to o ≡ takes_closed scene to o
takes_if_closed scene to o closed = sym (ap (λ b. not b && takes_value scene to o) closed)
