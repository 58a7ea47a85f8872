-- Procedure types, as the walk through their parameters sees them.
use Rattle.std.specs.Prelude.{◌≡◌, ℕ, ◌<◌, ◌≤◌, Bool, true, false, ◌&&◌, ◌||◌, List, [], ◌∷◌, Option, Some, None}
use Rattle.std.specs.Prelude.{filter_map, is_none}
use Rattle.std.specs.Option.{IfSome}
use Rattle.m2_base.specs.Rows.{is_same_place}
use Rattle.m2_base.specs.Standard.{broken}
use Rattle.m2_base.specs.States.{Frame}
use Rattle.m2_base.specs.Statics.Contexts.{Scene}
use Rattle.m2_base.specs.Statics.SameForm.{are_same_parameters, is_same_part, is_same_result}
use Rattle.m2_base.specs.Statics.TypeParts.{Parameter, parameter_of, rows_between}
use Rattle.m2_base.specs.declared.rows.Place.{Place}
use Rattle.m2_base.specs.declared.rows.RowMeaning.{RowMeaning}
use Rattle.m2_base.specs.declared.rows.RowMeaning.TheVariants.{ProcType, OpenArray}
use Rattle.type_rules.specs.Scenes.{IsThere}
use Rattle.type_rules.specs.declared.forms.Compared.{Compared}
use Rattle.type_rules.specs.declared.forms.Compared.TheVariants.{Ended, Next}
use Rattle.type_rules.specs.declared.forms.Form.{Form}
use Rattle.type_rules.specs.declared.forms.Formal.{Formal}

-- a procedure type by what its row says
abbrev pub form_by : Place → RowMeaning → Option Form
form_by p (ProcType result n first) = Some (record { of = p; first = first; result = result })
form_by p other = None

-- the places of a procedure type can be asked for
pub record IsFormHere (f : Frame) (form : Form) : Type 0 where
  pub of : IsThere f form.of
  pub first : form.first ≤ form.of.ordinal
  pub result : IfSome form.result (IsThere f)

-- two places are one, or one of them is that of parts in error
abbrev pub are_same_places : (left right : Place) → Bool
are_same_places left right = is_same_place left broken || is_same_place right broken || is_same_place left right

-- the same by the places and the meanings
abbrev pub same_kinds : Scene → (left right : Place) → RowMeaning → RowMeaning → Bool
same_kinds scene left right (OpenArray a) (OpenArray b) = is_same_part scene a b
same_kinds scene left right (OpenArray a) other = is_same_place right broken
same_kinds scene left right other (OpenArray b) = is_same_place left broken
same_kinds scene left right other another = are_same_places left right

-- the parameters of a procedure type from this ordinal on
abbrev pub parameters_from : Scene → Place → (from : ℕ) → List Parameter
parameters_from scene p from = filter_map (parameter_of p.ordinal) (rows_between scene p.scope from p.ordinal)

-- a parameter that was read and those after it
abbrev pub parameters_by : Scene → Place → Option Formal → List Parameter
parameters_by scene p None = []
parameters_by scene p (Some formal) =
    record { typ = formal.typ; by_ref = formal.by_ref } ∷ parameters_from scene p formal.next

-- the walk goes on behind this parameter, whose type can be asked for
pub record GoesOn (f : Frame) (p : Place) (from : ℕ) (formal : Formal) : Type 0 where
  pub there : IsThere f formal.typ
  pub later : from < formal.next
  pub within : formal.next ≤ p.ordinal

-- a step goes on behind this ordinal of the first list
abbrev pub Progresses : (next : ℕ) → Compared → Type 0
Progresses next (Ended same) = Unit {0}
Progresses next (Next left right) = left ≡ next

-- a step goes on at later ordinals, and not behind the end
abbrev pub GoesLater : (left end : ℕ) → Compared → Type 0
GoesLater left end (Ended same) = Unit {0}
GoesLater left end (Next next_left next_right) = (left < next_left) × (next_left ≤ end)

-- whether two types of parameters are the same, by what they stand for
abbrev pub same_by : Scene → (left right : Place × RowMeaning) → Bool
same_by scene left right = same_kinds scene left.0 right.0 left.1 right.1

-- whether two lists of parameters are the same, by what one step says
abbrev pub compared : Scene → (x y : Place) → Compared → Bool
compared scene x y (Ended same) = same
compared scene x y (Next left right) =
    are_same_parameters scene (parameters_from scene x left) (parameters_from scene y right)

-- two procedure types have the same modes, types and result
abbrev pub same_forms : Scene → Form → Form → Bool
same_forms scene x y =
    are_same_parameters scene (parameters_from scene x.of x.first) (parameters_from scene y.of y.first)
    && is_same_result scene x.result y.result

-- no parameters
abbrev pub are_none : List Parameter → Bool
are_none [] = true
are_none (p ∷ ps) = false

-- a procedure type without parameters and result
abbrev pub is_bare : Scene → Form → Bool
is_bare scene x = are_none (parameters_from scene x.of x.first) && is_none x.result
