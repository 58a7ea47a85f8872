-- When two procedure types are of the same form: the same modes, types and result.
use Rattle.std.specs.Prelude.{Bool, List, None, Option, Some, [], false, not, true, ◌∷◌, ◌&&◌, ◌||◌}
use Rattle.m2_base.specs.Rows.{OpenArray, Place, RowMeaning}
use Rattle.m2_base.specs.Statics.Contexts.{Scene}
use Rattle.m2_base.specs.Statics.TypeParts.{Parameter, parameters, result_of_type}
use Rattle.m2_base.specs.Statics.Types.{is_broken, is_same, kind_of}

-- two types are the same, where a part in error counts as the same
abbrev pub is_same_part : Scene → Place → Place → Bool
is_same_part scene t u = is_broken scene t || is_broken scene u || is_same scene t u

-- two types of parameters by their kinds: open arrays are the same where their element types are
abbrev pub is_same_by : Scene → (t u : Place) → RowMeaning → RowMeaning → Bool
is_same_by scene t u (OpenArray a) (OpenArray b) = is_same_part scene a b
is_same_by scene t u (OpenArray a) other = is_broken scene u
is_same_by scene t u other (OpenArray b) = is_broken scene t
is_same_by scene t u other another = is_same_part scene t u

-- two types of parameters are the same
abbrev pub is_same_parameter_type : Scene → Place → Place → Bool
is_same_parameter_type scene t u = is_same_by scene t u (kind_of scene t) (kind_of scene u)

-- two parameters are both VAR parameters, or neither is
abbrev pub is_same_mode : Bool → Bool → Bool
is_same_mode true v = v
is_same_mode false v = not v

-- as many parameters, with the same modes and types
abbrev pub are_same_parameters : Scene → List Parameter → List Parameter → Bool
are_same_parameters scene [] [] = true
are_same_parameters scene (p ∷ ps) (q ∷ qs) =
    is_same_mode p.by_ref q.by_ref && is_same_parameter_type scene p.typ q.typ && are_same_parameters scene ps qs
are_same_parameters scene ps qs = false

-- the same result, or none in both
abbrev pub is_same_result : Scene → Option Place → Option Place → Bool
is_same_result scene None None = true
is_same_result scene (Some t) (Some u) = is_same_part scene t u
is_same_result scene r q = false

-- two procedure types have the same modes, types and result
abbrev pub is_same_form : Scene → Place → Place → Bool
is_same_form scene t u =
    are_same_parameters scene (parameters scene t) (parameters scene u)
    && is_same_result scene (result_of_type scene t) (result_of_type scene u)
