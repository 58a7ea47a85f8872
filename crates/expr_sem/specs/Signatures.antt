-- The parameters and the result of a procedure type, as the definitions see them.
use Rattle.std.specs.Prelude.{◌≡◌, map}
use Rattle.std.specs.Option.{IfSome}
use Rattle.m2_base.specs.Lists.{Each}
use Rattle.m2_base.specs.States.{Frame}
use Rattle.m2_base.specs.Statics.Contexts.{Scene}
use Rattle.m2_base.specs.Statics.TypeParts.{parameters, result_of_type}
use Rattle.m2_base.specs.declared.rows.Place.{Place}
use Rattle.type_rules.specs.Forms.{parameters_from}
use Rattle.type_rules.specs.Scenes.{IsThere}
use Rattle.type_rules.specs.declared.forms.Form.{Form}
use Rattle.expr_sem.specs.ArgumentCodes.{parameter_view}
use Rattle.expr_sem.specs.declared.signatures.Signature.{Signature}

-- its types can be asked for
pub record IsSignature (f : Frame) (s : Signature) : Type 0 where
  pub params : Each (λ p. IsThere f p.of) s.params.items
  pub result : IfSome s.result (IsThere f)

-- it is that of a procedure type of this form
pub record IsSignatureBy (scene : Scene) (form : Form) (s : Signature) : Type 0 where
  pub params : map parameter_view s.params.items ≡ parameters_from scene form.of form.first
  pub result : s.result ≡ form.result

-- it is that of this type
pub record IsSignatureOf (scene : Scene) (t : Place) (s : Signature) : Type 0 where
  pub params : map parameter_view s.params.items ≡ parameters scene t
  pub result : s.result ≡ result_of_type scene t
