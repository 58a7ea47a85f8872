-- Arguments that are types, and what is refused there.
use Rattle.std.proofs.Common.{◌≡◌, ◌∙◌, ℕ, ℤ, Bool, true, false, Err, refl, sym, ap, if◌then◌else◌}
use Rattle.std.specs.Prelude.{◌&&◌, Option, is_none, not}
use Rattle.m2_base.specs.Diagnostics.{code_of}
use Rattle.m2_base.specs.Finished.{IsFinished}
use Rattle.m2_base.specs.Gives.{Gives, and_then, gives}
use Rattle.m2_base.specs.Rows.{is_same_place}
use Rattle.m2_base.specs.Standard.{broken}
use Rattle.m2_base.specs.States.{Frame}
use Rattle.m2_base.specs.Statics.Contexts.{Context, refuse}
use Rattle.m2_base.specs.Statics.Diagnostics.{not_a_type, wrong_argument}
use Rattle.m2_base.specs.Statics.Functions.{converted, end_value, ordinal_type, type_argument, val_as}
use Rattle.m2_base.specs.Statics.Ranges.{Range}
use Rattle.m2_base.specs.Statics.Types.{is_broken, range_of}
use Rattle.m2_base.specs.declared.operands.Operand.{Operand}
use Rattle.m2_base.specs.declared.operands.Operand.TheVariants.{InError, NamedType}
use Rattle.m2_base.specs.declared.rows.Place.{Place}
use Rattle.m2_base.specs.declared.sites.Site.{Site}
use Rattle.type_rules.specs.Scenes.{Hand}
use Rattle.type_rules.specs.Sites.{SuitsSite, context_of}
use Rattle.const_eval.specs.Judgements.{judged, judged_or}
use Rattle.const_eval.specs.declared.faults.Fault.{Fault}
use Rattle.const_eval.proofs.Standard.{broken_range, broken_stands}

-- a value of what is in error is in error
val_as_bad : (c : Context) (at : ℕ) (t : Place) → val_as c at t InError ≡ gives InError
val_as_bad c at t = go (is_broken c.scene t)
  where
    go : (b : Bool) → (if b then gives InError else converted c at t InError) ≡ gives InError
    go true = refl
    go false = refl

pub val_refused : (c : Context) (f : Fault) (at : ℕ) (t : Place) → judged c (Err f) ≡ and_then (judged c (Err f)) (λ v. val_as c at t v)
val_refused c f at t = ap (λ (g : Gives Operand). and_then (judged c (Err f)) (λ v. g)) (sym (val_as_bad c at t))

-- the type of parts in error passes for an ordinal one
pub broken_passes : (f : Frame) (made : Hand) (s : Site) → SuitsSite f s → IsFinished f.setting.texts made.finished → (at : ℕ) → ordinal_type (context_of f made s) at broken ≡ gives broken
broken_passes f made s suits told at =
    let c = context_of f made s in
    ap (λ (t : Place). if not (is_same_place t broken) && is_none (range_of c.scene broken) then refuse c at wrong_argument broken else gives broken)
    (broken_stands f made s.around.now suits.around told)

pub type_refused : (f : Frame) (made : Hand) (s : Site) → SuitsSite f s → IsFinished f.setting.texts made.finished → (fault : Fault) (at : ℕ)
    → judged_or (context_of f made s) broken (Err fault) ≡ and_then (judged_or (context_of f made s) broken (Err fault)) (ordinal_type (context_of f made s) at)
type_refused f made s suits told fault at =
    let c = context_of f made s in
    ap (λ (g : Gives Place). and_then (judged_or c broken (Err fault)) (λ v. g)) (sym (broken_passes f made s suits told at))

pub end_refused : (f : Frame) (made : Hand) (s : Site) → SuitsSite f s → IsFinished f.setting.texts made.finished → (fault : Fault) (end : Range → ℤ)
    → judged (context_of f made s) (Err fault) ≡ and_then (judged_or (context_of f made s) broken (Err fault)) (λ of. gives (end_value (context_of f made s) of end (range_of (context_of f made s).scene of)))
end_refused f made s suits told fault end =
    let c = context_of f made s in
    ap (λ r. refuse c fault.at (code_of fault.kind) (end_value c broken end r)) (sym (broken_range f made s.around.now suits.around told))

-- an end of a type's range, after the type
pub end_given : (c : Context) (of : Place) (end : Range → ℤ) (ends : Option Range) (first : Gives Place) → ends ≡ range_of c.scene of → gives of ≡ first
    → gives (end_value c of end ends) ≡ and_then first (λ t. gives (end_value c t end (range_of c.scene t)))
end_given c of end ends first e is =
    ap (λ r. gives (end_value c of end r)) e ∙ ap (λ (t : Gives Place). and_then t (λ t. gives (end_value c t end (range_of c.scene t)))) is

-- what is no type is refused
pub no_type : (c : Context) (at : ℕ) (x : Operand) → ((t : Place) → x ≡ NamedType t → ⊥) → (x ≡ InError → ⊥) → refuse c at not_a_type broken ≡ type_argument c at x
no_type c at (NamedType t) named in_error = absurd (named t refl)
no_type c at InError named in_error = absurd (in_error refl)
no_type c at x named in_error = refl
