-- What two operands choose as the bounds of a subrange.
use Rattle.std.specs.Prelude.{◌≡◌, ℕ, ℤ, [], ◌∷◌, ◌++◌, Option, None, Some, option_map, unwrap_or}
use Rattle.std.proofs.Common.{sym, ap, ◌∙◌, refl}
use Rattle.std.proofs.lemmas.List.{append-nil}
use Rattle.m2_base.specs.Noting.{IsRefused}
use Rattle.m2_base.specs.Gives.{Adds}
use Rattle.m2_base.specs.Statics.Contexts.{Context, refuse}
use Rattle.m2_base.specs.Statics.Operands.{constant_of_operand, operand_type}
use Rattle.m2_base.specs.Statics.Subranges.{common_type, of_common, of_values, subrange_base, within_base}
use Rattle.m2_base.specs.Statics.Types.{base_of, stands_for}
use Rattle.m2_base.specs.declared.notes.Notes.{Notes}
use Rattle.m2_base.specs.declared.operands.Operand.{Operand}
use Rattle.m2_base.specs.declared.rows.Place.{Place}
use Rattle.decl_sem.specs.Bounds.{IsEndOf, chosen}
use Rattle.decl_sem.specs.Making.{diag_in}
use Rattle.decl_sem.specs.declared.bounds.End.{End}
use Rattle.decl_sem.specs.declared.bounds.Choice.{Choice}

-- a diagnostic in the text of the context
pub refused_there : {T : Type 0} (y z : Notes) (c : Context) (text at code : ℕ) (v : T) → c.scene.block.text ≡ text → IsRefused y z text at code → z.answers.items ≡ y.answers.items → Adds y z (refuse c at code v) v
refused_there y z c text at code v same noted answers =
    record {
      value_is = refl;
      diags = noted ∙ ap (λ (t : ℕ). y.diags.items ++ diag_in t at code ∷ []) (sym same);
      answers = answers ∙ sym (append-nil y.answers.items);
    }

-- ** What two operands choose

-- a base that is named
pub base_named : (c : Context) (base : Option Place) (named : Place) (of : Place) (low : ℤ) (r : Option Place) → Some named ≡ option_map (stands_for c.scene) base
    → ((u : Place) → named ≡ stands_for c.scene u → r ≡ subrange_base c (Some u) of low) → r ≡ subrange_base c base of low
base_named c (Some u) named of low r e f = f u (ap (λ (o : Option Place). unwrap_or o named) e)
base_named c None named of low r e f = absurd (cc)

-- none that is named
pub base_unnamed : (c : Context) (base : Option Place) (of : Place) (low : ℤ) (r : Option Place) → None ≡ option_map (stands_for c.scene) base → r ≡ subrange_base c None of low → r ≡ subrange_base c base of low
base_unnamed c (Some u) of low r e h = absurd (cc)
base_unnamed c None of low r e h = h

-- two values of a common type
pub values_chosen : (c : Context) (base : Option Place) (x y : Operand) (low_at high_at : ℕ) (low high : End) (v w : ℤ) (of : Place) (r : Choice) → IsEndOf c x low → IsEndOf c y high
    → low.value ≡ Some v → high.value ≡ Some w → Some of ≡ common_type low.base high.base → chosen c low_at high_at r ≡ within_base c low_at high_at v w (subrange_base c base of v)
    → chosen c low_at high_at r ≡ of_values c base low_at high_at x y (constant_of_operand x) (constant_of_operand y)
values_chosen c base x y low_at high_at low high v w of r h k is_v is_w common e =
    e
    ∙ ap (of_common c base low_at high_at v w) (common ∙ ap (λ (t : Place). common_type t high.base) h.base ∙ ap (common_type (base_of c.scene (operand_type x))) k.base)
    ∙ ap (λ (o : Option ℤ). of_values c base low_at high_at x y o (Some w)) (sym is_v ∙ h.value)
    ∙ ap (of_values c base low_at high_at x y (constant_of_operand x)) (sym is_w ∙ k.value)
