-- Two types: sets of one row, and types that have ranges.
use Rattle.std.proofs.Common.{◌≡◌, ◌∙◌, ℤ, Option, Some, None, refl, ap}
use Rattle.std.specs.Prelude.{◌&&◌, is_some, option_map}
use Rattle.m2_base.specs.Rows.{is_same_place}
use Rattle.m2_base.specs.Statics.Contexts.{Context}
use Rattle.m2_base.specs.Statics.Operands.{operand_type}
use Rattle.m2_base.specs.Statics.Operations.{are_sets_alike, is_set_kind}
use Rattle.m2_base.specs.Statics.Ranges.{range}
use Rattle.m2_base.specs.Statics.Types.{kind_of, stands_for}
use Rattle.m2_base.specs.declared.operands.Operand.{Operand}
use Rattle.m2_base.specs.declared.rows.Place.{Place}
use Rattle.m2_base.specs.declared.rows.RowMeaning.{RowMeaning}

-- two operands, by what their types stand for and what the rows say
pub alike_types : (c : Context) (x y : Operand) (p q : Place) (m n : RowMeaning) → p ≡ stands_for c.scene (operand_type x) → m ≡ kind_of c.scene (operand_type x)
    → q ≡ stands_for c.scene (operand_type y) → n ≡ kind_of c.scene (operand_type y) → (is_set_kind m && is_set_kind n && is_same_place p q) ≡ are_sets_alike c x y
alike_types c x y p q m n left left_kind right right_kind =
    ap (λ k. is_set_kind k && is_set_kind n && is_same_place p q) left_kind
    ∙ ap (λ k. is_set_kind (kind_of c.scene (operand_type x)) && is_set_kind k && is_same_place p q) right_kind
    ∙ ap (λ t. is_set_kind (kind_of c.scene (operand_type x)) && is_set_kind (kind_of c.scene (operand_type y)) && is_same_place t q) left
    ∙ ap (λ t. is_set_kind (kind_of c.scene (operand_type x)) && is_set_kind (kind_of c.scene (operand_type y)) && is_same_place (stands_for c.scene (operand_type x)) t) right

-- by what a type stands for and what its row says
pub by_row : {T : Type 0} (f : Place → RowMeaning → T) {p q : Place} {m n : RowMeaning} → p ≡ q → m ≡ n → f p m ≡ f q n
by_row f {p} {q} {m} {n} place kind = ap (λ (t : Place). f t m) place ∙ ap (f q) kind

pub ends_some : (o : Option (ℤ × ℤ)) → is_some o ≡ is_some (option_map (λ (e : ℤ × ℤ). range e.0 e.1) o)
ends_some None = refl
ends_some (Some e) = refl
