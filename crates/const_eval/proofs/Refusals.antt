-- Two numbers of which one is refused.
use Rattle.std.proofs.Common.{◌≡◌, ◌∙◌, ℕ, Bool, true, false, [], ◌∷◌, Option, Some, None, Ok, Err, refl, sym, ap, if◌then◌else◌}
use Rattle.std.specs.Prelude.{◌&&◌, ◌||◌, unwrap_or}
use Rattle.m2_base.specs.Diagnostics.{code_of}
use Rattle.m2_base.specs.Gives.{Gives, and_then, gives}
use Rattle.m2_base.specs.Rows.{is_same_place}
use Rattle.m2_base.specs.declared.rows.Place.{Place}
use Rattle.m2_base.specs.Standard.{boolean, whole}
use Rattle.m2_base.specs.Statics.Compatible.{is_compatible, is_integer_or_cardinal, is_number_type, taken_beside}
use Rattle.m2_base.specs.Statics.Contexts.{Context, refuse}
use Rattle.m2_base.specs.Statics.Diagnostics.{out_of_range}
use Rattle.m2_base.specs.Statics.Folding.{is_arithmetic, is_relation, number_kind, number_type}
use Rattle.m2_base.specs.Statics.Operands.{constant_of_operand, is_bad}
use Rattle.m2_base.specs.Statics.Operations.{are_sets_alike, as_number, base_type, gives_result, number_operation, on_alike, on_compatible, on_numbers, on_scalars, result_of, set_operation, wrong}
use Rattle.m2_base.specs.Statics.Ranges.{is_within}
use Rattle.m2_base.specs.Statics.Types.{base_of, range_of}
use Rattle.m2_base.specs.declared.trees.operators.Operator.{Operator}
use Rattle.m2_base.specs.declared.notes.Diag.{Diag}
use Rattle.m2_base.specs.declared.operands.FoldKind.{FoldKind}
use Rattle.m2_base.specs.declared.operands.Operand.{Operand}
use Rattle.m2_base.specs.declared.operands.Operand.TheVariants.{Constant, InError}
use Rattle.m2_base.proofs.TypeLaws.{same_place-is}
use Rattle.const_eval.specs.Judgements.{judged}
use Rattle.const_eval.specs.declared.faults.Fault.{Fault}

result_bad : (c : Context) (at : ℕ) (k : FoldKind) (op : Operator) (t : Place) (x y : Operand) → is_bad x || is_bad y ≡ true → gives_result c at k op t x y ≡ gives InError
result_bad c at k op t x y bad = ap (λ b. if b then gives InError else result_of c at k op t (constant_of_operand x) (constant_of_operand y)) bad

operation_bad : (c : Context) (op : Operator) (at : ℕ) (x y : Operand) → is_arithmetic op || is_relation op ≡ true → is_bad x || is_bad y ≡ true → number_operation c op at x y ≡ gives InError
operation_bad c op at x y number bad = go (is_arithmetic op) (is_relation op) number
  where
    k : FoldKind
    k = number_kind (base_type c x)

    go : (a r : Bool) → a || r ≡ true → (if a then gives_result c at k op (number_type k) x y else if r then gives_result c at k op boolean x y else wrong c at) ≡ gives InError
    go true r h = result_bad c at k op (number_type k) x y bad
    go false true h = result_bad c at k op boolean x y bad
    go false false h = absurd (cc)

pub or_true : (b : Bool) → b || true ≡ true
or_true true = refl
or_true false = refl

pub and_false : (b : Bool) → b && false ≡ false
and_false true = refl
and_false false = refl

-- beside a whole constant no operand changes
as_number_whole : (c : Context) (at : ℕ) (y : Operand) → as_number c at whole y ≡ gives y
as_number_whole c at (Constant u v) =
    ap (λ b. if b then (if is_within (range_of c.scene whole) v then gives (Constant whole v) else refuse c at out_of_range InError) else gives (Constant u v)) (and_false (is_same_place u whole))
as_number_whole c at y = refl

no_diag : (d : Diag) → d ∷ [] ≡ [] → ⊥
no_diag d e = absurd (cc)

-- what is refused isn't given
never : (c : Context) (f : Fault) (v : Operand) → judged c (Err f) ≡ gives v → ⊥
never c f v e = no_diag (record { text = c.scene.block.text; at = f.at; code = code_of f.kind }) (ap (λ (g : Gives Operand). g.diags) e)

-- only a whole constant is refused
refused_type : (c : Context) (at : ℕ) (t : Place) (x : Operand) (f : Fault) → judged c (Err f) ≡ as_number c at t x → base_of c.scene whole ≡ whole → base_type c x ≡ whole
refused_type c at t (Constant u v) f e w = go (is_same_place u whole) refl e
  where
    go : (b : Bool) → is_same_place u whole ≡ b → judged c (Err f) ≡ (if b && is_integer_or_cardinal t then (if is_within (range_of c.scene t) v then gives (Constant t v) else refuse c at out_of_range InError) else gives (Constant u v)) → base_of c.scene u ≡ whole
    go true same h = ap (base_of c.scene) (same_place-is u whole same) ∙ w
    go false same h = absurd (never c f (Constant u v) h)
refused_type c at t x f e w = absurd (never c f x e)

-- the left operand is refused
pub refused_left : (c : Context) (op : Operator) (at : ℕ) (x : Operand) (x_at : ℕ) (y : Operand) (y_at : ℕ) (f : Fault) → base_of c.scene whole ≡ whole → is_arithmetic op || is_relation op ≡ true
    → judged c (Err f) ≡ as_number c x_at (base_type c y) x → judged c (Err f) ≡ on_numbers c op at x x_at y y_at
refused_left c op at x x_at y y_at f w number e =
    let none : as_number c y_at (base_type c x) y ≡ gives y = ap (λ t. as_number c y_at t y) (refused_type c x_at (base_type c y) x f e w) ∙ as_number_whole c y_at y in
    sym (ap (λ b. if b then and_then (as_number c x_at (base_type c y) x) (λ x'. and_then (as_number c y_at (base_type c x) y) (λ y'. number_operation c op at x' y')) else wrong c at) number
    ∙ ap (λ (g : Gives Operand). and_then g (λ x'. and_then (as_number c y_at (base_type c x) y) (λ y'. number_operation c op at x' y'))) (sym e)
    ∙ ap (λ (g : Gives Operand). and_then (judged c (Err f)) (λ x'. and_then g (λ y'. number_operation c op at x' y'))) none
    ∙ ap (λ (g : Gives Operand). and_then (judged c (Err f)) (λ x'. and_then (gives y) (λ y'. g))) (operation_bad c op at InError y number refl))

-- the left operand may stand, and what comes then
pub stands_left : (c : Context) (op : Operator) (at : ℕ) (x kept : Operand) (x_at : ℕ) (y : Operand) (y_at : ℕ) → is_arithmetic op || is_relation op ≡ true
    → judged c (Ok kept) ≡ as_number c x_at (base_type c y) x → and_then (as_number c y_at (base_type c x) y) (λ y'. number_operation c op at kept y') ≡ on_numbers c op at x x_at y y_at
stands_left c op at x kept x_at y y_at number e =
    sym (ap (λ b. if b then and_then (as_number c x_at (base_type c y) x) (λ x'. and_then (as_number c y_at (base_type c x) y) (λ y'. number_operation c op at x' y')) else wrong c at) number
    ∙ ap (λ (g : Gives Operand). and_then g (λ x'. and_then (as_number c y_at (base_type c x) y) (λ y'. number_operation c op at x' y'))) (sym e))

-- two compatible operands, by their bases
pub by_bases : (c : Context) (op : Operator) (at : ℕ) (x : Operand) (x_at : ℕ) (y : Operand) (y_at : ℕ) (l r : Place) (b : Bool) → l ≡ base_type c x → r ≡ base_type c y → (is_number_type l && is_number_type r) ≡ b
    → (if b then on_numbers c op at x x_at y y_at else on_scalars c op at x y) ≡ on_compatible c op at x x_at y y_at
by_bases c op at x x_at y y_at l r b left right is =
    ap (λ t. if t then on_numbers c op at x x_at y y_at else on_scalars c op at x y)
    (sym is ∙ ap (λ t. is_number_type t && is_number_type r) left ∙ ap (λ t. is_number_type (base_type c x) && is_number_type t) right)

pub some_of : {T : Type 0} (b : Bool) (p q : T) → Some p ≡ (if b then Some q else None) → (b ≡ true) × (p ≡ q)
some_of true p q e = (refl, ap (λ o. unwrap_or o p) e)
some_of false p q e = absurd (cc)

pub none_of : {T : Type 0} (b : Bool) (q : T) → (let n : Option T = None in n) ≡ (if b then Some q else None) → b ≡ false
none_of true q e = absurd (cc)
none_of false q e = refl

module _ (c : Context) (op : Operator) (at : ℕ) (x : Operand) (x_at : ℕ) (y : Operand) (y_at : ℕ) where
  -- two operands that are compatible, or else not
  abbrev pub values : Bool → Gives Operand
  values b = if b then on_compatible c op at (taken_beside c.source c.scene x y) x_at (taken_beside c.source c.scene y x) y_at else wrong c at

  -- two that are compatible, as they are taken beside each other
  pub values_at : (u : Operand) (u_at : ℕ) (v : Operand) (v_at : ℕ) → u ≡ taken_beside c.source c.scene x y → u_at ≡ x_at → v ≡ taken_beside c.source c.scene y x → v_at ≡ y_at → is_compatible c.scene x y ≡ true
      → on_compatible c op at u u_at v v_at ≡ values (is_compatible c.scene x y)
  values_at u u_at v v_at left left_at right right_at holds =
      ap (λ o. on_compatible c op at o u_at v v_at) left
      ∙ ap (λ n. on_compatible c op at (taken_beside c.source c.scene x y) n v v_at) left_at
      ∙ ap (λ o. on_compatible c op at (taken_beside c.source c.scene x y) x_at o v_at) right
      ∙ ap (λ n. on_compatible c op at (taken_beside c.source c.scene x y) x_at (taken_beside c.source c.scene y x) n) right_at
      ∙ sym (ap values holds)

  pub alike_by : (b : Bool) → b ≡ are_sets_alike c x y → (if b then set_operation c op at x y else values (is_compatible c.scene x y)) ≡ on_alike c op at x x_at y y_at
  alike_by b e = ap (λ t. if t then set_operation c op at x y else values (is_compatible c.scene x y)) e

-- the left operand may stand, and the right one is refused
pub refused_right : (c : Context) (op : Operator) (at : ℕ) (x kept : Operand) (x_at : ℕ) (y : Operand) (y_at : ℕ) (f : Fault) → is_arithmetic op || is_relation op ≡ true
    → judged c (Ok kept) ≡ as_number c x_at (base_type c y) x → judged c (Err f) ≡ as_number c y_at (base_type c x) y → judged c (Err f) ≡ on_numbers c op at x x_at y y_at
refused_right c op at x kept x_at y y_at f number e h =
    sym (ap (λ (g : Gives Operand). and_then (judged c (Err f)) (λ y'. g)) (operation_bad c op at kept InError number (or_true (is_bad kept))))
    ∙ ap (λ (g : Gives Operand). and_then g (λ y'. number_operation c op at kept y')) h
    ∙ stands_left c op at x kept x_at y y_at number e
