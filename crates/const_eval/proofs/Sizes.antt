-- Parts of trees are smaller than the whole.
use Rattle.std.proofs.Common.{◌≡◌, ℕ, ◌<◌, ◌≤◌, List, Option, Some, arith, length, sym, subst}
use Rattle.std.specs.Prelude.{get_or}
use Rattle.std.specs.declared.alloc.Global.{Global}
use Rattle.std.specs.declared.boxed.Box.{Box}
use Rattle.std.specs.declared.vec.Vec.{Vec}
use Rattle.m2_base.specs.declared.trees.operators.Operator.{Operator}
use Rattle.m2_base.specs.declared.trees.expressions.Designator.{Designator, size-Designator, size_is-Designator}
use Rattle.m2_base.specs.declared.trees.expressions.Expr.{Expr, size-Expr, size_is-Expr}
use Rattle.m2_base.specs.declared.trees.expressions.ExprForm.{size-ExprForm}
use Rattle.m2_base.specs.declared.trees.expressions.ExprForm.TheVariants.{Call, Many, Name, One, Set}
use Rattle.m2_base.specs.declared.trees.expressions.ExprForm.TheViews.{sized-Call, sized-Index, sized-Many, sized-Name, sized-One, sized-Set}
use Rattle.m2_base.specs.declared.trees.expressions.Label.{Label, out-Label, size-Label, size_is-Label}
use Rattle.m2_base.specs.declared.trees.expressions.Next.{Next, size-Next, size_is-Next}
use Rattle.m2_base.specs.declared.trees.expressions.Selector.{Selector, size-Selector}
use Rattle.m2_base.specs.declared.trees.expressions.Selector.TheVariants.{Index}
use denote.Param.Weighed.{at_most, most}

-- an item of a list
pub item_small : {X : Type 0} (size : X → ℕ) (xs : List X) (k : ℕ) (x : X) → k < length xs → x ≡ get_or xs k x → size x ≤ most size xs
item_small size xs k x h e = subst (λ u. size u ≤ most size xs) (sym e) (at_most size xs k x h)

pub next_smaller : (n : Next) → size-Expr n.right < size-Next n
next_smaller n = grind (arith, size_is-Next)

pub form_smaller : (e : Expr) → size-ExprForm e.form < size-Expr e
form_smaller e = grind (arith, size_is-Expr)

pub low_smaller : (l : Label) → size-Expr (out-Label l).low < size-Label l
low_smaller l = grind (arith, size_is-Label)

pub high_smaller : (l : Label) (h : Expr) → (out-Label l).high ≡ Some h → size-Expr h < size-Label l
high_smaller l h e = grind (arith, size_is-Label)

pub rest_smaller : (d : Designator) → most size-Selector d.rest.items < size-Designator d
rest_smaller d = grind (arith, size_is-Designator)

pub index_smaller : (s : Selector) (es : Vec Expr Global) (at : ℕ) → s ≡ Index es at → most size-Expr es.items < size-Selector s
index_smaller s es at e = grind (arith, sized-Index)

pub name_smaller : (e : Expr) (d : Designator) → e.form ≡ Name d → size-Designator d < size-Expr e
name_smaller e d same = grind (arith, size_is-Expr, sized-Name)

pub set_smaller : (e : Expr) (of : Option Designator) (items : Vec Label Global) → e.form ≡ Set of items → most size-Label items.items < size-Expr e
set_smaller e of items same = grind (arith, size_is-Expr, sized-Set)

pub set_type_smaller : (e : Expr) (of : Option Designator) (items : Vec Label Global) (d : Designator) → e.form ≡ Set of items → of ≡ Some d → size-Designator d < size-Expr e
set_type_smaller e of items d same some = grind (arith, size_is-Expr, sized-Set)

pub called_smaller : (e : Expr) (d : Designator) (es : Vec Expr Global) → e.form ≡ Call d es → size-Designator d < size-Expr e
called_smaller e d es same = grind (arith, size_is-Expr, sized-Call)

pub arguments_smaller : (e : Expr) (d : Designator) (es : Vec Expr Global) → e.form ≡ Call d es → most size-Expr es.items < size-Expr e
arguments_smaller e d es same = grind (arith, size_is-Expr, sized-Call)

pub one_smaller : (e : Expr) (op : Operator) (at : ℕ) (of : Box Expr Global) → e.form ≡ One op at of → size-Expr of.value < size-Expr e
one_smaller e op at of same = grind (arith, size_is-Expr, sized-One)

pub first_smaller : (e : Expr) (first : Box Expr Global) (rest : Vec Next Global) → e.form ≡ Many first rest → size-Expr first.value < size-Expr e
first_smaller e first rest same = grind (arith, size_is-Expr, sized-Many)

pub nexts_smaller : (e : Expr) (first : Box Expr Global) (rest : Vec Next Global) → e.form ≡ Many first rest → most size-Next rest.items < size-Expr e
nexts_smaller e first rest same = grind (arith, size_is-Expr, sized-Many)
