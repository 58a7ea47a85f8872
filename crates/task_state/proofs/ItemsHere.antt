-- The next item, among those that are listed.
use Rattle.std.specs.Prelude.{◌≡◌, false, is_some, Option, None, ℕ, zero, suc, ◌+◌, ◌-◌, ◌<◌, ◌≤◌, List, [], ◌∷◌, Some, length, map, slice_get}
use Rattle.std.proofs.Common.{ap, subst, arith}
use Rattle.std.proofs.lemmas.List.{length-map}
use Rattle.m2_base.specs.Statics.Items as items
use Rattle.decl_sem.specs.Items.{item_view}
use Rattle.decl_sem.specs.declared.items.Item.{Item}
use Rattle.task_state.proofs.Lists.{some_is, splits}

seen_at : (held : List Item) (n : ℕ) (x : Item) → slice_get held n ≡ Some x → slice_get (map item_view held) n ≡ Some (item_view x)
seen_at [] n x e = absurd (cc)
seen_at (y ∷ held) zero x e = ap (λ (z : Item). Some (item_view z)) (some_is y x e)
seen_at (y ∷ held) (suc n) x e = seen_at held n x e

pub item_here : (held listed : List Item) (xs : List items.Item) (n m : ℕ) (x : Item) → held ≡ listed → map item_view listed ≡ xs → n ≡ m → slice_get held n ≡ Some x → slice_get xs m ≡ Some (item_view x)
item_here held listed xs n m x same all number e =
    subst (λ (k : ℕ). slice_get xs k ≡ Some (item_view x)) number
    (subst (λ (ys : List items.Item). slice_get ys n ≡ Some (item_view x)) all
    (seen_at listed n x (subst (λ (hs : List Item). slice_get hs n ≡ Some x) same e)))

-- one less is left
pub fewer_left : (xs : List items.Item) (m k : ℕ) (x : items.Item) → slice_get xs m ≡ Some x → k ≡ m + 1 → length xs - k < length xs - m
fewer_left xs m k x here next = let s = splits xs m x here in let within = s.within in omega (arith, within, next)

-- none is left
pub all_there : (held listed : List Item) (xs : List items.Item) (n m : ℕ) → held ≡ listed → map item_view listed ≡ xs → n ≡ m → length held ≤ n → m ≤ length xs → m ≡ length xs
all_there held listed xs n m same all number past within =
    let a = ap length same in
    let b = ap length all in
    let l = length-map listed item_view in
    omega (arith, a, b, l, number, past, within)

-- what holds of nothing
pub where_none : {A : Type 0} (o : Option A) (P : Type 0) → o ≡ None → (is_some o ≡ false → P) → P
where_none o P none h = h (ap is_some none)
