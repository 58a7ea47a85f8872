-- The length of code that is put together.
use Rattle.std.proofs.Common.{◌≡◌, ◌∙◌, ◌++◌, ◌∷◌, [], ℕ, ◌+◌, List, ap, sym, arith}
use Rattle.code_form.specs.Heights.{Step}
use Rattle.block_code.specs.Parts.{Part, Spot, steps_size, ◌⨟◌}

-- the length of code one after another
pub size_append : (xs ys : List Step) → steps_size (xs ++ ys) ≡ steps_size xs + steps_size ys
size_append [] ys = omega arith
size_append (x ∷ xs) ys = let e = size_append xs ys in omega (arith, e)

pub size_then : (p q : Part) (a b : ℕ) → ((at : Spot) → steps_size (p at).code ≡ a) → ((at : Spot) → steps_size (q at).code ≡ b) → (at : Spot) → steps_size ((p ⨟ q) at).code ≡ a + b
size_then p q a b h k at =
    let e = h at in
    let f = k (p at).next in
    let g = size_append (p at).code (q (p at).next).code in
    omega (arith, e, f, g)
