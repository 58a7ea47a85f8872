-- How long parts are that are put together, by how long each of them is. A part of so many tokens has some of their bytes
-- left to spare, which what is put behind it takes.
use Rattle.std.specs.Prelude.{◌≡◌, ℕ, ◌+◌, ◌*◌, ◌≤◌, nat_le, true, List, ◌++◌, map}
use Rattle.std.proofs.Common.{arith}
use Rattle.std.proofs.lemmas.Bool.{leb-true}
use Rattle.code_form.specs.Bytes.{size}
use Rattle.code_form.specs.Heights.{Step}
use Rattle.code_form.specs.declared.instr.Instr.{Instr}
use Rattle.code_form.specs.declared.instr.Instr.TheVariants.{AndJump, OrJump}
use Rattle.block_code.proofs.Sizes.{size_append}
use Rattle.block_code.specs.Lengths.{IsShort}
use Rattle.block_code.specs.Parts.{Part, Spot, call, none, plain, plain_step, skip, steps_size, text, ◌⨟◌}

-- of the bytes of these tokens, so many are left
abbrev pub Spares : (spare tokens : ℕ) → Part → Type 0
Spares s n p = (at : Spot) → steps_size (p at).code + s ≤ 64 * n

-- ---- short parts

pub none-short : (k : ℕ) → IsShort k none
none-short k = λ at. omega arith

pub plain-short : (is : List Instr) (k : ℕ) → nat_le (steps_size (map plain_step is)) k ≡ true → IsShort k (plain is)
plain-short is k e = λ at. leb-true (steps_size (map plain_step is)) k e

pub text-short : (characters : List ℕ) → IsShort 5 (text characters)
text-short characters = λ at. omega arith

below : (m n k : ℕ) → m ≤ n → n ≤ k → m ≤ k
below m n k f g = omega (arith, f, g)

pub shorter : (p : Part) (m n : ℕ) → nat_le m n ≡ true → IsShort m p → IsShort n p
shorter p m n e f = λ at. below (steps_size (p at).code) m n (f at) (leb-true m n e)

-- ---- parts of so many tokens

spared : (x s t m n : ℕ) → t + 64 * m ≤ s + 64 * n → x + s ≤ 64 * m → x + t ≤ 64 * n
spared x s t m n e f = omega (arith, e, f)

-- more tokens, or less to spare
pub spares-less : (p : Part) (s t m n : ℕ) → t + 64 * m ≤ s + 64 * n → Spares s m p → Spares t n p
spares-less p s t m n e f = λ at. spared (steps_size (p at).code) s t m n e (f at)

within : (x k s n : ℕ) → k + s ≤ 64 → 1 ≤ n → x ≤ k → x + s ≤ 64 * n
within x k s n e l f = omega (arith, e, l, f)

-- a short part has what a token leaves
pub spares-short : (p : Part) (k s n : ℕ) → nat_le (k + s) 64 ≡ true → 1 ≤ n → IsShort k p → Spares s n p
spares-short p k s n e l f = λ at. within (steps_size (p at).code) k s n (leb-true (k + s) 64 e) l (f at)

two : (x y z s t m n : ℕ) → z ≡ x + y → x + s ≤ 64 * m → y + t ≤ 64 * n → z + (s + t) ≤ 64 * (m + n)
two x y z s t m n e f g = omega (arith, e, f, g)

pub spares-then : (p q : Part) (s t m n : ℕ) → Spares s m p → Spares t n q → Spares (s + t) (m + n) (p ⨟ q)
spares-then p q s t m n f g = λ at.
    let a : List Step = (p at).code in
    let b : List Step = (q (p at).next).code in
    two (steps_size a) (steps_size b) (steps_size (a ++ b)) s t m n (size_append a b) (f at) (g (p at).next)

behind_it : (x y z r k s n : ℕ) → s + k ≤ r → z ≡ x + y → x + r ≤ 64 * n → y ≤ k → z + s ≤ 64 * n
behind_it x y z r k s n e d f g = omega (arith, e, d, f, g)

-- a short part behind one that has so much to spare
pub spares-behind : (p q : Part) (r k s n : ℕ) → nat_le (s + k) r ≡ true → Spares r n p → IsShort k q → Spares s n (p ⨟ q)
spares-behind p q r k s n e f g = λ at.
    let a : List Step = (p at).code in
    let b : List Step = (q (p at).next).code in
    behind_it (steps_size a) (steps_size b) (steps_size (a ++ b)) r k s n (leb-true (s + k) r e) (size_append a b) (f at) (g (p at).next)

before_it : (x y z r k s n : ℕ) → s + k ≤ r → z ≡ x + y → x ≤ k → y + r ≤ 64 * n → z + s ≤ 64 * n
before_it x y z r k s n e d f g = omega (arith, e, d, f, g)

-- a short part before one that has so much to spare
pub spares-before : (p q : Part) (k r s n : ℕ) → nat_le (s + k) r ≡ true → IsShort k p → Spares r n q → Spares s n (p ⨟ q)
spares-before p q k r s n e f g = λ at.
    let a : List Step = (p at).code in
    let b : List Step = (q (p at).next).code in
    before_it (steps_size a) (steps_size b) (steps_size (a ++ b)) r k s n (leb-true (s + k) r e) (size_append a b) (f at) (g (p at).next)

added : (x y z m n : ℕ) → z ≡ x + y → x ≤ m → y ≤ n → z ≤ m + n
added x y z m n e f g = omega (arith, e, f, g)

pub short-then : (p q : Part) (m n : ℕ) → IsShort m p → IsShort n q → IsShort (m + n) (p ⨟ q)
short-then p q m n f g = λ at.
    let a : List Step = (p at).code in
    let b : List Step = (q (p at).next).code in
    added (steps_size a) (steps_size b) (steps_size (a ++ b)) m n (size_append a b) (f at) (g (p at).next)

alone : (x k : ℕ) → x ≤ k → x + 0 ≤ k
alone x k f = omega (arith, f)

pub call-short : (i : Instr) (takes leaves k : ℕ) → size i ≤ k → IsShort k (call i takes leaves)
call-short i takes leaves k f = λ at. alone (size i) k f

jumping : (x s n : ℕ) → x + (s + 5) ≤ 64 * n → 5 + x + s ≤ 64 * n
jumping x s n f = omega (arith, f)

pub skip_and-spares : (p : Part) (s n : ℕ) → Spares (s + 5) n p → Spares s n (skip AndJump p)
skip_and-spares p s n f = λ at. jumping (steps_size (p at).code) s n (f at)

pub skip_or-spares : (p : Part) (s n : ℕ) → Spares (s + 5) n p → Spares s n (skip OrJump p)
skip_or-spares p s n f = λ at. jumping (steps_size (p at).code) s n (f at)

loose : (x s m : ℕ) → x + s ≤ m → x ≤ m
loose x s m f = omega (arith, f)

-- what has something to spare is short
pub spares-all : (p : Part) (s n : ℕ) → Spares s n p → IsShort (64 * n) p
spares-all p s n f = λ at. loose (steps_size (p at).code) s (64 * n) (f at)
