-- How long flows are that are put together, by how long each of them is.
use Rattle.std.specs.Prelude.{◌≡◌, ℕ, ◌+◌, ◌*◌, ◌≤◌, pos, List, [], ◌∷◌, ◌++◌}
use Rattle.std.proofs.Common.{arith}
use Rattle.code_form.specs.Heights.{Step}
use Rattle.m2_base.specs.Statics.Cells.{capped}
use Rattle.code_form.specs.declared.instr.Instr.TheVariants.{Jump, JumpFalse}
use Rattle.block_code.proofs.Lengths.{Spares}
use Rattle.block_code.proofs.Sizes.{size_append}
use Rattle.block_code.specs.Lengths.{IsShort}
use Rattle.block_code.specs.Parts.{Part, Spot, plain_step, steps_size}
use Rattle.block_code.specs.Flows.{Flow, back, choose, counted, exit, for_ever, in_with, jump_size, nothing, straight, until_true, when, while_true, with_cell, ◌⨾◌}

-- of the bytes of these tokens, so many are left
abbrev pub FlowSpares : (spare tokens : ℕ) → Flow → Type 0
FlowSpares s n f = (at : Spot) (out : ℕ) → steps_size ((f at).code out) + s ≤ 64 * n

spared : (x s t m n : ℕ) → t + 64 * m ≤ s + 64 * n → x + s ≤ 64 * m → x + t ≤ 64 * n
spared x s t m n e f = omega (arith, e, f)

pub flow-less : (f : Flow) (s t m n : ℕ) → t + 64 * m ≤ s + 64 * n → FlowSpares s m f → FlowSpares t n f
flow-less f s t m n e g = λ at out. spared (steps_size ((f at).code out)) s t m n e (g at out)

pub straight-spares : (p : Part) (s n : ℕ) → Spares s n p → FlowSpares s n (straight p)
straight-spares p s n f = λ at out. f at

pub nothing-spares : (n : ℕ) → FlowSpares 0 n nothing
nothing-spares n = λ at out. omega arith

jump : (s n : ℕ) → 5 + s ≤ 64 * n → 5 + 0 + s ≤ 64 * n
jump s n f = omega (arith, f)

pub exit-spares : (s n : ℕ) → 5 + s ≤ 64 * n → FlowSpares s n exit
exit-spares s n f = λ at out. jump s n f

two : (x y z s t m n : ℕ) → z ≡ x + y → x + s ≤ 64 * m → y + t ≤ 64 * n → z + (s + t) ≤ 64 * (m + n)
two x y z s t m n e f g = omega (arith, e, f, g)

pub then-spares : (a b : Flow) (s t m n : ℕ) → FlowSpares s m a → FlowSpares t n b → FlowSpares (s + t) (m + n) (a ⨾ b)
then-spares a b s t m n f g = λ at out.
    let d : List Step = (b (a at).next).code out in
    let c : List Step = (a at).code (out + steps_size d) in
    two (steps_size c) (steps_size d) (steps_size (c ++ d)) s t m n (size_append c d) (f at (out + steps_size d)) (g (a at).next out)

pub with_cell-spares : (f : ℕ → Flow) (s n : ℕ) → ((t : ℕ) → FlowSpares s n (f t)) → FlowSpares s n (with_cell f)
with_cell-spares f s n g = λ at out. g at.cell (record at { cell = capped (at.cell + 1) }) out

pub in_with-spares : (t : ℕ) (f : Flow) (s n : ℕ) → FlowSpares s n f → FlowSpares s n (in_with t f)
in_with-spares t f s n g = λ at out. g (record at { withs = t ∷ at.withs }) out

tested : (x y z s m n : ℕ) → z ≡ x + (5 + y) → x + (s + 5) ≤ 64 * m → y + 0 ≤ 64 * n → z + s ≤ 64 * (m + n)
tested x y z s m n e f g = omega (arith, e, f, g)

pub when-spares : (test : Part) (body : Flow) (s m n : ℕ) → Spares (s + 5) m test → FlowSpares 0 n body → FlowSpares s (m + n) (when test body)
when-spares test body s m n f g = λ at out.
    let t : List Step = (test at).code in
    let inner : List Step = (body (test at).next).code out in
    let rest : List Step = plain_step (JumpFalse (pos (steps_size inner))) ∷ inner in
    tested (steps_size t) (steps_size inner) (steps_size (t ++ rest)) s m n (size_append t rest) (f at) (g (test at).next out)

chosen : (x y z u v s m n k : ℕ) → u ≡ x + (5 + v) → v ≡ y + (5 + z) → x + (s + 10) ≤ 64 * m → y + 0 ≤ 64 * n → z + 0 ≤ 64 * k
    → u + s ≤ 64 * (m + n + k)
chosen x y z u v s m n k d e f g h = omega (arith, d, e, f, g, h)

pub choose-spares : (test : Part) (body other : Flow) (s m n k : ℕ) → Spares (s + 10) m test → FlowSpares 0 n body → FlowSpares 0 k other
    → FlowSpares s (m + n + k) (choose test body other)
choose-spares test body other s m n k f g h = λ at out.
    let t : List Step = (test at).code in
    let behind : List Step = (other (body (test at).next).next).code out in
    let inner : List Step = (body (test at).next).code (out + steps_size behind + jump_size) in
    let last : List Step = plain_step (Jump (pos (steps_size behind))) ∷ behind in
    let rest : List Step = plain_step (JumpFalse (pos (steps_size inner + jump_size))) ∷ (inner ++ last) in
    chosen (steps_size t) (steps_size inner) (steps_size behind) (steps_size (t ++ rest)) (steps_size (inner ++ last)) s m n k
    (size_append t rest) (size_append inner last) (f at) (g (test at).next (out + steps_size behind + jump_size)) (h (body (test at).next).next out)

looped : (x y u v s m n : ℕ) → u ≡ x + (5 + v) → v ≡ y + (5 + 0) → x + (s + 10) ≤ 64 * m → y + 0 ≤ 64 * n → u + s ≤ 64 * (m + n)
looped x y u v s m n d e f g = omega (arith, d, e, f, g)

pub while-spares : (test : Part) (body : Flow) (s m n : ℕ) → Spares (s + 10) m test → FlowSpares 0 n body → FlowSpares s (m + n) (while_true test body)
while-spares test body s m n f g = λ at out.
    let t : List Step = (test at).code in
    let inner : List Step = (body (test at).next).code (out + jump_size) in
    let last : List Step = back Jump (steps_size t + jump_size + steps_size inner) ∷ [] in
    let rest : List Step = plain_step (JumpFalse (pos (steps_size inner + jump_size))) ∷ (inner ++ last) in
    looped (steps_size t) (steps_size inner) (steps_size (t ++ rest)) (steps_size (inner ++ last)) s m n
    (size_append t rest) (size_append inner last) (f at) (g (test at).next (out + jump_size))

until : (x y u v s m n : ℕ) → u ≡ x + v → v ≡ y + (5 + 0) → x + 0 ≤ 64 * m → y + (s + 5) ≤ 64 * n → u + s ≤ 64 * (m + n)
until x y u v s m n d e f g = omega (arith, d, e, f, g)

pub until-spares : (body : Flow) (test : Part) (s m n : ℕ) → FlowSpares 0 m body → Spares (s + 5) n test → FlowSpares s (m + n) (until_true body test)
until-spares body test s m n f g = λ at out.
    let t : List Step = (test (body at).next).code in
    let inner : List Step = (body at).code (out + steps_size t + jump_size) in
    let last : List Step = back JumpFalse (steps_size inner + steps_size t) ∷ [] in
    until (steps_size inner) (steps_size t) (steps_size (inner ++ (t ++ last))) (steps_size (t ++ last)) s m n
    (size_append inner (t ++ last)) (size_append t last) (f at (out + steps_size t + jump_size)) (g (body at).next)

ever : (x u n : ℕ) → u ≡ x + (5 + 0) → x + 0 ≤ 64 * n → u + 0 ≤ 64 * (2 + n)
ever x u n e f = omega (arith, e, f)

pub for_ever-spares : (body : Flow) (n : ℕ) → FlowSpares 0 n body → FlowSpares 0 (2 + n) (for_ever body)
for_ever-spares body n f = λ at out.
    let inner : List Step = (body at).code jump_size in
    let last : List Step = back Jump (steps_size inner) ∷ [] in
    ever (steps_size inner) (steps_size (inner ++ last)) n (size_append inner last) (f at jump_size)

counts : (x y z w u v q r n : ℕ) → u ≡ x + (5 + v) → v ≡ y + q → q ≡ z + (5 + r) → r ≡ w + (5 + 0) → x ≤ 52 → z ≤ 52 → w ≤ 52 → y + 0 ≤ 64 * n
    → u + 0 ≤ 64 * (n + 3)
counts x y z w u v q r n a b d e f g h i = omega (arith, a, b, d, e, f, g, h, i)

-- each of the parts round the body has at most 52 bytes
pub counted-spares : (first : Part) (body : Flow) (again step : Part) (n : ℕ) → IsShort 52 first → FlowSpares 0 n body → IsShort 52 again → IsShort 52 step
    → FlowSpares 0 (n + 3) (counted first body again step)
counted-spares first body again step n f g h i = λ at out.
    let t : List Step = (first at).code in
    let s1 : Spot = (first at).next in
    let s2 : Spot = (body s1).next in
    let a : List Step = (again s2).code in
    let s : List Step = (step (again s2).next).code in
    let behind : ℕ = steps_size a + jump_size + steps_size s + jump_size in
    let inner : List Step = (body s1).code (out + behind) in
    let last : List Step = back Jump (steps_size inner + steps_size a + jump_size + steps_size s) ∷ [] in
    let third : List Step = plain_step (JumpFalse (pos (steps_size s + jump_size))) ∷ (s ++ last) in
    let rest : List Step = plain_step (JumpFalse (pos (steps_size inner + behind))) ∷ (inner ++ (a ++ third)) in
    counts (steps_size t) (steps_size inner) (steps_size a) (steps_size s) (steps_size (t ++ rest)) (steps_size (inner ++ (a ++ third)))
    (steps_size (a ++ third)) (steps_size (s ++ last)) n (size_append t rest) (size_append inner (a ++ third)) (size_append a third) (size_append s last)
    (f at) (h s2) (i (again s2).next) (g s1 (out + behind))
