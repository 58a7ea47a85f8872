-- What holds of each step of the parts of a flow, and of each jump, holds of each step of the flow.
use Rattle.std.specs.Prelude.{ℕ, ◌+◌, ℤ, pos, List, [], ◌∷◌, ◌++◌}
use Rattle.code_form.specs.Heights.{Step}
use Rattle.code_form.specs.declared.instr.Instr.TheVariants.{Jump, JumpFalse}
use Rattle.block_code.specs.Parts.{Part, Spot, plain_step, steps_size}
use Rattle.m2_base.specs.Statics.Cells.{capped}
use Rattle.block_code.specs.Flows.{Flow, back, choose, counted, exit, for_ever, in_with, jump_size, nothing, straight, until_true, when, while_true, with_cell, ◌⨾◌}

abbrev pub Each : (Step → Type 0) → List Step → Type 0
Each q [] = Unit {0}
Each q (s ∷ ss) = q s × Each q ss

-- it holds of each step of the part, and of the flow
abbrev pub EachIn : (Step → Type 0) → Part → Type 0
EachIn q p = (at : Spot) → Each q (p at).code

abbrev pub EachOf : (Step → Type 0) → Flow → Type 0
EachOf q f = (at : Spot) (o : ℕ) → Each q ((f at).code o)

-- it holds of the jumps of statements
pub record OfJumps (q : Step → Type 0) : Type 0 where
  pub always : (j : ℤ) → q (plain_step (Jump j))
  pub unless : (j : ℤ) → q (plain_step (JumpFalse j))

pub each-append : (q : Step → Type 0) (a b : List Step) → Each q a → Each q b → Each q (a ++ b)
each-append q [] b f g = g
each-append q (s ∷ ss) b f g = (f.0, each-append q ss b f.1 g)

pub nothing-each : (q : Step → Type 0) → EachOf q nothing
nothing-each q = λ at o. tt

pub exit-each : (q : Step → Type 0) → OfJumps q → EachOf q exit
exit-each q j = λ at o. (j.always (pos o), tt)

pub straight-each : (q : Step → Type 0) (p : Part) → EachIn q p → EachOf q (straight p)
straight-each q p f = λ at o. f at

pub then-each : (q : Step → Type 0) (a b : Flow) → EachOf q a → EachOf q b → EachOf q (a ⨾ b)
then-each q a b f g = λ at o.
    let d : List Step = (b (a at).next).code o in
    each-append q ((a at).code (o + steps_size d)) d (f at (o + steps_size d)) (g (a at).next o)

pub with_cell-each : (q : Step → Type 0) (f : ℕ → Flow) → ((t : ℕ) → EachOf q (f t)) → EachOf q (with_cell f)
with_cell-each q f g = λ at o. g at.cell (record at { cell = capped (at.cell + 1) }) o

pub in_with-each : (q : Step → Type 0) (t : ℕ) (f : Flow) → EachOf q f → EachOf q (in_with t f)
in_with-each q t f g = λ at o. g (record at { withs = t ∷ at.withs }) o

pub when-each : (q : Step → Type 0) → OfJumps q → (t : Part) (f : Flow) → EachIn q t → EachOf q f → EachOf q (when t f)
when-each q j t f g h = λ at o.
    let inner : List Step = (f (t at).next).code o in
    each-append q (t at).code (plain_step (JumpFalse (pos (steps_size inner))) ∷ inner) (g at) (j.unless (pos (steps_size inner)), h (t at).next o)

pub choose-each : (q : Step → Type 0) → OfJumps q → (t : Part) (f other : Flow) → EachIn q t → EachOf q f → EachOf q other → EachOf q (choose t f other)
choose-each q j t f other g h k = λ at o.
    let s1 : Spot = (t at).next in
    let behind : List Step = (other (f s1).next).code o in
    let n : ℕ = o + steps_size behind + jump_size in
    let inner : List Step = (f s1).code n in
    let last : List Step = plain_step (Jump (pos (steps_size behind))) ∷ behind in
    each-append q (t at).code (plain_step (JumpFalse (pos (steps_size inner + jump_size))) ∷ (inner ++ last)) (g at)
    (j.unless (pos (steps_size inner + jump_size)), each-append q inner last (h s1 n) (j.always (pos (steps_size behind)), k (f s1).next o))

pub while-each : (q : Step → Type 0) → OfJumps q → (t : Part) (f : Flow) → EachIn q t → EachOf q f → EachOf q (while_true t f)
while-each q j t f g h = λ at o.
    let s1 : Spot = (t at).next in
    let inner : List Step = (f s1).code (o + jump_size) in
    let last : List Step = back Jump (steps_size (t at).code + jump_size + steps_size inner) ∷ [] in
    each-append q (t at).code (plain_step (JumpFalse (pos (steps_size inner + jump_size))) ∷ (inner ++ last)) (g at)
    (j.unless (pos (steps_size inner + jump_size)), each-append q inner last (h s1 (o + jump_size)) (j.always _, tt))

pub until-each : (q : Step → Type 0) → OfJumps q → (f : Flow) (t : Part) → EachOf q f → EachIn q t → EachOf q (until_true f t)
until-each q j f t h g = λ at o.
    let test : List Step = (t (f at).next).code in
    let n : ℕ = o + steps_size test + jump_size in
    let last : List Step = back JumpFalse (steps_size ((f at).code n) + steps_size test) ∷ [] in
    each-append q ((f at).code n) (test ++ last) (h at n) (each-append q test last (g (f at).next) (j.unless _, tt))

pub for_ever-each : (q : Step → Type 0) → OfJumps q → (f : Flow) → EachOf q f → EachOf q (for_ever f)
for_ever-each q j f h = λ at o.
    each-append q ((f at).code jump_size) (back Jump (steps_size ((f at).code jump_size)) ∷ []) (h at jump_size) (j.always _, tt)

pub counted-each : (q : Step → Type 0) → OfJumps q → (first : Part) (f : Flow) (again step : Part) → EachIn q first → EachOf q f → EachIn q again → EachIn q step
    → EachOf q (counted first f again step)
counted-each q j first f again step g h g' g'' = λ at o.
    let s1 : Spot = (first at).next in
    let s2 : Spot = (f s1).next in
    let s3 : Spot = (again s2).next in
    let a : List Step = (again s2).code in
    let s : List Step = (step s3).code in
    let behind : ℕ = steps_size a + jump_size + steps_size s + jump_size in
    let inner : List Step = (f s1).code (o + behind) in
    let last : List Step = back Jump (steps_size inner + steps_size a + jump_size + steps_size s) ∷ [] in
    let third : List Step = plain_step (JumpFalse (pos (steps_size s + jump_size))) ∷ (s ++ last) in
    each-append q (first at).code (plain_step (JumpFalse (pos (steps_size inner + behind))) ∷ (inner ++ (a ++ third))) (g at) (
      j.unless (pos (steps_size inner + behind)),
      each-append q inner (a ++ third) (h s1 (o + behind))
          (each-append q a third (g' s2) (j.unless (pos (steps_size s + jump_size)), each-append q s last (g'' s3) (j.always _, tt))),
    )
