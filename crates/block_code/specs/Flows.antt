-- The code of statements. Beside where it stands, as a part of code, it is told how far behind it the place behind the
-- innermost LOOP is: there EXIT jumps. Jumps go by their distance, so nothing is patched.
use Rattle.std.specs.Prelude.{◌≡◌, ℕ, ◌+◌, ℤ, pos, negsuc, List, [], ◌∷◌, ◌++◌}
use Rattle.m2_base.specs.Statics.Cells.{capped}
use Rattle.code_form.specs.declared.instr.Instr.{Instr}
use Rattle.code_form.specs.declared.instr.Instr.TheVariants.{Jump, JumpFalse}
use Rattle.code_form.specs.Heights.{Step}
use Rattle.block_code.specs.Parts.{Part, Spot, none, plain_step, steps_size}

-- What statements make: their code, once it is told how many bytes stand between its end and the place behind the
-- innermost LOOP; their bytes of the data; and where the next part begins.
pub record Run : Type 0 where
  pub code : (out : ℕ) → List Step
  pub bytes : List ℕ
  pub next : Spot

-- the code of a statement or of statements, as a function of where it stands
abbrev pub Flow : Type 0
Flow = Spot → Run

-- as a part of code, once that is told
abbrev pub part_at : (out : ℕ) → Flow → Part
part_at out f at = let r = f at in record { code = r.code out; bytes = r.bytes; next = r.next }

-- so many bytes of code, wherever it stands
abbrev pub HasSize : Flow → ℕ → Type 0
HasSize f n = (at : Spot) (out : ℕ) → steps_size ((f at).code out) ≡ n

-- code without EXIT
abbrev pub straight : Part → Flow
straight a at = let p = a at in record { code = λ out. p.code; bytes = p.bytes; next = p.next }

-- nothing
abbrev pub nothing : Flow
nothing = straight none

infixr 40 ◌⨾◌
-- one after the other
abbrev pub ◌⨾◌ : Flow → Flow → Flow
(a ⨾ b) at =
    let p = a at in
    let q = b p.next in
    record {
      code = λ out. let behind = q.code out in p.code (out + steps_size behind) ++ behind;
      bytes = p.bytes ++ q.bytes;
      next = q.next;
    }

-- how many bytes a jump has
abbrev pub jump_size : ℕ
jump_size = 5

-- a jump back over so many bytes and itself
abbrev pub back : (ℤ → Instr) → ℕ → Step
back jump n = plain_step (jump (negsuc (n + 4)))

-- statements that have a temporary cell of their own, the next one
abbrev pub with_cell : ((cell : ℕ) → Flow) → Flow
with_cell flow at = flow at.cell (record at { cell = capped (at.cell + 1) })

-- statements in a WITH whose record's address is in this cell
abbrev pub in_with : (cell : ℕ) → Flow → Flow
in_with t body at =
    let b = body (record at { withs = t ∷ at.withs }) in
    record { code = b.code; bytes = b.bytes; next = record (b.next) { withs = at.withs } }

-- past the innermost LOOP
abbrev pub exit : Flow
exit at = record { code = λ out. plain_step (Jump (pos out)) ∷ []; bytes = []; next = at }

-- where the test holds, the body alone
abbrev pub when : Part → Flow → Flow
when test body at =
    let t = test at in
    let b = body t.next in
    record {
      code = λ out. let inner = b.code out in t.code ++ (plain_step (JumpFalse (pos (steps_size inner))) ∷ inner);
      bytes = t.bytes ++ b.bytes;
      next = b.next;
    }

-- where the test holds, the body, with a jump past what stands for the other case; else that
abbrev pub choose : Part → Flow → Flow → Flow
choose test body other at =
    let t = test at in
    let b = body t.next in
    let o = other b.next in
    record {
      code = λ out.
          let behind = o.code out in
          let inner = b.code (out + steps_size behind + jump_size) in
          t.code ++ (plain_step (JumpFalse (pos (steps_size inner + jump_size)))
          ∷ (inner ++ (plain_step (Jump (pos (steps_size behind))) ∷ behind)));
      bytes = t.bytes ++ b.bytes ++ o.bytes;
      next = o.next;
    }

-- as long as the test holds, the body
abbrev pub while_true : Part → Flow → Flow
while_true test body at =
    let t = test at in
    let b = body t.next in
    record {
      code = λ out.
          let inner = b.code (out + jump_size) in
          t.code ++ (plain_step (JumpFalse (pos (steps_size inner + jump_size)))
          ∷ (inner ++ (back Jump (steps_size t.code + jump_size + steps_size inner) ∷ [])));
      bytes = t.bytes ++ b.bytes;
      next = b.next;
    }

-- the body until the test holds
abbrev pub until_true : Flow → Part → Flow
until_true body test at =
    let b = body at in
    let t = test b.next in
    record {
      code = λ out.
          let inner = b.code (out + steps_size t.code + jump_size) in
          inner ++ (t.code ++ (back JumpFalse (steps_size inner + steps_size t.code) ∷ []));
      bytes = b.bytes ++ t.bytes;
      next = t.next;
    }

-- the body for ever; EXIT leaves it
abbrev pub for_ever : Flow → Flow
for_ever body at =
    let b = body at in
    record {
      code = λ out. let inner = b.code jump_size in inner ++ (back Jump (steps_size inner) ∷ []);
      bytes = b.bytes;
      next = b.next;
    }

-- where the first test holds the body, and after each body, where the second test holds, the step and the body again
abbrev pub counted : (first : Part) → (body : Flow) → (again : Part) → (step : Part) → Flow
counted first body again step at =
    let f = first at in
    let b = body f.next in
    let a = again b.next in
    let s = step a.next in
    record {
      code = λ out.
          let behind = steps_size a.code + jump_size + steps_size s.code + jump_size in
          let inner = b.code (out + behind) in
          f.code ++ (plain_step (JumpFalse (pos (steps_size inner + behind))) ∷ (inner
          ++ (a.code ++ (plain_step (JumpFalse (pos (steps_size s.code + jump_size))) ∷ (s.code
          ++ (back Jump (steps_size inner + steps_size a.code + jump_size + steps_size s.code) ∷ []))))));
      bytes = f.bytes ++ b.bytes ++ a.bytes ++ s.bytes;
      next = s.next;
    }
