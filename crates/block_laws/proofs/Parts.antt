-- What holds of each step of the parts of a block's code: by what holds of the instructions that name cells, characters and
-- procedures, and by the ranges of the operands of all others.
use Rattle.std.specs.Prelude.{◌≡◌, refl, ℕ, ◌+◌, ◌<◌, ◌≤◌, ◌==◌, Bool, true, false, ℤ, pos, List, [], ◌∷◌, ◌++◌, length, min, nat_lt, if◌then◌else◌, slice_index, Some, None}
use Rattle.std.proofs.Common.{subst, sym, arith}
use Rattle.std.proofs.lemmas.Bool.{ltb-true}
use Rattle.std.proofs.lemmas.List.{length-append}
use Rattle.code_form.specs.Heights.{Step}
use Rattle.code_form.specs.Instructions.{IsInstr}
use Rattle.code_form.specs.Valid.{jump_of}
use Rattle.code_form.specs.declared.instr.Instr.TheVariants.{Call, CallVar, CallX, Global, Load, Local, Move, OpenCopy, Proc as ProcValue, Return, Str}
use Rattle.code_form.specs.declared.instr.Instr.{Instr}
use Rattle.block_code.specs.Arguments.{string_copy}
use Rattle.block_code.specs.Calls.{call_instr, cells_of_all, result_cells}
use Rattle.block_code.specs.Parts.{Made, Part, Spot, call, none, plain, plain_step, skip, steps, text, unless_too_many, with_record, ◌⨟◌}
use Rattle.block_code.specs.ProcedureNames.{Target, target_of_procedure}
use Rattle.block_code.specs.Variables.{cell_instr}
use Rattle.m2_base.specs.Lists.{Each}
use Rattle.m2_base.specs.declared.rows.Mode.TheVariants.{Open}
use Rattle.m2_base.specs.declared.rows.Place.{Place}
use Rattle.m2_base.specs.declared.rows.RowMeaning.TheVariants.{Proc, Var}
use Rattle.m2_base.specs.Statics.Cells.{capped, most_cells}
use Rattle.m2_base.specs.Statics.Contexts.{Scene, level_of}
use Rattle.m2_base.specs.Statics.TypeParts.{parameters, result_of_type}
use Rattle.m2_base.specs.declared.rows.Mode.{Mode}
use Rattle.block_laws.specs.Sight.{IsDeclared, call_step, value_instr}
use Rattle.m2_base.proofs.EachLaws.{each_append}

-- ** Where parts stand

-- the cell stands before this one, or the cells are too many
abbrev pub IsKept : (t cells : ℕ) → Type 0
IsKept t cells = (t ≤ cells) × (capped (t + 1) ≤ cells)

pub kept-on : (t m n : ℕ) → IsKept t m → m ≤ n → IsKept t n
kept-on t m n h k = let a = h.0 in let b = h.1 in (omega (arith, a, k), omega (arith, b, k))

-- a place where a part of code may stand, in so many WITHs and with this cell or one behind it next
pub record IsSpot (withs from : ℕ) (at : Spot) : Type 0 where
  pub cell : at.cell ≤ most_cells + 1
  pub byte : at.byte ≤ most_cells + 1
  pub from_here : from ≤ at.cell
  pub records : (k : ℕ) → k < withs → IsKept (slice_index at.withs k) at.cell

-- what is made from one place to the next: the data are as long as they are counted, unless they are too many
pub record Leads (withs from : ℕ) (at : Spot) (made : List ℕ) (next : Spot) : Type 0 where
  pub spot : IsSpot withs from next
  pub cells : at.cell ≤ next.cell
  pub bytes : at.byte ≤ next.byte
  pub counted : next.byte ≤ most_cells → at.byte + length made ≡ next.byte

-- q of each step of a part, where its cells and bytes end in time
abbrev pub Right : (q : Step → Type 0) → (cells bytes withs from : ℕ) → Part → Type 0
Right q cells bytes withs from p =
    (at : Spot) → IsSpot withs from at → Leads withs from at (p at).bytes (p at).next × ((p at).next.cell ≤ cells → (p at).next.byte ≤ bytes → Each q (p at).code)

-- ** What is known of instructions

-- the instruction names no cell, no characters and no procedure, and doesn't return
abbrev pub names_nothing : Instr → Bool
names_nothing (Local h o) = false
names_nothing (Global m o) = false
names_nothing (Str o) = false
names_nothing (Call p h) = false
names_nothing (CallX m k) = false
names_nothing (CallVar n r) = false
names_nothing (ProcValue m k) = false
names_nothing (OpenCopy o s) = false
names_nothing Return = false
names_nothing i = true

-- q of the instructions that a block's code is made of, in a block of so many cells and bytes
pub record Leaves (q : Step → Type 0) (seen : ℕ → Type 0) (cells bytes : ℕ) (scene : Scene) : Type 0 where
  pub others : (i : Instr) → names_nothing i ≡ true → (jump_of i ≡ None → IsInstr i) → q (plain_step i)
  pub returns : (k : ℕ) → q (record { instr = Return; takes = k; leaves = 0 })
  pub temporary : (t : ℕ) → IsKept t cells → q (plain_step (Local 0 t))
  pub characters : (byte n : ℕ) → byte ≤ bytes → capped (byte + n + 1) ≤ bytes → q (plain_step (Str byte))
  pub cell : (name : ℕ) (t : Place) (mode : Mode) (o : ℕ) (d : IsDeclared seen scene name (Var t mode o)) → q (plain_step (cell_instr scene.block d.place.scope o))
  pub second_cell : (name : ℕ) (t : Place) (o : ℕ) (d : IsDeclared seen scene name (Var t Open o)) → q (plain_step (cell_instr scene.block d.place.scope (o + 1)))
  pub procedure : (name : ℕ) (t : Place) (k s : ℕ) → IsDeclared seen scene name (Proc t k s) → (level_of scene.block t.scope == 0) ≡ true
      → q (plain_step (value_instr scene (target_of_procedure scene name t k)))
  pub own_call : (name : ℕ) (t : Place) (k s : ℕ) (p : Target) → IsDeclared seen scene name (Proc t k s) → target_of_procedure scene name t k ≡ Some p → q (call_step scene t (call_instr scene p) 0)
  pub variable_call : (t : Place) → q (call_step scene t (CallVar (cells_of_all scene (parameters scene t)) (result_cells (result_of_type scene t))) 1)

-- ** Parts of code

module _ (q : Step → Type 0) (cells bytes withs from : ℕ) where
  abbrev R : Part → Type 0
  R p = Right q cells bytes withs from p

  pub stays : (at : Spot) → IsSpot withs from at → Leads withs from at [] at
  stays at h = record { spot = h; cells = omega arith; bytes = omega arith; counted = λ e. omega arith }

  pub leads-then : (a b c : Spot) (xs ys : List ℕ) → Leads withs from a xs b → Leads withs from b ys c → Leads withs from a (xs ++ ys) c
  leads-then a b c xs ys f g =
      let d = f.cells in
      let e = g.cells in
      let m = f.bytes in
      let n = g.bytes in
      let l = length-append xs ys in
      record {
        spot = g.spot;
        cells = omega (arith, d, e);
        bytes = omega (arith, m, n);
        counted = λ h. let u = f.counted (omega (arith, n, h)) in let v = g.counted h in omega (arith, u, v, l);
      }

  pub then-right : (a b : Part) → R a → R b → R (a ⨟ b)
  then-right a b f g = λ at h.
      let p : Made = a at in
      let x = f at h in
      let r : Made = b p.next in
      let y = g p.next x.0.spot in (
        leads-then at p.next r.next p.bytes r.bytes x.0 y.0,
        λ u v. let d = y.0.cells in let e = y.0.bytes in
            each_append q p.code r.code (x.1 (omega (arith, u, d)) (omega (arith, v, e))) (y.1 u v),
      )

  -- steps that are right where they stand
  pub steps-if : (ss : List Step) → (from ≤ cells → Each q ss) → R (steps ss)
  steps-if ss f = λ at h. (stays at h, λ u v. f (let e = h.from_here in omega (arith, u, e)))

  pub steps-right : (ss : List Step) → Each q ss → R (steps ss)
  steps-right ss f = steps-if ss (λ e. f)

  pub none-right : R none
  none-right = steps-right [] tt

  pub one-right : (i : Instr) → q (plain_step i) → R (plain (i ∷ []))
  one-right i h = steps-right (plain_step i ∷ []) (h, tt)

  pub call-right : (i : Instr) (takes leaves : ℕ) → q (record { instr = i; takes = takes; leaves = leaves }) → R (call i takes leaves)
  call-right i takes leaves h = steps-right (record { instr = i; takes = takes; leaves = leaves } ∷ []) (h, tt)

  pub skip-right : (j : ℤ → Instr) (p : Part) → ((n : ℕ) → q (plain_step (j (pos n)))) → R p → R (skip j p)
  skip-right j p f g = λ at h. let x = g at h in (x.0, λ u v. (f _, x.1 u v))

  capped-keeps : (at : Spot) (n : ℕ) → at.byte ≤ most_cells + 1 → at.byte ≤ capped (at.byte + n)
  capped-keeps at n h = omega (arith, h)

  text-data : (byte : ℕ) (cs : List ℕ) → capped (byte + length cs + 1) ≤ most_cells → byte + length (unless_too_many (capped (byte + length cs + 1)) (cs ++ 0 ∷ [])) ≡ capped (byte + length cs + 1)
  text-data byte cs h = by_length (nat_lt most_cells (capped (byte + length cs + 1))) refl
    where
      last : ℕ
      last = capped (byte + length cs + 1)

      by_length : (b : Bool) → nat_lt most_cells last ≡ b → byte + length (if b then [] else cs ++ 0 ∷ []) ≡ last
      by_length true e = let f = ltb-true most_cells last e in absurd (omega (arith, f, h))
      by_length false e = let l = length-append cs (0 ∷ []) in omega (arith, l, h)

  -- behind a place, with more cells and bytes
  spot-on : (at next : Spot) → IsSpot withs from at → next.withs ≡ at.withs → at.cell ≤ next.cell → next.cell ≤ most_cells + 1 → next.byte ≤ most_cells + 1 → IsSpot withs from next
  spot-on at next h e f g k =
      let a = h.from_here in
      record {
        cell = g;
        byte = k;
        from_here = omega (arith, a, f);
        records = λ n l. subst (λ (ws : List ℕ). IsKept (slice_index ws n) next.cell) (sym e) (kept-on (slice_index at.withs n) at.cell next.cell (h.records n l) f);
      }

  pub text-right : (cs : List ℕ) → ((byte : ℕ) → byte ≤ bytes → capped (byte + length cs + 1) ≤ bytes → q (plain_step (Str byte))) → R (text cs)
  text-right cs f = λ at h.
      let c = h.cell in
      let b = h.byte in (
        record {
          spot = spot-on at (text cs at).next h refl (omega arith) c (omega arith);
          cells = omega arith;
          bytes = omega (arith, b);
          counted = text-data at.byte cs;
        },
        λ u v. (f at.byte (omega (arith, b, v)) v, tt),
      )

  pub record-right : (k : ℕ) → k < withs → ((t : ℕ) → IsKept t cells → q (plain_step (Local 0 t))) → q (plain_step Load) → R (with_record k)
  record-right k l f g = λ at h. (
    stays at h,
    λ u v. (f (slice_index at.withs k) (kept-on (slice_index at.withs k) at.cell cells (h.records k l) u), (g, tt)),
  )

  pub copy-right : (n : ℕ) (cs : List ℕ) → 1 ≤ n → ((t : ℕ) → IsKept t cells → q (plain_step (Local 0 t)))
      → ((byte : ℕ) → byte ≤ bytes → capped (byte + length cs + 1) ≤ bytes → q (plain_step (Str byte))) → q (plain_step (Move (min (length cs + 1) n))) → R (string_copy n cs)
  copy-right n cs some f g m = λ at h.
      let c = h.cell in
      let b = h.byte in
      let made : List ℕ = unless_too_many (capped (at.byte + length cs + 1)) (cs ++ 0 ∷ []) in
      let l = length-append made [] in
      let local : capped (at.cell + n) ≤ cells → q (plain_step (Local 0 at.cell)) = λ u. f at.cell (omega (arith, u, c), omega (arith, u, some)) in (
        record {
          spot = spot-on at (string_copy n cs at).next h refl (omega (arith, c)) (omega arith) (omega arith);
          cells = omega (arith, c);
          bytes = omega (arith, b);
          counted = λ e. let d = text-data at.byte cs e in omega (arith, d, l);
        },
        λ u v. (local u, (g at.byte (omega (arith, b, v)) v, (m, (local u, tt)))),
      )
