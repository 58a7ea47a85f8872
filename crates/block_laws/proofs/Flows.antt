-- What is made of right parts and right flows is a right flow.
use Rattle.std.specs.Prelude.{ℕ, zero, suc, ◌+◌, ◌<◌, ◌≤◌, ℤ, pos, List, [], ◌∷◌, ◌++◌, slice_index}
use Rattle.std.proofs.Common.{arith}
use Rattle.code_form.specs.Heights.{Step}
use Rattle.code_form.specs.declared.instr.Instr.TheVariants.{Jump, JumpFalse}
use Rattle.block_code.specs.Parts.{Made, Part, Spot, plain_step, steps_size}
use Rattle.m2_base.specs.Lists.{Each}
use Rattle.m2_base.specs.Statics.Cells.{capped}
use Rattle.block_code.specs.Flows.{Flow, Run, back, choose, counted, exit, for_ever, in_with, jump_size, nothing, straight, until_true, when, while_true, with_cell, ◌⨾◌}
use Rattle.block_laws.proofs.Parts.{IsKept, IsSpot, Leads, Right, kept-on, leads-then, stays}
use Rattle.m2_base.proofs.EachLaws.{each_append}

-- q of each step of a flow, where its cells and bytes end in time
abbrev pub Flows : (q : Step → Type 0) → (cells bytes withs from : ℕ) → Flow → Type 0
Flows q cells bytes withs from f =
    (at : Spot) → IsSpot withs from at → Leads withs from at (f at).bytes (f at).next
    × ((f at).next.cell ≤ cells → (f at).next.byte ≤ bytes → (o : ℕ) → Each q ((f at).code o))

module _ (q : Step → Type 0) (cells bytes withs from : ℕ) (always : (j : ℤ) → q (plain_step (Jump j))) (unless : (j : ℤ) → q (plain_step (JumpFalse j))) where
  abbrev R : Part → Type 0
  R p = Right q cells bytes withs from p

  abbrev F : Flow → Type 0
  F f = Flows q cells bytes withs from f

  two : (a b c : Spot) (xs ys : List ℕ) → Leads withs from a xs b → Leads withs from b ys c → Leads withs from a (xs ++ ys) c
  two a b c xs ys f g = leads-then q cells bytes withs from a b c xs ys f g

  pub straight-flow : (p : Part) → R p → F (straight p)
  straight-flow p f = λ at h. let x = f at h in (x.0, λ u v o. x.1 u v)

  pub nothing-flow : F nothing
  nothing-flow = λ at h. (stays q cells bytes withs from at h, λ u v o. tt)

  pub exit-flow : F exit
  exit-flow = λ at h. (stays q cells bytes withs from at h, λ u v o. (always (pos o), tt))

  pub then-flow : (a b : Flow) → F a → F b → F (a ⨾ b)
  then-flow a b f g = λ at h.
      let p : Run = a at in
      let x = f at h in
      let r : Run = b p.next in
      let y = g p.next x.0.spot in (
        two at p.next r.next p.bytes r.bytes x.0 y.0,
        λ u v o. let d = y.0.cells in let e = y.0.bytes in
            each_append q (p.code (o + steps_size (r.code o))) (r.code o) (x.1 (omega (arith, u, d)) (omega (arith, v, e)) (o + steps_size (r.code o))) (y.1 u v o),
      )

  pub when-flow : (t : Part) (f : Flow) → R t → F f → F (when t f)
  when-flow t f g k = λ at h.
      let p : Made = t at in
      let x = g at h in
      let r : Run = f p.next in
      let y = k p.next x.0.spot in (
        two at p.next r.next p.bytes r.bytes x.0 y.0,
        λ u v o. let d = y.0.cells in let e = y.0.bytes in
            each_append q p.code (plain_step (JumpFalse (pos (steps_size (r.code o)))) ∷ r.code o) (x.1 (omega (arith, u, d)) (omega (arith, v, e)))
            (unless (pos (steps_size (r.code o))), y.1 u v o),
      )

  pub choose-flow : (t : Part) (f other : Flow) → R t → F f → F other → F (choose t f other)
  choose-flow t f other g k l = λ at h.
      let p : Made = t at in
      let x = g at h in
      let r : Run = f p.next in
      let y = k p.next x.0.spot in
      let s : Run = other r.next in
      let z = l r.next y.0.spot in (
        two at r.next s.next (p.bytes ++ r.bytes) s.bytes (two at p.next r.next p.bytes r.bytes x.0 y.0) z.0,
        λ u v o.
            let a = y.0.cells in
            let b = y.0.bytes in
            let d = z.0.cells in
            let e = z.0.bytes in
            let behind : List Step = s.code o in
            let m : ℕ = o + steps_size behind + jump_size in
            let inner : List Step = r.code m in
            let last : List Step = plain_step (Jump (pos (steps_size behind))) ∷ behind in
            each_append q p.code (plain_step (JumpFalse (pos (steps_size inner + jump_size))) ∷ (inner ++ last)) (x.1 (omega (arith, u, a, d)) (omega (arith, v, b, e)))
            (unless (pos (steps_size inner + jump_size)), each_append q inner last (y.1 (omega (arith, u, d)) (omega (arith, v, e)) m) (always (pos (steps_size behind)), z.1 u v o)),
      )

  pub while-flow : (t : Part) (f : Flow) → R t → F f → F (while_true t f)
  while-flow t f g k = λ at h.
      let p : Made = t at in
      let x = g at h in
      let r : Run = f p.next in
      let y = k p.next x.0.spot in (
        two at p.next r.next p.bytes r.bytes x.0 y.0,
        λ u v o.
            let d = y.0.cells in
            let e = y.0.bytes in
            let inner : List Step = r.code (o + jump_size) in
            let last : List Step = back Jump (steps_size p.code + jump_size + steps_size inner) ∷ [] in
            each_append q p.code (plain_step (JumpFalse (pos (steps_size inner + jump_size))) ∷ (inner ++ last)) (x.1 (omega (arith, u, d)) (omega (arith, v, e)))
            (unless (pos (steps_size inner + jump_size)), each_append q inner last (y.1 u v (o + jump_size)) (always _, tt)),
      )

  pub until-flow : (f : Flow) (t : Part) → F f → R t → F (until_true f t)
  until-flow f t k g = λ at h.
      let r : Run = f at in
      let y = k at h in
      let p : Made = t r.next in
      let x = g r.next y.0.spot in (
        two at r.next p.next r.bytes p.bytes y.0 x.0,
        λ u v o.
            let d = x.0.cells in
            let e = x.0.bytes in
            let m : ℕ = o + steps_size p.code + jump_size in
            let last : List Step = back JumpFalse (steps_size (r.code m) + steps_size p.code) ∷ [] in
            each_append q (r.code m) (p.code ++ last) (y.1 (omega (arith, u, d)) (omega (arith, v, e)) m) (each_append q p.code last (x.1 u v) (unless _, tt)),
      )

  pub for_ever-flow : (f : Flow) → F f → F (for_ever f)
  for_ever-flow f k = λ at h.
      let r : Run = f at in
      let y = k at h in (
        y.0,
        λ u v o. each_append q (r.code jump_size) (back Jump (steps_size (r.code jump_size)) ∷ []) (y.1 u v jump_size) (always _, tt),
      )

  pub counted-flow : (first : Part) (f : Flow) (again step : Part) → R first → F f → R again → R step → F (counted first f again step)
  counted-flow first f again step g k g' g'' = λ at h.
      let p : Made = first at in
      let x = g at h in
      let r : Run = f p.next in
      let y = k p.next x.0.spot in
      let a : Made = again r.next in
      let z = g' r.next y.0.spot in
      let s : Made = step a.next in
      let w = g'' a.next z.0.spot in (
        two at a.next s.next (p.bytes ++ r.bytes ++ a.bytes) s.bytes
            (two at r.next a.next (p.bytes ++ r.bytes) a.bytes (two at p.next r.next p.bytes r.bytes x.0 y.0) z.0) w.0,
        λ u v o.
            let c1 = y.0.cells in
            let c2 = z.0.cells in
            let c3 = w.0.cells in
            let b1 = y.0.bytes in
            let b2 = z.0.bytes in
            let b3 = w.0.bytes in
            let behind : ℕ = steps_size a.code + jump_size + steps_size s.code + jump_size in
            let inner : List Step = r.code (o + behind) in
            let last : List Step = back Jump (steps_size inner + steps_size a.code + jump_size + steps_size s.code) ∷ [] in
            let third : List Step = plain_step (JumpFalse (pos (steps_size s.code + jump_size))) ∷ (s.code ++ last) in
            each_append q p.code (plain_step (JumpFalse (pos (steps_size inner + behind))) ∷ (inner ++ (a.code ++ third)))
            (x.1 (omega (arith, u, c1, c2, c3)) (omega (arith, v, b1, b2, b3))) (
              unless (pos (steps_size inner + behind)),
              each_append q inner (a.code ++ third) (y.1 (omega (arith, u, c2, c3)) (omega (arith, v, b2, b3)) (o + behind))
                  (each_append q a.code third (z.1 (omega (arith, u, c3)) (omega (arith, v, b3))) (unless (pos (steps_size s.code + jump_size)), each_append q s.code last (w.1 u v) (always _, tt))),
            ),
      )

-- ** Cells of one's own

-- from a cell of its own on
pub with_cell-flow : (q : Step → Type 0) (cells bytes withs from : ℕ) (f : ℕ → Flow) → ((t m : ℕ) → IsKept t m → Flows q cells bytes withs m (f t)) → Flows q cells bytes withs from (with_cell f)
with_cell-flow q cells bytes withs from f g = λ at h.
    let small = h.cell in
    let old = h.from_here in
    let next : Spot = record at { cell = capped (at.cell + 1) } in
    let inner : IsSpot withs (capped (at.cell + 1)) next = record {
      cell = omega arith;
      byte = h.byte;
      from_here = omega arith;
      records = λ k l. kept-on (slice_index at.withs k) at.cell (capped (at.cell + 1)) (h.records k l) (omega (arith, small));
    } in
    let x = g at.cell (capped (at.cell + 1)) (omega (arith, small), omega arith) next inner in
    let e = x.0.cells in
    let s = x.0.spot in (
      record {
        spot = record { cell = s.cell; byte = s.byte; from_here = omega (arith, e, old, small); records = s.records };
        cells = omega (arith, e, small);
        bytes = x.0.bytes;
        counted = x.0.counted;
      },
      x.1,
    )

-- within a WITH whose record's address is in this cell
pub in_with-flow : (q : Step → Type 0) (cells bytes withs from t : ℕ) (f : Flow) → IsKept t from → Flows q cells bytes (suc withs) from f → Flows q cells bytes withs from (in_with t f)
in_with-flow q cells bytes withs from t f l g = λ at h.
    let inner : IsSpot (suc withs) from (record at { withs = t ∷ at.withs }) = record {
      cell = h.cell;
      byte = h.byte;
      from_here = h.from_here;
      records = opened at h;
    } in
    let x = g (record at { withs = t ∷ at.withs }) inner in
    let e = x.0.cells in
    let s = x.0.spot in (
      record {
        spot = record {
          cell = s.cell;
          byte = s.byte;
          from_here = s.from_here;
          records = λ k m. kept-on (slice_index at.withs k) at.cell (f (record at { withs = t ∷ at.withs })).next.cell (h.records k m) e;
        };
        cells = x.0.cells;
        bytes = x.0.bytes;
        counted = x.0.counted;
      },
      x.1,
    )
  where
    opened : (at : Spot) → IsSpot withs from at → (k : ℕ) → k < suc withs → IsKept (slice_index (t ∷ at.withs) k) at.cell
    opened at h zero m = kept-on t from at.cell l h.from_here
    opened at h (suc k) m = h.records k (omega (arith, m))
