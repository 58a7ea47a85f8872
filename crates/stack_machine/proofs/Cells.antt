-- Cells, addresses, and the room that a state has: over plain data.
use Rattle.std.proofs.Common.{◌≡◌, ℕ, ◌+◌, ◌-◌, ◌*◌, ◌^◌, ◌<◌, ◌≤◌, ◌&&◌, ◌==◌, Bool, true, false, List, length, drop, ltb, leb, Some, None, Option, refl, sym, ap, ◌∙◌, subst, arith, ℤ, pos, negsuc, ◌+ℤ◌, ◌≤ℤ◌, FitsSigned, w64, to_z, of_z}
use Rattle.std.specs.Prelude.{slice_set, IfSome, if◌then◌else◌}
use Rattle.std.specs.List.{copy_within}
use Rattle.std.specs.Vec.{with_item, with_items}
use Rattle.std.specs.declared.alloc.Global.{Global}
use Rattle.std.specs.declared.vec.Vec.{Vec}
use Rattle.std.proofs.lemmas.Bool.{cond-false, cond-true, le-ltb, lt-ltb, ne_eqb, eq-eqb, and_parts, leb-true, ltb-true}
use Rattle.std.proofs.lemmas.Int.{ints, to_z-of_z, to_z_pos}
use Rattle.std.proofs.lemmas.List.{take_at}
use Rattle.std.proofs.lemmas.Nat.{mul-le}
use Rattle.std.proofs.lemmas.Option.{cond_some}
use Rattle.stack_machine.specs.declared.code.Routine.{Routine}
use Rattle.stack_machine.specs.declared.core_state.Core.{Core}
use Rattle.stack_machine.specs.declared.next.Next.{Next as CodeNext}
use Rattle.stack_machine.specs.declared.next.Next.TheVariants as code
use Rattle.stack_machine.specs.declared.op.Op.TheVariants.{Move, OpenCopy}
use Rattle.stack_machine.specs.declared.trap.Trap.TheVariants as traps
use Rattle.stack_machine.specs.Able.{HasRoom, CanDo, Comes}
use Rattle.stack_machine.specs.Numbers.{below, count_of}
use Rattle.stack_machine.specs.Operands.{top_of, without}
use Rattle.stack_machine.specs.State.{State}
use Rattle.stack_machine.specs.Step.{Next, Goes, Traps, NoFrame, does, empty, nothing, part_at, cell_at, leaves, allocated, cleared, source_at, cell_of, copied, open_copied, entered, called, size_of, number_out}

-- ---- what a step comes to

-- a step that goes on comes to another state, whatever was before it
pub comes_to : (r : CodeNext) (next : Next) (before old new to : State) → next ≡ Goes to → Comes r (Goes to) before new → Comes r next old new
comes_to code.Goes next before old new to e h = e ∙ h
comes_to code.Halts next before old new to e h = let h0 = h.0 in absurd cc
comes_to (code.Traps t) next before old new to e h = let h0 = h.0 in absurd cc
comes_to (code.NoFrame at) next before old new to e h = let h0 = h.0 in absurd cc

-- ---- room

-- other cells, as many, of which NEW has taken more
pub room_with : (core : Core) (cells : Vec ℤ Global) (heap : ℕ) → length cells.items ≡ length core.cells.items → core.top ≤ heap → heap ≤ core.heap → HasRoom core → HasRoom (record core { cells = cells; heap = heap })
room_with core cells heap e low high r =
    let small = r.small in let stack = r.stack in let within = r.within in let old = r.heap in let base = r.base in let frames = r.frames in record {
      small = omega (arith, e, small);
      stack = stack ∙ sym e;
      within = within;
      heap = omega (arith, e, old, high);
      top = low;
      base = base;
      frames = omega (arith, e, frames);
    }

-- other cells, as many, and a frame that ends elsewhere
pub room_to : (core : Core) (at top link : ℕ) (cells : Vec ℤ Global) → length cells.items ≡ length core.cells.items → core.base ≤ top → top ≤ core.heap → HasRoom core → HasRoom (record core { at = at; top = top; link = link; cells = cells })
room_to core at top link cells e low high r =
    let small = r.small in let stack = r.stack in let within = r.within in let heap = r.heap in let frames = r.frames in record {
      small = omega (arith, e, small);
      stack = stack ∙ sym e;
      within = within;
      heap = omega (arith, e, heap);
      top = high;
      base = low;
      frames = omega (arith, e, frames);
    }

pub able_with : (core : Core) (n : ℕ) (cells : Vec ℤ Global) (heap : ℕ) → length cells.items ≡ length core.cells.items → core.top ≤ heap → heap ≤ core.heap → CanDo core n → CanDo (record core { cells = cells; heap = heap }) n
able_with core n cells heap e low high a = record { there = a.there; space = a.space; room = room_with core cells heap e low high a.room; behind = a.behind }

le-refl : (n : ℕ) → n ≤ n
le-refl n = omega arith

pub able_cells : (core : Core) (n : ℕ) (cells : Vec ℤ Global) → length cells.items ≡ length core.cells.items → CanDo core n → CanDo (record core { cells = cells }) n
able_cells core n cells e a = able_with core n cells core.heap e a.room.top (le-refl core.heap) a

-- ---- cells

pub refilled : (v : Vec ℤ Global) (ws : List ℤ) → length ws ≡ length v.items → (with_items v ws).items ≡ ws
refilled v ws e = take_at ws (drop (length ws) v.items) v.len (e ∙ sym v.ok.0)

pub noted : (v : Vec ℤ Global) (ws : List ℤ) (a k : ℕ) → length ws ≡ length v.items → k < 2 ^ 63 → (with_item (with_items v ws) a (to_z w64 k)).items ≡ slice_set ws a (pos k)
noted v ws a k e small = ap (λ (z : ℤ). slice_set (with_items v ws).items a z) (to_z_pos w64 k small) ∙ ap (λ (xs : List ℤ). slice_set xs a (pos k)) (refilled v ws e)

pub short_as : {xs ys : List ℤ} → xs ≡ ys → length ys < 2 ^ 32 → length xs < 2 ^ 32
short_as e h = subst (λ (zs : List ℤ). length zs < 2 ^ 32) (sym e) h

-- ---- addresses

-- what a value is, as it is handed on
pub passed : (z t : ℤ) → FitsSigned w64 z → z ≡ t → to_z w64 (of_z w64 z) ≡ t
passed z t fits e = to_z-of_z w64 z fits ∙ e

pub cell_told : (cells now : List ℤ) (z t : ℤ) (r o : Option ℕ) → now ≡ cells → FitsSigned w64 z → z ≡ t → r ≡ cell_at now (to_z w64 (of_z w64 z)) → r ≡ o → cell_at cells t ≡ o
cell_told cells now z t r o same fits e is told = ap (λ (xs : List ℤ). cell_at xs t) (sym same) ∙ ap (cell_at now) (sym (passed z t fits e)) ∙ sym is ∙ told

pub part_told : (cells now : List ℤ) (n : ℕ) (z t : ℤ) (r o : Option ℕ) → now ≡ cells → FitsSigned w64 z → z ≡ t → r ≡ part_at now n (to_z w64 (of_z w64 z)) → r ≡ o → part_at cells n t ≡ o
part_told cells now n z t r o same fits e is told = ap (λ (xs : List ℤ). part_at xs n t) (sym same) ∙ ap (part_at now n) (sym (passed z t fits e)) ∙ sym is ∙ told

pub part_within : (cells : List ℤ) (n : ℕ) (z : ℤ) (a : ℕ) → part_at cells n z ≡ Some a → a + n ≤ length cells
part_within cells n (pos k) a is =
    let c = cond_some (leb 1 k && leb (k + n) (length cells)) k a is in
    let le = leb-true (k + n) (length cells) (and_parts (leb 1 k) (leb (k + n) (length cells)) c.0).1 in
    let same = c.1 in
    omega (arith, le, same)
part_within cells n (negsuc k) a is = absurd cc

pub cell_within : (cells : List ℤ) (z : ℤ) (a : ℕ) → cell_at cells z ≡ Some a → a < length cells
cell_within cells (pos k) a is =
    let c = cond_some (leb 1 k && ltb k (length cells)) k a is in
    let lt = ltb-true k (length cells) (and_parts (leb 1 k) (ltb k (length cells)) c.0).1 in
    let same = c.1 in
    omega (arith, lt, same)
cell_within cells (negsuc k) a is = absurd cc

below_over : (n : ℕ) (z : ℤ) → pos n ≤ℤ z → below n z ≡ None
below_over n (pos k) h = rw (le-ltb k n (omega (arith, ints))) refl
below_over n (negsuc k) h = refl

pub below_small : (n : ℕ) (z : ℤ) (r : Option ℕ) {m : ℕ} → r ≡ below n z → n ≡ m → m < 2 ^ 32 → IfSome r (λ k. k < 2 ^ 63)
below_small n z r is same few = subst (λ (o : Option ℕ). IfSome o (λ k. k < 2 ^ 63)) (sym is) (by_sign z) where
  chosen : (k : ℕ) (b : Bool) → ltb k n ≡ b → IfSome (if b then Some k else None) (λ k. k < 2 ^ 63)
  chosen k true lt = let below = ltb-true k n lt in omega (arith, below, same, few)
  chosen k false lt = tt

  by_sign : (z : ℤ) → IfSome (below n z) (λ k. k < 2 ^ 63)
  by_sign (pos k) = chosen k (ltb k n) refl
  by_sign (negsuc k) = tt

pub not_below : {m n : ℕ} → (m < n → ⊥) → n ≤ m
not_below none = omega (arith, none)

-- so far behind any address no cell is
pub far_is_none : (cells far : ℕ) (address : ℤ) → cells < 2 ^ 32 → 2 ^ 64 ≤ far → FitsSigned w64 address → below cells (address +ℤ pos far) ≡ None
far_is_none cells far address small big fits = below_over cells (address +ℤ pos far) (omega (arith, ints))

pub source_within : (cells : List ℤ) (n : ℕ) (z : ℤ) (a : ℕ) → source_at cells n z ≡ Some a → n ≤ length cells → a + n ≤ length cells
source_within cells n z a is few = chosen (n == 0) refl where
  chosen : (b : Bool) → (n == 0) ≡ b → a + n ≤ length cells
  chosen true none =
      let e : Some 0 ≡ Some a = sym (cond-true (n == 0) (Some 0) (part_at cells n z) none) ∙ is in
      let first : 0 ≡ a = cc in
      omega (arith, first, few)
  chosen false some = part_within cells n z a (sym (cond-false (n == 0) (Some 0) (part_at cells n z) some) ∙ is)

pub source_told : (cells now : List ℤ) (n : ℕ) (z t : ℤ) (r o : Option ℕ) → now ≡ cells → FitsSigned w64 z → z ≡ t → r ≡ source_at now n (to_z w64 (of_z w64 z)) → r ≡ o → source_at cells n t ≡ o
source_told cells now n z t r o same fits e is told = ap (λ (xs : List ℤ). source_at xs n t) (sym same) ∙ ap (source_at now n) (sym (passed z t fits e)) ∙ sym is ∙ told

-- ---- operations

pub moves_none : (n : ℕ) (s : State) → n ≡ 0 → does empty nothing (Move n) s ≡ leaves s 2 s.cells
unfolding does
moves_none n s e = rw (eq-eqb n 0 e) refl

pub moves_nowhere : (n : ℕ) (s : State) → (n ≡ 0 → ⊥) → part_at s.cells n (top_of 1 s.operands) ≡ None → does empty nothing (Move n) s ≡ Traps traps.Address
unfolding does
moves_nowhere n s some to = rw (ne_eqb n 0 some, to) refl

pub moves_nothing : (n : ℕ) (s : State) (to : ℕ) → (n ≡ 0 → ⊥) → part_at s.cells n (top_of 1 s.operands) ≡ Some to → part_at s.cells n (top_of 0 s.operands) ≡ None → does empty nothing (Move n) s ≡ Traps traps.Address
unfolding does
moves_nothing n s a some to from = rw (ne_eqb n 0 some, to, from) refl

pub moves : (n : ℕ) (s : State) (to from : ℕ) (cells : List ℤ) → (n ≡ 0 → ⊥) → part_at s.cells n (top_of 1 s.operands) ≡ Some to → part_at s.cells n (top_of 0 s.operands) ≡ Some from → cells ≡ copy_within s.cells from (from + n) to → does empty nothing (Move n) s ≡ leaves s 2 cells
unfolding does
moves n s a b cells some to from e = rw (ne_eqb n 0 some, to, from) (ap (leaves s 2) (sym e))

pub allocates_none : (n : ℕ) (s : State) → s.heap < s.top + n → allocated n s ≡ Traps traps.Memory
unfolding allocated
allocates_none n s full = rw (lt-ltb s.heap (s.top + n) full) refl

pub allocates_nowhere : (n : ℕ) (s : State) → s.top + n ≤ s.heap → cell_at s.cells (top_of 0 s.operands) ≡ None → allocated n s ≡ Traps traps.Address
unfolding allocated
allocates_nowhere n s room is = rw (le-ltb s.heap (s.top + n) room, is) refl

pub allocates : (n : ℕ) (s : State) (a : ℕ) (cells : List ℤ) → s.top + n ≤ s.heap → cell_at s.cells (top_of 0 s.operands) ≡ Some a → cells ≡ slice_set (cleared s.cells (s.heap - n) n) a (pos (s.heap - n)) → allocated n s ≡ Goes (record s { at = s.at + 1; operands = without 1 s.operands; heap = s.heap - n; cells = cells })
unfolding allocated
allocates n s a cells room is e = rw (le-ltb s.heap (s.top + n) room, is) (ap (λ (xs : List ℤ). Goes (record s { at = s.at + 1; operands = without 1 s.operands; heap = s.heap - n; cells = xs })) (sym e))

-- ---- numbers

pub product_small : (k size : ℕ) → k < 2 ^ 64 → size < 2 ^ 32 → k * size < 2 ^ 128
product_small k size le le' = let most = mul-le k size (2 ^ 64) (2 ^ 32) (omega arith) (omega arith) in omega (arith, most)

-- ---- copies of open arrays

pub copies : (n o from : ℕ) (s : State) (cells : List ℤ) → s.top < length s.cells → cells ≡ slice_set (copy_within s.cells from (from + n) s.top) (s.base + o) (pos s.top) → copied n o (Some from) s ≡ Goes (record s { at = s.at + 1; top = s.top + n; cells = cells })
copies n o from s cells lt e = rw (lt-ltb s.top (length s.cells) lt) (ap (λ (xs : List ℤ). Goes (record s { at = s.at + 1; top = s.top + n; cells = xs })) (sym e))

pub opens : (n o size : ℕ) (s : State) (high : ℤ) (from : Option ℕ) → n ≡ count_of high * size → high ≡ cell_of s.cells (s.base + o + 1) → s.top + n ≤ s.heap → source_at s.cells n (cell_of s.cells (s.base + o)) ≡ from → does empty nothing (OpenCopy o size) s ≡ copied n o from s
unfolding does open_copied
opens n o size s high from is e room at = rw (← e, ← is) (rw (le-ltb s.heap (s.top + n) room, at) refl)

pub opens_none : (n o size : ℕ) (s : State) (high : ℤ) → n ≡ count_of high * size → high ≡ cell_of s.cells (s.base + o + 1) → s.heap < s.top + n → does empty nothing (OpenCopy o size) s ≡ Traps traps.Memory
unfolding does open_copied
opens_none n o size s high is e full = rw (← e, ← is) (rw (lt-ltb s.heap (s.top + n) full) refl)

-- ---- frames

pub enters : (p : Routine) (s : State) (cells : List ℤ) → s.base + size_of p ≤ s.heap → cells ≡ cleared s.cells s.base (size_of p) → entered (Some p) s ≡ Goes (record s { at = p.entry; top = s.base + size_of p; link = 0; cells = cells })
unfolding entered
enters p s cells room e = rw (le-ltb s.heap (s.base + size_of p) room) (ap (λ (xs : List ℤ). Goes (record s { at = p.entry; top = s.base + size_of p; link = 0; cells = xs })) (sym e))

pub enters_not : (p : Routine) (s : State) → s.heap < s.base + size_of p → entered (Some p) s ≡ NoFrame p.entry
unfolding entered
enters_not p s full = rw (lt-ltb s.heap (s.base + size_of p) full) refl

pub calls_not : (p : Routine) (n link : ℕ) (s : State) → n ≤ length s.operands → s.heap < s.top + size_of p → called p n link s ≡ Traps traps.Memory
unfolding called
calls_not p n link s there full = rw (le-ltb (length s.operands) n there, lt-ltb s.heap (s.top + size_of p) full) refl

-- a frame that static links are asked to lead to, where there is one
pub asked_link : (core : Core) (links : ℕ) (outer : Option ℕ) → ((e : ℕ) → outer ≡ Some e → (n : ℕ) × (number_out core.frames.items links (length core.frames.items) core.link ≡ Some n)) → IfSome outer (λ e. (n : ℕ) × (number_out core.frames.items links (length core.frames.items) core.link ≡ Some n))
asked_link core links None linked = tt
asked_link core links (Some e) linked = linked e refl
