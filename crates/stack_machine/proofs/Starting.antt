-- The first body of a loaded program, and where a machine stands.
use Rattle.std.proofs.Common.{◌≡◌, ℕ, zero, suc, ◌+◌, ◌-◌, ◌<◌, ◌≤◌, ◌^◌, Bool, true, false, cond, ltb, List, [], ◌∷◌, ◌++◌, length, take, drop, map, replicate, get_or, Option, Some, None, refl, sym, ap, ◌∙◌, subst, arith, take_all, length-append, append_assoc}
use Rattle.std.specs.Prelude.{ℤ, pos, slice_get, IfSome}
use Rattle.code_form.specs.Modules.{Procedure}
use Rattle.object_file.specs.Contents.{Contents}
use Rattle.object_file.specs.Programs.{IsProgram}
use Rattle.stack_machine.specs.declared.code.Code.{Code}
use Rattle.stack_machine.specs.declared.code.Routine.{Routine}
use Rattle.stack_machine.specs.declared.code.Origin.{Origin}
use Rattle.stack_machine.specs.declared.core_state.Core.{Core}
use Rattle.stack_machine.specs.declared.core_state.Frame.{Frame}
use Rattle.stack_machine.specs.declared.next.Next.{Next as CodeNext}
use Rattle.stack_machine.specs.declared.next.Next.TheVariants as code_next
use Rattle.stack_machine.specs.declared.run.End.{End}
use Rattle.stack_machine.specs.declared.run.End.TheVariants as ends
use Rattle.stack_machine.specs.declared.run.Failure.{Failure}
use Rattle.stack_machine.specs.declared.run.Failure.TheVariants as failures
use Rattle.stack_machine.specs.declared.trap.Trap.{Trap}
use Rattle.stack_machine.specs.declared.trap.Trap.TheVariants as traps
use Rattle.stack_machine.specs.State.{State, Program, state_of, program_of}
use Rattle.stack_machine.specs.Step as step
use Rattle.stack_machine.specs.Step.{Next, entered, next_body, cleared, size_of}
use Rattle.stack_machine.specs.Able.{HasRoom, Comes}
use Rattle.stack_machine.specs.Ready.{Shapes, IsSmall, IsValid, Fits, GoesOn, Ready, outer_of, Linked, Leads}
use Rattle.stack_machine.specs.Stepping.{IsTrapped, IsEnded, is_going, failed_end}
use Rattle.stack_machine.specs.Runs.{Ends, AtPlace}
use Rattle.stack_machine.specs.Loading.{IsLoaded, blank, frames_of, data_at, data_of, data_in, data_cells, all_data, first_cells, bodies_of, bodies_from, flat, block_origins, Block, AreBlocks, spots}
use Rattle.stack_machine.specs.Machines.{now_of, Stands, EndsFrom, IsFirst, IsPlaced, TrapsWithin}
use Rattle.stack_machine.proofs.Flat.{get_within, one_is, found, Belongs, belongs}
use Rattle.stack_machine.proofs.Loaded.{shapes, is_valid, origins_even, get_unmap}

-- ---- the first cells

map_pos_length : (xs : List ℕ) → length (map pos xs) ≡ length xs
map_pos_length [] = refl
map_pos_length (x ∷ xs) = ap suc (map_pos_length xs)

cells_in : (ps : List Procedure) → length (data_cells ps) ≡ data_in ps
cells_in [] = refl
cells_in (p ∷ ps) = length-append (map pos p.bytes) (data_cells ps) ∙ omega (arith, map_pos_length p.bytes, cells_in ps)

cells_of_all : (os : List Contents) → length (all_data os) ≡ data_of os
cells_of_all [] = refl
cells_of_all (o ∷ os) = length-append (data_cells o.procedures) (all_data os) ∙ omega (arith, cells_in o.procedures, cells_of_all os)

zeros_length : (n : ℕ) → length (replicate n (pos 0)) ≡ n
zeros_length zero = refl
zeros_length (suc n) = ap suc (zeros_length n)

pub filled : (os : List Contents) (size len : ℕ) (xs : List ℤ) → xs ≡ replicate (data_at os) (pos 0) ++ all_data os → len ≡ length xs → frames_of os ≤ size → take size xs ++ replicate (size - len) (pos 0) ≡ first_cells os size
filled os size len xs is n room =
    let long : length xs ≡ frames_of os = ap length is ∙ length-append (replicate (data_at os) (pos 0)) (all_data os) ∙ omega (arith, zeros_length (data_at os), cells_of_all os) in
    let all : take size xs ≡ xs = take_all size xs (omega (arith, long, room)) in
    ap (λ (ys : List ℤ). ys ++ replicate (size - len) (pos 0)) (all ∙ is) ∙ ap (λ (k : ℕ). (replicate (data_at os) (pos 0) ++ all_data os) ++ replicate (size - k) (pos 0)) (n ∙ long)

pub first_length : (os : List Contents) (size : ℕ) → frames_of os ≤ size → length (first_cells os size) ≡ size
first_length os size room =
    let front = replicate (data_at os) (pos 0) ++ all_data os in
    length-append front (replicate (size - frames_of os) (pos 0)) ∙ omega (arith, room, zeros_length (size - frames_of os), length-append (replicate (data_at os) (pos 0)) (all_data os), zeros_length (data_at os), cells_of_all os)

pub no_cells : (n len : ℕ) (xs : List ℤ) → xs ≡ [] → len ≡ 0 → take n xs ++ replicate (n - len) (pos 0) ≡ replicate n (pos 0)
no_cells n len xs e z =
    let none : take n xs ≡ [] = shorter n xs e in
    let all : n - len ≡ n = omega (arith, z) in
    ap (λ (ys : List ℤ). ys ++ replicate (n - len) (pos 0)) none ∙ ap (λ (k : ℕ). replicate k (pos 0)) all
  where
    shorter : (n : ℕ) (xs : List ℤ) → xs ≡ [] → take n xs ≡ []
    shorter zero xs e = refl
    shorter (suc n) [] e = refl
    shorter (suc n) (x ∷ xs) e = absurd cc

-- ---- the first body

first_body : (os : List Contents) → 0 < length os → slice_get (bodies_of os) 0 ≡ Some 0
first_body [] lt = absurd (omega arith)
first_body (o ∷ os) lt = refl

pub first_there : (os : List Contents) (code : Code) (core : Core) → IsProgram os → IsLoaded os (program_of code) → length code.ops.items < 2 ^ 62 → HasRoom core → IsFirst code core
first_there os code core program loaded short room =
    let valid = is_valid os (program_of code) program loaded short in
    let body : slice_get code.bodies.items 0 ≡ Some 0 = ap (λ (xs : List ℕ). slice_get xs 0) loaded.bodies ∙ first_body os program.some in
    let r = valid.bodies 0 0 body in
    record { body = 0; body_is = body; routine = r.0; routine_is = r.1; small = valid.small 0 r.0 r.1; room = room }

none_some : (e : ℕ) → None ≡ Some e → ⊥
none_some e h = cc

no_frame : (d : ℕ) (f : Frame) → slice_get [] d ≡ Some f → ⊥
no_frame d f e = cc

begins_well : (os : List Contents) (c : Program) (s : Shapes) (size : ℕ) (k : ℕ) (q : Routine) → IsValid c s → c.frames_at ≡ frames_of os → slice_get c.routines k ≡ Some q → q.outer ≡ None → q.result ≡ 0 → GoesOn c s (entered (Some q) (blank os size))
unfolding entered
begins_well os c s size k q valid at is alone no_result = chosen (ltb size (frames_of os + size_of q)) where
  chosen : (b : Bool) → GoesOn c s (cond b (step.NoFrame q.entry) (step.Goes (record (blank os size) { at = q.entry; top = frames_of os + size_of q; link = 0; cells = cleared (first_cells os size) (frames_of os) (size_of q) })))
  chosen true = let here = get_within s q.entry (k, 0) (valid.enters k q is) in let long = valid.long in omega (arith, here, long)
  chosen false =
      let outer_is : outer_of (slice_get c.routines k) ≡ None = ap outer_of is ∙ alone in
      record {
        low = 0;
        own = q;
        at = record { proc = k; height = 0; here = valid.enters k q is; own_is = is; counts = omega arith; under = omega arith; room = omega arith };
        wait = (no_result, omega (arith, at));
        link = λ e o. absurd (none_some e (sym outer_is ∙ o));
        links = λ d p h f e lead. absurd (no_frame d f e);
      }

pub stands : (os : List Contents) (code : Code) (core : Core) (full : Option ℕ) (size : ℕ) → IsProgram os → IsLoaded os (program_of code) → length code.ops.items < 2 ^ 62 → HasRoom core
    → now_of full core ≡ next_body (program_of code) (slice_get code.bodies.items 0) (blank os size) → Stands full code core
stands os code core full size program loaded short room now =
    let c = program_of code in
    let valid = is_valid os c program loaded short in
    let body : slice_get code.bodies.items 0 ≡ Some 0 = ap (λ (xs : List ℕ). slice_get xs 0) loaded.bodies ∙ first_body os program.some in
    let r = valid.bodies 0 0 body in
    let on : GoesOn c (shapes os c program loaded) (now_of full core) =
    subst (GoesOn c (shapes os c program loaded)) (sym (now ∙ ap (λ (k : Option ℕ). next_body c k (blank os size)) body ∙ ap (λ (q : Option Routine). entered q (blank os size)) r.1))
    (begins_well os c (shapes os c program loaded) size 0 r.0 valid loaded.frames_at r.1 r.2 r.3) in
    chosen full on valid
  where
    chosen : (full : Option ℕ) → GoesOn (program_of code) (shapes os (program_of code) program loaded) (now_of full core) → IsValid (program_of code) (shapes os (program_of code) program loaded) → Stands full code core
    chosen None on valid = record { shapes = shapes os (program_of code) program loaded; valid = valid; fits = on; room = room }
    chosen (Some at) on valid = let same = valid.origins in omega (arith, on, same)

-- a body begins, or finds no room
pub never_halts : (r : Routine) (s : State) → entered (Some r) s ≡ step.Halts → ⊥
unfolding entered
never_halts r s is = chosen (ltb s.heap (s.base + size_of r)) is where
  chosen : (b : Bool) → cond b (step.NoFrame r.entry) (step.Goes (record s { at = r.entry; top = s.base + size_of r; link = 0; cells = cleared s.cells s.base (size_of r) })) ≡ step.Halts → ⊥
  chosen true e = cc
  chosen false e = cc

pub never_traps : (r : Routine) (s : State) (t : Trap) → entered (Some r) s ≡ step.Traps t → ⊥
unfolding entered
never_traps r s t is = chosen (ltb s.heap (s.base + size_of r)) is where
  chosen : (b : Bool) → cond b (step.NoFrame r.entry) (step.Goes (record s { at = r.entry; top = s.base + size_of r; link = 0; cells = cleared s.cells s.base (size_of r) })) ≡ step.Traps t → ⊥
  chosen true e = cc
  chosen false e = cc

-- ---- the ends of runs

pub failed_placed : (f : Failure) (e : End) (p : Program) → e ≡ failed_end f → IsPlaced e p
failed_placed failures.Read e p is = subst (λ (x : End). IsPlaced x p) (sym is) tt
failed_placed failures.Write e p is = subst (λ (x : End). IsPlaced x p) (sym is) tt

pub trapped_placed : (e : End) (p : Program) (t : Trap) (at : ℕ) → IsTrapped e p t at → IsPlaced e p
trapped_placed ends.StepsSpent p t at h = absurd h
trapped_placed ends.Halted p t at h = absurd h
trapped_placed (ends.Trapped code m procedure offset) p t at h = (at, h.1)
trapped_placed ends.ReadFailed p t at h = absurd h
trapped_placed ends.WriteFailed p t at h = absurd h

pub ended_placed : (e : End) (p : Program) (at : ℕ) (next : CodeNext) → is_going next ≡ false → IsEnded e p at next → IsPlaced e p
ended_placed e p at code_next.Goes going h = absurd (let x : true ≡ false = going in cc)
ended_placed e p at code_next.Halts going h = subst (λ (x : End). IsPlaced x p) (sym h) tt
ended_placed e p at (code_next.Traps c) going h = trapped_placed e p c at h
ended_placed e p at (code_next.NoFrame first) going h = trapped_placed e p traps.Memory first h

-- each operation is of one of the objects
object_of : (os : List Contents) (p : Program) (at : ℕ) (o : Origin) → IsLoaded os p → slice_get p.origins at ≡ Some o → o.«module» < length os
object_of os p at o loaded is =
    let r = found block_origins block_origins origins_even origins_even 0 0 loaded.blocks at o o (sym (ap (λ (xs : List Origin). slice_get xs at) loaded.origins) ∙ is) (sym (ap (λ (xs : List Origin). slice_get xs at) loaded.origins) ∙ is) in
    let w = belongs (data_at os) os loaded.blocks r.j r.block loaded.are r.is in
    let u = get_unmap (λ s. record { «module» = r.block.«module»; procedure = r.block.number; offset = s.at }) (spots 0 r.block.instrs) r.at o r.here in
    subst (λ (m : ℕ). m < length os) (ap (λ (x : Origin). x.«module») u.2) (get_within os r.block.«module» r.block.object w.object)

pub traps_within : (os : List Contents) (p : Program) (e : End) → IsLoaded os p → IsPlaced e p → TrapsWithin e (length os)
traps_within os p ends.StepsSpent loaded h = tt
traps_within os p ends.Halted loaded h = tt
traps_within os p (ends.Trapped code m procedure offset) loaded h = object_of os p h.0 (record { «module» = m; procedure = procedure; offset = offset }) loaded h.1
traps_within os p ends.ReadFailed loaded h = tt
traps_within os p ends.WriteFailed loaded h = tt

pub trap_within : (os : List Contents) (p : Program) (e : End) (t : Trap) (at : ℕ) → IsLoaded os p → IsTrapped e p t at → TrapsWithin e (length os)
trap_within os p e t at loaded h = traps_within os p e loaded (trapped_placed e p t at h)

pub trap_fails_not : (e : End) (p : Program) (t : Trap) (at : ℕ) → IsTrapped e p t at → (e ≡ ends.WriteFailed → ⊥) × (e ≡ ends.ReadFailed → ⊥)
trap_fails_not ends.StepsSpent p t at h = absurd h
trap_fails_not ends.Halted p t at h = absurd h
trap_fails_not (ends.Trapped code m procedure offset) p t at h = (λ e. cc, λ e. cc)
trap_fails_not ends.ReadFailed p t at h = absurd h
trap_fails_not ends.WriteFailed p t at h = absurd h

pub run_ends : (e : End) (p : Program) (n : ℕ) (s new : State) (w0 w left0 left : Option (List ℕ)) → IfSome left0 (λ input. Ends e p n s new input w0 w left) → IfSome left0 (λ input. EndsFrom e p n (step.Goes s) (step.Goes new) input w0 w left)
run_ends e p n s new w0 w None left h = tt
run_ends e p n s new w0 w (Some input) left h = (new, refl, h)

pub full_ends : (e : End) (p : Program) (n at : ℕ) (w left : Option (List ℕ)) → IsTrapped e p traps.Memory at → IfSome left (λ input. EndsFrom e p n (step.NoFrame at) (step.NoFrame at) input w w left)
full_ends e p n at w None h = tt
full_ends e p n at w (Some input) h = (refl, h, refl, refl)
