-- A step of valid code isn't stuck, and leads to a state that fits.
use Rattle.std.proofs.Common.{◌≡◌, ℕ, zero, suc, ◌+◌, ◌-◌, ◌*◌, ◌<◌, ◌≤◌, Bool, true, false, cond, ltb, List, [], ◌∷◌, ◌++◌, length, take, drop, Option, Some, None, refl, sym, ap, subst, ◌∙◌, arith, ℤ, pos, ◌⊎◌, inl, inr}
use Rattle.std.specs.Prelude.{slice_get, slice_set}
use Rattle.std.proofs.lemmas.Bool.{le-ltb}
use Rattle.std.proofs.lemmas.List.{length-take-le, length-append}
use Rattle.stack_machine.specs.declared.core_state.Frame.{Frame}
use Rattle.stack_machine.specs.declared.op.Op.{Op}
use Rattle.stack_machine.specs.declared.op.Op.TheVariants.{Push, Local, Load, Store, Move, Dup, Offset, Index, IndexOpen, Check, Nil, Add, Sub, Mul, Div, Mod, Neg, Abs, Not, Eq, Ne, Lt, Le, Gt, Ge, Union, Diff, Inter, SymDiff, Subset, Superset, In, Bit, Span, Jump, JumpFalse, AndJump, OrJump, More, Call, CallService, CallVar, Return, Trap, New, OpenCopy, Halt, Cap}
use Rattle.stack_machine.specs.declared.op.Service.{Service}
use Rattle.stack_machine.specs.declared.op.Service.TheVariants as service
use Rattle.stack_machine.specs.declared.trap.Trap.{Trap as TrapOf}
use Rattle.stack_machine.specs.declared.trap.Trap.TheVariants as traps
use Rattle.stack_machine.specs.declared.code.Routine.{Routine}
use Rattle.stack_machine.specs.declared.code.Origin.{Origin}
use Rattle.stack_machine.specs.declared.code.Callee.{Callee}
use Rattle.stack_machine.specs.declared.code.Callee.TheVariants as callees
use Rattle.stack_machine.specs.State.{State, Program}
use Rattle.stack_machine.specs.Operands.{top_of, without}
use Rattle.stack_machine.specs.Numbers.{is_zero}
use Rattle.stack_machine.specs.InOut.{Got, params_of}
use Rattle.stack_machine.specs.Step as step
use Rattle.stack_machine.specs.Step.{Next, gives, leaves, at_cell, cleared, made, indexed, moved, copied, open_copied, allocated, base_out, number_out, size_of, with_frame_at, called, called_at, called_with, called_var, link_of, entered, body_after, body_behind, next_body, back_to, innermost, callee_of, assigned, number_read, served, reached, local_at, bit_made, span_made, does}
use Rattle.stack_machine.specs.Ready.{Shapes, Leads, Passes, outer_of, with_outer, level_out, LinksTo, CanCall, IsFine, IsValid, Wait, Linked, Fits, GoesOn}
use Rattle.stack_machine.proofs.Links.{within, base_step, number_step}
use Rattle.stack_machine.proofs.Callees.{callee_routine, callee_service}

pub some_is : {A : Type 0} (x y : A) → Some x ≡ Some y → x ≡ y
some_is x y e = cc

get_append : (xs ys : List Frame) (k : ℕ) → k < length xs → slice_get (xs ++ ys) k ≡ slice_get xs k
get_append [] ys k lt = absurd (omega arith)
get_append (x ∷ xs) ys zero lt = refl
get_append (x ∷ xs) ys (suc k) lt = get_append xs ys k (omega arith)

get_last : (xs : List Frame) (f : Frame) → slice_get (xs ++ f ∷ []) (length xs) ≡ Some f
get_last [] f = refl
get_last (x ∷ xs) f = get_last xs f

get_take : (m : ℕ) (xs : List Frame) (k : ℕ) → k < m → slice_get (take m xs) k ≡ slice_get xs k
get_take zero xs k lt = absurd (omega arith)
get_take (suc m) [] k lt = refl
get_take (suc m) (x ∷ xs) zero lt = refl
get_take (suc m) (x ∷ xs) (suc k) lt = get_take m xs k (omega arith)

-- the frames of the callers and one more: a frame is the last or an earlier one
which : (xs : List Frame) (f g : Frame) (d : ℕ) → slice_get (xs ++ f ∷ []) d ≡ Some g → ((d < length xs) × (slice_get xs d ≡ Some g)) ⊎ ((d ≡ length xs) × (f ≡ g))
which [] f g zero e = inr (refl, some_is f g e)
which [] f g (suc d) e = absurd cc
which (x ∷ xs) f g zero e = inl (omega arith, e)
which (x ∷ xs) f g (suc d) e = next (which xs f g d e) where
  next : ((d < length xs) × (slice_get xs d ≡ Some g)) ⊎ ((d ≡ length xs) × (f ≡ g)) → ((suc d < length (x ∷ xs)) × (slice_get (x ∷ xs) (suc d) ≡ Some g)) ⊎ ((suc d ≡ length (x ∷ xs)) × (f ≡ g))
  next (inl h) = inl (let lt = h.0 in omega (arith, lt), h.1)
  next (inr h) = inr (let e = h.0 in omega (arith, e), h.1)

pub without_len : (n : ℕ) (xs : List ℤ) → length (without n xs) ≡ length xs - n
without_len n xs = length-take-le (length xs - n) xs (omega arith)

with_outer_some : (o : Option ℕ) (go : ℕ → Option ℕ) (q : ℕ) → with_outer o go ≡ Some q → (e : ℕ) × (o ≡ Some e) × (go e ≡ Some q)
with_outer_some None go q e = absurd cc
with_outer_some (Some x) go q e = (x, refl, e)

level_more : (routines : List Routine) (h p q : ℕ) → level_out routines (suc h) p ≡ Some q → (e : ℕ) × (outer_of (slice_get routines p) ≡ Some e) × (level_out routines h e ≡ Some q)
unfolding level_out
level_more routines h p q is = with_outer_some (outer_of (slice_get routines p)) (λ e. level_out routines h e) q is

level_zero : (routines : List Routine) (p q : ℕ) → level_out routines zero p ≡ Some q → p ≡ q
unfolding level_out
level_zero routines p q is = some_is p q is

number_zero : (frames : List Frame) (number link : ℕ) → number_out frames zero number link ≡ Some number
unfolding number_out
number_zero frames number link = refl

base_zero : (frames : List Frame) (base link : ℕ) → base_out frames zero base link ≡ Some base
unfolding base_out
base_zero frames base link = refl

nat_cases : (d n : ℕ) → (d < n) ⊎ (n ≤ d)
nat_cases d zero = inr (omega arith)
nat_cases zero (suc n) = inl (omega arith)
nat_cases (suc d) (suc n) = more (nat_cases d n) where
  more : (d < n) ⊎ (n ≤ d) → (suc d < suc n) ⊎ (suc n ≤ suc d)
  more (inl h) = inl (omega (arith, h))
  more (inr h) = inr (omega (arith, h))

module _ (c : Program) (shapes : Shapes) where
  Wait_same : (xs ys : List Frame) (n low base result : ℕ) → ((k : ℕ) → k < n → slice_get ys k ≡ slice_get xs k) → Wait c shapes xs n low base result → Wait c shapes ys n low base result
  Wait_same xs ys zero low base result same w = w
  Wait_same xs ys (suc n) low base result same w =
      (w.0, w.1, w.2, same n (omega arith) ∙ w.3, w.4, w.5, Wait_same xs ys n w.1 w.0.base w.2.result (λ k lt. same k (omega arith)) w.6)

  pub depth : (xs : List Frame) (n low base result : ℕ) → Wait c shapes xs n low base result → n * 4 ≤ base
  depth xs zero low base result w = omega arith
  depth xs (suc n) low base result w =
      let rest = depth xs n w.1 w.0.base w.2.result w.6 in
      let room = w.5.room in
      let top = w.4 in
      omega (arith, rest, room, top)

  -- all frames are behind what is before the first
  pub lowest : (xs : List Frame) (n low base result : ℕ) → Wait c shapes xs n low base result → c.frames_at ≤ base
  lowest xs zero low base result w = w.1
  lowest xs (suc n) low base result w =
      let rest = lowest xs n w.1 w.0.base w.2.result w.6 in
      let room = w.5.room in
      let top = w.4 in
      omega (arith, rest, room, top)

  -- the frames of the callers lie below
  pub bases : (xs : List Frame) (n low base result : ℕ) → Wait c shapes xs n low base result → (d : ℕ) (f : Frame) → d < n → slice_get xs d ≡ Some f → f.base ≤ base
  bases xs zero low base result w d f lt e = absurd (omega arith)
  bases xs (suc n) low base result w d f lt e = chosen (nat_cases d n) (λ h. bases xs n w.1 w.0.base w.2.result w.6 d f h e) where
    chosen : (d < n) ⊎ (n ≤ d) → (d < n → f.base ≤ w.0.base) → f.base ≤ base
    chosen (inl h) rest =
        let r = rest h in
        let room = w.5.room in
        let top = w.4 in
        omega (arith, r, room, top)
    chosen (inr h) rest =
        let same : n ≡ d = omega (arith, h, lt) in
        let is : w.0 ≡ f = some_is w.0 f (sym w.3 ∙ ap (slice_get xs) same ∙ e) in
        let room = w.5.room in
        let top = w.4 in
        subst (λ (g : Frame). g.base ≤ base) is (omega (arith, room, top))

  abbrev pub AllLinked : List Frame → Type 0
  AllLinked frames = (d p h : ℕ) (f : Frame) → slice_get frames d ≡ Some f → Leads shapes f.at p h → Linked c.routines shapes frames d p f.link

  -- static links lead to a frame of the procedure to which they lead in the text
  pub walk : (frames : List Frame) → AllLinked frames → (h number p link q : ℕ) → Linked c.routines shapes frames number p link → level_out c.routines h p ≡ Some q
      → (n : ℕ) × (number_out frames h number link ≡ Some n) × (((n ≡ number) × (p ≡ q)) ⊎ ((g : Frame) × (height : ℕ) × (slice_get frames n ≡ Some g) × (n < number) × Leads shapes g.at q height))
  walk frames all zero number p link q linked level = (number, number_zero frames number link, inl (refl, level_zero c.routines p q level))
  walk frames all (suc h) number p link q linked level =
      let up = level_more c.routines h p q level in
      let to = linked up.0 up.1 in
      let on = walk frames all h link up.0 to.0.link q (all link up.0 to.1 to.0 to.2 to.4) up.2 in
      (on.0, number_step frames h number link to.0 to.2 ∙ on.1, inr (last on.0 up.0 q to.0 to.1 to.2 to.3 to.4 on.2))
    where
      last : (n e q : ℕ) (g : Frame) (height : ℕ) → slice_get frames link ≡ Some g → link < number → Leads shapes g.at e height
          → ((n ≡ link) × (e ≡ q)) ⊎ ((g' : Frame) × (height' : ℕ) × (slice_get frames n ≡ Some g') × (n < link) × Leads shapes g'.at q height')
          → (g' : Frame) × (height' : ℕ) × (slice_get frames n ≡ Some g') × (n < number) × Leads shapes g'.at q height'
      last n e q g height get lt leads (inl h) =
          (g, height, ap (slice_get frames) h.0 ∙ get, let e = h.0 in omega (arith, e, lt), subst (λ (r : ℕ). Leads shapes g.at r height) h.1 leads)
      last n e q g height get lt leads (inr h) = (h.0, h.1, h.2, let l = h.3 in omega (arith, l, lt), h.4)

  pub walk_base : (frames : List Frame) (bound : ℕ) → AllLinked frames → ((d : ℕ) (f : Frame) → slice_get frames d ≡ Some f → f.base ≤ bound) → (h number p base link q : ℕ) → base ≤ bound → Linked c.routines shapes frames number p link → level_out c.routines h p ≡ Some q
      → (b : ℕ) × (base_out frames h base link ≡ Some b) × (b ≤ bound)
  walk_base frames bound all below zero number p base link q le linked level = (base, base_zero frames base link, le)
  walk_base frames bound all below (suc h) number p base link q le linked level =
      let up = level_more c.routines h p q level in
      let to = linked up.0 up.1 in
      let on = walk_base frames bound all below h link up.0 to.0.base to.0.link q (below link to.0 to.2) (all link up.0 to.1 to.0 to.2 to.4) up.2 in
      (on.0, base_step frames h base link to.0 to.2 ∙ on.1, on.2)

  pub record Keeps (next : Next) : Type 0 where
    pub by : GoesOn c shapes next

  trap : (t : TrapOf) → Keeps (step.Traps t)
  trap t = record { by = tt }

  at_place : (s : State) → Fits c shapes s → Keeps (step.Goes s)
  at_place s f = record { by = f }

  keeps_if : (b : Bool) (x y : Next) → Keeps x → Keeps y → Keeps (cond b x y)
  keeps_if true x y p q = p
  keeps_if false x y p q = q

  leads_if : (b : Bool) (x y p h : ℕ) → Leads shapes x p h → Leads shapes y p h → Leads shapes (cond b x y) p h
  leads_if true x y p h a b = a
  leads_if false x y p h a b = b

  keeps_cell : (o : Option ℕ) (go : ℕ → Next) → ((k : ℕ) → Keeps (go k)) → Keeps (at_cell o go)
  keeps_cell None go h = trap traps.Address
  keeps_cell (Some a) go h = h a

  -- another place in the same procedure
  goes_on : (s : State) (f : Fits c shapes s) (at top heap h : ℕ) (operands cells : List ℤ) (kept : Option ℕ) → s.top ≤ top → Leads shapes at f.at.proc h → length operands ≡ f.low + h
      → Fits c shapes (record s { at = at; top = top; heap = heap; operands = operands; cells = cells; kept = kept })
  goes_on s f at top heap h operands cells kept le leads len = record {
    low = f.low;
    own = f.own;
    at = record { proc = f.at.proc; height = h; here = leads; own_is = f.at.own_is; counts = len; under = f.at.under; room = let room = f.at.room in omega (arith, room, le) };
    wait = f.wait;
    link = f.link;
    links = f.links;
  }

  keeps_gives : (s : State) (f : Fits c shapes s) (n : ℕ) (v : ℤ) → Passes shapes s.at f.at.proc f.at.height n 1 → Keeps (gives s n v)
  keeps_gives s f n v g = at_place _ (
      goes_on s f (s.at + 1) s.top s.heap (f.at.height - n + 1) (without n s.operands ++ v ∷ []) s.cells s.kept (omega arith) g.1
      (let c = f.at.counts in let le = g.0 in omega (arith, without_len n s.operands, length-append (without n s.operands) (v ∷ []))))

  keeps_takes : (s : State) (f : Fits c shapes s) (n heap : ℕ) (cells : List ℤ) (kept : Option ℕ) → Passes shapes s.at f.at.proc f.at.height n 0 → Keeps (step.Goes (record s { at = s.at + 1; heap = heap; operands = without n s.operands; cells = cells; kept = kept }))
  keeps_takes s f n heap cells kept g = at_place _ (
      goes_on s f (s.at + 1) s.top heap (f.at.height - n + 0) (without n s.operands) cells kept (omega arith) g.1
      (let c = f.at.counts in let le = g.0 in omega (arith, without_len n s.operands)))

  -- goes on behind with all operands
  keeps_on : (s : State) (f : Fits c shapes s) (top : ℕ) (cells : List ℤ) (h : ℕ) → s.top ≤ top → h ≡ f.at.height → Leads shapes (s.at + 1) f.at.proc h → Keeps (step.Goes (record s { at = s.at + 1; top = top; cells = cells }))
  keeps_on s f top cells h le e leads = at_place _ (
      goes_on s f (s.at + 1) top s.heap f.at.height s.operands cells s.kept le (subst (λ (n : ℕ). Leads shapes (s.at + 1) f.at.proc n) e leads) f.at.counts)

  keeps_made : (s : State) (f : Fits c shapes s) (n : ℕ) (o : Option ℕ) → Passes shapes s.at f.at.proc f.at.height n 1 → Keeps (made s n o)
  keeps_made s f n None g = trap traps.Address
  keeps_made s f n (Some a) g = keeps_gives s f n (pos a) g

  keeps_indexed : (s : State) (f : Fits c shapes s) (n : ℕ) (address : ℤ) (size : ℕ) (o : Option ℕ) → Passes shapes s.at f.at.proc f.at.height n 1 → Keeps (indexed s n address size o)
  keeps_indexed s f n address size None g = trap traps.Index
  keeps_indexed s f n address size (Some k) g = keeps_made s f n _ g

  keeps_moved : (s : State) (f : Fits c shapes s) (n : ℕ) (to from : Option ℕ) → Passes shapes s.at f.at.proc f.at.height 2 0 → Keeps (moved s n to from)
  keeps_moved s f n (Some to) (Some from) g = keeps_takes s f 2 s.heap _ s.kept g
  keeps_moved s f n (Some to) None g = trap traps.Address
  keeps_moved s f n None from g = trap traps.Address

  keeps_bit : (s : State) (f : Fits c shapes s) (o : Option ℕ) → Passes shapes s.at f.at.proc f.at.height 1 1 → Keeps (bit_made s o)
  keeps_bit s f None g = trap traps.Range
  keeps_bit s f (Some k) g = keeps_gives s f 1 _ g

  keeps_span : (s : State) (f : Fits c shapes s) (low high : Option ℕ) → Passes shapes s.at f.at.proc f.at.height 2 1 → Keeps (span_made s low high)
  keeps_span s f (Some low) (Some high) g = keeps_gives s f 2 _ g
  keeps_span s f (Some low) None g = trap traps.Range
  keeps_span s f None high g = trap traps.Range

  keeps_copied : (s : State) (f : Fits c shapes s) (n o : ℕ) (from : Option ℕ) → Passes shapes s.at f.at.proc f.at.height 0 0 → Keeps (copied n o from s)
  keeps_copied s f n o None g = trap traps.Address
  keeps_copied s f n o (Some from) g = keeps_if _ _ _ (keeps_on s f (s.top + n) _ (f.at.height - 0 + 0) (omega arith) (omega arith) g.1) (trap traps.Address)

  keeps_assigned : (s : State) (f : Fits c shapes s) (n : ℕ) (kept : Option ℕ) (v done : ℤ) → Passes shapes s.at f.at.proc f.at.height n 0 → Keeps (assigned s n kept v done)
  keeps_assigned s f n kept v done g = keeps_cell _ _ (λ a. keeps_takes s f n s.heap (slice_set (slice_set s.cells a v) 1 done) kept g)

  keeps_number : (s : State) (f : Fits c shapes s) (n : ℕ) (got : Got) (v : Option ℤ) → Passes shapes s.at f.at.proc f.at.height n 0 → Keeps (number_read s n got v)
  keeps_number s f n got None g = keeps_takes s f n s.heap (slice_set s.cells 1 (pos 0)) got.kept g
  keeps_number s f n got (Some v) g = keeps_assigned s f n got.kept v (pos 1) g

  keeps_served : (s : State) (f : Fits c shapes s) (v : Service) (n : ℕ) (got : Got) → Passes shapes s.at f.at.proc f.at.height n 0 → Keeps (served v n got s)
  keeps_served s f service.Read n got g = keeps_assigned s f n got.kept _ _ g
  keeps_served s f service.ReadInt n got g = keeps_number s f n got got.value g
  keeps_served s f service.ReadCard n got g = keeps_number s f n got got.value g
  keeps_served s f service.Write n got g = keeps_takes s f n s.heap s.cells s.kept g
  keeps_served s f service.WriteString n got g = keeps_if _ _ _ (keeps_takes s f n s.heap s.cells s.kept g) (trap traps.Address)
  keeps_served s f service.WriteLn n got g = keeps_takes s f n s.heap s.cells s.kept g
  keeps_served s f service.WriteInt n got g = keeps_if _ _ _ (keeps_takes s f n s.heap s.cells s.kept g) (trap traps.Range)
  keeps_served s f service.WriteCard n got g = keeps_if _ _ _ (keeps_takes s f n s.heap s.cells s.kept g) (trap traps.Range)

  pub own_high : (valid : IsValid c shapes) (s : State) (f : Fits c shapes s) → f.at.height ≤ f.own.high
  own_high valid s f =
      let o = valid.owner s.at f.at.proc f.at.height f.at.here in
      let e : o.own ≡ f.own = some_is o.own f.own (sym o.is ∙ f.at.own_is) in
      subst (λ (p : Routine). f.at.height ≤ p.high) e o.high

  abbrev caller_of : State → Frame
  caller_of s = record { at = s.at + 1; base = s.base; top = s.top; link = s.link }

  -- the frame to which a new frame is linked, among those of the callers and the one that calls
  abbrev LinkedFor : State → (outer : Option ℕ) → (link : ℕ) → Type 0
  LinkedFor s outer link = (e : ℕ) → outer ≡ Some e → (g : Frame) × (h : ℕ) × (slice_get (s.frames ++ caller_of s ∷ []) link ≡ Some g) × (link < suc (length s.frames)) × Leads shapes g.at e h

  proc_of : (at p q h k : ℕ) → Leads shapes at p h → Leads shapes at q k → p ≡ q
  proc_of at p q h k a b = ap (λ (x : ℕ × ℕ). x.0) (some_is (p, h) (q, k) (sym a ∙ b))

  -- the links of the frames with that of the caller
  more_links : (s : State) (f : Fits c shapes s) (h : ℕ) → Leads shapes (s.at + 1) f.at.proc h → AllLinked (s.frames ++ caller_of s ∷ [])
  more_links s f h back d p k g is leads = chosen (which s.frames (caller_of s) g d is) where
    grown : (n p link : ℕ) → n ≤ length s.frames → Linked c.routines shapes s.frames n p link → Linked c.routines shapes (s.frames ++ caller_of s ∷ []) n p link
    grown n p link le linked e is =
        let to = linked e is in
        let lt = to.3 in
        (to.0, to.1, get_append s.frames (caller_of s ∷ []) link (omega (arith, lt, le)) ∙ to.2, lt, to.4)

    chosen : ((d < length s.frames) × (slice_get s.frames d ≡ Some g)) ⊎ ((d ≡ length s.frames) × (caller_of s ≡ g)) → Linked c.routines shapes (s.frames ++ caller_of s ∷ []) d p g.link
    chosen (inl w) = grown d p g.link (let lt = w.0 in omega (arith, lt)) (f.links d p k g w.1 leads)
    chosen (inr w) =
        let at_same : Leads shapes (s.at + 1) p k = subst (λ (x : Frame). Leads shapes x.at p k) (sym w.1) leads in
        let same : f.at.proc ≡ p = proc_of (s.at + 1) f.at.proc p h k back at_same in
        let n : length s.frames ≡ d = sym w.0 in
        subst (λ (x : Frame). Linked c.routines shapes (s.frames ++ caller_of s ∷ []) d p x.link) w.1
        (subst (λ (m : ℕ). Linked c.routines shapes (s.frames ++ caller_of s ∷ []) m p s.link) n
        (subst (λ (q : ℕ). Linked c.routines shapes (s.frames ++ caller_of s ∷ []) (length s.frames) q s.link) same
        (grown (length s.frames) f.at.proc s.link (omega arith) f.link)))

  keeps_called : (valid : IsValid c shapes) (s : State) (f : Fits c shapes s) (q : ℕ) (p : Routine) (n link : ℕ) → slice_get c.routines q ≡ Some p → n ≤ f.at.height → Leads shapes (s.at + 1) f.at.proc (f.at.height - n + p.result)
      → LinkedFor s p.outer link → Keeps (called p n link s)
  unfolding called
  keeps_called valid s f q p n link is params back linked =
      let high = own_high valid s f in
      let counts = f.at.counts in
      let under = f.at.under in
      let room = f.at.room in
      let there : ltb (length s.operands) n ≡ false = le-ltb _ _ (omega arith) in
      let caller : Frame = caller_of s in
      let left : length (without n s.operands) ≡ length s.operands - n = without_len n s.operands in
      let frames = s.frames ++ caller ∷ [] in
      let one_more : suc (length s.frames) ≡ length frames = omega (arith, length-append s.frames (caller ∷ [])) in
      let low = length (without n s.operands) in
      let waits : Wait c shapes frames (suc (length s.frames)) low s.top p.result = (
        caller,
        f.low,
        f.own,
        get_last s.frames caller,
        omega arith,
        record { proc = f.at.proc; height = f.at.height - n + p.result; here = back; own_is = f.at.own_is; counts = omega arith; under = under; room = room },
        Wait_same s.frames frames (length s.frames) f.low s.base f.own.result (λ k lt. get_append s.frames (caller ∷ []) k lt) f.wait,
      ) in
      let next : State = record { at = p.entry; base = s.top; top = s.top + size_of p; link = link; heap = s.heap; kept = s.kept; operands = without n s.operands; cells = with_frame_at s.cells s.top (size_of p) (drop (length s.operands - p.params) s.operands); frames = frames } in
      let outer_is : outer_of (slice_get c.routines q) ≡ p.outer = ap outer_of is in
      let fits : Fits c shapes next = record {
        low = low;
        own = p;
        at = record { proc = q; height = 0; here = valid.enters q p is; own_is = is; counts = omega arith; under = omega arith; room = omega arith };
        wait = subst (λ (m : ℕ). Wait c shapes frames m low s.top p.result) one_more waits;
        link = λ e o. (let to = linked e (sym outer_is ∙ o) in let lt = to.3 in (to.0, to.1, to.2, omega (arith, lt, one_more), to.4));
        links = more_links s f (f.at.height - n + p.result) back;
      } in
      rw there (keeps_if (ltb s.heap (s.top + size_of p)) (step.Traps traps.Memory) (step.Goes next) (trap traps.Memory) (at_place next fits))

  -- of a call by a procedure, through h links
  linked_for : (s : State) (f : Fits c shapes s) (e link h k : ℕ) → Leads shapes (s.at + 1) f.at.proc k
      → ((link ≡ length s.frames) × (f.at.proc ≡ e)) ⊎ ((g : Frame) × (height : ℕ) × (slice_get s.frames link ≡ Some g) × (link < length s.frames) × Leads shapes g.at e height)
      → (g : Frame) × (height : ℕ) × (slice_get (s.frames ++ caller_of s ∷ []) link ≡ Some g) × (link < suc (length s.frames)) × Leads shapes g.at e height
  linked_for s f e link h k back (inl w) =
      (caller_of s, k, ap (slice_get (s.frames ++ caller_of s ∷ [])) w.0 ∙ get_last s.frames (caller_of s), let n = w.0 in omega (arith, n), subst (λ (q : ℕ). Leads shapes (s.at + 1) q k) w.1 back)
  linked_for s f e link h k back (inr w) =
      let lt = w.3 in
      (w.0, w.1, get_append s.frames (caller_of s ∷ []) link lt ∙ w.2, omega (arith, lt), w.4)

  no_link : (s : State) (outer : Option ℕ) (link : ℕ) → outer ≡ None → LinkedFor s outer link
  no_link s outer link is e o = absurd (none_some e (sym is ∙ o)) where
    none_some : (e : ℕ) → None ≡ Some e → ⊥
    none_some e x = cc

  keeps_linked : (valid : IsValid c shapes) (s : State) (f : Fits c shapes s) (q links : ℕ) (can : CanCall c.routines shapes s.at f.at.proc f.at.height q links) (o : Option ℕ) → can.callee.outer ≡ o → LinksTo c.routines links f.at.proc o → Keeps (called_with can.callee s (link_of o s links))
  keeps_linked valid s f q links can None is to = keeps_called valid s f q can.callee can.callee.params 0 can.is can.params can.comes_back (no_link s can.callee.outer 0 is)
  keeps_linked valid s f q links can (Some e) is to =
      let w = walk s.frames f.links links (length s.frames) f.at.proc s.link e f.link to in
      subst (λ (o : Option ℕ). Keeps (called_with can.callee s o)) (sym w.1)
      (keeps_called valid s f q can.callee can.callee.params w.0 can.is can.params can.comes_back
      (λ e' o. linked_for s f e' w.0 links (f.at.height - can.callee.params + can.callee.result) can.comes_back
      (subst (λ (x : ℕ). ((w.0 ≡ length s.frames) × (f.at.proc ≡ x)) ⊎ ((g : Frame) × (height : ℕ) × (slice_get s.frames w.0 ≡ Some g) × (w.0 < length s.frames) × Leads shapes g.at x height)) (some_is e e' (sym is ∙ o)) w.2)))

  keeps_call : (valid : IsValid c shapes) (s : State) (f : Fits c shapes s) (q links : ℕ) → CanCall c.routines shapes s.at f.at.proc f.at.height q links → Keeps (called_at (slice_get c.routines q) links s)
  keeps_call valid s f q links can =
      subst (λ (o : Option Routine). Keeps (called_at o links s)) (sym can.is) (keeps_linked valid s f q links can can.callee.outer refl can.linked)

  keeps_reached : (valid : IsValid c shapes) (s : State) (f : Fits c shapes s) (n r : ℕ) (got : Got) (o : Option Callee) → callee_of c (top_of n s.operands) n r ≡ o → Passes shapes s.at f.at.proc f.at.height (n + 1) r → Keeps (reached c o n got s)
  keeps_reached valid s f n r got None is g = trap traps.Procedure
  keeps_reached valid s f n r got (Some (callees.Routine k)) is g =
      let w = callee_routine c (top_of n s.operands) n r k is in
      subst (λ (o : Option Routine). Keeps (called_var o (n + 1) s)) (sym w.is)
      (keeps_called valid s f k w.routine (n + 1) 0 w.is g.0 (subst (λ (m : ℕ). Leads shapes (s.at + 1) f.at.proc (f.at.height - (n + 1) + m)) (sym w.result) g.1) (no_link s w.routine.outer 0 w.alone))
  keeps_reached valid s f n r got (Some (callees.Service v)) is g =
      let w = callee_service c (top_of n s.operands) n r v is in
      keeps_served s f v (n + 1) got (g.0, subst (λ (m : ℕ). Leads shapes (s.at + 1) f.at.proc (f.at.height - (n + 1) + m)) w.result g.1)

  -- the body behind the one that has ended
  keeps_entered : (valid : IsValid c shapes) (s : State) (f : Fits c shapes s) (k : ℕ) (q : Routine) → s.frames ≡ [] → length s.operands ≤ s.base → slice_get c.routines k ≡ Some q → q.outer ≡ None → q.result ≡ 0 → c.frames_at ≤ s.base → Keeps (entered (Some q) s)
  unfolding entered
  keeps_entered valid s f k q none le is alone no_result low =
      let next : State = record s { at = q.entry; top = s.base + size_of q; link = 0; cells = cleared s.cells s.base (size_of q) } in
      let outer_is : outer_of (slice_get c.routines k) ≡ None = ap outer_of is ∙ alone in
      let fits : Fits c shapes next = record {
        low = length s.operands;
        own = q;
        at = record { proc = k; height = 0; here = valid.enters k q is; own_is = is; counts = omega arith; under = le; room = omega arith };
        wait = subst (λ (fs : List Frame). Wait c shapes fs (length fs) (length s.operands) s.base q.result) (sym none) (no_result, low);
        link = λ e o. absurd (none_some e (sym outer_is ∙ o));
        links = f.links;
      } in
      let here = within shapes q.entry (k, 0) (valid.enters k q is) in
      let long = valid.long in
      keeps_if (ltb s.heap (s.base + size_of q)) (step.NoFrame q.entry) (step.Goes next) (record { by = omega (arith, here, long) }) (at_place next fits)
    where
      none_some : (e : ℕ) → None ≡ Some e → ⊥
      none_some e x = cc

  keeps_next : (valid : IsValid c shapes) (s : State) (f : Fits c shapes s) (o : Option ℕ) → ((k : ℕ) → o ≡ Some k → (m : ℕ) × (slice_get c.bodies m ≡ Some k)) → s.frames ≡ [] → length s.operands ≤ s.base → c.frames_at ≤ s.base → Keeps (next_body c o s)
  keeps_next valid s f None there none le low = record { by = tt }
  keeps_next valid s f (Some k) there none le low =
      let m = there k refl in
      let b = valid.bodies m.0 k m.1 in
      subst (λ (o : Option Routine). Keeps (entered o s)) (sym b.1) (keeps_entered valid s f k b.0 none le b.1 b.2 b.3 low)

  body_there : (bodies : List ℕ) (o : Option Origin) (k : ℕ) → body_after bodies o ≡ Some k → (m : ℕ) × (slice_get bodies m ≡ Some k)
  body_there bodies None k is = absurd cc
  body_there bodies (Some o) k is = (o.«module» + 1, is)

  keeps_back : (valid : IsValid c shapes) (s : State) (f : Fits c shapes s) (fs : List Frame) → s.frames ≡ fs → Wait c shapes fs (length fs) f.low s.base f.own.result → length s.operands ≡ f.low + f.own.result
      → Keeps (back_to s (innermost fs) (next_body c (body_behind c s.at) s))
  keeps_back valid s f [] e w count =
      let under = f.at.under in
      keeps_next valid s f (body_behind c s.at) (λ k is. body_there c.bodies (slice_get c.origins s.at) k is) e (let zero = w.0 in omega (arith, under, count, zero)) w.1
  keeps_back valid s f (g ∷ fs) e w count =
      let front = take (length s.frames - 1) s.frames in
      let len : length s.frames ≡ suc (length fs) = ap length e ∙ omega arith in
      let n : length fs ≡ length front = sym (length-take-le (length s.frames - 1) s.frames (omega arith) ∙ omega (arith, len)) in
      let get : (k : ℕ) → k < length fs → slice_get front k ≡ slice_get s.frames k = λ k lt. get_take (length s.frames - 1) s.frames k (omega (arith, lt, len)) in
      let waits : Wait c shapes front (length fs) w.1 w.0.base w.2.result =
      Wait_same (g ∷ fs) front (length fs) w.1 w.0.base w.2.result (λ k lt. get k lt ∙ ap (λ (xs : List Frame). slice_get xs k) e) w.6 in
      let last : slice_get s.frames (length fs) ≡ Some w.0 = ap (λ (xs : List Frame). slice_get xs (length fs)) e ∙ w.3 in
      let shorter : (d p link : ℕ) → d ≤ length fs → Linked c.routines shapes s.frames d p link → Linked c.routines shapes front d p link =
      λ d p link le linked e' o. (let to = linked e' o in let lt = to.3 in (to.0, to.1, get link (omega (arith, lt, le)) ∙ to.2, lt, to.4)) in
      let fits : Fits c shapes (record s { at = w.0.at; base = w.0.base; top = w.0.top; link = w.0.link; frames = front }) = record {
        low = w.1;
        own = w.2;
        at = record { proc = w.5.proc; height = w.5.height; here = w.5.here; own_is = w.5.own_is; counts = count ∙ w.5.counts; under = w.5.under; room = w.5.room };
        wait = subst (λ (m : ℕ). Wait c shapes front m w.1 w.0.base w.2.result) n waits;
        link = subst (λ (m : ℕ). Linked c.routines shapes front m w.5.proc w.0.link) n (shorter (length fs) w.5.proc w.0.link (omega arith) (f.links (length fs) w.5.proc w.5.height w.0 last w.5.here));
        links = λ d p h x is leads. (let lt = within front d x is in shorter d p x.link (omega (arith, lt, n)) (f.links d p h x (sym (get d (omega (arith, lt, n))) ∙ is) leads));
      } in
      subst (λ (o : Option Frame). Keeps (back_to s o (next_body c (body_behind c s.at) s))) (sym w.3) (at_place _ fits)

  pub keeps : (valid : IsValid c shapes) (s : State) (f : Fits c shapes s) (op : Op) (got : Got) → IsFine c shapes s.at f.at.proc f.at.height op → Keeps (does c got op s)
  unfolding does allocated open_copied
  keeps valid s f (Push v) got g = keeps_gives s f 0 v g
  keeps valid s f (Local links o) got g =
      let w = walk_base s.frames s.base f.links (λ d x is. bases s.frames (length s.frames) f.low s.base f.own.result f.wait d x (within s.frames d x is) is) links (length s.frames) f.at.proc s.base s.link g.1.owner (omega arith) f.link g.1.linked in
      subst (λ (b : Option ℕ). Keeps (local_at s b o)) (sym w.1) (keeps_gives s f 0 _ g.0)
  keeps valid s f Load got g = keeps_cell _ _ (λ a. keeps_gives s f 1 _ g)
  keeps valid s f Store got g = keeps_cell _ _ (λ a. keeps_takes s f 2 s.heap (slice_set s.cells a (top_of 0 s.operands)) s.kept g)
  keeps valid s f (Move n) got g = keeps_if _ _ _ (keeps_takes s f 2 s.heap s.cells s.kept g) (keeps_moved s f n _ _ g)
  keeps valid s f Dup got g = at_place _ (
      goes_on s f (s.at + 1) s.top s.heap (f.at.height - 1 + 2) (without 0 s.operands ++ top_of 0 s.operands ∷ []) s.cells s.kept (omega arith) g.1
      (let c = f.at.counts in let le = g.0 in omega (arith, without_len 0 s.operands, length-append (without 0 s.operands) (top_of 0 s.operands ∷ []))))
  keeps valid s f (Offset n) got g = keeps_made s f 1 _ g
  keeps valid s f (Index low n size) got g = keeps_indexed s f 2 _ size _ g
  keeps valid s f (IndexOpen size) got g = keeps_indexed s f 3 _ size _ g
  keeps valid s f (Check low high) got g = let le = g.0 in keeps_if _ _ _ (keeps_on s f s.top s.cells (f.at.height - 1 + 1) (omega arith) (omega (arith, le)) g.1) (trap traps.Range)
  keeps valid s f Nil got g = let le = g.0 in keeps_if _ _ _ (trap traps.Nil) (keeps_on s f s.top s.cells (f.at.height - 1 + 1) (omega arith) (omega (arith, le)) g.1)
  keeps valid s f (Add kind) got g = keeps_if _ _ _ (keeps_gives s f 2 _ g) (trap traps.Range)
  keeps valid s f (Sub kind) got g = keeps_if _ _ _ (keeps_gives s f 2 _ g) (trap traps.Range)
  keeps valid s f (Mul kind) got g = keeps_if _ _ _ (keeps_gives s f 2 _ g) (trap traps.Range)
  keeps valid s f (Div kind) got g = keeps_if _ _ _ (keeps_if _ _ _ (keeps_gives s f 2 _ g) (trap traps.Range)) (trap traps.Divisor)
  keeps valid s f (Mod kind) got g = keeps_if _ _ _ (keeps_if _ _ _ (keeps_gives s f 2 _ g) (trap traps.Range)) (trap traps.Divisor)
  keeps valid s f Neg got g = keeps_if _ _ _ (keeps_gives s f 1 _ g) (trap traps.Range)
  keeps valid s f Abs got g = keeps_if _ _ _ (keeps_gives s f 1 _ g) (trap traps.Range)
  keeps valid s f Not got g = keeps_gives s f 1 _ g
  keeps valid s f Eq got g = keeps_gives s f 2 _ g
  keeps valid s f Ne got g = keeps_gives s f 2 _ g
  keeps valid s f Lt got g = keeps_gives s f 2 _ g
  keeps valid s f Le got g = keeps_gives s f 2 _ g
  keeps valid s f Gt got g = keeps_gives s f 2 _ g
  keeps valid s f Ge got g = keeps_gives s f 2 _ g
  keeps valid s f Union got g = keeps_gives s f 2 _ g
  keeps valid s f Diff got g = keeps_gives s f 2 _ g
  keeps valid s f Inter got g = keeps_gives s f 2 _ g
  keeps valid s f SymDiff got g = keeps_gives s f 2 _ g
  keeps valid s f Subset got g = keeps_gives s f 2 _ g
  keeps valid s f Superset got g = keeps_gives s f 2 _ g
  keeps valid s f In got g = keeps_gives s f 2 _ g
  keeps valid s f Bit got g = keeps_bit s f _ g
  keeps valid s f Span got g = keeps_span s f _ _ g
  keeps valid s f (Jump to) got g = at_place _ (goes_on s f to s.top s.heap f.at.height s.operands s.cells s.kept (omega arith) g f.at.counts)
  keeps valid s f (JumpFalse to) got g =
      let le = g.0.0 in
      let counts = f.at.counts in
      let h : f.at.height - 1 + 0 ≡ f.at.height - 1 = omega arith in
      at_place _ (goes_on s f (cond (is_zero (top_of 0 s.operands)) to (s.at + 1)) s.top s.heap (f.at.height - 1) (without 1 s.operands) s.cells s.kept (omega arith)
      (leads_if (is_zero (top_of 0 s.operands)) to (s.at + 1) f.at.proc (f.at.height - 1) g.1 (subst (λ (n : ℕ). Leads shapes (s.at + 1) f.at.proc n) h g.0.1))
      (omega (arith, without_len 1 s.operands)))
  keeps valid s f (AndJump to) got g = keeps_if _ _ _ (at_place _ (goes_on s f to s.top s.heap f.at.height s.operands s.cells s.kept (omega arith) g.1 f.at.counts)) (keeps_takes s f 1 s.heap s.cells s.kept g.0)
  keeps valid s f (OrJump to) got g = keeps_if _ _ _ (keeps_takes s f 1 s.heap s.cells s.kept g.0) (at_place _ (goes_on s f to s.top s.heap f.at.height s.operands s.cells s.kept (omega arith) g.1 f.at.counts))
  keeps valid s f (More n) got g = keeps_gives s f 2 _ g
  keeps valid s f (Call q links) got g = keeps_call valid s f q links g
  keeps valid s f (CallService v) got g = keeps_served s f v (params_of v) got g.0
  keeps valid s f (CallVar n r) got g = keeps_reached valid s f n r got (callee_of c (top_of n s.operands) n r) refl g
  keeps valid s f Return got g =
      let e : g.own ≡ f.own = some_is g.own f.own (sym g.is ∙ f.at.own_is) in
      keeps_back valid s f s.frames refl f.wait (f.at.counts ∙ ap (λ (n : ℕ). f.low + n) (g.height ∙ ap (λ (p : Routine). p.result) e))
  keeps valid s f (Trap t) got g = trap t
  keeps valid s f (New n) got g = keeps_if (ltb s.heap (s.top + n)) _ _ (trap traps.Memory) (keeps_cell _ _ (λ a. keeps_takes s f 1 (s.heap - n) (slice_set (cleared s.cells (s.heap - n) n) a (pos (s.heap - n))) s.kept g.0))
  keeps valid s f (OpenCopy o size) got g = keeps_if _ _ _ (trap traps.Memory) (keeps_copied s f _ o _ g.0)
  keeps valid s f Halt got g = record { by = tt }
  keeps valid s f Cap got g = keeps_gives s f 1 _ g
