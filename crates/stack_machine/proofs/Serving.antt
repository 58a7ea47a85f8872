-- A step that calls a procedure of InOut, and one that calls none.
use Rattle.std.proofs.Common.{◌≡◌, ℕ, zero, suc, ◌+◌, ◌<◌, ◌≤◌, List, [], ◌∷◌, ◌++◌, length, take, drop, Option, Some, None, refl, sym, ap, ◌∙◌, subst, arith, ℤ, pos, true}
use Rattle.std.specs.Prelude.{IfSome, slice_get, option_map, Result, Ok, Err, IfOk, IfErr, OnErr}
use Rattle.m2_io.specs.Causes.{Rose}
use Rattle.stack_machine.specs.declared.run.Failure.{Failure}
use Rattle.stack_machine.specs.declared.run.Failure.TheVariants as failures
use Rattle.m2_io.specs.Written.{with_bytes, WritesPart}
use Rattle.stack_machine.specs.declared.op.Op.{Op}
use Rattle.stack_machine.specs.declared.op.Op.TheVariants.{CallService, CallVar}
use Rattle.stack_machine.specs.declared.op.Service.{Service}
use Rattle.stack_machine.specs.declared.op.Service.TheVariants as service
use Rattle.stack_machine.specs.declared.next.Next.{Next as CodeNext}
use Rattle.stack_machine.specs.declared.reading.Reading.{Reading}
use Rattle.stack_machine.specs.State.{State, Program}
use Rattle.stack_machine.specs.InOut.{Got, Reads, params_of, printed, got_by}
use Rattle.stack_machine.specs.Step.{Next, does, served, step}
use Rattle.stack_machine.specs.Able.{Comes}
use Rattle.stack_machine.specs.Runs.{asked_by, asked, prints_by, gets_by, service_in}
use Rattle.stack_machine.specs.Readings.{Taken, got_of, IsReading}
use Rattle.stack_machine.specs.Stepping.{Serves, ServedSo, HasServed, Stepped, Broken, FailedWith}
use Rattle.stack_machine.proofs.Written.{none_written}
use Rattle.stack_machine.specs.declared.code.Callee.{Callee}
use Rattle.stack_machine.specs.declared.code.Callee.TheVariants as callees
use Rattle.stack_machine.specs.Operands.{top_of}
use Rattle.stack_machine.specs.Step.{callee_of, reached}
use Rattle.stack_machine.specs.Ready.{Shapes, IsFine}
use Rattle.stack_machine.proofs.Callees.{callee_service}

pub told_all : (left : Option (List ℕ)) (P : List ℕ → Type 0) → ((l : List ℕ) → left ≡ Some l → P l) → IfSome left P
told_all None P h = tt
told_all (Some l) P h = h l refl

pub told_map : (left : Option (List ℕ)) (P Q : List ℕ → Type 0) → IfSome left P → ((l : List ℕ) → left ≡ Some l → P l → Q l) → IfSome left Q
told_map None P Q h f = tt
told_map (Some l) P Q h f = f l refl h

-- a callee that is a procedure of InOut
service_is : (o : Option Callee) (v : Service) → service_in o ≡ Some v → o ≡ Some (callees.Service v)
service_is None v e = absurd cc
service_is (Some (callees.Routine k)) v e = absurd cc
service_is (Some (callees.Service w)) v e = ap (λ (x : Service). Some (callees.Service x)) (some_service w v e) where
  some_service : (x y : Service) → Some x ≡ Some y → x ≡ y
  some_service x y e = cc

-- what was read decides, and not what is left
served_by : (v : Service) (n : ℕ) (got got' : Got) (s : State) → got.value ≡ got'.value → got.kept ≡ got'.kept → served v n got s ≡ served v n got' s
served_by service.Read n got got' s e f = rw (e, f) refl
served_by service.ReadInt n got got' s e f = rw (e, f) refl
served_by service.ReadCard n got got' s e f = rw (e, f) refl
served_by service.Write n got got' s e f = refl
served_by service.WriteString n got got' s e f = refl
served_by service.WriteLn n got got' s e f = refl
served_by service.WriteInt n got got' s e f = refl
served_by service.WriteCard n got got' s e f = refl

pub served_told : (v : Service) (n : ℕ) (s new : State) (next : CodeNext) (r : Reading) (left left' : Option (List ℕ)) → IfSome left (λ l. IsReading r (got_by v s.kept l) left') → Comes next (served v n (got_of r []) s) s new
    → IfSome left (λ l. ServedSo v n s next new l left')
served_told v n s new next r left left' h comes =
    told_map left (λ l. IsReading r (got_by v s.kept l) left') (λ l. ServedSo v n s next new l left') h
    (λ l is reading. record {
      comes = subst (λ (x : Next). Comes next x s new) (served_by v n (got_of r []) (got_by v s.kept l) s reading.value reading.kept) comes;
      left_is = reading.left_is;
    })

pub has_served : (v : Service) (n : ℕ) (s new : State) (r : Result CodeNext Failure) (left left' w0 w : Option (List ℕ)) → IfOk r (λ next. IfSome left (λ l. ServedSo v n s next new l left')) → w ≡ with_bytes w0 (printed v s.cells s.operands)
    → IfOk r (λ next. IfSome left (λ l. HasServed v n s next new l w0 w left'))
has_served v n s new (Err e) left left' w0 w h written = tt
has_served v n s new (Ok next) left left' w0 w h written =
    told_map left (λ l. ServedSo v n s next new l left') (λ l. HasServed v n s next new l w0 w left') h (λ l is so. record { comes = so.comes; written = written; left_is = so.left_is })

-- ---- which operations call one

pub serves_service : (p : Program) (op : Op) (s : State) (v : Service) (n : ℕ) → op ≡ CallService v → n ≡ params_of v → Serves p op s v n
unfolding does
serves_service p op s v n e same = subst (λ (o : Op). Serves p o s v n) (sym e) (subst (λ (k : ℕ). Serves p (CallService v) s v k) (sym same) (record { does_so = λ got. refl; params = omega arith; takes_so = refl }))

pub serves_variable : (p : Program) (op : Op) (s : State) (v : Service) (n r : ℕ) → op ≡ CallVar n r → Some v ≡ service_in (callee_of p (top_of n s.operands) n r) → Serves p op s v (n + 1)
unfolding does
serves_variable p op s v n r e is =
    let there = service_is (callee_of p (top_of n s.operands) n r) v (sym is) in
    let w = callee_service p (top_of n s.operands) n r v there in
    let params = w.params in
    subst (λ (o : Op). Serves p o s v (n + 1)) (sym e) (record { does_so = λ got. ap (λ (o : Option Callee). reached p o n got s) there; params = omega (arith, params); takes_so = refl })

pub not_asked : (p : Program) (op : Op) (s : State) → ((v : Service) → op ≡ CallService v → ⊥) → ((n r : ℕ) → op ≡ CallVar n r → ⊥) → asked_by p (Some op) s ≡ None
not_asked p (CallService v) s a b = absurd (a v refl)
not_asked p (CallVar n r) s a b = absurd (b n r refl)
not_asked p op s a b = refl

-- ---- failures

take_whole : (xs : List ℕ) → take (length xs) xs ≡ xs
take_whole [] = refl
take_whole (x ∷ xs) = ap (λ (t : List ℕ). x ∷ t) (take_whole xs)

all_part : (w0 w : Option (List ℕ)) (bytes : List ℕ) → w ≡ with_bytes w0 bytes → WritesPart w0 bytes w
all_part w0 w bytes e = (length bytes, e ∙ ap (with_bytes w0) (sym (take_whole bytes)))

pub broken_print : (bytes : List ℕ) (left w0 w : Option (List ℕ)) → WritesPart w0 bytes w → IfSome left (λ l. Broken bytes l w0 w left)
broken_print bytes left w0 w h = told_all left (λ l. Broken bytes l w0 w left) (λ l is. record { part = h; taken = 0; left_is = is })

pub broken_read : (bytes : List ℕ) (left left' w0 w : Option (List ℕ)) → w ≡ with_bytes w0 bytes → Taken left left' → IfSome left (λ l. Broken bytes l w0 w left')
broken_read bytes left left' w0 w e h = told_map left (λ l. (n : ℕ) × (left' ≡ Some (drop n l))) (λ l. Broken bytes l w0 w left') h (λ l is t. record { part = all_part w0 w bytes e; taken = t.0; left_is = t.1 })

pub failed_read : (r : Result CodeNext Failure) (p0 p1 k0 k1 : ℕ) → IfErr r (λ e. e ≡ failures.Read) → OnErr r (Rose k0 k1) → IfErr r (λ e. FailedWith e p0 p1 k0 k1)
failed_read (Ok next) p0 p1 k0 k1 is h = tt
failed_read (Err e) p0 p1 k0 k1 is h = subst (λ (x : Failure). FailedWith x p0 p1 k0 k1) (sym is) h

-- what was handed on before a read that failed
pub handed_before : (r : Result CodeNext Failure) (v : Service) (kept : ℕ) → OnErr r (Reads v) → (Reads v → kept ≡ 0) → IfErr r (λ e. e ≡ failures.Read → kept ≡ 0)
handed_before (Ok next) v kept reads h = tt
handed_before (Err e) v kept reads h = λ is. h reads

some_asked : (p : Program) (op : Op) (s : State) (v : Service) → slice_get p.ops s.at ≡ Some op → Some v ≡ asked_by p (Some op) s → asked p s ≡ Some v
unfolding asked
some_asked p op s v is e = ap (λ (o : Option Op). asked_by p o s) is ∙ sym e

none_asked : (p : Program) (op : Op) (s : State) → slice_get p.ops s.at ≡ Some op → None ≡ asked_by p (Some op) s → asked p s ≡ None
unfolding asked
none_asked p op s is e = ap (λ (o : Option Op). asked_by p o s) is ∙ sym e

-- a step that calls a procedure of InOut
pub stepped_served : (p : Program) (op : Op) (s new : State) (next : CodeNext) (v : Service) (n : ℕ) (left left' w0 w : Option (List ℕ)) → slice_get p.ops s.at ≡ Some op → Some v ≡ asked_by p (Some op) s → ((got : Got) → step p got s ≡ does p got op s) → Serves p op s v n
    → IfSome left (λ l. HasServed v n s next new l w0 w left') → IfSome left (λ l. Stepped p s next new l w0 w left')
stepped_served p op s new next v n left left' w0 w is asks steps serves h =
    let a = some_asked p op s v is asks in
    told_map left (λ l. HasServed v n s next new l w0 w left') (λ l. Stepped p s next new l w0 w left') h
    (λ l told has. subst (λ (o : Option Service). Comes next (step p (gets_by o s l) s) s new × (w ≡ with_bytes w0 (prints_by o s)) × (left' ≡ Some (gets_by o s l).rest) → Stepped p s next new l w0 w left') a
    (λ t. record { comes = t.0; written = t.1; left_is = t.2 })
    (subst (λ (x : Next). Comes next x s new) (sym (steps (got_by v s.kept l) ∙ serves.does_so (got_by v s.kept l))) has.comes, has.written, has.left_is))

-- a step that calls none
pub stepped_alone : (p : Program) (op : Op) (s new : State) (next : CodeNext) (left w : Option (List ℕ)) → slice_get p.ops s.at ≡ Some op → None ≡ asked_by p (Some op) s → ((got : Got) → step p got s ≡ does p got op s)
    → ((got : Got) → Comes next (does p got op s) s new) → IfSome left (λ l. Stepped p s next new l w w left)
stepped_alone p op s new next left w is asks steps comes =
    let a = none_asked p op s is asks in
    told_all left (λ l. Stepped p s next new l w w left)
    (λ l told. subst (λ (o : Option Service). Comes next (step p (gets_by o s l) s) s new × (w ≡ with_bytes w (prints_by o s)) × (left ≡ Some (gets_by o s l).rest) → Stepped p s next new l w w left) a
    (λ t. record { comes = t.0; written = t.1; left_is = t.2 })
    (let got : Got = record { value = None; kept = s.kept; rest = l } in subst (λ (x : Next). Comes next x s new) (sym (steps got)) (comes got), none_written w, told))

pub broken_served : (p : Program) (op : Op) (s : State) (v : Service) (left left' w0 w : Option (List ℕ)) → slice_get p.ops s.at ≡ Some op → Some v ≡ asked_by p (Some op) s
    → IfSome left (λ l. Broken (printed v s.cells s.operands) l w0 w left') → IfSome left (λ l. Broken (prints_by (asked p s) s) l w0 w left')
broken_served p op s v left left' w0 w is asks h =
    let a = some_asked p op s v is asks in
    subst (λ (o : Option Service). IfSome left (λ l. Broken (prints_by o s) l w0 w left')) (sym a) h

-- where a procedure of InOut is called, InOut is imported
pub in_out_there : (c : Program) (shapes : Shapes) (k p h : ℕ) (op : Op) (s : State) (v : Service) → IsFine c shapes k p h op → asked_by c (Some op) s ≡ Some v → c.has_in_out ≡ true
in_out_there c shapes k p h (CallService w) s v g e = g.1
in_out_there c shapes k p h (CallVar n r) s v g e = (callee_service c (top_of n s.operands) n r v (service_is (callee_of c (top_of n s.operands) n r) v e)).there
in_out_there c shapes k p h op s v g e = absurd cc

-- ---- the answer of a call

pub ok_stepped : (p : Program) (op : Op) (s new : State) (r : Result CodeNext Failure) (v : Service) (n : ℕ) (left left' w0 w : Option (List ℕ)) → slice_get p.ops s.at ≡ Some op → Some v ≡ asked_by p (Some op) s → ((got : Got) → step p got s ≡ does p got op s) → Serves p op s v n
    → IfOk r (λ next. IfSome left (λ l. HasServed v n s next new l w0 w left')) → IfOk r (λ next. IfSome left (λ l. Stepped p s next new l w0 w left'))
ok_stepped p op s new (Err e) v n left left' w0 w is asks steps serves h = tt
ok_stepped p op s new (Ok next) v n left left' w0 w is asks steps serves h = stepped_served p op s new next v n left left' w0 w is asks steps serves h
