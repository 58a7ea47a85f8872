-- The heights of arguments, each of which leaves the cells of its parameter, and of calls that give a value.
use Rattle.std.specs.Prelude.{◌≡◌, refl, ℕ, ◌+◌, ◌-◌, ◌==◌, Bool, true, false, not, ◌&&◌, ◌||◌, if◌then◌else◌, List, [], ◌∷◌, Option, Some, None, pos, length, min, is_some}
use Rattle.std.proofs.Common.{sym, subst, arith, zero-add}
use Rattle.m2_base.specs.declared.rows.RowMeaning.TheVariants.{Array, OpenArray}
use Rattle.code_form.specs.declared.instr.Instr.TheVariants.{Push, Local, Load, Move, Call, CallX}
use Rattle.block_code.proofs.Moves.{Moves-then, Moves-none, Moves-raise, plain-moves, text-moves, call-moves}
use Rattle.block_code.proofs.ValueHeights.{with_operand, GoodAs, Good, Valued, as_value-good, both_ways}
use Rattle.block_code.proofs.Functions.{fitted-moves, assigned-good}
use Rattle.code_form.specs.Valid.{jump_of}
use Rattle.code_form.specs.declared.instr.Instr.{Instr}
use Rattle.block_code.specs.Arguments.{after_argument, alike, argument, array_argument, by_address, by_mode, by_value, checked_mode, is_variable, open_argument, open_element, string_copy, value_argument}
use Rattle.block_code.specs.Calls.{call_code, Called, allowed, allowed_by_type, call_coded, called, cells_of, cells_of_all, is_same_truth, lacking_call, links_to, no_call, of_target, of_variable, procedure_call, standard_call}
use Rattle.block_code.specs.Coded.{coded, in_error, Coded, characters}
use Rattle.block_code.specs.Expressions.{by_called, passed, standard}
use Rattle.block_code.specs.Heights.{Moves}
use Rattle.block_code.specs.Parts.{Part, call, plain, text, ◌⨟◌}
use Rattle.block_code.specs.ProcedureNames.{Target, import_of_target, is_foreign, target_of_procedure}
use Rattle.block_code.specs.StandardFunctions.{high_code, high_of_range}
use Rattle.block_code.specs.StandardProcedures.{is_function, takes_count}
use Rattle.block_code.specs.Values.{as_value, assigned_to}
use Rattle.m2_base.specs.Gives.{Gives, gives}
use Rattle.m2_base.specs.Standard.{character}
use Rattle.m2_base.specs.Statics.Assignable.{is_open_array, is_procedure_type}
use Rattle.m2_base.specs.Statics.Builtins.{builtin_of}
use Rattle.m2_base.specs.Statics.Cells.{capped}
use Rattle.m2_base.specs.Statics.Contexts.{Context, Scene, refuse}
use Rattle.m2_base.specs.Statics.Diagnostics.{not_a_procedure, not_a_variable, not_assignable, wrong_argument, wrong_count}
use Rattle.m2_base.specs.Statics.NamedOperands.{is_in_error}
use Rattle.m2_base.specs.Statics.Operands.{is_bad}
use Rattle.m2_base.specs.Statics.TypeParts.{Parameter, parameters, result_of_type}
use Rattle.m2_base.specs.Statics.Types.{is_broken, is_same, kind_of, range_of, size_of}
use Rattle.m2_base.specs.declared.builtins.Builtin.{Builtin}
use Rattle.m2_base.specs.declared.operands.Operand.{Operand}
use Rattle.m2_base.specs.declared.operands.Operand.TheVariants.{Computed, InError, ModuleName, NotConstant, Procedure, StandardProcedure, StringConstant, Variable}
use Rattle.m2_base.specs.declared.rows.Place.{Place}
use Rattle.m2_base.specs.declared.rows.RowMeaning.{RowMeaning}

pub Moves-at : (p : Part) (m m' n n' : ℕ) → m ≡ m' → n ≡ n' → Moves m p n → Moves m' p n'
Moves-at p m m' n n' e f g =
    let P : ℕ → Type 0 = λ k. Moves k p n' in
    let Q : ℕ → Type 0 = λ k. Moves m p k in
    subst P e (subst Q f g)

-- one part that leaves m, then one that leaves n
Moves-after : (a b : Part) (m n : ℕ) → Moves 0 a m → Moves 0 b n → Moves 0 (a ⨟ b) (m + n)
Moves-after a b m n f g =
    Moves-then a b 0 m (m + n) f (Moves-at b (0 + m) m (n + m) (m + n) (zero-add m) (omega arith) (Moves-raise b 0 n m g))

-- an argument's code leaves so many cells
abbrev pub Passes : ℕ → Option Part → Type 0
Passes n None = Unit {0}
Passes n (Some p) = Moves 0 p n

copy-moves : (n : ℕ) (cs : List ℕ) → Moves 0 (string_copy n cs) 1
copy-moves n cs = λ at.
    Moves-then (plain (Local 0 at.cell ∷ [])) (text cs ⨟ plain (Move (min (length cs + 1) n) ∷ Local 0 at.cell ∷ [])) 0 1 1
    (plain-moves (Local 0 at.cell ∷ []) 0 1 refl)
    (Moves-then (text cs) (plain (Move (min (length cs + 1) n) ∷ Local 0 at.cell ∷ [])) 1 2 1
    (Moves-raise (text cs) 0 1 1 (text-moves cs))
    (plain-moves (Move (min (length cs + 1) n) ∷ Local 0 at.cell ∷ []) 2 1 refl))
    (record at { cell = capped (at.cell + n) })

value_go : (c : Context) (t : Place) (o : Operand) (code high : Part) → Valued c.scene (with_operand o code high)
    → Passes 1 (value_argument c t (with_operand o code high))
value_go c t InError code high v = tt
value_go c t NotConstant code high v = absurd v.0
value_go c t (StringConstant n l) code high v = copy-moves (size_of c.scene t) (characters c.source n)
value_go c t o code high v = fitted-moves c t (with_operand o code high) v refl

address_go : (c : Context) (t : Place) (at : ℕ) (o : Operand) (code high : Part) → GoodAs c.scene code high o
    → Passes 1 (by_address c t at (with_operand o code high)).value
address_go c t at (Variable u) code high g =
    both_ways (λ r. Passes 1 r.value) (is_same c.scene t u) (gives (Some code)) (refuse c at wrong_argument None) g.0 tt
address_go c t at o code high g = tt

high-moves : (scene : Scene) (x : Coded) (m : RowMeaning) → Moves 0 x.high 1 → Moves 0 (high_code scene x m) 1
high-moves scene x (Array i t s) h = plain-moves (Push (high_of_range (range_of scene i)) ∷ []) 0 1 refl
high-moves scene x m h = h

alike-good : (c : Context) (elem : Place) (at : ℕ) (x : Coded) (m : RowMeaning) (part : Place) → Moves 0 x.code 1 → Moves 0 x.high 1
    → Passes 2 (alike c elem at x m part).value
alike-good c elem at x m part g h =
    both_ways (λ r. Passes 2 r.value) (is_broken c.scene part) (gives None)
    (if is_same c.scene part elem then gives (Some (x.code ⨟ high_code c.scene x m)) else refuse c at wrong_argument None) tt
    (both_ways (λ r. Passes 2 r.value) (is_same c.scene part elem) (gives (Some (x.code ⨟ high_code c.scene x m))) (refuse c at wrong_argument None)
    (Moves-after x.code (high_code c.scene x m) 1 1 g (high-moves c.scene x m h)) tt)

array-passes : (c : Context) (elem : Place) (at : ℕ) (x : Coded) (m : RowMeaning) → Moves 0 x.code 1 → Moves 0 x.high 1
    → Passes 2 (array_argument c elem at x m).value
array-passes c elem at x (Array i t s) g h =
    both_ways (λ r. Passes 2 r.value) (is_broken c.scene i) (gives None) (alike c elem at x (Array i t s) t) tt
    (alike-good c elem at x (Array i t s) t g h)
array-passes c elem at x (OpenArray t) g h = alike-good c elem at x (OpenArray t) t g h
array-passes c elem at x m g h = tt

open_go : (c : Context) (elem : Place) (at : ℕ) (o : Operand) (code high : Part) → GoodAs c.scene code high o
    → Passes 2 (open_argument c elem at (with_operand o code high) o).value
open_go c elem at (StringConstant n l) code high g =
    both_ways (λ r. Passes 2 r.value) (is_same c.scene elem character)
    (gives (Some (text (characters c.source n) ⨟ plain (Push (pos (l - 1)) ∷ [])))) (refuse c at wrong_argument None)
    (Moves-after (text (characters c.source n)) (plain (Push (pos (l - 1)) ∷ [])) 1 1 (text-moves (characters c.source n)) (plain-moves (Push (pos (l - 1)) ∷ []) 0 1 refl)) tt
open_go c elem at (Variable u) code high g = array-passes c elem at (with_operand (Variable u) code high) (kind_of c.scene u) g.0 g.1
open_go c elem at o code high g = tt

abbrev parameter : Place → Bool → Parameter
parameter t b = record { typ = t; by_ref = b }

-- by the cells that the parameter takes
by_size : (c : Context) (t : Place) (b : Bool) (a d : Gives (Option Part)) → Passes 2 a.value → Passes 1 d.value
    → Passes (cells_of c.scene (parameter t b)) (if is_open_array c.scene t then a else d).value
by_size c t b a d p q = go (is_open_array c.scene t)
  where
    go : (o : Bool) → Passes (if o then 2 else 1) (if o then a else d).value
    go true = p
    go false = q

passes_none : (n : ℕ) → Passes n None
passes_none n = tt

ref-good : (c : Context) (t : Place) (at : ℕ) (x : Coded) → Good c.scene x → Passes (cells_of c.scene (parameter t true)) (by_mode c (parameter t true) at x).value
ref-good c t at x g =
    by_size c t true (open_argument c (open_element (kind_of c.scene t)) at x x.operand) (by_address c t at x)
    (open_go c (open_element (kind_of c.scene t)) at x.operand x.code x.high g) (address_go c t at x.operand x.code x.high g)

val-good : (c : Context) (t : Place) (at : ℕ) (x : Coded) → Valued c.scene x → Passes (cells_of c.scene (parameter t false)) (by_mode c (parameter t false) at x).value
val-good c t at x v =
    by_size c t false (open_argument c (open_element (kind_of c.scene t)) at x x.operand)
    (by_value c t at x)
    (open_go c (open_element (kind_of c.scene t)) at x.operand x.code x.high v.0)
    (let y : Coded = (assigned_to c t at not_assignable x).value in
    value_go c t y.operand y.code y.high (assigned-good c t at not_assignable x v))

checked_good : (c : Context) (t : Place) (b : Bool) (at : ℕ) (x : Coded) → Passes (cells_of c.scene (parameter t b)) (by_mode c (parameter t b) at x).value
    → Passes (cells_of c.scene (parameter t b)) (checked_mode c (parameter t b) at x).value
checked_good c t b at x p =
    both_ways (λ r. Passes (cells_of c.scene (parameter t b)) r.value) (is_bad x.operand || is_in_error c.scene t) (gives None)
    (if b && not (is_variable x.operand) then refuse c at not_a_variable None else by_mode c (parameter t b) at x)
    (passes_none (cells_of c.scene (parameter t b)))
    (both_ways (λ r. Passes (cells_of c.scene (parameter t b)) r.value) (b && not (is_variable x.operand)) (refuse c at not_a_variable None)
    (by_mode c (parameter t b) at x) (passes_none (cells_of c.scene (parameter t b))) p)

argument_go : (c : Context) (t : Place) (b : Bool) (at : ℕ) (x : Coded) → Good c.scene x
    → Passes (cells_of c.scene (parameter t b)) (argument c (parameter t b) at x).value
argument_go c t true at x g = checked_good c t true at x (ref-good c t at x g)
argument_go c t false at x g =
    checked_good c t false at (as_value c at x).value (val-good c t at (as_value c at x).value (as_value-good c at x g))

-- an argument leaves the cells of its parameter
pub argument-good : (c : Context) (p : Parameter) (at : ℕ) (x : Coded) → Good c.scene x → Passes (cells_of c.scene p) (argument c p at x).value
argument-good c p at x g = argument_go c p.typ p.by_ref at x g

pub after-good : (m n : ℕ) (a b : Option Part) → Passes m a → Passes n b → Passes (m + n) (after_argument a b)
after-good m n (Some a) (Some b) p q = Moves-after a b m n p q
after-good m n (Some a) None p q = tt
after-good m n None b p q = tt

-- ---- what is called

abbrev pub GoodCall : Bool → Called → Type 0
GoodCall value (standard_call f) = is_function f ≡ value
GoodCall value (procedure_call ps before i result more) = (is_some result ≡ value) × Moves 0 before more × (jump_of i ≡ None)
GoodCall value (lacking_call ps) = Unit {0}
GoodCall value no_call = Unit {0}

same : (a b : Bool) → not (is_same_truth a b) ≡ false → b ≡ a
same true true e = refl
same true false e = absurd cc
same false true e = absurd cc
same false false e = refl

-- where the test doesn't hold
pub unless_true : {A : Type 0} (P : A → Type 0) (t : Bool) (a b : A) → P a → (t ≡ false → P b) → P (if t then a else b)
unless_true P true a b p q = p
unless_true P false a b p q = q refl

allowed-good : (c : Context) (at : ℕ) (value found count : Bool) (what : Called) → (found ≡ value → GoodCall value what)
    → GoodCall value (allowed c at value found count what).value
allowed-good c at value found count what g =
    unless_true (λ r. GoodCall value r.value) (not (is_same_truth value found)) (refuse c at not_a_procedure no_call)
    (if not count then refuse c at wrong_count no_call else gives what) tt
    (λ e. both_ways (λ r. GoodCall value r.value) (not count) (refuse c at wrong_count no_call) (gives what) tt
    (g (same value found e)))

by_type-good : (c : Context) (at : ℕ) (value : Bool) (n : ℕ) (t : Place) (what : Called) → (is_some (result_of_type c.scene t) ≡ value → GoodCall value what)
    → GoodCall value (allowed_by_type c at value n t what).value
by_type-good c at value n t what g =
    allowed-good c at value (is_some (result_of_type c.scene t)) (n == length (parameters c.scene t)) what g

target-good : (scene : Scene) (value : Bool) (t : Place) (p : Option Target) → is_some (result_of_type scene t) ≡ value → GoodCall value (of_target scene t p)
target-good scene value t None e = tt
target-good scene value t (Some p) e = (
  e,
  Moves-none 0,
  both_ways (λ i. jump_of i ≡ None) (is_foreign scene.block p) (CallX (import_of_target scene.block p) p.number)
      (Call p.number (links_to scene.block p.typ.scope)) refl refl,
)

called_go : (c : Context) (value : Bool) (at n : ℕ) (o : Operand) (code high : Part) → GoodAs c.scene code high o
    → GoodCall value (called c value at n (with_operand o code high)).value
called_go c value at n (StandardProcedure k) code high g =
    allowed-good c at value (is_function (builtin_of k)) (takes_count (builtin_of k) n) (standard_call (builtin_of k)) (λ e. e)
called_go c value at n (Procedure name t k s) code high g =
    by_type-good c at value n t (of_target c.scene t (target_of_procedure c.scene name t k))
    (target-good c.scene value t (target_of_procedure c.scene name t k))
called_go c value at n (Variable t) code high g =
    both_ways (λ r. GoodCall value r.value) (is_procedure_type c.scene t) (allowed_by_type c at value n t (of_variable c.scene t code))
    (refuse c at not_a_procedure no_call)
    (by_type-good c at value n t (of_variable c.scene t code)
    (λ e. (e, Moves-then code (plain (Load ∷ [])) 0 1 1 g.0 (plain-moves (Load ∷ []) 1 1 refl), refl))) tt
called_go c value at n (ModuleName s) code high g = tt
called_go c value at n InError code high g = tt
called_go c value at n o code high g = tt

pub called-good : (c : Context) (value : Bool) (at n : ℕ) (x : Coded) → Good c.scene x → GoodCall value (called c value at n x).value
called-good c value at n x g = called_go c value at n x.operand x.code x.high g

-- a call that gives a value leaves it
call-good : (scene : Scene) (ps : List Parameter) (before : Part) (i : Instr) (result : Option Place) (more : ℕ) (args : Option Part)
    → is_some result ≡ true → Moves 0 before more → jump_of i ≡ None → Passes (cells_of_all scene ps) args → Good scene (call_coded scene ps before i result more args)
call-good scene ps before i result more None e g j p = refl
call-good scene ps before i None more (Some args) e g j p = absurd cc
call-good scene ps before i (Some t) more (Some args) e g j p =
    both_ways (Good scene) (is_broken scene t) in_error (coded (Computed t) (call_code scene ps before i (Some t) more args)) refl
    (Moves-then before (args ⨟ call i (cells_of_all scene ps + more) 1) 0 more 1 g
    (Moves-then args (call i (cells_of_all scene ps + more) 1) more (cells_of_all scene ps + more) 1
    (Moves-at args (0 + more) more (cells_of_all scene ps + more) (cells_of_all scene ps + more) (zero-add more) refl
    (Moves-raise args 0 (cells_of_all scene ps) more p))
    (call-moves i (cells_of_all scene ps + more) 1 j)))

-- what a call in an expression gives has its code
pub by_called-good : (c : Context) (call : Called) (standard : Builtin → Gives Coded) (passed : List Parameter → Gives (Option Part)) (looked : Gives Coded)
    → GoodCall true call → ((f : Builtin) → is_function f ≡ true → Good c.scene (standard f).value)
    → ((ps : List Parameter) → Passes (cells_of_all c.scene ps) (passed ps).value) → Good c.scene looked.value
    → Good c.scene (by_called c call standard passed looked).value
by_called-good c (standard_call f) standard passed looked g s p l = s f g
by_called-good c (procedure_call ps before i result more) standard passed looked g s p l =
    call-good c.scene ps before i result more (passed ps).value g.0 g.1 g.2 (p ps)
by_called-good c (lacking_call ps) standard passed looked g s p l = refl
by_called-good c no_call standard passed looked g s p l = l

pub cells-cons : (scene : Scene) (p : Parameter) (ps : List Parameter) → cells_of_all scene (p ∷ ps) ≡ cells_of scene p + cells_of_all scene ps
cells-cons scene p ps = refl

pub after-all : (scene : Scene) (p : Parameter) (ps : List Parameter) (a b : Option Part) → Passes (cells_of scene p) a → Passes (cells_of_all scene ps) b
    → Passes (cells_of_all scene (p ∷ ps)) (after_argument a b)
after-all scene p ps a b f g =
    let P : ℕ → Type 0 = λ n. Passes n (after_argument a b) in
    subst P (sym (cells-cons scene p ps)) (after-good (cells_of scene p) (cells_of_all scene ps) a b f g)
