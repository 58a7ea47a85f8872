-- How long the code of arguments and of calls is.
use Rattle.std.specs.Prelude.{◌≡◌, refl, ℕ, ◌+◌, ◌-◌, ◌*◌, ◌≤◌, ◌==◌, Bool, not, ◌&&◌, ◌||◌, if◌then◌else◌, List, [], ◌∷◌, ◌++◌, Option, Some, None, pos, length, min, is_some}
use Rattle.std.proofs.Common.{arith}
use Rattle.code_form.specs.Bytes.{size}
use Rattle.code_form.specs.Heights.{Step}
use Rattle.code_form.specs.declared.instr.Instr.{Instr}
use Rattle.code_form.specs.declared.instr.Instr.TheVariants.{Push, Local, Load, Move, Call, CallX}
use Rattle.block_code.proofs.Lengths.{Spares, call-short, none-short, plain-short, short-then, spares-behind, spares-less, spares-short, spares-then, text-short}
use Rattle.block_code.proofs.FunctionLengths.{high_code-short}
use Rattle.block_code.proofs.Sizes.{size_append}
use Rattle.block_code.proofs.ValueHeights.{both_ways}
use Rattle.block_code.proofs.ValueLengths.{Roomy, Sized, as_value-roomy, assigned-roomy, coded-sized, error-roomy, fitted-spares, sized-less}
use Rattle.block_code.specs.Arguments.{address_by, after_argument, alike, argument, array_argument, by_address, by_mode, by_value, checked_mode, is_variable, open_argument, open_element, string_copy, value_argument_by}
use Rattle.block_code.specs.Calls.{call_code, Called, allowed, allowed_by_type, call_coded, called, called_by, call_instr, cells_of_all, is_same_truth, lacking_call, links_to, no_call, of_target, of_variable, procedure_call, standard_call}
use Rattle.block_code.specs.Coded.{coded, in_error, Coded, characters}
use Rattle.block_code.specs.Expressions.{by_called}
use Rattle.block_code.specs.Lengths.{IsShort}
use Rattle.block_code.specs.Parts.{Part, call, none, plain, steps_size, text, ◌⨟◌}
use Rattle.block_code.specs.ProcedureNames.{Target, import_of_target, is_foreign, target_of_procedure}
use Rattle.block_code.specs.StandardFunctions.{high_code}
use Rattle.block_code.specs.StandardProcedures.{is_function, no_value, takes_count}
use Rattle.block_code.specs.Values.{as_value, assigned_to}
use Rattle.m2_base.specs.Gives.{Gives, and_then, gives}
use Rattle.m2_base.specs.Standard.{character}
use Rattle.m2_base.specs.Statics.Assignable.{is_open_array, is_procedure_type}
use Rattle.m2_base.specs.Statics.Builtins.{builtin_of}
use Rattle.m2_base.specs.Statics.Cells.{capped}
use Rattle.m2_base.specs.Statics.Contexts.{Context, Scene, refuse}
use Rattle.m2_base.specs.Statics.Diagnostics.{not_a_procedure, not_a_variable, not_assignable, wrong_argument, wrong_count}
use Rattle.m2_base.specs.Statics.NamedOperands.{is_in_error}
use Rattle.m2_base.specs.Statics.Operands.{is_bad}
use Rattle.m2_base.specs.Statics.TypeParts.{Parameter, parameters, result_of_type}
use Rattle.m2_base.specs.Statics.Types.{is_broken, is_same, kind_of, size_of}
use Rattle.m2_base.specs.declared.builtins.Builtin.{Builtin}
use Rattle.m2_base.specs.declared.operands.Operand.{Operand}
use Rattle.m2_base.specs.declared.operands.Operand.TheVariants.{Computed, InError, ModuleName, Procedure, StandardProcedure, StringConstant, Variable}
use Rattle.m2_base.specs.declared.rows.Place.{Place}
use Rattle.m2_base.specs.declared.rows.RowMeaning.{RowMeaning}
use Rattle.m2_base.specs.declared.rows.RowMeaning.TheVariants.{Array, OpenArray}

-- ---- arguments

-- an argument's code leaves so much to spare
abbrev pub SparesIfThere : (s n : ℕ) → Option Part → Type 0
SparesIfThere s n None = Unit {0}
SparesIfThere s n (Some p) = Spares s n p

copy-short : (n : ℕ) (cs : List ℕ) → IsShort 28 (string_copy n cs)
copy-short n cs = λ at.
    short-then (plain (Local 0 at.cell ∷ [])) (text cs ⨟ plain (Move (min (length cs + 1) n) ∷ Local 0 at.cell ∷ [])) 9 19
    (plain-short (Local 0 at.cell ∷ []) 9 refl)
    (short-then (text cs) (plain (Move (min (length cs + 1) n) ∷ Local 0 at.cell ∷ [])) 5 14 (text-short cs)
    (plain-short (Move (min (length cs + 1) n) ∷ Local 0 at.cell ∷ []) 14 refl))
    (record at { cell = capped (at.cell + n) })

value_go : (c : Context) (t : Place) (n : ℕ) (x : Coded) (o : Operand) → Roomy n x → SparesIfThere 6 n (value_argument_by c t x o)
value_go c t n x InError g = tt
value_go c t n x (StringConstant name l) g =
    spares-short (string_copy (size_of c.scene t) (characters c.source name)) 28 6 n refl g.some
    (copy-short (size_of c.scene t) (characters c.source name))
value_go c t n x o g = fitted-spares c t n x g

less : (n s t : ℕ) → t ≤ s → t + 64 * n ≤ s + 64 * n
less n s t e = omega (arith, e)

address_go : (c : Context) (t : Place) (at n : ℕ) (code : Part) (o : Operand) → Spares 32 n code → SparesIfThere 6 n (address_by c t at code o).value
address_go c t at n code (Variable u) g =
    both_ways (λ r. SparesIfThere 6 n r.value) (is_same c.scene t u) (gives (Some code)) (refuse c at wrong_argument None)
    (spares-less code 32 6 n n (less n 32 6 (omega arith)) g) tt
address_go c t at n code o g = tt

alike-spares : (c : Context) (want : Place) (at n : ℕ) (x : Coded) (m : RowMeaning) (elem : Place) → Roomy n x
    → SparesIfThere 6 n (alike c want at x m elem).value
alike-spares c want at n x m elem g =
    both_ways (λ r. SparesIfThere 6 n r.value) (is_broken c.scene elem) (gives None)
    (if is_same c.scene elem want then gives (Some (x.code ⨟ high_code c.scene x m)) else refuse c at wrong_argument None) tt
    (both_ways (λ r. SparesIfThere 6 n r.value) (is_same c.scene elem want) (gives (Some (x.code ⨟ high_code c.scene x m))) (refuse c at wrong_argument None)
    (spares-behind x.code (high_code c.scene x m) 32 10 6 n refl g.code (high_code-short c.scene x m g.high)) tt)

array-spares : (c : Context) (want : Place) (at n : ℕ) (x : Coded) (m : RowMeaning) → Roomy n x → SparesIfThere 6 n (array_argument c want at x m).value
array-spares c want at n x (Array i t s) g =
    both_ways (λ r. SparesIfThere 6 n r.value) (is_broken c.scene i) (gives None) (alike c want at x (Array i t s) t) tt
    (alike-spares c want at n x (Array i t s) t g)
array-spares c want at n x (OpenArray t) g = alike-spares c want at n x (OpenArray t) t g
array-spares c want at n x m g = tt

open_go : (c : Context) (want : Place) (at n : ℕ) (x : Coded) (o : Operand) → Roomy n x → SparesIfThere 6 n (open_argument c want at x o).value
open_go c want at n x (StringConstant name l) g =
    let p : Part = text (characters c.source name) ⨟ plain (Push (pos (l - 1)) ∷ []) in
    both_ways (λ r. SparesIfThere 6 n r.value) (is_same c.scene want character) (gives (Some p)) (refuse c at wrong_argument None)
    (spares-short p 14 6 n refl g.some
    (short-then (text (characters c.source name)) (plain (Push (pos (l - 1)) ∷ [])) 5 9 (text-short (characters c.source name))
    (plain-short (Push (pos (l - 1)) ∷ []) 9 refl))) tt
open_go c want at n x (Variable u) g = array-spares c want at n x (kind_of c.scene u) g
open_go c want at n x o g = tt

by_value-spares : (c : Context) (t : Place) (at n : ℕ) (x : Coded) → Roomy n x → SparesIfThere 6 n (by_value c t at x).value
by_value-spares c t at n x g =
    let v : Coded = (assigned_to c t at not_assignable x).value in
    value_go c t n v v.operand (assigned-roomy c t at not_assignable n x g)

mode-spares : (c : Context) (p : Parameter) (at n : ℕ) (x : Coded) → Roomy n x → SparesIfThere 6 n (by_mode c p at x).value
mode-spares c p at n x g =
    both_ways (λ r. SparesIfThere 6 n r.value) (is_open_array c.scene p.typ) (open_argument c (open_element (kind_of c.scene p.typ)) at x x.operand)
    (if p.by_ref then by_address c p.typ at x else by_value c p.typ at x)
    (open_go c (open_element (kind_of c.scene p.typ)) at n x x.operand g)
    (both_ways (λ r. SparesIfThere 6 n r.value) p.by_ref (by_address c p.typ at x) (by_value c p.typ at x)
    (address_go c p.typ at n x.code x.operand g.code) (by_value-spares c p.typ at n x g))

checked-spares : (c : Context) (p : Parameter) (at n : ℕ) (x : Coded) → Roomy n x → SparesIfThere 6 n (checked_mode c p at x).value
checked-spares c p at n x g =
    both_ways (λ r. SparesIfThere 6 n r.value) (is_bad x.operand || is_in_error c.scene p.typ) (gives None)
    (if p.by_ref && not (is_variable x.operand) then refuse c at not_a_variable None else by_mode c p at x) tt
    (both_ways (λ r. SparesIfThere 6 n r.value) (p.by_ref && not (is_variable x.operand)) (refuse c at not_a_variable None)
    (by_mode c p at x) tt (mode-spares c p at n x g))

-- an argument
pub argument-spares : (c : Context) (p : Parameter) (at n : ℕ) (x : Coded) → Roomy n x → SparesIfThere 6 n (argument c p at x).value
argument-spares c p at n x g =
    both_ways (λ r. SparesIfThere 6 n r.value) p.by_ref (checked_mode c p at x) (and_then (as_value c at x) (checked_mode c p at))
    (checked-spares c p at n x g) (checked-spares c p at n (as_value c at x).value (as_value-roomy c at n x g))

separated : (n k : ℕ) → 0 + 64 * (n + k) ≤ 6 + 64 * (n + 1 + k)
separated n k = omega arith

-- an argument and those behind it
pub after-spares : (n k : ℕ) (a b : Option Part) → SparesIfThere 6 n a → SparesIfThere 0 k b → SparesIfThere 0 (n + 1 + k) (after_argument a b)
after-spares n k (Some a) (Some b) f g =
    spares-less (a ⨟ b) 6 0 (n + k) (n + 1 + k) (separated n k) (spares-then a b 6 0 n k f g)
after-spares n k (Some a) None f g = tt
after-spares n k None b f g = tt

-- ---- what is called

-- what comes before the arguments leaves so much to spare
abbrev pub SizedCall : ℕ → Called → Type 0
SizedCall n (standard_call f) = Unit {0}
SizedCall n (procedure_call ps before i result more) = Spares 31 n before × size i ≤ 9
SizedCall n (lacking_call ps) = Unit {0}
SizedCall n no_call = Unit {0}

allowed-sized : (c : Context) (at n : ℕ) (wanted found count : Bool) (what : Called) → SizedCall n what → SizedCall n (allowed c at wanted found count what).value
allowed-sized c at n wanted found count what g =
    both_ways (λ r. SizedCall n r.value) (not (is_same_truth wanted found)) (refuse c at not_a_procedure no_call)
    (if not count then refuse c at wrong_count no_call else gives what) tt
    (both_ways (λ r. SizedCall n r.value) (not count) (refuse c at wrong_count no_call) (gives what) tt g)

by_type-sized : (c : Context) (at n : ℕ) (wanted : Bool) (count : ℕ) (t : Place) (what : Called) → SizedCall n what
    → SizedCall n (allowed_by_type c at wanted count t what).value
by_type-sized c at n wanted count t what g =
    allowed-sized c at n wanted (is_some (result_of_type c.scene t)) (count == length (parameters c.scene t)) what g

call_instr-size : (scene : Scene) (p : Target) → size (call_instr scene p) ≤ 9
call_instr-size scene p =
    both_ways (λ i. size i ≤ 9) (is_foreign scene.block p) (CallX (import_of_target scene.block p) p.number)
    (Call p.number (links_to scene.block p.typ.scope)) (omega arith) (omega arith)

target-sized : (scene : Scene) (n : ℕ) (t : Place) (p : Option Target) → 1 ≤ n → SizedCall n (of_target scene t p)
target-sized scene n t None l = tt
target-sized scene n t (Some p) l = (spares-short none 0 31 n refl l (none-short 0), call_instr-size scene p)

called_go : (c : Context) (wanted : Bool) (at count n : ℕ) (code : Part) (o : Operand) → 1 ≤ n → Spares 32 n code
    → SizedCall n (called_by c wanted at count code o).value
called_go c wanted at count n code (StandardProcedure k) l g =
    allowed-sized c at n wanted (is_function (builtin_of k)) (takes_count (builtin_of k) count) (standard_call (builtin_of k)) tt
called_go c wanted at count n code (Procedure name t k s) l g =
    by_type-sized c at n wanted count t (of_target c.scene t (target_of_procedure c.scene name t k))
    (target-sized c.scene n t (target_of_procedure c.scene name t k) l)
called_go c wanted at count n code (Variable t) l g =
    both_ways (λ r. SizedCall n r.value) (is_procedure_type c.scene t) (allowed_by_type c at wanted count t (of_variable c.scene t code))
    (refuse c at not_a_procedure no_call)
    (by_type-sized c at n wanted count t (of_variable c.scene t code)
    (spares-behind code (plain (Load ∷ [])) 32 1 31 n refl g (plain-short (Load ∷ []) 1 refl), omega arith)) tt
called_go c wanted at count n code (ModuleName s) l g = tt
called_go c wanted at count n code InError l g = tt
called_go c wanted at count n code o l g = tt

pub called-sized : (c : Context) (wanted : Bool) (at count n : ℕ) (x : Coded) → Roomy n x → SizedCall n (called c wanted at count x).value
called-sized c wanted at count n x g = called_go c wanted at count n x.code x.operand g.some g.code

at_least : (n k : ℕ) → 1 ≤ n → 1 ≤ n + k
at_least n k l = omega (arith, l)

same : (n s t : ℕ) → t ≤ s → t + 64 * n ≤ s + 64 * n
same n s t e = omega (arith, e)

error-sized : (n k : ℕ) → 1 ≤ n → Sized 22 (n + k) in_error
error-sized n k l = sized-less in_error 32 22 (n + k) (n + k) (same (n + k) 32 22 (omega arith)) (at_least n k l) (error-roomy (n + k) (at_least n k l))

three : (x y z u v n k : ℕ) → v ≡ y + z → u ≡ x + v → x + 31 ≤ 64 * n → y + 0 ≤ 64 * k → z ≤ 9 → u + 22 ≤ 64 * (n + k)
three x y z u v n k d e f g h = omega (arith, d, e, f, g, h)

code-spares : (n k : ℕ) (before args : Part) (i : Instr) (takes leaves : ℕ) → Spares 31 n before → size i ≤ 9 → Spares 0 k args
    → Spares 22 (n + k) (before ⨟ args ⨟ call i takes leaves)
code-spares n k before args i takes leaves f e g = λ at.
    let a : List Step = (before at).code in
    let b : List Step = (args (before at).next).code in
    let d : List Step = record { instr = i; takes = takes; leaves = leaves } ∷ [] in
    three (steps_size a) (steps_size b) (steps_size d) (steps_size (a ++ (b ++ d))) (steps_size (b ++ d)) n k (size_append b d) (size_append a (b ++ d))
    (f at) (g (before at).next) (call-short i takes leaves 9 e at)

call_go : (scene : Scene) (n k : ℕ) (ps : List Parameter) (before : Part) (i : Instr) (result : Option Place) (more : ℕ) (args : Option Part) → 1 ≤ n
    → Spares 31 n before → size i ≤ 9 → SparesIfThere 0 k args → Sized 22 (n + k) (call_coded scene ps before i result more args)
call_go scene n k ps before i result more None l f e g = error-sized n k l
call_go scene n k ps before i None more (Some args) l f e g =
    coded-sized 22 (n + k) no_value (call_code scene ps before i None more args) (at_least n k l)
    (code-spares n k before args i (cells_of_all scene ps + more) 0 f e g)
call_go scene n k ps before i (Some t) more (Some args) l f e g =
    both_ways (Sized 22 (n + k)) (is_broken scene t) in_error (coded (Computed t) (call_code scene ps before i (Some t) more args))
    (error-sized n k l)
    (coded-sized 22 (n + k) (Computed t) (call_code scene ps before i (Some t) more args) (at_least n k l)
    (code-spares n k before args i (cells_of_all scene ps + more) 1 f e g))

standing : (n k : ℕ) → 1 ≤ n → 22 + 64 * (1 + k) ≤ 32 + 64 * (n + k)
standing n k l = omega (arith, l)

-- what a call gives, by its arguments
pub by_called-sized : (c : Context) (n k : ℕ) (what : Called) (standard : Builtin → Gives Coded) (passed : List Parameter → Gives (Option Part)) (looked : Gives Coded)
    → 1 ≤ n → SizedCall n what → ((f : Builtin) → Roomy (1 + k) (standard f).value) → ((ps : List Parameter) → SparesIfThere 0 k (passed ps).value)
    → Roomy n looked.value → Sized 22 (n + k) (by_called c what standard passed looked).value
by_called-sized c n k (standard_call f) standard passed looked l g s p e =
    sized-less (standard f).value 32 22 (1 + k) (n + k) (standing n k l) (at_least n k l) (s f)
by_called-sized c n k (procedure_call ps before i result more) standard passed looked l g s p e =
    call_go c.scene n k ps before i result more (passed ps).value l g.0 g.1 (p ps)
by_called-sized c n k (lacking_call ps) standard passed looked l g s p e = error-sized n k l
by_called-sized c n k no_call standard passed looked l g s p e =
    sized-less looked.value 32 22 n (n + k) (widened n k) (at_least n k l) e
  where
    widened : (n k : ℕ) → 22 + 64 * n ≤ 32 + 64 * (n + k)
    widened n k = omega arith
