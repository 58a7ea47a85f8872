-- What arguments, calls and standard procedures with their code stand for isn't in error, unless a diagnostic was noted.
use Rattle.std.specs.Prelude.{◌≡◌, ℕ, ◌==◌, ◌&&◌, ◌||◌, not, Bool, true, false, is_some, List, length, Option, Some, None}
use Rattle.std.specs.Option.{IsSome}
use Rattle.std.proofs.Common.{refl}
use Rattle.std.proofs.lemmas.Bool.{eqb-true, or_from}
use Rattle.m2_base.specs.Lists.{Each, WhereKept}
use Rattle.m2_base.specs.declared.rows.Place.{Place}
use Rattle.m2_base.specs.declared.rows.RowMeaning.{RowMeaning}
use Rattle.m2_base.specs.declared.rows.RowMeaning.TheVariants.{Array, OpenArray}
use Rattle.m2_base.specs.Standard.{character}
use Rattle.m2_base.specs.Statics.Assignable.{is_open_array, is_procedure_type}
use Rattle.m2_base.specs.Statics.Builtins.{builtin_of}
use Rattle.m2_base.specs.Statics.Contexts.{Context, Scene}
use Rattle.m2_base.specs.Statics.Diagnostics.{not_assignable}
use Rattle.m2_base.specs.Statics.NamedOperands.{is_in_error, is_open_of_broken}
use Rattle.m2_base.specs.Statics.Operands.{is_bad}
use Rattle.m2_base.specs.Statics.TypeParts.{Parameter, parameters, result_of_type}
use Rattle.m2_base.specs.Statics.Types.{is_broken, is_same, kind_of}
use Rattle.m2_base.specs.declared.operands.Operand.{Operand}
use Rattle.m2_base.specs.declared.operands.Operand.TheVariants.{InError, ModuleName, Procedure, StandardProcedure, StringConstant, Variable}
use Rattle.block_code.proofs.Noted.{UnlessNoted, and_gives, by_test, given, in_turn, noted, otherwise}
use Rattle.block_code.proofs.WholeNames.{the_second}
use Rattle.block_code.proofs.WholeOperands.{not_bad}
use Rattle.block_code.proofs.WholeRows.{IsWhole, IsWholeParameter, kind-whole, parameters-whole, result-whole}
use Rattle.block_code.proofs.WholeValues.{Stands, as_value-stands, assigned-stands}
use Rattle.code_form.specs.declared.instr.Instr.{Instr}
use Rattle.block_code.specs.Arguments.{address_by, after_argument, alike, argument, array_argument, by_mode, by_value, checked_mode, is_variable, open_argument, open_element, value_argument, value_argument_by}
use Rattle.block_code.specs.Calls.{Called, allowed, call_coded, called, called_by, is_same_truth, lacking_call, no_call, of_target, of_variable, procedure_call, standard_call}
use Rattle.block_code.specs.Coded.{Coded, in_error}
use Rattle.block_code.specs.Parts.{Part}
use Rattle.block_code.specs.ProcedureNames.{Target, target_of_procedure}
use Rattle.block_code.specs.StandardProcedures.{takes_count}
use Rattle.block_code.specs.Whole.{AreWhole, HasWholeParts, IsWholeType}

-- ---- arguments

-- an argument that is there
abbrev pub IsGiven : Option Part → Type 0
IsGiven None = ⊥
IsGiven (Some a) = Unit {0}

value_by-given : (c : Context) (t : Place) (x : Coded) (o : Operand) → IsWhole c.scene o → IsGiven (value_argument_by c t x o)
value_by-given c t x InError h = absurd h
value_by-given c t x (StringConstant n l) h = tt
value_by-given c t x o h = tt

pub after-given : (a b : Option Part) → IsGiven a → IsGiven b → IsGiven (after_argument a b)
after-given None b h k = absurd h
after-given (Some a) None h k = absurd k
after-given (Some a) (Some b) h k = tt

-- a type that isn't in error, by a test that says more
whole_from : (a b : Bool) → (a || b) ≡ false → a ≡ false
whole_from true b e = absurd cc
whole_from false b e = refl

both_from : (a b : Bool) → a ≡ true → (a && not b) ≡ false → b ≡ true
both_from true true e f = refl
both_from true false e f = absurd cc
both_from false b e f = absurd cc

module _ (c : Context) (rows : AreWhole c.scene) where
  by_value-given : (t : Place) (at : ℕ) (x : Coded) → IsWholeType c.scene t → Stands c.scene x → UnlessNoted IsGiven (by_value c t at x)
  by_value-given t at x w h = and_gives (value_argument c t) (assigned-stands c rows t at not_assignable x w h) (λ v k. value_by-given c t v v.operand k)

  address_by-given : (t : Place) (at : ℕ) (code : Part) (o : Operand) → is_variable o ≡ true → UnlessNoted IsGiven (address_by c t at code o)
  address_by-given t at code (Variable u) e = by_test (is_same c.scene t u) (λ f. given tt) (λ f. noted)
  address_by-given t at code o e = absurd cc

  alike-given : (want : Place) (at : ℕ) (x : Coded) (kind : RowMeaning) (elem : Place) → IsWholeType c.scene elem → UnlessNoted IsGiven (alike c want at x kind elem)
  alike-given want at x kind elem w =
      otherwise (is_broken c.scene elem) _ w (by_test (is_same c.scene elem want) (λ e. given tt) (λ e. noted))

  array-given : (want : Place) (at : ℕ) (x : Coded) (m : RowMeaning) → HasWholeParts c.scene m → UnlessNoted IsGiven (array_argument c want at x m)
  array-given want at x (Array i t s) w = otherwise (is_broken c.scene i) _ w.0 (alike-given want at x (Array i t s) t w.1)
  array-given want at x (OpenArray t) w = alike-given want at x (OpenArray t) t w
  array-given want at x m w = noted

  open-given : (want : Place) (at : ℕ) (x : Coded) (o : Operand) → UnlessNoted IsGiven (open_argument c want at x o)
  open-given want at x (StringConstant n len) = by_test (is_same c.scene want character) (λ e. given tt) (λ e. noted)
  open-given want at x (Variable u) = array-given want at x (kind_of c.scene u) (kind-whole c.scene rows u)
  open-given want at x o = noted

  by_mode-given : (p : Parameter) (at : ℕ) (x : Coded) → IsWholeType c.scene p.typ → (p.by_ref ≡ true → is_variable x.operand ≡ true) → Stands c.scene x
      → UnlessNoted IsGiven (by_mode c p at x)
  by_mode-given p at x w v h =
      by_test (is_open_array c.scene p.typ) (λ e. open-given (open_element (kind_of c.scene p.typ)) at x x.operand)
      (λ e. by_test p.by_ref (λ f. address_by-given p.typ at x.code x.operand (v f)) (λ f. by_value-given p.typ at x w h))

  checked-given : (p : Parameter) (at : ℕ) (x : Coded) → IsWholeParameter c.scene p → Stands c.scene x → UnlessNoted IsGiven (checked_mode c p at x)
  checked-given p at x w h =
      otherwise (is_bad x.operand || is_in_error c.scene p.typ) _ (or_from (is_bad x.operand) (is_in_error c.scene p.typ) (not_bad c.scene x.operand h) w)
      (by_test (p.by_ref && not (is_variable x.operand)) (λ e. noted)
      (λ e. by_mode-given p at x (whole_from (is_broken c.scene p.typ) (is_open_of_broken c.scene (kind_of c.scene p.typ)) w) (λ f. both_from p.by_ref (is_variable x.operand) f e) h))

  pub argument-given : (p : Parameter) (at : ℕ) (x : Coded) → IsWholeParameter c.scene p → Stands c.scene x → UnlessNoted IsGiven (argument c p at x)
  argument-given p at x w h =
      by_test p.by_ref (λ e. checked-given p at x w h) (λ e. in_turn (as_value-stands c at x h) (λ v k. checked-given p at v w k))

-- ---- what is called

-- Something is called, with so many arguments: a standard procedure that takes them; or what has as many parameters, of which
-- none is in error, nor is the result.
abbrev pub IsCalled : Scene → (count : ℕ) → Called → Type 0
IsCalled scene n (standard_call f) = takes_count f n ≡ true
IsCalled scene n (procedure_call ps before i result more) = (n ≡ length ps) × Each (IsWholeParameter scene) ps × WhereKept result (IsWholeType scene)
IsCalled scene n (lacking_call ps) = ⊥
IsCalled scene n no_call = ⊥

module _ (c : Context) where
  allowed-called : (at : ℕ) (is_wanted gives_value is_count : Bool) (n : ℕ) (what : Called) → (is_count ≡ true → IsCalled c.scene n what)
      → UnlessNoted (IsCalled c.scene n) (allowed c at is_wanted gives_value is_count what)
  allowed-called at w g b n what h =
      by_test (not (is_same_truth w g)) (λ e. noted) (λ e. by_test (not b) (λ f. noted) (λ f. given (h (counted b f))))
    where
      counted : (a : Bool) → not a ≡ false → a ≡ true
      counted true e = refl
      counted false e = absurd cc

  module _ (rows : AreWhole c.scene) where
    target-called : (t : Place) (n : ℕ) (o : Option Target) → IsSome o → (n == length (parameters c.scene t)) ≡ true → IsCalled c.scene n (of_target c.scene t o)
    target-called t n None h e = absurd cc
    target-called t n (Some p) h e =
        (eqb-true n (length (parameters c.scene t)) e, parameters-whole c.scene rows t, result-whole c.scene rows t)

    called_by-called : (is_wanted : Bool) (at n : ℕ) (code : Part) (o : Operand) → IsWhole c.scene o → UnlessNoted (IsCalled c.scene n) (called_by c is_wanted at n code o)
    called_by-called is_wanted at n code (StandardProcedure k) h =
        allowed-called at is_wanted _ (takes_count (builtin_of k) n) n (standard_call (builtin_of k)) (λ e. e)
    called_by-called is_wanted at n code (Procedure name t k s) h =
        allowed-called at is_wanted _ (n == length (parameters c.scene t)) n (of_target c.scene t (target_of_procedure c.scene name t k))
        (target-called t n (target_of_procedure c.scene name t k) h)
    called_by-called is_wanted at n code (Variable t) h =
        by_test (is_procedure_type c.scene t)
        (λ e. allowed-called at is_wanted (is_some (result_of_type c.scene t)) (n == length (parameters c.scene t)) n (of_variable c.scene t code)
        (λ f. (eqb-true n (length (parameters c.scene t)) f, parameters-whole c.scene rows t, result-whole c.scene rows t)))
        (λ e. noted)
    called_by-called is_wanted at n code (ModuleName s) h = noted
    called_by-called is_wanted at n code InError h = absurd h
    called_by-called is_wanted at n code o h = noted

    pub called-called : (is_wanted : Bool) (at n : ℕ) (x : Coded) → Stands c.scene x → UnlessNoted (IsCalled c.scene n) (called c is_wanted at n x)
    called-called is_wanted at n x h = called_by-called is_wanted at n x.code x.operand h

pub call-stands : (scene : Scene) (ps : List Parameter) (before : Part) (i : Instr) (result : Option Place) (more : ℕ) (args : Option Part)
    → WhereKept result (IsWholeType scene) → IsGiven args → Stands scene (call_coded scene ps before i result more args)
call-stands scene ps before i result more None w h = absurd h
call-stands scene ps before i None more (Some args) w h = tt
call-stands scene ps before i (Some t) more (Some args) w h = the_second (Stands scene) (is_broken scene t) in_error _ w tt
