-- Arguments and calls: where one notes a diagnostic, nothing is passed or called, and so it is where an argument is in error.
use Rattle.std.specs.Prelude.{◌≡◌, refl, ℕ, ◌==◌, Bool, true, false, List, length, Option, Some, None, is_some}
use Rattle.std.proofs.Common.{subst, sym}
use Rattle.m2_base.specs.Gives.{Gives, and_then, gives}
use Rattle.m2_base.specs.Statics.Builtins.{builtin_of}
use Rattle.m2_base.specs.Statics.Contexts.{Context}
use Rattle.m2_base.specs.Statics.Diagnostics.{not_assignable}
use Rattle.m2_base.specs.Statics.TypeParts.{Parameter, parameters, result_of_type}
use Rattle.m2_base.specs.Statics.Types.{kind_of}
use Rattle.m2_base.specs.declared.builtins.Builtin.{Builtin}
use Rattle.m2_base.specs.declared.operands.Operand.TheVariants.{InError, ModuleName, Procedure, StandardProcedure, StringConstant, Variable}
use Rattle.m2_base.specs.declared.operands.Operand.{Operand}
use Rattle.m2_base.specs.declared.rows.Place.{Place}
use Rattle.m2_base.specs.declared.rows.RowMeaning.TheVariants.{Array, OpenArray}
use Rattle.m2_base.specs.declared.rows.RowMeaning.{RowMeaning}
use Rattle.code_form.specs.declared.instr.Instr.{Instr}
use Rattle.const_eval.proofs.RefusedSteps.{IsMissing, QuietOr, of-error, quiet, quiet-if, quiet-then, tests, wrong}
use Rattle.expr_sem.proofs.RefusedValues.{Erred, QuietCoded, as_value-error, as_value-quiet, assigned-quiet, of-erred}
use Rattle.block_code.specs.Arguments.{address_by, after_argument, alike, argument, array_argument, by_address, by_mode, by_value, checked_mode, open_argument, string_argument, value_argument, value_argument_by}
use Rattle.block_code.specs.Calls.{Called, allowed, call_coded, called, called_by, lacking_call, no_call, procedure_call, standard_call}
use Rattle.block_code.specs.Coded.{Coded, in_error}
use Rattle.block_code.specs.Expressions.{by_called}
use Rattle.block_code.specs.Parts.{Part}
use Rattle.block_code.specs.Values.{as_value, assigned_to}

-- nothing is called
abbrev pub IsNoCall : Called → Type 0
IsNoCall what = what ≡ no_call

abbrev pub QuietPassed : Gives (Option Part) → Type 0
QuietPassed g = QuietOr IsMissing g

abbrev pub QuietCalled : Gives Called → Type 0
QuietCalled g = QuietOr IsNoCall g

module _ (c : Context) where
  -- ---- arguments

  value-quiet : (t : Place) (at : ℕ) (x : Coded) → QuietPassed (by_value c t at x)
  value-quiet t at x =
      let v : Gives Coded = assigned_to c t at not_assignable x in
      quiet-then Erred IsMissing v (λ y. gives (value_argument c t y)) (assigned-quiet c t at not_assignable x)
      (λ e. of-error (λ o. IsMissing (value_argument_by c t v.value o)) v.value.operand e refl) (quiet refl)

  address_by-quiet : (t : Place) (at : ℕ) (code : Part) (o : Operand) → QuietPassed (address_by c t at code o)
  address_by-quiet t at code (Variable u) = search tests
  address_by-quiet t at code o = quiet refl

  address-quiet : (t : Place) (at : ℕ) (x : Coded) → QuietPassed (by_address c t at x)
  address-quiet t at x = address_by-quiet t at x.code x.operand

  alike-quiet : (want : Place) (at : ℕ) (x : Coded) (m : RowMeaning) (elem : Place) → QuietPassed (alike c want at x m elem)
  alike-quiet want at x m elem = search tests

  array-quiet : (want : Place) (at : ℕ) (x : Coded) (m : RowMeaning) → QuietPassed (array_argument c want at x m)
  array-quiet want at x (Array i t s) = search (tests, alike-quiet)
  array-quiet want at x (OpenArray t) = alike-quiet want at x (OpenArray t) t
  array-quiet want at x m = wrong refl

  string-quiet : (want : Place) (at name len : ℕ) → QuietPassed (string_argument c want at name len)
  string-quiet want at name len = search tests

  open-quiet : (want : Place) (at : ℕ) (x : Coded) (o : Operand) → QuietPassed (open_argument c want at x o)
  open-quiet want at x (StringConstant n len) = string-quiet want at n len
  open-quiet want at x (Variable u) = array-quiet want at x (kind_of c.scene u)
  open-quiet want at x o = wrong refl

  mode-quiet : (p : Parameter) (at : ℕ) (x : Coded) → QuietPassed (by_mode c p at x)
  mode-quiet p at x = search (tests, open-quiet, address-quiet, value-quiet)

  checked-quiet : (p : Parameter) (at : ℕ) (x : Coded) → QuietPassed (checked_mode c p at x)
  checked-quiet p at x = search (tests, mode-quiet)

  checked-error : (p : Parameter) (at : ℕ) (x : Coded) → Erred x → IsMissing (checked_mode c p at x).value
  checked-error p at x e = of-erred (λ y. IsMissing (checked_mode c p at y).value) x e (λ code high. refl)

  pub argument-quiet : (p : Parameter) (at : ℕ) (x : Coded) → QuietPassed (argument c p at x)
  argument-quiet p at x =
      let v : Gives Coded = as_value c at x in
      quiet-if IsMissing p.by_ref (checked_mode c p at x) (and_then v (checked_mode c p at)) (checked-quiet p at x)
      (quiet-then Erred IsMissing v (checked_mode c p at) (as_value-quiet c at x) (checked-error p at v.value) (checked-quiet p at v.value))

  argument_by-error : (b : Bool) (t : Place) (at : ℕ) (x : Coded) → Erred x → IsMissing (argument c (record { typ = t; by_ref = b }) at x).value
  argument_by-error true t at x e = checked-error (record { typ = t; by_ref = true }) at x e
  argument_by-error false t at x e = checked-error (record { typ = t; by_ref = false }) at (as_value c at x).value (as_value-error c at x e)

  pub argument-error : (p : Parameter) (at : ℕ) (x : Coded) → Erred x → IsMissing (argument c p at x).value
  argument-error p at x e = argument_by-error p.by_ref p.typ at x e

  -- ---- what is called

  allowed-quiet : (at : ℕ) (is_wanted gives_value is_count : Bool) (what : Called) → QuietCalled (allowed c at is_wanted gives_value is_count what)
  allowed-quiet at is_wanted gives_value is_count what = search tests

  called_by-quiet : (is_wanted : Bool) (at n : ℕ) (code : Part) (o : Operand) → QuietCalled (called_by c is_wanted at n code o)
  called_by-quiet is_wanted at n code (StandardProcedure k) = allowed-quiet at is_wanted _ _ (standard_call (builtin_of k))
  called_by-quiet is_wanted at n code (Procedure name t k s) =
      allowed-quiet at is_wanted (is_some (result_of_type c.scene t)) (n == length (parameters c.scene t)) _
  called_by-quiet is_wanted at n code (Variable t) = search (tests, allowed-quiet)
  called_by-quiet is_wanted at n code (ModuleName s) = wrong refl
  called_by-quiet is_wanted at n code InError = quiet refl
  called_by-quiet is_wanted at n code o = wrong refl

  pub called-quiet : (is_wanted : Bool) (at n : ℕ) (x : Coded) → QuietCalled (called c is_wanted at n x)
  called-quiet is_wanted at n x = called_by-quiet is_wanted at n x.code x.operand

  pub called-error : (is_wanted : Bool) (at n : ℕ) (x : Coded) → Erred x → IsNoCall (called c is_wanted at n x).value
  called-error is_wanted at n x e = of-erred (λ y. IsNoCall (called c is_wanted at n y).value) x e (λ code high. refl)

  -- ---- calls

  call-missing : (ps : List Parameter) (before : Part) (i : Instr) (result : Option Place) (more : ℕ) (args : Option Part) → IsMissing args
      → Erred (call_coded c.scene ps before i result more args)
  call-missing ps before i result more args e = subst (λ a. Erred (call_coded c.scene ps before i result more a)) (sym e) refl

  pub by_called-quiet : (what : Called) (standard : Builtin → Gives Coded) (passed : List Parameter → Gives (Option Part)) (looked : Gives Coded)
      → ((f : Builtin) → QuietCoded (standard f)) → ((ps : List Parameter) → QuietPassed (passed ps)) → QuietCoded looked
      → QuietCoded (by_called c what standard passed looked)
  by_called-quiet (standard_call f) standard passed looked s p l = s f
  by_called-quiet (procedure_call ps before i result more) standard passed looked s p l =
      quiet-then IsMissing Erred (passed ps) (λ args. gives (call_coded c.scene ps before i result more args)) (p ps)
      (call-missing ps before i result more (passed ps).value) (quiet refl)
  by_called-quiet (lacking_call ps) standard passed looked s p l =
      quiet-then IsMissing Erred (passed ps) (λ args. gives in_error) (p ps) (λ e. refl) (quiet refl)
  by_called-quiet no_call standard passed looked s p l = l

  -- where nothing is called, the arguments are looked at
  pub by_called-none : (what : Called) (standard : Builtin → Gives Coded) (passed : List Parameter → Gives (Option Part)) (looked : Gives Coded)
      → Erred looked.value → IsNoCall what → Erred (by_called c what standard passed looked).value
  by_called-none what standard passed looked l e = subst (λ w. Erred (by_called c w standard passed looked).value) (sym e) l

  -- without one of them nothing is passed
  pub after-first : (a b : Option Part) → IsMissing a → IsMissing (after_argument a b)
  after-first a b e = subst (λ o. IsMissing (after_argument o b)) (sym e) refl

  pub after-second : (a b : Option Part) → IsMissing b → IsMissing (after_argument a b)
  after-second None b e = refl
  after-second (Some a) b e = subst (λ o. IsMissing (after_argument (Some a) o)) (sym e) refl
