-- The diagnostics of arguments beside their parameters, and of what is called, stand at their tokens.
use Rattle.std.specs.Prelude.{ℕ, ◌==◌, ◌&&◌, ◌||◌, not, Bool, List, length, Option, is_some}
use Rattle.m2_base.specs.Gives.{Gives}
use Rattle.m2_base.specs.declared.rows.Place.{Place}
use Rattle.m2_base.specs.declared.rows.RowMeaning.{RowMeaning}
use Rattle.m2_base.specs.declared.rows.RowMeaning.TheVariants.{Array, OpenArray}
use Rattle.m2_base.specs.Standard.{character}
use Rattle.m2_base.specs.Statics.Assignable.{is_open_array, is_procedure_type}
use Rattle.m2_base.specs.Statics.Builtins.{builtin_of}
use Rattle.m2_base.specs.Statics.Contexts.{Context}
use Rattle.m2_base.specs.Statics.Diagnostics.{not_assignable}
use Rattle.m2_base.specs.Statics.NamedOperands.{is_in_error}
use Rattle.m2_base.specs.Statics.Operands.{is_bad}
use Rattle.m2_base.specs.Statics.TypeParts.{Parameter, parameters, result_of_type}
use Rattle.m2_base.specs.Statics.Types.{is_broken, is_same, kind_of}
use Rattle.m2_base.specs.declared.builtins.Builtin.{Builtin}
use Rattle.m2_base.specs.declared.operands.Operand.{Operand}
use Rattle.m2_base.specs.declared.operands.Operand.TheVariants.{InError, ModuleName, Procedure, StandardProcedure, StringConstant, Variable}
use Rattle.m2_base.proofs.StandingNotes.{GivesAt, gives_either, join, none, one}
use Rattle.block_code.specs.Arguments.{address_by, alike, argument, array_argument, by_mode, by_value, checked_mode, is_variable, open_argument, open_element, string_argument}
use Rattle.block_code.specs.Calls.{Called, allowed, allowed_by_type, called, called_by, is_same_truth, lacking_call, no_call, of_target, of_variable, procedure_call, standard_call}
use Rattle.block_code.specs.Coded.{Coded}
use Rattle.block_code.specs.Expressions.{by_called}
use Rattle.block_code.specs.Parts.{Part}
use Rattle.block_code.specs.ProcedureNames.{target_of_procedure}
use Rattle.block_code.specs.StandardProcedures.{is_function, takes_count}
use Rattle.block_code.specs.Values.{as_value}
use Rattle.block_laws.proofs.StandingOperands.{as_value_at, assigned_at}

module _ (Here : ℕ → Type 0) where
  -- ** Arguments

  by_value_at : (c : Context) (t : Place) (at : ℕ) (x : Coded) → Here at → GivesAt Here c (by_value c t at x)
  by_value_at c t at x h = join (assigned_at Here c t at not_assignable x h) none

  address_by_at : (c : Context) (t : Place) (at : ℕ) (code : Part) (o : Operand) → Here at → GivesAt Here c (address_by c t at code o)
  address_by_at c t at code (Variable u) h = gives_either (is_same c.scene t u) _ _ none (one h)
  address_by_at c t at code o h = none

  alike_at : (c : Context) (want : Place) (at : ℕ) (x : Coded) (kind : RowMeaning) (elem : Place) → Here at → GivesAt Here c (alike c want at x kind elem)
  alike_at c want at x kind elem h =
      gives_either (is_broken c.scene elem) _ _ none (gives_either (is_same c.scene elem want) _ _ none (one h))

  array_argument_at : (c : Context) (want : Place) (at : ℕ) (x : Coded) (m : RowMeaning) → Here at → GivesAt Here c (array_argument c want at x m)
  array_argument_at c want at x (Array i t s) h = gives_either (is_broken c.scene i) _ _ none (alike_at c want at x (Array i t s) t h)
  array_argument_at c want at x (OpenArray t) h = alike_at c want at x (OpenArray t) t h
  array_argument_at c want at x m h = one h

  string_argument_at : (c : Context) (want : Place) (at name len : ℕ) → Here at → GivesAt Here c (string_argument c want at name len)
  string_argument_at c want at name len h = gives_either (is_same c.scene want character) _ _ none (one h)

  open_argument_at : (c : Context) (want : Place) (at : ℕ) (x : Coded) (o : Operand) → Here at → GivesAt Here c (open_argument c want at x o)
  open_argument_at c want at x (StringConstant name len) h = string_argument_at c want at name len h
  open_argument_at c want at x (Variable u) h = array_argument_at c want at x (kind_of c.scene u) h
  open_argument_at c want at x o h = one h

  by_mode_at : (c : Context) (p : Parameter) (at : ℕ) (x : Coded) → Here at → GivesAt Here c (by_mode c p at x)
  by_mode_at c p at x h =
      gives_either (is_open_array c.scene p.typ) _ _ (open_argument_at c (open_element (kind_of c.scene p.typ)) at x x.operand h)
      (gives_either p.by_ref _ _ (address_by_at c p.typ at x.code x.operand h) (by_value_at c p.typ at x h))

  checked_at : (c : Context) (p : Parameter) (at : ℕ) (x : Coded) → Here at → GivesAt Here c (checked_mode c p at x)
  checked_at c p at x h =
      gives_either (is_bad x.operand || is_in_error c.scene p.typ) _ _ none
      (gives_either (p.by_ref && not (is_variable x.operand)) _ _ (one h) (by_mode_at c p at x h))

  pub argument_at : (c : Context) (p : Parameter) (at : ℕ) (x : Coded) → Here at → GivesAt Here c (argument c p at x)
  argument_at c p at x h =
      gives_either p.by_ref _ _ (checked_at c p at x h) (join (as_value_at Here c at x h) (checked_at c p at (as_value c at x).value h))

  -- ** What is called

  allowed_at : (c : Context) (at : ℕ) (is_wanted gives_value is_count : Bool) (what : Called) → Here at → GivesAt Here c (allowed c at is_wanted gives_value is_count what)
  allowed_at c at is_wanted gives_value is_count what h =
      gives_either (not (is_same_truth is_wanted gives_value)) _ _ (one h) (gives_either (not is_count) _ _ (one h) none)

  by_type_at : (c : Context) (at : ℕ) (is_wanted : Bool) (count : ℕ) (t : Place) (what : Called) → Here at → GivesAt Here c (allowed_by_type c at is_wanted count t what)
  by_type_at c at is_wanted count t what h =
      allowed_at c at is_wanted (is_some (result_of_type c.scene t)) (count == length (parameters c.scene t)) what h

  called_by_at : (c : Context) (is_wanted : Bool) (at count : ℕ) (code : Part) (o : Operand) → Here at → GivesAt Here c (called_by c is_wanted at count code o)
  called_by_at c is_wanted at count code (StandardProcedure k) h =
      allowed_at c at is_wanted (is_function (builtin_of k)) (takes_count (builtin_of k) count) (standard_call (builtin_of k)) h
  called_by_at c is_wanted at count code (Procedure name t k s) h =
      by_type_at c at is_wanted count t (of_target c.scene t (target_of_procedure c.scene name t k)) h
  called_by_at c is_wanted at count code (Variable t) h =
      gives_either (is_procedure_type c.scene t) _ _ (by_type_at c at is_wanted count t (of_variable c.scene t code) h) (one h)
  called_by_at c is_wanted at count code (ModuleName s) h = one h
  called_by_at c is_wanted at count code InError h = none
  called_by_at c is_wanted at count code o h = one h

  pub called_at : (c : Context) (is_wanted : Bool) (at count : ℕ) (x : Coded) → Here at → GivesAt Here c (called c is_wanted at count x)
  called_at c is_wanted at count x h = called_by_at c is_wanted at count x.code x.operand h

  -- what a call gives, where what its arguments give stands there
  pub call_at : (c : Context) (what : Called) (standard : Builtin → Gives Coded) (passed : List Parameter → Gives (Option Part)) (looked : Gives Coded)
      → ((f : Builtin) → GivesAt Here c (standard f)) → ((ps : List Parameter) → GivesAt Here c (passed ps)) → GivesAt Here c looked → GivesAt Here c (by_called c what standard passed looked)
  call_at c (standard_call f) standard passed looked s p l = s f
  call_at c (procedure_call ps before i result more) standard passed looked s p l = join (p ps) none
  call_at c (lacking_call ps) standard passed looked s p l = join (p ps) none
  call_at c no_call standard passed looked s p l = l
