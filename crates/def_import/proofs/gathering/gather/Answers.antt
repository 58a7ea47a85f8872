use Rattle.std.proofs.Common.{ℕ, Option, Vec, Global, subst, ◌∙◌, arith}
use Rattle.std.proofs.lemmas.Result.{err_from_is_err_and}
use Rattle.std.specs.Prelude.{option_map, IfOk}
use Rattle.m2_io.specs.Files.{Files}
use Rattle.def_import.specs.Answers.{unit_given, wrongs_given}
use Rattle.def_import.specs.Outcomes.{IsGathered, Stops}
use Rattle.def_import.specs.Shelves.{Has, IsReadOf, main_file}
use Rattle.def_import.proofs.Gathers.{gathered_from, none_had, stops_from}
use Rattle.def_import.specs.declared.faults.GatherFault.TheVariants.{ReadFault}
use Rattle.def_import.proofs.Limits.{asks_has_text, no_limit, no_text_limit, no_text_read, rose_later, same_fault, shelf_has_text}
use Rattle.def_import.proofs.gathering.gather.Goals as goal

pub returns-in_err-main : goal.returns-in_err-main
returns-in_err-main g c =
    let p = err_from_is_err_and c.from_residual.result c.from_residual.ensures.1 in
    let f = c.in_err-main.field-0.0 in
    rw (p.1, p.2) (record {
      gathered = tt;
      told = tt;
      whole = tt;
      no_text = λ e. absurd (shelf_has_text f c.in_err-main.ensures.fault e);
      limits = λ limit e. absurd (no_limit f limit c.in_err-main.ensures.fault e);
      failed = λ e. c.in_err-main.ensures.failed (same_fault f ReadFault e);
      holds = c.in_err-main.ensures.holds;
      put_faults = c.in_err-main.ensures.put_faults;
      later = c.in_err-main.ensures.later;
    })

pub returns-in-Some : goal.returns-in-Some
returns-in-Some g c =
    let h = g.H.Shelf.holds c.args.shelf.now in
    let read = subst (λ (o : Option (Vec ℕ Global)). IsReadOf (Has h (main_file c.args.name.now)) (option_map (λ text. text.items) o)) c.in-Some.is c.in_ok-main.ensures.found in
    record {
      gathered = gathered_from h c.args.name.now c.in-Some.main.items c.deref.result.now c.gather_text.result read c.deref.ensures.value
          (subst (λ (o : Option Files). IfOk c.gather_text.result (λ x. IsGathered o c.args.name.now c.deref.result.now (unit_given x) (wrongs_given x))) c.in_ok-main.ensures.holds c.gather_text.ensures.gathered);
      told = c.gather_text.ensures.told;
      whole = c.gather_text.ensures.whole;
      no_text = λ e. absurd (asks_has_text c.gather_text.result c.gather_text.ensures.fault e);
      limits = λ limit e. stops_from h c.args.name.now c.in-Some.main.items c.deref.result.now limit read c.deref.ensures.value
          (subst (λ (o : Option Files). Stops o c.args.name.now c.deref.result.now limit) c.in_ok-main.ensures.holds (c.gather_text.ensures.limits limit e));
      failed = λ e. rose_later _ _ _ c.in_ok-main.ensures.later (c.gather_text.ensures.failed e);
      holds = c.gather_text.ensures.holds ∙ c.in_ok-main.ensures.holds;
      put_faults = c.gather_text.ensures.put_faults ∙ c.in_ok-main.ensures.put_faults;
      later = omega (arith, c.gather_text.ensures.later, c.in_ok-main.ensures.later);
    }

pub returns-in-None : goal.returns-in-None
returns-in-None g c =
    let h = g.H.Shelf.holds c.args.shelf.now in
    let read = subst (λ (o : Option (Vec ℕ Global)). IsReadOf (Has h (main_file c.args.name.now)) (option_map (λ text. text.items) o)) c.in-None.is c.in_ok-main.ensures.found in
    record {
      gathered = tt;
      told = tt;
      whole = tt;
      no_text = λ e. none_had h c.args.name.now read;
      limits = λ limit e. absurd (no_text_limit limit e);
      failed = λ e. absurd (no_text_read e);
      holds = c.in_ok-main.ensures.holds;
      put_faults = c.in_ok-main.ensures.put_faults;
      later = c.in_ok-main.ensures.later;
    }
