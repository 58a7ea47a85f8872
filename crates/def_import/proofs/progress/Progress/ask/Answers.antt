use Rattle.std.proofs.lemmas.Result.{err_from_is_err_and}
use Rattle.std.proofs.Common.{◌≡◌, ℕ, List, Option, Some, Vec, Global, length, sym, subst, arith, true, None}
use Rattle.std.specs.Prelude.{option_map, IfOk}
use Rattle.def_import.specs.Closure.{Progress, next_module, progress_of}
use Rattle.def_import.specs.Outcomes.{AskPasses, Asks, Passes}
use Rattle.def_import.specs.Shelves.{HasDefinition, IsReadOf}
use Rattle.def_import.specs.declared.faults.GatherFault.TheVariants.{Memory, ReadFault}
use Rattle.def_import.proofs.Asking.{answer_kept, next_named, none_read, pushed_number, some_passes, some_reads}
use Rattle.def_import.proofs.Limits.{no_limit, not_read_fault, same_fault, shelf_asks, text_asks, text_not_read, no_fault}
use Rattle.def_import.proofs.progress.Progress.ask.Goals as goal

pub definition_text-requires : goal.definition_text-requires
definition_text-requires g c =
    next_named (progress_of c.self.inside.parts.names c.self.inside.parts.found.items c.self.inside.parts.asked.items) c.self.inside.parts.modules.keys c.self.inside.parts.tokens c.args.name c.self.invariant
    (subst (λ (s : Progress). next_module s ≡ Some c.args.name) (sym c.self.view_is) c.requires)

pub returns-in_err-definition_text : goal.returns-in_err-definition_text
returns-in_err-definition_text g c =
    let p = err_from_is_err_and c.from_residual.result c.from_residual.ensures.1 in
    let f = c.in_err-definition_text.field-0.0 in
    rw (p.1, p.2) (record {
      asked = tt;
      limits = λ limit h. absurd (no_limit f limit c.in_err-definition_text.ensures.fault h);
      holds = c.in_err-definition_text.ensures.holds;
      put_faults = c.in_err-definition_text.ensures.put_faults;
      later = c.in_err-definition_text.ensures.later;
      failed = λ h. c.in_err-definition_text.ensures.failed (same_fault f ReadFault h);
      fault = shelf_asks f c.in_err-definition_text.ensures.fault;
    })

pub returns-in_err-push-in-None : goal.returns-in_err-push-in-None
returns-in_err-push-in-None g c =
    let p = err_from_is_err_and c.from_residual-in_err-push-in-None.result c.from_residual-in_err-push-in-None.ensures.1 in
    rw (p.1, p.2) (record {
      asked = tt;
      limits = λ limit h. absurd (no_limit Memory limit tt h);
      holds = c.in_ok-definition_text.ensures.holds;
      put_faults = c.in_ok-definition_text.ensures.put_faults;
      later = c.in_ok-definition_text.ensures.later;
      failed = λ h. absurd (not_read_fault h);
      fault = tt;
    })

pub returns-in_err-push-in-Some : goal.returns-in_err-push-in-Some
returns-in_err-push-in-Some g c =
    let p = err_from_is_err_and c.from_residual-in_err-push-in-Some.result c.from_residual-in_err-push-in-Some.ensures.1 in
    rw (p.1, p.2) (record {
      asked = tt;
      limits = λ limit h. absurd (no_limit Memory limit tt h);
      holds = c.in_ok-definition_text.ensures.holds;
      put_faults = c.in_ok-definition_text.ensures.put_faults;
      later = c.in_ok-definition_text.ensures.later;
      failed = λ h. absurd (not_read_fault h);
      fault = tt;
    })

pub returns-in_ok-push-in-None : goal.returns-in_ok-push-in-None
returns-in_ok-push-in-None g c =
    let h = g.H.Shelf.holds c.args.shelf.now in
    let p : Progress = progress_of c.self.inside.parts.names c.self.inside.parts.found.items c.self.inside.parts.asked.items in
    let read = subst (λ (o : Option (Vec ℕ Global)). IsReadOf (HasDefinition h c.self.inside.parts.names c.args.name) (option_map (λ text. text.items) o)) c.in-None.is c.in_ok-definition_text.ensures.found in
    record {
      asked = subst (λ (s : Progress). Asks h s c.args.name (progress_of c.self.inside.parts.names c.self.inside.parts.found.items c.push.new.self.items)) c.self.view_is
          (none_read h p c.args.name c.push.new.self.items read c.in_ok-push-in-None.ensures.items);
      limits = λ limit h. absurd (no_fault h);
      holds = c.in_ok-definition_text.ensures.holds;
      put_faults = c.in_ok-definition_text.ensures.put_faults;
      later = c.in_ok-definition_text.ensures.later;
      failed = λ h. absurd (no_fault h);
      fault = tt;
    }

pub returns-in_ok-push-in-Some : goal.returns-in_ok-push-in-Some
returns-in_ok-push-in-Some g c =
    let h = g.H.Shelf.holds c.args.shelf.now in
    let p : Progress = progress_of c.self.inside.parts.names c.self.inside.parts.found.items c.self.inside.parts.asked.items in
    let read = subst (λ (o : Option (Vec ℕ Global)). IsReadOf (HasDefinition h c.self.inside.parts.names c.args.name) (option_map (λ text. text.items) o)) c.in-Some.is c.in_ok-definition_text.ensures.found in
    let number : c.len-number.result ≡ length c.self.inside.parts.found.items = omega (arith, c.len-number.ensures, c.self.inside.parts.found.ok.0) in
    let pushed = pushed_number c.self.inside.parts.asked.items c.push-in-Some.new.self.items c.len-number.result (length c.self.inside.parts.found.items) c.in_ok-push-in-Some.ensures.items number in
    record {
      asked = subst (λ (s : Progress). IfOk c.read.result (λ q. Asks h s c.args.name q)) c.self.view_is
          (some_reads h p c.args.name c.in-Some.bytes.items c.deref.result.now c.push-in-Some.new.self.items c.read.result read c.deref.ensures.value pushed c.read.ensures.read);
      limits = λ limit e. subst (λ (s : Progress). AskPasses h s c.args.name limit) c.self.view_is
          (some_passes h p c.args.name c.in-Some.bytes.items limit read
          (subst (λ (b : List ℕ). Passes c.self.inside.parts.names c.self.inside.parts.found.items true c.args.name b limit) c.deref.ensures.value (c.read.ensures.limits limit e)));
      holds = c.in_ok-definition_text.ensures.holds;
      put_faults = c.in_ok-definition_text.ensures.put_faults;
      later = c.in_ok-definition_text.ensures.later;
      failed = λ e. absurd (text_not_read c.read.result c.read.ensures.fault e);
      fault = text_asks c.read.result c.read.ensures.fault;
    }

pub invariant_of-self : goal.invariant_of-self
invariant_of-self g c =
    answer_kept (progress_of c.self.inside.parts.names c.self.inside.parts.found.items c.self.inside.parts.asked.items) c.self.inside.parts.modules.keys c.self.inside.parts.tokens c.args.name c.self.invariant
    (subst (λ (s : Progress). next_module s ≡ Some c.args.name) (sym c.self.view_is) c.requires) None c.push.new.self.items c.in_ok-push-in-None.ensures.items

pub invariant_of-self-in-Some : goal.invariant_of-self-in-Some
invariant_of-self-in-Some g c =
    answer_kept (progress_of c.self.inside.parts.names c.self.inside.parts.found.items c.self.inside.parts.asked.items) c.self.inside.parts.modules.keys c.self.inside.parts.tokens c.args.name c.self.invariant
    (subst (λ (s : Progress). next_module s ≡ Some c.args.name) (sym c.self.view_is) c.requires) (Some c.len-number.result) c.push-in-Some.new.self.items c.in_ok-push-in-Some.ensures.items
