use Rattle.std.proofs.Common.{Err, ◌≡◌, None, Some, arith, rules, refl, subst, sym, ◌∙◌, Option}
use Rattle.std.proofs.lemmas.Result.{err_from_is_err_and}
use Rattle.m2_io.specs.Files.{Files}
use Rattle.def_import.specs.Closure.{next_module}
use Rattle.def_import.specs.Outcomes.{AskPasses, Asks, at_module, then_asks}
use Rattle.def_import.specs.Views.{fault_of}
use Rattle.def_import.proofs.Gathers.{asked_more, main_reached, main_stops}
use Rattle.def_import.specs.declared.faults.GatherFault.TheVariants.{Memory, ReadFault}
use Rattle.def_import.proofs.Limits.{no_fault, no_limit, not_read_fault, rose_later, same_fault, text_asks_at, text_not_read}
use Rattle.def_import.proofs.UnitKept.{reached_unit}
use Rattle.def_import.proofs.WholeUnits.{said_whole}
use Rattle.def_import.proofs.gathering.gather_text.Goals as goal

pub loop-name-init : goal.loop-name-init
loop-name-init g c = record {
  reached =
      main_reached (g.H.Shelf.holds c.args.shelf.now) c.args.name.now c.args.main.now c.as_bytes.result.now c.in_ok-begun.number c.in_ok-begun.begun c.in_ok-progress.progress c.as_bytes.ensures.value
      c.in_ok-begun.ensures.begun c.in_ok-begun.ensures.number c.in_ok-progress.ensures.read;
  holds = refl;
  put_faults = refl;
  later = omega arith;
}

pub loop-name-smaller : goal.loop-name-smaller
loop-name-smaller g c =
    let next : next_module c.loop-name.progress ≡ Some c.in-Some.name = sym c.next_module.ensures ∙ c.in-Some.is in
    asked_more (g.H.Shelf.holds c.args.shelf.now) c.args.name.now c.args.main.now (g.H.Shelf.holds c.loop-name.shelf) c.loop-name.progress c.in_ok-progress-2.progress c.in-Some.name
    c.loop-name.invariant.reached next c.in_ok-progress-2.ensures.asked

pub loop-name-preserved : goal.loop-name-preserved
loop-name-preserved g c =
    let next : next_module c.loop-name.progress ≡ Some c.in-Some.name = sym c.next_module.ensures ∙ c.in-Some.is in
    record {
      reached =
          then_asks c.loop-name.invariant.reached next (subst (λ (o : Option Files). Asks o c.loop-name.progress c.in-Some.name c.in_ok-progress-2.progress) c.loop-name.invariant.holds
          c.in_ok-progress-2.ensures.asked);
      holds = c.ask.ensures.holds ∙ c.loop-name.invariant.holds;
      put_faults = c.ask.ensures.put_faults ∙ c.loop-name.invariant.put_faults;
      later = omega (arith, c.ask.ensures.later, c.loop-name.invariant.later);
    }

pub finish-requires : goal.finish-requires
finish-requires g c =
    reached_unit (g.H.Shelf.holds c.args.shelf.now) c.args.name.now c.args.main.now c.loop-name.progress c.requires.named c.requires.short (λ i. omega (arith, c.type_inv.name i)) c.loop-name.invariant.reached

pub returns-in_err-begun : goal.returns-in_err-begun
returns-in_err-begun g c =
    let p = err_from_is_err_and c.from_residual.result c.from_residual.ensures.1 in
    rw (p.1, p.2) (record {
      gathered = tt;
      told = tt;
      whole = tt;
      limits = λ limit h. absurd (no_limit Memory limit tt h);
      fault = tt;
      failed = λ h. absurd (not_read_fault h);
      holds = refl;
      put_faults = refl;
      later = omega arith;
    })

pub returns-in_err-progress : goal.returns-in_err-progress
returns-in_err-progress g c =
    let p = err_from_is_err_and c.from_residual-in_err-progress.result c.from_residual-in_err-progress.ensures.1 in
    let f = c.in_err-progress.field-0.0 in
    rw (p.1, p.2) (record {
      gathered = tt;
      told = tt;
      whole = tt;
      limits = λ limit h. main_stops (g.H.Shelf.holds c.args.shelf.now) c.args.name.now c.args.main.now c.as_bytes.result.now c.in_ok-begun.number c.in_ok-begun.begun limit c.as_bytes.ensures.value
          c.in_ok-begun.ensures.begun c.in_ok-begun.ensures.number (c.in_err-progress.ensures.limits limit (same_fault f (fault_of limit) h));
      fault = text_asks_at f c.in_err-progress.ensures.fault;
      failed = λ h. absurd (text_not_read (Err f) c.in_err-progress.ensures.fault h);
      holds = refl;
      put_faults = refl;
      later = omega arith;
    })

pub returns-in_err-progress-2 : goal.returns-in_err-progress-2
returns-in_err-progress-2 g c =
    let p = err_from_is_err_and c.from_residual-in_err-progress-2.result c.from_residual-in_err-progress-2.ensures.1 in
    let f = c.in_err-progress-2.field-0.0 in
    let next : next_module c.loop-name.progress ≡ Some c.in-Some.name = sym c.next_module.ensures ∙ c.in-Some.is in
    rw (p.1, p.2) (record {
      gathered = tt;
      told = tt;
      whole = tt;
      limits = λ limit h. at_module c.loop-name.invariant.reached next (subst (λ (o : Option Files). AskPasses o c.loop-name.progress c.in-Some.name limit) c.loop-name.invariant.holds
          (c.in_err-progress-2.ensures.limits limit (same_fault f (fault_of limit) h)));
      fault = c.in_err-progress-2.ensures.fault;
      failed = λ h. rose_later _ _ _ c.loop-name.invariant.later (c.in_err-progress-2.ensures.failed (same_fault f ReadFault h));
      holds = c.in_err-progress-2.ensures.holds ∙ c.loop-name.invariant.holds;
      put_faults = c.in_err-progress-2.ensures.put_faults ∙ c.loop-name.invariant.put_faults;
      later = omega (arith, c.in_err-progress-2.ensures.later, c.loop-name.invariant.later);
    })

pub returns-in_err-gathered : goal.returns-in_err-gathered
returns-in_err-gathered g c =
    let p = err_from_is_err_and c.from_residual-in_err-gathered.result c.from_residual-in_err-gathered.ensures.1 in
    rw (p.1, p.2) (record {
      gathered = tt;
      told = tt;
      whole = tt;
      limits = λ limit h. absurd (no_limit Memory limit tt h);
      fault = tt;
      failed = λ h. absurd (not_read_fault h);
      holds = c.loop-name.invariant.holds;
      put_faults = c.loop-name.invariant.put_faults;
      later = c.loop-name.invariant.later;
    })

pub returns : goal.returns
returns g c =
    let h = g.H.Shelf.holds c.args.shelf.now in
    let unit = reached_unit h c.args.name.now c.args.main.now c.loop-name.progress c.requires.named c.requires.short (λ i. omega (arith, c.type_inv.name i)) c.loop-name.invariant.reached in
    let all : next_module c.loop-name.progress ≡ None = search rules in
    record {
      gathered = record {
        progress = c.loop-name.progress;
        reached = c.loop-name.invariant.reached;
        all = all;
        texts = c.in_ok-gathered.ensures.unit;
        wrong = c.in_ok-gathered.ensures.wrongs;
      };
      told = c.in_ok-gathered.ensures.told;
      whole = said_whole h c.args.name.now c.args.main.now c.loop-name.progress c.in_ok-gathered.gathered unit c.loop-name.invariant.reached c.in_ok-gathered.ensures.unit c.in_ok-gathered.ensures.wrongs;
      limits = λ limit e. absurd (no_fault e);
      fault = tt;
      failed = λ e. absurd (no_fault e);
      holds = c.loop-name.invariant.holds;
      put_faults = c.loop-name.invariant.put_faults;
      later = c.loop-name.invariant.later;
    }
