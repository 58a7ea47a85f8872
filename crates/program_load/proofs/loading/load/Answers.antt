use Rattle.std.proofs.Common.{◌≡◌, ◌∙◌, ◌<◌, List, Option, Some, None, ap, arith, length, refl, subst, sym}
use Rattle.std.specs.Prelude.{IfSome, option_map}
use Rattle.std.proofs.lemmas.Result.{err_from_is_err_and}
use Rattle.m2_io.specs.Files.{Files}
use Rattle.m2_link.specs.Refusals.{AreLinkedTo}
use Rattle.m2_link.specs.Views.{IsRefusalOf}
use Rattle.object_file.specs.Contents.{Contents}
use Rattle.program_load.specs.Answers.{told}
use Rattle.program_load.specs.Closure.{Progress, next_module}
use Rattle.program_load.specs.Loads.{Asks, Reaches, Stops, begins}
use Rattle.program_load.proofs.Looping.{load_asked, load_links, load_refused, load_stops}
use Rattle.program_load.proofs.Reaching.{few_objects, main_read}
use Rattle.program_load.proofs.loading.load.Goals as goal

pub loop-name-init : goal.loop-name-init
loop-name-init g c = record {
  reached = subst (λ (p : Progress). Reaches (g.H.Shelf.holds c.args.shelf.now) c.args.name.now p) (sym c.in_ok-progress.ensures) begins;
  holds = refl;
  put_faults = refl;
  later = omega arith;
}

pub returns-in_err-progress-2-clause-fault : goal.returns-in_err-progress-2-clause-fault
returns-in_err-progress-2-clause-fault g c =
    let e = err_from_is_err_and c.from_residual-in_err-progress-2.result c.from_residual-in_err-progress-2.ensures.1 in
    let named : c.deref.result.now ≡ c.in-Some.name.now = c.deref.ensures ∙ c.in_ok-name.ensures.ok in
    let next : next_module c.loop-name.progress ≡ Some c.deref.result.now = sym c.in-Some.ensures.next ∙ ap Some (sym named) in
    rw (e.1, e.2) (load_stops (g.H.Shelf.holds c.args.shelf.now) c.args.name.now c.loop-name.progress c.deref.result.now c.in_err-progress-2.field-0.0 c.loop-name.invariant.reached next
    (subst (λ (o : Option Files). IfSome (told c.in_err-progress-2.field-0.0) (Stops o c.loop-name.progress c.deref.result.now)) c.loop-name.invariant.holds c.in_err-progress-2.ensures.fault))

pub loop-name-preserved : goal.loop-name-preserved
loop-name-preserved g c =
    let named : c.deref.result.now ≡ c.in-Some.name.now = c.deref.ensures ∙ c.in_ok-name.ensures.ok in
    let next : next_module c.loop-name.progress ≡ Some c.deref.result.now = sym c.in-Some.ensures.next ∙ ap Some (sym named) in
    record {
      reached =
          load_asked (g.H.Shelf.holds c.args.shelf.now) c.args.name.now c.loop-name.progress c.in_ok-progress-2.progress c.deref.result.now c.loop-name.invariant.reached next
          (subst (λ (o : Option Files). Asks o c.loop-name.progress c.deref.result.now c.in_ok-progress-2.progress) c.loop-name.invariant.holds c.in_ok-progress-2.ensures.asked);
      holds = c.ask.ensures.holds ∙ c.loop-name.invariant.holds;
      put_faults = c.ask.ensures.put_faults ∙ c.loop-name.invariant.put_faults;
      later = omega (arith, c.loop-name.invariant.later, c.ask.ensures.later);
    }

pub link-requires-clause-some : goal.link-requires-clause-some
link-requires-clause-some g c =
    let none : next_module c.loop-name.progress ≡ None = sym c.next_module.ensures.next ∙ ap (option_map _) c.in_default.is in
    subst (λ (os : List Contents). 0 < length os) (sym c.into_objects.ensures) (main_read (g.H.Shelf.holds c.args.shelf.now) c.args.name.now c.loop-name.progress c.loop-name.invariant.reached none)

pub link-requires-clause-few : goal.link-requires-clause-few
link-requires-clause-few g c =
    let few = few_objects (g.H.Shelf.holds c.args.shelf.now) c.args.name.now c.loop-name.progress c.loop-name.invariant.reached in
    omega (arith, few, ap length c.into_objects.ensures)

pub returns-in_err-program-clause-fault : goal.returns-in_err-program-clause-fault
returns-in_err-program-clause-fault g c =
    let none : next_module c.loop-name.progress ≡ None = sym c.next_module.ensures.next ∙ ap (option_map _) c.in_default.is in
    let e = err_from_is_err_and c.from_residual-in_err-program.result c.from_residual-in_err-program.ensures.1 in
    rw (e.1, e.2) (load_refused (g.H.Shelf.holds c.args.shelf.now) c.args.name.now c.loop-name.progress c.in_err-program.field-0.0 c.loop-name.invariant.reached none
    (subst (λ (os : List Contents). IsRefusalOf os c.in_err-program.field-0.0) c.into_objects.ensures c.in_err-program.ensures.refused))

pub returns-clause-linked : goal.returns-clause-linked
returns-clause-linked g c =
    let none : next_module c.loop-name.progress ≡ None = sym c.next_module.ensures.next ∙ ap (option_map _) c.in_default.is in
    load_links (g.H.Shelf.holds c.args.shelf.now) c.args.name.now c.loop-name.progress c.in_ok-program.program c.loop-name.invariant.reached none
    (subst (λ (os : List Contents). AreLinkedTo os c.in_ok-program.program) c.into_objects.ensures c.in_ok-program.ensures.linked)
