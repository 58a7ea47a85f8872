use Rattle.std.proofs.Common.{◌≡◌, ap, sym, subst, refl, List, OnOk, OnErr, IfOk}
use Rattle.m2_base.specs.declared.notes.Diag.{Diag}
use Rattle.m2_io.specs.Written.{WritesPart, with_bytes}
use Rattle.listings.specs.Listing.{unit_listing}
use Rattle.module_outcome.specs.Delivery.{Delivers}
use Rattle.module_outcome.specs.Verdicts.{Decision, decision_of, listed, printed_of}
use Rattle.module_outcome.proofs.Said.{delivers, on_ok}
use Rattle.module_outcome.proofs.delivering.deliver.Goals as goal

pub returns-in-Listed-clause-delivers : goal.returns-in-Listed-clause-delivers
returns-in-Listed-clause-delivers g c =
    let name = c.args.name.now in
    let holds = g.H.Shelf.holds c.args.shelf.now in
    let old = g.P.Sink.written c.args.print.now in
    let new = g.P.Sink.written c.print_listing.new.print in
    let r = c.print_listing.result in
    let u = c.in-Listed.texts in
    let is : decision_of c.args.verdict.now ≡ listed u c.in-Listed.diags.items = ap decision_of c.in-Listed.is in
    let printed = subst (λ (ds : List Diag). OnOk r (new ≡ with_bytes old (unit_listing u ds))) c.as_slice.ensures.value c.print_listing.ensures.ok in
    subst (λ (d : Decision). IfOk r (λ answer. Delivers name d answer holds holds old new)) (sym is)
    (delivers name (listed u c.in-Listed.diags.items) holds holds old new r c.print_listing.ensures.answer (on_ok r refl) printed)

pub returns-in-Listed-clause-prints : goal.returns-in-Listed-clause-prints
returns-in-Listed-clause-prints g c =
    let name = c.args.name.now in
    let old = g.P.Sink.written c.args.print.now in
    let new = g.P.Sink.written c.print_listing.new.print in
    let r = c.print_listing.result in
    let u = c.in-Listed.texts in
    let is : decision_of c.args.verdict.now ≡ listed u c.in-Listed.diags.items = ap decision_of c.in-Listed.is in
    let part = subst (λ (ds : List Diag). OnErr r (WritesPart old (unit_listing u ds) new)) c.as_slice.ensures.value c.print_listing.ensures.part in
    subst (λ (d : Decision). OnErr r (WritesPart old (printed_of name d) new)) (sym is) part
