use Rattle.std.proofs.Common.{ℕ, Option, Vec, Global, refl, subst}
use Rattle.std.specs.Prelude.{option_map}
use Rattle.program_load.specs.Loads.{nothing}
use Rattle.program_load.specs.Shelves.{IsReadOf}
use Rattle.program_load.proofs.Fronts.{finds_so, nothing_there, stops_so}
use Rattle.program_load.proofs.loading.load_object.Goals as goal

pub returns-in-Some-clause-found : goal.returns-in-Some-clause-found
returns-in-Some-clause-found g c =
    let h = g.H.Shelf.holds c.args.shelf.now in
    let read = subst (λ (o : Option (Vec ℕ Global)). IsReadOf h c.args.name.now (option_map (λ bytes. bytes.items) o)) c.in-Some.is c.in_ok-bytes.ensures.found in
    finds_so h c.args.name.now c.in-Some.bytes.items c.deref.result.now c.object_in.result read c.deref.ensures.value c.object_in.ensures.short c.object_in.ensures.object

pub returns-in-Some-clause-fault : goal.returns-in-Some-clause-fault
returns-in-Some-clause-fault g c =
    let h = g.H.Shelf.holds c.args.shelf.now in
    let read = subst (λ (o : Option (Vec ℕ Global)). IsReadOf h c.args.name.now (option_map (λ bytes. bytes.items) o)) c.in-Some.is c.in_ok-bytes.ensures.found in
    stops_so h c.args.name.now c.in-Some.bytes.items c.deref.result.now c.object_in.result read c.deref.ensures.value c.object_in.ensures.fault

pub returns-in-None-clause-fault : goal.returns-in-None-clause-fault
returns-in-None-clause-fault g c =
    let h = g.H.Shelf.holds c.args.shelf.now in
    let read = subst (λ (o : Option (Vec ℕ Global)). IsReadOf h c.args.name.now (option_map (λ bytes. bytes.items) o)) c.in-None.is c.in_ok-bytes.ensures.found in
    nothing refl (nothing_there h c.args.name.now read)
