use Rattle.std.proofs.Common.{◌≡◌, ◌≢◌, ◌∙◌, [], ℕ, Option, Vec, Global, subst, sym}
use Rattle.std.specs.Prelude.{option_map}
use Rattle.program_load.specs.Closure.{Progress, passed}
use Rattle.program_load.specs.Loads.{Asks, Stops, no_object, not_there, nothing}
use Rattle.program_load.specs.Shelves.{IsReadOf}
use Rattle.program_load.proofs.Fronts.{asks_so, ends_so, nothing_there}
use Rattle.program_load.proofs.Reaching.{none_of, some_of}
use Rattle.program_load.proofs.progress.Progress.ask.Goals as goal

pub returns-in-Some-clause-asked : goal.returns-in-Some-clause-asked
returns-in-Some-clause-asked g c =
    let h = g.H.Shelf.holds c.args.shelf.now in
    let read = subst (λ (o : Option (Vec ℕ Global)). IsReadOf h c.args.name.now (option_map (λ bytes. bytes.items) o)) c.in-Some.is c.in_ok-bytes.ensures.found in
    asks_so h c.args.name.now c.args.self c.in-Some.bytes.items c.deref.result.now c.read.result read c.deref.ensures.value c.read.ensures.read

pub returns-in-Some-clause-fault : goal.returns-in-Some-clause-fault
returns-in-Some-clause-fault g c =
    let h = g.H.Shelf.holds c.args.shelf.now in
    let read = subst (λ (o : Option (Vec ℕ Global)). IsReadOf h c.args.name.now (option_map (λ bytes. bytes.items) o)) c.in-Some.is c.in_ok-bytes.ensures.found in
    ends_so h c.args.name.now c.args.self c.in-Some.bytes.items c.deref.result.now c.read.result read c.deref.ensures.value c.read.ensures.fault

pub returns-in-None-clause-fault : goal.returns-in-None-clause-fault
returns-in-None-clause-fault g c =
    let h = g.H.Shelf.holds c.args.shelf.now in
    let read = subst (λ (o : Option (Vec ℕ Global)). IsReadOf h c.args.name.now (option_map (λ bytes. bytes.items) o)) c.in-None.is c.in_ok-bytes.ensures.found in
    let os = c.self.inside.objects in
    let none : os.items ≡ [] = none_of os.items os.len (sym c.is_empty.ensures ∙ c.if-is_empty.true) os.ok.0 in
    subst (λ (s : Progress). Stops h s c.args.name.now no_object) c.self.view_is (nothing none (nothing_there h c.args.name.now read))

pub returns-in-None-2-clause-asked : goal.returns-in-None-2-clause-asked
returns-in-None-2-clause-asked g c =
    let h = g.H.Shelf.holds c.args.shelf.now in
    let read = subst (λ (o : Option (Vec ℕ Global)). IsReadOf h c.args.name.now (option_map (λ bytes. bytes.items) o)) c.in-None-2.is c.in_ok-bytes.ensures.found in
    let os = c.self.inside.objects in
    let some : os.items ≢ [] = some_of os.items os.len (sym c.is_empty.ensures ∙ c.if-is_empty.false) os.ok.0 in
    subst (λ (q : Progress). Asks h c.args.self c.args.name.now q) (sym c.pass.ensures)
    (subst (λ (s : Progress). Asks h s c.args.name.now (passed s)) c.self.view_is (not_there some (nothing_there h c.args.name.now read)))
