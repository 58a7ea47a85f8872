use Rattle.std.proofs.Common.{◌≡◌, ◌+◌, ◌<◌, ◌^◌, ℕ, List, arith, sym, ap, ◌∙◌, subst}
use Rattle.std.specs.List.{slice_index_or}
use Rattle.stack_machine.specs.Loading.{variables_from, bodies_from, first_cell}
use Rattle.stack_machine.proofs.Growing.{variables_low, bodies_low}
use Rattle.stack_machine.proofs.loading.load.Goals as goal

pub add_objects-requires-clause-scene : goal.add_objects-requires-clause-scene
add_objects-requires-clause-scene c =
    let os = c.args.objects.now in
    let l = c.requires.layout in
    let vs = c.deref.ensures.value ∙ c.in_ok-variables.ensures.are ∙ ap (λ (n : ℕ). variables_from n os) l.variables in
    let bs = c.deref-2.ensures.value ∙ c.in_ok-bodies.ensures.bodies in
    let frames = l.frames in
    let room = c.requires.room in
    let few = c.in_ok-bodies.ensures.few in
    let count = c.in_ok-bodies.ensures.count in
    record {
      variables = vs;
      bodies = bs;
      count = count;
      variables_small = λ x. subst (λ (xs : List ℕ). slice_index_or xs x 0 < 2 ^ 60) (sym vs) (let low = variables_low (first_cell os) os x in omega (arith, low, frames, room));
      bodies_small = λ x. subst (λ (xs : List ℕ). slice_index_or xs x 0 < 2 ^ 60) (sym bs) (let low = bodies_low 0 os x in omega (arith, low, few, count));
      count_small = few;
    }
