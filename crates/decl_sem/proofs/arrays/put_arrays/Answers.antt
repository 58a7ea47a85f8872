use Rattle.decl_sem.proofs.ArrayLists.{all_arrays, array_making, arrays_failed, arrays_waiting, index_behind, one_more_array, arrays_start}
use Rattle.decl_sem.proofs.Asking.{first_made}
use Rattle.std.proofs.Common.{◌∙◌, [], ◌∷◌, ap, arith, length, Iter}
use Rattle.std.proofs.lemmas.List.{length-append}
use Rattle.std.specs.declared.iter.Rev.{Rev}
use Rattle.m2_base.specs.declared.rows.Place.{Place}
use Rattle.decl_sem.proofs.arrays.put_arrays.Goals as goal

pub put_array-requires-clause-making : goal.put_array-requires-clause-making
put_array-requires-clause-making g c = array_making c.args.at c.args.indexes.now c.loop-index.index-iterator.iter.rest.now c.next.new.self.iter.rest.now c.in-Some.index.now c.args.of c.loop-index.array c.in-Some.ensures.steps c.loop-index.invariant

pub put_array-requires-clause-index : goal.put_array-requires-clause-index
put_array-requires-clause-index g c = index_behind c.args.at c.args.indexes.now c.loop-index.index-iterator.iter.rest.now c.next.new.self.iter.rest.now c.in-Some.index.now c.args.of c.loop-index.array c.in-Some.ensures.steps c.loop-index.invariant

pub returns-in-DontKnowYet : goal.returns-in-DontKnowYet
returns-in-DontKnowYet g c =
    arrays_waiting c.args.at c.args.indexes.now c.loop-index.index-iterator.iter.rest.now c.next.new.self.iter.rest.now c.in-Some.index.now c.args.of c.loop-index.array c.in-Some.ensures.steps c.loop-index.invariant (rw c.in-DontKnowYet.is at c.in-Ok.ensures)

pub returns-in-Err : goal.returns-in-Err
returns-in-Err g c =
    arrays_failed c.args.at c.args.indexes.now c.loop-index.index-iterator.iter.rest.now c.next.new.self.iter.rest.now c.in-Some.index.now c.args.of c.loop-index.array c.in-Some.ensures.steps c.loop-index.invariant c.in-Err.memory c.in-Err.ensures

pub loop-index-preserved : goal.loop-index-preserved
loop-index-preserved g c =
    one_more_array c.args.at c.args.indexes.now c.loop-index.index-iterator.iter.rest.now c.next.new.self.iter.rest.now c.in-Some.index.now c.args.of c.loop-index.array c.in-Some.ensures.steps c.loop-index.invariant (first_made c.in-Ok.is c.in-Known.is c.put_array.ensures)

pub returns : goal.returns
returns g c = all_arrays c.args.at c.args.indexes.now c.loop-index.index-iterator.iter.rest.now c.args.of c.loop-index.array c.in-None.ensures.steps.0 c.loop-index.invariant

pub put_array-requires-clause-of : goal.put_array-requires-clause-of
put_array-requires-clause-of g c = c.loop-index.invariant.elem

pub loop-index-init : goal.loop-index-init
loop-index-init g c =
    arrays_start c.args.at c.args.indexes.now c.into_iter-index-iterator.result.iter.rest.now c.args.of
    (ap (λ (r : Rev (Iter Place)). r.iter.rest.now) c.into_iter-index-iterator.ensures.into_iter_gives ∙ ap (λ (i : Iter Place). i.rest.now) c.rev-index-items.ensures.source ∙ c.iter.ensures.rest)
    c.requires.making c.requires.indexes c.requires.of

pub loop-index-smaller : goal.loop-index-smaller
loop-index-smaller g c =
    let l = length-append c.next.new.self.iter.rest.now (c.in-Some.index.now ∷ []) in
    let one = ap length c.in-Some.ensures.steps in
    omega (arith, l, one)
