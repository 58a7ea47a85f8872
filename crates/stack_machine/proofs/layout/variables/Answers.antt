use Rattle.std.proofs.Common.{◌≡◌, ◌∙◌, ℕ, suc, ◌+◌, ◌<◌, List, [], ◌∷◌, ◌++◌, length, get_or, drop, sym, ap, append_assoc, arith}
use Rattle.std.proofs.lemmas.List.{append-nil, drop_all}
use Rattle.std.proofs.Math.Seq.{drop-cons}
use Rattle.object_file.specs.Contents.{Contents}
use Rattle.stack_machine.specs.Loading.{cells_of, variables_from}
use Rattle.stack_machine.proofs.Pushing.{none_asked}
use Rattle.stack_machine.proofs.layout.variables.Goals as goal

-- the objects from this one on
here : (os : List Contents) (i : ℕ) (o : Contents) → i < length os → o ≡ get_or os i o → drop i os ≡ o ∷ drop (i + 1) os
here os i o lt is = let one : i + 1 ≡ suc i = omega arith in drop-cons os i o lt ∙ ap (λ (x : Contents). x ∷ drop (suc i) os) (sym is) ∙ ap (λ (k : ℕ). o ∷ drop k os) (sym one)

counted : (at rest : ℕ) {left one cells all : ℕ} → at + left ≡ all → left ≡ one + rest → cells ≡ one → at + cells + rest ≡ all
counted at rest a l c = omega arith

-- with the cell of one object more
one_more : (os : List Contents) (i at first cells : ℕ) (o : Contents) (cells_before cells_now : List ℕ) → i < length os → o ≡ get_or os i o → cells ≡ o.cells → cells_now ≡ cells_before ++ at ∷ []
    → cells_before ++ variables_from at (drop i os) ≡ variables_from first os → cells_now ++ variables_from (at + cells) (drop (i + 1) os) ≡ variables_from first os
one_more os i at first cells o before now lt is cells_is pushed so_far =
    let rest = drop (i + 1) os in
    ap (λ (t : List ℕ). t ++ variables_from (at + cells) rest) pushed ∙ append_assoc before (at ∷ []) (variables_from (at + cells) rest)
    ∙ ap (λ (n : ℕ). before ++ at ∷ variables_from (at + n) rest) cells_is ∙ ap (λ (qs : List Contents). before ++ variables_from at qs) (sym (here os i o lt is)) ∙ so_far

pub loop-object-preserved : goal.loop-object-preserved
loop-object-preserved c = record {
  so_far = counted _ _ c.loop-object.invariant.so_far (ap cells_of (here c.args.objects.now c.loop-object.object-index c.object-item.result c.loop-object-test.true c.object-item.is)) c.cells.ensures;
  all_are = one_more c.args.objects.now c.loop-object.object-index c.loop-object.at c.args.first c.cells.result c.object-item.result c.loop-object.all.items c.push.new.self.items c.loop-object-test.true c.object-item.is c.cells.ensures c.in_ok-push.ensures.items c.loop-object.invariant.all_are;
}

pub returns : goal.returns
returns c =
    let none = drop_all c.loop-object.object-index c.args.objects.now c.loop-object-test.false in
    record { are = sym (append-nil c.loop-object.all.items) ∙ ap (λ (os : List Contents). c.loop-object.all.items ++ variables_from c.loop-object.at os) (sym none) ∙ c.loop-object.invariant.all_are }

pub returns-in_err-push : goal.returns-in_err-push
returns-in_err-push c = record { are = none_asked c.from_residual.result _ c.from_residual.ensures.0 }
