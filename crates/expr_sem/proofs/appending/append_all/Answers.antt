use Rattle.std.proofs.Common.{◌≡◌, ◌∙◌, ◌++◌, ◌∷◌, [], List, ◌<◌, length, ap, arith, subst, sym}
use Rattle.m2_base.specs.Lists.{Each}
use Rattle.expr_sem.specs.Fragments.{IsIn, part}
use Rattle.expr_sem.specs.Stacks.{ends_as, remaining, stack_weight}
use Rattle.expr_sem.specs.declared.fragments.Fragment.{Fragment}
use Rattle.expr_sem.specs.declared.fragments.Fragment.TheVariants.{Node as NodeOf, Nothing}
use Rattle.expr_sem.proofs.PieceParts.{Begins-refl, Begins-trans, empty_of, ended_all, none_visited, one_visited, stack_pushed}
use Rattle.expr_sem.proofs.Stacked.{earlier_than, front_in, lighter_stack, made_there, node_part, still_in}
use Rattle.expr_sem.proofs.appending.append_all.Goals as goal

pub loop-next-init : goal.loop-next-init
loop-next-init c =
    let ns = c.args.fragments.now.nodes.items in
    let e : c.push.new.self.items ≡ c.args.fragment ∷ [] = c.in_ok-push.ensures.items ∙ ap (λ (l : List Fragment). l ++ c.args.fragment ∷ []) c.new-rest.ensures.items in
    record {
      begins = Begins-refl c.args.piece.now;
      there = subst (λ (l : List Fragment). Each (λ f. IsIn ns f) l) (sym e) (c.requires.there, tt);
      same = ap (λ (l : List Fragment). ends_as c.args.piece.now c.args.withs.now (remaining ns l)) e;
    }

pub index-node-requires : goal.index-node-requires
index-node-requires c =
    let ns = c.args.fragments.now.nodes.items in
    let e = c.in-Some.ensures.items ∙ ap (λ (f : Fragment). c.pop.new.self.items ++ f ∷ []) c.in-Node.is in
    let h : c.in-Node.number < length ns = (front_in ns c.pop.new.self.items (NodeOf c.in-Node.number) (subst (λ (l : List Fragment). Each (λ f. IsIn ns f) l) e c.loop-next.invariant.there)).1 in
    omega (arith, h)

pub visit-requires-clause-there : goal.visit-requires-clause-there
visit-requires-clause-there c =
    let ns = c.args.fragments.now.nodes.items in
    let e = c.in-Some.ensures.items ∙ ap (λ (f : Fragment). c.pop.new.self.items ++ f ∷ []) c.in-Node.is in
    let h = (front_in ns c.pop.new.self.items (NodeOf c.in-Node.number) (subst (λ (l : List Fragment). Each (λ f. IsIn ns f) l) e c.loop-next.invariant.there)).1 in
    made_there ns c.in-Node.number c.index-node.result.now c.requires.sound h c.index-node.ensures

pub loop-next-smaller : goal.loop-next-smaller
loop-next-smaller c =
    let ns = c.args.fragments.now.nodes.items in
    let e = c.in-Some.ensures.items ∙ ap (λ (f : Fragment). c.pop.new.self.items ++ f ∷ []) c.in-Node.is in
    let h = (front_in ns c.pop.new.self.items (NodeOf c.in-Node.number) (subst (λ (l : List Fragment). Each (λ f. IsIn ns f) l) e c.loop-next.invariant.there)).1 in
    subst (λ (l : List Fragment). stack_weight c.visit.new.rest.items < stack_weight l) (sym e)
    (lighter_stack c.pop.new.self.items c.visit.new.rest.items c.in-Node.number c.index-node.result.now.form c.in_ok-visit-in-Node.ensures.ok.pushed (earlier_than ns c.in-Node.number c.index-node.result.now c.requires.sound h c.index-node.ensures))

pub loop-next-preserved : goal.loop-next-preserved
loop-next-preserved c =
    let ns = c.args.fragments.now.nodes.items in
    let ws = c.args.withs.now in
    let k = c.in-Node.number in
    let n = c.index-node.result.now in
    let popped = c.pop.new.self.items in
    let i = c.loop-next.invariant in
    let e = c.in-Some.ensures.items ∙ ap (λ (f : Fragment). popped ++ f ∷ []) c.in-Node.is in
    let h = front_in ns popped (NodeOf k) (subst (λ (l : List Fragment). Each (λ f. IsIn ns f) l) e i.there) in
    record {
      begins = Begins-trans i.begins c.in_ok-visit-in-Node.ensures.begins;
      there = still_in ns popped c.visit.new.rest.items n.form c.in_ok-visit-in-Node.ensures.ok.pushed (made_there ns k n c.requires.sound h.1 c.index-node.ensures) h.0;
      same = one_visited ns c.loop-next.piece c.visit.new.piece ws popped c.visit.new.rest.items (NodeOf k) n.form (node_part ns k n c.requires.sound h.1 c.index-node.ensures) c.in_ok-visit-in-Node.ensures.ok
          ∙ ap (λ (l : List Fragment). ends_as c.loop-next.piece ws (remaining ns l)) (sym e) ∙ i.same;
    }

pub returns-in_err-visit-in-Node-clause-begins : goal.returns-in_err-visit-in-Node-clause-begins
returns-in_err-visit-in-Node-clause-begins c = Begins-trans c.loop-next.invariant.begins c.in_err-visit-in-Node.ensures.begins

pub loop-next-smaller-in-Nothing : goal.loop-next-smaller-in-Nothing
loop-next-smaller-in-Nothing c =
    let e = c.in-Some.ensures.items ∙ ap (λ (f : Fragment). c.pop.new.self.items ++ f ∷ []) c.in-Nothing.is in
    let w = stack_pushed c.pop.new.self.items Nothing in
    subst (λ (l : List Fragment). stack_weight c.pop.new.self.items < stack_weight l) (sym e) (omega (arith, w))

pub loop-next-preserved-in-Nothing : goal.loop-next-preserved-in-Nothing
loop-next-preserved-in-Nothing c =
    let ns = c.args.fragments.now.nodes.items in
    let ws = c.args.withs.now in
    let popped = c.pop.new.self.items in
    let i = c.loop-next.invariant in
    let e = c.in-Some.ensures.items ∙ ap (λ (f : Fragment). popped ++ f ∷ []) c.in-Nothing.is in
    let h = front_in ns popped Nothing (subst (λ (l : List Fragment). Each (λ f. IsIn ns f) l) e i.there) in
    record {
      begins = i.begins;
      there = h.0;
      same = none_visited ns c.loop-next.piece ws popped ∙ ap (λ (l : List Fragment). ends_as c.loop-next.piece ws (remaining ns l)) (sym e) ∙ i.same;
    }

pub returns-clause-begins : goal.returns-clause-begins
returns-clause-begins c = c.loop-next.invariant.begins

pub returns-clause-ok : goal.returns-clause-ok
returns-clause-ok c =
    let none_left = c.in_default.ensures.cases.0 in
    let ns = c.args.fragments.now.nodes.items in
    ended_all ns c.args.piece.now c.loop-next.piece c.args.withs.now c.loop-next.rest.items (part ns c.args.fragment) (empty_of c.loop-next.rest.items (omega (arith, none_left))) c.loop-next.invariant.same
