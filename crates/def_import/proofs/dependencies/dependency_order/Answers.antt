use Rattle.std.proofs.lemmas.Result.{IfOk-from_err}
use Rattle.std.proofs.Common.{◌≡◌, ◌≤◌, Some, None, length, sym, ◌∙◌, ap, subst, arith, List, ℕ, drop, rules}
use Rattle.std.proofs.lemmas.List.{length-map}
use Rattle.def_import.specs.Dependencies.{AreStruck, all_needs, first_free, items_of, needs_of}
use Rattle.def_import.proofs.Ordering.{as_many, is_order, more_taken, next_free, none_struck, still_struck}
use Rattle.def_import.proofs.dependencies.dependency_order.Goals as goal

pub loop-init : goal.loop-init
loop-init c = record {
  order = c.new-taken.ensures.items;
  struck =
      subst (λ (ns : List (List ℕ)). AreStruck c.new-taken.result.items (all_needs c.args.progress.now c.args.progress.now.found) ns) (sym c.in_ok-all.ensures.needs)
      (none_struck c.new-taken.result.items (all_needs c.args.progress.now c.args.progress.now.found));
}

pub first_free-requires : goal.first_free-requires
first_free-requires c =
    omega (arith, ap length c.deref_mut.ensures.value, as_many c.args.progress.now c.loop.taken.items c.loop.all.items c.loop.invariant.struck, c.in_ok-all.ensures.few)

pub returns-in_default : goal.returns-in_default
returns-in_default c =
    let p = c.args.progress.now in
    let free : c.first_free.result ≡ first_free c.loop.taken.items 1 (drop 1 (items_of c.loop.all.items)) =
    c.first_free.ensures.free ∙ ap (λ t. first_free t 1 (drop 1 (items_of c.deref_mut.result.now))) c.deref.ensures.value
    ∙ ap (λ a. first_free c.loop.taken.items 1 (drop 1 (items_of a))) c.deref_mut.ensures.value in
    let none : c.first_free.result ≡ None = search rules in
    let within : c.loop.counter ≤ length p.found =
    omega (arith, c.loop-test.true, c.len-end.ensures, c.in_ok-all.all.ok.0, length-map c.in_ok-all.all.items (λ v. v.items), ap length c.in_ok-all.ensures.needs, length-map p.found (needs_of p)) in
    is_order p c.loop.counter c.loop.taken.items c.loop.invariant.order within (sym (next_free p c.loop.taken.items (items_of c.loop.all.items) c.loop.invariant.struck) ∙ sym free ∙ none)

pub loop-preserved : goal.loop-preserved
loop-preserved c =
    let p = c.args.progress.now in
    let free : c.first_free.result ≡ first_free c.loop.taken.items 1 (drop 1 (items_of c.loop.all.items)) =
    c.first_free.ensures.free ∙ ap (λ t. first_free t 1 (drop 1 (items_of c.deref_mut.result.now))) c.deref.ensures.value
    ∙ ap (λ a. first_free c.loop.taken.items 1 (drop 1 (items_of a))) c.deref_mut.ensures.value in
    let some : c.first_free.result ≡ Some c.in-Some.text = c.in-Some.is in
    record {
      order =
          more_taken p c.loop.counter c.in-Some.text c.loop.taken.items c.push.new.self.items c.loop.invariant.order
          (sym (next_free p c.loop.taken.items (items_of c.loop.all.items) c.loop.invariant.struck) ∙ sym free ∙ some) c.in_ok-push.ensures.items;
      struck =
          still_struck p c.loop.taken.items c.deref.result.now c.in-Some.text c.loop.all.len c.loop.all.items c.deref_mut.result.now c.first_free.new.all c.deref.ensures.value c.deref_mut.ensures.value
          c.loop.all.ok.0 c.loop.invariant.struck c.first_free.ensures.struck c.push.new.self.items c.in_ok-push.ensures.items;
    }

pub returns-in_err-all : goal.returns-in_err-all
returns-in_err-all c = IfOk-from_err c.from_residual.result _ c.from_residual.ensures.0

pub returns-in_err-push : goal.returns-in_err-push
returns-in_err-push c = IfOk-from_err c.from_residual-in_err-push.result _ c.from_residual-in_err-push.ensures.0
