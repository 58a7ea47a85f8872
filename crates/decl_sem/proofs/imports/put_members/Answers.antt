use Rattle.std.proofs.Common.{ap, arith, ◌<◌, ℕ, zero, suc, List, [], ◌∷◌, get_or, length}
use Rattle.m2_base.specs.declared.rows.Place.{Place}
use Rattle.decl_sem.proofs.PutMembers.{put_count, all_names_put, all_rows_put, one_put}
use Rattle.std.proofs.lemmas.Result.{IfOk-from_err}
use Rattle.std.proofs.lemmas.List.{get_or_default}
use Rattle.m2_base.specs.Lists.{Each}
use Rattle.decl_sem.specs.declared.brought.Member.{Member}
use Rattle.decl_sem.proofs.imports.put_members.Goals as goal

pub make_new-requires-clause-room : goal.make_new-requires-clause-room
make_new-requires-clause-room c =
    let n = put_count c.loop-member.invariant c.loop-member-test.true in
    let r = c.requires.room in
    omega (arith, n, r)

pub returns-in_err-ordinal-clause-names : goal.returns-in_err-ordinal-clause-names
returns-in_err-ordinal-clause-names c = IfOk-from_err c.from_residual.result _ c.from_residual.ensures.0

pub returns-in_err-ordinal-clause-rows : goal.returns-in_err-ordinal-clause-rows
returns-in_err-ordinal-clause-rows c = IfOk-from_err c.from_residual.result _ c.from_residual.ensures.0

pub returns-in_err-push-clause-names : goal.returns-in_err-push-clause-names
returns-in_err-push-clause-names c = IfOk-from_err c.from_residual-in_err-push.result _ c.from_residual-in_err-push.ensures.0

pub returns-in_err-push-clause-rows : goal.returns-in_err-push-clause-rows
returns-in_err-push-clause-rows c = IfOk-from_err c.from_residual-in_err-push.result _ c.from_residual-in_err-push.ensures.0

-- what holds of each holds of the one at this number
each_here : {A : Type 0} (P : A → Type 0) (xs : List A) (k : ℕ) (d : A) → Each P xs → k < length xs → P (get_or xs k d)
each_here P [] k d h below = absurd (omega (arith, below))
each_here P (x ∷ xs) zero d h below = h.0
each_here P (x ∷ xs) (suc k) d h below = each_here P xs k d h.1 (omega (arith, below))

pub make_new-requires-clause-scopes : goal.make_new-requires-clause-scopes
make_new-requires-clause-scopes c = each_here (λ (m : Member). m.place.scope < 2147483648) c.args.members.now c.loop-member.member-index _ c.requires.places c.loop-member-test.true

pub loop-member-preserved : goal.loop-member-preserved
loop-member-preserved c =
    let none : Member = record { name = 0; place = record { scope = 0; ordinal = 0 } } in
    let m = get_or c.args.members.now c.loop-member.member-index none in
    one_put m c.in_ok-ordinal.field-0.ordinal c.loop-member.invariant c.loop-member-test.true (get_or_default c.args.members.now c.loop-member.member-index none m c.loop-member-test.true)
    c.in_ok-ordinal.ensures.rows c.make_new.ensures.notes c.make_new.ensures.first (ap (λ (p : Place). p.ordinal) c.in_ok-ordinal.ensures.place)
    (rw c.unwrap_or-item.ensures at c.in_ok-push.ensures.items)

pub returns-clause-names : goal.returns-clause-names
returns-clause-names c = all_names_put c.loop-member.invariant (omega (arith, c.loop-member-test.false, c.loop-member.auto.member-index-end))

pub returns-clause-rows : goal.returns-clause-rows
returns-clause-rows c = all_rows_put c.loop-member.invariant (omega (arith, c.loop-member-test.false, c.loop-member.auto.member-index-end))
