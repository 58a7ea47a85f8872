use Rattle.std.proofs.Common.{◌≡◌, ◌∙◌, ◌*◌, ◌+ℤ◌, ℕ, length, ap, refl, subst, sym, pos, ℤ, w64, to_z, of_z}
use Rattle.std.proofs.lemmas.Int.{to_z-of_z}
use Rattle.stack_machine.specs.Able.{Comes}
use Rattle.stack_machine.specs.Numbers.{below}
use Rattle.stack_machine.specs.State.{state_of}
use Rattle.stack_machine.specs.Step.{Next, indexed, made}
use Rattle.stack_machine.proofs.Cells.{below_small, far_is_none, not_below}
use Rattle.stack_machine.proofs.memory.open_index_at.Goals as goal

pub returns-in_default-clause-room : goal.returns-in_default-clause-room
returns-in_default-clause-room c = c.requires.able.room

pub returns-in_default-clause-comes : goal.returns-in_default-clause-comes
returns-in_default-clause-comes c = (ap (indexed (state_of c.args.core.now) 3 c.args.address c.args.size) c.in_default.is, refl)

pub returns-in_default-checked_mul-clause-room : goal.returns-in_default-checked_mul-clause-room
returns-in_default-checked_mul-clause-room c = c.requires.able.room

pub returns-in_default-checked_mul-clause-comes : goal.returns-in_default-checked_mul-clause-comes
returns-in_default-checked_mul-clause-comes c =
    let s = state_of c.args.core.now in (
      ap (indexed s 3 c.args.address c.args.size) c.in-Some.is
          ∙ ap (made s 3) (far_is_none (length s.cells) (c.in-Some.k * c.args.size) c.args.address c.requires.able.room.small (not_below c.in_default-checked_mul.ensures) c.ranges.address),
      refl,
    )

pub give_address-requires-clause-able : goal.give_address-requires-clause-able
give_address-requires-clause-able c = c.requires.able

pub give_address-requires-clause-small : goal.give_address-requires-clause-small
give_address-requires-clause-small c = below_small c.len.result _ c.reach-a.result c.reach-a.ensures (c.len.ensures ∙ c.args.core.now.cells.ok.0) c.requires.able.room.small

pub returns-clause-comes : goal.returns-clause-comes
returns-clause-comes c =
    let s = state_of c.args.core.now in
    let address : c.reach-a.result ≡ below (length s.cells) (c.args.address +ℤ pos (c.in-Some.k * c.args.size)) =
    c.reach-a.ensures ∙ ap (λ (n : ℕ). below n (to_z w64 (of_z w64 c.args.address) +ℤ pos c.in-Some-checked_mul.far)) (c.len.ensures ∙ c.args.core.now.cells.ok.0)
    ∙ ap (λ (z : ℤ). below (length s.cells) (z +ℤ pos c.in-Some-checked_mul.far)) (to_z-of_z w64 c.args.address c.ranges.address)
    ∙ ap (λ (k : ℕ). below (length s.cells) (c.args.address +ℤ pos k)) c.in-Some-checked_mul.ensures.1 in
    subst (λ (next : Next). Comes c.give_address.result next s (state_of c.give_address.new.core))
    (ap (made s 3) address ∙ sym (ap (indexed s 3 c.args.address c.args.size) c.in-Some.is))
    c.give_address.ensures.comes

pub returns-clause-room : goal.returns-clause-room
returns-clause-room c = c.give_address.ensures.room
