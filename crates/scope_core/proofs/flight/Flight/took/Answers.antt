use Rattle.std.proofs.Common.{◌≡◌, ◌+◌, length, Some, sym, ◌∙◌, ap, subst, rules, []}
use Rattle.std.proofs.lemmas.List.{take_more_set}
use Rattle.scope_core.specs.Flights.{Flown, next_of, reply_by, reply_of, IsHitOf, with_load}
use Rattle.scope_core.proofs.Flying.{flying_more, room_left, take_rest}
use Rattle.scope_core.proofs.flight.Flight.took.Goals as goal

pub invariant_of-self : goal.invariant_of-self
invariant_of-self c =
    let size : length c.self.inside.loads ≡ 18 = search rules in
    let next = subst (λ (f : Flown). next_of f ≡ Some c.args.head.scope) (sym c.self.view_is) c.requires.next in
    let is_hit = subst (λ (f : Flown). IsHitOf f.name c.args.head c.args.hit) (sym c.self.view_is) c.requires.hit in
    flying_more c.self.inside.chain.now c.self.inside.name c.self.inside.taken c.self.inside.loads c.self.inside.reply _ (record { head = c.args.head; hit = c.args.hit }) size c.self.invariant next is_hit
    (c.reply_after-self-inside.ensures ∙ ap (reply_by c.args.hit c.args.head) (c.first_reply.ensures ∙ ap (λ rest. reply_of rest []) (take_rest c.self.inside.chain.now (c.self.inside.taken + 1))))

pub returns : goal.returns
returns c =
    let size : length c.self.inside.loads ≡ 18 = search rules in
    let next = subst (λ (f : Flown). next_of f ≡ Some c.args.head.scope) (sym c.self.view_is) c.requires.next in
    let room = room_left c.self.inside.chain.now c.self.inside.name c.self.inside.taken c.self.inside.loads c.self.inside.reply c.args.head.scope size c.self.invariant next in
    ap (λ loads. record { chain = c.self.inside.chain.now; name = c.self.inside.name; loads = loads }) (take_more_set c.self.inside.loads c.self.inside.taken _ room)
    ∙ ap (λ (f : Flown). with_load f (record { head = c.args.head; hit = c.args.hit })) c.self.view_is
