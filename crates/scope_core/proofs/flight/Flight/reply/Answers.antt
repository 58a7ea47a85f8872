use Rattle.std.proofs.Common.{◌≡◌, ◌↔◌, Some, IsSome, IsNone, List, sym, ◌∙◌, subst}
use Rattle.m2_base.specs.Lists.{Each}
use Rattle.m2_base.specs.Scopes.{IsTaken}
use Rattle.m2_base.specs.Tables.{Table}
use Rattle.m2_base.specs.declared.replies.Reply.{Reply as ReplyOf}
use Rattle.scope_core.specs.Flights.{Flown, next_of, heads_in, IsTrueIn, AreEqual, IsLawfulIn}
use Rattle.scope_core.proofs.Flying.{none_or_next, taken_part, lawful}
use Rattle.scope_core.proofs.flight.Flight.reply.Goals as goal

pub returns-clause-next : goal.returns-clause-next
returns-clause-next c =
    subst (λ (f : Flown). IsNone c.self.inside.reply ↔ IsSome (next_of f)) c.self.view_is
    (none_or_next _ c.self.inside.reply c.self.invariant.flight c.self.invariant.reply_is)

pub returns-clause-taken : goal.returns-clause-taken
returns-clause-taken c =
    subst (λ (f : Flown). (reply : ReplyOf) → c.self.inside.reply ≡ Some reply → IsTaken f.chain (heads_in f.loads) reply) c.self.view_is
    (λ reply is. taken_part _ _ _ reply c.self.invariant.flight c.self.invariant.hits (sym c.self.invariant.reply_is ∙ is))

pub returns-clause-lawful : goal.returns-clause-lawful
returns-clause-lawful c =
    subst (λ (f : Flown). (tables : List Table) (reply : ReplyOf) → c.self.inside.reply ≡ Some reply → AreEqual (heads_in f.loads) → Each (IsTrueIn tables f.name) f.loads → IsLawfulIn tables f.chain f.name (heads_in f.loads) reply) c.self.view_is
    (λ tables reply is equal true_in. lawful tables _ _ _ reply equal c.self.invariant.flight true_in (sym c.self.invariant.reply_is ∙ is))
