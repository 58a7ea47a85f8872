-- What questions leave as before, one after another.
use Rattle.std.proofs.Common.{◌≡◌, [], ◌++◌}
use Rattle.m2_base.specs.States.{State, Look, Keeps, Waits}
use Rattle.m2_base.specs.declared.replies.Head.{Head}
use Rattle.m2_base.proofs.EachLaws.{each_append}
use Rattle.m2_base.proofs.Kept.{Keeps-refl, Keeps-trans, Waits_after}
use Rattle.type_rules.specs.Asks.{Reads}

pub Reads-refl : (a : State) → Reads a a
Reads-refl a = record { looks = []; keeps = Keeps-refl a; silent = tt }

pub Reads-trans : {a b c : State} → Reads a b → Reads b c → Reads a c
Reads-trans {a} {b} {c} p q =
    record {
      looks = p.looks ++ q.looks;
      keeps = Keeps-trans p.keeps q.keeps;
      silent = each_append (λ (l : Look). l.at ≡ 0) p.looks q.looks p.silent q.silent;
    }

-- a call that adds no look
pub Reads-kept : {a b : State} → Keeps a b [] → Reads a b
Reads-kept k = record { looks = []; keeps = k; silent = tt }

pub reads_frame : {a b : State} → Reads a b → b.frame ≡ a.frame
reads_frame r = r.keeps.frame

pub Waits_read : {a b c : State} {h : Head} → Reads a b → Waits b c h → Waits a c h
Waits_read r w = Waits_after r.keeps w

pub ruleset reading = (Reads-refl, Reads-trans, Waits_read)
