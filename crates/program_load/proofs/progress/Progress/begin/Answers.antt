use Rattle.std.proofs.Common.{◌∙◌, Global, List, String, subst, sym}
use Rattle.program_load.specs.Closure.{AreKnown, texts_of}
use Rattle.program_load.proofs.NamedOnce.{known_so, nothing_known}
use Rattle.program_load.proofs.progress.Progress.begin.Goals as goal

pub invariant_of-result : goal.invariant_of-result
invariant_of-result c =
    known_so c.new-known.result c.insert.new.self c.new-names.result.items c.push.new.self.items c.in_ok-to_string.field-0 c.in_ok-to_string-2.field-0
    (subst (λ (xs : List (String Global)). AreKnown c.new-known.result (texts_of xs)) (sym c.new-names.ensures.items) (nothing_known c.new-known.result c.new-known.ensures.empty))
    c.in_ok-insert.ensures.updates (c.in_ok-to_string.ensures.ok ∙ sym c.in_ok-to_string-2.ensures.ok) c.in_ok-push.ensures.items
