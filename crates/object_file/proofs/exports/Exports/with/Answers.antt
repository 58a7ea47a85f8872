use Rattle.std.proofs.Common.{◌∙◌, ap, cond, eqb, Bool, Option, Some}
use Rattle.object_file.specs.declared.wanted.Wanted.{Wanted}
use Rattle.object_file.specs.Exported.{merged as spec_merged, found_in}
use Rattle.object_file.proofs.Indexing.{IsIndex-more, at-eqb}
use Rattle.object_file.proofs.exports.Exports.with.Goals as goal

pub invariant_of-result : goal.invariant_of-result
invariant_of-result c =
    let e = c.args.export in
    let old = c.self.inside.wanted in
    let asked = c.merged.ensures ∙ ap (λ (o : Option Wanted). spec_merged o e) c.lookup-known.ensures in
    rw c.in_ok-push.ensures.items (IsIndex-more c.self.inside.all.items e (found_in old) (found_in c.insert.new.self) c.self.invariant (λ k.
    c.in_ok-insert.ensures.updates.0 k
    ∙ ap (λ (b : Bool). cond b (Some c.merged.result) (found_in old k)) (at-eqb e.0 k)
    ∙ ap (λ (w : Wanted). cond (eqb e.0 k) (Some w) (found_in old k)) asked))
