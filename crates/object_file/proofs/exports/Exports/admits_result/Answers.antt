use Rattle.std.proofs.Common.{◌∙◌, sym, ap, List, Option, eqb}
use Rattle.object_file.specs.declared.wanted.Wanted.{Wanted}
use Rattle.object_file.specs.Contents.{Export}
use Rattle.object_file.specs.Exported.{admits_result}
use Rattle.object_file.specs.ObjectFormat.{as_exported}
use Rattle.object_file.proofs.exports.Exports.admits_result.Goals as goal

pub returns : goal.returns
returns c =
    c.admitted_result.ensures ∙ ap (λ (o : Option Wanted). admits_result o c.args.cells) c.lookup.ensures ∙ sym (c.self.invariant.result c.args.k c.args.cells)
    ∙ ap (λ (es : List Export). as_exported es c.args.k (λ (e : Export). eqb c.args.cells e.2)) c.self.view_is
