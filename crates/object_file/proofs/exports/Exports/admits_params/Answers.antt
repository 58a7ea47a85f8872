use Rattle.std.proofs.Common.{◌∙◌, sym, ap, List, Option, eqb}
use Rattle.object_file.specs.declared.wanted.Wanted.{Wanted}
use Rattle.object_file.specs.Contents.{Export}
use Rattle.object_file.specs.Exported.{admits_params}
use Rattle.object_file.specs.ObjectFormat.{as_exported}
use Rattle.object_file.proofs.exports.Exports.admits_params.Goals as goal

pub returns : goal.returns
returns c =
    c.admitted_params.ensures ∙ ap (λ (o : Option Wanted). admits_params o c.args.params) c.lookup.ensures ∙ sym (c.self.invariant.params c.args.k c.args.params)
    ∙ ap (λ (es : List Export). as_exported es c.args.k (λ (e : Export). eqb c.args.params e.1)) c.self.view_is
