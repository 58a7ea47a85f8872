use Rattle.std.proofs.Common.{◌∙◌, sym, ap, List, Option, eqb}
use Rattle.object_file.specs.declared.wanted.Wanted.{Wanted}
use Rattle.object_file.specs.Contents.{Export}
use Rattle.object_file.specs.Exported.{admits_outer}
use Rattle.object_file.specs.ObjectFormat.{as_exported}
use Rattle.object_file.proofs.exports.Exports.admits_outer.Goals as goal

pub returns : goal.returns
returns c =
    c.admitted_outer.ensures ∙ ap (λ (o : Option Wanted). admits_outer o c.args.outer) c.lookup.ensures ∙ sym (c.self.invariant.outer c.args.k c.args.outer)
    ∙ ap (λ (es : List Export). as_exported es c.args.k (λ (e : Export). eqb c.args.outer 0)) c.self.view_is
