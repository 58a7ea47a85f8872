use Rattle.std.proofs.Common.{ap, sym}
use Rattle.stack_machine.specs.Loading.{op_by}
use Rattle.stack_machine.specs.Sites.{site_in, spot_of}
use Rattle.stack_machine.proofs.ops.op_of.Goals as goal

pub returns-in-Local : goal.returns-in-Local
returns-in-Local c = ap (op_by c.args.scene.now.objects.now (site_in c.args.site.now) (spot_of c.args.from.now)) (sym c.in-Local.is)

pub returns-in-Load : goal.returns-in-Load
returns-in-Load c = ap (op_by c.args.scene.now.objects.now (site_in c.args.site.now) (spot_of c.args.from.now)) (sym c.in-Load.is)

pub returns-in-Store : goal.returns-in-Store
returns-in-Store c = ap (op_by c.args.scene.now.objects.now (site_in c.args.site.now) (spot_of c.args.from.now)) (sym c.in-Store.is)

pub returns-in-Move : goal.returns-in-Move
returns-in-Move c = ap (op_by c.args.scene.now.objects.now (site_in c.args.site.now) (spot_of c.args.from.now)) (sym c.in-Move.is)

pub returns-in-Dup : goal.returns-in-Dup
returns-in-Dup c = ap (op_by c.args.scene.now.objects.now (site_in c.args.site.now) (spot_of c.args.from.now)) (sym c.in-Dup.is)

pub returns-in-Offset : goal.returns-in-Offset
returns-in-Offset c = ap (op_by c.args.scene.now.objects.now (site_in c.args.site.now) (spot_of c.args.from.now)) (sym c.in-Offset.is)

pub returns-in-IndexOpen : goal.returns-in-IndexOpen
returns-in-IndexOpen c = ap (op_by c.args.scene.now.objects.now (site_in c.args.site.now) (spot_of c.args.from.now)) (sym c.in-IndexOpen.is)

pub returns-in-Nil : goal.returns-in-Nil
returns-in-Nil c = ap (op_by c.args.scene.now.objects.now (site_in c.args.site.now) (spot_of c.args.from.now)) (sym c.in-Nil.is)

pub returns-in-Neg : goal.returns-in-Neg
returns-in-Neg c = ap (op_by c.args.scene.now.objects.now (site_in c.args.site.now) (spot_of c.args.from.now)) (sym c.in-Neg.is)

pub returns-in-Abs : goal.returns-in-Abs
returns-in-Abs c = ap (op_by c.args.scene.now.objects.now (site_in c.args.site.now) (spot_of c.args.from.now)) (sym c.in-Abs.is)

pub returns-in-Not : goal.returns-in-Not
returns-in-Not c = ap (op_by c.args.scene.now.objects.now (site_in c.args.site.now) (spot_of c.args.from.now)) (sym c.in-Not.is)

pub returns-in-Eq : goal.returns-in-Eq
returns-in-Eq c = ap (op_by c.args.scene.now.objects.now (site_in c.args.site.now) (spot_of c.args.from.now)) (sym c.in-Eq.is)

pub returns-in-Ne : goal.returns-in-Ne
returns-in-Ne c = ap (op_by c.args.scene.now.objects.now (site_in c.args.site.now) (spot_of c.args.from.now)) (sym c.in-Ne.is)

pub returns-in-Lt : goal.returns-in-Lt
returns-in-Lt c = ap (op_by c.args.scene.now.objects.now (site_in c.args.site.now) (spot_of c.args.from.now)) (sym c.in-Lt.is)

pub returns-in-Le : goal.returns-in-Le
returns-in-Le c = ap (op_by c.args.scene.now.objects.now (site_in c.args.site.now) (spot_of c.args.from.now)) (sym c.in-Le.is)

pub returns-in-Gt : goal.returns-in-Gt
returns-in-Gt c = ap (op_by c.args.scene.now.objects.now (site_in c.args.site.now) (spot_of c.args.from.now)) (sym c.in-Gt.is)

pub returns-in-Ge : goal.returns-in-Ge
returns-in-Ge c = ap (op_by c.args.scene.now.objects.now (site_in c.args.site.now) (spot_of c.args.from.now)) (sym c.in-Ge.is)

pub returns-in-Union : goal.returns-in-Union
returns-in-Union c = ap (op_by c.args.scene.now.objects.now (site_in c.args.site.now) (spot_of c.args.from.now)) (sym c.in-Union.is)

pub returns-in-Diff : goal.returns-in-Diff
returns-in-Diff c = ap (op_by c.args.scene.now.objects.now (site_in c.args.site.now) (spot_of c.args.from.now)) (sym c.in-Diff.is)

pub returns-in-Inter : goal.returns-in-Inter
returns-in-Inter c = ap (op_by c.args.scene.now.objects.now (site_in c.args.site.now) (spot_of c.args.from.now)) (sym c.in-Inter.is)

pub returns-in-SymDiff : goal.returns-in-SymDiff
returns-in-SymDiff c = ap (op_by c.args.scene.now.objects.now (site_in c.args.site.now) (spot_of c.args.from.now)) (sym c.in-SymDiff.is)

pub returns-in-Subset : goal.returns-in-Subset
returns-in-Subset c = ap (op_by c.args.scene.now.objects.now (site_in c.args.site.now) (spot_of c.args.from.now)) (sym c.in-Subset.is)

pub returns-in-Superset : goal.returns-in-Superset
returns-in-Superset c = ap (op_by c.args.scene.now.objects.now (site_in c.args.site.now) (spot_of c.args.from.now)) (sym c.in-Superset.is)

pub returns-in-In : goal.returns-in-In
returns-in-In c = ap (op_by c.args.scene.now.objects.now (site_in c.args.site.now) (spot_of c.args.from.now)) (sym c.in-In.is)

pub returns-in-Bit : goal.returns-in-Bit
returns-in-Bit c = ap (op_by c.args.scene.now.objects.now (site_in c.args.site.now) (spot_of c.args.from.now)) (sym c.in-Bit.is)

pub returns-in-Span : goal.returns-in-Span
returns-in-Span c = ap (op_by c.args.scene.now.objects.now (site_in c.args.site.now) (spot_of c.args.from.now)) (sym c.in-Span.is)

pub returns-in-CallVar : goal.returns-in-CallVar
returns-in-CallVar c = ap (op_by c.args.scene.now.objects.now (site_in c.args.site.now) (spot_of c.args.from.now)) (sym c.in-CallVar.is)

pub returns-in-Return : goal.returns-in-Return
returns-in-Return c = ap (op_by c.args.scene.now.objects.now (site_in c.args.site.now) (spot_of c.args.from.now)) (sym c.in-Return.is)

pub returns-in-New : goal.returns-in-New
returns-in-New c = ap (op_by c.args.scene.now.objects.now (site_in c.args.site.now) (spot_of c.args.from.now)) (sym c.in-New.is)

pub returns-in-OpenCopy : goal.returns-in-OpenCopy
returns-in-OpenCopy c = ap (op_by c.args.scene.now.objects.now (site_in c.args.site.now) (spot_of c.args.from.now)) (sym c.in-OpenCopy.is)

pub returns-in-Halt : goal.returns-in-Halt
returns-in-Halt c = ap (op_by c.args.scene.now.objects.now (site_in c.args.site.now) (spot_of c.args.from.now)) (sym c.in-Halt.is)

pub returns-in-Cap : goal.returns-in-Cap
returns-in-Cap c = ap (op_by c.args.scene.now.objects.now (site_in c.args.site.now) (spot_of c.args.from.now)) (sym c.in-Cap.is)
