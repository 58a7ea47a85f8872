use Rattle.std.proofs.Common.{◌≡◌, ◌++◌, take, map}
use Rattle.stack_machine.specs.Loading.{op_by}
use Rattle.stack_machine.specs.Sites.{spot_of, site_in}
use Rattle.stack_machine.proofs.loading.push_ops.Given as goal

abbrev pub invariant-loop-from : goal.invariant-loop-from
invariant-loop-from l = l.ops.items ≡ l.fn.ops.items ++ map (λ s. op_by l.scene.objects.now (site_in l.site) s s.instr) (map spot_of (take l.from-index l.site.all.now))
