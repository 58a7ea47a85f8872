use Rattle.std.proofs.Common.{◌≡◌, ℕ, ◌<◌, ◌≤◌, List, length, arith}
use Rattle.std.specs.Prelude.{slice_index}
use Rattle.code_form.specs.Modules.{World}
use Rattle.object_file.specs.Links.{AreLinks}
use Rattle.object_file.specs.Views.{world_in}
use Rattle.object_file.proofs.Chains.{jump_outer, jump_twice}
use Rattle.object_file.proofs.links.Links.jump_from.Goals as goal

-- a jump doesn't lead further in
no_deeper : {w : World} {levels jumps : List ℕ} {outer jump next first second : ℕ} → AreLinks w levels jumps → outer < length levels → jump ≡ slice_index jumps outer → next ≡ slice_index jumps jump → first ≡ slice_index levels jump → second ≡ slice_index levels next → second ≤ first
no_deeper {jump} links known jump_is next_is first_is second_is = rw (second_is, first_is, next_is) (links.near jump (omega (arith, links.known _ known)))

pub returns-then-first-second : goal.returns-then-first-second
returns-then-first-second c =
    let r = c.requires in
    jump_twice (world_in c.args.parts.now) c.args.self.now.levels.items c.args.self.now.jumps.items c.args.k c.args.outer c.jump-jump.result c.jump-next.result r.links r.outer r.enclosed r.known c.jump-jump.ensures c.jump-next.ensures

pub returns-else-first-second : goal.returns-else-first-second
returns-else-first-second c =
    let r = c.requires in jump_outer (world_in c.args.parts.now) c.args.self.now.levels.items c.args.self.now.jumps.items c.args.k c.args.outer r.links r.outer r.enclosed r.known

pub overflow_sub-second : goal.overflow_sub-second
overflow_sub-second c = no_deeper c.requires.links c.requires.known c.jump-jump.ensures c.jump-next.ensures c.level-3.ensures c.level-4.ensures
