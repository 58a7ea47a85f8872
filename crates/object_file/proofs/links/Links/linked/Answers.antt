use Rattle.std.proofs.Common.{◌<◌, ℕ, sym, subst}
use Rattle.object_file.specs.Views.{world_in}
use Rattle.object_file.proofs.Chains.{no_link}
use Rattle.object_file.proofs.links.Links.linked.Goals as goal

pub returns-then-level-h : goal.returns-then-level-h
returns-then-level-h c = sym (no_link (world_in c.args.parts.now) c.args.self.now c.args.h c.args.k c.requires (subst (λ (n : ℕ). n < c.args.h) c.level-level.ensures c.if-level-h.true))
