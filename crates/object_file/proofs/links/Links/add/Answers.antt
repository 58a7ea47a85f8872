use Rattle.object_file.specs.Links.{AreLinks, OutersBelow}
use Rattle.object_file.specs.Views.{world_in}
use Rattle.std.proofs.Common.{◌≡◌, ◌≢◌, Fits, w32, List, Result, Ok, Err, length, arith, ◌∙◌, sym, ap, ◌+◌, ◌∷◌, [], ◌++◌, ℕ}
use Rattle.std.specs.Prelude.{OnOk, slice_index}
use Rattle.std.proofs.lemmas.List.{length_push}
use Rattle.code_form.specs.Modules.{World}
use Rattle.code_form.specs.Valid.{outer_of}
use Rattle.object_file.proofs.Chains.{on_ok, same_links, more_top, more_inner}
use Rattle.object_file.proofs.links.Links.add.Goals as goal

-- a level is below the number of its procedure
level_below : {w : World} {levels jumps : List ℕ} {k outer level : ℕ} → AreLinks w levels jumps → OutersBelow w → outer ≡ outer_of w k → outer ≢ 0 → level ≡ slice_index levels outer → Fits w32 k → Fits w32 (level + 1)
level_below {k} {outer} links below is some level_is fits =
    let low = links.low outer in
    let outer_low = below k (λ e. some (is ∙ e)) in
    omega arith

one_longer : {T E : Type 0} (r : Result T E) (old : List ℕ) (x : ℕ) (new : List ℕ) → OnOk r (new ≡ old ++ x ∷ []) → OnOk r (length new ≡ length old + 1)
one_longer (Ok t) old x new is = ap length is ∙ length_push old x
one_longer (Err e) old x new is = tt

pub returns-then-outer-eq0-clause-links : goal.returns-then-outer-eq0-clause-links
returns-then-outer-eq0-clause-links c =
    let w = world_in c.args.parts.now in
    let r = c.requires in
    on_ok c.push.result c.push.ensures.levels c.push.ensures.jumps (λ l j. same_links w _ _ _ _ l j (more_top w c.args.self.now.levels.items c.args.self.now.jumps.items c.args.k r.outers r.next r.links (sym c.outer_of-outer.ensures ∙ c.if-outer-eq0.true)))

pub returns-else-outer-eq0-clause-links : goal.returns-else-outer-eq0-clause-links
returns-else-outer-eq0-clause-links c =
    let w = world_in c.args.parts.now in
    let r = c.requires in
    let old = c.args.self.now.levels.items in
    on_ok c.push-else-outer-eq0.result c.push-else-outer-eq0.ensures.levels c.push-else-outer-eq0.ensures.jumps
    (λ l j. same_links w _ _ _ _ (l ∙ ap (λ (n : ℕ). old ++ (n + 1) ∷ []) c.level.ensures) j
    (more_inner w old c.args.self.now.jumps.items c.args.k c.outer_of-outer.result c.jump_from-jump.result r.outers r.next r.links c.outer_of-outer.ensures c.if-outer-eq0.false c.jump_from-jump.ensures))

pub overflow_add-level : goal.overflow_add-level
overflow_add-level c = level_below c.requires.links c.requires.outers c.outer_of-outer.ensures c.if-outer-eq0.false c.level.ensures c.ranges.k

pub returns-else-outer-eq0-clause-more : goal.returns-else-outer-eq0-clause-more
returns-else-outer-eq0-clause-more c = one_longer c.push-else-outer-eq0.result _ _ _ c.push-else-outer-eq0.ensures.levels

pub returns-then-outer-eq0-clause-more : goal.returns-then-outer-eq0-clause-more
returns-then-outer-eq0-clause-more c = one_longer c.push.result _ _ _ c.push.ensures.levels
