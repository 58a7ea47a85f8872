use Rattle.std.proofs.Common.{◌∙◌, ap, sym}
use Rattle.std.specs.Prelude.{option_map}
use Rattle.m2_base.specs.Keys.{first_keyed}
use Rattle.scope_core.proofs.KeyTests.{get-same_key}
use Rattle.scope_core.proofs.kept.Kept.reserve.Goals as goal

-- the index has other room, and the same ordinals
pub invariant_of-self-2 : goal.invariant_of-self-2
invariant_of-self-2 c key =
    sym (get-same_key c.reserve-2.new.self key)
    ∙ c.reserve-2.ensures.entries.2 key
    ∙ get-same_key c.self.inside.index key
    ∙ c.self.invariant key
    ∙ ap (λ rows. option_map (λ hit. hit.0) (first_keyed key rows 0)) (sym c.reserve.ensures.items)
