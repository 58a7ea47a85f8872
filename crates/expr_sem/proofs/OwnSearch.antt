-- A search in the module's scope from a statement.
use Rattle.std.proofs.Common.{◌≡◌, ◌∙◌, ℕ, true, false, [], ◌∷◌, ap, sym}
use Rattle.std.proofs.lemmas.Bool.{true≢false}
use Rattle.m2_base.specs.Scopes.{Searched}
use Rattle.m2_base.specs.States.{Frame, State, fills_of}
use Rattle.m2_base.specs.declared.replies.Head.{Head}
use Rattle.m2_base.specs.declared.replies.Reply.TheVariants.{DontKnowYet}

-- it doesn't stop at the own scope, which is complete
pub own_is_known : {old new : State} {at name s : ℕ} {h : Head} → Searched old new at (s ∷ []) name (DontKnowYet h) → h.scope ≡ fills_of old → old.frame.closed ≡ true → ⊥
own_is_known {old} {new} searched same closed =
    let open_yet : new.frame.closed ≡ false = (searched.says.stops.own (same ∙ ap (λ (f : Frame). f.setting.fills) (sym searched.keeps.frame))).0 in
    true≢false (sym closed ∙ ap (λ (f : Frame). f.closed) (sym searched.keeps.frame) ∙ open_yet)
