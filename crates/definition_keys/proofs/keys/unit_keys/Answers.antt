use Rattle.std.proofs.Common.{◌≡◌, ◌∷◌, ◌++◌, ◌+◌, [], List, ℕ, ◌<◌, drop, length, ap, ◌∙◌, subst}
use Rattle.std.specs.Prelude.{slice_index_or}
use Rattle.m2_base.specs.Units.{IsUnit, TextOf, UnitTexts}
use Rattle.definition_keys.specs.Keys.{Keys, key_of, keys_from, ordered_texts, unit_keys}
use Rattle.definition_keys.proofs.Steps.{front_at, keys_begin, keys_step}
use Rattle.definition_keys.proofs.keys.unit_keys.Goals as goal

pub loop-k-init : goal.loop-k-init
loop-k-init c = λ front fronts.
    ap (λ (keys : Keys). keys_from c.args.texts.now.names front keys (ordered_texts c.args.texts.now)) c.new-keys.ensures.items ∙ keys_begin front c.args.texts.now

pub loop-k-preserved : goal.loop-k-preserved
loop-k-preserved c = λ front fronts.
    let u = c.args.texts.now in
    let k = c.loop-k.k-index in
    let t = c.index-text.result.now in
    let unit : IsUnit u = subst IsUnit c.texts.view_is c.texts.invariant in
    let list : c.texts.inside.list.items ≡ u.list = ap (λ (x : UnitTexts). x.list) c.texts.view_is in
    let names : c.texts.inside.names ≡ u.names = ap (λ (x : UnitTexts). x.names) c.texts.view_is in
    let order : c.deref-k-items.result.now ≡ u.order = c.deref-k-items.ensures.value ∙ ap (λ (x : UnitTexts). x.order) c.texts.view_is in
    let l : k < length u.order = subst (λ (o : List ℕ). k < length o) order c.loop-k-test.true in
    let is : t ≡ slice_index_or u.list (slice_index_or u.order k 0) t =
    c.index-text.ensures ∙ ap (λ (o : List ℕ). slice_index_or c.texts.inside.list.items (slice_index_or o k 0) t) order ∙ ap (λ (texts : List TextOf). slice_index_or texts (slice_index_or u.order k 0) t) list in
    let its : c.in_ok-key.key ≡ key_of u.names front c.loop-k.keys.items t =
    c.in_ok-key.ensures front (front_at front u unit k t l is fronts)
    ∙ ap (λ (all : List (List ℕ)). key_of all front c.deref.result.now t) names ∙ ap (λ (keys : Keys). key_of u.names front keys t) c.deref.ensures.value in
    let name : c.text.inside.name ≡ t.name = ap (λ (x : TextOf). x.name) c.text.view_is in
    ap (λ (keys : Keys). keys_from u.names front keys (drop (k + 1) (ordered_texts u))) (c.in_ok-push.ensures.items ∙ ap (λ (n : ℕ). c.loop-k.keys.items ++ (n, c.in_ok-key.key) ∷ []) name)
    ∙ keys_step front u unit k t l is c.loop-k.keys.items (unit_keys front u) c.in_ok-key.key its (c.loop-k.invariant front fronts)
