use Rattle.std.proofs.Common.{◌≡◌, [], ◌∷◌, ◌++◌, Option, Some, None, if◌then◌else◌, subst, sym, ◌∙◌, arith}
use Rattle.std.specs.Option.{option_or}
use Rattle.std.proofs.lemmas.Grind.{common_steps}
use Rattle.std.specs.HashMap.{get}
use Rattle.m2_base.specs.declared.rows.RowKey.{RowKey}
use Rattle.m2_base.specs.Keys.{is_keyed, is_same_key, row_key}
use Rattle.scope_core.specs.Kept.{IsIndexOf}
use Rattle.scope_core.proofs.Indexing.{IsIndexOf-push}
use Rattle.scope_core.proofs.kept.Kept.put.Goals as goal

pub invariant_of-self : goal.invariant_of-self
invariant_of-self c =
    let added : c.push.new.self.items ≡ c.self.inside.rows.items ++ c.args.row ∷ [] = grind (arith, common_steps) in
    let before = get is_same_key c.self.inside.index in
    let after = get is_same_key c.note_first.new.index in
    let noted : (k : RowKey) → after k ≡ option_or (before k) (if is_keyed k (row_key c.args.row) then Some c.len-ordinal.result else None) =
    λ k. subst (λ (o : Option RowKey). after k ≡ option_or (before k) (if is_keyed k o then Some c.len-ordinal.result else None)) c.row_key.ensures (c.note_first.ensures.noted k) in
    subst (IsIndexOf after) (sym added)
    (IsIndexOf-push before after c.self.inside.rows.items c.args.row c.len-ordinal.result (c.len-ordinal.ensures ∙ c.self.inside.rows.ok.0) c.self.invariant noted)
