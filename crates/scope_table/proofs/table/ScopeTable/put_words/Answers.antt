use Rattle.std.proofs.Common.{◌≡◌, suc, ◌+◌, ◌<◌, length, take, ap, ◌∙◌, subst, arith, length-append}
use Rattle.std.proofs.lemmas.List.{length-take-le}
use Rattle.scope_table.specs.Rule.{base, mid, scopes, shown_at}
use Rattle.scope_table.specs.declared.view.About.{About}
use Rattle.scope_table.proofs.Steps.{puts_word}
use Rattle.scope_table.proofs.table.ScopeTable.put_words.Goals as goal

pub store-requires : goal.store-requires
store-requires c =
    let t = c.args.self.now in let a = t.table.shared.key in let v = c.args.seat.now.me.0 in let place = c.requires.place in let j = place.scope in let inv = c.loop-field.invariant in let k = c.loop-field.field in
    let test = c.loop-field-test.true in let about = c.requires.table.1 in let l : j < scopes a = subst (λ (b : About). j < scopes b) about place.there in
    let at = place.at in let room = place.room in let bases = ap (λ (b : About). base b j) about in let mids = ap (λ (b : About). mid b j) about in let behind = t.behind j l in
    let rights : c.loop-field.seat.me.0.rights ≡ _ = ap (λ m. m.0.rights) inv.me ∙ place.mine in
    let rows : length (shown_at c.loop-field.seat.me.0 j).rows ≡ length (shown_at v j).rows = ap (λ m. length (shown_at m.0 j).rows) inv.me in
    let some : length (take k c.args.words.now) ≡ k = length-take-le k c.args.words.now (omega arith) in
    let put : length c.loop-field.seat.me.0.put ≡ length v.put + k = ap (λ m. length m.0.put) inv.me ∙ (length-append v.put (take k c.args.words.now) ∙ ap (λ n. length v.put + n) some) in
    let up = t.laid.up (suc j) (scopes a) (omega arith) (omega arith) in let wide = t.wide in
    (inv.table_id ∙ c.requires.table.0, omega arith, puts_word a _ _ _ j _ _ rights (omega arith) (omega arith))
