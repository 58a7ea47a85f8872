use Rattle.std.proofs.Common.{◌≡◌, ◌∙◌, ◌++◌, List, ℕ, ap, subst, append_assoc, OnOk}
use Rattle.object_file.specs.Contents.{magic, opening_bytes, u32, with_length}
use Rattle.object_file.proofs.writing.opening.Goals as goal

whole : (a m v n c o k : List ℕ) → ((((a ++ (m ++ v)) ++ n) ++ c) ++ o) ++ k ≡ a ++ (m ++ v ++ n ++ c ++ o ++ k)
whole a m v n c o k = simp append_assoc

joined : (a m v n c o k x1 x2 x3 x4 : List ℕ) → x1 ≡ a ++ (m ++ v) → x2 ≡ x1 ++ n → x3 ≡ x2 ++ c → x4 ≡ x3 ++ o → x4 ++ k ≡ a ++ (m ++ v ++ n ++ c ++ o ++ k)
joined a m v n c o k x1 x2 x3 x4 e1 e2 e3 e4 =
    ap (λ (x : List ℕ). x ++ k) (e4 ∙ ap (λ (x : List ℕ). x ++ o) (e3 ∙ ap (λ (x : List ℕ). x ++ c) (e2 ∙ ap (λ (x : List ℕ). x ++ n) e1))) ∙ whole a m v n c o k

pub returns : goal.returns
unfolding opening_bytes
returns c =
    let text : c.text.new.out.items ≡ c.start.new.out.items ++ with_length c.args.parts.now.name.items = c.in_ok-text.ensures ∙ ap (λ (x : List ℕ). c.start.new.out.items ++ with_length x) c.deref.ensures.value in
    let key : c.number-2.new.out.items ++ c.deref-2.result.now ≡ c.number-2.new.out.items ++ c.args.parts.now.key.items = ap (λ (x : List ℕ). c.number-2.new.out.items ++ x) c.deref-2.ensures.value in
    let parts = c.args.parts.now in
    let all =
    joined c.args.out.now.items magic (u32 parts.version) (with_length parts.name.items) (u32 parts.cells) (u32 parts.own_cells) parts.key.items c.start.new.out.items c.text.new.out.items c.number.new.out.items c.number-2.new.out.items in
    subst (λ (xs : List ℕ). OnOk c.key.result (c.key.new.out.items ≡ xs))
    (key ∙ all c.in_ok-start.ensures text c.in_ok-number.ensures c.in_ok-number-2.ensures) c.key.ensures
