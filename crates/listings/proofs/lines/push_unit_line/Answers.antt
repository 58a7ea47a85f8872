use Rattle.std.proofs.Common.{◌≡◌, ◌<◌, ◌++◌, OnOk, length, sym, append-nil, get_or, subst, List, [], ◌∷◌, ℕ, zero, suc, arith}
use Rattle.std.specs.List.{slice_get}
use Rattle.std.proofs.lemmas.Option.{slice_get_past, slice_get_read}
use Rattle.m2_base.specs.Lists.{Each}
use Rattle.m2_base.specs.Units.{UnitTexts}
use Rattle.listings.specs.Listing.{line_in}
use Rattle.listings.proofs.lines.push_unit_line.Goals as goal

-- what holds of each holds of the one at this number
each_at : {A : Type 0} (P : A → Type 0) (xs : List A) (k : ℕ) (x : A) → Each P xs → k < length xs → x ≡ get_or xs k x → P x
each_at P [] k x h below e = absurd (omega (arith, below))
each_at P (y ∷ xs) zero x h below e = subst P (sym e) h.0
each_at P (y ∷ xs) (suc k) x h below e = each_at P xs k x h.1 (omega (arith, below)) e

pub push_line_in-requires : goal.push_line_in-requires
push_line_in-requires c =
    let found = rw c.deref.ensures.value at c.in-Some.ensures.lookup in
    (each_at _ c.texts.inside.list.items c.args.diag.text c.in-Some.text.now c.texts.invariant.texts found.3.0 found.1).named.numbered.there

pub returns-in-Some : goal.returns-in-Some
returns-in-Some c =
    let found = rw c.deref.ensures.value at c.in-Some.ensures.lookup in
    let it = slice_get_read c.texts.inside.list.items _ c.args.diag.text c.in-Some.text.now (λ _. length c.texts.inside.list.items) found.3.0 found.1 in
    subst (λ (u : UnitTexts). OnOk c.push_line_in.result (c.push_line_in.new.listing.items ≡ c.args.listing.now.items ++ line_in u.names (slice_get u.list c.args.diag.text) c.args.diag)) c.texts.view_is
    (subst (λ t. OnOk c.push_line_in.result (c.push_line_in.new.listing.items ≡ c.args.listing.now.items ++ line_in c.texts.inside.names t c.args.diag)) (sym it) c.push_line_in.ensures)

pub returns-in-None : goal.returns-in-None
returns-in-None c =
    let none = slice_get_past c.texts.inside.list.items c.args.diag.text (rw c.deref.ensures.value at c.in-None.ensures.lookup).3 in
    subst (λ (u : UnitTexts). c.args.listing.now.items ≡ c.args.listing.now.items ++ line_in u.names (slice_get u.list c.args.diag.text) c.args.diag) c.texts.view_is
    (subst (λ t. c.args.listing.now.items ≡ c.args.listing.now.items ++ line_in c.texts.inside.names t c.args.diag) (sym none) (sym (append-nil c.args.listing.now.items)))
