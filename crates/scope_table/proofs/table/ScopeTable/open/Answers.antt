use Rattle.std.proofs.Common.{◌≡◌, ◌^◌, ◌+◌, ◌*◌, ◌<◌, ℕ, List, length, replicate, get_or, sym, ap, ◌∙◌, subst, arith}
use lib.ListN.{length-replicate}
use Rattle.scope_table.specs.Opening.{AreBases, IsEmptyStart}
use Rattle.scope_table.specs.Rule.{IsLaid, IsSound, scopes, base, mid, first_view, texts_in}
use Rattle.m2_base.specs.Units.{IsUnit}
use Rattle.scope_table.specs.declared.view.About.{About}
use Rattle.scope_table.specs.declared.view.View.{View}
use Rattle.scope_table.proofs.Opening.{all_mids, behind, few, narrow, opens, laid_out, small, sound_empty, first_empty, zeros}
use Rattle.m2_base.proofs.Without.{if_ok_of_err}
use Rattle.scope_table.proofs.table.ScopeTable.open.Goals as goal

-- where the scopes begin, by a key that is this one
bases_at : (key a : About) (sizes bs ms : List ℕ) → key ≡ a → a.bases.value ≡ bs → a.mids.value ≡ ms → AreBases bs ms sizes
    → AreBases key.bases.value key.mids.value sizes
bases_at key a sizes bs ms is b m laid =
    subst (λ (k : About). AreBases k.bases.value k.mids.value sizes) (sym is)
    (subst (λ (z : List ℕ × List ℕ). AreBases z.0 z.1 sizes) (λ i. (sym b i, sym m i)) laid)

-- there are as many scopes as sizes
scopes_are : (a : About) (sizes : List ℕ) → AreBases a.bases.value a.mids.value sizes → scopes a ≡ length sizes
scopes_are a sizes h = let m = h.many in omega arith

-- the room of scope 0
room_of : (a : About) (sizes : List ℕ) (n : ℕ) → AreBases a.bases.value a.mids.value sizes → 0 < length sizes → get_or sizes 0 0 ≡ n → mid a 0 ≡ base a 0 + 8 * n
room_of a sizes n h some is = (h.parts 0 some).room ∙ ap (λ z. base a 0 + 8 * z) is

pub of_words-requires : goal.of_words-requires
of_words-requires c =
    let a : About = record { texts = c.of.result; bases = c.of-2.result; mids = c.of-3.result } in
    let bs : c.of-2.result.value ≡ c.in_ok-laid.laid.0.items = c.of-2.ensures ∙ c.new-bases.ensures in let ms : c.of-3.result.value ≡ c.in_ok-laid.laid.1.items = c.of-3.ensures ∙ c.new-mids.ensures in
    let bases : AreBases a.bases.value a.mids.value c.args.sizes.now = subst (λ (z : List ℕ × List ℕ). AreBases z.0 z.1 c.args.sizes.now) (λ i. (sym bs i, sym ms i)) c.in_ok-laid.ensures.laid in
    let many = bases.many in let last : scopes a ≡ length c.args.sizes.now = omega arith in
    let words : c.as_slice.result.now ≡ replicate c.at.result 0 = c.as_slice.ensures.value ∙ c.in_ok-words.ensures.items_if_clones_equal (λ y h. h) in
    let end : c.at.result ≡ base a (scopes a) = c.at.ensures ∙ ((λ i. get_or ((c.new-bases.ensures ∙ sym bs) i) (length c.args.sizes.now) 0) ∙ ap (λ (k : ℕ). base a k) (sym last)) in
    opens a c.args.sizes.now c.as_slice.result.now bases c.requires.some.0 (ap length words ∙ (length-replicate c.at.result 0 ∙ end)) (λ p. ap (λ (ws : List ℕ). get_or ws p 0) words ∙ zeros c.at.result p)

pub make_table-table-requires-clause-laid : goal.make_table-table-requires-clause-laid
make_table-table-requires-clause-laid c =
    let a : About = record { texts = c.of.result; bases = c.of-2.result; mids = c.of-3.result } in let key : c.in_ok-table.table.shared.key ≡ a = c.in_ok-table.ensures.5 in
    let bs : c.of-2.result.value ≡ c.in_ok-laid.laid.0.items = c.of-2.ensures ∙ c.new-bases.ensures in let ms : c.of-3.result.value ≡ c.in_ok-laid.laid.1.items = c.of-3.ensures ∙ c.new-mids.ensures in
    subst IsLaid (sym key) (laid_out a c.args.sizes.now (subst (λ (z : List ℕ × List ℕ). AreBases z.0 z.1 c.args.sizes.now) (λ i. (sym bs i, sym ms i)) c.in_ok-laid.ensures.laid) c.requires.some.0)

pub seats-requires-clause-start : goal.seats-requires-clause-start
seats-requires-clause-start c =
    let a : About = record { texts = c.of.result; bases = c.of-2.result; mids = c.of-3.result } in
    let key : c.make_table-table.result.table.shared.key ≡ a = ap (λ s. s.key) c.make_table-table.ensures ∙ c.in_ok-table.ensures.5 in let view : c.in_ok-table.first.me.0 ≡ first_view a = ap (λ m. m.0) c.in_ok-table.ensures.4 in
    subst (λ (z : About × View). IsEmptyStart z.0 z.1) (λ i. (sym key i, sym view i)) (first_empty a)

pub seats-requires-clause-sound : goal.seats-requires-clause-sound
seats-requires-clause-sound c =
    let a : About = record { texts = c.of.result; bases = c.of-2.result; mids = c.of-3.result } in let view : c.in_ok-table.first.me.0 ≡ first_view a = ap (λ m. m.0) c.in_ok-table.ensures.4 in
    let bs : c.of-2.result.value ≡ c.in_ok-laid.laid.0.items = c.of-2.ensures ∙ c.new-bases.ensures in let ms : c.of-3.result.value ≡ c.in_ok-laid.laid.1.items = c.of-3.ensures ∙ c.new-mids.ensures in
    subst IsSound (sym view) (sound_empty a c.args.sizes.now (first_view a) (subst (λ (z : List ℕ × List ℕ). AreBases z.0 z.1 c.args.sizes.now) (λ i. (sym bs i, sym ms i)) c.in_ok-laid.ensures.laid) (first_empty a))

pub returns-in_err-words-clause-bounded : goal.returns-in_err-words-clause-bounded
returns-in_err-words-clause-bounded c = if_ok_of_err _ c.from_residual-in_err-words.result c.from_residual-in_err-words.ensures.0

pub returns-in_err-words-clause-first : goal.returns-in_err-words-clause-first
returns-in_err-words-clause-first c = if_ok_of_err _ c.from_residual-in_err-words.result c.from_residual-in_err-words.ensures.0

pub returns-in_err-words-clause-opened : goal.returns-in_err-words-clause-opened
returns-in_err-words-clause-opened c = if_ok_of_err _ c.from_residual-in_err-words.result c.from_residual-in_err-words.ensures.0

pub returns-in_err-table-clause-bounded : goal.returns-in_err-table-clause-bounded
returns-in_err-table-clause-bounded c = if_ok_of_err _ c.from_residual-in_err-table.result c.from_residual-in_err-table.ensures.0

pub returns-in_err-table-clause-first : goal.returns-in_err-table-clause-first
returns-in_err-table-clause-first c = if_ok_of_err _ c.from_residual-in_err-table.result c.from_residual-in_err-table.ensures.0

pub returns-in_err-table-clause-opened : goal.returns-in_err-table-clause-opened
returns-in_err-table-clause-opened c = if_ok_of_err _ c.from_residual-in_err-table.result c.from_residual-in_err-table.ensures.0

pub returns-in_err-seats-clause-bounded : goal.returns-in_err-seats-clause-bounded
returns-in_err-seats-clause-bounded c = if_ok_of_err _ c.from_residual-in_err-seats.result c.from_residual-in_err-seats.ensures.0

pub returns-in_err-seats-clause-first : goal.returns-in_err-seats-clause-first
returns-in_err-seats-clause-first c = if_ok_of_err _ c.from_residual-in_err-seats.result c.from_residual-in_err-seats.ensures.0

pub returns-in_err-seats-clause-opened : goal.returns-in_err-seats-clause-opened
returns-in_err-seats-clause-opened c = if_ok_of_err _ c.from_residual-in_err-seats.result c.from_residual-in_err-seats.ensures.0

pub make_table-table-requires-clause-all_mids : goal.make_table-table-requires-clause-all_mids
make_table-table-requires-clause-all_mids c =
    let a : About = record { texts = c.of.result; bases = c.of-2.result; mids = c.of-3.result } in
    let h = bases_at c.in_ok-table.table.shared.key a _ _ _ c.in_ok-table.ensures.5 (c.of-2.ensures ∙ c.new-bases.ensures) (c.of-3.ensures ∙ c.new-mids.ensures)
    c.in_ok-laid.ensures.laid in
    all_mids c.in_ok-table.table.shared.key c.args.sizes.now h

pub make_table-table-requires-clause-behind : goal.make_table-table-requires-clause-behind
make_table-table-requires-clause-behind c =
    let a : About = record { texts = c.of.result; bases = c.of-2.result; mids = c.of-3.result } in
    let h = bases_at c.in_ok-table.table.shared.key a _ _ _ c.in_ok-table.ensures.5 (c.of-2.ensures ∙ c.new-bases.ensures) (c.of-3.ensures ∙ c.new-mids.ensures)
    c.in_ok-laid.ensures.laid in
    behind c.in_ok-table.table.shared.key c.args.sizes.now h

pub make_table-table-requires-clause-narrow : goal.make_table-table-requires-clause-narrow
make_table-table-requires-clause-narrow c =
    let a : About = record { texts = c.of.result; bases = c.of-2.result; mids = c.of-3.result } in
    let h = bases_at c.in_ok-table.table.shared.key a _ _ _ c.in_ok-table.ensures.5 (c.of-2.ensures ∙ c.new-bases.ensures) (c.of-3.ensures ∙ c.new-mids.ensures)
    c.in_ok-laid.ensures.laid in
    narrow c.in_ok-table.table.shared.key c.args.sizes.now h

pub make_table-table-requires-clause-few : goal.make_table-table-requires-clause-few
make_table-table-requires-clause-few c =
    let a : About = record { texts = c.of.result; bases = c.of-2.result; mids = c.of-3.result } in
    let h = bases_at c.in_ok-table.table.shared.key a _ _ _ c.in_ok-table.ensures.5 (c.of-2.ensures ∙ c.new-bases.ensures) (c.of-3.ensures ∙ c.new-mids.ensures)
    c.in_ok-laid.ensures.laid in
    few c.in_ok-table.table.shared.key c.args.sizes.now h

pub make_table-table-requires-clause-small : goal.make_table-table-requires-clause-small
make_table-table-requires-clause-small c =
    let a : About = record { texts = c.of.result; bases = c.of-2.result; mids = c.of-3.result } in
    let h = bases_at c.in_ok-table.table.shared.key a _ _ _ c.in_ok-table.ensures.5 (c.of-2.ensures ∙ c.new-bases.ensures) (c.of-3.ensures ∙ c.new-mids.ensures)
    c.in_ok-laid.ensures.laid in
    small c.in_ok-table.table.shared.key c.args.sizes.now h

pub seats-requires-clause-many : goal.seats-requires-clause-many
seats-requires-clause-many c =
    let a : About = record { texts = c.of.result; bases = c.of-2.result; mids = c.of-3.result } in
    let key : c.make_table-table.result.table.shared.key ≡ a = ap (λ s. s.key) c.make_table-table.ensures ∙ c.in_ok-table.ensures.5 in
    let h = bases_at c.make_table-table.result.table.shared.key a _ _ _ key (c.of-2.ensures ∙ c.new-bases.ensures) (c.of-3.ensures ∙ c.new-mids.ensures)
    c.in_ok-laid.ensures.laid in
    (scopes_are c.make_table-table.result.table.shared.key c.args.sizes.now h, c.requires.some.0)

pub seats-requires-clause-room : goal.seats-requires-clause-room
seats-requires-clause-room c =
    let a : About = record { texts = c.of.result; bases = c.of-2.result; mids = c.of-3.result } in
    let key : c.make_table-table.result.table.shared.key ≡ a = ap (λ s. s.key) c.make_table-table.ensures ∙ c.in_ok-table.ensures.5 in
    let h = bases_at c.make_table-table.result.table.shared.key a _ _ _ key (c.of-2.ensures ∙ c.new-bases.ensures) (c.of-3.ensures ∙ c.new-mids.ensures)
    c.in_ok-laid.ensures.laid in
    room_of c.make_table-table.result.table.shared.key c.args.sizes.now 37 h c.requires.some.0 c.requires.first

pub seats-requires-clause-unit : goal.seats-requires-clause-unit
seats-requires-clause-unit c =
    let a : About = record { texts = c.of.result; bases = c.of-2.result; mids = c.of-3.result } in
    let key : c.make_table-table.result.table.shared.key ≡ a = ap (λ s. s.key) c.make_table-table.ensures ∙ c.in_ok-table.ensures.5 in
    subst IsUnit (sym (ap texts_in key ∙ c.of.ensures)) c.main-unit.ensures.unit

pub returns-clause-first : goal.returns-clause-first
returns-clause-first c =
    let a : About = record { texts = c.of.result; bases = c.of-2.result; mids = c.of-3.result } in
    let key : c.make_table-table.result.table.shared.key ≡ a = ap (λ s. s.key) c.make_table-table.ensures ∙ c.in_ok-table.ensures.5 in
    let h = bases_at c.make_table-table.result.table.shared.key a _ _ _ key (c.of-2.ensures ∙ c.new-bases.ensures) (c.of-3.ensures ∙ c.new-mids.ensures)
    c.in_ok-laid.ensures.laid in
    h.first

pub returns-clause-bounded : goal.returns-clause-bounded
returns-clause-bounded c =
    let a : About = record { texts = c.of.result; bases = c.of-2.result; mids = c.of-3.result } in
    let key : c.make_table-table.result.table.shared.key ≡ a = ap (λ s. s.key) c.make_table-table.ensures ∙ c.in_ok-table.ensures.5 in
    λ k l. subst (λ (bs : List ℕ). get_or bs k 0 < 2 ^ 60) (sym (ap (λ (z : About). z.bases.value) key ∙ c.of-2.ensures ∙ c.new-bases.ensures)) (c.in_ok-laid.ensures.bounded k l)

pub returns-clause-opened : goal.returns-clause-opened
returns-clause-opened c =
    let a : About = record { texts = c.of.result; bases = c.of-2.result; mids = c.of-3.result } in
    let key : c.make_table-table.result.table.shared.key ≡ a = ap (λ s. s.key) c.make_table-table.ensures ∙ c.in_ok-table.ensures.5 in
    let h = bases_at c.make_table-table.result.table.shared.key a _ _ _ key (c.of-2.ensures ∙ c.new-bases.ensures) (c.of-3.ensures ∙ c.new-mids.ensures)
    c.in_ok-laid.ensures.laid in
    record {
      texts_are = ap texts_in key ∙ c.of.ensures;
      many = scopes_are c.make_table-table.result.table.shared.key c.args.sizes.now h;
      rooms = λ k l. (h.parts k l).room;
      widths = λ k l. (h.parts k l).width;
      seats_are = c.in_ok-seats.ensures;
    }
