use Rattle.std.proofs.Common.{◌≡◌, ◌∙◌, ◌≤◌, ◌<◌, ◌++◌, ℕ, List, ap, arith, drop, get_or, length, replicate, subst, sym, take}
use Rattle.std.proofs.lemmas.List.{length-map, length-replicate}
use Rattle.m2_base.specs.Standard.{standard_rows}
use Rattle.m2_base.specs.Tables.{no_rows}
use Rattle.scope_core.specs.Kept.{TableWithRoom, completed, rooms_in, tables_in, with_rows}
use Rattle.scope_core.proofs.Filling.{lent_whole, started_tables}
use Rattle.scope_core.proofs.kept.standard_tables.Goals as goal

-- the first of so many scopes is there
first_there : (kept lent : List TableWithRoom) (n : ℕ) → lent ≡ kept → tables_in kept ≡ replicate n no_rows → 2 ≤ n → 0 < length lent
first_there kept lent n is empty several =
    let a = ap length empty in let b = length-map kept (λ k. k.table) in let d = length-replicate n no_rows in let e = ap length is in omega arith

-- what was lent came back with as much room
roomy : (sizes : List ℕ) (kept lent new : List TableWithRoom) (n : ℕ) → n ≡ length kept → lent ≡ kept → length new ≡ length lent
    → ((s : ℕ) → get_or sizes s 0 ≤ get_or (rooms_in kept) s 0) → ((s : ℕ) → get_or (rooms_in lent) s 0 ≤ get_or (rooms_in new) s 0)
    → (s : ℕ) → get_or sizes s 0 ≤ get_or (rooms_in (take n (new ++ drop (length new) kept))) s 0
roomy sizes kept lent new n size is long rooms grow =
    subst (λ l. (s : ℕ) → get_or sizes s 0 ≤ get_or (rooms_in l) s 0) (sym (lent_whole n kept new size (long ∙ ap length is)))
    (λ s. let a = rooms s in let b = grow s in let e = ap (λ l. get_or (rooms_in l) s 0) is in omega arith)

pub fill_first-requires-clause-inside : goal.fill_first-requires-clause-inside
fill_first-requires-clause-inside c = first_there _ _ _ c.deref_mut.ensures.value c.in_ok-kept.ensures.empty c.requires

pub returns-clause-tables : goal.returns-clause-tables
returns-clause-tables c =
    let is = c.deref_mut.ensures.value in
    ap tables_in (lent_whole _ _ c.fill_first.new.kept c.in_ok-kept.kept.ok.0 (c.fill_first.auto.kept ∙ ap length is)) ∙ c.in_ok-fill_first.ensures.tables
    ∙ ap (λ k. completed (with_rows (tables_in k) 0 standard_rows) 0) is ∙ started_tables c.args.sizes.now _ c.requires c.in_ok-kept.ensures.empty

pub returns-clause-rooms : goal.returns-clause-rooms
returns-clause-rooms c =
    roomy c.args.sizes.now _ _ c.fill_first.new.kept _ c.in_ok-kept.kept.ok.0 c.deref_mut.ensures.value c.fill_first.auto.kept c.in_ok-kept.ensures.rooms
    c.in_ok-fill_first.ensures.rooms
