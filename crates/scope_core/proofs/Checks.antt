-- Tests of events on tables that are written out: where the test gives true, the fact holds.
use Rattle.std.proofs.Common.{◌≡◌, ℕ, ◌^◌, Bool, true, not, ◌&&◌, List, [], ◌∷◌, ◌++◌, length, arith, suc, zero, lit<}
use Rattle.std.specs.Prelude.{nat_lt}
use Rattle.std.proofs.lemmas.Grind.{common_steps}
use Rattle.m2_base.specs.Tables.{Table, table_at}
use Rattle.m2_base.proofs.StandardLaws.{are_new, HasNoRepeats-test}
use Rattle.scope_core.specs.Events.{IsOpen, IsLawful, IsRun, after, AreCountable}
use Rattle.scope_core.specs.declared.event.Event.{Event}
use Rattle.scope_core.specs.declared.event.Event.TheVariants.{Enter, Complete}

abbrev pub is_open : List Table → ℕ → Bool
is_open tables s = nat_lt s (length tables) && not (table_at tables s).complete

abbrev pub is_lawful : List Table → Event → Bool
is_lawful tables (Enter s rows) = is_open tables s && are_new (λ r. r.name) ((table_at tables s).rows ++ rows.items)
is_lawful tables (Complete s) = is_open tables s

IsOpen-test : (tables : List Table) (s : ℕ) → is_open tables s ≡ true → IsOpen tables s
IsOpen-test tables s h = (grind (arith, common_steps), grind (arith, common_steps))

pub IsLawful-test : (tables : List Table) (e : Event) → is_lawful tables e ≡ true → IsLawful tables e
IsLawful-test tables (Enter s rows) h =
    let names : are_new (λ r. r.name) ((table_at tables s).rows ++ rows.items) ≡ true = grind (arith, common_steps) in
    (IsOpen-test tables s (grind (arith, common_steps)), HasNoRepeats-test (λ r. r.name) ((table_at tables s).rows ++ rows.items) names)
IsLawful-test tables (Complete s) h = IsOpen-test tables s h

abbrev pub are_countable : List Table → Bool
are_countable [] = true
are_countable (t ∷ tables) = nat_lt (length t.rows) (2 ^ 32) && are_countable tables

pub AreCountable-test : (tables : List Table) → are_countable tables ≡ true → AreCountable tables
AreCountable-test [] h s = lit< tt
AreCountable-test (t ∷ tables) h zero = grind (arith, common_steps)
AreCountable-test (t ∷ tables) h (suc s) = AreCountable-test tables (grind (arith, common_steps)) s

abbrev pub is_run : List Table → List Event → Bool
is_run tables [] = true
is_run tables (e ∷ run) = is_lawful tables e && is_run (after tables e) run

pub IsRun-test : (tables : List Table) (run : List Event) → is_run tables run ≡ true → IsRun tables run
IsRun-test tables [] h = tt
IsRun-test tables (e ∷ run) h =
    let first : is_lawful tables e ≡ true = grind (arith, common_steps) in
    let rest : is_run (after tables e) run ≡ true = grind (arith, common_steps) in
    (IsLawful-test tables e first, IsRun-test (after tables e) run rest)
