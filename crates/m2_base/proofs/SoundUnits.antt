-- The finished rows of a unit are right, each at its place.
use Rattle.std.specs.Prelude.{◌≡◌, ℕ, zero, suc, ◌+◌, ◌^◌, ◌<◌, ◌≤◌, List, [], ◌∷◌, ◌++◌, length, ◌⊎◌, slice_get, Some}
use Rattle.std.proofs.Common.{subst, sym, ◌∙◌, refl, inl, inr, arith}
use Rattle.std.proofs.lemmas.Bool.{cases_order}
use Rattle.std.proofs.lemmas.List.{length-append, get_or_append_left, get_or_at, get_or_past}
use Rattle.std.proofs.lemmas.Option.{slice_get_within}
use Rattle.m2_base.specs.Lists.{Each, IsPrefixOf}
use Rattle.m2_base.specs.Names.{standard_names}
use Rattle.m2_base.specs.Rows.{Row, at_place, row_meaning, HasSmallOrdinals}
use Rattle.m2_base.specs.Standard.{standard_rows}
use Rattle.m2_base.specs.Tables.{rows_at}
use Rattle.m2_base.specs.Statics.BlockRows.{declare_block}
use Rattle.m2_base.specs.Statics.Blocks.{BlockTree, UnitTrees, blocks_of}
use Rattle.m2_base.specs.Statics.Contexts.{Source}
use Rattle.m2_base.specs.Statics.FormedRows.{IsFilled, IsRight, IsReady, IsSoundText, IsSoundBlock, AreConsecutive, AreRight}
use Rattle.m2_base.specs.Statics.UnitRows.{rows_from, unit_rows}
use Rattle.m2_base.proofs.LayoutLaws.{block_counted, block_few}
use Rattle.m2_base.proofs.NoRepeats.{some_is}
use Rattle.m2_base.proofs.SoundBlocks.{block_right}
use Rattle.m2_base.proofs.StandardLaws.{IsWellFormed-standard}

-- ** Scope 0

standard_small : Each (λ r. HasSmallOrdinals (row_meaning r)) standard_rows
standard_small = (tt, (tt, (tt, (tt, (omega arith, (omega arith, (tt, (tt, (tt, (tt, (tt, (omega arith, (omega arith, (omega arith, (omega arith, (omega arith, (omega arith, (omega arith, (omega arith, (omega arith, (tt, (tt, (tt, (tt, (tt, (tt, (tt, (tt, (tt, (tt, (tt, (tt, (tt, (tt, (tt, (tt, (tt, tt)))))))))))))))))))))))))))))))))))))

standard_filled : Each (λ r. IsFilled (row_meaning r)) standard_rows
standard_filled = (tt, (tt, (tt, (tt, (tt, (tt, (tt, (tt, (tt, (tt, (tt, (tt, (tt, (tt, (tt, (tt, (tt, (tt, (tt, (tt, (tt, (tt, (tt, (tt, (tt, (tt, (tt, (tt, (tt, (tt, (tt, (tt, (tt, (tt, (tt, (tt, (tt, tt)))))))))))))))))))))))))))))))))))))

each_at : {A : Type 0} (P : A → Type 0) (xs : List A) → Each P xs → (k : ℕ) (x : A) → slice_get xs k ≡ Some x → P x
each_at P [] h k x e = absurd (cc)
each_at P (y ∷ xs) h zero x e = subst P (some_is y x e) h.0
each_at P (y ∷ xs) h (suc k) x e = each_at P xs h.1 k x e

standard_right : (names : List (List ℕ)) → IsPrefixOf standard_names names → AreRight (length names) (standard_rows ∷ [])
standard_right names h zero o r e =
    let within = slice_get_within standard_rows o r e in (
      omega (arith, within),
      record {
        formed = IsWellFormed-standard names h o r e;
        small = each_at (λ r. HasSmallOrdinals (row_meaning r)) standard_rows standard_small o r e;
        cells = each_at (λ r. IsFilled (row_meaning r)) standard_rows standard_filled o r e;
      },
    )
standard_right names h (suc s) o r e = absurd (cc)

-- ** One scope after another

-- with the rows of a further scope
more_right : (names : ℕ) (tables : List (List Row)) (rows : List Row) → AreRight names tables
    → ((o : ℕ) (r : Row) → slice_get rows o ≡ Some r → (o < 2 ^ 32) × IsRight names (at_place (length tables) o) r)
    → AreRight names (tables ++ rows ∷ [])
more_right names tables rows before last s o r e = by_order (cases_order s (length tables))
  where
    by_order : (s ≡ length tables) ⊎ ((s < length tables) ⊎ (length tables < s)) → (o < 2 ^ 32) × IsRight names (at_place s o) r
    by_order (inl same) =
        let here : rows_at (tables ++ rows ∷ []) s ≡ rows = get_or_at tables rows [] [] s (sym same) in
        subst (λ n. (o < 2 ^ 32) × IsRight names (at_place n o) r) (sym same) (last o r (subst (λ (xs : List Row). slice_get xs o ≡ Some r) here e))
    by_order (inr (inl less)) =
        before s o r (subst (λ (xs : List Row). slice_get xs o ≡ Some r) (get_or_append_left tables (rows ∷ []) [] s less) e)
    by_order (inr (inr more)) =
        let f = length-append tables (rows ∷ []) in
        let none : slice_get [] o ≡ Some r = subst (λ (xs : List Row). slice_get xs o ≡ Some r) (get_or_past (tables ++ rows ∷ []) s [] (omega (arith, f, more))) e in
        absurd (cc)

blocks_right : (names : ℕ) (source : Source) → 0 < names → names ≤ 2 ^ 32 → IsSoundText source → (blocks : List BlockTree) (tables : List (List Row))
    → 0 < length tables → rows_at tables 0 ≡ standard_rows → AreRight names tables → AreConsecutive (length tables) blocks → Each (IsSoundBlock names source) blocks
    → AreRight names (rows_from source tables blocks)
blocks_right names source some few text [] tables positive standard right row good = right
blocks_right names source some few text (b ∷ blocks) tables positive standard right row good =
    let same = row.0 in
    let small = good.0.few in
    let rows = (declare_block source tables b).rows in
    let ready : IsReady names source tables b = record {
      some_names = some;
      few_names = few;
      positive = omega (arith, same, positive);
      before = omega (arith, same);
      standard = standard;
      right = λ s o r h e. right s o r e;
      few = good.0.few;
      short = text.short;
      bytes = text.bytes;
      items = good.0.items;
      imports = good.0.imports;
    } in
    let many = block_counted source tables b in
    let brought = block_few source tables b in
    let next = length-append tables (rows ∷ []) in
    let one : length tables + 1 ≡ length (tables ++ rows ∷ []) = omega (arith, next) in
    blocks_right names source some few text blocks (tables ++ rows ∷ [])
    (omega (arith, next))
    (get_or_append_left tables (rows ∷ []) [] 0 positive ∙ standard)
    (more_right names tables rows right
    (λ o r e. let within = slice_get_within rows o r e in
    (omega (arith, within, many, brought, small), subst (λ n. IsRight names (at_place n o) r) same (block_right names source tables b ready o r e))))
    (subst (λ n. AreConsecutive n blocks) one row.1)
    good.1

pub unit_right : (names : List (List ℕ)) (u : UnitTrees) → IsPrefixOf standard_names names → 0 < length names → length names ≤ 2 ^ 32 → IsSoundText u.source
    → AreConsecutive 1 (blocks_of u) → Each (IsSoundBlock (length names) u.source) (blocks_of u) → AreRight (length names) (unit_rows u)
unfolding unit_rows
unit_right names u prefix some few text row good =
    blocks_right (length names) u.source some few text (blocks_of u) (standard_rows ∷ []) (omega arith) refl (standard_right names prefix) row good
