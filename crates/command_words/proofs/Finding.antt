-- What rows give, with one row more.
use Rattle.std.proofs.Common.{◌≡◌, ℕ, Bool, true, false, List, [], ◌∷◌, ◌++◌, Option, Some, None, is_some, option_map, refl, sym, ◌∙◌, ap, subst}
use Rattle.std.specs.Prelude.{if◌then◌else◌, option_and_then}
use Rattle.std.proofs.lemmas.Bool.{false≢true}
use Rattle.clap.specs.Walk.{Row, first_of, has_row}
use Rattle.command_words.specs.Asking.{Finds, id_of, operand_found, operand_id, value_found, value_of}
use Rattle.command_words.specs.Operands.{is_operand}
use Rattle.command_words.specs.Parts.{Given, IsOperand, Part, an_operand, a_value, nothing, with_part, with_parts}
use Rattle.command_words.specs.Settings.{value_in}
use Rattle.command_words.specs.declared.setting.Setting.{Setting}
use Rattle.command_words.specs.declared.setting.Setting.TheVariants.{Workers, Steps, Cells}
use Rattle.command_words.proofs.Lookups.{how, ids_apart, operand_apart, same, same_is, same_self}
use Rattle.command_words.proofs.Rows.{IsFull, first_other, first_same, new_row, none_first}

abbrev put : Given → Setting → Option ℕ → Given
put g Workers o = record g { workers = o }
put g Steps o = record g { steps = o }
put g Cells o = record g { cells = o }

part_is : (g : Given) (s : Setting) (n : ℕ) → with_part g (a_value s n) ≡ (if is_some (value_of g s) then None else Some (put g s (Some n)))
part_is g Workers n = refl
part_is g Steps n = refl
part_is g Cells n = refl

put_same : (g : Given) (s : Setting) (o : Option ℕ) → value_of (put g s o) s ≡ o
put_same g Workers o = refl
put_same g Steps o = refl
put_same g Cells o = refl

put_other : (g : Given) (s t : Setting) (o : Option ℕ) → same s t ≡ false → value_of (put g s o) t ≡ value_of g t
unfolding same
put_other g Workers Workers o e = absurd (false≢true (sym e))
put_other g Workers Steps o e = refl
put_other g Workers Cells o e = refl
put_other g Steps Workers o e = refl
put_other g Steps Steps o e = absurd (false≢true (sym e))
put_other g Steps Cells o e = refl
put_other g Cells Workers o e = refl
put_other g Cells Steps o e = refl
put_other g Cells Cells o e = absurd (false≢true (sym e))

put_operand : (g : Given) (s : Setting) (o : Option ℕ) → (put g s o).operand ≡ g.operand
put_operand g Workers o = refl
put_operand g Steps o = refl
put_operand g Cells o = refl

put_back : (g : Given) (s : Setting) → put (put g s None) s (value_of g s) ≡ g
put_back g Workers = refl
put_back g Steps = refl
put_back g Cells = refl

named_values : (g : Given) (o : Option (List ℕ)) (s : Setting) → value_of (record g { operand = o }) s ≡ value_of g s
named_values g o Workers = refl
named_values g o Steps = refl
named_values g o Cells = refl

none_some : {A : Type 0} (x : A) → None ≡ Some x → ⊥
none_some x e = cc

some_is : {A : Type 0} (x y : A) → Some x ≡ Some y → x ≡ y
some_is x y e = cc

some_none : {A : Type 0} (x : A) → Some x ≡ None → ⊥
some_none x e = cc

-- ** An option's value more

abbrev with_value_row : List Row → Setting → List ℕ → List Row
with_value_row rows s v = rows ++ new_row (id_of s) how v ∷ []

abbrev with_operand_row : List Row → List ℕ → List Row
with_operand_row rows v = rows ++ new_row operand_id how v ∷ []

-- what was given before, to which the part was added
pub record ValueGiven (rows : List Row) (s : Setting) (v : List ℕ) (after : Given) : Type 0 where
  pub before : Given
  pub finds : Finds rows before
  pub value : ℕ
  pub is : value_in s v ≡ Some value
  pub part : with_part before (a_value s value) ≡ Some after

module _ (rows : List Row) (s : Setting) (v : List ℕ) where
  value_here : has_row (id_of s) rows ≡ false → first_of (id_of s) (with_value_row rows s v) ≡ Some v
  value_here once = first_same (id_of s) how v rows (ids_apart s s ∙ same_self s) once

  operand_stays : first_of operand_id (with_value_row rows s v) ≡ first_of operand_id rows
  operand_stays = first_other (id_of s) how v rows operand_id (operand_apart s).0

  value_stays : (t : Setting) → same s t ≡ false → first_of (id_of t) (with_value_row rows s v) ≡ first_of (id_of t) rows
  value_stays t other = first_other (id_of s) how v rows (id_of t) (ids_apart s t ∙ other)

  pub value_before : has_row (id_of s) rows ≡ false → (after : Given) → Finds (with_value_row rows s v) after → ValueGiven rows s v after
  value_before once after finds = go (value_in s v) refl (sym (ap (value_found s) (value_here once)) ∙ finds.values s)
    where
      values : (t : Setting) → value_found t (first_of (id_of t) rows) ≡ Some (value_of (put after s None) t)
      values t = split (same s t) refl
        where
          split : (b : Bool) → same s t ≡ b → value_found t (first_of (id_of t) rows) ≡ Some (value_of (put after s None) t)
          split true e =
              let at_s : value_found s (first_of (id_of s) rows) ≡ Some (value_of (put after s None) s) = ap (value_found s) (none_first (id_of s) rows once) ∙ ap (λ o. Some o) (sym (put_same after s None)) in
              subst (λ x. value_found x (first_of (id_of x) rows) ≡ Some (value_of (put after s None) x)) (same_is s t e) at_s
          split false e = ap (value_found t) (sym (value_stays t e)) ∙ finds.values t ∙ ap (λ o. Some o) (sym (put_other after s t None e))

      found : Finds rows (put after s None)
      found = record {
        operand = ap operand_found (sym operand_stays) ∙ finds.operand ∙ ap (λ o. Some o) (sym (put_operand after s None));
        values = values;
      }

      go : (o : Option ℕ) → value_in s v ≡ o → option_map (λ n. Some n) (value_in s v) ≡ Some (value_of after s) → ValueGiven rows s v after
      go None is e = absurd (none_some (value_of after s) (sym (ap (option_map (λ n. Some n)) is) ∙ e))
      go (Some n) is e =
          let value : Some n ≡ value_of after s = some_is (Some n) (value_of after s) (sym (ap (option_map (λ n. Some n)) is) ∙ e) in
          record {
            before = put after s None;
            finds = found;
            value = n;
            is = is;
            part = part_is (put after s None) s n ∙ ap (λ o. if is_some o then None else Some (put (put after s None) s (Some n))) (put_same after s None)
                ∙ ap (λ o. Some (put (put after s None) s o)) value ∙ ap (λ g. Some g) (put_back after s);
          }

  pub value_after : IsFull rows → (before after : Given) (n : ℕ) → Finds rows before → value_in s v ≡ Some n → with_part before (a_value s n) ≡ Some after → (has_row (id_of s) rows ≡ false) × Finds (with_value_row rows s v) after
  value_after full before after n finds is part = go (value_of before s) refl (sym (part_is before s n) ∙ part)
    where
      missing : (o : Option (List ℕ)) → value_found s o ≡ Some None → o ≡ None
      missing None e = refl
      missing (Some w) e = absurd (no (value_in s w) e)
        where
          no : (x : Option ℕ) → option_map (λ n. Some n) x ≡ Some None → ⊥
          no None h = none_some None h
          no (Some m) h = some_none m (some_is (Some m) None h)

      go : (o : Option ℕ) → value_of before s ≡ o → (if is_some (value_of before s) then None else Some (put before s (Some n))) ≡ Some after → (has_row (id_of s) rows ≡ false) × Finds (with_value_row rows s v) after
      go (Some m) e h = absurd (none_some after (sym (ap (λ x. if is_some x then None else Some (put before s (Some n))) e) ∙ h))
      go None e h =
          let same_after : put before s (Some n) ≡ after = some_is (put before s (Some n)) after (sym (ap (λ x. if is_some x then None else Some (put before s (Some n))) e) ∙ h) in
          let unfound : first_of (id_of s) rows ≡ None = missing (first_of (id_of s) rows) (finds.values s ∙ ap (λ x. Some x) e) in
          let once : has_row (id_of s) rows ≡ false = full (id_of s) ∙ ap is_some unfound in (
            once,
            subst (Finds (with_value_row rows s v)) same_after (record {
              operand = ap operand_found operand_stays ∙ finds.operand ∙ ap (λ o. Some o) (sym (put_operand before s (Some n)));
              values = λ t. split t (same s t) refl once;
            }),
          )
        where
          split : (t : Setting) (b : Bool) → same s t ≡ b → has_row (id_of s) rows ≡ false → value_found t (first_of (id_of t) (with_value_row rows s v)) ≡ Some (value_of (put before s (Some n)) t)
          split t true e once =
              let at_s : value_found s (first_of (id_of s) (with_value_row rows s v)) ≡ Some (value_of (put before s (Some n)) s) =
              ap (value_found s) (value_here once) ∙ ap (option_map (λ n. Some n)) is ∙ ap (λ o. Some o) (sym (put_same before s (Some n))) in
              subst (λ x. value_found x (first_of (id_of x) (with_value_row rows s v)) ≡ Some (value_of (put before s (Some n)) x)) (same_is s t e) at_s
          split t false e once = ap (value_found t) (value_stays t e) ∙ finds.values t ∙ ap (λ o. Some o) (sym (put_other before s t (Some n) e))

-- ** A name more

pub record OperandGiven (rows : List Row) (v : List ℕ) (after : Given) : Type 0 where
  pub before : Given
  pub finds : Finds rows before
  pub is : IsOperand v
  pub part : with_part before (an_operand v) ≡ Some after

module _ (rows : List Row) (v : List ℕ) where
  operand_here : has_row operand_id rows ≡ false → first_of operand_id (with_operand_row rows v) ≡ Some v
  operand_here once = first_same operand_id how v rows refl once

  others_stay : (t : Setting) → first_of (id_of t) (with_operand_row rows v) ≡ first_of (id_of t) rows
  others_stay t = first_other operand_id how v rows (id_of t) (operand_apart t).1

  pub operand_before : has_row operand_id rows ≡ false → (after : Given) → Finds (with_operand_row rows v) after → OperandGiven rows v after
  operand_before once after finds = go (is_operand v) refl (sym (ap operand_found (operand_here once)) ∙ finds.operand)
    where
      go : (b : Bool) → is_operand v ≡ b → (if is_operand v then Some (Some v) else None) ≡ Some after.operand → OperandGiven rows v after
      go false is e = absurd (none_some after.operand (sym (ap (λ b. if b then Some (Some v) else None) is) ∙ e))
      go true is e =
          let name : Some v ≡ after.operand = some_is (Some v) after.operand (sym (ap (λ b. if b then Some (Some v) else None) is) ∙ e) in
          record {
            before = record after { operand = None };
            finds = record {
              operand = ap operand_found (none_first operand_id rows once);
              values = λ t. ap (value_found t) (sym (others_stay t)) ∙ finds.values t ∙ ap (λ o. Some o) (sym (named_values after None t));
            };
            is = is;
            part = ap (λ o. Some (record after { operand = o })) name;
          }

  pub operand_after : IsFull rows → (before after : Given) → Finds rows before → IsOperand v → with_part before (an_operand v) ≡ Some after
      → (has_row operand_id rows ≡ false) × Finds (with_operand_row rows v) after × (before.operand ≡ None) × (is_some after.operand ≡ true)
  operand_after full before after finds is part = go before.operand refl part
    where
      missing : (o : Option (List ℕ)) → operand_found o ≡ Some None → o ≡ None
      missing None e = refl
      missing (Some w) e = absurd (no (is_operand w) e)
        where
          no : (b : Bool) → (if b then Some (Some w) else None) ≡ Some None → ⊥
          no false h = none_some None h
          no true h = some_none w (some_is (Some w) None h)

      go : (o : Option (List ℕ)) → before.operand ≡ o → (if is_some before.operand then None else Some (record before { operand = Some v })) ≡ Some after
          → (has_row operand_id rows ≡ false) × Finds (with_operand_row rows v) after × (before.operand ≡ None) × (is_some after.operand ≡ true)
      go (Some m) e h = absurd (none_some after (sym (ap (λ x. if is_some x then None else Some (record before { operand = Some v })) e) ∙ h))
      go None e h =
          let same_after : record before { operand = Some v } ≡ after = some_is (record before { operand = Some v }) after (sym (ap (λ x. if is_some x then None else Some (record before { operand = Some v })) e) ∙ h) in
          let unfound : first_of operand_id rows ≡ None = missing (first_of operand_id rows) (finds.operand ∙ ap (λ x. Some x) e) in
          let once : has_row operand_id rows ≡ false = full operand_id ∙ ap is_some unfound in
          let more : Finds (with_operand_row rows v) (record before { operand = Some v }) = record {
            operand = ap operand_found (operand_here once) ∙ ap (λ b. if b then Some (Some v) else None) is;
            values = λ t. ap (value_found t) (others_stay t) ∙ finds.values t ∙ ap (λ o. Some o) (sym (named_values before (Some v) t));
          } in
          (once, subst (Finds (with_operand_row rows v)) same_after more, e, ap (λ (g : Given). is_some g.operand) (sym same_after))

-- ** What stays given

pub part_operand : (g h : Given) (s : Setting) (n : ℕ) → with_part g (a_value s n) ≡ Some h → h.operand ≡ g.operand
part_operand g h s n e = go (is_some (value_of g s)) (sym (part_is g s n) ∙ e)
  where
    go : (b : Bool) → (if b then None else Some (put g s (Some n))) ≡ Some h → h.operand ≡ g.operand
    go true k = absurd (none_some h k)
    go false k = ap (λ (x : Given). x.operand) (sym (some_is (put g s (Some n)) h k)) ∙ put_operand g s (Some n)

pub part_value : (g h : Given) (s : Setting) (n : ℕ) → with_part g (a_value s n) ≡ Some h → value_of h s ≡ Some n
part_value g h s n e = go (is_some (value_of g s)) (sym (part_is g s n) ∙ e)
  where
    go : (b : Bool) → (if b then None else Some (put g s (Some n))) ≡ Some h → value_of h s ≡ Some n
    go true k = absurd (none_some h k)
    go false k = ap (λ x. value_of x s) (sym (some_is (put g s (Some n)) h k)) ∙ put_same g s (Some n)

kept_operand : (g h : Given) (w : List ℕ) (s : Setting) (n : ℕ) → with_part g (an_operand w) ≡ Some h → value_of g s ≡ Some n → value_of h s ≡ Some n
kept_operand g h w s n e is = go (is_some g.operand) e
  where
    go : (b : Bool) → (if b then None else Some (record g { operand = Some w })) ≡ Some h → value_of h s ≡ Some n
    go true k = absurd (none_some h k)
    go false k = ap (λ x. value_of x s) (sym (some_is (record g { operand = Some w }) h k)) ∙ named_values g (Some w) s ∙ is

kept_value : (g h : Given) (t : Setting) (m : ℕ) (s : Setting) (n : ℕ) → with_part g (a_value t m) ≡ Some h → value_of g s ≡ Some n → value_of h s ≡ Some n
kept_value g h t m s n e is = go (value_of g t) refl (sym (part_is g t m) ∙ e)
  where
    go : (o : Option ℕ) → value_of g t ≡ o → (if is_some (value_of g t) then None else Some (put g t (Some m))) ≡ Some h → value_of h s ≡ Some n
    go (Some x) at k = absurd (none_some h (sym (ap (λ y. if is_some y then None else Some (put g t (Some m))) at) ∙ k))
    go None at k = split (same t s) refl
      where
        after : put g t (Some m) ≡ h
        after = some_is (put g t (Some m)) h (sym (ap (λ y. if is_some y then None else Some (put g t (Some m))) at) ∙ k)

        split : (b : Bool) → same t s ≡ b → value_of h s ≡ Some n
        split true same_ts = absurd (none_some n (sym at ∙ ap (value_of g) (same_is t s same_ts) ∙ is))
        split false apart = ap (λ x. value_of x s) (sym after) ∙ put_other g t s (Some m) apart ∙ is

-- a part, and what it gives
pub record FirstPart (g : Given) (front : Part) (parts : List Part) (given : Given) : Type 0 where
  pub after : Given
  pub part : with_part g front ≡ Some after
  pub rest : with_parts after parts ≡ Some given

pub first_part : (g : Given) (part : Part) (parts : List Part) (given : Given) → with_parts g (part ∷ parts) ≡ Some given → FirstPart g part parts given
first_part g part parts given e = go (with_part g part) refl
  where
    go : (o : Option Given) → with_part g part ≡ o → FirstPart g part parts given
    go None is = absurd (none_some given (sym (ap (option_and_then (λ h. with_parts h parts)) is) ∙ e))
    go (Some h) is = record { after = h; part = is; rest = sym (ap (option_and_then (λ h. with_parts h parts)) is) ∙ e }

pub kept_parts : (g given : Given) (parts : List Part) (s : Setting) (n : ℕ) → with_parts g parts ≡ Some given → value_of g s ≡ Some n → value_of given s ≡ Some n
kept_parts g given [] s n e is = ap (λ x. value_of x s) (sym (some_is g given e)) ∙ is
kept_parts g given (an_operand w ∷ parts) s n e is =
    let first = first_part g (an_operand w) parts given e in
    kept_parts first.after given parts s n first.rest (kept_operand g first.after w s n first.part is)
kept_parts g given (a_value t m ∷ parts) s n e is =
    let first = first_part g (a_value t m) parts given e in
    kept_parts first.after given parts s n first.rest (kept_value g first.after t m s n first.part is)

-- nothing is given by no rows
pub nothing_found : (g : Given) → Finds [] g → g ≡ nothing
nothing_found g f =
    let name : None ≡ g.operand = some_is None g.operand f.operand in
    let workers : None ≡ g.workers = some_is None g.workers (f.values Workers) in
    let steps : None ≡ g.steps = some_is None g.steps (f.values Steps) in
    let cells : None ≡ g.cells = some_is None g.cells (f.values Cells) in
    λ i. record { operand = sym name i; workers = sym workers i; steps = sym steps i; cells = sym cells i }

pub nothing_finds : Finds [] nothing
nothing_finds = record { operand = refl; values = λ s. all s }
  where
    all : (s : Setting) → value_found s None ≡ Some (value_of nothing s)
    all Workers = refl
    all Steps = refl
    all Cells = refl
