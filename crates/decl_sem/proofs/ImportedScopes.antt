-- The scope of the definition module of a name: the modules one after another.
use Rattle.std.specs.Prelude.{◌≡◌, ℕ, suc, ◌+◌, ◌<◌, ◌==◌, Bool, true, false, not, cond, nat_lt, if◌then◌else◌, List, [], ◌∷◌, length, drop, map, position, slice_index_or, None, Some, option_map, unwrap_or}
use Rattle.std.specs.List.{position_or_len}
use Rattle.std.proofs.Common.{refl, sym, ap, ◌∙◌, arith, get_or}
use Rattle.m2_base.specs.Statics.Contexts.{DefinitionModule, scope_of_module}
use Rattle.m2_base.specs.Units.{UnitTexts}
use Rattle.m2_base.specs.Finished.{definitions_of, no_text, source_of}
use Rattle.std.proofs.lemmas.Bool.{lt-ltb}
use Rattle.decl_sem.specs.ImportedModules.{first_from, is_text_named}
use Rattle.decl_sem.proofs.VariableLists.{next_left, none_left}

same_test : (m n : ℕ) → nat_lt (1 + m) (suc n) ≡ nat_lt m n
same_test m n = grind arith

scope_at : {A : Type 0} (p : A → Bool) (xs : List A) (o : ℕ) → unwrap_or (option_map (λ n. n + o) (position p xs)) 0 ≡ first_from p o xs
scope_at p [] o = refl
scope_at {A} p (x ∷ xs) o = go (p x) (scope_at p xs (o + 1))
  where
    m : ℕ
    m = position_or_len p xs

    later : (t u : Bool) (rest : ℕ) → u ≡ t → unwrap_or (option_map (λ n. n + (o + 1)) (cond t (Some m) None)) 0 ≡ rest → unwrap_or (option_map (λ n. n + o) (cond u (Some (1 + m)) None)) 0 ≡ rest
    later true u rest e h = ap (λ (w : Bool). unwrap_or (option_map (λ n. n + o) (cond w (Some (1 + m)) None)) 0) e ∙ (let k : 1 + m + o ≡ m + (o + 1) = omega arith in k) ∙ h
    later false u rest e h = ap (λ (w : Bool). unwrap_or (option_map (λ n. n + o) (cond w (Some (1 + m)) None)) 0) e ∙ h

    go : (b : Bool) → unwrap_or (option_map (λ n. n + (o + 1)) (cond (nat_lt m (length xs)) (Some m) None)) 0 ≡ first_from p (o + 1) xs
        → unwrap_or (option_map (λ n. n + o) (cond (nat_lt (cond (not b) (1 + m) 0) (length (x ∷ xs))) (Some (cond (not b) (1 + m) 0)) None)) 0 ≡ (if b then o else first_from p (o + 1) xs)
    go true h = ap (λ (w : Bool). unwrap_or (option_map (λ n. n + o) (cond w (Some 0) None)) 0) (lt-ltb 0 (length (x ∷ xs)) (omega arith)) ∙ (let k : 0 + o ≡ o = omega arith in k)
    go false h = later (nat_lt m (length xs)) (nat_lt (1 + m) (length (x ∷ xs))) (first_from p (o + 1) xs) (same_test m (length xs)) h

over_map : {A B : Type 0} (f : A → B) (p : B → Bool) (xs : List A) (o : ℕ) → first_from p o (map f xs) ≡ first_from (λ x. p (f x)) o xs
over_map f p [] o = refl
over_map {A} f p (x ∷ xs) o = ap (λ (rest : ℕ). if p (f x) then o else rest) (over_map f p xs (o + 1))

pub scope_is : (u : UnitTexts) (name : ℕ) → scope_of_module (source_of u) name ≡ first_from (is_text_named u name) 1 u.order
scope_is u name =
    scope_at (λ (d : DefinitionModule). d.name == name) (definitions_of u) 1
    ∙ over_map (λ (k : ℕ). record { name = (slice_index_or u.list k no_text).name; text = k }) (λ (d : DefinitionModule). d.name == name) u.order 1

-- the first k don't pass
pub record NoneYet (p : ℕ → Bool) (order : List ℕ) (k : ℕ) : Type 0 where
  pub left : first_from p (k + 1) (drop k order) ≡ first_from p 1 order

pub none_yet : (p : ℕ → Bool) (order : List ℕ) → NoneYet p order 0
none_yet p order = record { left = refl }

one_step : (p : ℕ → Bool) (order : List ℕ) (scope k d : ℕ) → k < length order
    → first_from p scope (drop k order) ≡ (if p (get_or order k d) then scope else first_from p (scope + 1) (drop (k + 1) order))
one_step p order scope k d h = ap (first_from p scope) (next_left order k d h)

pub other_module : (p : ℕ → Bool) (order : List ℕ) (k d : ℕ) → k < length order → p (get_or order k d) ≡ false → NoneYet p order k → NoneYet p order (k + 1)
other_module p order k d h other so =
    record { left = sym (one_step p order (k + 1) k d h ∙ ap (λ (b : Bool). if b then k + 1 else first_from p (k + 1 + 1) (drop (k + 1) order)) other) ∙ so.left }

pub this_module : (p : ℕ → Bool) (order : List ℕ) (k d : ℕ) → k < length order → p (get_or order k d) ≡ true → NoneYet p order k → k + 1 ≡ first_from p 1 order
this_module p order k d h same so =
    sym (one_step p order (k + 1) k d h ∙ ap (λ (b : Bool). if b then k + 1 else first_from p (k + 1 + 1) (drop (k + 1) order)) same) ∙ so.left

pub no_module : (p : ℕ → Bool) (order : List ℕ) (k : ℕ) → k ≡ length order → NoneYet p order k → 0 ≡ first_from p 1 order
no_module p order k end so =
    sym (ap (λ (n : ℕ). first_from p (k + 1) (drop n order)) end ∙ ap (first_from p (k + 1)) (none_left order)) ∙ so.left

-- the scope of the module, by the list of the definition texts
pub scope_told : (u : UnitTexts) (name : ℕ) (order : List ℕ) → order ≡ u.order → first_from (is_text_named u name) 1 order ≡ scope_of_module (source_of u) name
scope_told u name order same = ap (first_from (is_text_named u name) 1) same ∙ sym (scope_is u name)
