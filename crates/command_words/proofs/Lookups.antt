-- What clap finds among the options of a verb, and what one use of each comes to.
use Rattle.std.proofs.Common.{◌≡◌, ℕ, Bool, true, false, ◌||◌, ◌&&◌, inl, inr, List, [], ◌∷◌, ◌++◌, map, Some, None, refl, sym, ◌∙◌, ap}
use Rattle.std.specs.Prelude.{if◌then◌else◌}
use Rattle.std.specs.Str.{bytes_eq}
use Rattle.std.proofs.lemmas.Bool.{false≢true}
use Rattle.std.proofs.lemmas.Slice.Eq.{bytes_eq-Decides}
use Rattle.m2_base.specs.Lists.{IsIn}
use Rattle.clap.specs.Walk.{Row, Rule, arg_by_id, arg_by_index, arg_by_long, arg_by_short, has_row, reading_by, used, with_values, without}
use Rattle.clap.specs.Simple.{filled, filled_from, new_rule, with_index}
use Rattle.clap.specs.Faults.{use_fault}
use Rattle.clap.specs.Kinds.{or_else}
use Rattle.clap.specs.declared.error.kind.ErrorKind.TheVariants.{ArgumentConflict}
use Rattle.clap.specs.declared.parser.matches.ValueSource.TheVariants.{CommandLine}
use Rattle.clap.specs.declared.builder.value_parser.Reading.{Reading}
use Rattle.command_words.specs.Asking.{id_of, operand_id, option_for}
use Rattle.command_words.specs.declared.setting.Setting.{Setting}
use Rattle.command_words.specs.declared.setting.Setting.TheVariants.{Workers, Steps, Cells}

-- an option, and the word that is none, as they are built
unfoldable pub option_rule : Setting → Rule
option_rule s = filled (option_for s)

unfoldable pub operand_rule : Rule
operand_rule = with_index 1 (filled (new_rule operand_id))

abbrev pub rules_for : List Setting → List Rule
rules_for settings = map option_rule settings ++ operand_rule ∷ []

unfoldable pub same : Setting → Setting → Bool
same Workers Workers = true
same Steps Steps = true
same Cells Cells = true
same _ _ = false

unfoldable pub is_among : List Setting → Setting → Bool
is_among [] s = false
is_among (t ∷ ts) s = same t s || is_among ts s

pub same_self : (s : Setting) → same s s ≡ true
unfolding same
same_self Workers = refl
same_self Steps = refl
same_self Cells = refl

or_right : (a b : Bool) → b ≡ true → (a || b) ≡ true
or_right true b e = refl
or_right false b e = e

pub among_in : (settings : List Setting) (s : Setting) → IsIn s settings → is_among settings s ≡ true
unfolding is_among
among_in [] s is = absurd is
among_in (t ∷ ts) s (inl e) = ap (λ x. same x s || is_among ts s) (sym e) ∙ ap (λ b. b || is_among ts s) (same_self s)
among_in (t ∷ ts) s (inr is) = or_right (same t s) (is_among ts s) (among_in ts s is)

pub built_rules : (settings : List Setting) → filled_from 1 (map option_for settings ++ new_rule operand_id ∷ []) ≡ rules_for settings
unfolding option_rule operand_rule
built_rules [] = refl
built_rules (s ∷ ss) = ap (λ x. option_rule s ∷ x) (built_rules ss)

pub by_index_one : (settings : List Setting) → arg_by_index (rules_for settings) 1 ≡ Some operand_rule
unfolding option_rule operand_rule
by_index_one [] = refl
by_index_one (s ∷ ss) = by_index_one ss

pub by_index_two : (settings : List Setting) → arg_by_index (rules_for settings) 2 ≡ None
unfolding option_rule operand_rule
by_index_two [] = refl
by_index_two (s ∷ ss) = by_index_two ss

pub by_short : (settings : List Setting) (x : ℕ) → arg_by_short (rules_for settings) x ≡ None
unfolding option_rule operand_rule
by_short [] x = refl
by_short (s ∷ ss) x = by_short ss x

pub by_id_name : (settings : List Setting) → arg_by_id (rules_for settings) operand_id ≡ Some operand_rule
unfolding option_rule operand_rule
by_id_name [] = refl
by_id_name (Workers ∷ ss) = by_id_name ss
by_id_name (Steps ∷ ss) = by_id_name ss
by_id_name (Cells ∷ ss) = by_id_name ss

pub ids_apart : (s t : Setting) → bytes_eq (id_of s) (id_of t) ≡ same s t
unfolding same
ids_apart Workers Workers = refl
ids_apart Workers Steps = refl
ids_apart Workers Cells = refl
ids_apart Steps Workers = refl
ids_apart Steps Steps = refl
ids_apart Steps Cells = refl
ids_apart Cells Workers = refl
ids_apart Cells Steps = refl
ids_apart Cells Cells = refl

pub operand_apart : (s : Setting) → (bytes_eq (id_of s) operand_id ≡ false) × (bytes_eq operand_id (id_of s) ≡ false)
operand_apart Workers = (refl, refl)
operand_apart Steps = (refl, refl)
operand_apart Cells = (refl, refl)

pub same_is : (s t : Setting) → same s t ≡ true → s ≡ t
unfolding same
same_is Workers Workers e = refl
same_is Workers Steps e = absurd (false≢true e)
same_is Workers Cells e = absurd (false≢true e)
same_is Steps Workers e = absurd (false≢true e)
same_is Steps Steps e = refl
same_is Steps Cells e = absurd (false≢true e)
same_is Cells Workers e = absurd (false≢true e)
same_is Cells Steps e = absurd (false≢true e)
same_is Cells Cells e = refl

pub by_id_option : (settings : List Setting) (t : Setting) → is_among settings t ≡ true → arg_by_id (rules_for settings) (id_of t) ≡ Some (option_rule t)
unfolding option_rule operand_rule is_among
by_id_option [] t e = absurd (false≢true e)
by_id_option (s ∷ ss) t e = ap (λ b. if b then Some (option_rule s) else arg_by_id (rules_for ss) (id_of t)) (ids_apart s t) ∙ go (same s t) refl e (λ h. by_id_option ss t h)
  where
    go : (b : Bool) → same s t ≡ b → (b || is_among ss t) ≡ true → (is_among ss t ≡ true → arg_by_id (rules_for ss) (id_of t) ≡ Some (option_rule t)) → (if b then Some (option_rule s) else arg_by_id (rules_for ss) (id_of t)) ≡ Some (option_rule t)
    go true is h rest = ap (λ x. Some (option_rule x)) (same_is s t is)
    go false is h rest = rest h

pub by_long_option : (settings : List Setting) (t : Setting) → is_among settings t ≡ true → arg_by_long (rules_for settings) (id_of t) ≡ Some (option_rule t)
unfolding option_rule operand_rule is_among
by_long_option [] t e = absurd (false≢true e)
by_long_option (s ∷ ss) t e = ap (λ b. if b || false then Some (option_rule s) else arg_by_long (rules_for ss) (id_of t)) (ids_apart s t) ∙ go (same s t) refl e (λ h. by_long_option ss t h)
  where
    go : (b : Bool) → same s t ≡ b → (b || is_among ss t) ≡ true → (is_among ss t ≡ true → arg_by_long (rules_for ss) (id_of t) ≡ Some (option_rule t)) → (if b || false then Some (option_rule s) else arg_by_long (rules_for ss) (id_of t)) ≡ Some (option_rule t)
    go true is h rest = ap (λ x. Some (option_rule x)) (same_is s t is)
    go false is h rest = rest h

-- what an option's name finds is that option
pub record FoundOption (settings : List Setting) (name : List ℕ) (a : Rule) : Type 0 where
  pub setting : Setting
  pub among : is_among settings setting ≡ true
  pub named : name ≡ id_of setting
  pub rule : a ≡ option_rule setting

no_rule : (a : Rule) → None ≡ Some a → ⊥
no_rule a e = cc

some_rule : (a b : Rule) → Some a ≡ Some b → b ≡ a
some_rule a b e = cc

pub by_long_found : (settings : List Setting) (name : List ℕ) (a : Rule) → arg_by_long (rules_for settings) name ≡ Some a → FoundOption settings name a
unfolding option_rule operand_rule is_among
by_long_found [] name a e = absurd (no_rule a e)
by_long_found (s ∷ ss) name a e = go (bytes_eq (id_of s) name) refl e (λ h. by_long_found ss name a h)
  where
    go : (b : Bool) → bytes_eq (id_of s) name ≡ b → (if b || false then Some (option_rule s) else arg_by_long (rules_for ss) name) ≡ Some a → (arg_by_long (rules_for ss) name ≡ Some a → FoundOption ss name a) → FoundOption (s ∷ ss) name a
    go true is h rest = record { setting = s; among = ap (λ b. b || is_among ss s) (same_self s); named = sym ((bytes_eq-Decides (id_of s) name).0 is); rule = some_rule (option_rule s) a h }
    go false is h rest =
        let found = rest h in
        record { setting = found.setting; among = or_right (same s found.setting) (is_among ss found.setting) found.among; named = found.named; rule = found.rule }

-- ** One use

unfoldable pub how : Reading
how = reading_by operand_rule

module _ (v : List ℕ) (rows : List Row) where
  pub option_used : (s : Setting) → used (option_rule s) (v ∷ []) rows ≡ with_values (id_of s) how CommandLine (v ∷ []) (without (id_of s) rows)
  unfolding option_rule how operand_rule
  option_used s = refl

  pub operand_used : used operand_rule (v ∷ []) rows ≡ with_values operand_id how CommandLine (v ∷ []) (without operand_id rows)
  unfolding how operand_rule
  operand_used = refl

  pub option_once : (s : Setting) → has_row (id_of s) rows ≡ false → use_fault false (option_rule s) (v ∷ []) rows ≡ []
  unfolding option_rule
  option_once s e = rw e refl

  pub operand_once : has_row operand_id rows ≡ false → use_fault false operand_rule (v ∷ []) rows ≡ []
  unfolding operand_rule
  operand_once e = rw e refl

  -- a second use is refused
  pub option_taken : (s : Setting) → use_fault false (option_rule s) (v ∷ []) rows ≡ [] → has_row (id_of s) rows ≡ false
  unfolding option_rule
  option_taken s e = go (has_row (id_of s) rows) e
    where
      go : (b : Bool) → or_else (if b && true then ArgumentConflict ∷ [] else []) [] ≡ [] → b ≡ false
      go false h = refl
      go true h = cc

  pub operand_taken : use_fault false operand_rule (v ∷ []) rows ≡ [] → has_row operand_id rows ≡ false
  unfolding operand_rule
  operand_taken e = go (has_row operand_id rows) e
    where
      go : (b : Bool) → or_else (if b && true then ArgumentConflict ∷ [] else []) [] ≡ [] → b ≡ false
      go false h = refl
      go true h = cc

-- an option wants a value
pub option_empty : (s : Setting) (rows : List Row) → use_fault false (option_rule s) [] rows ≡ [] → ⊥
unfolding option_rule
option_empty s rows e = cc
