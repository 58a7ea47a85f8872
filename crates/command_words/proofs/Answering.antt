-- What clap answers to the words behind a verb.
use Rattle.std.proofs.Common.{◌≡◌, ℕ, Bool, true, false, ◌&&◌, ◌||◌, not, List, [], ◌∷◌, Some, refl, sym, ◌∙◌, ap, subst}
use Rattle.std.specs.Prelude.{fold, if◌then◌else◌}
use Rattle.std.specs.List.{list_any}
use Rattle.clap.specs.Walk.{Held, Row, Rule, Text, Walk, finished, has_row, nothing_held, settled_rows, walk, walk_from, walked, with_default}
use Rattle.clap.specs.Simple.{Shape, built, matches_of}
use Rattle.clap.specs.Takes.{is_given}
use Rattle.clap.specs.Faults.{check_fault, default_fault, defaults_fault, fault_of, given_default_fault, level_fault, settle_fault, turn_fault, walk_fault}
use Rattle.clap.specs.Kinds.{Kinds, or_else}
use Rattle.clap.proofs.FaultLemmas.{leaf_fault, past}
use Rattle.command_words.specs.Asking.{Finds, app_for, id_of, operand_id, value_of}
use Rattle.command_words.specs.Parts.{Adds, Given, nothing}
use Rattle.command_words.specs.declared.setting.Setting.{Setting}
use Rattle.command_words.proofs.Lookups.{built_rules, is_among, operand_rule, option_rule, rules_for}
use Rattle.command_words.proofs.Turns.{shape_for}
use Rattle.command_words.proofs.Walks.{Ends, from_ends, no_first, to_ends}

-- ** No defaults, and nothing that is wanted

option_default : (rows : List Row) (s : Setting) → (default_fault rows (option_rule s) ≡ []) × (with_default rows (option_rule s) ≡ rows)
unfolding option_rule
option_default rows s = go (has_row (id_of s) rows)
  where
    go : (b : Bool) → ((if b || true then [] else given_default_fault (option_rule s) []) ≡ []) × ((if b then rows else rows) ≡ rows)
    go true = (refl, refl)
    go false = (refl, refl)

operand_default : (rows : List Row) → (default_fault rows operand_rule ≡ []) × (with_default rows operand_rule ≡ rows)
unfolding operand_rule
operand_default rows = go (has_row operand_id rows)
  where
    go : (b : Bool) → ((if b || true then [] else given_default_fault operand_rule []) ≡ []) × ((if b then rows else rows) ≡ rows)
    go true = (refl, refl)
    go false = (refl, refl)

no_defaults : (settings : List Setting) (rows : List Row) → defaults_fault rows (rules_for settings) ≡ []
unfolding defaults_fault
no_defaults [] rows = ap (λ k. or_else k []) (operand_default rows).0
no_defaults (s ∷ ss) rows =
    past (default_fault rows (option_rule s)) (defaults_fault (with_default rows (option_rule s)) (rules_for ss)) (option_default rows s).0
    ∙ ap (λ r. defaults_fault r (rules_for ss)) (option_default rows s).1 ∙ no_defaults ss rows

same_rows : (settings : List Setting) (rows : List Row) → fold with_default rows (rules_for settings) ≡ rows
same_rows [] rows = (operand_default rows).1
same_rows (s ∷ ss) rows = ap (λ r. fold with_default r (rules_for ss)) (option_default rows s).1 ∙ same_rows ss rows

none_wanted : (settings : List Setting) (rows : List Row) → list_any (λ a. a.required && not (is_given a.id rows)) (rules_for settings) ≡ false
unfolding option_rule operand_rule
none_wanted [] rows = refl
none_wanted (s ∷ ss) rows = none_wanted ss rows

module _ (settings : List Setting) where
  top_is : (built (app_for settings)).top ≡ shape_for settings
  top_is = ap (λ (rules : List Rule). record (shape_for settings) { rules = rules }) (built_rules settings)

  abbrev pub start : Walk
  start = walk_from nothing_held

  abbrev end : List Text → Held
  end words = (walk (rules_for settings) [] nothing_held words).held

  -- what is refused is refused in the walk, or at its end
  abbrev faults : List Text → Kinds
  faults words = or_else (walk_fault (shape_for settings) [] start words) (settle_fault (rules_for settings) false (end words))

  checked : (rows : List Row) → check_fault (shape_for settings) rows false ≡ []
  checked rows = rw (none_wanted settings rows) refl

  then_none : (a : Kinds) → or_else a [] ≡ a
  then_none [] = refl
  then_none (k ∷ ks) = refl

  level_is : (words : List Text) → level_fault (shape_for settings) [] nothing_held words false [] ≡ faults words
  level_is words =
      let rest : or_else (defaults_fault (settled_rows (rules_for settings) (end words).pending (end words).rows) (rules_for settings)) (check_fault (shape_for settings) (finished (rules_for settings) (end words)) false) ≡ [] =
      past _ (check_fault (shape_for settings) (finished (rules_for settings) (end words)) false) (no_defaults settings (settled_rows (rules_for settings) (end words).pending (end words).rows)) ∙ checked (finished (rules_for settings) (end words)) in
      ap (λ k. or_else (walk_fault (shape_for settings) [] start words) (or_else (settle_fault (rules_for settings) false (end words)) k)) rest
      ∙ ap (or_else (walk_fault (shape_for settings) [] start words)) (then_none (settle_fault (rules_for settings) false (end words)))

  fault_is : (words : List Text) → fault_of (app_for settings) words ≡ faults words
  fault_is words = leaf_fault (built (app_for settings)) nothing_held words refl ∙ ap (λ s. level_fault s [] nothing_held words false []) top_is ∙ level_is words

  rows_are : (words : List Text) → matches_of (app_for settings) words ≡ settled_rows (rules_for settings) (end words).pending (end words).rows
  rows_are words = ap (λ (s : Shape). finished s.rules (walk s.rules [] nothing_held words).held) top_is ∙ same_rows settings (settled_rows (rules_for settings) (end words).pending (end words).rows)

  -- ** The walk, word by word

  abbrev last : Walk → List Text → Held
  last w words = (fold (walked (rules_for settings) []) w words).held

  record Passes (w : Walk) (words : List Text) (out : List Row) : Type 0 where
    walks : walk_fault (shape_for settings) [] w words ≡ []
    settles : settle_fault (rules_for settings) false (last w words) ≡ []
    rows : settled_rows (rules_for settings) (last w words).pending (last w words).rows ≡ out

  to_walk : (words : List Text) (w : Walk) (out : List Row) → Passes w words out → Ends settings w words out
  unfolding Ends walk_fault
  to_walk [] w out h = (h.settles, h.rows)
  to_walk (word ∷ rest) w out h =
      let parts = no_first (turn_fault (shape_for settings) [] w word) (walk_fault (shape_for settings) [] (walked (rules_for settings) [] w word) rest) h.walks in
      (parts.0, to_walk rest (walked (rules_for settings) [] w word) out (record { walks = parts.1; settles = h.settles; rows = h.rows }))

  from_walk : (words : List Text) (w : Walk) (out : List Row) → Ends settings w words out → Passes w words out
  unfolding Ends walk_fault
  from_walk [] w out e = record { walks = refl; settles = e.0; rows = e.1 }
  from_walk (word ∷ rest) w out e =
      let h = from_walk rest (walked (rules_for settings) [] w word) out e.1 in
      record {
        walks = past (turn_fault (shape_for settings) [] w word) (walk_fault (shape_for settings) [] (walked (rules_for settings) [] w word) rest) e.0 ∙ h.walks;
        settles = h.settles;
        rows = h.rows;
      }

  -- what clap takes the definition takes, and finds the same
  pub taken_is_given : (words : List Text) (given : Given) → fault_of (app_for settings) words ≡ [] → Finds (matches_of (app_for settings) words) given → Adds nothing words given
  taken_is_given words given none finds =
      let parts = no_first (walk_fault (shape_for settings) [] start words) (settle_fault (rules_for settings) false (end words)) (sym (fault_is words) ∙ none) in
      let rows = settled_rows (rules_for settings) (end words).pending (end words).rows in
      from_ends settings words rows given (to_walk words start rows (record { walks = parts.0; settles = parts.1; rows = refl })) (subst (λ r. Finds r given) (rows_are words) finds)

  -- what the definition takes, with options of the verb alone, clap takes, and finds the same
  pub given_is_taken : (words : List Text) (given : Given) → Adds nothing words given → ((s : Setting) (n : ℕ) → value_of given s ≡ Some n → is_among settings s ≡ true)
      → (fault_of (app_for settings) words ≡ []) × Finds (matches_of (app_for settings) words) given
  given_is_taken words given adds of_verb =
      let taken = to_ends settings words given adds of_verb in
      let h = from_walk words start taken.out taken.ends in (
        fault_is words ∙ past (walk_fault (shape_for settings) [] start words) (settle_fault (rules_for settings) false (end words)) h.walks ∙ h.settles,
        subst (λ r. Finds r given) (sym (rows_are words ∙ h.rows)) taken.finds,
      )
