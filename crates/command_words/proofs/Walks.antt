-- clap's walk over all the words behind a verb.
use Rattle.std.proofs.Common.{◌≡◌, ℕ, Bool, true, false, ◌&&◌, ◌||◌, ◌==◌, List, [], ◌∷◌, ◌++◌, map, length, arith, Option, Some, None, is_some, refl, sym, ◌∙◌, ap, subst, codes}
use Rattle.std.specs.Prelude.{if◌then◌else◌, nat_le, nat_lt, option_and_then}
use Rattle.std.specs.List.{list_all}
use Rattle.std.specs.Str.Parse.{digits_value}
use Rattle.std.proofs.lemmas.Bool.Decides.{nat_tests}
use Rattle.std.specs.Option.{option_map_or}
use Rattle.std.proofs.lemmas.Bool.{and_parts, false≢true}
use Rattle.clap.specs.Walk.{Held, Row, Rule, Step, Text, Waiting, Walk, after_step, has_row, idle, is_pending, next, option, option_word, plain_word, positional_held, pushed, settled, settled_rows, to_positional, trailing, used, used_by_id, value, walked}
use Rattle.clap.specs.Faults.{positional_fault, settle_fault, step_fault, stray_fault, turn_fault, use_fault}
use Rattle.clap.specs.Kinds.{Kinds, or_else}
use Rattle.clap.specs.declared.error.kind.ErrorKind.{ErrorKind}
use Rattle.command_words.specs.Asking.{Finds, id_of, operand_id, value_of}
use Rattle.m2_base.specs.Lists.{Each}
use Rattle.command_words.specs.Parts.{Adds, Given, IsOperand, Part, Spells, an_operand, a_value, joined, marked, named, nothing, over, spaced, with_part, with_parts}
use Rattle.m2_base.specs.Letters.{is_digit}
use Rattle.command_words.specs.Numerals.{is_numeral}
use Rattle.command_words.specs.Settings.{most, spelling, value_in}
use Rattle.command_words.specs.declared.setting.Setting.{Setting}
use Rattle.command_words.proofs.Apart.{no_hyphen}
use Rattle.command_words.proofs.Finding.{first_part, kept_parts, operand_after, operand_before, nothing_finds, nothing_found, part_operand, part_value, value_after, value_before}
use Rattle.command_words.proofs.Lookups.{by_id_name, by_id_option, by_index_one, by_index_two, how, ids_apart, is_among, operand_once, operand_rule, operand_taken, operand_used, option_empty, option_once, option_rule, option_taken, option_used, rules_for, same_self}
use Rattle.command_words.proofs.Rows.{IsFull, full_more, full_none, new_row, row_added}
use Rattle.command_words.proofs.Turns.{IsPlain, fault_in, hold, is_joined, is_mark, is_plain, is_refused, is_spaced, joined_fault, joined_met, kind_of, met_in, shape_for, spaced_fault, spaced_met, without_hyphen}

some_is : {A : Type 0} (x y : A) → Some x ≡ Some y → x ≡ y
some_is x y e = cc

none_some : {A : Type 0} (x : A) → None ≡ Some x → ⊥
none_some x e = cc

some_kind : (k : ErrorKind) (ks : Kinds) → k ∷ ks ≡ [] → ⊥
some_kind k ks e = cc

pub no_first : (a b : Kinds) → or_else a b ≡ [] → (a ≡ []) × (b ≡ [])
no_first [] b e = (refl, e)
no_first (k ∷ ks) b e = absurd (some_kind k ks e)

then_none : (a : Kinds) → or_else a [] ≡ a
then_none [] = refl
then_none (k ∷ ks) = refl

module _ (settings : List Setting) where
  abbrev pub c : List Rule
  c = rules_for settings

  abbrev pub settle : List Row → Option (Text × List Text) → Kinds
  settle rows p = settle_fault c false (hold rows p)

  abbrev pub rows_now : List Row → Option (Text × List Text) → List Row
  rows_now rows p = settled_rows c p rows

  -- the first positional, or one behind it
  abbrev pub place : Bool → ℕ
  place is_named = if is_named then 2 else 1

  abbrev pub standing : Waiting → List Row → Option (Text × List Text) → Bool → Bool → Walk
  standing waiting rows p is_named is_trailing = record { held = hold rows p; waiting = waiting; position = place is_named; is_trailing = is_trailing; stopped = None }

  -- the walk over the words passes, and ends with these rows
  unfoldable pub Ends : Walk → List Text → List Row → Type 0
  Ends w [] out = (settle_fault c false w.held ≡ []) × (settled_rows c w.held.pending w.held.rows ≡ out)
  Ends w (word ∷ rest) out = (turn_fault (shape_for settings) [] w word ≡ []) × Ends (walked c [] w word) rest out

  -- ** One turn

  abbrev pub after_word : Waiting → List Row → Option (Text × List Text) → Bool → Text → Held × Step → Walk
  after_word waiting rows p is_named word m = after_step c word (standing waiting rows p is_named false) m.0 m.1

  abbrev pub turn_in : Bool → Kinds → Held × Step → Kinds
  turn_in is_named fault m = or_else fault (step_fault (shape_for settings) (place is_named) m.0 m.1)

  -- what a turn comes to
  abbrev pub Turned : Waiting → List Row → Option (Text × List Text) → Bool → Text → List Text → List Row → Kinds → Held × Step → Type 0
  Turned waiting rows p is_named word rest out f m = (turn_in is_named f m ≡ []) × Ends (after_word waiting rows p is_named word m) rest out

  module _ (rows : List Row) (p : Option (Text × List Text)) (is_named : Bool) (word : Text) (rest : List Text) (out : List Row) (m : Held × Step) (f : Kinds) where
    module _ (met : met_in settings idle (place is_named) word rows p ≡ m) (fault : fault_in settings word rows p ≡ f) where
      idle_turn : Ends (standing idle rows p is_named false) (word ∷ rest) out → Turned idle rows p is_named word rest out f m
      unfolding Ends walked
      idle_turn e = subst (λ k. Turned idle rows p is_named word rest out k m) fault (subst (λ n. Turned idle rows p is_named word rest out (fault_in settings word rows p) n) met e)

      idle_back : Turned idle rows p is_named word rest out f m → Ends (standing idle rows p is_named false) (word ∷ rest) out
      unfolding Ends walked
      idle_back t = subst (λ k. Turned idle rows p is_named word rest out k (met_in settings idle (place is_named) word rows p)) (sym fault) (subst (λ n. Turned idle rows p is_named word rest out f n) (sym met) t)

    module _ (id : Text) (met : met_in settings (option id) (place is_named) word rows p ≡ m) (fault : fault_in settings word rows p ≡ f) where
      option_turn : Ends (standing (option id) rows p is_named false) (word ∷ rest) out → Turned (option id) rows p is_named word rest out f m
      unfolding Ends walked
      option_turn e = subst (λ k. Turned (option id) rows p is_named word rest out k m) fault (subst (λ n. Turned (option id) rows p is_named word rest out (fault_in settings word rows p) n) met e)

      option_back : Turned (option id) rows p is_named word rest out f m → Ends (standing (option id) rows p is_named false) (word ∷ rest) out
      unfolding Ends walked
      option_back t = subst (λ k. Turned (option id) rows p is_named word rest out k (met_in settings (option id) (place is_named) word rows p)) (sym fault) (subst (λ n. Turned (option id) rows p is_named word rest out f n) (sym met) t)

  -- ** What is pending

  settled_value : (s : Setting) → is_among settings s ≡ true → (rows : List Row) (v : Text) → (settle rows (Some (id_of s, v ∷ [])) ≡ use_fault false (option_rule s) (v ∷ []) rows) × (rows_now rows (Some (id_of s, v ∷ [])) ≡ used (option_rule s) (v ∷ []) rows)
  settled_value s among rows v = (
    ap (λ o. option_map_or (λ a. use_fault false a (v ∷ []) rows) o []) (by_id_option settings s among),
    ap (λ o. used_by_id o (v ∷ []) rows) (by_id_option settings s among),
  )

  settled_operand : (rows : List Row) (v : Text) → (settle rows (Some (operand_id, v ∷ [])) ≡ use_fault false operand_rule (v ∷ []) rows) × (rows_now rows (Some (operand_id, v ∷ [])) ≡ used operand_rule (v ∷ []) rows)
  settled_operand rows v = (
    ap (λ o. option_map_or (λ a. use_fault false a (v ∷ []) rows) o []) (by_id_name settings),
    ap (λ o. used_by_id o (v ∷ []) rows) (by_id_name settings),
  )

  -- an option that waits for its value
  unsettled : (s : Setting) → is_among settings s ≡ true → (rows : List Row) → settle rows (Some (id_of s, [])) ≡ [] → ⊥
  unsettled s among rows e = option_empty s rows (sym (ap (λ o. option_map_or (λ a. use_fault false a [] rows) o []) (by_id_option settings s among)) ∙ e)

  value_row : (s : Setting) (v : Text) (rows : List Row) → has_row (id_of s) rows ≡ false → used (option_rule s) (v ∷ []) rows ≡ rows ++ new_row (id_of s) how v ∷ []
  value_row s v rows once = option_used v rows s ∙ row_added (id_of s) how v rows once

  operand_row : (v : Text) (rows : List Row) → has_row operand_id rows ≡ false → used operand_rule (v ∷ []) rows ≡ rows ++ new_row operand_id how v ∷ []
  operand_row v rows once = operand_used v rows ∙ row_added operand_id how v rows once

  -- ** A positional

  abbrev behind_first : Held → Bool → Walk
  behind_first h is_trailing = record { held = h; waiting = idle; position = 2; is_trailing = is_trailing; stopped = None }

  module _ (rows : List Row) (p : Option (Text × List Text)) where
    positional_settles : positional_fault c false operand_rule (hold rows p) ≡ settle rows p
    unfolding operand_rule
    positional_settles = go (is_pending operand_rule p)
      where
        go : (b : Bool) → (if b && false then [] else settle rows p) ≡ settle rows p
        go true = refl
        go false = refl

    positional_is : (word : Text) → positional_held c operand_rule word (hold rows p) ≡ hold (rows_now rows p) (Some (operand_id, word ∷ []))
    unfolding operand_rule
    positional_is word = go (is_pending operand_rule p)
      where
        go : (b : Bool) → pushed operand_id word (if b && false then hold rows p else settled c (hold rows p)) ≡ hold (rows_now rows p) (Some (operand_id, word ∷ []))
        go true = refl
        go false = refl

    first_fault : step_fault (shape_for settings) 1 (hold rows p) value ≡ settle rows p
    first_fault = ap (λ o. option_map_or (λ a. positional_fault c false a (hold rows p)) o (stray_fault (shape_for settings))) (by_index_one settings) ∙ positional_settles

    second_fault : step_fault (shape_for settings) 2 (hold rows p) value ≡ [] → ⊥
    second_fault e = some_kind _ [] (sym (ap (λ o. option_map_or (λ a. positional_fault c false a (hold rows p)) o (stray_fault (shape_for settings))) (by_index_two settings)) ∙ e)

    opened : (waiting : Waiting) (is_trailing : Bool) (word : Text)
        → to_positional c (Some operand_rule) word (standing waiting rows p false is_trailing) (hold rows p) ≡ standing idle (rows_now rows p) (Some (operand_id, word ∷ [])) true is_trailing
    unfolding operand_rule
    opened waiting is_trailing word =
        ap (λ h. behind_first h (is_trailing || false)) (positional_is word) ∙ go is_trailing
      where
        go : (b : Bool) → behind_first (hold (rows_now rows p) (Some (operand_id, word ∷ []))) (b || false) ≡ standing idle (rows_now rows p) (Some (operand_id, word ∷ [])) true b
        go true = refl
        go false = refl

    first_walk : (waiting : Waiting) (is_trailing : Bool) (word : Text)
        → after_step c word (standing waiting rows p false is_trailing) (hold rows p) value ≡ standing idle (rows_now rows p) (Some (operand_id, word ∷ [])) true is_trailing
    first_walk waiting is_trailing word = ap (λ o. to_positional c o word (standing waiting rows p false is_trailing) (hold rows p)) (by_index_one settings) ∙ opened waiting is_trailing word

  -- the value of an option that waited
  module _ (s : Setting) (among : is_among settings s ≡ true) (rows : List Row) (word : Text) where
    abbrev waited : Option Rule → Held × Step
    waited o = ((option_word o (id_of s) word (hold rows (Some (id_of s, [])))).0, next (option_word o (id_of s) word (hold rows (Some (id_of s, [])))).1)

    counted : waited (Some (option_rule s)) ≡ (hold rows (Some (id_of s, word ∷ [])), next idle)
    unfolding option_rule
    counted = ap (λ b. (hold rows (Some (id_of s, word ∷ [])), next (if nat_lt (if b then 1 else 0) 1 then option (id_of s) else idle))) (ids_apart s s ∙ same_self s)

    value_met : plain_word c (option (id_of s)) word (hold rows (Some (id_of s, []))) ≡ (hold rows (Some (id_of s, word ∷ [])), next idle)
    value_met = ap waited (by_id_option settings s among) ∙ counted

  -- ** Words that clap takes are what the definition says

  pub record Gave (rows : List Row) (words : List Text) (given : Given) : Type 0 where
    pub before : Given
    pub finds : Finds rows before
    pub adds : Adds before words given

  pub record Marked (rows : List Row) (words : List Text) (given : Given) : Type 0 where
    pub before : Given
    pub finds : Finds rows before
    pub each : Each IsOperand words
    pub once : with_parts before (map an_operand words) ≡ Some given

  part_more : (before after given : Given) (part : Part) (parts : List Part) → with_part before part ≡ Some after → with_parts after parts ≡ Some given → with_parts before (part ∷ parts) ≡ Some given
  part_more before after given part parts e h = ap (option_and_then (λ g. with_parts g parts)) e ∙ h

  pub record Sound (words : List Text) : Type 0 where
    pub free : (rows : List Row) (p : Option (Text × List Text)) (is_named : Bool) (out : List Row) → Ends (standing idle rows p is_named false) words out → (settle rows p ≡ []) × ((given : Given) → Finds out given → Gave (rows_now rows p) words given)
    pub waits : (s : Setting) → is_among settings s ≡ true → (rows : List Row) (is_named : Bool) (out : List Row) → Ends (standing (option (id_of s)) rows (Some (id_of s, [])) is_named false) words out
        → (given : Given) → Finds out given → Gave rows (spelling s ∷ words) given
    pub behind : (waiting : Waiting) (rows : List Row) (p : Option (Text × List Text)) (is_named : Bool) (out : List Row) → Ends (standing waiting rows p is_named true) words out → (settle rows p ≡ []) × ((given : Given) → Finds out given → Marked (rows_now rows p) words given)

  sound_none : Sound []
  unfolding Ends
  sound_none = record {
    free = λ rows p is_named out e. (e.0, λ given finds. record { before = given; finds = subst (λ r. Finds r given) (sym e.1) finds; adds = record { parts = []; spelled = over; once = refl } });
    waits = λ s among rows is_named out e given finds. absurd (unsettled s among rows e.0);
    behind = λ waiting rows p is_named out e. (e.0, λ given finds. record { before = given; finds = subst (λ r. Finds r given) (sym e.1) finds; each = tt; once = refl });
  }

  module _ (word : Text) (rest : List Text) (ih : Sound rest) where
    -- a name was read, and the rest follows
    named_gave : (rows : List Row) → use_fault false operand_rule (word ∷ []) rows ≡ [] → (given : Given) → Gave (used operand_rule (word ∷ []) rows) rest given → Gave rows (word ∷ rest) given
    named_gave rows free given gave =
        let once = operand_taken word rows free in
        let b = operand_before rows word once gave.before (subst (λ r. Finds r gave.before) (operand_row word rows once) gave.finds) in
        record {
          before = b.before;
          finds = b.finds;
          adds = record { parts = an_operand word ∷ gave.adds.parts; spelled = named word rest gave.adds.parts b.is gave.adds.spelled; once = part_more b.before gave.before given (an_operand word) gave.adds.parts b.part gave.adds.once };
        }

    named_marked : (rows : List Row) → use_fault false operand_rule (word ∷ []) rows ≡ [] → (given : Given) → Marked (used operand_rule (word ∷ []) rows) rest given → Marked rows (word ∷ rest) given
    named_marked rows free given gave =
        let once = operand_taken word rows free in
        let b = operand_before rows word once gave.before (subst (λ r. Finds r gave.before) (operand_row word rows once) gave.finds) in
        record { before = b.before; finds = b.finds; each = (b.is, gave.each); once = part_more b.before gave.before given (an_operand word) (map an_operand rest) b.part gave.once }

    spaced_gave : (s : Setting) (rows : List Row) → use_fault false (option_rule s) (word ∷ []) rows ≡ [] → (given : Given) → Gave (used (option_rule s) (word ∷ []) rows) rest given → Gave rows (spelling s ∷ word ∷ rest) given
    spaced_gave s rows free given gave =
        let once = option_taken word rows s free in
        let b = value_before rows s word once gave.before (subst (λ r. Finds r gave.before) (value_row s word rows once) gave.finds) in
        record {
          before = b.before;
          finds = b.finds;
          adds = record {
            parts = a_value s b.value ∷ gave.adds.parts;
            spelled = spaced s word b.value rest gave.adds.parts b.is gave.adds.spelled;
            once = part_more b.before gave.before given (a_value s b.value) gave.adds.parts b.part gave.adds.once;
          };
        }

    joined_gave : (s : Setting) (v : Text) (rows : List Row) → use_fault false (option_rule s) (v ∷ []) rows ≡ [] → (given : Given) → Gave (used (option_rule s) (v ∷ []) rows) rest given → Gave rows ((spelling s ++ 61 ∷ v) ∷ rest) given
    joined_gave s v rows free given gave =
        let once = option_taken v rows s free in
        let b = value_before rows s v once gave.before (subst (λ r. Finds r gave.before) (value_row s v rows once) gave.finds) in
        record {
          before = b.before;
          finds = b.finds;
          adds = record {
            parts = a_value s b.value ∷ gave.adds.parts;
            spelled = joined s v b.value rest gave.adds.parts b.is gave.adds.spelled;
            once = part_more b.before gave.before given (a_value s b.value) gave.adds.parts b.part gave.adds.once;
          };
        }

    -- a positional at the first place
    first_free : (rows : List Row) (p : Option (Text × List Text)) (out : List Row) → Ends (standing idle (rows_now rows p) (Some (operand_id, word ∷ [])) true false) rest out → (given : Given) → Finds out given → Gave (rows_now rows p) (word ∷ rest) given
    first_free rows p out e given finds =
        let inner = ih.free (rows_now rows p) (Some (operand_id, word ∷ [])) true out e in
        let both = settled_operand (rows_now rows p) word in
        named_gave (rows_now rows p) (sym both.0 ∙ inner.0) given (subst (λ r. Gave r rest given) both.1 (inner.1 given finds))

    first_behind : (rows : List Row) (p : Option (Text × List Text)) (out : List Row) → Ends (standing idle (rows_now rows p) (Some (operand_id, word ∷ [])) true true) rest out → (given : Given) → Finds out given → Marked (rows_now rows p) (word ∷ rest) given
    first_behind rows p out e given finds =
        let inner = ih.behind idle (rows_now rows p) (Some (operand_id, word ∷ [])) true out e in
        let both = settled_operand (rows_now rows p) word in
        named_marked (rows_now rows p) (sym both.0 ∙ inner.0) given (subst (λ r. Marked r rest given) both.1 (inner.1 given finds))

    sound_behind : (waiting : Waiting) (rows : List Row) (p : Option (Text × List Text)) (is_named : Bool) (out : List Row) → Ends (standing waiting rows p is_named true) (word ∷ rest) out
        → (settle rows p ≡ []) × ((given : Given) → Finds out given → Marked (rows_now rows p) (word ∷ rest) given)
    unfolding Ends walked
    sound_behind waiting rows p true out e = absurd (second_fault rows p e.0)
    sound_behind waiting rows p false out e = (sym (first_fault rows p) ∙ e.0, first_behind rows p out (subst (λ w. Ends w rest out) (first_walk rows p waiting true word) e.1))

    sound_plain : (rows : List Row) (p : Option (Text × List Text)) (is_named : Bool) (out : List Row) → turn_in is_named [] (hold rows p, value) ≡ [] → Ends (after_word idle rows p is_named word (hold rows p, value)) rest out
        → (settle rows p ≡ []) × ((given : Given) → Finds out given → Gave (rows_now rows p) (word ∷ rest) given)
    sound_plain rows p true out none e = absurd (second_fault rows p none)
    sound_plain rows p false out none e = (sym (first_fault rows p) ∙ none, first_free rows p out (subst (λ w. Ends w rest out) (first_walk rows p idle false word) e))

    module _ (rows : List Row) (p : Option (Text × List Text)) (is_named : Bool) (out : List Row) where
      abbrev GaveFree : Type 0
      GaveFree = (settle rows p ≡ []) × ((given : Given) → Finds out given → Gave (rows_now rows p) (word ∷ rest) given)

      free_mark : word ≡ codes "--" → Ends (standing idle rows p is_named false) (word ∷ rest) out → GaveFree
      free_mark is e =
          let turn = idle_turn rows p is_named (codes "--") rest out (hold rows p, trailing (place is_named)) [] refl refl (subst (λ w. Ends (standing idle rows p is_named false) (w ∷ rest) out) is e) in
          let inner = ih.behind idle rows p is_named out turn.1 in (
            inner.0,
            λ given finds.
                let m = inner.1 given finds in
                record { before = m.before; finds = m.finds; adds = record { parts = map an_operand rest; spelled = subst (λ w. Spells (w ∷ rest) (map an_operand rest)) (sym is) (marked rest m.each); once = m.once } },
          )

      free_spaced : (s : Setting) → is_among settings s ≡ true → word ≡ spelling s → Ends (standing idle rows p is_named false) (word ∷ rest) out → GaveFree
      free_spaced s among is e =
          let turn = idle_turn rows p is_named (spelling s) rest out (hold (rows_now rows p) (Some (id_of s, [])), next (option (id_of s))) (settle rows p) (spaced_met settings s among (place is_named) rows p idle) (spaced_fault settings s among (place is_named) rows p)
          (subst (λ w. Ends (standing idle rows p is_named false) (w ∷ rest) out) is e) in (
            sym (then_none (settle rows p)) ∙ turn.0,
            λ given finds.
                subst (λ w. Gave (rows_now rows p) (w ∷ rest) given) (sym is) (ih.waits s among (rows_now rows p) is_named out turn.1 given finds),
          )

      free_joined : (s : Setting) (v : Text) → is_among settings s ≡ true → word ≡ spelling s ++ 61 ∷ v → Ends (standing idle rows p is_named false) (word ∷ rest) out → GaveFree
      free_joined s v among is e =
          let turn = idle_turn rows p is_named (spelling s ++ 61 ∷ v) rest out (hold (used (option_rule s) (v ∷ []) (rows_now rows p)) None, next idle) (or_else (settle rows p) (use_fault false (option_rule s) (v ∷ []) (rows_now rows p)))
          (joined_met settings s among (place is_named) rows p v idle) (joined_fault settings s among (place is_named) rows p v)
          (subst (λ w. Ends (standing idle rows p is_named false) (w ∷ rest) out) is e) in
          let parts = no_first (settle rows p) (use_fault false (option_rule s) (v ∷ []) (rows_now rows p)) (sym (then_none (or_else (settle rows p) (use_fault false (option_rule s) (v ∷ []) (rows_now rows p)))) ∙ turn.0) in
          let inner = ih.free (used (option_rule s) (v ∷ []) (rows_now rows p)) None is_named out turn.1 in (
            parts.0,
            λ given finds.
                subst (λ w. Gave (rows_now rows p) (w ∷ rest) given) (sym is) (joined_gave s v (rows_now rows p) parts.1 given (inner.1 given finds)),
          )

      free_plain : IsPlain settings word → Ends (standing idle rows p is_named false) (word ∷ rest) out → GaveFree
      free_plain plain e =
          let turn = idle_turn rows p is_named word rest out (hold rows p, value) [] (plain.met idle (place is_named) rows p) (plain.fault rows p) e in
          sound_plain rows p is_named out turn.0 turn.1

      free_refused : (fault_in settings word rows p ≡ [] → ⊥) → Ends (standing idle rows p is_named false) (word ∷ rest) out → GaveFree
      unfolding Ends walked
      free_refused refused e = absurd (refused (no_first (fault_in settings word rows p) _ e.0).0)

      sound_free : Ends (standing idle rows p is_named false) (word ∷ rest) out → GaveFree
      sound_free e = elim (kind_of settings word) [
        | is_mark is ↦ free_mark is e
        | is_spaced s among is ↦ free_spaced s among is e
        | is_joined s v among is ↦ free_joined s v among is e
        | is_plain plain ↦ free_plain plain e
        | is_refused refused ↦ free_refused (refused rows p) e
      ]

    -- the word behind an option
    module _ (s : Setting) (among : is_among settings s ≡ true) (rows : List Row) (is_named : Bool) (out : List Row) (e : Ends (standing (option (id_of s)) rows (Some (id_of s, [])) is_named false) (word ∷ rest) out) (given : Given) (finds : Finds out given) where
      abbrev empty : Option (Text × List Text)
      empty = Some (id_of s, [])

      abbrev GaveBehind : Type 0
      GaveBehind = Gave rows (spelling s ∷ word ∷ rest) given

      unsettled_first : (b : Kinds) → fault_in settings word rows empty ≡ or_else (settle rows empty) b → GaveBehind
      unfolding Ends walked
      unsettled_first b is =
          let first = (no_first (fault_in settings word rows empty) _ e.0).0 in
          absurd (unsettled s among rows (no_first (settle rows empty) b (sym is ∙ first)).0)

      waits_mark : word ≡ codes "--" → GaveBehind
      waits_mark is =
          let turn = option_turn rows empty is_named (codes "--") rest out (hold rows empty, trailing (place is_named)) [] (id_of s) refl refl (subst (λ w. Ends (standing (option (id_of s)) rows empty is_named false) (w ∷ rest) out) is e) in
          absurd (unsettled s among rows (ih.behind (option (id_of s)) rows empty is_named out turn.1).0)

      waits_plain : IsPlain settings word → GaveBehind
      waits_plain plain =
          let turn = option_turn rows empty is_named word rest out (hold rows (Some (id_of s, word ∷ [])), next idle) [] (id_of s) (plain.met (option (id_of s)) (place is_named) rows empty ∙ value_met s among rows word) (plain.fault rows empty) e in
          let inner = ih.free rows (Some (id_of s, word ∷ [])) is_named out turn.1 in
          let both = settled_value s among rows word in
          spaced_gave s rows (sym both.0 ∙ inner.0) given (subst (λ r. Gave r rest given) both.1 (inner.1 given finds))

      waits_refused : (fault_in settings word rows empty ≡ [] → ⊥) → GaveBehind
      unfolding Ends walked
      waits_refused refused = absurd (refused (no_first (fault_in settings word rows empty) _ e.0).0)

      sound_waits : GaveBehind
      sound_waits = elim (kind_of settings word) [
        | is_mark is ↦ waits_mark is
        | is_spaced t among_t is ↦ unsettled_first [] (ap (λ w. fault_in settings w rows empty) is ∙ spaced_fault settings t among_t (place is_named) rows empty ∙ sym (then_none (settle rows empty)))
        | is_joined t v among_t is ↦ unsettled_first (use_fault false (option_rule t) (v ∷ []) (rows_now rows empty)) (ap (λ w. fault_in settings w rows empty) is ∙ joined_fault settings t among_t (place is_named) rows empty v)
        | is_plain plain ↦ waits_plain plain
        | is_refused refused ↦ waits_refused (refused rows empty)
      ]

  pub sound : (words : List Text) → Sound words
  sound [] = sound_none
  sound (word ∷ rest) = record {
    free = sound_free word rest (sound rest);
    waits = sound_waits word rest (sound rest);
    behind = sound_behind word rest (sound rest);
  }

  -- ** Words that the definition takes, clap takes too

  pub record Takes (w : Walk) (words : List Text) (given : Given) : Type 0 where
    pub out : List Row
    pub ends : Ends w words out
    pub finds : Finds out given

  pub record Ready (rows : List Row) (p : Option (Text × List Text)) (is_named : Bool) (g : Given) : Type 0 where
    pub settles : settle rows p ≡ []
    pub finds : Finds (rows_now rows p) g
    pub full : IsFull (rows_now rows p)
    pub first : is_named ≡ is_some g.operand

  -- its options are those of the verb
  abbrev pub IsOfVerb : Given → Type 0
  IsOfVerb given = (s : Setting) (n : ℕ) → value_of given s ≡ Some n → is_among settings s ≡ true

  hyphen_byte : (d : ℕ) → (d == 45) ≡ true → d ≡ 45
  hyphen_byte d e = grind (arith, nat_tests)

  operand_plain : (word : Text) → IsOperand word → IsPlain settings word
  operand_plain [] is = absurd (false≢true is)
  operand_plain (b ∷ bs) is = go (b == 45) refl
    where
      go : (t : Bool) → (b == 45) ≡ t → IsPlain settings (b ∷ bs)
      go false e = without_hyphen settings b bs e
      go true e = absurd (no_hyphen b bs is (hyphen_byte b e))

  numeral_of : (s : Setting) (word : Text) (n : ℕ) → value_in s word ≡ Some n → is_numeral word ≡ true
  numeral_of s word n e = go (is_numeral word) refl
    where
      go : (b : Bool) → is_numeral word ≡ b → b ≡ true
      go true is = refl
      go false is = absurd (none_some n (sym (ap (λ b. if b && nat_le 1 (digits_value 10 word) && nat_le (digits_value 10 word) (most s) then Some (digits_value 10 word) else None) is) ∙ e))

  value_plain : (s : Setting) (word : Text) (n : ℕ) → value_in s word ≡ Some n → IsPlain settings word
  value_plain s [] n e = absurd (false≢true (numeral_of s [] n e))
  value_plain s (b ∷ bs) n e = go (b == 45) refl
    where
      go : (t : Bool) → (b == 45) ≡ t → IsPlain settings (b ∷ bs)
      go false is = without_hyphen settings b bs is
      go true is =
          let digits = (and_parts (nat_le 1 (length (b ∷ bs)) && nat_le (length (b ∷ bs)) 10) (list_all is_digit (b ∷ bs)) (numeral_of s (b ∷ bs) n e)).1 in
          absurd (false≢true (subst (λ x. list_all is_digit (x ∷ bs) ≡ true) (hyphen_byte b is) digits))

  -- ready behind an option's value
  module _ (s : Setting) (among : is_among settings s ≡ true) (rows : List Row) (is_named : Bool) (g after : Given) (v : Text) (n : ℕ) (finds : Finds rows g) (full : IsFull rows) (first : is_named ≡ is_some g.operand) (is : value_in s v ≡ Some n)
      (part : with_part g (a_value s n) ≡ Some after) where
    once_more : (has_row (id_of s) rows ≡ false) × Finds (rows ++ new_row (id_of s) how v ∷ []) after
    once_more = value_after rows s v full g after n finds is part

    value_used : use_fault false (option_rule s) (v ∷ []) rows ≡ []
    value_used = option_once v rows s once_more.0

    still_first : is_named ≡ is_some after.operand
    still_first = first ∙ ap is_some (sym (part_operand g after s n part))

    value_rows : used (option_rule s) (v ∷ []) rows ≡ rows ++ new_row (id_of s) how v ∷ []
    value_rows = value_row s v rows once_more.0

    ready_joined : Ready (used (option_rule s) (v ∷ []) rows) None is_named after
    ready_joined = record {
      settles = refl;
      finds = subst (λ r. Finds r after) (sym value_rows) once_more.1;
      full = subst IsFull (sym value_rows) (full_more (id_of s) how v rows full);
      first = still_first;
    }

    ready_spaced : Ready rows (Some (id_of s, v ∷ [])) is_named after
    ready_spaced =
        let both = settled_value s among rows v in
        record {
          settles = both.0 ∙ value_used;
          finds = subst (λ r. Finds r after) (sym (both.1 ∙ value_rows)) once_more.1;
          full = subst IsFull (sym (both.1 ∙ value_rows)) (full_more (id_of s) how v rows full);
          first = still_first;
        }

  -- ready behind a name
  pub record ReadyOperand (rows : List Row) (is_named : Bool) (v : Text) (after : Given) : Type 0 where
    pub unnamed : is_named ≡ false
    pub ready : Ready rows (Some (operand_id, v ∷ [])) true after

  ready_operand : (rows : List Row) (is_named : Bool) (g after : Given) (v : Text) → Finds rows g → IsFull rows → is_named ≡ is_some g.operand → IsOperand v → with_part g (an_operand v) ≡ Some after → ReadyOperand rows is_named v after
  ready_operand rows is_named g after v finds full first is part =
      let all = operand_after rows v full g after finds is part in
      let both = settled_operand rows v in
      let more : rows_now rows (Some (operand_id, v ∷ [])) ≡ rows ++ new_row operand_id how v ∷ [] = both.1 ∙ operand_row v rows all.0 in
      record {
        unnamed = first ∙ ap is_some all.2;
        ready = record {
          settles = both.0 ∙ operand_once v rows all.0;
          finds = subst (λ r. Finds r after) (sym more) all.1;
          full = subst IsFull (sym more) (full_more operand_id how v rows full);
          first = sym all.3;
        };
      }

  takes_none : (waiting : Waiting) (rows : List Row) (p : Option (Text × List Text)) (is_named is_trailing : Bool) (g given : Given) → Ready rows p is_named g → Some g ≡ Some given → Takes (standing waiting rows p is_named is_trailing) [] given
  unfolding Ends
  takes_none waiting rows p is_named is_trailing g given ready e =
      record { out = rows_now rows p; ends = (ready.settles, refl); finds = subst (Finds (rows_now rows p)) (some_is g given e) ready.finds }

  take_behind : (word : Text) (rest : List Text) (waiting : Waiting) (rows : List Row) (p : Option (Text × List Text)) (given : Given) → settle rows p ≡ [] → (b : Bool) → b ≡ false
      → Takes (standing idle (rows_now rows p) (Some (operand_id, word ∷ [])) true true) rest given → Takes (standing waiting rows p b true) (word ∷ rest) given
  unfolding Ends walked
  take_behind word rest waiting rows p given settles true is takes = absurd (false≢true (sym is))
  take_behind word rest waiting rows p given settles false is takes = record {
    out = takes.out;
    ends = (first_fault rows p ∙ settles, subst (λ w. Ends w rest takes.out) (sym (first_walk rows p waiting true word)) takes.ends);
    finds = takes.finds;
  }

  complete_behind : (words : List Text) → Each IsOperand words → (waiting : Waiting) (rows : List Row) (p : Option (Text × List Text)) (is_named : Bool) (g given : Given) → Ready rows p is_named g → with_parts g (map an_operand words) ≡ Some given
      → Takes (standing waiting rows p is_named true) words given
  complete_behind [] each waiting rows p is_named g given ready e = takes_none waiting rows p is_named true g given ready e
  complete_behind (word ∷ rest) each waiting rows p is_named g given ready e =
      let first = first_part g (an_operand word) (map an_operand rest) given e in
      let behind_name = ready_operand (rows_now rows p) is_named g first.after word ready.finds ready.full ready.first each.0 first.part in
      take_behind word rest waiting rows p given ready.settles is_named behind_name.unnamed (complete_behind rest each.1 idle (rows_now rows p) (Some (operand_id, word ∷ [])) true first.after given behind_name.ready first.rest)

  module _ (rows : List Row) (p : Option (Text × List Text)) (is_named : Bool) (rest : List Text) (given : Given) (settles : settle rows p ≡ []) where
    take_operand : (word : Text) → IsOperand word → is_named ≡ false → Takes (standing idle (rows_now rows p) (Some (operand_id, word ∷ [])) true false) rest given → Takes (standing idle rows p is_named false) (word ∷ rest) given
    take_operand word is unnamed takes =
        let plain = operand_plain word is in
        subst (λ b. Takes (standing idle rows p b false) (word ∷ rest) given) (sym unnamed) (record {
          out = takes.out;
          ends = idle_back rows p false word rest takes.out (hold rows p, value) [] (plain.met idle 1 rows p) (plain.fault rows p)
              (first_fault rows p ∙ settles, subst (λ w. Ends w rest takes.out) (sym (first_walk rows p idle false word)) takes.ends);
          finds = takes.finds;
        })

    take_joined : (s : Setting) → is_among settings s ≡ true → (v : Text) → use_fault false (option_rule s) (v ∷ []) (rows_now rows p) ≡ [] → Takes (standing idle (used (option_rule s) (v ∷ []) (rows_now rows p)) None is_named false) rest given
        → Takes (standing idle rows p is_named false) ((spelling s ++ 61 ∷ v) ∷ rest) given
    take_joined s among v free takes = record {
      out = takes.out;
      ends = idle_back rows p is_named (spelling s ++ 61 ∷ v) rest takes.out (hold (used (option_rule s) (v ∷ []) (rows_now rows p)) None, next idle) (or_else (settle rows p) (use_fault false (option_rule s) (v ∷ []) (rows_now rows p)))
          (joined_met settings s among (place is_named) rows p v idle) (joined_fault settings s among (place is_named) rows p v)
          (then_none (or_else (settle rows p) (use_fault false (option_rule s) (v ∷ []) (rows_now rows p))) ∙ ap (λ k. or_else k (use_fault false (option_rule s) (v ∷ []) (rows_now rows p))) settles ∙ free, takes.ends);
      finds = takes.finds;
    }

    take_spaced : (s : Setting) → is_among settings s ≡ true → (v : Text) (n : ℕ) → value_in s v ≡ Some n → Takes (standing idle (rows_now rows p) (Some (id_of s, v ∷ [])) is_named false) rest given
        → Takes (standing idle rows p is_named false) (spelling s ∷ v ∷ rest) given
    take_spaced s among v n is takes =
        let plain = value_plain s v n is in
        let behind : Ends (standing (option (id_of s)) (rows_now rows p) (Some (id_of s, [])) is_named false) (v ∷ rest) takes.out =
        option_back (rows_now rows p) (Some (id_of s, [])) is_named v rest takes.out (hold (rows_now rows p) (Some (id_of s, v ∷ [])), next idle) [] (id_of s)
        (plain.met (option (id_of s)) (place is_named) (rows_now rows p) (Some (id_of s, [])) ∙ value_met s among (rows_now rows p) v) (plain.fault (rows_now rows p) (Some (id_of s, []))) (refl, takes.ends) in
        record {
          out = takes.out;
          ends = idle_back rows p is_named (spelling s) (v ∷ rest) takes.out (hold (rows_now rows p) (Some (id_of s, [])), next (option (id_of s))) (settle rows p)
              (spaced_met settings s among (place is_named) rows p idle) (spaced_fault settings s among (place is_named) rows p) (then_none (settle rows p) ∙ settles, behind);
          finds = takes.finds;
        }

    take_mark : Takes (standing idle rows p is_named true) rest given → Takes (standing idle rows p is_named false) (codes "--" ∷ rest) given
    take_mark takes = record {
      out = takes.out;
      ends = idle_back rows p is_named (codes "--") rest takes.out (hold rows p, trailing (place is_named)) [] refl refl (refl, takes.ends);
      finds = takes.finds;
    }

  pub complete : (words : List Text) (parts : List Part) → Spells words parts → (rows : List Row) (p : Option (Text × List Text)) (is_named : Bool) (g given : Given) → Ready rows p is_named g → with_parts g parts ≡ Some given → IsOfVerb given
      → Takes (standing idle rows p is_named false) words given
  complete words parts over rows p is_named g given ready e of_verb = takes_none idle rows p is_named false g given ready e
  complete words parts (named word ws ps is spelled) rows p is_named g given ready e of_verb =
      let first = first_part g (an_operand word) ps given e in
      let behind_name = ready_operand (rows_now rows p) is_named g first.after word ready.finds ready.full ready.first is first.part in
      take_operand rows p is_named ws given ready.settles word is behind_name.unnamed (complete ws ps spelled (rows_now rows p) (Some (operand_id, word ∷ [])) true first.after given behind_name.ready first.rest of_verb)
  complete words parts (spaced s v n ws ps is spelled) rows p is_named g given ready e of_verb =
      let first = first_part g (a_value s n) ps given e in
      let among = of_verb s n (kept_parts first.after given ps s n first.rest (part_value g first.after s n first.part)) in
      take_spaced rows p is_named ws given ready.settles s among v n is
      (complete ws ps spelled (rows_now rows p) (Some (id_of s, v ∷ [])) is_named first.after given (ready_spaced s among (rows_now rows p) is_named g first.after v n ready.finds ready.full ready.first is first.part) first.rest of_verb)
  complete words parts (joined s v n ws ps is spelled) rows p is_named g given ready e of_verb =
      let first = first_part g (a_value s n) ps given e in
      let among = of_verb s n (kept_parts first.after given ps s n first.rest (part_value g first.after s n first.part)) in
      take_joined rows p is_named ws given ready.settles s among v (value_used s among (rows_now rows p) is_named g first.after v n ready.finds ready.full ready.first is first.part)
      (complete ws ps spelled (used (option_rule s) (v ∷ []) (rows_now rows p)) None is_named first.after given (ready_joined s among (rows_now rows p) is_named g first.after v n ready.finds ready.full ready.first is first.part) first.rest of_verb)
  complete words parts (marked ws each) rows p is_named g given ready e of_verb =
      take_mark rows p is_named ws given ready.settles (complete_behind ws each idle rows p is_named g given ready e)

  -- ** From no words on

  pub from_ends : (words : List Text) (out : List Row) (given : Given) → Ends (standing idle [] None false false) words out → Finds out given → Adds nothing words given
  from_ends words out given ends finds =
      let gave = ((sound words).free [] None false out ends).1 given finds in
      subst (λ g. Adds g words given) (nothing_found gave.before gave.finds) gave.adds

  pub record IsTaken (words : List Text) (given : Given) : Type 0 where
    pub out : List Row
    pub ends : Ends (standing idle [] None false false) words out
    pub finds : Finds out given

  pub to_ends : (words : List Text) (given : Given) → Adds nothing words given → IsOfVerb given → IsTaken words given
  to_ends words given adds of_verb =
      let takes = complete words adds.parts adds.spelled [] None false nothing given (record { settles = refl; finds = nothing_finds; full = full_none; first = refl }) adds.once of_verb in
      record { out = takes.out; ends = takes.ends; finds = takes.finds }
