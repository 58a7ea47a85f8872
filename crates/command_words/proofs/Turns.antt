-- What clap's walk makes of one word behind a verb.
use Rattle.std.proofs.Common.{◌≡◌, ℕ, Bool, true, false, ◌==◌, zero, suc, List, [], ◌∷◌, ◌++◌, length, get_or, Option, Some, None, refl, sym, ◌∙◌, ap, subst, codes, arith, ◌≢◌}
use Rattle.std.specs.Prelude.{drop, encode_utf8, if◌then◌else◌, option_and_then, slice_get}
use Rattle.std.specs.Option.{option_map_or}
use Rattle.std.specs.Str.{bytes_eq, chars}
use Rattle.std.proofs.lemmas.Bool.{false≢true}
use Rattle.std.proofs.lemmas.Bool.Decides.{nat_tests}
use Rattle.std.proofs.lemmas.Slice.Eq.{bytes_eq-Decides}
use Rattle.clap.specs.Lexer.{long_of, long_of_rest, name_and_value, short_of, short_of_rest, strip_byte}
use Rattle.clap.specs.Walk.{Held, Row, Rule, Step, Text, Waiting, after_flag, arg_by_long, bundle_met, bundle_step, idle, long_met, long_or_other, next, option, plain, plain_word, settled_rows, short_or_plain, subcommand_or_other, trailing, used}
use Rattle.clap.specs.Simple.{Shape, marked_built, with_leaf_noted}
use Rattle.clap.specs.Faults.{bundle_fault, bundle_step_fault, flag_word_fault, flags_fault, long_fault, other_fault, settle_fault, short_fault, use_fault}
use Rattle.clap.specs.Kinds.{Kinds, or_else}
use Rattle.clap.specs.declared.error.kind.ErrorKind.{ErrorKind}
use Rattle.clap.specs.declared.error.kind.ErrorKind.TheVariants as kind
use Rattle.clap.proofs.CutLemmas.{Lacks}
use Rattle.clap.proofs.LexerLemmas.{name_and_value-at, name_and_value-without}
use Rattle.command_words.specs.Asking.{app_for, id_of}
use Rattle.command_words.specs.Settings.{spelling}
use Rattle.command_words.specs.declared.setting.Setting.{Setting}
use Rattle.command_words.specs.declared.setting.Setting.TheVariants.{Workers, Steps, Cells}
use Rattle.command_words.proofs.Lookups.{by_long_found, by_long_option, by_short, is_among, option_rule, rules_for}

-- what a verb's command is, built
abbrev pub shape_for : List Setting → Shape
shape_for settings = record (with_leaf_noted (marked_built (app_for settings).top)) { rules = rules_for settings }

-- what is held between two words
abbrev pub hold : List Row → Option (Text × List Text) → Held
hold rows p = record { rows = rows; pending = p; skip = 0 }

abbrev pub met_in : List Setting → Waiting → ℕ → Text → List Row → Option (Text × List Text) → Held × Step
met_in settings waiting position word rows p = subcommand_or_other (rules_for settings) None waiting position word (hold rows p)

abbrev pub fault_in : List Setting → Text → List Row → Option (Text × List Text) → Kinds
fault_in settings word rows p = other_fault (shape_for settings) None word (hold rows p)

-- the word is no option
pub record IsPlain (settings : List Setting) (word : Text) : Type 0 where
  pub met : (waiting : Waiting) (position : ℕ) (rows : List Row) (p : Option (Text × List Text)) → met_in settings waiting position word rows p ≡ plain_word (rules_for settings) waiting word (hold rows p)
  pub fault : (rows : List Row) (p : Option (Text × List Text)) → fault_in settings word rows p ≡ []

-- clap refuses it
abbrev pub IsRefused : List Setting → Text → Type 0
IsRefused settings word = (rows : List Row) (p : Option (Text × List Text)) → fault_in settings word rows p ≡ [] → ⊥

pub data WordKind (settings : List Setting) (word : Text) : Type 0 where
  is_mark : word ≡ codes "--" → WordKind settings word
  is_spaced : (s : Setting) → is_among settings s ≡ true → word ≡ spelling s → WordKind settings word
  is_joined : (s : Setting) (v : Text) → is_among settings s ≡ true → word ≡ spelling s ++ 61 ∷ v → WordKind settings word
  is_plain : IsPlain settings word → WordKind settings word
  is_refused : IsRefused settings word → WordKind settings word

some_kind : (k : ErrorKind) (ks : Kinds) → k ∷ ks ≡ [] → ⊥
some_kind k ks e = cc

-- ** Options

spelled : (s : Setting) → spelling s ≡ 45 ∷ 45 ∷ id_of s
spelled Workers = refl
spelled Steps = refl
spelled Cells = refl

module _ (settings : List Setting) (word : Text) (unmarked : bytes_eq word (45 ∷ 45 ∷ []) ≡ false) (rows : List Row) (p : Option (Text × List Text)) where
  abbrev held : Held
  held = hold rows p

  met_by : (o : Option (Text × Option Text)) → long_of word ≡ o → (waiting : Waiting) (position : ℕ) → met_in settings waiting position word rows p ≡ long_or_other (rules_for settings) waiting word o held
  met_by o long waiting position =
      ap (λ b. if b then (held, trailing position) else long_or_other (rules_for settings) waiting word (long_of word) held) unmarked
      ∙ ap (λ x. long_or_other (rules_for settings) waiting word x held) long

  fault_by : (o : Option (Text × Option Text)) → long_of word ≡ o → fault_in settings word rows p ≡ flag_word_fault (rules_for settings) false o word held
  fault_by o long =
      ap (λ b. if b then [] else flag_word_fault (rules_for settings) false (long_of word) word held) unmarked
      ∙ ap (λ x. flag_word_fault (rules_for settings) false x word held) long

  module _ (name : Text) (v : Option Text) (long : long_of word ≡ Some (name, v)) (a : Option Rule) (found : arg_by_long (rules_for settings) name ≡ a) where
    long_met_by : (waiting : Waiting) (position : ℕ)
        → met_in settings waiting position word rows p ≡ after_flag (rules_for settings) waiting word (long_met (rules_for settings) a v held).0 (long_met (rules_for settings) a v held).1
    long_met_by waiting position = met_by (Some (name, v)) long waiting position
        ∙ ap (λ o. after_flag (rules_for settings) waiting word (long_met (rules_for settings) o v held).0 (long_met (rules_for settings) o v held).1) found

    long_fault_by : fault_in settings word rows p ≡ long_fault (rules_for settings) false a v held
    long_fault_by = fault_by (Some (name, v)) long ∙ ap (λ o. long_fault (rules_for settings) false o v held) found

  plain_met_by : long_of word ≡ None → short_of word ≡ None → (waiting : Waiting) (position : ℕ) → met_in settings waiting position word rows p ≡ plain_word (rules_for settings) waiting word held
  plain_met_by long short waiting position = met_by None long waiting position ∙ ap (λ o. short_or_plain (rules_for settings) waiting word o held) short

  plain_fault_by : long_of word ≡ None → short_of word ≡ None → fault_in settings word rows p ≡ []
  plain_fault_by long short = fault_by None long ∙ ap (λ o. option_map_or (λ flags. bundle_fault (rules_for settings) false flags held) o []) short

long_spaced : (t : Setting) → long_of (spelling t) ≡ Some (id_of t, None)
long_spaced Workers = refl
long_spaced Steps = refl
long_spaced Cells = refl

long_joined : (t : Setting) (v : Text) → long_of (spelling t ++ 61 ∷ v) ≡ Some (id_of t, Some v)
long_joined Workers v = refl
long_joined Steps v = refl
long_joined Cells v = refl

no_mark_spaced : (t : Setting) → bytes_eq (spelling t) (45 ∷ 45 ∷ []) ≡ false
no_mark_spaced Workers = refl
no_mark_spaced Steps = refl
no_mark_spaced Cells = refl

no_mark_joined : (t : Setting) (v : Text) → bytes_eq (spelling t ++ 61 ∷ v) (45 ∷ 45 ∷ []) ≡ false
no_mark_joined Workers v = refl
no_mark_joined Steps v = refl
no_mark_joined Cells v = refl

module _ (settings : List Setting) (s : Setting) (among : is_among settings s ≡ true) (position : ℕ) (rows : List Row) (p : Option (Text × List Text)) where
  abbrev rule_found : arg_by_long (rules_for settings) (id_of s) ≡ Some (option_rule s)
  rule_found = by_long_option settings s among

  pub spaced_met : (waiting : Waiting) → met_in settings waiting position (spelling s) rows p ≡ (hold (settled_rows (rules_for settings) p rows) (Some (id_of s, [])), next (option (id_of s)))
  unfolding option_rule
  spaced_met waiting = long_met_by settings (spelling s) (no_mark_spaced s) rows p (id_of s) None (long_spaced s) (Some (option_rule s)) rule_found waiting position

  pub spaced_fault : fault_in settings (spelling s) rows p ≡ settle_fault (rules_for settings) false (hold rows p)
  unfolding option_rule
  spaced_fault = long_fault_by settings (spelling s) (no_mark_spaced s) rows p (id_of s) None (long_spaced s) (Some (option_rule s)) rule_found

  pub joined_met : (v : Text) (waiting : Waiting) → met_in settings waiting position (spelling s ++ 61 ∷ v) rows p ≡ (hold (used (option_rule s) (v ∷ []) (settled_rows (rules_for settings) p rows)) None, next idle)
  unfolding option_rule
  joined_met v waiting = long_met_by settings (spelling s ++ 61 ∷ v) (no_mark_joined s v) rows p (id_of s) (Some v) (long_joined s v) (Some (option_rule s)) rule_found waiting position

  pub joined_fault : (v : Text) → fault_in settings (spelling s ++ 61 ∷ v) rows p
      ≡ or_else (settle_fault (rules_for settings) false (hold rows p)) (use_fault false (option_rule s) (v ∷ []) (settled_rows (rules_for settings) p rows))
  unfolding option_rule
  joined_fault v = long_fault_by settings (spelling s ++ 61 ∷ v) (no_mark_joined s v) rows p (id_of s) (Some v) (long_joined s v) (Some (option_rule s)) rule_found

-- ** A long option is one of the verb's, or clap refuses it

-- a text with no `=`, or one that is cut at the first
data Cut (text : Text) : Type 0 where
  whole : Lacks 61 text → Cut text
  parts : (name v : Text) → text ≡ name ++ 61 ∷ v → Lacks 61 name → Cut text

lacks_more : (x : ℕ) (xs : Text) → x ≢ 61 → Lacks 61 xs → Lacks 61 (x ∷ xs)
lacks_more x xs ne h zero lt = ne
lacks_more x xs ne h (suc i) lt = h i (omega arith)

cut : (text : Text) → Cut text
cut [] = whole (λ i lt. absurd (omega arith))
cut (x ∷ xs) = go (x == 61) refl (cut xs)
  where
    go : (b : Bool) → (x == 61) ≡ b → Cut xs → Cut (x ∷ xs)
    go true e h =
        let is : x ≡ 61 = grind (arith, nat_tests) in
        parts [] xs (ap (λ y. y ∷ xs) is) (λ i lt. absurd (omega arith))
    go false e (whole lacks) =
        let ne : x ≢ 61 = grind (arith, nat_tests) in
        whole (lacks_more x xs ne lacks)
    go false e (parts name v is lacks) =
        let ne : x ≢ 61 = grind (arith, nat_tests) in
        parts (x ∷ name) v (ap (λ y. x ∷ y) is) (lacks_more x name ne lacks)

module _ (settings : List Setting) where
  module _ (x : ℕ) (xs : Text) where
    -- the name before any `=` finds nothing
    long_refused : (name : Text) (v : Option Text) → name_and_value (x ∷ xs) ≡ (name, v) → arg_by_long (rules_for settings) name ≡ None → IsRefused settings (45 ∷ 45 ∷ x ∷ xs)
    long_refused name v cut none rows p e =
        some_kind kind.UnknownArgument [] (sym (long_fault_by settings (45 ∷ 45 ∷ x ∷ xs) refl rows p name v (ap (λ q. Some q) cut) None none) ∙ e)

    long_kind : Cut (x ∷ xs) → WordKind settings (45 ∷ 45 ∷ x ∷ xs)
    long_kind (whole lacks) = go (arg_by_long (rules_for settings) (x ∷ xs)) refl
      where
        go : (o : Option Rule) → arg_by_long (rules_for settings) (x ∷ xs) ≡ o → WordKind settings (45 ∷ 45 ∷ x ∷ xs)
        go None e = is_refused (long_refused (x ∷ xs) None (name_and_value-without (x ∷ xs) lacks) e)
        go (Some a) e =
            let found = by_long_found settings (x ∷ xs) a e in
            is_spaced found.setting found.among (ap (λ t. 45 ∷ 45 ∷ t) found.named ∙ sym (spelled found.setting))
    long_kind (parts name v is lacks) = go (arg_by_long (rules_for settings) name) refl
      where
        go : (o : Option Rule) → arg_by_long (rules_for settings) name ≡ o → WordKind settings (45 ∷ 45 ∷ x ∷ xs)
        go None e = is_refused (long_refused name (Some v) (ap name_and_value is ∙ name_and_value-at name v lacks) e)
        go (Some a) e =
            let found = by_long_found settings name a e in
            is_joined found.setting v found.among (ap (λ t. 45 ∷ 45 ∷ t) is ∙ ap (λ t. 45 ∷ 45 ∷ (t ++ 61 ∷ v)) found.named ∙ ap (λ t. t ++ 61 ∷ v) (sym (spelled found.setting)))

  -- ** One hyphen: there are no short options

  hyphen_byte : (d : ℕ) → (d == 45) ≡ true → d ≡ 45
  hyphen_byte d e = grind (arith, nat_tests)

  module _ (d : ℕ) (ds : Text) (e : (d == 45) ≡ false) where
    no_mark : bytes_eq (45 ∷ d ∷ ds) (45 ∷ 45 ∷ []) ≡ false
    no_mark = go (bytes_eq (45 ∷ d ∷ ds) (45 ∷ 45 ∷ [])) refl
      where
        go : (b : Bool) → bytes_eq (45 ∷ d ∷ ds) (45 ∷ 45 ∷ []) ≡ b → b ≡ false
        go false is = refl
        go true is =
            let same : 45 ∷ d ∷ ds ≡ 45 ∷ 45 ∷ [] = (bytes_eq-Decides (45 ∷ d ∷ ds) (45 ∷ 45 ∷ [])).0 is in
            let hyphen : d ≡ 45 = ap (λ t. get_or t 1 0) same in
            absurd (false≢true (sym e ∙ ap (λ x. x == 45) hyphen))

    -- what the bundle comes to, by its first character
    abbrev bundled : Option ℕ → Waiting → List Row → Option (Text × List Text) → Held × Step
    bundled o waiting rows p =
        let b = bundle_step (rules_for settings) o (d ∷ ds) 0 plain (hold rows p) (bundle_met (rules_for settings) (length ds)) in
        after_flag (rules_for settings) waiting (45 ∷ d ∷ ds) b.0 b.1

    no_long : long_of (45 ∷ d ∷ ds) ≡ None
    no_long = ap (λ b. option_and_then long_of_rest (if b then Some ds else None)) e

    is_short : short_of (45 ∷ d ∷ ds) ≡ Some (d ∷ ds)
    is_short = ap (λ b. if b then None else Some (d ∷ ds)) e

    short_fault_is : (rows : List Row) (p : Option (Text × List Text))
        → fault_in settings (45 ∷ d ∷ ds) rows p ≡ bundle_step_fault (rules_for settings) false (slice_get (chars (d ∷ ds)) 0) (d ∷ ds) 0 (hold rows p) (flags_fault (rules_for settings) false (length ds))
    unfolding flags_fault
    short_fault_is rows p = fault_by settings (45 ∷ d ∷ ds) no_mark rows p None no_long ∙ ap (λ o. option_map_or (λ flags. bundle_fault (rules_for settings) false flags (hold rows p)) o []) is_short

    short_met_is : (waiting : Waiting) (position : ℕ) (rows : List Row) (p : Option (Text × List Text)) → slice_get (chars (d ∷ ds)) 0 ≡ None
        → met_in settings waiting position (45 ∷ d ∷ ds) rows p ≡ plain_word (rules_for settings) waiting (45 ∷ d ∷ ds) (hold rows p)
    unfolding bundle_met
    short_met_is waiting position rows p none =
        met_by settings (45 ∷ d ∷ ds) no_mark rows p None no_long waiting position
        ∙ ap (λ o. short_or_plain (rules_for settings) waiting (45 ∷ d ∷ ds) o (hold rows p)) is_short
        ∙ ap (λ o. bundled o waiting rows p) none

    abbrev step : Option ℕ → List Row → Option (Text × List Text) → Kinds
    step o rows p = bundle_step_fault (rules_for settings) false o (d ∷ ds) 0 (hold rows p) (flags_fault (rules_for settings) false (length ds))

    short_kind : WordKind settings (45 ∷ d ∷ ds)
    short_kind = go (slice_get (chars (d ∷ ds)) 0) refl
      where
        go : (o : Option ℕ) → slice_get (chars (d ∷ ds)) 0 ≡ o → WordKind settings (45 ∷ d ∷ ds)
        go None is = is_plain (record {
          met = λ waiting position rows p. short_met_is waiting position rows p is;
          fault = λ rows p. short_fault_is rows p ∙ ap (λ o. step o rows p) is;
        })
        go (Some y) is = is_refused (λ rows p none.
            let refused : step (Some y) rows p ≡ kind.UnknownArgument ∷ [] =
            ap (λ o. short_fault (rules_for settings) false o (drop (length (encode_utf8 y)) (d ∷ ds)) (hold rows p) (flags_fault (rules_for settings) false (length ds) (drop (length (encode_utf8 y)) (d ∷ ds)) 0)) (by_short settings y) in
            some_kind kind.UnknownArgument [] (sym (short_fault_is rows p ∙ ap (λ o. step o rows p) is ∙ refused) ∙ none))

  -- ** All words

  no_hyphen_mark : (b : ℕ) (bs : Text) → (b == 45) ≡ false → bytes_eq (b ∷ bs) (45 ∷ 45 ∷ []) ≡ false
  no_hyphen_mark b bs e = go (bytes_eq (b ∷ bs) (45 ∷ 45 ∷ [])) refl
    where
      go : (t : Bool) → bytes_eq (b ∷ bs) (45 ∷ 45 ∷ []) ≡ t → t ≡ false
      go false is = refl
      go true is =
          let same : b ∷ bs ≡ 45 ∷ 45 ∷ [] = (bytes_eq-Decides (b ∷ bs) (45 ∷ 45 ∷ [])).0 is in
          let hyphen : b ≡ 45 = ap (λ t. get_or t 0 0) same in
          absurd (false≢true (sym e ∙ ap (λ x. x == 45) hyphen))

  pub without_hyphen : (b : ℕ) (bs : Text) → (b == 45) ≡ false → IsPlain settings (b ∷ bs)
  without_hyphen b bs e = record {
    met = λ waiting position rows p. plain_met_by settings (b ∷ bs) (no_hyphen_mark b bs e) rows p no_long no_short waiting position;
    fault = λ rows p. plain_fault_by settings (b ∷ bs) (no_hyphen_mark b bs e) rows p no_long no_short;
  }
    where
      no_long : long_of (b ∷ bs) ≡ None
      no_long = ap (λ t. option_and_then long_of_rest (option_and_then (strip_byte 45) (if t then Some bs else None))) e

      no_short : short_of (b ∷ bs) ≡ None
      no_short = ap (λ t. option_and_then short_of_rest (if t then Some bs else None)) e

  two_hyphens : (ds : Text) → WordKind settings (45 ∷ 45 ∷ ds)
  two_hyphens [] = is_mark refl
  two_hyphens (x ∷ xs) = long_kind x xs (cut (x ∷ xs))

  one_hyphen : (bs : Text) → WordKind settings (45 ∷ bs)
  one_hyphen [] = is_plain (record { met = λ waiting position rows p. refl; fault = λ rows p. refl })
  one_hyphen (d ∷ ds) = go (d == 45) refl
    where
      go : (b : Bool) → (d == 45) ≡ b → WordKind settings (45 ∷ d ∷ ds)
      go true e = subst (λ x. WordKind settings (45 ∷ x ∷ ds)) (sym (hyphen_byte d e)) (two_hyphens ds)
      go false e = short_kind d ds e

  pub kind_of : (word : Text) → WordKind settings word
  kind_of [] = is_plain (record { met = λ waiting position rows p. refl; fault = λ rows p. refl })
  kind_of (b ∷ bs) = go (b == 45) refl
    where
      go : (t : Bool) → (b == 45) ≡ t → WordKind settings (b ∷ bs)
      go true e = subst (λ x. WordKind settings (x ∷ bs)) (sym (hyphen_byte b e)) (one_hyphen bs)
      go false e = is_plain (without_hyphen b bs e)
