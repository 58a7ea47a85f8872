-- Where no row that a constant expression uses has a part in error, the expression is in error only with a diagnostic, and without
-- one there is a constant: by induction on the syntax.
use Rattle.std.specs.Prelude.{◌≡◌, ◌≢◌, ℕ, false, List, [], ◌∷◌, ◌++◌, Option, Some, None, nat_lt}
use Rattle.std.proofs.Common.{◌∙◌, subst, sym}
use Rattle.std.proofs.lemmas.List.{append-nil, append_cancel_left}
use Rattle.m2_base.specs.Gives.{Adds, Gives, and_then, gives}
use Rattle.m2_base.specs.Lists.{Each}
use Rattle.m2_base.specs.Standard.{bitset, is_standard}
use Rattle.m2_base.specs.Statics.Builtins.{builtin_of}
use Rattle.m2_base.specs.Statics.Constants.{Argument, arguments_in, builtin_call, call_of, constant_of, constant_or_refused, designator_in, element_in, elements_in, field_operand, form_in, in_constant, indices_in, many_in, name_operand, next_in, no_constant, operand_in, selector_in, selectors_in, spoilt_by, value_argument}
use Rattle.m2_base.specs.Statics.Contexts.{Context}
use Rattle.m2_base.specs.Statics.Lookup.{Entry, entry_in, first_entry}
use Rattle.m2_base.specs.Statics.Functions.{abs_of, cap_of, chr_of, max_of, min_of, odd_of, ord_of, size_value, val_of}
use Rattle.m2_base.specs.Statics.NamedOperands.{operand_of_use}
use Rattle.m2_base.specs.Statics.Operations.{apply_one}
use Rattle.m2_base.specs.Statics.Sets.{no_elements, set_base}
use Rattle.m2_base.specs.Statics.Types.{is_broken}
use Rattle.m2_base.specs.Statics.Uses.{bound_or, bound_outside, stands_later, use_by_item, use_in_item, use_of}
use Rattle.m2_base.specs.Trees.{Designator, Expr, ExprForm, Exprs, Label, Labels, Next, Nexts, Selector, Selectors, call_form, char_form, deref_selector, designator, designator_at, expr, expr_at, field_selector, index_selector, many_form, more_exprs, more_labels, more_nexts, more_selectors, name_form, next, no_exprs, no_labels, no_nexts, no_selectors, number_form, one_form, one_label, range_label, set_form, string_form, typed_set_form}
use Rattle.m2_base.specs.declared.builtins.Builtin.TheVariants.{Abs, Cap, Chr, Dec, Dispose, Excl, Halt, High, Inc, Incl, Max, Min, New, Odd, Ord, Size, Val}
use Rattle.m2_base.specs.declared.builtins.Builtin.{Builtin}
use Rattle.m2_base.specs.declared.notes.Notes.{Notes}
use Rattle.m2_base.specs.declared.operands.Operand.{Operand}
use Rattle.m2_base.specs.declared.operands.Operand.TheVariants.{Constant, InError, ModuleName, StandardProcedure, StringConstant}
use Rattle.m2_base.specs.declared.rows.Place.{Place}
use Rattle.m2_base.specs.declared.sites.Named.{Named}
use Rattle.m2_base.specs.declared.trees.Ident.{Ident}
use Rattle.m2_base.specs.Tables.{lookup}
use Rattle.std.specs.Prelude.{drop}
use Rattle.const_eval.specs.Causes.{IsCaused, IsWholeOperand, IsWholeUse}
use Rattle.const_eval.specs.Standard.{HasStandardRows}
use Rattle.const_eval.proofs.Spoilt.{UnlessSpoilt, answered, by_test, given, in_turn, noted, weaker}
use Rattle.const_eval.proofs.Standard.{bitset_base, bitset_whole, character_whole, standard_used, whole_whole}
use Rattle.const_eval.proofs.WholeConstants.{IsSound, abs-sound, apply_one-sound, cap-sound, chr-sound, element_of-sound, max-sound, min-sound, no_elements-sound, odd-sound, operate-sound, ord-sound, selected-whole, set_type-whole, size-sound, sound_whole, spoilt-whole, val-sound, value-sound, with_elements-sound}

module _ (c : Context) (there : HasStandardRows c) where
  abbrev Whole : Gives Operand → Type 0
  Whole g = UnlessSpoilt c.scene (IsWholeOperand c.scene) g

  abbrev Sound : Gives Operand → Type 0
  Sound g = UnlessSpoilt c.scene (IsSound c.scene) g

  as_whole : (g : Gives Operand) → Sound g → Whole g
  as_whole g h = weaker (sound_whole c there) h

  -- ---- names

  -- an entry that a use is bound to stands for what has no part in error
  abbrev IsWholeEntry : Option Entry → Type 0
  IsWholeEntry e = IsWholeOperand c.scene (in_constant (operand_of_use c.scene e))

  bound-whole : (code name at : ℕ) (e : Option Entry) → UnlessSpoilt c.scene IsWholeEntry (bound_or c code name at e)
  bound-whole code name at None = noted
  bound-whole code name at (Some e) = answered (λ w. w)

  outside-whole : (name at : ℕ) (e : Option Entry) → UnlessSpoilt c.scene IsWholeEntry (bound_outside c name at e)
  outside-whole name at None = noted
  outside-whole name at (Some e) = by_test (stands_later c at e) (λ later. record { holds = λ none w. absurd cc }) (λ earlier. answered (λ w. w))

  in_item-whole : (item name at : ℕ) (n : Option Named) → UnlessSpoilt c.scene IsWholeEntry (use_in_item c item name at n)
  in_item-whole item name at (Some n) = by_test (nat_lt n.item item) (λ e. bound-whole _ name at (entry_in c.scene.tables c.scene.block.scope name)) (λ e. noted)
  in_item-whole item name at None = outside-whole name at (lookup c.scene.tables (drop 1 c.scene.block.chain) name)

  by_item-whole : (name at : ℕ) (item : Option ℕ) → UnlessSpoilt c.scene IsWholeEntry (use_by_item c name at item)
  by_item-whole name at (Some item) = in_item-whole item name at (first_entry c.layout name)
  by_item-whole name at None = bound-whole _ name at (lookup c.scene.tables c.scene.block.chain name)

  use-whole : (within : Option ℕ) (name at : ℕ) → UnlessSpoilt c.scene IsWholeEntry (use_of c within name at)
  use-whole (Some s) name at = bound-whole _ name at (entry_in c.scene.tables s name)
  use-whole None name at = by_test (is_standard name) (λ e. given (standard_used c there name e)) (λ e. by_item-whole name at c.item)

  name-whole : (within : Option ℕ) (i : Ident) → Whole (name_operand c within i)
  name-whole within i = in_turn (use-whole within i.name i.at) (λ e h. given h)

  field-whole : (at : ℕ) (o : Operand) (i : Ident) → IsWholeOperand c.scene o → Whole (field_operand c at o i)
  field-whole at (ModuleName s) i h = name-whole (Some s) i
  field-whole at o i h = selected-whole c there at o h

  -- ---- calls

  abbrev AreWhole : List Argument → Type 0
  AreWhole args = Each (λ a. IsWholeOperand c.scene a.operand) args

  no_constant-whole : (args : List Argument) → AreWhole args → IsWholeOperand c.scene (no_constant args)
  no_constant-whole [] h = tt
  no_constant-whole (a ∷ args) h = spoilt-whole c there a.operand (no_constant args) h.0 (no_constant-whole args h.1)

  -- one more argument
  with_argument : (e : Expr) (o : Operand) (args : List Argument) → IsWholeOperand c.scene o → AreWhole args → UnlessSpoilt c.scene AreWhole (gives (record { at = expr_at e; operand = o } ∷ args))
  with_argument e o args h k = given (h, k)

  -- a function of a value
  function-whole : (a : Argument) (rule : Operand → Gives Operand) → IsWholeOperand c.scene a.operand → ((o : Operand) → IsSound c.scene o → Sound (rule o)) → Whole (and_then (value_argument c a) rule)
  function-whole a rule h k = as_whole (and_then (value_argument c a) rule) (in_turn (value-sound c there a.at a.operand h) k)

  builtin-whole : (at : ℕ) (f : Builtin) (args : List Argument) → AreWhole args → Whole (builtin_call c at f args)
  builtin-whole at Abs (a ∷ []) h = function-whole a (abs_of c a.at) h.0 (abs-sound c there a.at)
  builtin-whole at Cap (a ∷ []) h = function-whole a (cap_of c a.at) h.0 (cap-sound c there a.at)
  builtin-whole at Chr (a ∷ []) h = function-whole a (chr_of c a.at) h.0 (chr-sound c there a.at)
  builtin-whole at Odd (a ∷ []) h = function-whole a (odd_of c a.at) h.0 (odd-sound c there a.at)
  builtin-whole at Ord (a ∷ []) h = function-whole a (ord_of c a.at) h.0 (ord-sound c there a.at)
  builtin-whole at Val (t ∷ a ∷ []) h = function-whole a (val_of c t.at t.operand a.at) h.1.0 (λ o k. val-sound c there t.at t.operand a.at o h.0 k)
  builtin-whole at Min (a ∷ []) h = as_whole (min_of c a.at a.operand) (min-sound c there a.at a.operand h.0)
  builtin-whole at Max (a ∷ []) h = as_whole (max_of c a.at a.operand) (max-sound c there a.at a.operand h.0)
  builtin-whole at Size (a ∷ []) h = as_whole (size_value c a.at a.operand) (size-sound c there a.at a.operand h.0)
  builtin-whole at Dec args h = given (no_constant-whole args h)
  builtin-whole at Dispose args h = given (no_constant-whole args h)
  builtin-whole at Excl args h = given (no_constant-whole args h)
  builtin-whole at Halt args h = given (no_constant-whole args h)
  builtin-whole at High args h = given (no_constant-whole args h)
  builtin-whole at Inc args h = given (no_constant-whole args h)
  builtin-whole at Incl args h = given (no_constant-whole args h)
  builtin-whole at New args h = given (no_constant-whole args h)
  builtin-whole at f args h = noted

  call-whole : (at : ℕ) (o : Operand) (args : List Argument) → IsWholeOperand c.scene o → AreWhole args → Whole (call_of c at o args)
  call-whole at (StandardProcedure n) args h k = builtin-whole at (builtin_of n) args k
  call-whole at (ModuleName s) args h k = noted
  call-whole at InError args h k = absurd h
  call-whole at o args h k = given (no_constant-whole args k)

  -- ---- the induction

  mutual
    pub expression-whole : (e : Expr) → Whole (operand_in c e)
    expression-whole (expr at form) = form-whole at form

    form-whole : (at : ℕ) (f : ExprForm) → Whole (form_in c at f)
    form-whole at (number_form n) = given (whole_whole c there)
    form-whole at (char_form n) = given (character_whole c there)
    form-whole at (string_form n) = given tt
    form-whole at (set_form items) =
        as_whole (form_in c at (set_form items))
        (elements-sound (set_base c bitset) (no_elements c bitset) items (bitset_base c there) (no_elements-sound c there bitset (bitset_base c there, bitset_whole c there)))
    form-whole at (typed_set_form d items) =
        in_turn (designator-whole d) (λ o h.
        in_turn (set_type-whole c there (designator_at d) o h) (λ t k.
        as_whole (elements_in c (set_base c t) (no_elements c t) items) (elements-sound (set_base c t) (no_elements c t) items k.0 (no_elements-sound c there t k))))
    form-whole at (name_form d) = designator-whole d
    form-whole at (call_form d args) = in_turn (designator-whole d) (λ o h. in_turn (arguments-whole args) (λ xs k. call-whole (designator_at d) o xs h k))
    form-whole at (one_form op op_at e) =
        in_turn (expression-whole e) (λ o h. in_turn (value-sound c there (expr_at e) o h) (λ v k. as_whole (apply_one c op op_at v) (apply_one-sound c there op op_at v k)))
    form-whole at (many_form first rest) =
        in_turn (expression-whole first) (λ o h. in_turn (value-sound c there (expr_at first) o h) (λ v k. as_whole (many_in c at v rest) (many-sound at v rest k)))

    many-sound : (at : ℕ) (x : Operand) (ns : Nexts) → IsSound c.scene x → Sound (many_in c at x ns)
    many-sound at x no_nexts h = given h
    many-sound at x (more_nexts n ns) h = in_turn (next-sound at x n h) (λ y k. many-sound at y ns k)

    next-sound : (at : ℕ) (x : Operand) (n : Next) → IsSound c.scene x → Sound (next_in c at x n)
    next-sound at x (next op op_at e) h =
        in_turn (expression-whole e) (λ o k. in_turn (value-sound c there (expr_at e) o k) (λ y l. operate-sound c there op op_at x at y (expr_at e) h l))

    elements-sound : (base : Place) (bits : Operand) (ls : Labels) → is_broken c.scene base ≡ false → IsSound c.scene bits → Sound (elements_in c base bits ls)
    elements-sound base bits no_labels w h = given h
    elements-sound base bits (more_labels l ls) w h = in_turn (label-sound base bits l w h) (λ more k. elements-sound base more ls w k)

    label-sound : (base : Place) (bits : Operand) (l : Label) → is_broken c.scene base ≡ false → IsSound c.scene bits → Sound (element_in c base bits l)
    label-sound base bits (one_label e) w h =
        in_turn (expression-whole e) (λ o k.
        in_turn (value-sound c there (expr_at e) o k) (λ v l.
        in_turn (element_of-sound c there base (expr_at e) v w l) (λ x m. given (with_elements-sound c there bits x x h m m))))
    label-sound base bits (range_label low high) w h =
        in_turn (expression-whole low) (λ o k.
        in_turn (value-sound c there (expr_at low) o k) (λ v l.
        in_turn (element_of-sound c there base (expr_at low) v w l) (λ x m.
        in_turn (expression-whole high) (λ o' k'.
        in_turn (value-sound c there (expr_at high) o' k') (λ v' l'.
        in_turn (element_of-sound c there base (expr_at high) v' w l') (λ y m'. given (with_elements-sound c there bits x y h m m')))))))

    pub designator-whole : (d : Designator) → Whole (designator_in c d)
    designator-whole (designator i rest) = in_turn (name-whole None i) (λ o h. selectors-whole i.at o rest h)

    selectors-whole : (at : ℕ) (o : Operand) (ss : Selectors) → IsWholeOperand c.scene o → Whole (selectors_in c at o ss)
    selectors-whole at o no_selectors h = given h
    selectors-whole at o (more_selectors s ss) h = in_turn (selector-whole at o s h) (λ p k. selectors-whole at p ss k)

    selector-whole : (at : ℕ) (o : Operand) (s : Selector) → IsWholeOperand c.scene o → Whole (selector_in c at o s)
    selector-whole at o (field_selector i dot) h = field-whole at o i h
    selector-whole at o (index_selector es bracket) h = indices-whole at o es h
    selector-whole at o (deref_selector caret) h = selected-whole c there at o h

    indices-whole : (at : ℕ) (o : Operand) (es : Exprs) → IsWholeOperand c.scene o → Whole (indices_in c at o es)
    indices-whole at o no_exprs h = given h
    indices-whole at o (more_exprs e es) h =
        in_turn (expression-whole e) (λ i k.
        in_turn (value-sound c there (expr_at e) i k) (λ v l.
        in_turn (selected-whole c there at o h) (λ p m. indices-whole at (spoilt_by v p) es (spoilt-whole c there v p (sound_whole c there v l) m))))

    arguments-whole : (es : Exprs) → UnlessSpoilt c.scene AreWhole (arguments_in c es)
    arguments-whole no_exprs = given tt
    arguments-whole (more_exprs e es) = in_turn (expression-whole e) (λ o h. in_turn (arguments-whole es) (λ args k. with_argument e o args h k))

  -- ---- the whole constant

  -- a constant there is
  abbrev IsThereOne : Option Operand → Type 0
  IsThereOne None = ⊥
  IsThereOne (Some o) = Unit {0}

  refused-whole : (at : ℕ) (o : Operand) → IsSound c.scene o → UnlessSpoilt c.scene IsThereOne (constant_or_refused c at o)
  refused-whole at (Constant t v) h = given tt
  refused-whole at (StringConstant n l) h = given tt
  refused-whole at InError h = absurd h
  refused-whole at o h = noted

  constant-whole : (e : Expr) → UnlessSpoilt c.scene IsThereOne (constant_of c e)
  constant-whole e = in_turn (expression-whole e) (λ o h. in_turn (value-sound c there (expr_at e) o h) (λ v k. refused-whole (expr_at e) v k))

  missing : (g : Gives (Option Operand)) → UnlessSpoilt c.scene IsThereOne g → g.value ≡ None → Each (IsWholeUse c.scene) g.answers → g.diags ≡ [] → ⊥
  missing g h none used e = let there_is = subst IsThereOne none (h.holds e used) in there_is

  -- no constant comes out only with a diagnostic, or where a used row has a part in error
  pub constant-caused : (e : Expr) → (constant_of c e).value ≡ None → Each (IsWholeUse c.scene) (constant_of c e).answers → (constant_of c e).diags ≢ []
  constant-caused e none used = missing (constant_of c e) (constant-whole e) none used

-- so it is of the notes
pub has_cause : (c : Context) → HasStandardRows c → (x y : Notes) (o : Option Operand) (e : Expr) → Adds x y (constant_of c e) o → IsCaused c.scene x y o
has_cause c there x y (Some p) e adds = tt
has_cause c there x y None e adds =
    λ added is used kept. let diags : x.diags.items ++ (constant_of c e).diags ≡ x.diags.items ++ [] = sym adds.diags ∙ kept ∙ sym (append-nil x.diags.items) in
    constant-caused c there e (sym adds.value_is)
    (subst (Each (IsWholeUse c.scene)) (append_cancel_left x.answers.items added (constant_of c e).answers (sym is ∙ adds.answers)) used)
    (append_cancel_left x.diags.items (constant_of c e).diags [] diags)
