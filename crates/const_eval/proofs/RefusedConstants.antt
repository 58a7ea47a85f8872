-- The law of diagnostics: whatever a constant expression is, where one is noted, or a used row is in error, the expression is in error.
-- By induction on the syntax. What is no constant is noted only of a whole expression, and then no constant comes out.
use Rattle.std.specs.Prelude.{◌≡◌, ◌≢◌, ◌⊎◌, refl, ℕ, List, [], ◌∷◌, ◌++◌, Option, Some, None, Result, Ok, Err}
use Rattle.std.specs.Option.{IfSome}
use Rattle.std.proofs.Common.{◌∙◌, ap, inl, inr, subst, sym}
use Rattle.std.proofs.lemmas.List.{append-nil, append_cancel_left}
use Rattle.m2_base.specs.Asks.{IfKnown}
use Rattle.m2_base.specs.Gives.{Adds, Gives, and_then, gives}
use Rattle.m2_base.specs.Lists.{Each}
use Rattle.m2_base.specs.Standard.{bitset, broken}
use Rattle.m2_base.specs.States.{Frame, State}
use Rattle.m2_base.specs.Statics.Builtins.{builtin_of}
use Rattle.m2_base.specs.Statics.Constants.{Argument, arguments_in, builtin_call, call_of, constant_of, constant_or_refused, designator_in, element_in, elements_in, field_operand, form_in, in_constant, indices_in, many_in, name_operand, next_in, no_constant, operand_in, selected, selector_in, selectors_in, spoilt_by, value_argument, value_wanted}
use Rattle.m2_base.specs.Statics.Contexts.{Context}
use Rattle.m2_base.specs.Statics.Functions.{abs_of, cap_of, chr_of, max_of, min_of, odd_of, ord_of, size_value, val_of}
use Rattle.m2_base.specs.Statics.NamedOperands.{operand_of_use}
use Rattle.m2_base.specs.Statics.Operations.{apply_one, operate}
use Rattle.m2_base.specs.Statics.Sets.{element_of, no_elements, set_base, set_type_of, with_elements}
use Rattle.m2_base.specs.Statics.Uses.{use_of}
use Rattle.m2_base.specs.Trees.{Designator, Expr, ExprForm, Exprs, Label, Labels, Next, Nexts, Selector, Selectors, call_form, char_form, deref_selector, designator, designator_at, expr, expr_at, field_selector, index_selector, many_form, more_exprs, more_labels, more_nexts, more_selectors, name_form, next, no_exprs, no_labels, no_nexts, no_selectors, number_form, one_form, one_label, range_label, set_form, string_form, typed_set_form}
use Rattle.m2_base.specs.declared.builtins.Builtin.TheVariants.{Abs, Cap, Chr, Dec, Dispose, Excl, Halt, High, Inc, Incl, Max, Min, New, Odd, Ord, Size, Val}
use Rattle.m2_base.specs.declared.builtins.Builtin.{Builtin}
use Rattle.m2_base.specs.declared.memory.Memory.{Memory}
use Rattle.m2_base.specs.declared.notes.Diag.{Diag}
use Rattle.m2_base.specs.declared.notes.Notes.{Notes}
use Rattle.m2_base.specs.declared.operands.Operand.TheVariants.{Constant, InError, ModuleName, NamedType, StandardProcedure, StringConstant}
use Rattle.m2_base.specs.declared.operands.Operand.{Operand}
use Rattle.m2_base.specs.declared.replies.Ask.TheVariants.{DontKnowYet, Known}
use Rattle.m2_base.specs.declared.replies.Ask.{Ask}
use Rattle.m2_base.specs.declared.rows.Place.{Place}
use Rattle.m2_base.specs.declared.sites.Site.{Site}
use Rattle.m2_base.specs.declared.trees.Ident.{Ident}
use Rattle.m2_base.specs.declared.trees.operators.Operator.{Operator}
use Rattle.type_rules.specs.Scenes.{WhereTold}
use Rattle.type_rules.specs.Sites.{AreOfSite, SuitsSite, context_of}
use Rattle.const_eval.specs.Analyses.{Analysed}
use Rattle.const_eval.specs.Causes.{IsCaused, IsSoundUse, IsUnspoilt}
use Rattle.const_eval.proofs.ConstantCauses.{has_cause}
use Rattle.const_eval.proofs.RefusedOperands.{abs-quiet, apply-quiet, cap-quiet, chr-quiet, element_of-quiet, max-error, max-quiet, min-error, min-quiet, odd-quiet, operate-quiet, operate-second, ord-quiet, set_type-quiet, size-quiet, val-error, val-quiet, val-untyped, with_error-high, with_error-low}
use Rattle.const_eval.proofs.RefusedSteps.{BrokenIsThere, IsError, IsMissing, IsUntyped, broken-told, no-broken_set, of-error}
use Rattle.const_eval.proofs.RefusedUses.{IsBadUse, SoundOr, quiet-unless, sound, sound-then, sound-unless, spoilt, use-sound, useless}
use Rattle.const_eval.proofs.Silent.{abs-silent, apply-silent, cap-silent, chr-silent, element_of-silent, max-silent, min-silent, odd-silent, operate-silent, ord-silent, set_type-silent, size-silent, val-silent}
use Rattle.const_eval.proofs.Standard.{standard_there}

-- the rule gives what is in error where it notes something, or uses a row in error
abbrev SoundOperand : Context → Gives Operand → Type 0
SoundOperand c g = SoundOr c IsError g

-- an argument is in error
abbrev AreSpoilt : List Argument → Type 0
AreSpoilt args = IsError (no_constant args)

-- what is spoilt by an error is in error, and so is an error that something spoils
spoilt-first : (part o : Operand) → IsError part → IsError (spoilt_by part o)
spoilt-first part o e = of-error (λ p. IsError (spoilt_by p o)) part e refl

spoilt-second : (part o : Operand) → IsError o → IsError (spoilt_by part o)
spoilt-second InError o e = refl
spoilt-second part o e = e

one-spoilt : (at : ℕ) (o : Operand) → AreSpoilt (record { at = at; operand = o } ∷ []) → IsError o
one-spoilt at InError e = refl
one-spoilt at o e = absurd cc

two-spoilt : (part o : Operand) → IsError (spoilt_by part o) → IsError part ⊎ IsError o
two-spoilt InError o e = inl refl
two-spoilt part o e = inr e

module _ (c : Context) where
  -- ---- operands, names and selectors

  value-sound : (at : ℕ) (o : Operand) → SoundOperand c (value_wanted c at o)
  value-sound at (NamedType t) = spoilt refl
  value-sound at (ModuleName s) = spoilt refl
  value-sound at o = sound refl tt

  value-error : (at : ℕ) (o : Operand) → IsError o → IsError (value_wanted c at o).value
  value-error at o e = of-error (λ p. IsError (value_wanted c at p).value) o e refl

  pick-sound : (at : ℕ) (o : Operand) → SoundOperand c (selected c at o)
  pick-sound at (NamedType t) = spoilt refl
  pick-sound at (ModuleName s) = spoilt refl
  pick-sound at o = sound refl tt

  pick-error : (at : ℕ) (o : Operand) → IsError o → IsError (selected c at o).value
  pick-error at o e = of-error (λ p. IsError (selected c at p).value) o e refl

  name-sound : (within : Option ℕ) (i : Ident) → SoundOperand c (name_operand c within i)
  name-sound within i =
      sound-then c (IsBadUse c) IsError (use_of c within i.name i.at) (λ e. gives (in_constant (operand_of_use c.scene e))) (use-sound c within i.name i.at)
      (λ bad. bad) (sound refl tt)

  field-sound : (at : ℕ) (o : Operand) (i : Ident) → SoundOperand c (field_operand c at o i)
  field-sound at (ModuleName s) i = name-sound (Some s) i
  field-sound at o i = pick-sound at o

  field-error : (at : ℕ) (o : Operand) (i : Ident) → IsError o → IsError (field_operand c at o i).value
  field-error at o i e = of-error (λ p. IsError (field_operand c at p i).value) o e refl

  -- ---- rules of operands, which bind no use

  abs-sound : (at : ℕ) (o : Operand) → SoundOperand c (abs_of c at o)
  abs-sound at o = useless c IsError (abs_of c at o) (abs-quiet c at o) (abs-silent c at o)

  cap-sound : (at : ℕ) (o : Operand) → SoundOperand c (cap_of c at o)
  cap-sound at o = useless c IsError (cap_of c at o) (cap-quiet c at o) (cap-silent c at o)

  chr-sound : (at : ℕ) (o : Operand) → SoundOperand c (chr_of c at o)
  chr-sound at o = useless c IsError (chr_of c at o) (chr-quiet c at o) (chr-silent c at o)

  odd-sound : (at : ℕ) (o : Operand) → SoundOperand c (odd_of c at o)
  odd-sound at o = useless c IsError (odd_of c at o) (odd-quiet c at o) (odd-silent c at o)

  ord-sound : (at : ℕ) (o : Operand) → SoundOperand c (ord_of c at o)
  ord-sound at o = useless c IsError (ord_of c at o) (ord-quiet c at o) (ord-silent c at o)

  set_type-sound : (at : ℕ) (o : Operand) → SoundOr c IsUntyped (set_type_of c at o)
  set_type-sound at o = useless c IsUntyped (set_type_of c at o) (set_type-quiet c at o) (set_type-silent c at o)

  element-sound : (base : Place) (at : ℕ) (o : Operand) → SoundOperand c (element_of c base at o)
  element-sound base at o = useless c IsError (element_of c base at o) (element_of-quiet c base at o) (element_of-silent c base at o)

  apply-sound : (op : Operator) (op_at : ℕ) (o : Operand) → SoundOperand c (apply_one c op op_at o)
  apply-sound op op_at o = useless c IsError (apply_one c op op_at o) (apply-quiet c op op_at o) (apply-silent c op op_at o)

  operate-sound : (op : Operator) (op_at : ℕ) (x : Operand) (x_at : ℕ) (y : Operand) (y_at : ℕ) → SoundOperand c (operate c op op_at x x_at y y_at)
  operate-sound op op_at x x_at y y_at =
      useless c IsError (operate c op op_at x x_at y y_at) (operate-quiet c op op_at x x_at y y_at) (operate-silent c op op_at x x_at y y_at)

  -- ---- calls

  -- a function of a value
  function-sound : (a : Argument) (rule : Operand → Gives Operand) → IsError (rule InError).value → ((o : Operand) → SoundOperand c (rule o))
      → SoundOperand c (and_then (value_argument c a) rule)
  function-sound a rule kept q =
      let v : Operand = (value_argument c a).value in
      sound-then c IsError IsError (value_argument c a) rule (value-sound a.at a.operand) (λ e. of-error (λ o. IsError (rule o).value) v e kept) (q v)

  function-error : (a : Argument) (rule : Operand → Gives Operand) → IsError (rule InError).value → IsError a.operand
      → IsError (and_then (value_argument c a) rule).value
  function-error a rule kept e =
      of-error (λ o. IsError (rule o).value) (value_argument c a).value (value-error a.at a.operand e) kept

  builtin-sound : BrokenIsThere c → (at : ℕ) (f : Builtin) (args : List Argument) → SoundOperand c (builtin_call c at f args)
  builtin-sound h at Abs (a ∷ []) = function-sound a (abs_of c a.at) refl (abs-sound a.at)
  builtin-sound h at Cap (a ∷ []) = function-sound a (cap_of c a.at) refl (cap-sound a.at)
  builtin-sound h at Chr (a ∷ []) = function-sound a (chr_of c a.at) refl (chr-sound a.at)
  builtin-sound h at Odd (a ∷ []) = function-sound a (odd_of c a.at) refl (odd-sound a.at)
  builtin-sound h at Ord (a ∷ []) = function-sound a (ord_of c a.at) refl (ord-sound a.at)
  builtin-sound h at Val (t ∷ a ∷ []) =
      function-sound a (val_of c t.at t.operand a.at) (val-error c t.at t.operand a.at) (λ o. useless c IsError (val_of c t.at t.operand a.at o) (val-quiet c h t.at t.operand a.at o) (val-silent c t.at t.operand a.at o))
  builtin-sound h at Min (a ∷ []) = useless c IsError (min_of c a.at a.operand) (min-quiet c h a.at a.operand) (min-silent c a.at a.operand)
  builtin-sound h at Max (a ∷ []) = useless c IsError (max_of c a.at a.operand) (max-quiet c h a.at a.operand) (max-silent c a.at a.operand)
  builtin-sound h at Size (a ∷ []) = useless c IsError (size_value c a.at a.operand) (size-quiet c a.at a.operand) (size-silent c a.at a.operand)
  builtin-sound h at Dec args = sound refl tt
  builtin-sound h at Dispose args = sound refl tt
  builtin-sound h at Excl args = sound refl tt
  builtin-sound h at Halt args = sound refl tt
  builtin-sound h at High args = sound refl tt
  builtin-sound h at Inc args = sound refl tt
  builtin-sound h at Incl args = sound refl tt
  builtin-sound h at New args = sound refl tt
  builtin-sound h at f args = spoilt refl

  -- VAL of no type, and of a value in error
  val-spoilt : BrokenIsThere c → (t a : Argument) → IsError t.operand ⊎ IsError a.operand
      → IsError (and_then (value_argument c a) (val_of c t.at t.operand a.at)).value
  val-spoilt h t a (inl e) =
      let v : Operand = (value_argument c a).value in
      of-error (λ o. IsError (val_of c t.at o a.at v).value) t.operand e (val-untyped c h t.at a.at v)
  val-spoilt h t a (inr e) = function-error a (val_of c t.at t.operand a.at) (val-error c t.at t.operand a.at) e

  later-spoilt : (a : Argument) (o : Operand) → o ≡ InError ⊎ AreSpoilt (a ∷ []) → o ≡ InError ⊎ IsError a.operand
  later-spoilt a o (inl e) = inl e
  later-spoilt a o (inr e) = inr (one-spoilt a.at a.operand e)

  builtin-spoilt : BrokenIsThere c → (at : ℕ) (f : Builtin) (args : List Argument) → AreSpoilt args → IsError (builtin_call c at f args).value
  builtin-spoilt h at Abs (a ∷ []) e = function-error a (abs_of c a.at) refl (one-spoilt a.at a.operand e)
  builtin-spoilt h at Cap (a ∷ []) e = function-error a (cap_of c a.at) refl (one-spoilt a.at a.operand e)
  builtin-spoilt h at Chr (a ∷ []) e = function-error a (chr_of c a.at) refl (one-spoilt a.at a.operand e)
  builtin-spoilt h at Odd (a ∷ []) e = function-error a (odd_of c a.at) refl (one-spoilt a.at a.operand e)
  builtin-spoilt h at Ord (a ∷ []) e = function-error a (ord_of c a.at) refl (one-spoilt a.at a.operand e)
  builtin-spoilt h at Val (t ∷ a ∷ []) e = val-spoilt h t a (later-spoilt a t.operand (two-spoilt t.operand (no_constant (a ∷ [])) e))
  builtin-spoilt h at Min (a ∷ []) e =
      of-error (λ o. IsError (min_of c a.at o).value) a.operand (one-spoilt a.at a.operand e) (min-error c h a.at)
  builtin-spoilt h at Max (a ∷ []) e =
      of-error (λ o. IsError (max_of c a.at o).value) a.operand (one-spoilt a.at a.operand e) (max-error c h a.at)
  builtin-spoilt h at Size (a ∷ []) e = of-error (λ o. IsError (size_value c a.at o).value) a.operand (one-spoilt a.at a.operand e) refl
  builtin-spoilt h at Dec args e = e
  builtin-spoilt h at Dispose args e = e
  builtin-spoilt h at Excl args e = e
  builtin-spoilt h at Halt args e = e
  builtin-spoilt h at High args e = e
  builtin-spoilt h at Inc args e = e
  builtin-spoilt h at Incl args e = e
  builtin-spoilt h at New args e = e
  builtin-spoilt h at f args e = refl

  call_of-sound : BrokenIsThere c → (at : ℕ) (o : Operand) (args : List Argument) → SoundOperand c (call_of c at o args)
  call_of-sound h at (StandardProcedure n) args = builtin-sound h at (builtin_of n) args
  call_of-sound h at (ModuleName s) args = spoilt refl
  call_of-sound h at o args = sound refl tt

  call_of-spoilt : BrokenIsThere c → (at : ℕ) (o : Operand) (args : List Argument) → AreSpoilt args → IsError (call_of c at o args).value
  call_of-spoilt h at (StandardProcedure n) args e = builtin-spoilt h at (builtin_of n) args e
  call_of-spoilt h at (ModuleName s) args e = refl
  call_of-spoilt h at InError args e = refl
  call_of-spoilt h at o args e = e

  call_of-error : (at : ℕ) (o : Operand) (args : List Argument) → IsError o → IsError (call_of c at o args).value
  call_of-error at o args e = of-error (λ p. IsError (call_of c at p args).value) o e refl

  -- ---- the whole constant

  refused-sound : (at : ℕ) (o : Operand) → SoundOr c IsMissing (constant_or_refused c at o)
  refused-sound at (Constant t v) = sound refl tt
  refused-sound at (StringConstant n l) = sound refl tt
  refused-sound at InError = sound refl tt
  refused-sound at o = spoilt refl

  refused-error : (at : ℕ) (o : Operand) → IsError o → IsMissing (constant_or_refused c at o).value
  refused-error at o e = of-error (λ p. IsMissing (constant_or_refused c at p).value) o e refl

module _ (c : Context) (h : BrokenIsThere c) where
  -- ---- what is made of an error is in error

  next-error : (at : ℕ) (x : Operand) (n : Next) → IsError x → IsError (next_in c at x n).value
  next-error at x (next op op_at e) w =
      let y : Operand = (value_wanted c (expr_at e) (operand_in c e).value).value in
      of-error (λ o. IsError (operate c op op_at o at y (expr_at e)).value) x w refl

  many-error : (at : ℕ) (x : Operand) (ns : Nexts) → IsError x → IsError (many_in c at x ns).value
  many-error at x no_nexts w = w
  many-error at x (more_nexts n ns) w = many-error at (next_in c at x n).value ns (next-error at x n w)

  label-error : (base : Place) (bits : Operand) (l : Label) → IsError bits → IsError (element_in c base bits l).value
  label-error base bits (one_label e) w =
      let x : Operand = (element_of c base (expr_at e) (value_wanted c (expr_at e) (operand_in c e).value).value).value in
      of-error (λ b. IsError (with_elements b x x)) bits w refl
  label-error base bits (range_label low high) w =
      let x : Operand = (element_of c base (expr_at low) (value_wanted c (expr_at low) (operand_in c low).value).value).value in
      let y : Operand = (element_of c base (expr_at high) (value_wanted c (expr_at high) (operand_in c high).value).value).value in
      of-error (λ b. IsError (with_elements b x y)) bits w refl

  elements-error : (base : Place) (bits : Operand) (ls : Labels) → IsError bits → IsError (elements_in c base bits ls).value
  elements-error base bits no_labels w = w
  elements-error base bits (more_labels l ls) w = elements-error base (element_in c base bits l).value ls (label-error base bits l w)

  indices-error : (at : ℕ) (o : Operand) (es : Exprs) → IsError o → IsError (indices_in c at o es).value
  indices-error at o no_exprs w = w
  indices-error at o (more_exprs e es) w =
      let v : Operand = (value_wanted c (expr_at e) (operand_in c e).value).value in
      let p : Operand = (selected c at o).value in
      indices-error at (spoilt_by v p) es (spoilt-second v p (pick-error c at o w))

  selector-error : (at : ℕ) (o : Operand) (s : Selector) → IsError o → IsError (selector_in c at o s).value
  selector-error at o (field_selector i dot) w = field-error c at o i w
  selector-error at o (index_selector es bracket) w = indices-error at o es w
  selector-error at o (deref_selector caret) w = pick-error c at o w

  selectors-error : (at : ℕ) (o : Operand) (ss : Selectors) → IsError o → IsError (selectors_in c at o ss).value
  selectors-error at o no_selectors w = w
  selectors-error at o (more_selectors s ss) w = selectors-error at (selector_in c at o s).value ss (selector-error at o s w)

  -- of no type there is no set
  set-untyped : (t : Place) (items : Labels) → IsUntyped t → IsError (elements_in c (set_base c t) (no_elements c t) items).value
  set-untyped t items e =
      subst (λ u. IsError (elements_in c (set_base c u) (no_elements c u) items).value) (sym e)
      (elements-error (set_base c broken) (no_elements c broken) items (no-broken_set c h))

  -- ---- steps behind an expression

  module _ {B : Type 0} (W : B → Type 0) (e : Expr) (told : SoundOperand c (operand_in c e)) where
    -- as a value
    value-then : (f : Operand → Gives B) → ((v : Operand) → IsError v → W (f v).value) → ((v : Operand) → SoundOr c W (f v))
        → SoundOr c W (and_then (operand_in c e) (λ o. and_then (value_wanted c (expr_at e) o) f))
    value-then f kept q =
        let o : Operand = (operand_in c e).value in
        let v : Gives Operand = value_wanted c (expr_at e) o in
        sound-then c IsError W (operand_in c e) (λ p. and_then (value_wanted c (expr_at e) p) f) told (λ w. kept v.value (value-error c (expr_at e) o w))
        (sound-then c IsError W v f (value-sound c (expr_at e) o) (kept v.value) (q v.value))

    -- as an element of a set
    member-then : (base : Place) (f : Operand → Gives B) → ((v : Operand) → IsError v → W (f v).value) → ((v : Operand) → SoundOr c W (f v))
        → SoundOr c W (and_then (operand_in c e) (λ o. and_then (value_wanted c (expr_at e) o) (λ v. and_then (element_of c base (expr_at e) v) f)))
    member-then base f kept q =
        value-then (λ v. and_then (element_of c base (expr_at e) v) f)
        (λ v w. kept (element_of c base (expr_at e) v).value (of-error (λ o. IsError (element_of c base (expr_at e) o).value) v w refl))
        (λ v. sound-then c IsError W (element_of c base (expr_at e) v) f (element-sound c base (expr_at e) v) (kept (element_of c base (expr_at e) v).value)
        (q (element_of c base (expr_at e) v).value))

  -- a set of a type that is named before it
  typed_set-sound : (d : Designator) (items : Labels) → SoundOperand c (designator_in c d)
      → ((t : Place) → SoundOperand c (elements_in c (set_base c t) (no_elements c t) items)) → (at : ℕ) → SoundOperand c (form_in c at (typed_set_form d items))
  typed_set-sound d items told q at =
      let o : Gives Operand = designator_in c d in
      let t : Gives Place = set_type_of c (designator_at d) o.value in
      let set : Place → Gives Operand = λ u. elements_in c (set_base c u) (no_elements c u) items in
      sound-then c IsError IsError o (λ p. and_then (set_type_of c (designator_at d) p) set) told
      (λ w. set-untyped t.value items (of-error (λ p. IsUntyped (set_type_of c (designator_at d) p).value) o.value w refl))
      (sound-then c IsUntyped IsError t set (set_type-sound c (designator_at d) o.value) (set-untyped t.value items) (q t.value))

  -- ---- the induction

  mutual
    pub expression-sound : (e : Expr) → SoundOperand c (operand_in c e)
    expression-sound (expr at form) = form-sound at form

    form-sound : (at : ℕ) (f : ExprForm) → SoundOperand c (form_in c at f)
    form-sound at (number_form n) = sound refl tt
    form-sound at (char_form n) = sound refl tt
    form-sound at (string_form n) = sound refl tt
    form-sound at (set_form items) = elements-sound (set_base c bitset) (no_elements c bitset) items
    form-sound at (typed_set_form d items) = typed_set-sound d items (designator-sound d) (λ t. elements-sound (set_base c t) (no_elements c t) items) at
    form-sound at (name_form d) = designator-sound d
    form-sound at (call_form d args) =
        let o : Gives Operand = designator_in c d in
        let xs : Gives (List Argument) = arguments_in c args in
        sound-then c IsError IsError o (λ p. and_then xs (call_of c (designator_at d) p)) (designator-sound d)
        (call_of-error c (designator_at d) o.value xs.value)
        (sound-then c AreSpoilt IsError xs (call_of c (designator_at d) o.value) (arguments-sound args)
        (call_of-spoilt c h (designator_at d) o.value xs.value) (call_of-sound c h (designator_at d) o.value xs.value))
    form-sound at (one_form op op_at e) =
        value-then IsError e (expression-sound e) (apply_one c op op_at) (λ v w. of-error (λ o. IsError (apply_one c op op_at o).value) v w refl)
        (λ v. apply-sound c op op_at v)
    form-sound at (many_form e rest) =
        value-then IsError e (expression-sound e) (λ v. many_in c at v rest) (λ v w. many-error at v rest w) (λ v. many-sound at v rest)

    many-sound : (at : ℕ) (x : Operand) (ns : Nexts) → SoundOperand c (many_in c at x ns)
    many-sound at x no_nexts = sound refl tt
    many-sound at x (more_nexts n ns) =
        let r : Gives Operand = next_in c at x n in
        sound-then c IsError IsError r (λ y. many_in c at y ns) (next-sound at x n) (many-error at r.value ns) (many-sound at r.value ns)

    next-sound : (at : ℕ) (x : Operand) (n : Next) → SoundOperand c (next_in c at x n)
    next-sound at x (next op op_at e) =
        value-then IsError e (expression-sound e) (λ y. operate c op op_at x at y (expr_at e))
        (λ v w. of-error (λ y. IsError (operate c op op_at x at y (expr_at e)).value) v w (operate-second c op op_at x at (expr_at e)))
        (λ v. operate-sound c op op_at x at v (expr_at e))

    elements-sound : (base : Place) (bits : Operand) (ls : Labels) → SoundOperand c (elements_in c base bits ls)
    elements-sound base bits no_labels = sound refl tt
    elements-sound base bits (more_labels l ls) =
        let b : Gives Operand = element_in c base bits l in
        sound-then c IsError IsError b (λ more. elements_in c base more ls) (label-sound base bits l) (elements-error base b.value ls)
        (elements-sound base b.value ls)

    label-sound : (base : Place) (bits : Operand) (l : Label) → SoundOperand c (element_in c base bits l)
    label-sound base bits (one_label e) =
        member-then IsError e (expression-sound e) base (λ x. gives (with_elements bits x x))
        (λ x w. of-error (λ o. IsError (with_elements bits o o)) x w (with_error-low bits InError)) (λ x. sound refl tt)
    label-sound base bits (range_label low high) =
        let other : Operand = (element_of c base (expr_at high) (value_wanted c (expr_at high) (operand_in c high).value).value).value in
        member-then IsError low (expression-sound low) base
        (λ x. and_then (operand_in c high) (λ p. and_then (value_wanted c (expr_at high) p) (λ w. and_then (element_of c base (expr_at high) w) (λ y. gives (with_elements bits x y)))))
        (λ x w. of-error (λ o. IsError (with_elements bits o other)) x w (with_error-low bits other))
        (λ x. member-then IsError high (expression-sound high) base (λ y. gives (with_elements bits x y))
        (λ y w. of-error (λ o. IsError (with_elements bits x o)) y w (with_error-high bits x)) (λ y. sound refl tt))

    pub designator-sound : (d : Designator) → SoundOperand c (designator_in c d)
    designator-sound (designator i rest) =
        let o : Gives Operand = name_operand c None i in
        sound-then c IsError IsError o (λ p. selectors_in c i.at p rest) (name-sound c None i) (selectors-error i.at o.value rest)
        (selectors-sound i.at o.value rest)

    selectors-sound : (at : ℕ) (o : Operand) (ss : Selectors) → SoundOperand c (selectors_in c at o ss)
    selectors-sound at o no_selectors = sound refl tt
    selectors-sound at o (more_selectors s ss) =
        let p : Gives Operand = selector_in c at o s in
        sound-then c IsError IsError p (λ q. selectors_in c at q ss) (selector-sound at o s) (selectors-error at p.value ss) (selectors-sound at p.value ss)

    selector-sound : (at : ℕ) (o : Operand) (s : Selector) → SoundOperand c (selector_in c at o s)
    selector-sound at o (field_selector i dot) = field-sound c at o i
    selector-sound at o (index_selector es bracket) = indices-sound at o es
    selector-sound at o (deref_selector caret) = pick-sound c at o

    indices-sound : (at : ℕ) (o : Operand) (es : Exprs) → SoundOperand c (indices_in c at o es)
    indices-sound at o no_exprs = sound refl tt
    indices-sound at o (more_exprs e es) =
        let p : Gives Operand = selected c at o in
        value-then IsError e (expression-sound e) (λ v. and_then p (λ q. indices_in c at (spoilt_by v q) es))
        (λ v w. indices-error at (spoilt_by v p.value) es (spoilt-first v p.value w))
        (λ v. sound-then c IsError IsError p (λ q. indices_in c at (spoilt_by v q) es) (pick-sound c at o)
        (λ w. indices-error at (spoilt_by v p.value) es (spoilt-second v p.value w)) (indices-sound at (spoilt_by v p.value) es))

    arguments-sound : (es : Exprs) → SoundOr c AreSpoilt (arguments_in c es)
    arguments-sound no_exprs = sound refl tt
    arguments-sound (more_exprs e es) =
        let o : Gives Operand = operand_in c e in
        let others : Gives (List Argument) = arguments_in c es in
        sound-then c IsError AreSpoilt o (λ p. and_then others (λ args. gives (record { at = expr_at e; operand = p } ∷ args))) (expression-sound e)
        (spoilt-first o.value (no_constant others.value))
        (sound-then c AreSpoilt AreSpoilt others (λ args. gives (record { at = expr_at e; operand = o.value } ∷ args)) (arguments-sound es)
        (spoilt-second o.value (no_constant others.value)) (sound refl tt))

  whole-sound : (e : Expr) → SoundOr c IsMissing (constant_of c e)
  whole-sound e =
      value-then IsMissing e (expression-sound e) (constant_or_refused c (expr_at e)) (refused-error c (expr_at e)) (refused-sound c (expr_at e))

-- what isn't in error was refused nowhere
pub expression-unrefused : (c : Context) (e : Expr) → BrokenIsThere c → (operand_in c e).value ≢ InError → (operand_in c e).diags ≡ []
expression-unrefused c e h = quiet-unless c IsError (operand_in c e) (expression-sound c h e)

pub designator-unrefused : (c : Context) (d : Designator) → BrokenIsThere c → (designator_in c d).value ≢ InError → (designator_in c d).diags ≡ []
designator-unrefused c d h = quiet-unless c IsError (designator_in c d) (designator-sound c h d)

-- nor was a constant that comes out, which uses no row in error
pub constant-unrefused : (c : Context) (e : Expr) → BrokenIsThere c → (constant_of c e).value ≢ None → (constant_of c e).diags ≡ []
constant-unrefused c e h = quiet-unless c IsMissing (constant_of c e) (whole-sound c h e)

pub constant-sound : (c : Context) (e : Expr) → BrokenIsThere c → (constant_of c e).value ≢ None → Each (IsSoundUse c.scene) (constant_of c e).answers
constant-sound c e h = sound-unless c IsMissing (constant_of c e) (whole-sound c h e)

-- and nothing is noted of it
nothing_noted : (c : Context) (x y : Notes) (o : Option Operand) (g : Gives (Option Operand)) → Adds x y g o → SoundOr c IsMissing g
    → IfSome o (λ p. y.diags.items ≡ x.diags.items)
nothing_noted c x y None g adds q = tt
nothing_noted c x y (Some p) g adds (sound n s) = adds.diags ∙ ap (λ (ds : List Diag). x.diags.items ++ ds) n ∙ append-nil x.diags.items
nothing_noted c x y (Some p) g adds (spoilt w) = absurd (let e = adds.value_is ∙ w in cc)

no_use_spoilt : (c : Context) (x y : Notes) (o : Option Operand) (g : Gives (Option Operand)) → Adds x y g o → SoundOr c IsMissing g → IsUnspoilt c.scene x y o
no_use_spoilt c x y None g adds q = tt
no_use_spoilt c x y (Some p) g adds (sound n s) =
    λ added e. subst (Each (IsSoundUse c.scene)) (append_cancel_left x.answers.items g.answers added (sym adds.answers ∙ e)) s
no_use_spoilt c x y (Some p) g adds (spoilt w) = absurd (let both = adds.value_is ∙ w in cc)

-- what is so of each value is so where it is known
known_so : (x y : Notes) (answer : Result (Ask (Option Operand)) Memory) (g : Gives (Option Operand)) (P : Option Operand → Type 0)
    → ((o : Option Operand) → Adds x y g o → P o) → IfKnown answer (λ o. Adds x y g o) → IfKnown answer P
known_so x y (Ok (Known o)) g P so adds = so o adds
known_so x y (Ok (DontKnowYet head)) g P so adds = tt
known_so x y (Err m) g P so adds = tt

-- so it is where an expression's constant is known
module _ {a b : State} {x y : Notes} {s : Site} {P : Frame → Option Operand → Type 0} (e : Expr) (answer : Result (Ask (Option Operand)) Memory) (suits : SuitsSite a.frame s)
    (p : Analysed a b x y s answer P (λ c. constant_of c e)) where
  pub unrefused : WhereTold a.frame (λ made. AreOfSite s made → IfKnown answer (λ o. IfSome o (λ p. y.diags.items ≡ x.diags.items)))
  unrefused made in_hand told of_site =
      let c : Context = context_of a.frame made s in
      known_so x y answer (constant_of c e) (λ o. IfSome o (λ p. y.diags.items ≡ x.diags.items))
      (λ o adds. nothing_noted c x y o (constant_of c e) adds (whole-sound c (broken-told a.frame made s suits told) e)) (p.told made in_hand told of_site)

  pub unspoilt : WhereTold a.frame (λ made. AreOfSite s made → IfKnown answer (λ o. IsUnspoilt (context_of a.frame made s).scene x y o))
  unspoilt made in_hand told of_site =
      let c : Context = context_of a.frame made s in
      known_so x y answer (constant_of c e) (IsUnspoilt c.scene x y)
      (λ o adds. no_use_spoilt c x y o (constant_of c e) adds (whole-sound c (broken-told a.frame made s suits told) e)) (p.told made in_hand told of_site)

  pub caused : WhereTold a.frame (λ made. AreOfSite s made → IfKnown answer (λ o. IsCaused (context_of a.frame made s).scene x y o))
  caused made in_hand told of_site =
      let c : Context = context_of a.frame made s in
      known_so x y answer (constant_of c e) (IsCaused c.scene x y) (λ o adds. has_cause c (standard_there a.frame made s suits told) x y o e adds) (p.told made in_hand told of_site)
