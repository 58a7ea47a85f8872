-- Analyses of the parts of a list, one after another.
use Rattle.std.proofs.Common.{◌≡◌, ◌∙◌, ◌++◌, ◌∷◌, [], List, map, refl, ap, sym, append-nil, append_assoc}
use Rattle.std.proofs.lemmas.List.{map-append}
use Rattle.m2_base.specs.Gives.{Gives, and_then, gives}
use Rattle.m2_base.specs.Statics.Constants as constants
use Rattle.m2_base.specs.Statics.Constants.{element_in, elements_in, indices_in, many_in, next_in, operand_in, selected, selector_in, selectors_in, spoilt_by, value_wanted}
use Rattle.m2_base.specs.Statics.Contexts.{Context}
use Rattle.m2_base.specs.Trees.{Expr, Exprs, Label, Next, Selector, exprs, expr_at, labels, more_exprs, nexts, selectors}
use Rattle.m2_base.specs.declared.operands.Operand.{Operand}
use Rattle.m2_base.specs.declared.rows.Place.{Place}
use Rattle.std.specs.Prelude.{ℕ, ◌||◌}
use Rattle.const_eval.specs.Calls.{IsSummary, argument, call_with, is_in_error, is_spoilt, shape_of}
use Rattle.const_eval.specs.Parts.{arguments_in, called_in, coded, index_in, summed, with_index, with_more}
use Rattle.const_eval.specs.declared.arguments.Arguments.{Arguments}
use Rattle.const_eval.specs.declared.operands.Argument.{Argument}
use Rattle.const_eval.proofs.Analysing.{and_then_assoc}
use Rattle.const_eval.proofs.CallKinds.{call_is, shape_more, spoilt_more}

-- what a step gives of each item, from a value on
abbrev pub folded : {A B : Type 0} → (A → B → Gives A) → A → List B → Gives A
folded f a [] = gives a
folded f a (x ∷ xs) = and_then (f a x) (λ b. folded f b xs)

-- nothing more after a part
pub and_then_gives : {A : Type 0} (a : Gives A) → and_then a (λ v. gives v) ≡ a
and_then_gives a =
    ap (λ diags. record { value = a.value; diags = diags; answers = a.answers ++ [] }) (append-nil a.diags)
    ∙ ap (λ answers. record { value = a.value; diags = a.diags; answers = answers }) (append-nil a.answers)

-- what comes after the same part
pub and_then_same : {A B : Type 0} (a : Gives A) (f g : A → Gives B) → f a.value ≡ g a.value → and_then a f ≡ and_then a g
and_then_same a f g e = ap (λ r. record { value = r.value; diags = a.diags ++ r.diags; answers = a.answers ++ r.answers }) e

-- one more item
pub folded_more : {A B : Type 0} (f : A → B → Gives A) (a : A) (xs : List B) (y : B) → and_then (folded f a xs) (λ b. f b y) ≡ folded f a (xs ++ y ∷ [])
folded_more f a [] y = sym (and_then_gives (f a y))
folded_more f a (x ∷ xs) y =
    and_then_assoc (f a x) (λ b. folded f b xs) (λ b. f b y)
    ∙ and_then_same (f a x) (λ b. and_then (folded f b xs) (λ d. f d y)) (λ b. folded f b (xs ++ y ∷ [])) (folded_more f (f a x).value xs y)

indices_step : (c : Context) (at : ℕ) (o : Operand) (e : Expr) (es : Exprs) → and_then (index_in c at o e) (λ p. indices_in c at p es) ≡ indices_in c at o (more_exprs e es)
indices_step c at o e es =
    let rest = λ (p : Operand). indices_in c at p es in
    and_then_assoc (and_then (operand_in c e) (λ i. value_wanted c (expr_at e) i)) (λ v. with_index c at o v) rest
    ∙ and_then_assoc (operand_in c e) (λ i. value_wanted c (expr_at e) i) (λ v. and_then (with_index c at o v) rest)
    ∙ and_then_same (operand_in c e) (λ i. and_then (value_wanted c (expr_at e) i) (λ v. and_then (with_index c at o v) rest)) (λ i. and_then (value_wanted c (expr_at e) i) (λ v. and_then (selected c at o) (λ p. rest (spoilt_by v p))))
    (let w = value_wanted c (expr_at e) (operand_in c e).value in
    and_then_same w (λ v. and_then (with_index c at o v) rest) (λ v. and_then (selected c at o) (λ p. rest (spoilt_by v p)))
    (and_then_assoc (selected c at o) (λ p. gives (spoilt_by w.value p)) rest))

module _ {X : Type 0} (c : Context) where
  pub many_folded : (view : X → Next) (at : ℕ) (x : Operand) (ns : List X) → folded (λ o n. next_in c at o (view n)) x ns ≡ many_in c at x (nexts (map view ns))
  many_folded view at x [] = refl
  many_folded view at x (n ∷ ns) =
      and_then_same (next_in c at x (view n)) (λ o. folded (λ o n. next_in c at o (view n)) o ns) (λ o. many_in c at o (nexts (map view ns))) (many_folded view at (next_in c at x (view n)).value ns)

  pub elements_folded : (view : X → Label) (base : Place) (x : Operand) (ls : List X) → folded (λ o l. element_in c base o (view l)) x ls ≡ elements_in c base x (labels (map view ls))
  elements_folded view base x [] = refl
  elements_folded view base x (l ∷ ls) =
      and_then_same (element_in c base x (view l)) (λ o. folded (λ o l. element_in c base o (view l)) o ls) (λ o. elements_in c base o (labels (map view ls))) (elements_folded view base (element_in c base x (view l)).value ls)

  pub selectors_folded : (view : X → Selector) (at : ℕ) (x : Operand) (ss : List X) → folded (λ o s. selector_in c at o (view s)) x ss ≡ selectors_in c at x (selectors (map view ss))
  selectors_folded view at x [] = refl
  selectors_folded view at x (s ∷ ss) =
      and_then_same (selector_in c at x (view s)) (λ o. folded (λ o s. selector_in c at o (view s)) o ss) (λ o. selectors_in c at o (selectors (map view ss))) (selectors_folded view at (selector_in c at x (view s)).value ss)

  pub indices_folded : (view : X → Expr) (at : ℕ) (x : Operand) (es : List X) → folded (λ o e. index_in c at o (view e)) x es ≡ indices_in c at x (exprs (map view es))
  indices_folded view at x [] = refl
  indices_folded view at x (e ∷ es) =
      and_then_same (index_in c at x (view e)) (λ o. folded (λ o e. index_in c at o (view e)) o es) (λ o. indices_in c at o (exprs (map view es))) (indices_folded view at (index_in c at x (view e)).value es)
      ∙ indices_step c at x (view e) (exprs (map view es))

-- a further argument of a call
abbrev pub argument_in : Context → Arguments → Expr → Gives Arguments
argument_in c args e = and_then (operand_in c e) (λ o. gives (with_more args (record { at = expr_at e; operand = o })))

pub summed_more : (list : List constants.Argument) (a : constants.Argument) → with_more (summed list) (coded a) ≡ summed (list ++ a ∷ [])
summed_more list a =
    let e = map-append coded list (a ∷ []) in
    ap (λ shape. record { shape = shape; spoilt = is_spoilt (map coded list) || is_in_error a.operand }) (sym (shape_more (map coded list) (coded a)))
    ∙ ap (λ spoilt. record { shape = shape_of (map coded list ++ coded a ∷ []); spoilt = spoilt }) (sym (spoilt_more (map coded list) (coded a)))
    ∙ ap (λ (coded_list : List Argument). record { shape = shape_of coded_list; spoilt = is_spoilt coded_list }) (sym e)

module _ {X : Type 0} (c : Context) (view : X → Expr) where
  split : (before : List constants.Argument) (e : Expr) (others : Gives (List constants.Argument))
      → and_then (and_then (operand_in c e) (λ o. and_then others (λ list. gives (record { at = expr_at e; operand = o } ∷ list)))) (λ list. gives (summed (before ++ list)))
      ≡ and_then (operand_in c e) (λ o. and_then others (λ list. gives (summed (before ++ record { at = expr_at e; operand = o } ∷ list))))
  split before e others =
      let given = operand_in c e in
      and_then_assoc given (λ o. and_then others (λ list. gives (record { at = expr_at e; operand = o } ∷ list))) (λ list. gives (summed (before ++ list)))
      ∙ and_then_same given (λ o. and_then (and_then others (λ list. gives (record { at = expr_at e; operand = o } ∷ list))) (λ list. gives (summed (before ++ list)))) (λ o. and_then others (λ list. gives (summed (before ++ record { at = expr_at e; operand = o } ∷ list))))
      (and_then_assoc others (λ list. gives (record { at = expr_at e; operand = given.value } ∷ list)) (λ list. gives (summed (before ++ list))))

  arguments_from : (before : List constants.Argument) (es : List X) → folded (λ args e. argument_in c args (view e)) (summed before) es ≡ and_then (constants.arguments_in c (exprs (map view es))) (λ list. gives (summed (before ++ list)))
  arguments_from before [] = ap (λ (list : List constants.Argument). gives (summed list)) (sym (append-nil before))
  arguments_from before (e ∷ es) =
      let given = operand_in c (view e) in
      let a : constants.Argument = record { at = expr_at (view e); operand = given.value } in
      let rest = λ (args : Arguments). folded (λ args e. argument_in c args (view e)) args es in
      let others = constants.arguments_in c (exprs (map view es)) in
      and_then_assoc given (λ o. gives (with_more (summed before) (record { at = expr_at (view e); operand = o }))) rest
      ∙ and_then_same given (λ o. rest (with_more (summed before) (record { at = expr_at (view e); operand = o }))) (λ o. and_then others (λ list. gives (summed (before ++ record { at = expr_at (view e); operand = o } ∷ list))))
      (ap rest (summed_more before a)
      ∙ arguments_from (before ++ a ∷ []) es
      ∙ and_then_same others (λ list. gives (summed ((before ++ a ∷ []) ++ list))) (λ list. gives (summed (before ++ a ∷ list))) (ap (λ list. gives (summed list)) (append_assoc before (a ∷ []) others.value)))
      ∙ sym (split before (view e) others)

  pub arguments_folded : (es : List X) → folded (λ args e. argument_in c args (view e)) (summed []) es ≡ arguments_in c (exprs (map view es))
  arguments_folded es = arguments_from [] es

-- no arguments
pub nothing_summed : (args : Arguments) → IsSummary args [] → args ≡ summed []
nothing_summed args s =
    ap (λ shape. record { shape = shape; spoilt = args.spoilt }) s.shape ∙ ap (λ spoilt. record { shape = shape_of (map coded []); spoilt = spoilt }) s.spoilt

argument_back : (list : List constants.Argument) → map argument (map coded list) ≡ list
argument_back [] = refl
argument_back (a ∷ list) = ap (λ rest. a ∷ rest) (argument_back list)

-- a call with the arguments of a list
pub called_given : (c : Context) (at : ℕ) (to : Operand) (es : Exprs) → and_then (arguments_in c es) (λ args. call_with c at to args) ≡ called_in c at to es
called_given c at to es =
    let given = constants.arguments_in c es in
    and_then_assoc given (λ list. gives (summed list)) (λ args. call_with c at to args)
    ∙ and_then_same given (λ list. call_with c at to (summed list)) (λ list. constants.call_of c at to list)
    (call_is c at to (summed given.value) (map coded given.value) (record { shape = refl; spoilt = refl }) ∙ ap (λ list. constants.call_of c at to list) (argument_back given.value))
