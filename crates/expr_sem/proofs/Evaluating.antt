-- A value or an address that is appended to a piece.
use Rattle.std.proofs.Common.{◌≡◌, ◌∙◌, ◌++◌, [], List, Option, Some, None, Result, Ok, Err, ap, sym, subst, refl}
use Rattle.std.proofs.lemmas.List.{append-nil, append_cancel_left}
use Rattle.std.specs.Prelude.{IsErr, false, option_map, true}
use Rattle.std.specs.Option.{IfNone, IfSome}
use Rattle.m2_base.specs.Asks.{IfKnown, IfWaits}
use Rattle.m2_base.specs.Gives.{Gives}
use Rattle.m2_base.specs.States.{Frame, State}
use Rattle.m2_base.specs.Statics.Contexts.{Context}
use Rattle.m2_base.specs.Statics.Operands.{is_bad}
use Rattle.m2_base.specs.declared.memory.Memory.{Memory}
use Rattle.m2_base.specs.declared.notes.Diag.{Diag}
use Rattle.m2_base.specs.declared.notes.Notes.{Notes}
use Rattle.m2_base.specs.declared.operands.Operand.{Operand}
use Rattle.m2_base.specs.declared.operands.Operand.TheVariants.{InError}
use Rattle.m2_base.specs.declared.replies.Ask.{Ask}
use Rattle.m2_base.specs.declared.replies.Ask.TheVariants.{DontKnowYet, Known}
use Rattle.m2_base.specs.declared.replies.Head.{Head}
use Rattle.m2_base.specs.declared.sites.Site.{Site}
use Rattle.type_rules.specs.Sites.{SuitsSite, context_of}
use Rattle.const_eval.specs.Sites.{IsOperand}
use Rattle.const_eval.proofs.RefusedSteps.{BrokenIsThere, QuietOr, broken-told, quiet, wrong}
use Rattle.expr_sem.proofs.RefusedValues.{Erred}
use Rattle.block_code.specs.Coded as code
use Rattle.expr_sem.specs.Codings.{Coding}
use Rattle.expr_sem.specs.Evaluations.{Evaluates, IsEvaluated, KeepsPiece, evaluated, evaluated_in, evaluation, operand_of, unless_in_error}
use Rattle.expr_sem.specs.Fragments.{AreSound, Grows, part}
use Rattle.block_code.specs.Parts.{Part}
use Rattle.expr_sem.specs.Pieces.{Appended, IsAsBefore}
use Rattle.block_code.specs.Whole.{AreWhole}
use Rattle.expr_sem.specs.declared.fragments.Fragment.{Fragment}
use Rattle.expr_sem.specs.declared.fragments.Node.{Node}
use Rattle.expr_sem.specs.declared.pieces.Piece.{Piece}
use Rattle.expr_sem.specs.declared.pieces.With.{With}

some_same : {A : Type 0} {x y : A} → Some x ≡ Some y → x ≡ y
some_same e = cc

some_none : {A : Type 0} {x : A} → Some x ≡ None → ⊥
some_none e = cc

-- what is in error has no code
pub error_evaluated : (o : Operand) (p : Part) → o ≡ InError → None ≡ evaluated o p
error_evaluated o p e = ap (λ (u : Operand). evaluated u p) (sym e)

-- all else has
pub other_evaluated : (o : Operand) (p : Part) → (o ≡ InError → ⊥) → Some (o, p) ≡ evaluated o p
other_evaluated InError p h = absurd (h refl)
other_evaluated o p h = refl

evaluated_operand : (o : Operand) (p : Part) → option_map (λ (x : Operand × Part). x.0) (evaluated o p) ≡ unless_in_error o
evaluated_operand InError p = refl
evaluated_operand o p = refl

evaluated_code : (o : Operand) (p : Part) (x : Operand × Part) → Some x ≡ evaluated o p → x.1 ≡ p
evaluated_code InError p x e = absurd (some_none e)
evaluated_code o p x e = ap (λ (y : Operand × Part). y.1) (some_same e)

operand_in : (ns : List Node) (x : Option (Operand × Fragment)) → option_map (λ (y : Operand × Part). y.0) (evaluated_in ns x) ≡ operand_of x
operand_in ns None = refl
operand_in ns (Some x) = refl

operand_there : (f : Frame) (ns : List Node) (x : Option (Operand × Fragment)) → IsEvaluated f ns x → IfSome (operand_of x) (λ o. IsOperand f o)
operand_there f ns None h = tt
operand_there f ns (Some x) h = h.0

code_appended : (from to : Piece) (ws : List With) (ns : List Node) (x : Option (Operand × Fragment)) (o : Operand) (p : Part) → evaluated_in ns x ≡ evaluated o p
    → IfSome x (λ y. Appended from to ws (part ns y.1)) → IfSome (operand_of x) (λ u. Appended from to ws p)
code_appended from to ws ns None o p e h = tt
code_appended from to ws ns (Some x) o p e h = subst (λ (q : Part). Appended from to ws q) (evaluated_code o p (x.0, part ns x.1) e) h

-- what comes out was refused nowhere
nothing_noted : (x y : Notes) (ns : List Node) (v : Option (Operand × Fragment)) (g : Gives code.Coded) (p : Part) → evaluated_in ns v ≡ evaluated g.value.operand p
    → y.diags.items ≡ x.diags.items ++ (g.diags ++ []) → QuietOr Erred g → IfSome (operand_of v) (λ q. y.diags.items ≡ x.diags.items)
nothing_noted x y ns None g p e noted q = tt
nothing_noted x y ns (Some z) g p e noted (quiet n) = noted ∙ ap (λ (ds : List Diag). x.diags.items ++ (ds ++ [])) n ∙ append-nil x.diags.items
nothing_noted x y ns (Some z) g p e noted (wrong w) = absurd (some_none (e ∙ sym (error_evaluated g.value.operand p w)))

in_error_alone : (o : Operand) (p : Part) → None ≡ evaluated o p → is_bad o ≡ true
in_error_alone InError p e = refl
in_error_alone o p e = absurd (some_none (sym e))

-- what doesn't come out was refused
something_noted : (x y : Notes) (ns : List Node) (v : Option (Operand × Fragment)) (g : Gives code.Coded) (p : Part) → evaluated_in ns v ≡ evaluated g.value.operand p
    → y.diags.items ≡ x.diags.items ++ (g.diags ++ []) → (is_bad g.value.operand ≡ true → g.diags ≡ [] → ⊥) → IfNone (operand_of v) (y.diags.items ≡ x.diags.items → ⊥)
something_noted x y ns None g p e noted cause = λ same.
    cause (in_error_alone g.value.operand p e)
    (sym (append-nil g.diags) ∙ append_cancel_left x.diags.items (g.diags ++ []) [] (sym noted ∙ same ∙ sym (append-nil x.diags.items)))
something_noted x y ns (Some z) g p e noted cause = tt

module _ {a b : State} {x y : Notes} {ns ms : List Node} {s : Site} {worth : Context → code.Coded → Part} {given : Context → Gives code.Coded} (from to : Piece) (ws : List With) where
  -- after want of memory the piece is as before
  pub evaluates_none : {m : Memory} {T V : Type 0} {P : Frame → List Node → T → Type 0} {as_p : List Node → T → V} {g : Context → Gives V} → Coding a b x y ns ms s (Err m) P as_p g → (n : Memory) → IsAsBefore from to → Evaluates a b x y from to ws s (Err n) worth given
  evaluates_none p n kept = record { works = p.works; waits = tt; kept = kept; told = λ made in_hand told of_site. tt; unrefused = λ made in_hand told of_site. tt; caused = λ made in_hand told of_site whole. tt; appended = λ made in_hand told of_site. tt; there = tt }

  -- the same, where the want is what `?` hands on
  pub evaluates_full : {T V : Type 0} {P : Frame → List Node → T → Type 0} {as_p : List Node → T → V} {g : Context → Gives V} {first : Result (Ask T) Memory} (r : Result (Ask (Option Operand)) Memory) → IsErr r → Coding a b x y ns ms s first P as_p g → IsAsBefore from to → Evaluates a b x y from to ws s r worth given
  evaluates_full (Ok v) is p kept = absurd (let h : false ≡ true = is in cc)
  evaluates_full (Err n) is p kept = record { works = p.works; waits = tt; kept = kept; told = λ made in_hand told of_site. tt; unrefused = λ made in_hand told of_site. tt; caused = λ made in_hand told of_site whole. tt; appended = λ made in_hand told of_site. tt; there = tt }

  -- and so it is where the operand isn't known yet
  pub evaluates_later : {h : Head} {T V : Type 0} {P : Frame → List Node → T → Type 0} {as_p : List Node → T → V} {g : Context → Gives V} → Coding a b x y ns ms s (Ok (DontKnowYet h)) P as_p g → IsAsBefore from to → Evaluates a b x y from to ws s (Ok (DontKnowYet h)) worth given
  evaluates_later p kept = record { works = p.works; waits = p.waits; kept = kept; told = λ made in_hand told of_site. tt; unrefused = λ made in_hand told of_site. tt; caused = λ made in_hand told of_site whole. tt; appended = λ made in_hand told of_site. tt; there = tt }

  -- what is evaluated is appended; it was refused nowhere, and what isn't has a cause
  pub evaluates : {v : Option (Operand × Fragment)} (answer : Result (Ask (Option Operand)) Memory) → SuitsSite a.frame s → Coding a b x y ns ms s (Ok (Known v)) IsEvaluated evaluated_in (λ c. evaluation (given c) (worth c))
      → ((c : Context) → BrokenIsThere c → QuietOr Erred (given c)) → ((c : Context) → AreWhole c.scene → is_bad (given c).value.operand ≡ true → (given c).diags ≡ [] → ⊥)
      → KeepsPiece answer from to → IfKnown answer (λ o. o ≡ operand_of v) → IfKnown answer (λ o. IfSome v (λ z. Appended from to ws (part ms z.1))) → IfWaits answer (λ h. ⊥)
      → Evaluates a b x y from to ws s answer worth given
  evaluates {v} (Ok (Known o)) suits p refused cause kept is code waits =
      record {
        works = p.works;
        waits = tt;
        kept = kept;
        told = λ made in_hand t of_site.
            let c = context_of a.frame made s in
            let h = p.told made in_hand t of_site in
            record {
              value_is = is ∙ sym (operand_in ms v) ∙ ap (option_map (λ (z : Operand × Part). z.0)) h.value_is ∙ evaluated_operand (given c).value.operand (worth c (given c).value);
              diags = h.diags;
              answers = h.answers;
            };
        unrefused = λ made in_hand t of_site.
            let c = context_of a.frame made s in
            let h = p.told made in_hand t of_site in
            subst (λ (u : Option Operand). IfSome u (λ q. y.diags.items ≡ x.diags.items)) (sym is)
            (nothing_noted x y ms v (given c) (worth c (given c).value) h.value_is h.diags (refused c (broken-told a.frame made s suits t)));
        caused = λ made in_hand t of_site whole.
            let c = context_of a.frame made s in
            let h = p.told made in_hand t of_site in
            subst (λ (u : Option Operand). IfNone u (y.diags.items ≡ x.diags.items → ⊥)) (sym is)
            (something_noted x y ms v (given c) (worth c (given c).value) h.value_is h.diags (cause c whole));
        appended = λ made in_hand t of_site.
            let c = context_of a.frame made s in
            subst (λ (u : Option Operand). IfSome u (λ q. Appended from to ws (worth c (given c).value))) (sym is)
            (code_appended from to ws ms v (given c).value.operand (worth c (given c).value) (p.told made in_hand t of_site).value_is code);
        there = subst (λ (u : Option Operand). IfSome u (λ q. IsOperand a.frame q)) (sym is) (operand_there a.frame ms v p.there);
      }
  evaluates (Ok (DontKnowYet h)) suits p refused cause kept is code waits = absurd waits
  evaluates (Err m) suits p refused cause kept is code waits = record { works = p.works; waits = tt; kept = kept; told = λ made in_hand told of_site. tt; unrefused = λ made in_hand told of_site. tt; caused = λ made in_hand told of_site whole. tt; appended = λ made in_hand told of_site. tt; there = tt }

-- the piece is as it was
pub same_piece : (p : Piece) → IsAsBefore p p
same_piece p = record { steps = refl; bytes = refl; cell = refl; byte = refl }

-- fragments that were made of none are sound
pub sound_from_none : {ns ms : List Node} → Grows ns ms → AreSound ns → AreSound ms
sound_from_none g h = g.sound h
