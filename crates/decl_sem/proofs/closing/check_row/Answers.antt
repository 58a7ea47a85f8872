use Rattle.std.proofs.Common.{arith, false, ◌≡◌, ◌≢◌, ◌∙◌, ℕ, Bool, List, [], ◌∷◌, Result, Ok, Err, ap, append-nil, refl, subst, sym, if◌then◌else◌}
use Rattle.std.proofs.lemmas.Bool.{false≢true}
use Rattle.std.specs.Prelude.{◌==◌}
use Rattle.std.specs.Result.{IsErr}
use Rattle.m2_base.specs.Asks.{IfKnown, IfWaits}
use Rattle.m2_base.specs.Rows.{row_meaning}
use Rattle.m2_base.specs.Statics.Closing.{Implemented, differs_at, implemented, is_implemented, is_missing}
use Rattle.m2_base.specs.Statics.Contexts.{Context}
use Rattle.m2_base.specs.declared.memory.Memory.{Memory}
use Rattle.m2_base.specs.declared.notes.Diag.{Diag}
use Rattle.m2_base.specs.declared.rows.Place.{Place}
use Rattle.m2_base.specs.declared.rows.Row.{Row}
use Rattle.m2_base.specs.declared.replies.Ask.{Ask}
use Rattle.m2_base.specs.declared.replies.Head.{Head}
use Rattle.type_rules.specs.Sites.{context_of}
use Rattle.decl_sem.specs.Closing.{AreChecked, row_implemented}
use Rattle.decl_sem.specs.Implementing.{implemented_view}
use Rattle.decl_sem.proofs.closing.check_row.Goals as goal

pub returns-in-DontKnowYet-clause-waits : goal.returns-in-DontKnowYet-clause-waits
returns-in-DontKnowYet-clause-waits g c = c.in-DontKnowYet.ensures.waits

pub returns-in-Fully-clause-waits : goal.returns-in-Fully-clause-waits
returns-in-Fully-clause-waits g c = tt

pub returns-in-Missing-clause-waits : goal.returns-in-Missing-clause-waits
returns-in-Missing-clause-waits g c = tt

pub returns-in_ok-refuse-in-Differs-clause-waits : goal.returns-in_ok-refuse-in-Differs-clause-waits
returns-in_ok-refuse-in-Differs-clause-waits g c = tt

-- a name that is not 0
not_none : {A : Type 0} (n : ℕ) (x y : A) → n ≢ 0 → (if n == 0 then x else y) ≡ y
not_none n x y h = let e : (n == 0) ≡ false = grind (arith, h) in rw e

-- a row with a name is checked, where it is implemented so
checked_one : (k : Context) (p : Place) (r : Row) (how : Implemented) (before after : List Diag) (missing : Bool) → r.name ≢ 0
    → how ≡ implemented k.scene p.scope p.ordinal r.name (row_meaning r) → AreChecked k (how ∷ []) before after missing
    → AreChecked k (row_implemented k p r) before after missing
checked_one k p r how before after missing named is h =
    subst (λ (all : List Implemented). AreChecked k all before after missing)
    (ap (λ (i : Implemented). i ∷ []) is ∙ sym (not_none r.name [] (implemented k.scene p.scope p.ordinal r.name (row_meaning r) ∷ []) named)) h

-- after want of memory nothing is known, and nothing is waited for
not_known : {T : Type 0} (r : Result (Ask T) Memory) (P : T → Type 0) → IsErr r → IfKnown r P
not_known (Ok x) P h = absurd (false≢true h)
not_known (Err m) P h = tt

not_waiting : {T : Type 0} (r : Result (Ask T) Memory) (P : Head → Type 0) → IsErr r → IfWaits r P
not_waiting (Ok x) P h = absurd (false≢true h)
not_waiting (Err m) P h = tt

pub returns-in-Fully-clause-told : goal.returns-in-Fully-clause-told
returns-in-Fully-clause-told g c made in_hand told =
    let before = c.args.notes.now.diags.items in
    checked_one (context_of (g.S.Scopes.state c.args.scopes.now).frame made c.args.site.now) c.args.place c.args.row.now is_implemented before before _ c.if-row-eq0.false
    (ap implemented_view (sym c.in-Fully.is) ∙ c.in-Known.ensures.told made in_hand told) (record { noted = sym (append-nil before); missing_is = refl })

pub returns-in-Missing-clause-told : goal.returns-in-Missing-clause-told
returns-in-Missing-clause-told g c made in_hand told =
    let before = c.args.notes.now.diags.items in
    checked_one (context_of (g.S.Scopes.state c.args.scopes.now).frame made c.args.site.now) c.args.place c.args.row.now is_missing before before _ c.if-row-eq0.false
    (ap implemented_view (sym c.in-Missing.is) ∙ c.in-Known.ensures.told made in_hand told) (record { noted = sym (append-nil before); missing_is = refl })

pub returns-in_ok-refuse-in-Differs-clause-told : goal.returns-in_ok-refuse-in-Differs-clause-told
returns-in_ok-refuse-in-Differs-clause-told g c made in_hand told =
    checked_one (context_of (g.S.Scopes.state c.args.scopes.now).frame made c.args.site.now) c.args.place c.args.row.now (differs_at c.in-Differs.at)
    c.args.notes.now.diags.items c.refuse.new.self.diags.items _ c.if-row-eq0.false
    (ap implemented_view (sym c.in-Differs.is) ∙ c.in-Known.ensures.told made in_hand told) (record { noted = c.in_ok-refuse-in-Differs.ensures.noted; missing_is = refl })

pub returns-in_err-refuse-in-Differs-clause-told : goal.returns-in_err-refuse-in-Differs-clause-told
returns-in_err-refuse-in-Differs-clause-told g c made in_hand told = not_known c.from_residual.result _ c.from_residual.ensures.0

pub returns-in_err-refuse-in-Differs-clause-waits : goal.returns-in_err-refuse-in-Differs-clause-waits
returns-in_err-refuse-in-Differs-clause-waits g c = not_waiting c.from_residual.result _ c.from_residual.ensures.0
