-- A refusal in the site's text, as a coding.
use Rattle.std.proofs.Common.{◌≡◌, ◌∙◌, ◌++◌, ◌∷◌, [], ℕ, List, Result, Ok, Err, subst, sym}
use Rattle.std.specs.Result.{IsErr}
use Rattle.m2_base.specs.Gives.{Gives}
use Rattle.m2_base.specs.Lists.{IsPrefixOf}
use Rattle.m2_base.specs.States.{Frame, State}
use Rattle.m2_base.specs.Statics.Contexts.{Context, refuse}
use Rattle.m2_base.specs.declared.memory.Memory.{Memory}
use Rattle.m2_base.specs.declared.notes.Diag.{Diag}
use Rattle.m2_base.specs.declared.notes.Notes.{Notes}
use Rattle.m2_base.specs.declared.replies.Ask.{Ask}
use Rattle.m2_base.specs.declared.replies.Ask.TheVariants.{Known}
use Rattle.m2_base.specs.declared.sites.Site.{Site}
use Rattle.m2_base.proofs.Kept.{Adds-refl, IsPrefixOf-refl, Works-notes}
use Rattle.expr_sem.specs.Codings.{Coding}
use Rattle.expr_sem.specs.declared.fragments.Node.{Node}
use Rattle.expr_sem.proofs.Sequencing.{Grows-refl}

-- a diagnostic at a token of the site's text, and what then stands for the value
pub refused_here : {T V : Type 0} (a : State) (x y : Notes) (ns : List Node) (s : Site) (v : T) (P : Frame → List Node → T → Type 0) (as_p : List Node → T → V) (at code : ℕ) (instead : V)
    → y.answers.items ≡ x.answers.items → y.diags.items ≡ x.diags.items ++ record { text = s.around.now.text; at = at; code = code } ∷ []
    → P a.frame ns v → as_p ns v ≡ instead → Coding a a x y ns ns s (Ok (Known v)) P as_p (λ c. refuse c at code instead)
refused_here a x y ns s v P as_p at code instead answers diags there told_as =
    record {
      works = Works-notes a x y answers (record { rest = record { text = s.around.now.text; at = at; code = code } ∷ []; joined = sym diags });
      waits = tt;
      grows = Grows-refl ns;
      told = λ made in_hand told of_site. record { value_is = told_as; diags = diags; answers = answers ∙ (Adds-refl x instead).answers };
      there = there;
    }

-- memory was wanted for a diagnostic
pub not_noted : {T V : Type 0} (a : State) (x y : Notes) (ns : List Node) (s : Site) (P : Frame → List Node → T → Type 0) (as_p : List Node → T → V) (g : Context → Gives V) (r : Result (Ask T) Memory)
    → IsErr r → y.answers.items ≡ x.answers.items → y.diags.items ≡ x.diags.items → Coding a a x y ns ns s r P as_p g
not_noted a x y ns s P as_p g (Ok v) h answers diags = absurd (cc)
not_noted a x y ns s P as_p g (Err m) h answers diags =
    record {
      works = Works-notes a x y answers (subst (λ (l : List Diag). IsPrefixOf x.diags.items l) (sym diags) (IsPrefixOf-refl x.diags.items));
      waits = tt;
      grows = Grows-refl ns;
      told = λ made in_hand told of_site. tt;
      there = tt;
    }
