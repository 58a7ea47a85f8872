-- What is noted of labels.
use Rattle.std.proofs.Common.{◌≡◌, ◌∙◌, ℕ, Ok, Err, refl, sym}
use Rattle.std.proofs.lemmas.List.{append-nil}
use Rattle.m2_base.specs.Noting.{IsRefused}
use Rattle.m2_base.specs.Gives.{Gives}
use Rattle.m2_base.specs.Lists.{IsPrefixOf}
use Rattle.m2_base.specs.States.{Frame, State}
use Rattle.m2_base.specs.Statics.Contexts.{Context, refuse}
use Rattle.m2_base.specs.declared.memory.Memory.{Memory}
use Rattle.m2_base.specs.declared.notes.Notes.{Notes}
use Rattle.m2_base.specs.declared.replies.Ask.TheVariants.{Known}
use Rattle.m2_base.specs.declared.sites.Site.{Site}
use Rattle.m2_base.proofs.Kept.{Works-notes}
use Rattle.const_eval.specs.Analyses.{Analysed}

-- a diagnostic is noted in the site's text
pub refused : {T : Type 0} (a : State) (x y : Notes) (s : Site) (at code : ℕ) (v : T) (P : Frame → T → Type 0) → P a.frame v → IsRefused x y s.around.now.text at code → y.answers.items ≡ x.answers.items → IsPrefixOf x.diags.items y.diags.items
    → Analysed a a x y s (Ok (Known v)) P (λ c. refuse c at code v)
refused a x y s at code v P stands noted answers diags =
    record {
      works = Works-notes a x y answers diags;
      waits = tt;
      told = λ made in_hand told of_site. record { value_is = refl; diags = noted; answers = answers ∙ sym (append-nil x.answers.items) };
      there = stands;
    }

-- or finds no memory
pub unnoted : {T : Type 0} (a : State) (x y : Notes) (s : Site) (m : Memory) (P : Frame → T → Type 0) (g : Context → Gives T) → y.answers.items ≡ x.answers.items → IsPrefixOf x.diags.items y.diags.items
    → Analysed a a x y s (Err m) P g
unnoted a x y s m P g answers diags =
    record { works = Works-notes a x y answers diags; waits = tt; told = λ made in_hand told of_site. tt; there = tt }
