-- Types that names lead to, and what is noted of names that are no type's.
use Rattle.std.specs.Prelude.{◌≡◌, ℕ, ◌<◌, ◌^◌}
use Rattle.std.proofs.Common.{refl, sym, ap, ◌∙◌, subst, arith, Ok, Err, Result}
use Rattle.std.proofs.lemmas.List.{append-nil}
use Rattle.m2_base.specs.Noting.{IsRefused}
use Rattle.m2_base.specs.Gives.{Gives}
use Rattle.m2_base.specs.Lists.{IsPrefixOf}
use Rattle.m2_base.specs.Rows.{IsBefore}
use Rattle.m2_base.specs.Standard.{broken}
use Rattle.m2_base.specs.States.{Frame, State}
use Rattle.m2_base.specs.Statics.Contexts.{Context, refuse}
use Rattle.m2_base.specs.declared.memory.Memory.{Memory}
use Rattle.m2_base.specs.declared.notes.Notes.{Notes}
use Rattle.m2_base.specs.declared.replies.Ask.{Ask}
use Rattle.m2_base.specs.declared.replies.Ask.TheVariants.{Known}
use Rattle.m2_base.specs.declared.rows.Place.{Place}
use Rattle.m2_base.specs.declared.sites.Around.{Around}
use Rattle.m2_base.specs.declared.sites.Site.{Site}
use Rattle.m2_base.proofs.Kept.{Works-notes}
use Rattle.type_rules.specs.Scenes.{IsThere, Suits}
use Rattle.const_eval.specs.Analyses.{Analysed}
use Rattle.const_eval.proofs.TypesThere.{standard_there}

-- ** Places

pub broken_there : {f : Frame} {a : Around} → Suits f a → IsThere f broken
broken_there suits = standard_there suits 10

-- what stands before a place that is there, is there
pub before_there : {f : Frame} {p t : Place} → p.ordinal < 2 ^ 32 → IsThere f p → IsBefore t p → IsThere f t
before_there {f} {p} {t} small h b =
    record {
      scope = let s = h.scope in omega (arith, small, b, s);
      entered = λ same begun. let s = h.scope in let here : p.scope ≡ f.setting.fills = omega (arith, small, b, s, same) in let e = h.entered here begun in omega (arith, b, e, same, here, small);
    }

pub ruleset uses = (broken_there, before_there)

-- ** Diagnostics

module _ {T : Type 0} (a : State) (x y : Notes) (s : Site) (at code : ℕ) (v : T) (P : Frame → T → Type 0) where
  -- a diagnostic is noted in the site's text
  pub refused : P a.frame v → IsRefused x y s.around.now.text at code → y.answers.items ≡ x.answers.items → IsPrefixOf x.diags.items y.diags.items
      → Analysed a a x y s (Ok (Known v)) P (λ c. refuse c at code v)
  refused stands noted answers diags =
      record {
        works = Works-notes a x y answers diags;
        waits = tt;
        told = λ made in_hand told of_site. record { value_is = refl; diags = noted; answers = answers ∙ sym (append-nil x.answers.items) };
        there = stands;
      }

-- or finds no memory
pub unnoted : {T : Type 0} (a : State) (x y : Notes) (s : Site) (m : Memory) (P : Frame → T → Type 0) (g : Context → Gives T) → y.answers.items ≡ x.answers.items → IsPrefixOf x.diags.items y.diags.items
    → Analysed a a x y s (Err m) P g
unnoted a x y s m P g answers diags =
    record { works = Works-notes a x y answers diags; waits = tt; told = λ made in_hand told of_site. tt; there = tt }

-- an analysis whose answer is known
pub first_known : {T : Type 0} (a b : State) (x y : Notes) (s : Site) (P : Frame → T → Type 0) (g : Context → Gives T) {result : Result (Ask T) Memory} {asked : Ask T} {v : T} → result ≡ Ok asked → asked ≡ Known v
    → Analysed a b x y s result P g → Analysed a b x y s (Ok (Known v)) P g
first_known {T} a b x y s P g {result} {asked} {v} e f p =
    let e2 : result ≡ Ok (Known v) = e ∙ ap (λ (k : Ask T). Ok k) f in
    subst (λ (r : Result (Ask T) Memory). Analysed a b x y s r P g) e2 p
