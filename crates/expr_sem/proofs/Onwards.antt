-- What comes after code whose value is known: a value or a fragment made of it, or further code.
use Rattle.std.proofs.Common.{◌≡◌, ◌∙◌, List, Result, Ok, Err, true, false, ap, sym, subst}
use Rattle.std.specs.Prelude.{IsErr}
use Rattle.m2_base.specs.Gives.{Gives, gives}
use Rattle.m2_base.specs.States.{Frame, State}
use Rattle.m2_base.specs.Statics.Contexts.{Context}
use Rattle.m2_base.specs.declared.memory.Memory.{Memory}
use Rattle.m2_base.specs.declared.notes.Notes.{Notes}
use Rattle.m2_base.specs.declared.replies.Ask.{Ask}
use Rattle.m2_base.specs.declared.replies.Ask.TheVariants.{Known}
use Rattle.m2_base.specs.declared.sites.Site.{Site}
use Rattle.type_rules.specs.Sites.{SuitsSite, context_of}
use Rattle.expr_sem.specs.Codings.{Coding, IsCoded, IsFragment}
use Rattle.expr_sem.specs.Fragments.{Grows, IsIn, IsMade, part}
use Rattle.block_code.specs.Parts.{Part}
use Rattle.expr_sem.specs.declared.coded.Coded.{Coded}
use Rattle.expr_sem.specs.declared.fragments.Fragment.{Fragment}
use Rattle.expr_sem.specs.declared.fragments.Node.{Node}
use Rattle.expr_sem.proofs.Sequencing.{Grows-trans, in_later}
use Rattle.expr_sem.proofs.Operating.{made_wanted, stays_coded}

module _ {T U V W : Type 0} {a b : State} {x y : Notes} {n1 n2 n3 : List Node} {s : Site} {P : Frame → List Node → T → Type 0} {as_p : List Node → T → V} {f : Context → V} {v : T} where
  -- a value that is made of it
  pub with_grown : {Q : Frame → List Node → U → Type 0} {as_q : List Node → U → W} (h : V → Context → W) (w : U) → Coding a b x y n1 n2 s (Ok (Known v)) P as_p (λ c. gives (f c))
      → Grows n2 n3 → Q a.frame n3 w → ((c : Context) → as_q n3 w ≡ h (as_p n2 v) c) → Coding a b x y n1 n3 s (Ok (Known w)) Q as_q (λ c. gives (h (f c) c))
  with_grown h w p g there e =
      record {
        works = p.works;
        waits = tt;
        grows = Grows-trans p.grows g;
        told = λ made in_hand told of_site.
            let t = p.told made in_hand told of_site in
            record { value_is = e (context_of a.frame made s) ∙ ap (λ u. h u (context_of a.frame made s)) t.value_is; diags = t.diags; answers = t.answers };
        there = there;
      }

  -- memory was wanted while a fragment was made
  pub with_wanted : {m : Memory} {q : Part} {Q : Frame → List Node → U → Type 0} {as_q : List Node → U → W} {g : Context → Gives W} (r : Result (Ask U) Memory) → IsErr r
      → Coding a b x y n1 n2 s (Ok (Known v)) P as_p (λ c. gives (f c)) → IsMade n2 n3 (Err m) q → Coding a b x y n1 n3 s r Q as_q g
  with_wanted (Ok u) is p m = absurd (let h : false ≡ true = is in cc)
  with_wanted (Err k) is p m = record { works = p.works; waits = tt; grows = Grows-trans p.grows m.grows; told = λ made in_hand told of_site. tt; there = tt }

-- memory was wanted while a fragment was made, of nothing before
pub just_wanted : {T V : Type 0} (a : State) (n : Notes) {ns ms : List Node} (s : Site) {m : Memory} {p : Part} {P : Frame → List Node → T → Type 0} {as_p : List Node → T → V} {g : Context → Gives V} (r : Result (Ask T) Memory) → IsErr r
    → IsMade ns ms (Err m) p → Coding a a n n ns ms s r P as_p g
just_wanted a n s (Ok u) is h = absurd (let e : false ≡ true = is in cc)
just_wanted a n s (Err k) is h = made_wanted a n s h k

-- a fragment that is made of it
pub with_fragment : {T V : Type 0} {a b : State} {x y : Notes} {n1 n2 n3 : List Node} {s : Site} {P : Frame → List Node → T → Type 0} {as_p : List Node → T → V} {f : Context → V} {v : T} {w : Fragment} {q : Part} (h : V → Part)
    → Coding a b x y n1 n2 s (Ok (Known v)) P as_p (λ c. gives (f c)) → IsMade n2 n3 (Ok w) q → q ≡ h (as_p n2 v) → Coding a b x y n1 n3 s (Ok (Known w)) IsFragment part (λ c. gives (h (f c)))
with_fragment {w = w} h p m e = with_grown (λ u c. h u) w p m.grows m.made.there (λ c. m.made.part_is ∙ e)

module _ {T V : Type 0} {a b : State} {x y : Notes} {n1 n2 : List Node} {s : Site} {P : Frame → List Node → T → Type 0} {as_p : List Node → T → V} {g : Context → Gives V} {answer : Result (Ask T) Memory} (p : Coding a b x y n1 n2 s answer P as_p g) where
  -- what could stand before can stand after
  pub holds_after : (Q : Frame → Type 0) → Q a.frame → Q b.frame
  holds_after Q h = subst Q (sym p.works.keeps.frame) h

  pub suits_after : {t : Site} → SuitsSite a.frame t → SuitsSite b.frame t
  suits_after {t} h = holds_after (λ (f : Frame). SuitsSite f t) h

  pub coded_after : (z : Coded) → IsCoded a.frame n1 z → IsCoded b.frame n2 z
  coded_after z h = stays_coded p.works.keeps.frame p.grows z h

  pub in_after : (f : Fragment) → IsIn n1 f → IsIn n2 f
  in_after f h = in_later p.grows f h
