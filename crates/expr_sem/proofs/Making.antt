-- Code that is made after a question.
use Rattle.std.specs.Prelude.{IsErr}
use Rattle.std.proofs.Common.{◌≡◌, List, Result, Ok, Err, false, true, refl, subst, sym}
use Rattle.m2_base.specs.Asks.{IfKnown, IfWaits}
use Rattle.m2_base.specs.Gives.{Adds, Gives, gives}
use Rattle.m2_base.specs.States.{Frame, State, Waits, Works}
use Rattle.m2_base.specs.Statics.Contexts.{Context}
use Rattle.m2_base.specs.declared.memory.Memory.{Memory}
use Rattle.m2_base.specs.declared.notes.Notes.{Notes}
use Rattle.m2_base.specs.declared.replies.Ask.{Ask}
use Rattle.m2_base.specs.declared.replies.Ask.TheVariants.{Known, DontKnowYet}
use Rattle.m2_base.specs.declared.replies.Head.{Head}
use Rattle.m2_base.specs.declared.sites.Site.{Site}
use Rattle.m2_base.proofs.Kept.{Adds-refl, IsPrefixOf-refl, Waits_after, Works-kept, Works-trans}
use Rattle.type_rules.specs.Asks.{Reads}
use Rattle.type_rules.specs.Scenes.{Hand, WhereTold}
use Rattle.type_rules.specs.Sites.{AreOfSite, context_of}
use Rattle.type_rules.proofs.Compatibles.{told_later}
use Rattle.type_rules.proofs.Reading.{Reads-refl}
use Rattle.expr_sem.specs.Codings.{Coding, IsFragment}
use Rattle.expr_sem.specs.Fragments.{IsIn, IsMade, part}
use Rattle.expr_sem.specs.MadeAnswers.{answer_of}
use Rattle.block_code.specs.Parts.{Part}
use Rattle.expr_sem.specs.declared.fragments.Fragment.{Fragment}
use Rattle.expr_sem.specs.declared.fragments.Node.{Node}
use Rattle.expr_sem.proofs.Sequencing.{Grows-refl}

works_read : {a b : State} (n : Notes) → Reads a b → Works a b n n
works_read n r = Works-kept n n r.keeps refl (IsPrefixOf-refl n.diags.items)

waits_on : {U : Type 0} {a b : State} (d : State) (answer : Result (Ask U) Memory) → Reads a b → IfWaits answer (λ head. Waits b d head) → IfWaits answer (λ head. Waits a d head)
waits_on d (Ok (Known v)) r h = tt
waits_on d (Ok (DontKnowYet head)) r h = Waits_after r.keeps h
waits_on d (Err m) r h = tt

module _ {T V : Type 0} {a b : State} {s : Site} {P : Frame → List Node → T → Type 0} {as_p : List Node → T → V} where
  -- What comes after a question. Its description `g` rests on what the question told.
  pub after_question : {d : State} {x y : Notes} {ns ms : List Node} {g h : Context → Gives V} (answer : Result (Ask T) Memory) → Reads a b → Coding b d x y ns ms s answer P as_p g
      → WhereTold a.frame (λ made. g (context_of a.frame made s) ≡ h (context_of a.frame made s)) → Coding a d x y ns ms s answer P as_p h
  after_question {d} {x} {y} {ns} {ms} {g} answer r p e =
      record {
        works = Works-trans (works_read x r) p.works;
        waits = waits_on d answer r p.waits;
        grows = p.grows;
        told = λ made in_hand told of_site. subst (λ given. IfKnown answer (λ v. Adds x y given (as_p ms v))) (e made in_hand told)
            (told_later a.frame b.frame (λ f rows. AreOfSite s rows → IfKnown answer (λ v. Adds x y (g (context_of f rows s)) (as_p ms v))) r.keeps.frame p.told made in_hand told of_site);
        there = subst (λ (f : Frame). IfKnown answer (λ v. P f ms v)) r.keeps.frame p.there;
      }

  -- the question itself isn't known yet
  pub question_waits : {head : Head} {h : Context → Gives V} (n : Notes) (ns : List Node) → Reads a b → Waits a b head → Coding a b n n ns ns s (Ok (DontKnowYet head)) P as_p h
  question_waits n ns r w = record { works = works_read n r; waits = w; grows = Grows-refl ns; told = λ made in_hand told of_site. tt; there = tt }

  -- memory was wanted after it
  pub question_wanted : {ns ms : List Node} {m : Memory} {p : Part} {h : Context → Gives V} (n : Notes) → Reads a b → IsMade ns ms (Err m) p → (k : Memory) → Coding a b n n ns ms s (Err k) P as_p h
  question_wanted n r m k = record { works = works_read n r; waits = tt; grows = m.grows; told = λ made in_hand told of_site. tt; there = tt }

  pub question_full : {ns ms : List Node} {m : Memory} {p : Part} {h : Context → Gives V} (n : Notes) (r : Result (Ask T) Memory) → IsErr r → Reads a b → IsMade ns ms (Err m) p → Coding a b n n ns ms s r P as_p h
  question_full n (Ok f) is reads h = absurd (let h : false ≡ true = is in cc)
  question_full n (Err k) is reads h = question_wanted n reads h k

  -- memory is wanted, and nothing was done
  pub question_failed : {h : Context → Gives V} (n : Notes) (ns : List Node) → Reads a b → (k : Memory) → Coding a b n n ns ns s (Err k) P as_p h
  question_failed n ns r k = record { works = works_read n r; waits = tt; grows = Grows-refl ns; told = λ made in_hand told of_site. tt; there = tt }

-- a fragment that is made after a question
pub fragment_told : {a b : State} {s : Site} {ns ms : List Node} {p : Part} (n : Notes) (f : Fragment) (g : Context → Part) → Reads a b → IsMade ns ms (Ok f) p
    → WhereTold a.frame (λ made. p ≡ g (context_of a.frame made s)) → Coding a b n n ns ms s (Ok (Known f)) IsFragment part (λ c. gives (g c))
fragment_told {a} {b} {s} {ns} {ms} {p} n f g r m e =
    record {
      works = works_read n r;
      waits = tt;
      grows = m.grows;
      told = λ made in_hand told of_site. subst (λ given. Adds n n (gives given) (part ms f)) (e made in_hand told)
          (subst (λ given. Adds n n (gives given) (part ms f)) m.made.part_is (Adds-refl n (part ms f)));
      there = m.made.there;
    }

-- what is made after a question, by the answer
pub made_told : {a b : State} {s : Site} {ns ms : List Node} {p : Part} (n : Notes) (made : Result Fragment Memory) (answer : Result (Ask Fragment) Memory) (g : Context → Part) → answer ≡ answer_of made
    → Reads a b → IsMade ns ms made p → WhereTold a.frame (λ rows. p ≡ g (context_of a.frame rows s)) → Coding a b n n ns ms s answer IsFragment part (λ c. gives (g c))
made_told {a} {b} {s} {ns} {ms} {p} n (Ok f) answer g same r m e =
    subst (λ x. Coding a b n n ns ms s x IsFragment part (λ c. gives (g c))) (sym same) (fragment_told n f g r m e)
made_told {a} {b} {s} {ns} {ms} {p} n (Err k) answer g same r m e =
    subst (λ x. Coding a b n n ns ms s x IsFragment part (λ c. gives (g c))) (sym same) (question_wanted n r m k)

-- what is made with no question
pub made_alone : {a : State} {s : Site} {ns ms : List Node} {p : Part} (n : Notes) (made : Result Fragment Memory) (answer : Result (Ask Fragment) Memory) (g : Context → Part) → answer ≡ answer_of made
    → IsMade ns ms made p → ((rows : Hand) → p ≡ g (context_of a.frame rows s)) → Coding a a n n ns ms s answer IsFragment part (λ c. gives (g c))
made_alone {a} n made answer g same m e = made_told n made answer g same (Reads-refl a) m (λ rows in_hand told. e rows)

-- what is there already
pub there_told : {a b : State} {s : Site} {ns : List Node} (n : Notes) (f : Fragment) (g : Context → Part) → Reads a b → IsIn ns f
    → WhereTold a.frame (λ rows. part ns f ≡ g (context_of a.frame rows s)) → Coding a b n n ns ns s (Ok (Known f)) IsFragment part (λ c. gives (g c))
there_told {ns = ns} n f g r h e = fragment_told n f g r (record { grows = Grows-refl ns; made = record { there = h; part_is = refl } }) e
