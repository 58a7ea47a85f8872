-- Steps of an analysis one after another, whatever they give: what was noted before stays, and so do the fragments.
use Rattle.std.specs.Prelude.{IsErr}
use Rattle.std.proofs.Common.{◌≡◌, List, Result, Ok, Err, ap, false, refl, subst, sym, true}
use Rattle.m2_base.specs.Gives.{Gives, gives}
use Rattle.m2_base.specs.States.{Frame, State, Waits, Works}
use Rattle.m2_base.specs.Statics.Contexts.{Context}
use Rattle.m2_base.specs.declared.memory.Memory.{Memory}
use Rattle.m2_base.specs.declared.notes.Notes.{Notes}
use Rattle.m2_base.specs.declared.replies.Ask.{Ask}
use Rattle.m2_base.specs.declared.replies.Ask.TheVariants.{Known, DontKnowYet}
use Rattle.m2_base.specs.declared.replies.Head.{Head}
use Rattle.m2_base.specs.declared.sites.Site.{Site}
use Rattle.m2_base.proofs.Kept.{IsPrefixOf-refl, Waits_after, Works-kept, Works-trans}
use Rattle.type_rules.specs.Asks.{Reads}
use Rattle.type_rules.specs.Scenes.{Suits, WhereTold}
use Rattle.type_rules.specs.Sites.{SuitsSite, context_of}
use Rattle.expr_sem.specs.Codings.{Coding, IsCoded, IsFragment}
use Rattle.expr_sem.specs.Fragments.{Grows, IsIn, IsMade, part}
use Rattle.block_code.specs.Parts.{Part}
use Rattle.expr_sem.specs.declared.coded.Coded.{Coded}
use Rattle.expr_sem.specs.declared.fragments.Fragment.{Fragment}
use Rattle.expr_sem.specs.declared.fragments.Node.{Node}
use Rattle.expr_sem.proofs.Making.{after_question}
use Rattle.expr_sem.proofs.Operating.{coding_after, described, stays_coded}
use Rattle.expr_sem.proofs.Sequencing.{Grows-refl, Grows-trans, in_later, part_later}

-- what steps leave
pub record Leads (a b : State) (x y : Notes) (from to : List Node) : Type 0 where
  pub works : Works a b x y
  pub grows : Grows from to

pub by_coding : {T V : Type 0} {a b : State} {x y : Notes} {ns ms : List Node} {s : Site} {P : Frame → List Node → T → Type 0} {as_p : List Node → T → V} {g : Context → Gives V} {answer : Result (Ask T) Memory} → Coding a b x y ns ms s answer P as_p g → Leads a b x y ns ms
by_coding p = record { works = p.works; grows = p.grows }

pub by_question : {a b : State} (n : Notes) (ns : List Node) → Reads a b → Leads a b n n ns ns
by_question n ns r = record { works = Works-kept n n r.keeps refl (IsPrefixOf-refl n.diags.items); grows = Grows-refl ns }

module _ {a b d : State} {x y z : Notes} {n1 n2 n3 : List Node} where
  pub followed_by : Leads a b x y n1 n2 → Leads b d y z n2 n3 → Leads a d x z n1 n3
  followed_by p q = record { works = Works-trans p.works q.works; grows = Grows-trans p.grows q.grows }

module _ {a b : State} {x y : Notes} {n1 n2 : List Node} (p : Leads a b x y n1 n2) where
  -- what could stand before can stand after
  pub holds : (Q : Frame → Type 0) → Q a.frame → Q b.frame
  holds Q h = subst Q (sym p.works.keeps.frame) h

  -- what can stand after could stand before
  pub held : (Q : Frame → Type 0) → Q b.frame → Q a.frame
  held Q h = subst Q p.works.keeps.frame h

  pub still_suits : {t : Site} → SuitsSite a.frame t → SuitsSite b.frame t
  still_suits {t} h = holds (λ (f : Frame). SuitsSite f t) h

  pub still_around : {t : Site} → SuitsSite a.frame t → Suits b.frame t.around.now
  still_around {t} h = (still_suits h).around

  pub still_coded : (v : Coded) → IsCoded a.frame n1 v → IsCoded b.frame n2 v
  still_coded v h = stays_coded p.works.keeps.frame p.grows v h

  pub still_in : (f : Fragment) → IsIn n1 f → IsIn n2 f
  still_in f h = in_later p.grows f h

module _ {T V : Type 0} {a b : State} {x y : Notes} {n1 n2 : List Node} {s : Site} {P : Frame → List Node → T → Type 0} {as_p : List Node → T → V} {g : Context → Gives V} where
  -- then a question isn't known yet
  pub then_waits : {d : State} {head : Head} → Leads a b x y n1 n2 → Reads b d → Waits b d head → Coding a d x y n1 n2 s (Ok (DontKnowYet head)) P as_p g
  then_waits p r w =
      record {
        works = Works-trans p.works (Works-kept y y r.keeps refl (IsPrefixOf-refl y.diags.items));
        waits = Waits_after p.works.keeps w;
        grows = p.grows;
        told = λ made in_hand told of_site. tt;
        there = tt;
      }

  -- then an analysis isn't known yet
  pub then_unknown : {U W : Type 0} {d : State} {z : Notes} {n3 : List Node} {head : Head} {Q : Frame → List Node → U → Type 0} {as_q : List Node → U → W} {h : Context → Gives W} → Leads a b x y n1 n2
      → Coding b d y z n2 n3 s (Ok (DontKnowYet head)) Q as_q h → Coding a d x z n1 n3 s (Ok (DontKnowYet head)) P as_p g
  then_unknown p q = record { works = Works-trans p.works q.works; waits = Waits_after p.works.keeps q.waits; grows = Grows-trans p.grows q.grows; told = λ made in_hand told of_site. tt; there = tt }

  -- then memory is wanted
  pub then_wanted : {U W : Type 0} {d : State} {z : Notes} {n3 : List Node} {m : Memory} {Q : Frame → List Node → U → Type 0} {as_q : List Node → U → W} {h : Context → Gives W} → Leads a b x y n1 n2
      → Coding b d y z n2 n3 s (Err m) Q as_q h → (k : Memory) → Coding a d x z n1 n3 s (Err k) P as_p g
  then_wanted p q k = record { works = Works-trans p.works q.works; waits = tt; grows = Grows-trans p.grows q.grows; told = λ made in_hand told of_site. tt; there = tt }

  -- then memory is wanted for a fragment
  pub then_full : {n3 : List Node} {m : Memory} {q : Part} (r : Result (Ask T) Memory) → IsErr r → Leads a b x y n1 n2 → IsMade n2 n3 (Err m) q → Coding a b x y n1 n3 s r P as_p g
  then_full (Ok v) is p made = absurd (let h : false ≡ true = is in cc)
  then_full (Err k) is p made = record { works = p.works; waits = tt; grows = Grows-trans p.grows made.grows; told = λ made in_hand told of_site. tt; there = tt }

  -- then memory is wanted, and nothing was made
  pub then_failed : (r : Result (Ask T) Memory) → IsErr r → Leads a b x y n1 n2 → Coding a b x y n1 n2 s r P as_p g
  then_failed (Ok v) is p = absurd (let h : false ≡ true = is in cc)
  then_failed (Err k) is p = record { works = p.works; waits = tt; grows = p.grows; told = λ made in_hand told of_site. tt; there = tt }

-- what comes after a question, whose answer is as the definition says
pub asked : {Q T V : Type 0} {a b d : State} {x y : Notes} {ns ms : List Node} {s : Site} {P : Frame → List Node → T → Type 0} {as_p : List Node → T → V} {v : Q} (q : Context → Q) (h : Q → Context → Gives V) (answer : Result (Ask T) Memory) → Reads a b
    → WhereTold a.frame (λ made. v ≡ q (context_of a.frame made s)) → Coding b d x y ns ms s answer P as_p (h v) → Coding a d x y ns ms s answer P as_p (λ c. h (q c) c)
asked {Q} {a = a} {s = s} q h answer r e p = after_question answer r p (λ made in_hand told. ap (λ (u : Q). h u (context_of a.frame made s)) (e made in_hand told))

-- what is made of two values, the second made after the first
pub after_values : {T V : Type 0} {a b d e : State} {n : Notes} {n1 n2 n3 n4 : List Node} {s : Site} {P : Frame → List Node → T → Type 0} {as_p : List Node → T → V} {x y : Fragment} (f g : Context → Part) (h : Part → Part → Context → V) (answer : Result (Ask T) Memory)
    → Coding a b n n n1 n2 s (Ok (Known x)) IsFragment part (λ c. gives (f c)) → Coding b d n n n2 n3 s (Ok (Known y)) IsFragment part (λ c. gives (g c)) → Coding d e n n n3 n4 s answer P as_p (λ c. gives (h (part n3 x) (part n3 y) c))
    → Coding a e n n n1 n4 s answer P as_p (λ c. gives (h (f c) (g c) c))
after_values {n2 = n2} {n3 = n3} {x = x} {y = y} f g h answer first second last =
    coding_after (λ c. gives (f c)) (λ p c. gives (h p (g c) c)) answer first
    (coding_after (λ c. gives (g c)) (λ q c. gives (h (part n2 x) q c)) answer second
    (described answer last (λ c. ap (λ (p : Part). gives (h p (part n3 y) c)) (part_later second.grows x first.there))))
