-- Codings one after another, as operators and sets use them.
use Rattle.std.proofs.Common.{◌≡◌, ◌∙◌, List, Option, Some, None, Result, Ok, Err, ap, sym, subst, refl}
use Rattle.std.specs.Option.{IfSome}
use Rattle.m2_base.specs.Asks.{IfKnown, IfWaits}
use Rattle.m2_base.specs.Gives.{Adds, Gives, and_then, gives}
use Rattle.m2_base.specs.States.{Frame, State, Waits, Works}
use Rattle.m2_base.specs.Statics.Contexts.{Context}
use Rattle.m2_base.specs.declared.memory.Memory.{Memory}
use Rattle.m2_base.specs.declared.notes.Notes.{Notes}
use Rattle.m2_base.specs.declared.replies.Ask.{Ask}
use Rattle.m2_base.specs.declared.replies.Ask.TheVariants.{Known, DontKnowYet}
use Rattle.m2_base.specs.declared.replies.Head.{Head}
use Rattle.m2_base.specs.declared.sites.Site.{Site}
use Rattle.m2_base.proofs.Kept.{Adds-and_then, Adds-refl, Waits_after, IsPrefixOf-refl, Works-kept, Works-refl, Works-trans}
use Rattle.type_rules.specs.Asks.{Reads, WhereKnown, WhereWaiting}
use Rattle.type_rules.specs.Scenes.{Hand, WhereTold}
use Rattle.type_rules.specs.Sites.{AreOfSite, context_of}
use Rattle.type_rules.proofs.Compatibles.{told_later}
use Rattle.const_eval.specs.Analyses.{Analysed}
use Rattle.const_eval.specs.Sites.{IsOperand}
use Rattle.expr_sem.specs.Codings.{Coding, IsCoded, IsFragment, coded_in, high_in}
use Rattle.expr_sem.specs.Fragments.{Grows, IsIn, IsMade, part}
use Rattle.block_code.specs.Parts.{Part}
use Rattle.expr_sem.specs.declared.coded.Coded.{Coded}
use Rattle.expr_sem.specs.declared.fragments.Fragment.{Fragment}
use Rattle.expr_sem.specs.declared.fragments.Node.{Node}
use Rattle.expr_sem.proofs.Sequencing.{Grows-refl, Grows-trans, in_later, part_later}

-- an analysis without code
pub of_analysed : {T : Type 0} {a b : State} {x y : Notes} {s : Site} {P : Frame → T → Type 0} {g : Context → Gives T} (ns : List Node) (answer : Result (Ask T) Memory)
    → Analysed a b x y s answer P g → Coding a b x y ns ns s answer (λ f n v. P f v) (λ n v. v) g
of_analysed ns (Ok (Known v)) p =
    record { works = p.works; waits = p.waits; grows = Grows-refl ns; told = λ made in_hand told of_site. p.told made in_hand told of_site; there = p.there }
of_analysed ns (Ok (DontKnowYet h)) p =
    record { works = p.works; waits = p.waits; grows = Grows-refl ns; told = λ made in_hand told of_site. tt; there = tt }
of_analysed ns (Err m) p = record { works = p.works; waits = tt; grows = Grows-refl ns; told = λ made in_hand told of_site. tt; there = tt }

module _ {T U V W : Type 0} {a b : State} {x y : Notes} {ns ms : List Node} {s : Site} {P : Frame → List Node → T → Type 0} {Q : Frame → List Node → U → Type 0} {as_p : List Node → T → V} {as_q : List Node → U → W} {g : Context → Gives V} {h : Context → Gives W} where
  -- after want of memory nothing more is said
  pub unmade : {m : Memory} → Coding a b x y ns ms s (Err m) P as_p g → (n : Memory) → Coding a b x y ns ms s (Err n) Q as_q h
  unmade p n = record { works = p.works; waits = tt; grows = p.grows; told = λ made in_hand told of_site. tt; there = tt }

  -- what isn't known yet of a part isn't known yet of the whole
  pub unknown : {head : Head} → Coding a b x y ns ms s (Ok (DontKnowYet head)) P as_p g → Coding a b x y ns ms s (Ok (DontKnowYet head)) Q as_q h
  unknown p = record { works = p.works; waits = p.waits; grows = p.grows; told = λ made in_hand told of_site. tt; there = tt }

waits_on : {U : Type 0} {a b : State} (d : State) {x y : Notes} (answer : Result (Ask U) Memory) → Works a b x y → IfWaits answer (λ head. Waits b d head) → IfWaits answer (λ head. Waits a d head)
waits_on d (Ok (Known v)) w h = tt
waits_on d (Ok (DontKnowYet head)) w h = Waits_after w.keeps h
waits_on d (Err m) w h = tt

module _ {T U V W : Type 0} {a b d : State} {x y z : Notes} {n1 n2 n3 : List Node} {s : Site} {P : Frame → List Node → T → Type 0} {Q : Frame → List Node → U → Type 0} {as_p : List Node → T → V} {as_q : List Node → U → W} (g : Context → Gives V) (h : V → Context → Gives W) where
  -- one coding after another
  pub coding_after : {v : T} (answer : Result (Ask U) Memory) → Coding a b x y n1 n2 s (Ok (Known v)) P as_p g → Coding b d y z n2 n3 s answer Q as_q (h (as_p n2 v))
      → Coding a d x z n1 n3 s answer Q as_q (λ c. and_then (g c) (λ u. h u c))
  coding_after {v} answer p q =
      record {
        works = Works-trans p.works q.works;
        waits = waits_on d answer p.works q.waits;
        grows = Grows-trans p.grows q.grows;
        told = λ made in_hand told of_site. both made answer (p.told made in_hand told of_site)
            (told_later a.frame b.frame (λ f rows. AreOfSite s rows → IfKnown answer (λ w. Adds y z (h (as_p n2 v) (context_of f rows s)) (as_q n3 w))) p.works.keeps.frame q.told made in_hand told of_site);
        there = subst (λ (f : Frame). IfKnown answer (λ w. Q f n3 w)) p.works.keeps.frame q.there;
      }
    where
      both : (made : Hand) (answer : Result (Ask U) Memory) → Adds x y (g (context_of a.frame made s)) (as_p n2 v) → IfKnown answer (λ w. Adds y z (h (as_p n2 v) (context_of a.frame made s)) (as_q n3 w))
          → IfKnown answer (λ w. Adds x z (and_then (g (context_of a.frame made s)) (λ u. h u (context_of a.frame made s))) (as_q n3 w))
      both made (Ok (Known w)) p' q' = Adds-and_then (g (context_of a.frame made s)) (λ u. h u (context_of a.frame made s)) p' q'
      both made (Ok (DontKnowYet head)) p' q' = tt
      both made (Err m) p' q' = tt

module _ {T V : Type 0} {a b : State} {x y : Notes} {ns ms : List Node} {s : Site} {P : Frame → List Node → T → Type 0} {as_p : List Node → T → V} {g h : Context → Gives V} where
  -- the same, of another description at the contexts of the site
  pub described_there : (answer : Result (Ask T) Memory) → Coding a b x y ns ms s answer P as_p g → ((made : Hand) → g (context_of a.frame made s) ≡ h (context_of a.frame made s)) → Coding a b x y ns ms s answer P as_p h
  described_there answer p e =
      record {
        works = p.works;
        waits = p.waits;
        grows = p.grows;
        told = λ made in_hand told of_site. subst (λ given. IfKnown answer (λ v. Adds x y given (as_p ms v))) (e made) (p.told made in_hand told of_site);
        there = p.there;
      }

  -- the same, of another description
  pub described : (answer : Result (Ask T) Memory) → Coding a b x y ns ms s answer P as_p g → ((c : Context) → g c ≡ h c) → Coding a b x y ns ms s answer P as_p h
  described answer p e = described_there answer p (λ made. e (context_of a.frame made s))

-- a value alone
pub value_alone : {T V : Type 0} (a : State) (n : Notes) (ns : List Node) (s : Site) (v : T) (P : Frame → List Node → T → Type 0) (as_p : List Node → T → V) (f : Context → V)
    → P a.frame ns v → ((c : Context) → as_p ns v ≡ f c) → Coding a a n n ns ns s (Ok (Known v)) P as_p (λ c. gives (f c))
value_alone a n ns s v P as_p f h e =
    record {
      works = Works-refl a n;
      waits = tt;
      grows = Grows-refl ns;
      told = λ made in_hand told of_site. subst (λ given. Adds n n (gives given) (as_p ns v)) (e (context_of a.frame made s)) (Adds-refl n (as_p ns v));
      there = h;
    }

-- a value made of what is there, with further fragments
pub value_grown : {T V : Type 0} (a : State) (n : Notes) {ns ms : List Node} (s : Site) (v : T) (P : Frame → List Node → T → Type 0) (as_p : List Node → T → V) (f : Context → V)
    → Grows ns ms → P a.frame ms v → ((c : Context) → as_p ms v ≡ f c) → Coding a a n n ns ms s (Ok (Known v)) P as_p (λ c. gives (f c))
value_grown a n {ns} {ms} s v P as_p f g h e =
    record {
      works = Works-refl a n;
      waits = tt;
      grows = g;
      told = λ made in_hand told of_site. subst (λ given. Adds n n (gives given) (as_p ms v)) (e (context_of a.frame made s)) (Adds-refl n (as_p ms v));
      there = h;
    }

-- a fragment that is made
pub fragment_made : (a : State) (n : Notes) {ns ms : List Node} (s : Site) (f : Fragment) (p : Part) (g : Context → Part) → IsMade ns ms (Ok f) p → ((c : Context) → p ≡ g c)
    → Coding a a n n ns ms s (Ok (Known f)) IsFragment part (λ c. gives (g c))
fragment_made a n {ns} {ms} s f p g m e = value_grown a n s f IsFragment part g m.grows m.made.there (λ c. m.made.part_is ∙ e c)

-- memory was wanted while a fragment was made
pub made_wanted : {T V : Type 0} (a : State) (n : Notes) {ns ms : List Node} (s : Site) {m : Memory} {p : Part} {P : Frame → List Node → T → Type 0} {as_p : List Node → T → V} {g : Context → Gives V}
    → IsMade ns ms (Err m) p → (k : Memory) → Coding a a n n ns ms s (Err k) P as_p g
made_wanted a n s m k = record { works = Works-refl a n; waits = tt; grows = m.grows; told = λ made in_hand told of_site. tt; there = tt }

-- a question that notes nothing and makes no code
pub quiet : {T V : Type 0} {b d : State} (y : Notes) (ns : List Node) (s : Site) (asked : Ask T) (P : Frame → List Node → T → Type 0) (as_p : List Node → T → V) (f : Context → V)
    → Reads b d → WhereWaiting asked (λ head. Waits b d head) → WhereTold b.frame (λ made. WhereKnown asked (λ v. as_p ns v ≡ f (context_of b.frame made s))) → WhereKnown asked (λ v. P b.frame ns v)
    → Coding b d y y ns ns s (Ok asked) P as_p (λ c. gives (f c))
quiet {T} {V} {b} {d} y ns s (Known v) P as_p f reads waits told there =
    record {
      works = Works-kept y y reads.keeps refl (IsPrefixOf-refl y.diags.items);
      waits = tt;
      grows = Grows-refl ns;
      told = λ made in_hand t of_site. subst (λ given. Adds y y (gives given) (as_p ns v)) (told made in_hand t) (Adds-refl y (as_p ns v));
      there = there;
    }
quiet y ns s (DontKnowYet head) P as_p f reads waits told there =
    record {
      works = Works-kept y y reads.keeps refl (IsPrefixOf-refl y.diags.items);
      waits = waits;
      grows = Grows-refl ns;
      told = λ made in_hand t of_site. tt;
      there = tt;
    }

module _ {T U V W : Type 0} {a b d : State} {x y z : Notes} {n1 n2 n3 : List Node} {s : Site} {P : Frame → List Node → T → Type 0} {Q : Frame → List Node → U → Type 0} {as_p : List Node → T → V} {as_q : List Node → U → W} {g : Context → Gives V} {h : Context → Gives W} {first : Result (Ask T) Memory} where
  -- after want of memory in a later step nothing more is said
  pub unmade_after : {m : Memory} {R X : Type 0} {S : Frame → List Node → R → Type 0} {as_r : List Node → R → X} {k : Context → Gives X} → Coding a b x y n1 n2 s first P as_p g → Coding b d y z n2 n3 s (Err m) Q as_q h → (n : Memory) → Coding a d x z n1 n3 s (Err n) S as_r k
  unmade_after p q n = record { works = Works-trans p.works q.works; waits = tt; grows = Grows-trans p.grows q.grows; told = λ made in_hand told of_site. tt; there = tt }

  -- what isn't known yet of a later step isn't known yet of the whole
  pub unknown_after : {head : Head} {R X : Type 0} {S : Frame → List Node → R → Type 0} {as_r : List Node → R → X} {k : Context → Gives X} → Coding a b x y n1 n2 s first P as_p g → Coding b d y z n2 n3 s (Ok (DontKnowYet head)) Q as_q h → Coding a d x z n1 n3 s (Ok (DontKnowYet head)) S as_r k
  unknown_after p q =
      record { works = Works-trans p.works q.works; waits = Waits_after p.works.keeps q.waits; grows = Grows-trans p.grows q.grows; told = λ made in_hand told of_site. tt; there = tt }

high_later : {from to : List Node} → Grows from to → (h : Option Fragment) → IfSome h (λ f. IsIn from f) → high_in to h ≡ high_in from h
high_later g None h = refl
high_later g (Some f) h = part_later g f h

high_there : {from to : List Node} → Grows from to → (h : Option Fragment) → IfSome h (λ f. IsIn from f) → IfSome h (λ f. IsIn to f)
high_there g None h = tt
high_there g (Some f) h = in_later g f h

-- an operand with its code is the same among more fragments
pub coded_later : {f : Frame} {from to : List Node} → Grows from to → (x : Coded) → IsCoded f from x → coded_in to x ≡ coded_in from x
coded_later {f} {from} {to} g x h =
    ap (λ (p : Part). record { operand = x.operand; code = p; high = high_in to x.high }) (part_later g x.code h.code)
    ∙ ap (λ (p : Part). record { operand = x.operand; code = part from x.code; high = p }) (high_later g x.high h.high)

-- and may still stand
pub stays_coded : {f e : Frame} {from to : List Node} → e ≡ f → Grows from to → (x : Coded) → IsCoded f from x → IsCoded e to x
stays_coded {f} {e} {from} {to} same g x h =
    record { operand = subst (λ (k : Frame). IsOperand k x.operand) (sym same) h.operand; code = in_later g x.code h.code; high = high_there g x.high h.high }
