-- Analyses one after another.
use Rattle.std.proofs.Common.{◌≡◌, ◌∙◌, ◌++◌, ◌∷◌, [], ℕ, Result, Ok, Err, ap, sym, subst, refl, append_assoc}
use Rattle.std.specs.Result.{IfOk}
use Rattle.m2_base.specs.Diagnostics.{code_of}
use Rattle.m2_base.specs.Asks.{IfKnown, IfWaits}
use Rattle.m2_base.specs.Gives.{Adds, Gives, and_then, gives}
use Rattle.m2_base.specs.Lists.{IsPrefixOf}
use Rattle.m2_base.specs.Standard.{broken}
use Rattle.m2_base.specs.States.{Frame, State, Waits, Works}
use Rattle.m2_base.specs.Statics.Contexts.{Context}
use Rattle.m2_base.specs.declared.memory.Memory.{Memory}
use Rattle.m2_base.specs.declared.notes.Notes.{Notes}
use Rattle.m2_base.specs.declared.operands.Operand.{Operand}
use Rattle.m2_base.specs.declared.replies.Ask.{Ask}
use Rattle.m2_base.specs.declared.replies.Ask.TheVariants.{Known, DontKnowYet}
use Rattle.m2_base.specs.declared.replies.Head.{Head}
use Rattle.m2_base.specs.declared.rows.Place.{Place}
use Rattle.m2_base.specs.declared.sites.Site.{Site}
use Rattle.m2_base.proofs.Kept.{Adds-and_then, Adds-refl, Waits_after, IsPrefixOf-refl, Works-kept, Works-refl, Works-trans}
use Rattle.type_rules.specs.Asks.{Reads, WhereKnown, WhereWaiting}
use Rattle.type_rules.specs.Scenes.{Hand, IsThere, WhereTold}
use Rattle.type_rules.specs.Sites.{AreOfSite, context_of}
use Rattle.type_rules.proofs.Compatibles.{told_later}
use Rattle.const_eval.specs.Analyses.{Analysed}
use Rattle.const_eval.specs.Judgements.{judged, judged_or}
use Rattle.const_eval.specs.Sites.{IsOperand}
use Rattle.const_eval.specs.declared.faults.Fault.{Fault}

-- a value alone
pub value_alone : {T : Type 0} (a : State) (n : Notes) (s : Site) (v : T) (P : Frame → T → Type 0) (g : Context → Gives T)
    → P a.frame v → ((made : Hand) → gives v ≡ g (context_of a.frame made s)) → Analysed a a n n s (Ok (Known v)) P g
value_alone a n s v P g h e =
    record {
      works = Works-refl a n;
      waits = tt;
      told = λ made in_hand told of_site. subst (λ given. Adds n n given v) (e made) (Adds-refl n v);
      there = h;
    }

-- the same, of a description that gives it everywhere
pub value_everywhere : {T : Type 0} (a : State) (n : Notes) (s : Site) (v : T) (P : Frame → T → Type 0) (g : Context → Gives T)
    → P a.frame v → ((c : Context) → gives v ≡ g c) → Analysed a a n n s (Ok (Known v)) P g
value_everywhere a n s v P g h e = value_alone a n s v P g h (λ made. e (context_of a.frame made s))

module _ {T U : Type 0} {a b : State} {x y : Notes} {s : Site} {P : Frame → T → Type 0} {Q : Frame → U → Type 0} {g : Context → Gives T} {h : Context → Gives U} where
  -- after want of memory nothing more is said
  pub failed : {m : Memory} → Analysed a b x y s (Err m) P g → (n : Memory) → Analysed a b x y s (Err n) Q h
  failed p n = record { works = p.works; waits = tt; told = λ made in_hand told of_site. tt; there = tt }

  -- what isn't known yet of a part isn't known yet of the whole
  pub waiting : {head : Head} → Analysed a b x y s (Ok (DontKnowYet head)) P g → Analysed a b x y s (Ok (DontKnowYet head)) Q h
  waiting p = record { works = p.works; waits = p.waits; told = λ made in_hand told of_site. tt; there = tt }

waits_on : {U : Type 0} {a b : State} (d : State) {x y : Notes} (answer : Result (Ask U) Memory) → Works a b x y → IfWaits answer (λ head. Waits b d head) → IfWaits answer (λ head. Waits a d head)
waits_on d (Ok (Known v)) w h = tt
waits_on d (Ok (DontKnowYet head)) w h = Waits_after w.keeps h
waits_on d (Err m) w h = tt

module _ {T U : Type 0} {a b d : State} {x y z : Notes} {s : Site} {P : Frame → T → Type 0} {Q : Frame → U → Type 0} (g : Context → Gives T) (h : T → Context → Gives U) where
  -- one analysis after another
  pub and_after : {v : T} (answer : Result (Ask U) Memory) → Analysed a b x y s (Ok (Known v)) P g → Analysed b d y z s answer Q (h v) → Analysed a d x z s answer Q (λ c. and_then (g c) (λ u. h u c))
  and_after {v} answer p q =
      record {
        works = Works-trans p.works q.works;
        waits = waits_on d answer p.works q.waits;
        told = λ made in_hand told of_site. both made answer (p.told made in_hand told of_site)
            (told_later a.frame b.frame (λ f rows. AreOfSite s rows → IfKnown answer (λ w. Adds y z (h v (context_of f rows s)) w)) p.works.keeps.frame q.told made in_hand told of_site);
        there = subst (λ (f : Frame). IfKnown answer (λ w. Q f w)) p.works.keeps.frame q.there;
      }
    where
      both : (made : Hand) (answer : Result (Ask U) Memory) → Adds x y (g (context_of a.frame made s)) v → IfKnown answer (λ w. Adds y z (h v (context_of a.frame made s)) w)
          → IfKnown answer (λ w. Adds x z (and_then (g (context_of a.frame made s)) (λ u. h u (context_of a.frame made s))) w)
      both made (Ok (Known w)) p' q' = Adds-and_then (g (context_of a.frame made s)) (λ u. h u (context_of a.frame made s)) p' q'
      both made (Ok (DontKnowYet head)) p' q' = tt
      both made (Err m) p' q' = tt

-- the same, of another description
pub described : {T : Type 0} {a b : State} {x y : Notes} {s : Site} {P : Frame → T → Type 0} {g h : Context → Gives T} (answer : Result (Ask T) Memory) → Analysed a b x y s answer P g → ((c : Context) → g c ≡ h c) → Analysed a b x y s answer P h
described {T} {a} {b} {x} {y} {s} {P} {g} {h} answer p e =
    record {
      works = p.works;
      waits = p.waits;
      told = λ made in_hand told of_site. subst (λ given. IfKnown answer (λ v. Adds x y given v)) (e (context_of a.frame made s)) (p.told made in_hand told of_site);
      there = p.there;
    }

-- the parts of three in a row can be taken together
pub and_then_assoc : {A B C : Type 0} (a : Gives A) (f : A → Gives B) (k : B → Gives C) → and_then (and_then a f) k ≡ and_then a (λ v. and_then (f v) k)
and_then_assoc a f k =
    let v = (f a.value).value in
    ap (λ diags. record { value = (k v).value; diags = diags; answers = (a.answers ++ (f a.value).answers) ++ (k v).answers }) (append_assoc a.diags (f a.value).diags (k v).diags)
    ∙ ap (λ answers. record { value = (k v).value; diags = a.diags ++ ((f a.value).diags ++ (k v).diags); answers = answers }) (append_assoc a.answers (f a.value).answers (k v).answers)

-- a question that notes nothing
pub quiet : {T : Type 0} {b d : State} (y : Notes) (s : Site) (asked : Ask T) (Q : Frame → T → Type 0) (f : Context → T)
    → Reads b d → WhereWaiting asked (λ head. Waits b d head) → WhereTold b.frame (λ made. WhereKnown asked (λ v. v ≡ f (context_of b.frame made s))) → WhereKnown asked (λ v. Q b.frame v)
    → Analysed b d y y s (Ok asked) Q (λ c. gives (f c))
quiet {T} {b} {d} y s (Known v) Q f reads waits told there =
    record {
      works = Works-kept y y reads.keeps refl (IsPrefixOf-refl y.diags.items);
      waits = tt;
      told = λ made in_hand t of_site. subst (λ given. Adds y y (gives given) v) (told made in_hand t) (Adds-refl y v);
      there = there;
    }
quiet y s (DontKnowYet head) Q f reads waits told there =
    record {
      works = Works-kept y y reads.keeps refl (IsPrefixOf-refl y.diags.items);
      waits = waits;
      told = λ made in_hand t of_site. tt;
      there = tt;
    }

waits_noted : {T U : Type 0} (b d : State) (asked : Ask T) (answer : Result (Ask U) Memory) → WhereWaiting asked (λ head. Waits b d head) → IfWaits answer (λ head. asked ≡ DontKnowYet head) → IfWaits answer (λ head. Waits b d head)
waits_noted b d asked (Ok (Known v)) waits e = tt
waits_noted {T} {U} b d asked (Ok (DontKnowYet head)) waits e = subst (λ (a : Ask T). WhereWaiting a (λ h. Waits b d h)) e waits
waits_noted b d asked (Err m) waits e = tt

-- a question whose fault is noted
pub noted : {J T : Type 0} {b d : State} (y z : Notes) (s : Site) (asked : Ask J) (answer : Result (Ask T) Memory) (Q : Frame → T → Type 0) (g : Context → Gives T)
    → Reads b d → WhereWaiting asked (λ head. Waits b d head)
    → z.answers.items ≡ y.answers.items → IsPrefixOf y.diags.items z.diags.items → IfWaits answer (λ head. asked ≡ DontKnowYet head)
    → WhereTold b.frame (λ made. AreOfSite s made → IfKnown answer (λ v. Adds y z (g (context_of b.frame made s)) v)) → IfKnown answer (λ v. Q b.frame v)
    → Analysed b d y z s answer Q g
noted {J} {T} {b} {d} y z s asked answer Q g reads waits answers diags same told there =
    record { works = Works-kept y z reads.keeps answers diags; waits = waits_noted b d asked answer waits same; told = told; there = there }

-- a judgement is noted: nothing, where it may stand
pub noted_ok : {T : Type 0} (y : Notes) (c : Context) (instead v : T) (given : Gives T) → judged_or c instead (Ok v) ≡ given → Adds y y given v
noted_ok y c instead v given e = subst (λ g. Adds y y g v) e (Adds-refl y v)

-- and otherwise its fault
pub noted_err : {T : Type 0} (y z : Notes) (c : Context) (text : ℕ) (instead : T) (f : Fault) (given : Gives T) → c.scene.block.text ≡ text
    → z.answers.items ≡ y.answers.items → z.diags.items ≡ y.diags.items ++ record { text = text; at = f.at; code = code_of f.kind } ∷ []
    → judged_or c instead (Err f) ≡ given → Adds y z given instead
noted_err {T} y z c text instead f given same answers diags e =
    let here : Adds y z (judged_or c instead (Err f)) instead =
    record {
      value_is = refl;
      diags = diags ∙ ap (λ (t : ℕ). y.diags.items ++ record { text = t; at = f.at; code = code_of f.kind } ∷ []) (sym same);
      answers = answers ∙ (Adds-refl y instead).answers;
    } in
    subst (λ g. Adds y z g instead) e here

-- a question about operands, after which its judgement is noted in the site's text
pub noted_operand : {a b : State} (x y : Notes) (s : Site) (asked : Ask (Result Operand Fault)) (answer : Result (Ask Operand) Memory) (g : Context → Gives Operand)
    → y.answers.items ≡ x.answers.items → IsPrefixOf x.diags.items y.diags.items → IfWaits answer (λ head. asked ≡ DontKnowYet head)
    → ((f : Frame) → WhereKnown asked (λ j. IfOk j (λ o. IsOperand f o)) → IfKnown answer (λ o. IsOperand f o))
    → ((c : Context) (given : Gives Operand) → c.scene.block.text ≡ s.around.now.text → WhereKnown asked (λ j. judged c j ≡ given) → IfKnown answer (λ o. Adds x y given o))
    → Reads a b → WhereWaiting asked (λ head. Waits a b head)
    → WhereTold a.frame (λ made. WhereKnown asked (λ j. judged (context_of a.frame made s) j ≡ g (context_of a.frame made s)))
    → WhereKnown asked (λ j. IfOk j (λ o. IsOperand a.frame o))
    → Analysed a b x y s answer IsOperand g
noted_operand {a} {b} x y s asked answer g answers diags same there told reads waits is stands =
    noted x y s asked answer IsOperand g reads waits answers diags same
    (λ made in_hand t of_site. told (context_of a.frame made s) (g (context_of a.frame made s)) refl (is made in_hand t)) (there a.frame stands)

-- a question about types, after which its judgement is noted in the site's text
pub noted_type : {a b : State} (x y : Notes) (s : Site) (asked : Ask (Result Place Fault)) (answer : Result (Ask Place) Memory) (g : Context → Gives Place)
    → y.answers.items ≡ x.answers.items → IsPrefixOf x.diags.items y.diags.items → IfWaits answer (λ head. asked ≡ DontKnowYet head)
    → ((f : Frame) → IsThere f broken → WhereKnown asked (λ j. IfOk j (λ of. IsThere f of)) → IfKnown answer (λ of. IsThere f of))
    → ((c : Context) (given : Gives Place) → c.scene.block.text ≡ s.around.now.text → WhereKnown asked (λ j. judged_or c broken j ≡ given) → IfKnown answer (λ of. Adds x y given of))
    → IsThere a.frame broken → Reads a b → WhereWaiting asked (λ head. Waits a b head)
    → WhereTold a.frame (λ made. WhereKnown asked (λ j. judged_or (context_of a.frame made s) broken j ≡ g (context_of a.frame made s)))
    → WhereKnown asked (λ j. IfOk j (λ of. IsThere a.frame of))
    → Analysed a b x y s answer IsThere g
noted_type {a} {b} x y s asked answer g answers diags same there told standard reads waits is stands =
    noted x y s asked answer IsThere g reads waits answers diags same
    (λ made in_hand t of_site. told (context_of a.frame made s) (g (context_of a.frame made s)) refl (is made in_hand t)) (there a.frame standard stands)
