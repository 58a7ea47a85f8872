-- What comes behind several flowings.
use Rattle.std.proofs.Common.{◌≡◌, ◌∙◌, ℕ, List, Result, Ok, Err, true, false, subst, sym}
use Rattle.std.specs.Prelude.{IsErr}
use Rattle.m2_base.specs.Asks.{IfKnown}
use Rattle.m2_base.specs.Gives.{Adds, Gives}
use Rattle.m2_base.specs.States.{Frame, State, Works}
use Rattle.m2_base.specs.Statics.Contexts.{Context}
use Rattle.m2_base.specs.declared.memory.Memory.{Memory}
use Rattle.m2_base.specs.declared.notes.Notes.{Notes}
use Rattle.m2_base.specs.declared.replies.Ask.{Ask}
use Rattle.m2_base.specs.declared.replies.Ask.TheVariants.{DontKnowYet, Known}
use Rattle.m2_base.specs.declared.replies.Head.{Head}
use Rattle.m2_base.specs.declared.sites.Site.{Site}
use Rattle.m2_base.proofs.Kept.{Waits_after, Works-trans}
use Rattle.type_rules.specs.Scenes.{WhereTold}
use Rattle.type_rules.specs.Sites.{AreOfSite, context_of}
use Rattle.expr_sem.specs.Codings.{Coding}
use Rattle.expr_sem.specs.Fragments.{Grows}
use Rattle.expr_sem.specs.declared.fragments.Node.{Node}
use Rattle.expr_sem.proofs.Onwards.{holds_after}
use Rattle.expr_sem.proofs.Sequencing.{Grows-trans}
use Rattle.stmt_sem.specs.FlowTrees.{flow_in}
use Rattle.stmt_sem.specs.Flowings.{Flowing, IsFlow}
use Rattle.block_code.specs.Flows as flow
use Rattle.stmt_sem.specs.Stands.{IsStand}
use Rattle.stmt_sem.specs.Taken.{StandsFor}
use Rattle.stmt_sem.specs.declared.flows.Flow.{Flow}
use Rattle.stmt_sem.specs.declared.stands.Stand.{Stand}

module _ {U W R X : Type 0} {a b d : State} {x y z : Notes} {f1 f2 f3 : List Node} {s : Site} {Q : Frame → List Node → U → Type 0} {as_q : List Node → U → (cell : ℕ) → W} {h : Context → Gives W} {S : Frame → List Node → R → Type 0} {as_r : List Node → R → (cell : ℕ) → X} {k : Context → Gives X} where
  -- memory was wanted in a further step
  pub unmade_behind : {m : Memory} → Works a b x y → Grows f1 f2 → Flowing b d y z f2 f3 s (Err m) Q as_q h → (n : Memory) → Flowing a d x z f1 f3 s (Err n) S as_r k
  unmade_behind w g q n = record { works = Works-trans w q.works; waits = tt; grows = Grows-trans g q.grows; told = λ made in_hand told of_site. tt; there = tt }

  -- a further step isn't known yet
  pub unknown_behind : {head : Head} → Works a b x y → Grows f1 f2 → Flowing b d y z f2 f3 s (Ok (DontKnowYet head)) Q as_q h → Flowing a d x z f1 f3 s (Ok (DontKnowYet head)) S as_r k
  unknown_behind w g q =
      record { works = Works-trans w q.works; waits = Waits_after w.keeps q.waits; grows = Grows-trans g q.grows; told = λ made in_hand told of_site. tt; there = tt }

module _ {U W R X : Type 0} {a b d : State} {x y z : Notes} {from ns to : List Node} {s : Site} {Q : Frame → List Node → U → Type 0} {as_q : List Node → U → W} {h : Context → Gives W} {S : Frame → List Node → R → Type 0} {as_r : List Node → R → (cell : ℕ) → X} {k : Context → Gives X} (w : Works a b x y) (g : Grows from ns) where
  -- memory was wanted in further code
  pub code_unmade : {m : Memory} → Coding b d y z ns to s (Err m) Q as_q h → (n : Memory) → Flowing a d x z from to s (Err n) S as_r k
  code_unmade q n = record { works = Works-trans w q.works; waits = tt; grows = Grows-trans g q.grows; told = λ made in_hand told of_site. tt; there = tt }

  -- further code isn't known yet
  pub code_unknown : {head : Head} → Coding b d y z ns to s (Ok (DontKnowYet head)) Q as_q h → Flowing a d x z from to s (Ok (DontKnowYet head)) S as_r k
  code_unknown q = record { works = Works-trans w q.works; waits = Waits_after w.keeps q.waits; grows = Grows-trans g q.grows; told = λ made in_hand told of_site. tt; there = tt }

-- a stand may be that of what comes behind code
pub stand_on : {T V : Type 0} {a b : State} {x y : Notes} {ns ms : List Node} {s : Site} {P : Frame → List Node → T → Type 0} {as_p : List Node → T → V} {g : Context → Gives V} {answer : Result (Ask T) Memory} → Coding a b x y ns ms s answer P as_p g → (t : Stand) → IsStand a.frame t → IsStand b.frame t
stand_on p t h = holds_after p (λ (f : Frame). IsStand f t) h

-- memory was wanted for what is made of them
pub full_behind : {U W : Type 0} {a b : State} {x y : Notes} {f1 f2 : List Node} {s : Site} {Q : Frame → List Node → U → Type 0} {as_q : List Node → U → (cell : ℕ) → W} {h : Context → Gives W} (r : Result (Ask U) Memory)
    → IsErr r → Works a b x y → Grows f1 f2 → Flowing a b x y f1 f2 s r Q as_q h
full_behind (Ok w) is works grows = absurd (let e : false ≡ true = is in cc)
full_behind (Err n) is works grows = record { works = works; waits = tt; grows = grows; told = λ made in_hand told of_site. tt; there = tt }

-- the same, of another description where the texts are told
pub described_told : {T V : Type 0} {a b : State} {x y : Notes} {f1 f2 : List Node} {s : Site} {P : Frame → List Node → T → Type 0} {as_p : List Node → T → (cell : ℕ) → V} {g h : Context → Gives V} (answer : Result (Ask T) Memory)
    → Flowing a b x y f1 f2 s answer P as_p g → WhereTold a.frame (λ made. AreOfSite s made → g (context_of a.frame made s) ≡ h (context_of a.frame made s)) → Flowing a b x y f1 f2 s answer P as_p h
described_told {a = a} {x = x} {y = y} {f2 = f2} {as_p = as_p} answer p e =
    record {
      works = p.works;
      waits = p.waits;
      grows = p.grows;
      told = λ made in_hand told of_site. subst (λ given. IfKnown answer (λ v. (cell : ℕ) → Adds x y given (as_p f2 v cell))) (e made in_hand told of_site) (p.told made in_hand told of_site);
      there = p.there;
    }

-- a flow that is made stands for the same code whatever the cell is
pub stands_for : {a b : State} {x y : Notes} {f1 f2 : List Node} {s : Site} {v : Flow} {g : Context → Gives flow.Flow} → Flowing a b x y f1 f2 s (Ok (Known v)) IsFlow flow_in g → StandsFor b.frame s f2 v (flow_in f2 v 0)
stands_for {a} {b} {x} {y} {f1} {f2} {s} {v} {g} p =
    subst (λ (f : Frame). StandsFor f s f2 v (flow_in f2 v 0)) (sym p.works.keeps.frame)
    (λ made in_hand told of_site cell. (p.told made in_hand told of_site cell).value_is ∙ sym (p.told made in_hand told of_site 0).value_is)
