-- One statement of a body, over what surrounds the body.
use Rattle.std.proofs.Common.{◌≡◌, ◌∙◌, ◌++◌, ◌∷◌, [], ◌<◌, ℕ, zero, suc, List, length, map, get_or, Option, Some, None, Result, Ok, Err, ap, sym, subst, arith}
use Rattle.std.proofs.lemmas.Bool.{false≢true}
use Rattle.std.specs.Prelude.{IsErr}
use Rattle.std.specs.Option.{IfSome}
use Rattle.m2_base.specs.Asks.{IfKnown}
use Rattle.m2_base.specs.Gives.{Adds, Gives}
use Rattle.m2_base.specs.Lists.{Each}
use Rattle.m2_base.specs.States.{IsAmong, Look, State}
use Rattle.m2_base.specs.Statics.Contexts.{Context, no_layout}
use Rattle.m2_base.specs.Trees.{Statement, Statements, more_statements, no_statements, statements}
use Rattle.m2_base.specs.Views.{statement_view}
use Rattle.m2_base.specs.declared.memory.Memory.{Memory}
use Rattle.m2_base.specs.declared.notes.Answer.{Answer}
use Rattle.m2_base.specs.declared.notes.Notes.{Notes}
use Rattle.m2_base.specs.declared.replies.Ask.{Ask}
use Rattle.m2_base.specs.declared.rows.Place.{Place}
use Rattle.m2_base.specs.declared.sites.Site.{Site}
use Rattle.m2_base.specs.declared.trees.statements.Statement.{Statement as StatementOf}
use Rattle.m2_base.proofs.Kept.{Works-refl}
use Rattle.type_rules.specs.Scenes.{Hand, scene_of}
use Rattle.type_rules.specs.Sites.{AreOfItem, AreOfSite, context_of, source_of}
use Rattle.block_code.specs.BlockCode.{in_statements}
use Rattle.expr_sem.specs.declared.fragments.Node.{Node}
use Rattle.expr_sem.proofs.Sequencing.{Grows-refl}
use Rattle.stmt_sem.specs.FlowTrees.{flow_in}
use Rattle.stmt_sem.specs.Flowings.{Flowing, IsFlow}
use Rattle.block_code.specs.Flows as flow
use Rattle.m2_base.specs.Statics.ReadStatements.{AreReadStatements, IsReadStatement}
use Rattle.stmt_sem.specs.Stands.{at_first}
use Rattle.block_code.specs.Statements.{statement_flow}
use Rattle.stmt_sem.specs.Stating.{statement_at}
use Rattle.stmt_sem.specs.declared.flows.Flow.{Flow}

-- ---- the statement of a number

-- it is that of the list
pub statement_is : (xs : List StatementOf) (k : ℕ) (x : StatementOf) → k < length xs → x ≡ get_or xs k x → statement_at (statements (map statement_view xs)) k ≡ Some (statement_view x)
statement_is [] k x below is = absurd (omega (arith, below))
statement_is (y ∷ xs) zero x below is = ap (λ (z : StatementOf). Some (statement_view z)) (sym is)
statement_is (y ∷ xs) (suc k) x below is = statement_is xs k x (omega (arith, below)) is

-- it is there, and as read, where all are
pub statement_read : (names : List (List ℕ)) (ss : Statements) (k : ℕ) (st : Statement) → statement_at ss k ≡ Some st → AreReadStatements names ss → IsReadStatement names st
statement_read names no_statements k st is h = cc
statement_read names (more_statements s ss) zero st is h = subst (λ o. IfSome o (λ u. IsReadStatement names u)) is h.0
statement_read names (more_statements s ss) (suc k) st is h = statement_read names ss k st is h.1

-- ---- a statement of its own

-- no rows are in hand in statements
pub none_in_hand : (s : Site) (made : Hand) → s.item ≡ None → AreOfSite s made
none_in_hand s made e = subst (λ (o : Option ℕ). IfSome o (λ item. AreOfItem s.layout.now item made.rows)) (sym e) tt

-- the answers that were added behind none
pub answers_shown : (looks : List Look) (xs ys zs : List Answer) → xs ≡ [] → ys ≡ xs ++ zs → Each (IsAmong looks) zs → Each (IsAmong looks) ys
answers_shown looks xs ys zs none e h = subst (λ l. Each (IsAmong looks) l) (sym (e ∙ ap (λ l. l ++ zs) none)) h

-- nothing was begun, since memory was wanted
pub unbegun : (a : State) (n : Notes) (ns : List Node) (s : Site) (h : Context → Gives flow.Flow) (r : Result (Ask Flow) Memory) → IsErr r → Flowing a a n n ns ns s r IsFlow flow_in h
unbegun a n ns s h (Ok v) e = absurd (false≢true e)
unbegun a n ns s h (Err m) e = record { works = Works-refl a n; waits = tt; grows = Grows-refl ns; told = λ made in_hand told of_site. tt; there = tt }

-- what is analysed without a layout is that of statements, whatever the layout is
pub without_layout : {a b : State} {x y : Notes} {f1 f2 : List Node} {v : Result (Ask Flow) Memory} (s t : Site) (r : Option Place) (st : Statement) → s.item ≡ None
    → t.texts.now ≡ s.texts.now → t.around.now ≡ s.around.now → t.layout.now ≡ no_layout → t.item ≡ None
    → Flowing a b x y f1 f2 t v IsFlow flow_in (λ c. statement_flow (at_first c r) st)
    → Flowing a b x y f1 f2 s v IsFlow flow_in (λ c. statement_flow (at_first (in_statements c) r) st)
without_layout {a} {b} {x} {y} {f1} {f2} {v} s t r st alone texts around layout item p =
    record {
      works = p.works;
      waits = p.waits;
      grows = p.grows;
      told = λ made in_hand told of_site.
          let same : context_of a.frame made t ≡ in_statements (context_of a.frame made s) =
          λ k. record { source = source_of (texts k); scene = scene_of a.frame made (around k); layout = layout k; item = item k } in
          subst (λ (c : Context). IfKnown v (λ w. (cell : ℕ) → Adds x y (statement_flow (at_first c r) st) (flow_in f2 w cell))) same
          (p.told made in_hand told (none_in_hand t made item));
      there = p.there;
    }
