-- The statements of a block, one after another, between what is copied first and the end.
use Rattle.std.proofs.Common.{◌≡◌, ◌∙◌, ◌++◌, ◌∷◌, [], ◌≤◌, ◌+◌, ℕ, zero, suc, List, length, map, Option, Some, None, Result, Ok, Err, ap, sym, subst, refl, arith, append_assoc}
use Rattle.std.proofs.lemmas.List.{append-nil}
use Rattle.std.proofs.lemmas.Bool.{false≢true}
use Rattle.std.specs.Prelude.{IsErr}
use Rattle.std.specs.Option.{IfSome}
use Rattle.m2_base.specs.Finished.{IsFinished}
use Rattle.m2_base.specs.Gives.{Adds, Gives}
use Rattle.m2_base.specs.States.{State}
use Rattle.m2_base.specs.Statics.Contexts.{Context}
use Rattle.m2_base.specs.Statics.Effects.{BlockEffects}
use Rattle.m2_base.specs.Trees.{Statement, Statements, Stream, more_statements, no_statements, statements}
use Rattle.m2_base.specs.Views.{statement_view}
use Rattle.m2_base.specs.declared.memory.Memory.{Memory}
use Rattle.m2_base.specs.declared.notes.Notes.{Notes}
use Rattle.m2_base.specs.declared.replies.Ask.{Ask}
use Rattle.m2_base.specs.declared.replies.Ask.TheVariants.{DontKnowYet, Known}
use Rattle.m2_base.specs.declared.replies.Head.{Head}
use Rattle.m2_base.specs.declared.rows.Place.{Place}
use Rattle.m2_base.specs.declared.sites.Site.{Site}
use Rattle.m2_base.specs.declared.trees.statements.Statement.{Statement as StatementOf}
use Rattle.m2_base.specs.Copies.{copy_view}
use Rattle.m2_base.specs.declared.copies.ParamCopy.{ParamCopy}
use Rattle.type_rules.specs.Scenes.{AreInHand, Hand}
use Rattle.type_rules.specs.Sites.{context_of}
use Rattle.code_form.specs.Heights.{Step}
use Rattle.block_code.specs.Parts.{Made, steps_size}
use Rattle.expr_sem.specs.Pieces.{Appended, extend}
use Rattle.expr_sem.specs.declared.pieces.Piece.{Piece}
use Rattle.block_code.specs.BlockCode.{body_of, ending, first_cell, first_spot, in_statements, prologue, run_of, size_by, size_diags, stand_of}
use Rattle.stmt_sem.specs.Bodies.{Adding, Built, IsAdded, IsBuilt, IsWhole, Whole, given_in, left, rest_from, whole_in, whole_of}
use Rattle.expr_sem.specs.declared.fragments.Node.{Node}
use Rattle.stmt_sem.specs.FlowTrees.{flow_in}
use Rattle.stmt_sem.specs.Flowings.{Flowing, IsFlow}
use Rattle.block_code.specs.Flows.{Flow, Run, part_at, straight, ◌⨾◌}
use Rattle.stmt_sem.specs.Stands.{at_first}
use Rattle.block_code.specs.Statements.{flow_of, statement_flow}
use Rattle.stmt_sem.specs.Stating.{Returns, block_at, given_at, made_in, spot_at, statement_at}
use Rattle.stmt_sem.specs.declared.flows.Flow.{Flow as FlowOf}
use Rattle.stmt_sem.proofs.PiecesJoined.{made_behind}
use Rattle.block_code.proofs.Still.{Still, statement-still}
use Rattle.stmt_sem.proofs.TopStatements.{answers_shown, none_in_hand}

-- ---- the statements that are left

rest_suc : (k : ℕ) (ss : Statements) (st : Statement) → statement_at ss k ≡ Some st → rest_from k ss ≡ more_statements st (rest_from (suc k) ss)
rest_suc k no_statements st e = cc
rest_suc zero (more_statements s ss) st e = let same : s ≡ st = cc in ap (λ (t : Statement). more_statements t ss) same
rest_suc (suc k) (more_statements s ss) st e = rest_suc k ss st e

rest_more : (k : ℕ) (ss : Statements) (st : Statement) → statement_at ss k ≡ Some st → rest_from k ss ≡ more_statements st (rest_from (k + 1) ss)
rest_more k ss st e = let up : suc k ≡ k + 1 = omega arith in rest_suc k ss st e ∙ ap (λ (n : ℕ). more_statements st (rest_from n ss)) up

-- none is left behind the last one
rest_none : (xs : List StatementOf) (k : ℕ) → length xs ≤ k → rest_from k (statements (map statement_view xs)) ≡ no_statements
rest_none [] zero h = refl
rest_none [] (suc k) h = refl
rest_none (x ∷ xs) zero h = absurd (omega (arith, h))
rest_none (x ∷ xs) (suc k) h = rest_none xs k (omega (arith, h))

-- ---- what is made so far

-- one flow more, whose code is the same whatever stands behind
flow_behind : (m : Made) (a b g : Flow) → Still a → extend (extend m (part_at 0 a)) (part_at 0 (b ⨾ g)) ≡ extend m (part_at 0 ((a ⨾ b) ⨾ g))
flow_behind m a b g still =
    let p : Run = a m.next in
    let q : Run = b p.next in
    let r : Run = g q.next in
    let last : List Step = r.code 0 in
    let behind : List Step = q.code (0 + steps_size last) in
    let code : (m.code ++ p.code 0) ++ (behind ++ last) ≡ m.code ++ ((p.code ((0 + steps_size last) + steps_size behind) ++ behind) ++ last) =
    append_assoc m.code (p.code 0) (behind ++ last)
    ∙ ap (λ (l : List Step). m.code ++ l) (sym (append_assoc (p.code 0) behind last))
    ∙ ap (λ (l : List Step). m.code ++ ((l ++ behind) ++ last)) (still m.next 0 ((0 + steps_size last) + steps_size behind)) in
    let bytes : (m.bytes ++ p.bytes) ++ (q.bytes ++ r.bytes) ≡ m.bytes ++ ((p.bytes ++ q.bytes) ++ r.bytes) =
    append_assoc m.bytes p.bytes (q.bytes ++ r.bytes)
    ∙ ap (λ (l : List ℕ). m.bytes ++ l) (sym (append_assoc p.bytes q.bytes r.bytes)) in
    ap (λ (l : List Step). let v : Made = record { code = l; bytes = (m.bytes ++ p.bytes) ++ (q.bytes ++ r.bytes); next = r.next } in v) code
    ∙ ap (λ (l : List ℕ). let v : Made = record { code = m.code ++ ((p.code ((0 + steps_size last) + steps_size behind) ++ behind) ++ last); bytes = l; next = r.next } in v) bytes

listed : {A : Type 0} (now later more rest all : List A) → later ≡ now ++ more → now ++ (more ++ (rest ++ [])) ≡ all → later ++ rest ≡ all
listed now later more rest all e h =
    ap (λ l. l ++ rest) e ∙ append_assoc now more rest ∙ ap (λ l. now ++ (more ++ l)) (sym (append-nil rest)) ∙ h

module _ (c : Context) (tree : Stream) (e : BlockEffects) where
  abbrev last_flow : Flow
  last_flow = straight (ending tree.heading)

  -- what is copied first
  pub built_first : (piece : Piece) (n : Notes) (cells : ℕ) (copies : List ParamCopy) → made_in piece ≡ prologue (map copy_view copies) (spot_at (first_cell tree.kind cells) 0)
      → n.diags.items ≡ [] → n.answers.items ≡ [] → e.cell ≡ cells → e.prologue ≡ map copy_view copies
      → IsBuilt c tree e (record { made = made_in piece; diags = n.diags.items; answers = n.answers.items; cells = cells; count = 0 })
  built_first piece n cells copies h no_diags no_answers same copied =
      let begun : made_in piece ≡ prologue e.prologue (first_spot tree.kind e) = h ∙ (λ k. prologue (sym copied k) (spot_at (first_cell tree.kind (sym same k)) 0)) in
      record {
        made_is = ap (λ (m : Made). extend m (part_at 0 ((left c tree 0).value ⨾ last_flow))) begun;
        diags = ap (λ l. l ++ (left c tree 0).diags) no_diags;
        answers = ap (λ l. l ++ (left c tree 0).answers) no_answers;
        cells = sym same;
      }

  -- one statement more
  pub built_more : (before after : Built) (st : Statement) → statement_at tree.body before.count ≡ Some st → IsAdded before after (given_at c tree st) → IsBuilt c tree e before → IsBuilt c tree e after
  built_more before after st is h so =
      let stand = stand_of c (block_at c tree) in
      let given = given_at c tree st in
      let rest = left c tree (before.count + 1) in
      let more : rest_from before.count tree.body ≡ more_statements st (rest_from (before.count + 1) tree.body) = rest_more before.count tree.body st is in
      record {
        made_is =
            ap (λ (n : ℕ). extend after.made (part_at 0 ((left c tree n).value ⨾ last_flow))) h.count
            ∙ ap (λ (m : Made). extend m (part_at 0 (rest.value ⨾ last_flow))) h.made_is
            ∙ flow_behind before.made given.value rest.value last_flow (statement-still stand st refl)
            ∙ sym (ap (λ (ss : Statements). extend before.made (part_at 0 ((flow_of stand ss).value ⨾ last_flow))) more)
            ∙ so.made_is;
        diags =
            ap (λ (n : ℕ). after.diags ++ (left c tree n).diags) h.count
            ∙ listed before.diags after.diags given.diags rest.diags (left c tree 0).diags h.diags
            (sym (ap (λ (ss : Statements). before.diags ++ (flow_of stand ss).diags) more) ∙ so.diags);
        answers =
            ap (λ (n : ℕ). after.answers ++ (left c tree n).answers) h.count
            ∙ listed before.answers after.answers given.answers rest.answers (left c tree 0).answers h.answers
            (sym (ap (λ (ss : Statements). before.answers ++ (flow_of stand ss).answers) more) ∙ so.answers);
        cells = h.cells ∙ so.cells;
      }

  -- the whole, with the end and with what is noted of its size
  pub built_whole : (b : Built) (from piece : Piece) (n : Notes) (cells bytes : ℕ) (xs : List StatementOf) → tree.body ≡ statements (map statement_view xs) → length xs ≤ b.count
      → b.made ≡ made_in from → Appended from piece [] (ending tree.heading)
      → ((r : Run) → r.next.cell ≡ piece.cell → r.next.byte ≡ piece.byte → size_diags c (block_at c tree) tree.kind e r ≡ size_by c (block_at c tree) cells bytes)
      → n.diags.items ≡ b.diags ++ size_by c (block_at c tree) cells bytes → n.answers.items ≡ b.answers
      → IsBuilt c tree e b → IsWhole c tree e (record { piece = piece; notes = n })
  built_whole b from piece n cells bytes xs body past made h sized diags answers so =
      let stand = stand_of c (block_at c tree) in
      let run : Run = run_of (block_at c tree) e (body_of c (block_at c tree)).value in
      let none : rest_from b.count tree.body ≡ no_statements = ap (λ ss. rest_from b.count ss) body ∙ rest_none xs b.count past in
      let of : Made → Whole = λ m. record { steps = m.code; bytes = m.bytes; cell = m.next.cell; byte = m.next.byte } in
      let whole : whole_in piece ≡ whole_of run =
      ap of (made_behind (ending tree.heading) h ∙ ap (λ (m : Made). extend m (ending tree.heading)) (sym made)
      ∙ sym (ap (λ (ss : Statements). extend b.made (part_at 0 ((flow_of stand ss).value ⨾ last_flow))) none) ∙ so.made_is) in
      let size = sized run (ap (λ (w : Whole). w.cell) (sym whole)) (ap (λ (w : Whole). w.byte) (sym whole)) in
      let noted : b.diags ≡ (left c tree 0).diags = sym (append-nil b.diags) ∙ sym (ap (λ (ss : Statements). b.diags ++ (flow_of stand ss).diags) none) ∙ so.diags in
      record {
        made_is = whole;
        diags = diags ∙ (λ k. noted k ++ sym size k);
        answers = answers ∙ sym (append-nil b.answers) ∙ sym (ap (λ (ss : Statements). b.answers ++ (flow_of stand ss).answers) none) ∙ so.answers;
      }

-- ---- a statement is analysed, and put behind the others

module _ {a b : State} {x y : Notes} {f1 f2 : List Node} {s : Site} (tree : Stream) (from : Built) where
  -- nothing was added, since memory was wanted
  pub unadded : {answer : Result (Ask FlowOf) Memory} {g : Context → Gives Flow} → Flowing a b x y f1 f2 s answer IsFlow flow_in g → (to : Built) → to ≡ from
      → (r : Result (Ask (Unit {0})) Memory) → IsErr r → Adding a b from to s tree r
  unadded p to same (Ok v) h = absurd (false≢true h)
  unadded p to same (Err m) h =
      record {
        looks = p.works.looks;
        keeps = p.works.keeps;
        answers = [];
        noted = ap (λ (d : Built). d.answers) same ∙ sym (append-nil from.answers);
        shown = tt;
        same = same;
        count = tt;
        waits = tt;
        told = λ made in_hand told. tt;
        built = λ made in_hand told. tt;
      }

  -- and so it is where the statement waits
  pub added_waits : {h : Head} {g : Context → Gives Flow} → Flowing a b x y f1 f2 s (Ok (DontKnowYet h)) IsFlow flow_in g → Adding a b from from s tree (Ok (DontKnowYet h))
  added_waits p =
      record {
        looks = p.works.looks;
        keeps = p.works.keeps;
        answers = [];
        noted = sym (append-nil from.answers);
        shown = tt;
        same = refl;
        count = tt;
        waits = p.waits;
        told = λ made in_hand told. tt;
        built = λ made in_hand told. tt;
      }

  -- the next statement was added
  pub added : {v : FlowOf} (to : Built) (r : Option Place) (st : Statement) {u : Unit {0}} → s.item ≡ None → x.diags.items ≡ [] → x.answers.items ≡ [] → statement_at tree.body from.count ≡ Some st
      → Returns a.frame s tree r
      → Flowing a b x y f1 f2 s (Ok (Known v)) IsFlow flow_in (λ c. statement_flow (at_first (in_statements c) r) st)
      → IsAdded from to (given_in f2 v y)
      → Adding a b from to s tree (Ok (Known u))
  added {v} to r st alone no_diags no_answers is returns p put =
      record {
        looks = p.works.looks;
        keeps = p.works.keeps;
        answers = y.answers.items;
        noted = put.answers;
        shown = answers_shown p.works.looks x.answers.items y.answers.items p.works.answers no_answers p.works.noted p.works.shown;
        same = tt;
        count = put.count;
        waits = tt;
        told = λ made in_hand told.
            subst (λ (o : Option Statement). IfSome o (λ t. IsAdded from to (given_at (there made) tree t))) (sym is) (grown made in_hand told);
        built = λ made in_hand told e so. built_more (there made) tree e from to st is (grown made in_hand told) so;
      }
    where
      there : Hand → Context
      there made = in_statements (context_of a.frame made s)

      grown : (made : Hand) → AreInHand a.frame made → IsFinished a.frame.setting.texts made.finished → IsAdded from to (given_at (there made) tree st)
      grown made in_hand told =
          let given = given_at (there made) tree st in
          let h : Adds x y given (flow_in f2 v 0) = subst (λ (o : Option Place). Adds x y (statement_flow (at_first (there made) o) st) (flow_in f2 v 0)) (returns made in_hand told) (p.told made in_hand told (none_in_hand s made alone) 0) in
          record {
            made_is = put.made_is ∙ ap (λ (f : Flow). extend from.made (part_at 0 f)) h.value_is;
            diags = put.diags ∙ ap (λ l. from.diags ++ l) (h.diags ∙ ap (λ l. l ++ given.diags) no_diags);
            answers = put.answers ∙ ap (λ l. from.answers ++ l) (h.answers ∙ ap (λ l. l ++ given.answers) no_answers);
            cells = put.cells;
            count = put.count;
          }
