-- The code of a block in the making, one statement after another.
use Rattle.std.specs.Prelude.{◌≡◌, ℕ, zero, suc, ◌+◌, List, ◌++◌, Result, Ok, map}
use Rattle.std.specs.Option.{IfSome}
use Rattle.m2_base.specs.Asks.{IfKnown, IfWaits}
use Rattle.m2_base.specs.Gives.{Gives}
use Rattle.m2_base.specs.Lists.{Each}
use Rattle.m2_base.specs.States.{IsAmong, Keeps, Look, State, Waits}
use Rattle.m2_base.specs.Statics.Contexts.{Context}
use Rattle.m2_base.specs.Statics.Effects.{BlockEffects}
use Rattle.m2_base.specs.Trees.{Statements, Stream, more_statements, no_statements}
use Rattle.m2_base.specs.declared.memory.Memory.{Memory}
use Rattle.m2_base.specs.declared.notes.Answer.{Answer}
use Rattle.m2_base.specs.declared.notes.Diag.{Diag}
use Rattle.m2_base.specs.declared.notes.Notes.{Notes}
use Rattle.m2_base.specs.declared.replies.Ask.{Ask}
use Rattle.m2_base.specs.declared.replies.Ask.TheVariants.{Known}
use Rattle.m2_base.specs.declared.sites.Site.{Site}
use Rattle.code_form.specs.Heights.{Step}
use Rattle.type_rules.specs.Scenes.{WhereTold}
use Rattle.type_rules.specs.Sites.{context_of}
use Rattle.expr_sem.specs.Fragments.{step_view}
use Rattle.block_code.specs.Parts.{Made}
use Rattle.expr_sem.specs.declared.fragments.Node.{Node}
use Rattle.expr_sem.specs.Pieces.{extend}
use Rattle.expr_sem.specs.declared.pieces.Piece.{Piece}
use Rattle.block_code.specs.BlockCode.{body_of, ending, first_spot, in_statements, prologue, run_of, size_diags}
use Rattle.block_code.specs.BlockCode.{stand_of}
use Rattle.stmt_sem.specs.FlowTrees.{flow_in}
use Rattle.block_code.specs.Flows.{Flow, Run, part_at, straight, ◌⨾◌}
use Rattle.block_code.specs.Statements.{flow_of}
use Rattle.stmt_sem.specs.Stating.{block_at, given_at, statement_at}
use Rattle.stmt_sem.specs.declared.flows.Flow.{Flow as FlowOf}
use Rattle.stmt_sem.specs.declared.top_statements.Stated.{Stated}

-- ---- what is there

-- A body in the making: its code and its data so far, and where the next statement begins; the diagnostics and the
-- answers of its statements; the cells of the block's variables; and how many statements it has.
pub record Built : Type 0 where
  pub made : Made
  pub diags : List Diag
  pub answers : List Answer
  pub cells : ℕ
  pub count : ℕ

-- the statements from this number on
abbrev pub rest_from : (k : ℕ) → Statements → Statements
rest_from zero ss = ss
rest_from (suc k) no_statements = no_statements
rest_from (suc k) (more_statements st ss) = rest_from k ss

-- what the statements from this number on give
abbrev pub left : Context → Stream → (k : ℕ) → Gives Flow
left c tree k = flow_of (stand_of c (block_at c tree)) (rest_from k tree.body)

-- The body has what the block copies first, and so many of its statements: with the code of those that are left, and
-- with the end, its code is the whole block's; and with what is noted of these, it has all that is noted of the
-- block's statements.
pub record IsBuilt (c : Context) (tree : Stream) (e : BlockEffects) (b : Built) : Type 0 where
  pub made_is : extend b.made (part_at 0 ((left c tree b.count).value ⨾ straight (ending tree.heading)))
      ≡ part_at 0 (straight (prologue e.prologue) ⨾ (left c tree 0).value ⨾ straight (ending tree.heading))
      (first_spot tree.kind e)
  pub diags : b.diags ++ (left c tree b.count).diags ≡ (left c tree 0).diags
  pub answers : b.answers ++ (left c tree b.count).answers ≡ (left c tree 0).answers
  pub cells : b.cells ≡ e.cell

-- ---- a statement more

-- the body has grown by the code of a statement, and by what is given beside it
pub record IsAdded (before after : Built) (given : Gives Flow) : Type 0 where
  pub made_is : after.made ≡ extend before.made (part_at 0 given.value)
  pub diags : after.diags ≡ before.diags ++ given.diags
  pub answers : after.answers ≡ before.answers ++ given.answers
  pub cells : after.cells ≡ before.cells
  pub count : after.count ≡ before.count + 1

-- what a flow and its notes stand for
abbrev pub given_in : List Node → FlowOf → Notes → Gives Flow
given_in ns flow n = record { value = flow_in ns flow 0; diags = n.diags.items; answers = n.answers.items }

-- nothing was added, unless the answer is known
abbrev pub IsSameUnlessKnown : (before after : Built) → Result (Ask (Unit {0})) Memory → Type 0
IsSameUnlessKnown before after (Ok (Known u)) = Unit {0}
IsSameUnlessKnown before after other = after ≡ before

-- A body takes its next statement. Each answer noted was found by a search. The scope that the answer waits for is
-- incomplete, and before the own one; the body is as it was then. Where the texts are told, a known answer means that
-- the body has the next statement, by the definition: it has grown by it, and what was the beginning of a block's code
-- is a longer one.
pub record Adding (old new : State) (before after : Built) (s : Site) (tree : Stream)
    (answer : Result (Ask (Unit {0})) Memory) : Type 0 where
  pub looks : List Look
  pub keeps : Keeps old new looks
  pub answers : List Answer
  pub noted : after.answers ≡ before.answers ++ answers
  pub shown : Each (IsAmong looks) answers
  pub same : IsSameUnlessKnown before after answer
  pub count : IfKnown answer (λ u. after.count ≡ before.count + 1)
  pub waits : IfWaits answer (λ h. Waits old new h)
  pub told : WhereTold old.frame (λ made. let c = in_statements (context_of old.frame made s) in
      IfKnown answer (λ u.
      IfSome (statement_at tree.body before.count) (λ st. IsAdded before after (given_at c tree st))))
  pub built : WhereTold old.frame (λ made. let c = in_statements (context_of old.frame made s) in
      IfKnown answer (λ u. (e : BlockEffects) → IsBuilt c tree e before → IsBuilt c tree e after))

-- ---- the whole

-- what a block makes: its steps, its bytes of data, and the next cell and byte
pub record Whole : Type 0 where
  pub steps : List Step
  pub bytes : List ℕ
  pub cell : ℕ
  pub byte : ℕ

-- all that a run makes; behind a whole block no LOOP is open
abbrev pub whole_of : Run → Whole
whole_of r = record { steps = r.code 0; bytes = r.bytes; cell = r.next.cell; byte = r.next.byte }

-- a piece that has the whole of a block
abbrev pub whole_in : Piece → Whole
whole_in p = record { steps = map step_view p.steps.items; bytes = p.bytes.items; cell = p.cell; byte = p.byte }

-- The piece has the code of the whole block, whose declarations had these effects; the notes are those of its
-- statements and of its size.
pub record IsWhole (c : Context) (tree : Stream) (e : BlockEffects) (x : Stated) : Type 0 where
  pub made_is : whole_in x.piece ≡ whole_of (run_of (block_at c tree) e (body_of c (block_at c tree)).value)
  pub diags : x.notes.diags.items ≡ (body_of c (block_at c tree)).diags
      ++ size_diags c (block_at c tree) tree.kind e (run_of (block_at c tree) e (body_of c (block_at c tree)).value)
  pub answers : x.notes.answers.items ≡ (body_of c (block_at c tree)).answers
