-- A step of the work on a block: what it needs, and what it leaves.
use Rattle.std.specs.Prelude.{◌≡◌, ℕ, ◌<◌, ◌≤◌, ◌==◌, true, false, if◌then◌else◌, List, [], ◌∷◌, ◌++◌, Option, Some, None, Ok, flat_map, length, map, slice_get, take}
use Rattle.std.specs.Option.{IfSome}
use Rattle.std.proofs.Common.{refl, sym, ap, subst, ◌∙◌, arith}
use Rattle.std.proofs.lemmas.List.{append-nil, append_assoc, length-append, take_all}
use Rattle.m2_base.specs.Finished.{IsFinished, source_of}
use Rattle.m2_base.specs.Lists.{Each, WhereKept}
use Rattle.m2_base.specs.Scopes.{CanComplete, CanEnter, Completed, Entered}
use Rattle.m2_base.specs.States.{Frame, IsAmong, Keeps, Look, Setting, State}
use Rattle.m2_base.specs.Statics.BlockRows.{at_item, context_of as block_context, declare_block}
use Rattle.m2_base.specs.Statics.Closing.{Implemented, all_implemented, block_name, closing_diags, differing, differs_at, has_missing, implementation_diags, is_implemented, is_missing, name_diags, own_diags}
use Rattle.m2_base.specs.Statics.Contexts.{Context, Source, diag, no_layout}
use Rattle.m2_base.specs.Statics.Declarations.{declare}
use Rattle.m2_base.specs.Statics.Diagnostics.{heading_differs, not_implemented}
use Rattle.m2_base.specs.Statics.Effects.{BlockEffects}
use Rattle.m2_base.specs.Statics.Items.{Item, decl_item, heading_item, heading_items, import_items, items_of}
use Rattle.m2_base.specs.Statics.Layouts.{layout_of}
use Rattle.m2_base.specs.Statics.Makes.{Makes}
use Rattle.m2_base.specs.Statics.ReadStatements.{AreReadStatements}
use Rattle.m2_base.specs.Statics.Shapes.{item_shapes}
use Rattle.m2_base.specs.Statics.UnitNotes.{complete_context}
use Rattle.m2_base.specs.Tables.{rows_at}
use Rattle.m2_base.specs.Trees.{Heading, Stream}
use Rattle.m2_base.specs.Units.{UnitTexts}
use Rattle.m2_base.specs.Views.{stream_view}
use Rattle.m2_base.specs.declared.notes.Answer.{Answer}
use Rattle.m2_base.specs.declared.replies.Ask.TheVariants.{Known}
use Rattle.m2_base.specs.declared.rows.Place.{Place}
use Rattle.m2_base.specs.declared.rows.Row.{Row}
use Rattle.m2_base.specs.declared.sites.Around.{Around}
use Rattle.m2_base.specs.declared.sites.Site.{Site}
use Rattle.m2_base.specs.declared.trees.Ident.{Ident}
use Rattle.m2_base.specs.declared.trees.declarations.StreamKind.{StreamKind}
use Rattle.decl_sem.specs.DeclaredItems.{DeclaresItem}
use Rattle.decl_sem.specs.Items.{IsAtItem}
use Rattle.decl_sem.specs.declared.declaring.Declared.{Declared}
use Rattle.type_rules.specs.Scenes.{IsThere, WhereTold, block_of, hand}
use Rattle.type_rules.specs.Sites.{SuitsSite, context_of}
use Rattle.block_code.specs.BlockCode.{bound_result, in_statements, result_by}
use Rattle.stmt_sem.specs.Bodies.{Adding, Built, IsBuilt, left}
use Rattle.stmt_sem.specs.Stating.{Returns}
use Rattle.task_state.specs.Blocks.{block_with}
use Rattle.task_state.specs.Collecting.{CanAdd, Collected, first_cell_of, first_made, result_from, returned, with_item}
use Rattle.task_state.specs.Progress.{HasDeclared, HasStated}
use Rattle.task_state.specs.Steps.{IsComplete, IsDeclaring, IsInHand, IsStating}
use Rattle.task_state.specs.declared.stages.Block.{Block}
use Rattle.task_state.specs.declared.stages.Stating.{Stating}
use Rattle.task_state.proofs.NextItems.{IsDeclaredAt, IsSiteOf, all_made, at_next, can_add, entered_all, frame_with, may_complete, may_enter, one_declared, suits}
use Rattle.task_state.proofs.Lists.{shown_more, shown_still}

-- A site in the block in hand, with the layout that was collected.
pub record IsSiteIn (s : Site) (bl : Block) (m : Collected) (item : Option ℕ) : Type 0 where
  pub texts : s.texts.now ≡ bl.texts.now
  pub around : s.around.now ≡ bl.around.now
  pub layout : s.layout.now ≡ m.layout
  pub item_is : s.item ≡ item

pub site_of : (g : Setting) (s : Site) (bl : Block) (m : Collected) (item : Option ℕ) → IsInHand g bl → IsSiteIn s bl m item → IsSiteOf s g bl.around.now m.layout item
site_of g s bl m item h is = record { texts = is.texts ∙ h.texts; around = is.around; layout = is.layout; item_is = is.item_is }

-- ** Items

-- only searches were made
pub declaring_still : {a b : State} {looks : List Look} (bl : Block) (m : Collected) → Keeps a b looks → IsDeclaring a bl m → IsDeclaring b bl m
declaring_still {a} {b} {looks} bl m keeps far =
    record {
      in_hand = subst (λ (f : Frame). IsInHand f.setting bl) (sym keeps.frame) far.in_hand;
      open_yet = ap (λ (f : Frame). f.closed) keeps.frame ∙ far.open_yet;
      declared = subst (λ (f : Frame). HasDeclared f bl.around.now (stream_view bl.tree.now) m) (sym keeps.frame) far.declared;
      shown = shown_still a.looks b.looks looks m.answers keeps.grows far.shown;
    }

pub at_item_in_hand : (a : State) (s : Site) (bl : Block) (m : Collected) (x : Item) → IsSiteIn s bl m (Some m.count) → IsDeclaring a bl m → slice_get (items_of (stream_view bl.tree.now)) m.count ≡ Some x
    → IsAtItem a.frame s (stream_view bl.tree.now) x m.cell m.procedures
at_item_in_hand a s bl m x is far here =
    at_next a.frame s bl.around.now (stream_view bl.tree.now) m x far.in_hand.block (site_of a.frame.setting s bl m (Some m.count) far.in_hand is) here far.open_yet far.declared

module _ {a b : State} (s : Site) (bl : Block) (m : Collected) (x : Item) (d : Declared) (is : IsSiteIn s bl m (Some m.count)) (far : IsDeclaring a bl m) (here : slice_get (items_of (stream_view bl.tree.now)) m.count ≡ Some x)
    (p : DeclaresItem a b s (stream_view bl.tree.now) (Ok (Known d)) (item_shapes x) (λ c. declare c bl.tree.now.kind x m.cell)) where
  -- what is known of it
  declared_here : IsDeclaredAt a.frame s (stream_view bl.tree.now) x m.cell d
  declared_here = record { laid = p.laid; of_item = p.of_item; next = p.next; new_rows = p.new_rows; told = p.told }

  pub item_enters : CanEnter b d.rows.items
  item_enters =
      may_enter a.frame s bl.around.now (stream_view bl.tree.now) m x far.in_hand.block (site_of a.frame.setting s bl m (Some m.count) far.in_hand is) here far.open_yet far.declared
      d declared_here b p.keeps.frame

  pub item_added : CanAdd m d
  item_added =
      can_add a.frame s bl.around.now (stream_view bl.tree.now) m x far.in_hand.block (site_of a.frame.setting s bl m (Some m.count) far.in_hand is) here far.open_yet far.declared
      d declared_here

  pub item_taken : (c : State) → Entered b c d.rows.items → IsDeclaring c bl (with_item m d)
  item_taken c entered =
      let frame : c.frame ≡ frame_with a.frame d.rows.items = entered.frame ∙ ap (λ g. frame_with g d.rows.items) p.keeps.frame in
      let tree = stream_view bl.tree.now in
      record {
        in_hand = subst (λ (f : Frame). IsInHand f.setting bl) (sym frame) far.in_hand;
        open_yet = ap (λ (f : Frame). f.closed) frame ∙ far.open_yet;
        declared = subst (λ (f : Frame). HasDeclared f bl.around.now tree (with_item m d)) (sym frame)
            (one_declared a.frame s bl.around.now tree m x far.in_hand.block (site_of a.frame.setting s bl m (Some m.count) far.in_hand is) here far.open_yet far.declared
            d declared_here p.effect);
        shown = subst (λ (o : Option (List Look)). WhereKept o (λ looks. Each (IsAmong looks) (m.answers ++ d.notes.answers.items))) (sym entered.looks)
            (shown_more a.looks b.looks p.looks m.answers d.notes.answers.items p.keeps.grows far.shown p.shown);
      }

-- ** An item, by what the code has collected

module _ (a : State) (s : Site) (bl : Block) (m v : Collected) (x : Item) (same : v ≡ m) (is : IsSiteIn s bl v (Some v.count)) (far : IsDeclaring a bl m) (here : slice_get (items_of (stream_view bl.tree.now)) m.count ≡ Some x) where
  far_by : IsDeclaring a bl v
  far_by = subst (λ (z : Collected). IsDeclaring a bl z) (sym same) far

  here_by : slice_get (items_of (stream_view bl.tree.now)) v.count ≡ Some x
  here_by = subst (λ (z : Collected). slice_get (items_of (stream_view bl.tree.now)) z.count ≡ Some x) (sym same) here

  pub at_item_by : IsAtItem a.frame s (stream_view bl.tree.now) x v.cell v.procedures
  at_item_by = at_item_in_hand a s bl v x is far_by here_by

  module _ (b : State) (d : Declared) (p : DeclaresItem a b s (stream_view bl.tree.now) (Ok (Known d)) (item_shapes x) (λ c. declare c bl.tree.now.kind x v.cell)) where
    pub enters_by : CanEnter b d.rows.items
    enters_by = item_enters s bl v x d is far_by here_by p

    pub added_by : CanAdd m d
    added_by = subst (λ (z : Collected). CanAdd z d) same (item_added s bl v x d is far_by here_by p)

    pub taken_by : (c : State) (n : Collected) → Entered b c d.rows.items → n ≡ with_item m d → IsDeclaring c bl n
    taken_by c n entered next =
        subst (λ (z : Collected). IsDeclaring c bl z) (ap (λ (z : Collected). with_item z d) same ∙ sym next) (item_taken s bl v x d is far_by here_by p c entered)

-- nothing was kept
pub declaring_kept : (a b c : State) (bl : Block) (m n : Collected) (looks : List Look) → Keeps a b looks → c ≡ b → n ≡ m → IsDeclaring a bl m → IsDeclaring c bl n
declaring_kept a b c bl m n looks keeps same kept far =
    subst (λ (z : State). IsDeclaring z bl n) (sym same) (subst (λ (z : Collected). IsDeclaring b bl z) (sym kept) (declaring_still bl m keeps far))

-- the type of the result can be asked for in the complete scope, too
there_closed : (f : Frame) (o : Option Place) → IfSome o (λ t. IsThere f t) → IfSome o (λ t. IsThere (record { setting = f.setting; entered = f.entered; closed = true }) t)
there_closed f None h = tt
there_closed f (Some p) h = record { scope = h.scope; entered = λ own closed. absurd (let bad : true ≡ false = closed in cc) }

-- all are declared
pub completes : (a : State) (bl : Block) (m : Collected) → IsDeclaring a bl m → m.count ≡ length (items_of (stream_view bl.tree.now)) → CanComplete a
completes a bl m far all = may_complete a bl.around.now (stream_view bl.tree.now) m far.in_hand.block far.declared far.open_yet all

pub completed : {a b : State} (bl : Block) (m : Collected) → IsDeclaring a bl m → m.count ≡ length (items_of (stream_view bl.tree.now)) → Completed a b → IsComplete b bl m
completed {a} {b} bl m far all done =
    let closed : Frame = record { setting = a.frame.setting; entered = a.frame.entered; closed = true } in
    let d = far.declared in
    record {
      in_hand = subst (λ (f : Frame). IsInHand f.setting bl) (sym done.frame) far.in_hand;
      closed = ap (λ (f : Frame). f.closed) done.frame;
      declared = subst (λ (f : Frame). HasDeclared f bl.around.now (stream_view bl.tree.now) m) (sym done.frame)
          (record { within = d.within; brought = d.brought; of_each = d.of_each; layout = d.layout; laid = d.laid; owned = d.owned; cells = d.cells; procedures = d.procedures; there = there_closed a.frame m.returns d.there; told = d.told });
      all = all;
      shown = subst (λ (o : Option (List Look)). WhereKept o (λ looks. Each (IsAmong looks) m.answers)) (sym done.looks) far.shown;
    }

-- ** The complete block

pub complete_still : {a b : State} {looks : List Look} (bl : Block) (m : Collected) → Keeps a b looks → IsComplete a bl m → IsComplete b bl m
complete_still {a} {b} {looks} bl m keeps far =
    record {
      in_hand = subst (λ (f : Frame). IsInHand f.setting bl) (sym keeps.frame) far.in_hand;
      closed = ap (λ (f : Frame). f.closed) keeps.frame ∙ far.closed;
      declared = subst (λ (f : Frame). HasDeclared f bl.around.now (stream_view bl.tree.now) m) (sym keeps.frame) far.declared;
      all = far.all;
      shown = shown_still a.looks b.looks looks m.answers keeps.grows far.shown;
    }

none_before : {A : Type 0} (xs ys : List A) → xs ++ ys ≡ ys → xs ≡ []
none_before [] ys e = refl
none_before (x ∷ xs) ys e = let l = ap length e in let n = length-append (x ∷ xs) ys in absurd (omega (arith, l, n))

-- what the declarations of a block leave
module _ (st : State) (a : Around) (tree : Stream) (m : Collected) (declared : HasDeclared st.frame a tree m) (all : m.count ≡ length (items_of tree)) (tables : List (List Row)) (finished : IsFinished st.frame.setting.texts tables) where
  pub effects_are : (first_made (source_of st.frame.setting.texts) (take st.frame.setting.fills tables) (block_with a tree) m.count).value ≡ (declare_block (source_of st.frame.setting.texts) (take st.frame.setting.fills tables) (block_with a tree)).value
  effects_are = ap (λ (x : Makes BlockEffects). x.value) (all_made (source_of st.frame.setting.texts) (take st.frame.setting.fills tables) (block_with a tree) m.count all)

-- the closing check looks at no layout
differing_in : (c : Context) (all : List Implemented) → differing (in_statements c) all ≡ differing c all
differing_in c [] = refl
differing_in c (is_implemented ∷ rest) = differing_in c rest
differing_in c (is_missing ∷ rest) = differing_in c rest
differing_in c (differs_at at ∷ rest) = ap (λ ds. diag c at heading_differs ∷ ds) (differing_in c rest)

implementation_in : (c : Context) (name : Option Ident) (all : List Implemented) → implementation_diags (in_statements c) name all ≡ implementation_diags c name all
implementation_in c None all = refl
implementation_in c (Some i) all = ap (λ ds. if has_missing all then ds ++ diag c i.at not_implemented ∷ [] else ds) (differing_in c all)

own_in : (c : Context) (s : Stream) (own : Option ℕ) → own_diags (in_statements c) s own ≡ own_diags c s own
own_in c s None = refl
own_in c s (Some own) = ap (λ ds. if c.scene.block.level == 0 then ds else []) (implementation_in c s.name (all_implemented c.scene own 0 (rows_at c.scene.tables own)))

name_in : (c : Context) (close : Ident) (name : Option Ident) → name_diags (in_statements c) close name ≡ name_diags c close name
name_in c close None = refl
name_in c close (Some i) = refl

closing_in : (c : Context) (s : Stream) → closing_diags (in_statements c) s ≡ closing_diags c s
closing_in c s = λ k. name_in c s.close (block_name s) k ++ own_in c s c.scene.block.own k

-- where the closing check and the statements of the block stand
module _ (a : State) (s : Site) (bl : Block) (m : Collected) (at : IsSiteIn s bl m None) (h : IsInHand a.frame.setting bl) (declared : HasDeclared a.frame bl.around.now (stream_view bl.tree.now) m) (whole : m.count ≡ length (items_of (stream_view bl.tree.now))) where
  context_is : (tables : List (List Row)) → IsFinished a.frame.setting.texts tables
      → in_statements (context_of a.frame (hand tables []) s) ≡ complete_context (source_of a.frame.setting.texts) tables (block_of bl.around.now)
  context_is tables finished =
      let fills = h.block.fills in
      λ k. record {
        source = source_of ((at.texts ∙ h.texts) k);
        scene = record { block = block_of (at.around k); tables = take (sym fills k) tables ++ both k ∷ [] };
        layout = no_layout;
        item = None;
      }
    where
      both : a.frame.entered ++ [] ≡ rows_at tables bl.around.now.scope
      both =
          append-nil a.frame.entered ∙ entered_all a.frame bl.around.now (stream_view bl.tree.now) m h.block declared whole tables finished
          ∙ ap (rows_at tables) (sym h.block.fills)

  -- what was noted of the complete block
  closing_is : (x : Stating) → WhereTold a.frame (λ made. x.closing.items ≡ closing_diags (context_of a.frame made s) (stream_view bl.tree.now))
      → (tables : List (List Row)) → IsFinished a.frame.setting.texts tables → x.closing.items ≡ closing_diags (complete_context (source_of a.frame.setting.texts) tables (block_of bl.around.now)) (stream_view bl.tree.now)
  closing_is x noted tables finished =
      noted (hand tables []) (record { closed = λ _. refl; types = tt }) finished
      ∙ sym (closing_in (context_of a.frame (hand tables []) s) (stream_view bl.tree.now))
      ∙ ap (λ (c : Context). closing_diags c (stream_view bl.tree.now)) (context_is tables finished)

-- a body is begun
pub stating_begun : (st : State) (s : Site) (bl : Block) (m : Collected) (x : Stating) → IsSiteIn s bl m None → IsComplete st bl m → x.body.count ≡ 0
    → WhereTold st.frame (λ made. x.closing.items ≡ closing_diags (context_of st.frame made s) (stream_view bl.tree.now))
    → ((c : Context) (e : BlockEffects) → e.cell ≡ m.cell → e.prologue ≡ m.copies → IsBuilt c (stream_view bl.tree.now) e x.body)
    → IsStating st bl m x
stating_begun st s bl m x at far none closing begun =
    let tree = stream_view bl.tree.now in
    let a = bl.around.now in
    let u = st.frame.setting.texts in
    let b = block_with a tree in
    let some : IsBuilt (complete_context (source_of u) [] b.block) tree (record { cell = m.cell; prologue = m.copies; headings = []; brought = [] }) x.body = begun (complete_context (source_of u) [] b.block) (record { cell = m.cell; prologue = m.copies; headings = []; brought = [] }) refl refl in
    let no_answers : x.body.answers ≡ [] =
    none_before x.body.answers (left (complete_context (source_of u) [] b.block) tree 0).answers
    (ap (λ (n : ℕ). x.body.answers ++ (left (complete_context (source_of u) [] b.block) tree n).answers) (sym none) ∙ some.answers) in
    record {
      in_hand = far.in_hand;
      closed = far.closed;
      declared = far.declared;
      all = far.all;
      stated =
          record {
            within = omega (arith, none);
            told = λ tables finished.
                let fills = far.in_hand.block.fills in
                let so = far.declared.told tables finished in
                let e = effects_are st a tree m far.declared far.all tables finished in
                let c = complete_context (source_of u) tables b.block in
                let before : take st.frame.setting.fills tables ≡ take a.scope tables = ap (λ (n : ℕ). take n tables) (sym fills) in
                record {
                  closing = closing_is st s bl m at far.in_hand far.declared far.all x closing tables finished;
                  built = subst (λ (ts : List (List Row)). IsBuilt c tree (declare_block (source_of u) ts b).value x.body) before
                      (begun c (declare_block (source_of u) (take st.frame.setting.fills tables) b).value
                      (sym (so.cell ∙ ap (λ (v : BlockEffects). v.cell) e)) (sym (so.copies ∙ ap (λ (v : BlockEffects). v.prologue) e)));
                };
          };
      shown = subst (λ (xs : List Answer). WhereKept st.looks (λ looks. Each (IsAmong looks) xs)) (sym (ap (λ xs. m.answers ++ xs) no_answers ∙ append-nil m.answers)) far.shown;
    }

-- ** Statements

pub suits_statements : (st : State) (s : Site) (bl : Block) (m : Collected) → IsSiteIn s bl m None → IsInHand st.frame.setting bl → st.frame.closed ≡ true → HasDeclared st.frame bl.around.now (stream_view bl.tree.now) m → m.count ≡ length (items_of (stream_view bl.tree.now))
    → SuitsSite st.frame s
suits_statements st s bl m at h closed declared all =
    suits st.frame s bl.around.now (stream_view bl.tree.now) m None h.block (site_of st.frame.setting s bl m None h at) declared (λ none. closed) (λ c. all)

pub statements_read : (g : Setting) (s : Site) (bl : Block) (m : Collected) → IsSiteIn s bl m None → IsInHand g bl → AreReadStatements s.texts.now.names (stream_view bl.tree.now).body
statements_read g s bl m at h = subst (λ (u : UnitTexts). AreReadStatements u.names (stream_view bl.tree.now).body) (sym (at.texts ∙ h.texts)) h.block.statements

-- the block's own heading is its first item
heading_first : (c : Context) (kind : StreamKind) (cell : ℕ) (tree : Stream) (h : Heading) → tree.heading ≡ Some h → result_from c kind cell (items_of tree) ≡ (declare (at_item c 0) kind (heading_item h) cell).value.result
heading_first c kind cell tree h e =
    ap (λ (o : Option Heading). result_from c kind cell (heading_items o ++ flat_map import_items tree.imports ++ map decl_item tree.decls)) e

-- a body returns what the heading gives
module _ (st : State) (bl : Block) (m : Collected) (h : IsInHand st.frame.setting bl) (declared : HasDeclared st.frame bl.around.now (stream_view bl.tree.now) m) where
  pub returns_there : IfSome (returned (stream_view bl.tree.now).heading m.returns) (λ t. IsThere st.frame t)
  returns_there = by (stream_view bl.tree.now).heading
    where
      by : (o : Option Heading) → IfSome (returned o m.returns) (λ t. IsThere st.frame t)
      by None = tt
      by (Some head) = declared.there

  pub returns_is : (s : Site) → IsSiteIn s bl m None → st.frame.closed ≡ true → m.count ≡ length (items_of (stream_view bl.tree.now))
      → Returns st.frame s (stream_view bl.tree.now) (returned (stream_view bl.tree.now).heading m.returns)
  returns_is s at closed all made in_hand finished = by (stream_view bl.tree.now).heading refl ∙ sym here
    where
      tables : List (List Row)
      tables = made.finished

      tree : Stream
      tree = stream_view bl.tree.now

      source : Source
      source = source_of st.frame.setting.texts

      before : List (List Row)
      before = take st.frame.setting.fills made.finished

      -- where the statements stand
      here : result_by (context_of st.frame made s) (stream_view bl.tree.now)
          ≡ result_by (complete_context (source_of st.frame.setting.texts) made.finished (block_of bl.around.now)) (stream_view bl.tree.now)
      here =
          ap (λ (rows : List Row). result_by (context_of st.frame (hand made.finished rows) s) (stream_view bl.tree.now)) (in_hand.closed closed)
          ∙ ap (λ (c : Context). result_by c (stream_view bl.tree.now)) (context_is st s bl m at h declared all made.finished finished)

      by : (o : Option Heading) → (stream_view bl.tree.now).heading ≡ o
          → returned o m.returns ≡ result_by (complete_context (source_of st.frame.setting.texts) made.finished (block_of bl.around.now)) (stream_view bl.tree.now)
      by None e = sym (ap (λ (o : Option Heading). bound_result (record (complete_context (source_of st.frame.setting.texts) made.finished (block_of bl.around.now)) { layout = layout_of (stream_view bl.tree.now); item = Some 0 }) o) e)
      by (Some head) e =
          let b = block_with bl.around.now (stream_view bl.tree.now) in
          let c = block_context (source_of st.frame.setting.texts) (take st.frame.setting.fills made.finished) b in
          let cell = first_cell_of (take st.frame.setting.fills made.finished) b in
          (declared.told made.finished finished).returns
          ∙ ap (λ (xs : List Item). result_from c (stream_view bl.tree.now).kind cell xs) (take_all m.count (items_of (stream_view bl.tree.now)) (omega (arith, all)))
          ∙ heading_first c (stream_view bl.tree.now).kind cell (stream_view bl.tree.now) head e
          ∙ (h.block.told made.finished finished).returns head cell e

-- the same of what code has for it
pub returned_there : (st : State) (bl : Block) (m : Collected) → IsInHand st.frame.setting bl → HasDeclared st.frame bl.around.now (stream_view bl.tree.now) m → (r : Option Place) → r ≡ returned (stream_view bl.tree.now).heading m.returns
    → IfSome r (λ t. IsThere st.frame t)
returned_there st bl m h declared r is = subst (λ (o : Option Place). IfSome o (λ t. IsThere st.frame t)) (sym is) (returns_there st bl m h declared)

pub returned_is : (st : State) (s : Site) (bl : Block) (m : Collected) → IsSiteIn s bl m None → IsInHand st.frame.setting bl → HasDeclared st.frame bl.around.now (stream_view bl.tree.now) m → st.frame.closed ≡ true → m.count ≡ length (items_of (stream_view bl.tree.now))
    → (r : Option Place) → r ≡ returned (stream_view bl.tree.now).heading m.returns
    → Returns st.frame s (stream_view bl.tree.now) r
returned_is st s bl m at h declared closed all r is =
    subst (λ (o : Option Place). Returns st.frame s (stream_view bl.tree.now) o) (sym is)
    (returns_is st bl m h declared s at closed all)

module _ {a b : State} (bl : Block) (m : Collected) (x : Stating) (far : IsStating a bl m x) where
  -- nothing was added
  pub stating_still : {looks : List Look} (y : Stating) → Keeps a b looks → y.closing.items ≡ x.closing.items → y.body ≡ x.body → IsStating b bl m y
  stating_still {looks} y keeps closing body =
      let tree = stream_view bl.tree.now in
      let s = far.stated in
      let stated : HasStated a.frame bl.around.now bl.tree.now y =
      record {
        within = subst (λ (z : Built). z.count ≤ length bl.tree.now.body.items) (sym body) s.within;
        told = λ tables finished.
            let t = s.told tables finished in
            record { closing = closing ∙ t.closing; built = subst (λ (z : Built). IsBuilt (complete_context (source_of a.frame.setting.texts) tables (block_of bl.around.now)) tree (declare_block (source_of a.frame.setting.texts) (take bl.around.now.scope tables) (block_with bl.around.now tree)).value z) (sym body) t.built };
      } in
      record {
        in_hand = subst (λ (f : Frame). IsInHand f.setting bl) (sym keeps.frame) far.in_hand;
        closed = ap (λ (f : Frame). f.closed) keeps.frame ∙ far.closed;
        declared = subst (λ (f : Frame). HasDeclared f bl.around.now tree m) (sym keeps.frame) far.declared;
        all = far.all;
        stated = subst (λ (f : Frame). HasStated f bl.around.now bl.tree.now y) (sym keeps.frame) stated;
        shown = shown_still a.looks b.looks looks (m.answers ++ y.body.answers) keeps.grows
            (subst (λ (z : Built). WhereKept a.looks (λ l. Each (IsAmong l) (m.answers ++ z.answers))) (sym body) far.shown);
      }

  -- a statement more
  pub stating_next : (s : Site) → IsSiteIn s bl m None → (y : Stating) → x.body.count < length bl.tree.now.body.items → y.closing.items ≡ x.closing.items
      → Adding a b x.body y.body s (stream_view bl.tree.now) (Ok (Known tt)) → IsStating b bl m y
  stating_next s at y more closing p =
      let tree = stream_view bl.tree.now in
      let stated_far = far.stated in
      let count = p.count in
      let effects : (tables : List (List Row)) → BlockEffects = λ tables. (declare_block (source_of a.frame.setting.texts) (take bl.around.now.scope tables) (block_with bl.around.now tree)).value in
      let stated : HasStated a.frame bl.around.now bl.tree.now y =
      record {
        within = omega (arith, count, more);
        told = λ tables finished.
            let t = stated_far.told tables finished in
            record {
              closing = closing ∙ t.closing;
              built = subst (λ (c : Context). IsBuilt c tree (effects tables) x.body → IsBuilt c tree (effects tables) y.body) (context_is a s bl m at far.in_hand far.declared far.all tables finished)
                  (p.built (hand tables []) (record { closed = λ _. refl; types = tt }) finished (effects tables)) t.built;
            };
      } in
      record {
        in_hand = subst (λ (f : Frame). IsInHand f.setting bl) (sym p.keeps.frame) far.in_hand;
        closed = ap (λ (f : Frame). f.closed) p.keeps.frame ∙ far.closed;
        declared = subst (λ (f : Frame). HasDeclared f bl.around.now tree m) (sym p.keeps.frame) far.declared;
        all = far.all;
        stated = subst (λ (f : Frame). HasStated f bl.around.now bl.tree.now y) (sym p.keeps.frame) stated;
        shown = subst (λ (xs : List Answer). WhereKept b.looks (λ l. Each (IsAmong l) xs)) (append_assoc m.answers x.body.answers p.answers ∙ sym (ap (λ xs. m.answers ++ xs) p.noted))
            (shown_more a.looks b.looks p.looks (m.answers ++ x.body.answers) p.answers p.keeps.grows far.shown p.shown);
      }
