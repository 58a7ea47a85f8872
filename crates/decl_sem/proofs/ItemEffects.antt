-- What an item gives beside its rows.
use Rattle.std.specs.Prelude.{◌≡◌, ℕ, List, ◌++◌, Result, Ok, Err}
use Rattle.std.proofs.Common.{subst, sym, ap, ◌∙◌}
use Rattle.std.proofs.lemmas.List.{append-nil}
use Rattle.m2_base.specs.States.{Frame, State}
use Rattle.m2_base.specs.Statics.Contexts.{Context}
use Rattle.m2_base.specs.Statics.Declarations.{declare}
use Rattle.m2_base.specs.Statics.Makes.{Makes, make_then, makes}
use Rattle.m2_base.specs.Statics.Shapes.{Shape, item_shapes}
use Rattle.m2_base.specs.declared.notes.Answer.{Answer}
use Rattle.m2_base.specs.declared.notes.Diag.{Diag}
use Rattle.m2_base.specs.Statics.Effects.{Effect}
use Rattle.m2_base.specs.Statics.Items as items
use Rattle.m2_base.specs.declared.trees.declarations.StreamKind.{StreamKind}
use Rattle.m2_base.specs.declared.memory.Memory.{Memory}
use Rattle.m2_base.specs.declared.replies.Ask.{Ask}
use Rattle.m2_base.specs.declared.replies.Ask.TheVariants.{DontKnowYet, Known}
use Rattle.m2_base.specs.declared.rows.Row.{Row}
use Rattle.m2_base.specs.declared.sites.Site.{Site}
use Rattle.type_rules.specs.Sites.{context_of}
use Rattle.decl_sem.specs.Brought.{DeclaresWith}
use Rattle.decl_sem.specs.Items.{IsEffectOf, IsLoneEffect}
use Rattle.decl_sem.specs.Making.{next_ordinal}
use Rattle.m2_base.specs.Statics.ReadTrees.{IsReadItem}
use Rattle.decl_sem.specs.Pieces.{Declares, IsMaking}
use Rattle.decl_sem.specs.declared.making.Made.{Made}
use Rattle.decl_sem.proofs.BroughtRows.{bringing_failed, bringing_none, bringing_waits}

-- the value of a piece, seen otherwise
pub valued : {T U : Type 0} {a b : State} {x y : Made} {s : Site} {ss : List Shape} {P : Frame → ℕ → T → Type 0} {g : Context → Makes T} {v : T} (Q : Frame → ℕ → U → Type 0) (F : T → U) (w : U) → w ≡ F v
    → Q a.frame (next_ordinal y) w → Declares a b x y s (Ok (Known v)) ss P g → Declares a b x y s (Ok (Known w)) ss Q (λ c. make_then c (g c) (λ d p. makes (F p)))
valued {a = a} {x = x} {s = s} {g = g} Q F w e h p =
    record {
      works = p.works;
      waits = tt;
      first = p.first;
      grown = p.grown;
      told = λ hand in_hand told same.
          let m = p.told hand in_hand told same in
          let c = context_of a.frame hand s in
          record {
            value_is = e ∙ ap F m.value_is;
            rows = m.rows ∙ ap (λ (t : List Row). x.rows.items ++ t) (sym (append-nil (g c).rows));
            diags = m.diags ∙ ap (λ (t : List Diag). x.notes.diags.items ++ t) (sym (append-nil (g c).diags));
            answers = m.answers ∙ ap (λ (t : List Answer). x.notes.answers.items ++ t) (sym (append-nil (g c).answers));
          };
      there = h;
    }

-- an item that brings nothing
pub alone_as : {a b : State} {x y : Made} {s : Site} {ss : List Shape} {g : Context → Makes Effect} (item : items.Item) (answer : Result (Ask Effect) Memory) → Declares a b x y s answer ss IsLoneEffect g → DeclaresWith a b x y s answer ss (λ e. e.brought) (IsEffectOf item) g
alone_as item (Ok (Known e)) p = bringing_none (λ e. e.brought) p.there.alone (record { effect = p.there.effect; only = λ plain. p.there.alone }) p
alone_as item (Ok (DontKnowYet head)) p = bringing_waits (λ e. e.brought) p
alone_as item (Err m) p = bringing_failed (λ e. e.brought) p m

-- the same item, as another has it
pub alone_of : {a b : State} {m n : Made} {s : Site} (kind : StreamKind) (cell : ℕ) (x y : items.Item) → x ≡ y → (answer : Result (Ask Effect) Memory)
    → Declares a b m n s answer (item_shapes x) IsLoneEffect (λ c. declare c kind x cell)
    → DeclaresWith a b m n s answer (item_shapes y) (λ e. e.brought) (IsEffectOf y) (λ c. declare c kind y cell)
alone_of {a} {b} {m} {n} {s} kind cell x y same answer p =
    subst (λ (z : items.Item). DeclaresWith a b m n s answer (item_shapes z) (λ e. e.brought) (IsEffectOf z) (λ c. declare c kind z cell)) same (alone_as x answer p)

module _ {x y : items.Item} (same : x ≡ y) where
  pub item_making : {f : Frame} {s : Site} {m : Made} → IsMaking f s m (item_shapes x) → IsMaking f s m (item_shapes y)
  item_making {f} {s} {m} making = subst (λ (z : items.Item). IsMaking f s m (item_shapes z)) same making

  pub item_read : (names : List (List ℕ)) → IsReadItem names x → IsReadItem names y
  item_read names read = subst (λ (z : items.Item). IsReadItem names z) same read

  pub item_made : {a b : State} {m n : Made} {s : Site} (kind : StreamKind) (cell : ℕ) (answer : Result (Ask Effect) Memory)
      → Declares a b m n s answer (item_shapes y) IsLoneEffect (λ c. declare c kind y cell)
      → Declares a b m n s answer (item_shapes x) IsLoneEffect (λ c. declare c kind x cell)
  item_made {a} {b} {m} {n} {s} kind cell answer p = subst (λ (z : items.Item). Declares a b m n s answer (item_shapes z) IsLoneEffect (λ c. declare c kind z cell)) (sym same) p
