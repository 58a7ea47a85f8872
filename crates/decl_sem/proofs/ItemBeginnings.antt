-- An item's rows begin to be made, and all are made.
use Rattle.std.specs.Prelude.{◌≡◌, ℕ, ◌+◌, ◌<◌, ◌≤◌, ◌^◌, List, [], ◌∷◌, ◌++◌, length, flat_map, slice_get, unwrap_or, option_map, Option, None, Some, Ok, Err}
use Rattle.std.proofs.Common.{sym, ap, ◌∙◌, subst, arith}
use Rattle.std.proofs.lemmas.List.{append_assoc, append-nil, length-append}
use Rattle.std.proofs.lemmas.List.Concat.{flat_map-append}
use Rattle.std.specs.Option.{IfSome}
use Rattle.m2_base.specs.Lists.{Each}
use Rattle.m2_base.specs.declared.notes.Diag.{Diag}
use Rattle.m2_base.specs.Rows.{row_meaning}
use Rattle.m2_base.specs.States.{Frame, IsAmong, State}
use Rattle.m2_base.specs.Statics.Contexts.{Context}
use Rattle.m2_base.specs.Statics.Effects.{Effect}
use Rattle.m2_base.specs.Statics.Items as items
use Rattle.m2_base.specs.Statics.Bringing.{BringsIts}
use Rattle.m2_base.specs.Statics.Layouts.{Layout, extended, first_row, firsts_from, laid_shapes, names_from, with_brought}
use Rattle.m2_base.specs.Statics.Lookup.{brought_before}
use Rattle.m2_base.specs.declared.limits.TheConstants.{MOST_BROUGHT}
use Rattle.m2_base.specs.Statics.Makes.{Makes}
use Rattle.m2_base.specs.Statics.Shapes.{Shape, item_shapes}
use Rattle.m2_base.specs.Trees.{Stream}
use Rattle.m2_base.specs.declared.memory.Memory.{Memory}
use Rattle.m2_base.specs.declared.notes.Answer.{Answer}
use Rattle.m2_base.specs.declared.replies.Ask.TheVariants.{DontKnowYet, Known}
use Rattle.m2_base.specs.declared.replies.Head.{Head}
use Rattle.m2_base.specs.declared.rows.Row.{Row}
use Rattle.m2_base.specs.declared.sites.Named.{Named}
use Rattle.m2_base.specs.declared.sites.Site.{Site}
use Rattle.m2_base.proofs.EachLaws.{each_then}
use Rattle.m2_base.proofs.Kept.{Keeps-refl}
use Rattle.type_rules.specs.Scenes.{NamesNoType}
use Rattle.type_rules.specs.Sites.{context_of}
use Rattle.decl_sem.specs.DeclaredItems.{DeclaresItem}
use Rattle.decl_sem.specs.Brought.{DeclaresWith, GrownWith}
use Rattle.decl_sem.specs.Items.{IsAtItem, IsEffect, IsEffectOf}
use Rattle.decl_sem.specs.LaidRows.{AreLaid, HasFirsts, IsAhead}
use Rattle.decl_sem.specs.Layouts.{IsLayoutAt}
use Rattle.decl_sem.specs.NewNames.{AreNewNames}
use Rattle.decl_sem.specs.Making.{next_ordinal}
use Rattle.decl_sem.specs.Pieces.{AreNewRows, BeginsAt, Declares, IsMaking, IsOwned, end_by, first_by, item_end}
use Rattle.decl_sem.specs.declared.declaring.Declared.{Declared}
use Rattle.decl_sem.specs.declared.making.Made.{Made}
use Rattle.decl_sem.proofs.Aliases.{aliases_before}
use Rattle.decl_sem.proofs.FirstOrdinals.{before_all, begins_behind, end_of, first_of, rows_of}
use Rattle.decl_sem.proofs.LaidOnce.{some_is}
use Rattle.decl_sem.proofs.LayoutSteps.{brought_behind, firsts_ahead, firsts_are, laid_with, names_are, new_items, next_layout, rows_are}
use Rattle.decl_sem.proofs.Pieces.{laid-length}

-- ** The begin

module _ {f : Frame} {s : Site} {stream : Stream} {x : items.Item} {cell procedures : ℕ} (at : IsAtItem f s stream x cell procedures) where
  names_here : s.layout.now.names ≡ names_from 0 0 (at.before ++ x ∷ at.rest)
  names_here = names_are at.layout at.before at.rest x at.items at.of_each

  firsts_here : s.layout.now.firsts ≡ firsts_from 0 (at.before ++ x ∷ at.rest)
  firsts_here = firsts_are at.layout at.before at.rest x at.items at.of_each

  rows_here : length (laid_shapes at.before at.brought) ≡ rows_of at.before + length s.layout.now.brought
  rows_here = rows_are at.layout at.before at.rest x at.items at.of_each

  entered_are : length f.entered ≡ rows_of at.before + length s.layout.now.brought
  entered_are = laid-length at.entered ∙ rows_here

  -- what is brought was brought by earlier items
  brought_here : brought_before s.layout.now.brought (length at.before) ≡ length s.layout.now.brought
  brought_here = before_all s.layout.now.brought (length at.before) (subst (λ (n : ℕ). Each (λ b. b.item < n) s.layout.now.brought) at.of_each at.layout.earlier)

  brought_next : brought_before s.layout.now.brought (length at.before + 1) ≡ length s.layout.now.brought
  brought_next =
      let e = at.of_each in
      before_all s.layout.now.brought (length at.before + 1)
      (each_then (λ b. b.item < length at.brought) (λ b. b.item < length at.before + 1) s.layout.now.brought (λ b h. omega (arith, e, h)) at.layout.earlier)

  -- the first ordinal of the item by the layout
  first_here : first_by s.layout.now s.item ≡ Some (0 + rows_of at.before + brought_before s.layout.now.brought (length at.before))
  first_here =
      let there : slice_get s.layout.now.firsts (length at.before) ≡ Some (0 + rows_of at.before) = ap (λ (l : List ℕ). slice_get l (length at.before)) firsts_here ∙ first_of at.before at.rest x 0 in
      ap (first_by s.layout.now) at.item ∙ ap (option_map (λ (o : ℕ). o + brought_before s.layout.now.brought (length at.before))) there

  first_is : (first : ℕ) → first_by s.layout.now s.item ≡ Some first → first ≡ rows_of at.before + length s.layout.now.brought
  first_is first h =
      let there = first_here in
      let same : first ≡ 0 + rows_of at.before + brought_before s.layout.now.brought (length at.before) = cc in
      let b = brought_here in
      omega (arith, same, b)

  -- so there is one
  pub has_first : first_by s.layout.now s.item ≡ None → ⊥
  has_first h = let there = first_here in cc

  end_is : item_end s ≡ rows_of at.before + length s.layout.now.brought + length (item_shapes x)
  end_is =
      let there : slice_get s.layout.now.firsts (length at.before + 1) ≡ Some (0 + rows_of at.before + length (item_shapes x)) =
      ap (λ (l : List ℕ). slice_get l (length at.before + 1)) firsts_here ∙ end_of at.before at.rest x 0 in
      let e : item_end s ≡ 0 + rows_of at.before + length (item_shapes x) + brought_before s.layout.now.brought (length at.before + 1) =
      ap (end_by s.layout.now) at.item
      ∙ ap (λ (o : Option ℕ). unwrap_or (option_map (λ (n : ℕ). n + brought_before s.layout.now.brought (length at.before + 1)) o) 0) there in
      let b = brought_next in
      omega (arith, e, b)

  -- its rows are within those of the block
  end_small : rows_of at.before + length s.layout.now.brought + length (item_shapes x) ≤ 2 ^ 31
  end_small =
      let e = ap (λ (xs : List items.Item). length (flat_map item_shapes xs)) at.items in
      let g = ap length (flat_map-append item_shapes at.before (x ∷ at.rest)) in
      let l = length-append (flat_map item_shapes at.before) (flat_map item_shapes (x ∷ at.rest)) in
      let m = length-append (item_shapes x) (flat_map item_shapes at.rest) in
      let few = at.few in
      let brought = at.layout.few in
      omega arith

  old_here : (first : ℕ) → first ≡ rows_of at.before + length s.layout.now.brought → Each (λ b. b.ordinal < first) s.layout.now.brought
  old_here first e =
      let r = rows_here in
      each_then (λ b. b.ordinal < length (laid_shapes at.before at.brought)) (λ b. b.ordinal < first) s.layout.now.brought (λ b h. omega (arith, e, r, h))
      (brought_behind at.layout at.before at.rest x at.items at.of_each)

  ahead_here : IsAhead s.layout.now f.entered (item_shapes x)
  ahead_here =
      record {
        before = laid_shapes at.before at.brought;
        rest = flat_map item_shapes at.rest;
        laid = at.entered;
        firsts = subst (λ (ss : List Shape). HasFirsts s.layout.now ss) (append_assoc (laid_shapes at.before at.brought) (item_shapes x) (flat_map item_shapes at.rest))
            (firsts_ahead at.layout at.before at.rest x at.items at.of_each);
      }

  pub making_begins : (made : Made) → first_by s.layout.now s.item ≡ Some made.first → made.rows.items ≡ [] → IsMaking f s made (item_shapes x)
  making_begins made h none =
      let first = first_is made.first h in
      let count : length f.entered ≡ made.first = entered_are ∙ sym first in
      let no_rows : f.entered ++ made.rows.items ≡ f.entered = ap (λ (rows : List Row). f.entered ++ rows) none ∙ append-nil f.entered in
      record {
        suits = at.suits;
        small = at.small;
        begun = at.begun;
        item = length at.before;
        of_item = at.item;
        begins = begins_behind s.layout.now at.before (x ∷ at.rest) made.first names_here first (old_here made.first first);
        old = old_here made.first first;
        aliases = aliases_before s.layout.now stream at.before at.rest x made.first at.items names_here first (old_here made.first first);
        count = count;
        entered = subst (λ (n : ℕ). Each (λ r. IsOwned n (row_meaning r)) f.entered) count at.owned;
        types = subst (λ (rows : List Row). Each (λ r. NamesNoType (row_meaning r)) rows) (sym none) tt;
        rows = subst (λ (rows : List Row). AreNewRows f (item_end s) made.first rows) (sym none) tt;
        ahead = subst (λ (rows : List Row). IsAhead s.layout.now rows (item_shapes x)) (sym no_rows) ahead_here;
        room = let e = end_is in let l = ap length none in omega (arith, e, l, first);
        few = let e = end_is in let l = end_small in omega (arith, e, l);
      }

  -- ** The layout behind the item

  module _ {x0 y : Made} {b : List Named} (none : x0.rows.items ≡ []) (count : length f.entered ≡ x0.first) (grown : GrownWith f s x0 y (item_shapes x) b) where
    limit_here : next_ordinal x0 + length (item_shapes x) ≡ length (laid_shapes at.before at.brought) + length (item_shapes x)
    limit_here = let e = ap length none in let r = rows_here in let n = entered_are in omega (arith, e, r, n, count)

    named_here : AreNewNames s.layout.now (length at.before) (next_ordinal x0 + length (item_shapes x)) (next_ordinal x0 + length (item_shapes x)) b
    named_here = subst (λ (o : Option ℕ). AreNewNames s.layout.now (unwrap_or o 0) (next_ordinal x0 + length (item_shapes x)) (next_ordinal x0 + length (item_shapes x)) b) at.item grown.names

    few_here : length s.layout.now.brought + length b ≤ MOST_BROUGHT
    few_here = let h = grown.few in let l = at.layout.few in omega (arith, h, l)

    -- the rows with those of the names that are brought
    pub laid_here : AreLaid (extended s.layout.now b) (length f.entered) (with_brought (item_shapes x) b) (grown.own ++ grown.rows)
    laid_here =
        let start : next_ordinal x0 ≡ length f.entered = let e = ap length none in omega (arith, e, count) in
        laid_with at.layout at.before at.rest x at.items at.of_each b (next_ordinal x0 + length (item_shapes x)) limit_here named_here grown.own grown.rows (laid-length at.entered)
        (subst (λ (n : ℕ). AreLaid s.layout.now n (item_shapes x) grown.own) start grown.laid) (laid-length grown.laid) grown.of_names

    pub of_here : Each (λ (n : Named). s.item ≡ Some n.item) b
    of_here = each_then (λ (n : Named). n.item ≡ length at.before) (λ (n : Named). s.item ≡ Some n.item) b (λ n e. at.item ∙ ap (λ (k : ℕ). Some k) (sym e))
        (new_items s.layout.now (length at.before) (next_ordinal x0 + length (item_shapes x)) (next_ordinal x0 + length (item_shapes x)) b named_here)

    pub next_here : BringsIts x b → (brought : List (List Named)) → s.item ≡ Some (length brought) → IsLayoutAt s.layout.now stream brought → IsLayoutAt (extended s.layout.now b) stream (brought ++ b ∷ [])
    next_here only brought item so =
        let each : length brought ≡ length at.before = some_is (length brought) (length at.before) (sym item ∙ at.item) in
        let rows = rows_are so at.before at.rest x at.items each in
        let mine = limit_here in
        let here = rows_here in
        let limit : next_ordinal x0 + length (item_shapes x) ≡ length (laid_shapes at.before brought) + length (item_shapes x) = omega (arith, rows, mine, here) in
        next_layout so at.before at.rest x at.items each b (next_ordinal x0 + length (item_shapes x)) limit named_here only few_here

-- ** The end

module _ {a b : State} {s : Site} {stream : Stream} {item : items.Item} {cell procedures : ℕ} (at : IsAtItem a.frame s stream item cell procedures) {x y : Made} {given : Context → Makes Effect} where
  -- the rows in hand are all
  pub declares_all : (d : Declared) (e : Effect) → x.rows.items ≡ [] → x.notes.diags.items ≡ [] → x.notes.answers.items ≡ [] → length a.frame.entered ≡ x.first
      → d.rows.items ≡ y.rows.items → d.notes.diags.items ≡ y.notes.diags.items → d.notes.answers.items ≡ y.notes.answers.items → d.effect ≡ e
      → DeclaresWith a b x y s (Ok (Known e)) (item_shapes item) (λ v. v.brought) (IsEffectOf item) given → DeclaresItem a b s stream (Ok (Known d)) (item_shapes item) given
  declares_all d e none no_diags no_answers count rows diags answers effect p =
      let next : next_ordinal x ≡ length a.frame.entered = let l = ap length none in omega (arith, l, count) in
      let made : d.rows.items ≡ p.grown.own ++ p.grown.rows = rows ∙ p.grown.more ∙ ap (λ (t : List Row). t ++ (p.grown.own ++ p.grown.rows)) none in
      let behind : next_ordinal y ≡ length a.frame.entered + length d.rows.items =
      let first = p.first in let held = ap length rows in omega (arith, first, held, count) in
      let noted : d.notes.answers.items ≡ p.works.answers = answers ∙ p.works.noted ∙ ap (λ (t : List Answer). t ++ p.works.answers) no_answers in
      let brought : e.brought ≡ d.effect.brought = ap (λ (v : Effect). v.brought) (sym effect) in
      record {
        looks = p.works.looks;
        keeps = p.works.keeps;
        waits = tt;
        shown = subst (λ (found : List Answer). Each (IsAmong p.works.looks) found) (sym noted) p.works.shown;
        laid = subst (λ (bs : List Named). AreLaid (extended s.layout.now bs) (length a.frame.entered) (with_brought (item_shapes item) bs) d.rows.items) brought
            (subst (λ (rs : List Row). AreLaid (extended s.layout.now e.brought) (length a.frame.entered) (with_brought (item_shapes item) e.brought) rs) (sym made) (laid_here at none count p.grown));
        of_item = subst (λ (bs : List Named). Each (λ (n : Named). s.item ≡ Some n.item) bs) brought (of_here at none count p.grown);
        next = λ bs number so. subst (λ (ns : List Named). IsLayoutAt (extended s.layout.now ns) stream (bs ++ ns ∷ [])) brought (next_here at none count p.grown p.there.only bs number so);
        new_rows = subst (λ (rs : List Row). AreNewRows a.frame (item_end s) (length a.frame.entered) rs) (sym made)
            (subst (λ (n : ℕ). AreNewRows a.frame (item_end s) n (p.grown.own ++ p.grown.rows)) next p.grown.new);
        effect = subst (λ (v : Effect). IsEffect a.frame (length a.frame.entered + length d.rows.items) v) (sym effect)
            (subst (λ (n : ℕ). IsEffect a.frame n e) behind p.there.effect);
        told = λ hand in_hand told same.
            let m = p.told hand in_hand told (same ∙ sym none) in
            let g = given (context_of a.frame hand s) in
            record {
              effect = effect ∙ m.value_is;
              rows = rows ∙ m.rows ∙ ap (λ (t : List Row). t ++ g.rows) none;
              diags = diags ∙ m.diags ∙ ap (λ (t : List Diag). t ++ g.diags) no_diags;
              answers = answers ∙ m.answers ∙ ap (λ (t : List Answer). t ++ g.answers) no_answers;
            };
      }

module _ {a b : State} {s : Site} {x y : Made} {shapes : List Shape} {item : items.Item} {given : Context → Makes Effect} where
  -- nothing is known yet
  pub declares_waiting : (stream : Stream) (head : Head) → DeclaresWith a b x y s (Ok (DontKnowYet head)) shapes (λ v. v.brought) (IsEffectOf item) given → DeclaresItem a b s stream (Ok (DontKnowYet head)) shapes given
  declares_waiting stream head p =
      record { looks = p.works.looks; keeps = p.works.keeps; waits = p.waits; shown = tt; laid = tt; of_item = tt; next = λ bs number so. tt; new_rows = tt; effect = tt; told = λ hand in_hand told same. tt }

  -- memory is wanted
  pub declares_failed : (stream : Stream) (m n : Memory) → DeclaresWith a b x y s (Err m) shapes (λ v. v.brought) (IsEffectOf item) given → DeclaresItem a b s stream (Err n) shapes given
  declares_failed stream m n p =
      record { looks = p.works.looks; keeps = p.works.keeps; waits = tt; shown = tt; laid = tt; of_item = tt; next = λ bs number so. tt; new_rows = tt; effect = tt; told = λ hand in_hand told same. tt }
