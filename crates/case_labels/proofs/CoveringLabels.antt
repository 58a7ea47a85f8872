-- The labels of an arm.
use Rattle.std.specs.List.{list_any}
use Rattle.std.specs.Prelude.{◌≡◌, ℕ, ℤ, Bool, true, false, int_le, ◌&&◌, if◌then◌else◌, List, [], ◌∷◌, ◌++◌, is_some, map, Option, None, Some, Ok, option_map}
use Rattle.std.specs.Option.{IfSome}
use Rattle.std.proofs.Common.{refl, sym, ap, ◌∙◌, subst, true, None}
use Rattle.std.proofs.Common.{append_assoc}
use Rattle.std.proofs.lemmas.List.{append-nil}
use Rattle.m2_base.specs.Gives.{Adds, Gives, and_then, gives}
use Rattle.m2_base.specs.Lists.{IsPrefixOf}
use Rattle.m2_base.specs.States.{Frame, State, Waits}
use Rattle.m2_base.specs.Statics.CaseLabels.{CaseLabels, LabelTest, case_labels, cover, joined, label_of, labels_of, one_taken, one_test, overlaps, range_taken, range_test, taken_label}
use Rattle.m2_base.specs.Statics.Compatible.{is_compatible}
use Rattle.m2_base.specs.Statics.Constants.{constant_of}
use Rattle.m2_base.specs.Statics.Contexts.{Context, refuse}
use Rattle.m2_base.specs.Statics.Diagnostics.{wrong_label}
use Rattle.m2_base.specs.Statics.Operands.{constant_of_operand}
use Rattle.m2_base.specs.Statics.Ranges.{Range, range}
use Rattle.m2_base.specs.Statics.Types.{is_broken}
use Rattle.m2_base.specs.Views.{expr_view, label_view}
use Rattle.m2_base.specs.Trees.{Expr, Label, expr_at, label_with, labels, one_label, range_label}
use Rattle.m2_base.specs.declared.notes.Notes.{Notes}
use Rattle.m2_base.specs.declared.trees.expressions.Expr as tree
use Rattle.m2_base.specs.declared.trees.expressions.Label as tree_label
use Rattle.m2_base.specs.declared.operands.Operand.{Operand}
use Rattle.m2_base.specs.declared.operands.Operand.TheVariants.{Computed}
use Rattle.m2_base.specs.declared.replies.Ask.{Ask}
use Rattle.m2_base.specs.declared.replies.Ask.TheVariants.{Known, DontKnowYet}
use Rattle.m2_base.specs.declared.replies.Head.{Head}
use Rattle.m2_base.specs.declared.rows.Place.{Place}
use Rattle.m2_base.specs.declared.sites.Site.{Site}
use Rattle.m2_base.proofs.Kept.{Works-notes}
use Rattle.m2_base.proofs.Seen.{label_seen}
use Rattle.type_rules.specs.Asks.{Reads, WhereKnown, WhereWaiting}
use Rattle.type_rules.specs.Scenes.{WhereTold}
use Rattle.type_rules.specs.Sites.{context_of}
use Rattle.const_eval.specs.Analyses.{Analysed}
use Rattle.const_eval.specs.NamedTexts.{IsNamedText}
use Rattle.const_eval.specs.Sites.{IsOperand}
use Rattle.const_eval.proofs.Analysing.{and_then_assoc, quiet}
use Rattle.const_eval.proofs.Elements.{pair}
use Rattle.const_eval.proofs.Folding.{and_then_gives, and_then_same, folded}
use Rattle.const_eval.proofs.ReadParts.{at_seen}
use Rattle.case_labels.specs.Labels.{IsAny, covered_by, ends_in, is_ranged, label_at, label_fault, one_label_of, test_of, values_beside, values_by, values_in, values_of}
use Rattle.case_labels.specs.Seen.{AreAny, test_seen}
use Rattle.case_labels.specs.declared.tests.LabelTest as code
use Rattle.case_labels.specs.declared.values.LabelValues.{LabelValues}
use Rattle.case_labels.specs.declared.values.LabelValues.TheVariants.{Nothing, Values, Wrong}

-- ** The ends of a label

-- they may stand
abbrev pub MayEnd : Frame → Option Operand × Option Operand → Type 0
MayEnd f ends = IfSome ends.0 (λ x. IsOperand f x) × IfSome ends.1 (λ y. IsOperand f y)

-- a constant that may stand
pub operand_end : (f : Frame) (o : Option Operand) → IfSome o (λ x. IsOperand f x × IsNamedText f x) → IfSome o (λ x. IsOperand f x)
operand_end f None h = tt
operand_end f (Some x) h = h.0

-- ** What a label stands for

pub beside_given : (c : Context) (t : Place) (x y : Operand) (v w : Option (Operand × Operand)) → v ≡ pair c x t → w ≡ pair c y t → values_by v w ≡ values_beside c t x y
beside_given c t x y v w e f =
    ap (λ (o : Option (Operand × Operand)). values_by o w) e ∙ ap (λ (o : Option (Operand × Operand)). values_by (pair c x t) o) f
    ∙ go (is_compatible c.scene x (Computed t)) (is_compatible c.scene y (Computed t)) (taken_label c t x) (taken_label c t y) _ _
  where
    go : (a b : Bool) (p q m n : Operand) → values_by (if a then Some (p, m) else None) (if b then Some (q, n) else None) ≡ (if a && b then values_of (constant_of_operand p) (constant_of_operand q) else Wrong)
    go true true p q m n = refl
    go true false p q m n = refl
    go false true p q m n = refl
    go false false p q m n = refl

-- two constant ends beside a type that isn't in error
pub values_some : (c : Context) (t : Place) (ends : Option Operand × Option Operand) (x y : Operand) → ends.0 ≡ Some x → ends.1 ≡ Some y → is_broken c.scene t ≡ false → values_beside c t x y ≡ values_in c t ends
values_some c t (a, b) x y e f sound =
    sym (ap (λ (o : Option Operand). values_in c t (o, b)) e ∙ ap (λ (o : Option Operand). values_in c t (Some x, o)) f
    ∙ ap (λ (k : Bool). if k then Nothing else values_beside c t x y) sound)

pub values_broken : (c : Context) (t : Place) (ends : Option Operand × Option Operand) (x y : Operand) → ends.0 ≡ Some x → ends.1 ≡ Some y → is_broken c.scene t ≡ true → Nothing ≡ values_in c t ends
values_broken c t (a, b) x y e f broken =
    sym (ap (λ (o : Option Operand). values_in c t (o, b)) e ∙ ap (λ (o : Option Operand). values_in c t (Some x, o)) f
    ∙ ap (λ (k : Bool). if k then Nothing else values_beside c t x y) broken)

-- an end that isn't constant
pub values_no_low : (c : Context) (t : Place) (ends : Option Operand × Option Operand) → ends.0 ≡ None → Nothing ≡ values_in c t ends
values_no_low c t (a, b) none = sym (ap (λ (o : Option Operand). values_in c t (o, b)) none)

pub values_no_high : (c : Context) (t : Place) (ends : Option Operand × Option Operand) (x : Operand) → ends.0 ≡ Some x → ends.1 ≡ None → Nothing ≡ values_in c t ends
values_no_high c t (a, b) x e none = sym (ap (λ (o : Option Operand). values_in c t (o, b)) e ∙ ap (λ (o : Option Operand). values_in c t (Some x, o)) none)

pub told_as : {v w : LabelValues} (asked : Ask LabelValues) → WhereKnown asked (λ values. values ≡ v) → v ≡ w → WhereKnown asked (λ values. values ≡ w)
told_as (Known values) h e = h ∙ e
told_as (DontKnowYet head) h e = tt

-- ** A label by what it stands for

one-test : (c : Context) (at : ℕ) (o : Option ℤ) (covered : List Range) → covered_by c at false covered (values_of o o) ≡ one_test c at o covered
one-test c at None covered = refl
one-test c at (Some v) covered = refl

range-test : (c : Context) (at : ℕ) (o p : Option ℤ) (covered : List Range) → covered_by c at true covered (values_of o p) ≡ range_test c at o p covered
range-test c at None p covered = refl
range-test c at (Some v) None covered = refl
range-test c at (Some v) (Some w) covered = refl

one-taken : (c : Context) (at : ℕ) (t : Place) (covered : List Range) (x : Option Operand) → covered_by c at false covered (values_in c t (x, x)) ≡ one_taken c at t covered x
one-taken c at t covered None = refl
one-taken c at t covered (Some x) = go (is_broken c.scene t) (is_compatible c.scene x (Computed t))
  where
    o : Option ℤ
    o = constant_of_operand (taken_label c t x)

    none : CaseLabels
    none = case_labels false [] covered

    go : (a b : Bool) → covered_by c at false covered (if a then Nothing else if b && b then values_of o o else Wrong) ≡ (if a then gives none else if b then one_test c at o covered else refuse c at wrong_label none)
    go true b = refl
    go false true = one-test c at o covered
    go false false = refl

range-taken : (c : Context) (at : ℕ) (t : Place) (covered : List Range) (x y : Option Operand) → covered_by c at true covered (values_in c t (x, y)) ≡ range_taken c at t covered x y
range-taken c at t covered None y = refl
range-taken c at t covered (Some x) None = refl
range-taken c at t covered (Some x) (Some y) = go (is_broken c.scene t) (is_compatible c.scene x (Computed t)) (is_compatible c.scene y (Computed t))
  where
    o : Option ℤ
    o = constant_of_operand (taken_label c t x)

    p : Option ℤ
    p = constant_of_operand (taken_label c t y)

    none : CaseLabels
    none = case_labels false [] covered

    go : (a b d : Bool) → covered_by c at true covered (if a then Nothing else if b && d then values_of o p else Wrong) ≡ (if a then gives none else if b && d then range_test c at o p covered else refuse c at wrong_label none)
    go true b d = refl
    go false true true = range-test c at o p covered
    go false true false = refl
    go false false d = refl

-- what a label stands for, and then what is covered with it
abbrev pub by_values : Context → Place → List Range → (at : ℕ) → (ranged : Bool) → Label → Gives CaseLabels
by_values c t covered at ranged l = and_then (and_then (ends_in c l) (λ ends. gives (values_in c t ends))) (λ values. covered_by c at ranged covered values)

-- one label, as the definition has it
pub label_as : (c : Context) (t : Place) (covered : List Range) (l : Label) → by_values c t covered (label_at l) (is_ranged l) l ≡ label_of c t covered l
label_as c t covered (one_label e) =
    let k : Option Operand × Option Operand → Gives CaseLabels = λ ends. covered_by c (expr_at e) false covered (values_in c t ends) in
    and_then_assoc (and_then (constant_of c e) (λ x. gives (x, x))) (λ ends. gives (values_in c t ends)) (λ values. covered_by c (expr_at e) false covered values)
    ∙ and_then_assoc (constant_of c e) (λ x. gives (x, x)) k
    ∙ and_then_same (constant_of c e) (λ x. k (x, x)) (one_taken c (expr_at e) t covered) (one-taken c (expr_at e) t covered (constant_of c e).value)
label_as c t covered (range_label low high) =
    let k : Option Operand × Option Operand → Gives CaseLabels = λ ends. covered_by c (expr_at low) true covered (values_in c t ends) in
    and_then_assoc (and_then (constant_of c low) (λ x. and_then (constant_of c high) (λ y. gives (x, y)))) (λ ends. gives (values_in c t ends)) (λ values. covered_by c (expr_at low) true covered values)
    ∙ and_then_assoc (constant_of c low) (λ x. and_then (constant_of c high) (λ y. gives (x, y))) k
    ∙ and_then_same (constant_of c low) (λ x. and_then (and_then (constant_of c high) (λ y. gives (x, y))) k) (λ x. and_then (constant_of c high) (λ y. range_taken c (expr_at low) t covered x y))
    (let x = (constant_of c low).value in
    and_then_assoc (constant_of c high) (λ y. gives (x, y)) k
    ∙ and_then_same (constant_of c high) (λ y. k (x, y)) (λ y. range_taken c (expr_at low) t covered x y)
    (range-taken c (expr_at low) t covered x (constant_of c high).value))

-- the first token of a label, by its tree
with_at : (low : Expr) (high : Option Expr) → expr_at low ≡ label_at (label_with low high)
with_at low None = refl
with_at low (Some high) = refl

pub label_at_seen : (l : tree_label.Label) → (tree_label.out-Label l).low.at ≡ label_at (label_view l)
label_at_seen l =
    let low = (tree_label.out-Label l).low in
    let high = (tree_label.out-Label l).high in
    sym (at_seen low) ∙ with_at (expr_view low) (option_map expr_view high) ∙ ap label_at (sym (label_seen l))

-- and whether it is a range
with_range : (low : Expr) (high : Option tree.Expr) → is_some high ≡ is_ranged (label_with low (option_map expr_view high))
with_range low None = refl
with_range low (Some e) = refl

pub ranged_seen : (l : tree_label.Label) → is_some (tree_label.out-Label l).high ≡ is_ranged (label_view l)
ranged_seen l =
    with_range (expr_view (tree_label.out-Label l).low) (tree_label.out-Label l).high ∙ ap is_ranged (sym (label_seen l))

-- ** Label after label

-- labels with one more
abbrev pub with_label : Context → Place → CaseLabels → Label → Gives CaseLabels
with_label c t labels l = and_then (label_of c t labels.covered l) (λ one. gives (joined labels one))

-- the same, by what that stands for
pub label_joined : (c : Context) (t : Place) (before : CaseLabels) (l : Label)
    → and_then (and_then (ends_in c l) (λ ends. gives (values_in c t ends))) (λ values. and_then (covered_by c (label_at l) (is_ranged l) before.covered values) (λ one. gives (joined before one))) ≡ with_label c t before l
label_joined c t before l =
    sym (and_then_assoc (and_then (ends_in c l) (λ ends. gives (values_in c t ends))) (λ values. covered_by c (label_at l) (is_ranged l) before.covered values) (λ one. gives (joined before one)))
    ∙ ap (λ (g : Gives CaseLabels). and_then g (λ one. gives (joined before one))) (label_as c t before.covered l)

joined_assoc : (a b d : CaseLabels) → joined (joined a b) d ≡ joined a (joined b d)
joined_assoc a b d =
    ap (λ (good : Bool). case_labels good ((a.tests ++ b.tests) ++ d.tests) d.covered) (and_assoc a.good b.good d.good)
    ∙ ap (λ (tests : List LabelTest). case_labels (a.good && (b.good && d.good)) tests d.covered) (append_assoc a.tests b.tests d.tests)
  where
    and_assoc : (x y z : Bool) → (x && y) && z ≡ x && (y && z)
    and_assoc true y z = refl
    and_assoc false y z = refl

joined_none : (a : CaseLabels) → joined a (case_labels true [] a.covered) ≡ a
joined_none a =
    ap (λ (good : Bool). case_labels good (a.tests ++ []) a.covered) (and_true a.good) ∙ ap (λ (tests : List LabelTest). case_labels a.good tests a.covered) (append-nil a.tests)
  where
    and_true : (x : Bool) → x && true ≡ x
    and_true true = refl
    and_true false = refl

module _ {X : Type 0} (c : Context) (view : X → Label) (t : Place) where
  from_labels : (before : CaseLabels) (ls : List X) → folded (λ labels l. with_label c t labels (view l)) before ls ≡ and_then (labels_of c t before.covered (labels (map view ls))) (λ more. gives (joined before more))
  from_labels before [] = ap (λ (a : CaseLabels). gives a) (sym (joined_none before))
  from_labels before (l ∷ ls) =
      let first = label_of c t before.covered (view l) in
      let rest = λ (so_far : CaseLabels). folded (λ labels (i : X). with_label c t labels (view i)) so_far ls in
      let more = λ (one : CaseLabels). labels_of c t one.covered (labels (map view ls)) in
      and_then_assoc first (λ one. gives (joined before one)) rest
      ∙ and_then_same first (λ one. rest (joined before one)) (λ one. and_then (more one) (λ others. gives (joined before (joined one others))))
      (from_labels (joined before first.value) ls
      ∙ and_then_same (more first.value) (λ others. gives (joined (joined before first.value) others)) (λ others. gives (joined before (joined first.value others))) (ap (λ (a : CaseLabels). gives a) (joined_assoc before first.value (more first.value).value)))
      ∙ sym (and_then_assoc first (λ one. and_then (more one) (λ others. gives (joined one others))) (λ all. gives (joined before all))
      ∙ and_then_same first (λ one. and_then (and_then (more one) (λ others. gives (joined one others))) (λ all. gives (joined before all))) (λ one. and_then (more one) (λ others. gives (joined before (joined one others))))
      (and_then_assoc (more first.value) (λ others. gives (joined first.value others)) (λ all. gives (joined before all))))

  pub labels_folded : (covered : List Range) (ls : List X) → folded (λ labels l. with_label c t labels (view l)) (case_labels true [] covered) ls ≡ labels_of c t covered (labels (map view ls))
  labels_folded covered ls = from_labels (case_labels true [] covered) ls ∙ and_then_gives (labels_of c t covered (labels (map view ls)))

-- ** Noting it

-- values that are covered, with what is noted
pub some_covered : {y : Notes} {l h : ℤ} {given : Option LabelTest} (a : State) (x : Notes) (s : Site) (at : ℕ) (test : LabelTest) (covered more : List Range) (low high : ℤ) (twice : Bool) → l ≡ low → h ≡ high → int_le low high ≡ true → twice ≡ list_any (overlaps (range l h)) covered
    → more ≡ range l h ∷ covered → given ≡ (if twice then None else Some test)
    → y.diags.items ≡ x.diags.items ++ (if twice then label_fault s.around.now.text at ∷ [] else []) → IsPrefixOf x.diags.items y.diags.items → y.answers.items ≡ x.answers.items
    → Analysed a a x y s (Ok (Known (one_label_of given more))) AreAny (λ c. cover c at test (range low high) covered)
some_covered {y} {l} {h} {given} a x s at test covered more low high twice same_low same_high some is with_it right noted diags answers =
    let same : range l h ≡ range low high = ap (λ (v : ℤ). range v h) same_low ∙ ap (λ (w : ℤ). range low w) same_high in
    record {
      works = Works-notes a x y answers diags;
      waits = tt;
      told = λ made in_hand told of_site.
          let c = context_of a.frame made s in
          subst (λ (g : Gives CaseLabels). Adds x y g (one_label_of given more))
          (sym (ap (λ (b : Bool). if b then (if list_any (overlaps (range low high)) covered then refuse c at wrong_label (case_labels false [] all) else gives (case_labels true (test ∷ []) all)) else gives (case_labels true (test ∷ []) covered)) some
          ∙ ap (λ (b : Bool). if b then refuse c at wrong_label (case_labels false [] all) else gives (case_labels true (test ∷ []) all)) (sym (is ∙ ap (λ (r : Range). list_any (overlaps r) covered) same))))
          (both c refl twice noted right (with_it ∙ ap (λ (r : Range). r ∷ covered) same));
      there = tt;
    }
  where
    all : List Range
    all = range low high ∷ covered

    both : (c : Context) → c.scene.block.text ≡ s.around.now.text → (b : Bool) → y.diags.items ≡ x.diags.items ++ (if b then label_fault s.around.now.text at ∷ [] else [])
        → given ≡ (if b then None else Some test) → more ≡ all → Adds x y (if b then refuse c at wrong_label (case_labels false [] all) else gives (case_labels true (test ∷ []) all)) (one_label_of given more)
    both c text true h g e =
        record {
          value_is = ap (λ (o : Option LabelTest). one_label_of o more) g ∙ ap (λ (ranges : List Range). case_labels false [] ranges) e;
          diags = h ∙ ap (λ (n : ℕ). x.diags.items ++ label_fault n at ∷ []) (sym text);
          answers = answers ∙ sym (append-nil x.answers.items);
        }
    both c text false h g e =
        record {
          value_is = ap (λ (o : Option LabelTest). one_label_of o more) g ∙ ap (λ (ranges : List Range). case_labels true (test ∷ []) ranges) e;
          diags = h;
          answers = answers ∙ sym (append-nil x.answers.items);
        }

-- what a label stands for was asked
pub asked_values : {a b : State} {v : LabelValues} (x : Notes) (s : Site) (asked : Ask LabelValues) (f : Context → LabelValues) → asked ≡ Known v → Reads a b → WhereTold a.frame (λ made. WhereKnown asked (λ values. values ≡ f (context_of a.frame made s)))
    → Analysed a b x x s (Ok (Known v)) IsAny (λ c. gives (f c))
asked_values {a} {b} {v} x s asked f is reads told =
    quiet x s (Known v) IsAny f reads tt (subst (λ (k : Ask LabelValues). WhereTold a.frame (λ made. WhereKnown k (λ values. values ≡ f (context_of a.frame made s)))) is told) tt

-- the test of a label, if it is right
pub test_kept : {given : Option code.LabelTest} (wrong : Bool) (test : code.LabelTest) → given ≡ (if wrong then None else Some test) → option_map test_seen given ≡ (if wrong then None else Some (test_seen test))
test_kept true test e = ap (λ (o : Option code.LabelTest). option_map test_seen o) e
test_kept false test e = ap (λ (o : Option code.LabelTest). option_map test_seen o) e

-- or isn't known yet
pub asked_waits : {a b : State} {h : Head} (x : Notes) (s : Site) (asked : Ask LabelValues) (f : Context → LabelValues) → asked ≡ DontKnowYet h → Reads a b → WhereWaiting asked (λ head. Waits a b head)
    → Analysed a b x x s (Ok (DontKnowYet h)) IsAny (λ c. gives (f c))
asked_waits {a} {b} {h} x s asked f is reads waits =
    quiet x s (DontKnowYet h) IsAny f reads (subst (λ (k : Ask LabelValues). WhereWaiting k (λ head. Waits a b head)) is waits) (λ made in_hand told. tt) tt

-- values by their test
pub values_cover : {l h m n : ℤ} {test : LabelTest} (c : Context) (at : ℕ) (ranged : Bool) (covered : List Range) (low high : ℤ) → l ≡ low → h ≡ high → m ≡ low → n ≡ high → test ≡ test_of ranged m n
    → cover c at test (range l h) covered ≡ covered_by c at ranged covered (Values low high)
values_cover {l} {h} {m} {n} {test} c at ranged covered low high e f d k is =
    ap (λ (t : LabelTest). cover c at t (range l h) covered) (is ∙ ap (λ (v : ℤ). test_of ranged v n) d ∙ ap (λ (w : ℤ). test_of ranged low w) k)
    ∙ ap (λ (v : ℤ). cover c at (test_of ranged low high) (range v h) covered) e ∙ ap (λ (w : ℤ). cover c at (test_of ranged low high) (range low w) covered) f
