-- The rows of records: field lists and variants, one after another.
use Rattle.std.specs.Prelude.{◌≡◌, ℕ, zero, suc, ◌+◌, ◌<◌, ◌≤◌, ◌^◌, List, [], ◌∷◌, ◌++◌, length, map, drop, max, Option, Result, Ok, Err}
use Rattle.std.proofs.Common.{refl, sym, ap, ◌∙◌, subst, arith, get_or}
use Rattle.std.proofs.lemmas.List.{append_assoc, append-nil, length-append}
use Rattle.std.specs.declared.alloc.Global.{Global}
use Rattle.std.specs.declared.vec.Vec.{Vec}
use Rattle.m2_base.proofs.SceneLaws.{with-none}
use Rattle.m2_base.proofs.Seen.{case_fields_seen, plain_fields_seen, variant_arm_seen}
use Rattle.m2_base.specs.Rows.{field_kind, record_kind}
use Rattle.m2_base.specs.States.{Frame, State}
use Rattle.m2_base.specs.Statics.CaseLabels.{labels_of}
use Rattle.m2_base.specs.Statics.Cells.{fitting, most_cells}
use Rattle.m2_base.specs.Statics.Contexts.{Context, Scene}
use Rattle.m2_base.specs.Statics.Fields.{plain_rows, tag_rows, tag_type}
use Rattle.m2_base.specs.Statics.Makes.{Makes, make_then, makes, makes_row, only_gives, with_rows}
use Rattle.m2_base.specs.Statics.Ranges.{Range}
use Rattle.m2_base.specs.Statics.ReadTrees.{AreReadArms, AreReadFields, AreReadLabels, IsReadArm, IsReadField}
use Rattle.m2_base.specs.Statics.Shapes.{Shape, arms_shapes, field_shapes, fields_shapes, form_shapes, nameless, tag_shapes, type_shapes}
use Rattle.m2_base.specs.Statics.TypeRows.{arms_rows, field_list_rows, fields_rows, form_rows, type_rows}
use Rattle.m2_base.specs.Trees.{FieldList, FieldLists, Labels, TypeExpr, VariantArm, VariantArms, case_fields, labels, more_fields, more_variant_arms, plain_fields, record_type, variant_arm}
use Rattle.m2_base.specs.Views.{field_list_view, label_view, type_view, variant_arm_view}
use Rattle.m2_base.specs.declared.memory.Memory.{Memory}
use Rattle.m2_base.specs.declared.replies.Ask.{Ask}
use Rattle.m2_base.specs.declared.replies.Ask.TheVariants.{Known, DontKnowYet}
use Rattle.m2_base.specs.declared.replies.Head.{Head}
use Rattle.m2_base.specs.declared.rows.Place.{Place}
use Rattle.m2_base.specs.declared.rows.RowMeaning.TheVariants.{Record}
use Rattle.m2_base.specs.declared.sites.Site.{Site}
use Rattle.m2_base.specs.declared.trees.Ident.{Ident}
use Rattle.m2_base.specs.declared.trees.Qual.{Qual}
use Rattle.m2_base.specs.declared.trees.types as code
use Rattle.m2_base.specs.declared.trees.types.FieldList.TheVariants.{Cases, Plain}
use Rattle.type_rules.specs.Scenes.{IsThere}
use Rattle.type_rules.specs.Sites.{context_of}
use Rattle.decl_sem.specs.Making.{next_ordinal}
use Rattle.decl_sem.specs.Pieces.{Declares, IsAny, IsBehind, IsMaking, IsNewMeaning, known_of}
use Rattle.decl_sem.specs.Records.{AreVariants, AreVariantsOf, IsOffset, IsOwner, IsTagType, behind_tag_rows, behind_tag_shapes, covered_of, record_row, tag_made}
use Rattle.decl_sem.specs.declared.making.Made.{Made}
use Rattle.decl_sem.specs.declared.records.Variants.{Variants}
use Rattle.decl_sem.proofs.Hands.{hand_is}
use Rattle.decl_sem.proofs.OneRows.{behind_more}
use Rattle.decl_sem.proofs.Parameters.{make_then_assoc}
use Rattle.decl_sem.proofs.Pieces.{AreNoTypes, GoesOn, described, goes_as, goes_end, goes_failed, goes_start, goes_step, goes_waiting, making_front, making_on, next_on, not_a_type, reshaped, then_after, value_alone}
use Rattle.decl_sem.proofs.RecordSizes.{arms_of, fields_of}
use Rattle.decl_sem.proofs.TypeForms.{arms_no_types, field_no_types, fields_no_types, tag_no_types, type_no_types}
use Rattle.decl_sem.proofs.VariableLists.{next_left, none_left, then_same}

-- ** The row of the record, still ahead

pub owner_front : {s : Site} {x : Made} {own : ℕ} (ss ts : List Shape) → IsOwner s x (ss ++ ts) own → IsOwner s x ss own
owner_front ss ts h = record { behind = let l = length-append ss ts in let b = h.behind in omega arith; within = h.within }

pub owner_on : {T : Type 0} {a b : State} {x y : Made} {s : Site} {ss : List Shape} {P : Frame → ℕ → T → Type 0} {g : Context → Makes T} {v : T} {own : ℕ} (ts : List Shape)
    → IsOwner s x (ss ++ ts) own → Declares a b x y s (Ok (Known v)) ss P g → IsOwner s y ts own
owner_on {ss = ss} ts h p = record { behind = let l = length-append ss ts in let b = h.behind in let n = next_on p.first p.grown in omega arith; within = h.within }

-- ** A value of a value

-- the same piece, with another value by this one
pub valued : {T U : Type 0} {a b : State} {x y : Made} {s : Site} {ss : List Shape} {P : Frame → ℕ → T → Type 0} (Q : Frame → ℕ → U → Type 0) {g : Context → Makes T} {v : T} (f : T → U)
    → AreNoTypes ss → IsMaking a.frame s x ss → Q b.frame (next_ordinal y) (f v) → Declares a b x y s (Ok (Known v)) ss P g → Declares a b x y s (Ok (Known (f v))) ss Q (λ c. make_then c (g c) (λ e u. makes (f u)))
valued {a = a} {b = b} {x = x} {y = y} {s = s} {ss = ss} Q {g = g} {v = v} f none making h p =
    reshaped (Ok (Known (f v))) ss (append-nil ss)
    (then_after g (λ u c. makes (f u)) (Ok (Known (f v))) none (subst (λ (zs : List Shape). IsMaking a.frame s x zs) (sym (append-nil ss)) making) p (value_alone b y s (f v) Q h))

-- ** The tag of a variant part

-- the type of a tag, and what is made behind it
pub tagged : {a b d : State} {x y z : Made} {s : Site} {t : Place} (own offset : ℕ) (tag : Option Ident) (of : Qual) (answer : Result (Ask Variants) Memory) → IsMaking a.frame s x (tag_shapes tag)
    → Declares a b x y s (Ok (Known t)) [] IsTagType (λ c. only_gives (tag_type c of))
    → Declares b d y z s answer (tag_shapes tag) (AreVariantsOf own) (λ c. make_then c (tag_rows c own offset t tag) (λ e o. makes (record { own = own; offset = o; tag = t })))
    → Declares a d x z s answer (tag_shapes tag) (AreVariantsOf own) (λ c. tag_made c own offset tag of)
tagged own offset tag of answer making p q =
    then_after (λ c. only_gives (tag_type c of)) (λ t c. make_then c (tag_rows c own offset t tag) (λ e o. makes (record { own = own; offset = o; tag = t }))) answer tt making p q

-- where its variants stand
pub variants_there : {a b d : State} {x y z : Made} {s : Site} {t : Place} {own o : ℕ} {ts : List Shape} {g : Context → Makes Place} {h : Context → Makes ℕ} → Declares a b x y s (Ok (Known t)) [] IsTagType g → Declares b d y z s (Ok (Known o)) ts IsOffset h
    → AreVariantsOf own d.frame (next_ordinal z) (record { own = own; offset = o; tag = t })
variants_there {a} {b} {d} {x} {y} {z} {t = t} p q =
    let n = next_on q.first q.grown in
    let here : IsTagType a.frame (next_ordinal z) t = (p.there.0, behind_more (omega (arith, n)) p.there.1) in
    record {
      of_record = refl;
      variants = record {
        tag = subst (λ (f : Frame). IsTagType f (next_ordinal z) t) (sym (q.works.keeps.frame ∙ p.works.keeps.frame)) here;
        offset = q.there;
      };
    }

-- ** The row of a record

pub record_meaning : {f : Frame} {s : Site} {o : ℕ} (first end size : ℕ) → size ≡ max end 1 → first ≤ o → end < 2 ^ 32 → IsNewMeaning f s o (Record first size)
record_meaning first end size is before small = record { small = tt; scopes = tt; fits = (before, omega (arith, is, small)); filled = omega (arith, is); owned = tt }

pub record_made : {a : State} {x y z : Made} {s : Site} {t : Place} (at first end size : ℕ) → size ≡ max end 1 → (answer : Result Place Memory) → IsMaking a.frame s x (nameless record_kind at ∷ [])
    → Declares a a x y s (Ok (Known t)) (nameless record_kind at ∷ []) IsBehind (λ c. makes_row c at (Record first size))
    → (IsMaking a.frame s y [] → IsBehind a.frame (next_ordinal y) t → Declares a a y z s (known_of answer) [] IsBehind (λ c. only_gives (fitting c at size t)))
    → Declares a a x z s (known_of answer) (nameless record_kind at ∷ []) IsBehind (λ c. record_row c at first end)
record_made {a} {x} {y} {z} {s} {t} at first end size is answer making p q =
    let none = not_a_type (nameless record_kind at) refl in
    let whole : Declares a a x z s (known_of answer) (nameless record_kind at ∷ []) IsBehind (λ c. make_then c (makes_row c at (Record first size)) (λ d t. only_gives (fitting d at size t))) =
    then_after (λ c. makes_row c at (Record first size)) (λ t d. only_gives (fitting d at size t)) (known_of answer) none making p (q (making_on none making p) p.there) in
    let e : size ≡ max 1 end = omega (arith, is) in
    subst (λ (n : ℕ). Declares a a x z s (known_of answer) (nameless record_kind at ∷ []) IsBehind (λ c. make_then c (makes_row c at (Record first n)) (λ d t. only_gives (fitting d at n t)))) e whole

-- ** Field lists

left : {X : Type 0} (xs : List X) (k : ℕ) (x : X) → k < length xs → x ≡ get_or xs k x → drop k xs ≡ x ∷ drop (k + 1) xs
left {X} xs k x h e = next_left xs k x h ∙ ap (λ (u : X). u ∷ drop (k + 1) xs) (sym e)

-- the first k of the field lists are made, and this is the offset behind them
pub record HasFields (a b : State) (s : Site) (before now : Made) (own first : ℕ) (xs : List code.FieldList.FieldList) (k end : ℕ) : Type 0 where
  pub end_is : end ≤ most_cells + 1
  pub owner : IsOwner s now (fields_shapes (fields_of (drop k xs))) own
  pub on : GoesOn a b before now s (fields_shapes (fields_of xs)) (fields_shapes (fields_of (drop k xs))) IsOffset (λ c. fields_rows c own first (fields_of xs)) (λ c. fields_rows c own end (fields_of (drop k xs)))

pub no_lists : {a : State} {s : Site} {before : Made} {own first : ℕ} {xs : List code.FieldList.FieldList} → IsMaking a.frame s before (fields_shapes (fields_of xs)) → IsOwner s before (fields_shapes (fields_of xs)) own → first ≤ most_cells + 1
    → HasFields a a s before before own first xs 0 first
no_lists making owner h = record { end_is = h; owner = owner; on = goes_start making }

module _ {a b : State} {s : Site} {before now : Made} {own first : ℕ} {xs : List code.FieldList.FieldList} {end : ℕ} (k : ℕ) (x : code.FieldList.FieldList) (h : k < length xs) (e : x ≡ get_or xs k x) (so : HasFields a b s before now own first xs k end) where
  abbrev more : FieldLists
  more = fields_of (drop (k + 1) xs)

  fields_left : fields_of (drop k xs) ≡ more_fields (field_list_view x) more
  fields_left = ap fields_of (left xs k x h e)

  fields_at : GoesOn a b before now s (fields_shapes (fields_of xs)) (field_shapes (field_list_view x) ++ fields_shapes more) IsOffset (λ c. fields_rows c own first (fields_of xs)) (λ c. fields_rows c own end (more_fields (field_list_view x) more))
  fields_at =
      goes_as (field_shapes (field_list_view x) ++ fields_shapes more) (λ c. fields_rows c own end (more_fields (field_list_view x) more)) (ap fields_shapes fields_left)
      (λ hand in_hand told same. ap (λ (fs : FieldLists). fields_rows (context_of b.frame hand s) own end fs) (sym fields_left)) so.on

  owner_at : IsOwner s now (field_shapes (field_list_view x) ++ fields_shapes more) own
  owner_at = subst (λ (fs : FieldLists). IsOwner s now (fields_shapes fs) own) fields_left so.owner

  -- what the next field list needs
  pub list_making : IsMaking b.frame s now (field_shapes (field_list_view x))
  list_making = making_front (field_shapes (field_list_view x)) (fields_shapes more) fields_at.making

  pub list_owner : IsOwner s now (field_shapes (field_list_view x)) own
  list_owner = owner_front (field_shapes (field_list_view x)) (fields_shapes more) owner_at

  pub one_list : {d : State} {after : Made} {v : ℕ} → Declares b d now after s (Ok (Known v)) (field_shapes (field_list_view x)) IsOffset (λ c. field_list_rows c own end (field_list_view x))
      → HasFields a d s before after own first xs (k + 1) v
  one_list {d} {after} {v} piece =
      record {
        end_is = let n = piece.there in omega arith;
        owner = owner_on (fields_shapes more) owner_at piece;
        on = goes_step (λ c. field_list_rows c own end (field_list_view x)) (λ o c. fields_rows c own o more) (field_no_types (field_list_view x)) fields_at piece;
      }

  pub list_failed : {d : State} {after : Made} {m : Memory} (n : Memory) → Declares b d now after s (Err m) (field_shapes (field_list_view x)) IsOffset (λ c. field_list_rows c own end (field_list_view x))
      → Declares a d before after s (Err n) (fields_shapes (fields_of xs)) IsOffset (λ c. fields_rows c own first (fields_of xs))
  list_failed n piece = goes_failed fields_at piece n

  pub list_waits : {d : State} {after : Made} {head : Head} → Declares b d now after s (Ok (DontKnowYet head)) (field_shapes (field_list_view x)) IsOffset (λ c. field_list_rows c own end (field_list_view x))
      → Declares a d before after s (Ok (DontKnowYet head)) (fields_shapes (fields_of xs)) IsOffset (λ c. fields_rows c own first (fields_of xs))
  list_waits piece = goes_waiting fields_at piece

-- all are made
pub all_lists : {a b : State} {s : Site} {before now : Made} {own first : ℕ} {xs : List code.FieldList.FieldList} {end : ℕ} (k : ℕ) → k ≡ length xs → HasFields a b s before now own first xs k end
    → Declares a b before now s (Ok (Known end)) (fields_shapes (fields_of xs)) IsOffset (λ c. fields_rows c own first (fields_of xs))
all_lists {b = b} {s = s} {own = own} {xs = xs} {end = end} k all so =
    let e : drop k xs ≡ [] = ap (λ (n : ℕ). drop n xs) all ∙ none_left xs in
    goes_end end
    (goes_as [] (λ c. makes end) (ap (λ (l : List code.FieldList.FieldList). fields_shapes (fields_of l)) e)
    (λ hand in_hand told same. ap (λ (l : List code.FieldList.FieldList). fields_rows (context_of b.frame hand s) own end (fields_of l)) (sym e)) so.on)
    (let n = so.end_is in omega arith)

field_read_at : (names : List (List ℕ)) (xs : List code.FieldList.FieldList) (k : ℕ) (d : code.FieldList.FieldList) → k < length xs → AreReadFields names (fields_of xs) → IsReadField names (field_list_view (get_or xs k d))
field_read_at names [] k d h all = absurd (omega (arith, h))
field_read_at names (y ∷ xs) zero d h all = all.0
field_read_at names (y ∷ xs) (suc k) d h all = field_read_at names xs k d (omega (arith, h)) all.1

pub field_read : (names : List (List ℕ)) (xs : List code.FieldList.FieldList) (k : ℕ) (x : code.FieldList.FieldList) → k < length xs → x ≡ get_or xs k x → AreReadFields names (fields_of xs) → IsReadField names (field_list_view x)
field_read names xs k x h e all = subst (λ (u : code.FieldList.FieldList). IsReadField names (field_list_view u)) (sym e) (field_read_at names xs k x h all)

-- ** Variants

-- the labels of a variant, and its fields
abbrev pub labels_seen : code.VariantArm.VariantArm → Labels
labels_seen a = labels (map label_view a.labels.items)

abbrev pub arm_seen : code.VariantArm.VariantArm → VariantArm
arm_seen a = variant_arm (labels_seen a) (fields_of a.fields.items)

-- the first k of the variants are made; they cover these values, and the greatest ends at this offset
pub record HasArms (a b : State) (s : Site) (before now : Made) (v : Variants) (xs : List code.VariantArm.VariantArm) (k : ℕ) (covered : List Range) (end : ℕ) : Type 0 where
  pub end_is : end ≤ most_cells + 1
  pub owner : IsOwner s now (arms_shapes (arms_of (drop k xs))) v.own
  pub tag : IsThere b.frame v.tag
  pub on : GoesOn a b before now s (arms_shapes (arms_of xs)) (arms_shapes (arms_of (drop k xs))) IsOffset (λ c. arms_rows c v.own v.offset v.tag [] v.offset (arms_of xs)) (λ c. arms_rows c v.own v.offset v.tag covered end (arms_of (drop k xs)))

pub no_arms : {a : State} {s : Site} {before : Made} {v : Variants} {xs : List code.VariantArm.VariantArm} {next : ℕ} → IsMaking a.frame s before (arms_shapes (arms_of xs)) → IsOwner s before (arms_shapes (arms_of xs)) v.own → AreVariants a.frame next v
    → HasArms a a s before before v xs 0 [] v.offset
no_arms making owner h = record { end_is = let n = h.offset in omega arith; owner = owner; tag = h.tag.0; on = goes_start making }

module _ {a b : State} {s : Site} {before now : Made} {v : Variants} {xs : List code.VariantArm.VariantArm} {covered : List Range} {end : ℕ} (k : ℕ) (x : code.VariantArm.VariantArm) (h : k < length xs) (e : x ≡ get_or xs k x) (so : HasArms a b s before now v xs k covered end) where
  abbrev more_arms : VariantArms
  more_arms = arms_of (drop (k + 1) xs)

  abbrev inner : FieldLists
  inner = fields_of x.fields.items

  arms_left : arms_of (drop k xs) ≡ more_variant_arms (arm_seen x) more_arms
  arms_left = ap arms_of (left xs k x h e) ∙ ap (λ (u : VariantArm). more_variant_arms u more_arms) (variant_arm_seen x)

  -- what is given from the labels of this variant on
  abbrev from_labels : Context → Makes ℕ
  from_labels c = arms_rows c v.own v.offset v.tag covered end (more_variant_arms (arm_seen x) more_arms)

  -- what is given from its fields on
  abbrev from_fields : List Range → Context → Makes ℕ
  from_fields now_covered c = make_then c (fields_rows c v.own v.offset inner) (λ d o. arms_rows d v.own v.offset v.tag now_covered (max end o) more_arms)

  arms_at : GoesOn a b before now s (arms_shapes (arms_of xs)) (fields_shapes inner ++ arms_shapes more_arms) IsOffset (λ c. arms_rows c v.own v.offset v.tag [] v.offset (arms_of xs)) from_labels
  arms_at =
      goes_as (fields_shapes inner ++ arms_shapes more_arms) from_labels (ap arms_shapes arms_left)
      (λ hand in_hand told same. ap (λ (l : VariantArms). arms_rows (context_of b.frame hand s) v.own v.offset v.tag covered end l) (sym arms_left)) so.on

  owner_here : IsOwner s now (fields_shapes inner ++ arms_shapes more_arms) v.own
  owner_here = subst (λ (l : VariantArms). IsOwner s now (arms_shapes l) v.own) arms_left so.owner

  -- what its labels need
  pub labels_making : IsMaking b.frame s now []
  labels_making = making_front [] (fields_shapes inner ++ arms_shapes more_arms) arms_at.making

  -- the labels are known
  pub record HasLabels (d : State) (mid : Made) (now_covered : List Range) : Type 0 where
    pub there : IsThere d.frame v.tag
    pub owned : IsOwner s mid (fields_shapes inner ++ arms_shapes more_arms) v.own
    pub goes : GoesOn a d before mid s (arms_shapes (arms_of xs)) (fields_shapes inner ++ arms_shapes more_arms) IsOffset (λ c. arms_rows c v.own v.offset v.tag [] v.offset (arms_of xs)) (from_fields now_covered)

  pub labels_known : {d : State} {mid : Made} {now_covered : List Range} → Declares b d now mid s (Ok (Known now_covered)) [] IsAny (λ c. only_gives (covered_of (labels_of c v.tag covered (labels_seen x)))) → HasLabels d mid now_covered
  labels_known {d} {mid} {now_covered} p =
      record {
        there = subst (λ (f : Frame). IsThere f v.tag) (sym p.works.keeps.frame) so.tag;
        owned = owner_on (fields_shapes inner ++ arms_shapes more_arms) owner_here p;
        goes = goes_step (λ c. only_gives (covered_of (labels_of c v.tag covered (labels_seen x)))) from_fields tt arms_at p;
      }

  pub labels_failed : {d : State} {mid : Made} {m : Memory} (n : Memory) → Declares b d now mid s (Err m) [] IsAny (λ c. only_gives (covered_of (labels_of c v.tag covered (labels_seen x))))
      → Declares a d before mid s (Err n) (arms_shapes (arms_of xs)) IsOffset (λ c. arms_rows c v.own v.offset v.tag [] v.offset (arms_of xs))
  labels_failed n p = goes_failed arms_at p n

  pub labels_wait : {d : State} {mid : Made} {head : Head} → Declares b d now mid s (Ok (DontKnowYet head)) [] IsAny (λ c. only_gives (covered_of (labels_of c v.tag covered (labels_seen x))))
      → Declares a d before mid s (Ok (DontKnowYet head)) (arms_shapes (arms_of xs)) IsOffset (λ c. arms_rows c v.own v.offset v.tag [] v.offset (arms_of xs))
  labels_wait p = goes_waiting arms_at p

  module _ {d : State} {mid : Made} {now_covered : List Range} (known : HasLabels d mid now_covered) where
    -- what its fields need
    pub inner_making : IsMaking d.frame s mid (fields_shapes inner)
    inner_making = making_front (fields_shapes inner) (arms_shapes more_arms) known.goes.making

    pub inner_owner : IsOwner s mid (fields_shapes inner) v.own
    inner_owner = owner_front (fields_shapes inner) (arms_shapes more_arms) known.owned

    pub one_arm : {d2 : State} {after : Made} {o : ℕ} (top : ℕ) → top ≡ max end o → Declares d d2 mid after s (Ok (Known o)) (fields_shapes inner) IsOffset (λ c. fields_rows c v.own v.offset inner)
        → HasArms a d2 s before after v xs (k + 1) now_covered top
    one_arm {d2} {after} {o} top is p =
        subst (λ (n : ℕ). HasArms a d2 s before after v xs (k + 1) now_covered n) (sym is)
        (record {
          end_is = let n = p.there in let m = so.end_is in omega (arith, n, m);
          owner = owner_on (arms_shapes more_arms) known.owned p;
          tag = subst (λ (f : Frame). IsThere f v.tag) (sym p.works.keeps.frame) known.there;
          on = goes_step (λ c. fields_rows c v.own v.offset inner) (λ o c. arms_rows c v.own v.offset v.tag now_covered (max end o) more_arms) (fields_no_types inner) known.goes p;
        })

    pub inner_failed : {d2 : State} {after : Made} {m : Memory} (n : Memory) → Declares d d2 mid after s (Err m) (fields_shapes inner) IsOffset (λ c. fields_rows c v.own v.offset inner)
        → Declares a d2 before after s (Err n) (arms_shapes (arms_of xs)) IsOffset (λ c. arms_rows c v.own v.offset v.tag [] v.offset (arms_of xs))
    inner_failed n p = goes_failed known.goes p n

    pub inner_waits : {d2 : State} {after : Made} {head : Head} → Declares d d2 mid after s (Ok (DontKnowYet head)) (fields_shapes inner) IsOffset (λ c. fields_rows c v.own v.offset inner)
        → Declares a d2 before after s (Ok (DontKnowYet head)) (arms_shapes (arms_of xs)) IsOffset (λ c. arms_rows c v.own v.offset v.tag [] v.offset (arms_of xs))
    inner_waits p = goes_waiting known.goes p

-- all are made
pub all_arms : {a b : State} {s : Site} {before now : Made} {v : Variants} {xs : List code.VariantArm.VariantArm} {covered : List Range} {end : ℕ} (k : ℕ) → k ≡ length xs → HasArms a b s before now v xs k covered end
    → Declares a b before now s (Ok (Known end)) (arms_shapes (arms_of xs)) IsOffset (λ c. arms_rows c v.own v.offset v.tag [] v.offset (arms_of xs))
all_arms {b = b} {s = s} {v = v} {xs = xs} {covered = covered} {end = end} k all so =
    let e : drop k xs ≡ [] = ap (λ (n : ℕ). drop n xs) all ∙ none_left xs in
    goes_end end
    (goes_as [] (λ c. makes end) (ap (λ (l : List code.VariantArm.VariantArm). arms_shapes (arms_of l)) e)
    (λ hand in_hand told same. ap (λ (l : List code.VariantArm.VariantArm). arms_rows (context_of b.frame hand s) v.own v.offset v.tag covered end (arms_of l)) (sym e)) so.on)
    (let n = so.end_is in omega arith)

arm_read_at : (names : List (List ℕ)) (xs : List code.VariantArm.VariantArm) (k : ℕ) (d : code.VariantArm.VariantArm) → k < length xs → AreReadArms names (arms_of xs) → IsReadArm names (variant_arm_view (get_or xs k d))
arm_read_at names [] k d h all = absurd (omega (arith, h))
arm_read_at names (y ∷ xs) zero d h all = all.0
arm_read_at names (y ∷ xs) (suc k) d h all = arm_read_at names xs k d (omega (arith, h)) all.1

-- its labels and its fields were read
pub arm_read : (names : List (List ℕ)) (xs : List code.VariantArm.VariantArm) (k : ℕ) (x : code.VariantArm.VariantArm) → k < length xs → x ≡ get_or xs k x → AreReadArms names (arms_of xs) → AreReadLabels names (labels_seen x) × AreReadFields names (fields_of x.fields.items)
arm_read names xs k x h e all =
    let this : IsReadArm names (variant_arm_view x) = subst (λ (u : code.VariantArm.VariantArm). IsReadArm names (variant_arm_view u)) (sym e) (arm_read_at names xs k x h all) in
    subst (λ (u : VariantArm). IsReadArm names u) (variant_arm_seen x) this

-- ** A whole record

-- its row is behind its fields
pub own_ahead : {f : Frame} {s : Site} {x : Made} (at first rows : ℕ) (fs : FieldLists) → IsMaking f s x (form_shapes at (record_type fs)) → first ≡ next_ordinal x → rows ≡ length (fields_shapes fs) → IsOwner s x (fields_shapes fs) (first + rows)
own_ahead at first rows fs making is count =
    record {
      behind = omega (arith, is, count);
      within = let l = length-append (fields_shapes fs) (nameless record_kind at ∷ []) in let r = making.room in omega (arith, is, count, l, r);
    }

pub record_whole : {a b d : State} {x y z : Made} {s : Site} {end : ℕ} (at first rows : ℕ) (fs : FieldLists) (answer : Result (Ask Place) Memory) → IsMaking a.frame s x (form_shapes at (record_type fs)) → first ≡ next_ordinal x → rows ≡ length (fields_shapes fs)
    → Declares a b x y s (Ok (Known end)) (fields_shapes fs) IsOffset (λ c. fields_rows c (first + rows) 0 fs)
    → Declares b d y z s answer (nameless record_kind at ∷ []) IsBehind (λ c. record_row c at first end)
    → Declares a d x z s answer (form_shapes at (record_type fs)) IsBehind (λ c. form_rows c at (record_type fs))
record_whole {a} {b} {d} {x} {y} {z} {s} {end} at first rows fs answer making is count p q =
    let counted : Declares a b x y s (Ok (Known end)) (fields_shapes fs) IsOffset (λ c. fields_rows c (first + length (fields_shapes fs)) 0 fs) =
    subst (λ (n : ℕ). Declares a b x y s (Ok (Known end)) (fields_shapes fs) IsOffset (λ c. fields_rows c (first + n) 0 fs)) count p in
    described answer (λ c. form_rows c at (record_type fs))
    (then_after (λ c. fields_rows c (first + length (fields_shapes fs)) 0 fs) (λ end c. record_row c at first end) answer (fields_no_types fs) making counted q)
    (λ hand in_hand told same. let c = context_of a.frame hand s in
    ap (λ (n : ℕ). make_then c (fields_rows c (n + length (fields_shapes fs)) 0 fs) (λ d end. record_row d at n end))
    (is ∙ sym (hand_is making hand same told).count))

-- ** What stands behind a tag

-- the variants, then the fields after ELSE
pub arms_then : {a b d : State} {x y z : Made} {s : Site} {end : ℕ} (v : Variants) (arms : VariantArms) (other : FieldLists) (answer : Result (Ask ℕ) Memory) → IsMaking a.frame s x (behind_tag_shapes arms other)
    → Declares a b x y s (Ok (Known end)) (arms_shapes arms) IsOffset (λ c. arms_rows c v.own v.offset v.tag [] v.offset arms)
    → Declares b d y z s answer (fields_shapes other) IsOffset (λ c. make_then c (fields_rows c v.own v.offset other) (λ e last. makes (max end last)))
    → Declares a d x z s answer (behind_tag_shapes arms other) IsOffset (λ c. behind_tag_rows c v arms other)
arms_then v arms other answer making p q =
    then_after (λ c. arms_rows c v.own v.offset v.tag [] v.offset arms) (λ end c. make_then c (fields_rows c v.own v.offset other) (λ e last. makes (max end last))) answer (arms_no_types arms) making p q

-- the greater offset counts
pub greater_last : {a b d : State} {x y z : Made} {s : Site} {end last : ℕ} (top : ℕ) (v : Variants) (arms : VariantArms) (other : FieldLists) → top ≡ max end last → IsMaking a.frame s x (behind_tag_shapes arms other)
    → Declares a b x y s (Ok (Known end)) (arms_shapes arms) IsOffset (λ c. arms_rows c v.own v.offset v.tag [] v.offset arms)
    → Declares b d y z s (Ok (Known last)) (fields_shapes other) IsOffset (λ c. fields_rows c v.own v.offset other)
    → Declares a d x z s (Ok (Known top)) (behind_tag_shapes arms other) IsOffset (λ c. behind_tag_rows c v arms other)
greater_last {a} {b} {d} {x} {y} {z} {s} {end} {last} top v arms other is making p q =
    let making_other = making_on (arms_no_types arms) making p in
    let whole : Declares a d x z s (Ok (Known (max end last))) (behind_tag_shapes arms other) IsOffset (λ c. behind_tag_rows c v arms other) =
    arms_then v arms other (Ok (Known (max end last))) making p
    (valued IsOffset (λ (n : ℕ). max end n) (fields_no_types other) making_other (let m = p.there in let n = q.there in omega (arith, m, n)) q) in
    subst (λ (n : ℕ). Declares a d x z s (Ok (Known n)) (behind_tag_shapes arms other) IsOffset (λ c. behind_tag_rows c v arms other)) (sym is) whole

-- ** The forms of field lists

module _ (f : code.FieldList.FieldList) (form : FieldList) (e : field_list_view f ≡ form) where
  pub list_form_making : {k : Frame} {s : Site} {x : Made} → IsMaking k s x (field_shapes (field_list_view f)) → IsMaking k s x (field_shapes form)
  list_form_making {k} {s} {x} making = subst (λ (u : FieldList). IsMaking k s x (field_shapes u)) e making

  pub list_form_owner : {s : Site} {x : Made} {own : ℕ} → IsOwner s x (field_shapes (field_list_view f)) own → IsOwner s x (field_shapes form) own
  list_form_owner {s} {x} {own} owner = subst (λ (u : FieldList). IsOwner s x (field_shapes u) own) e owner

  pub list_form_read : (names : List (List ℕ)) → IsReadField names (field_list_view f) → IsReadField names form
  list_form_read names read = subst (λ (u : FieldList). IsReadField names u) e read

  pub list_form_made : {a b : State} {x y : Made} {s : Site} (own offset : ℕ) {answer : Result (Ask ℕ) Memory}
      → Declares a b x y s answer (field_shapes form) IsOffset (λ c. field_list_rows c own offset form) → Declares a b x y s answer (field_shapes (field_list_view f)) IsOffset (λ c. field_list_rows c own offset (field_list_view f))
  list_form_made {a} {b} {x} {y} {s} own offset {answer} p = subst (λ (u : FieldList). Declares a b x y s answer (field_shapes u) IsOffset (λ c. field_list_rows c own offset u)) (sym e) p

pub is_plain : (f : code.FieldList.FieldList) (names : Vec Ident Global) (typ u : code.TypeExpr.TypeExpr) (l : List Ident) → l ≡ names.items → u ≡ typ → f ≡ Plain names typ → field_list_view f ≡ plain_fields l (type_view u)
is_plain f names typ u l same_names same e =
    ap field_list_view e ∙ plain_fields_seen names typ ∙ ap (λ (n : List Ident). plain_fields n (type_view typ)) (sym same_names) ∙ ap (λ (v : code.TypeExpr.TypeExpr). plain_fields l (type_view v)) (sym same)

pub is_cases : (f : code.FieldList.FieldList) (tag : Option Ident) (of : Qual) (arms : Vec code.VariantArm.VariantArm Global) (other : Vec code.FieldList.FieldList Global) (k : List code.VariantArm.VariantArm) (l : List code.FieldList.FieldList)
    → k ≡ arms.items → l ≡ other.items → f ≡ Cases tag of arms other → field_list_view f ≡ case_fields tag of (arms_of k) (fields_of l)
is_cases f tag of arms other k l same_arms same_other e =
    ap field_list_view e ∙ case_fields_seen tag of arms other ∙ ap (λ (v : List code.VariantArm.VariantArm). case_fields tag of (arms_of v) (fields_of other.items)) (sym same_arms)
    ∙ ap (λ (v : List code.FieldList.FieldList). case_fields tag of (arms_of k) (fields_of v)) (sym same_other)

-- the shapes of a variant part, the tag's first
pub cases_apart : (tag : Option Ident) (of : Qual) (arms : VariantArms) (other : FieldLists) → field_shapes (case_fields tag of arms other) ≡ tag_shapes tag ++ behind_tag_shapes arms other
cases_apart tag of arms other = append_assoc (tag_shapes tag) (arms_shapes arms) (fields_shapes other)

module _ (f : code.FieldList.FieldList) (tag : Option Ident) (of : Qual) (arms : VariantArms) (other : FieldLists) (e : field_list_view f ≡ case_fields tag of arms other) where
  pub cases_making : {k : Frame} {s : Site} {x : Made} → IsMaking k s x (field_shapes (field_list_view f)) → IsMaking k s x (tag_shapes tag ++ behind_tag_shapes arms other)
  cases_making {k} {s} {x} making = subst (λ (zs : List Shape). IsMaking k s x zs) (cases_apart tag of arms other) (list_form_making f (case_fields tag of arms other) e making)

  pub cases_owner : {s : Site} {x : Made} {own : ℕ} → IsOwner s x (field_shapes (field_list_view f)) own → IsOwner s x (tag_shapes tag ++ behind_tag_shapes arms other) own
  cases_owner {s} {x} {own} owner = subst (λ (zs : List Shape). IsOwner s x zs own) (cases_apart tag of arms other) (list_form_owner f (case_fields tag of arms other) e owner)

pub plain_made : {a b d : State} {x y z : Made} {s : Site} {t : Place} (own offset : ℕ) (typ : TypeExpr) (names : List Ident) (answer : Result (Ask ℕ) Memory) → IsMaking a.frame s x (field_shapes (plain_fields names typ))
    → Declares a b x y s (Ok (Known t)) (type_shapes typ) IsBehind (λ c. type_rows c typ) → Declares b d y z s answer (map (λ i. nameless field_kind i.at) names) IsOffset (λ c. plain_rows c own t offset names)
    → Declares a d x z s answer (field_shapes (plain_fields names typ)) IsOffset (λ c. field_list_rows c own offset (plain_fields names typ))
plain_made own offset typ names answer making p q = then_after (λ c. type_rows c typ) (λ t c. plain_rows c own t offset names) answer (type_no_types typ) making p q

with_none : (c : Context) → with_rows c [] ≡ c
with_none c = ap (λ (s : Scene). record { source = c.source; scene = s; layout = c.layout; item = c.item }) (with-none c.scene)

-- what is given after a value alone
then_none : {A B : Type 0} (c : Context) (v : A) (f : Context → A → Makes B) → make_then c (makes v) f ≡ f c v
then_none c v f = ap (λ (d : Context). f d v) (with_none c)

cases_given : (own offset : ℕ) (tag : Option Ident) (of : Qual) (arms : VariantArms) (other : FieldLists) (c : Context) → make_then c (tag_made c own offset tag of) (λ d v. behind_tag_rows d v arms other) ≡ field_list_rows c own offset (case_fields tag of arms other)
cases_given own offset tag of arms other c =
    let d = with_rows c [] in
    let t = (tag_type c of).value in
    let m = tag_rows d own offset t tag in
    let rest : Context → Variants → Makes ℕ = λ e v. behind_tag_rows e v arms other in
    let at : ℕ → Place → Variants = λ o u. record { own = own; offset = o; tag = u } in
    make_then_assoc c (only_gives (tag_type c of)) (λ e u. make_then e (tag_rows e own offset u tag) (λ k o. makes (at o u))) rest
    ∙ then_same c (only_gives (tag_type c of)) (λ e u. make_then e (make_then e (tag_rows e own offset u tag) (λ k o. makes (at o u))) rest) (λ e u. make_then e (tag_rows e own offset u tag) (λ k o. rest k (at o u)))
    (make_then_assoc d m (λ k o. makes (at o t)) rest
    ∙ then_same d m (λ k o. make_then k (makes (at o t)) rest) (λ k o. rest k (at o t)) (then_none (with_rows d m.rows) (at m.value t) rest))

pub cases_made : {a b d : State} {x y z : Made} {s : Site} {v : Variants} (own offset : ℕ) (tag : Option Ident) (of : Qual) (arms : VariantArms) (other : FieldLists) (answer : Result (Ask ℕ) Memory) → IsMaking a.frame s x (tag_shapes tag ++ behind_tag_shapes arms other)
    → Declares a b x y s (Ok (Known v)) (tag_shapes tag) (AreVariantsOf own) (λ c. tag_made c own offset tag of) → Declares b d y z s answer (behind_tag_shapes arms other) IsOffset (λ c. behind_tag_rows c v arms other)
    → Declares a d x z s answer (field_shapes (case_fields tag of arms other)) IsOffset (λ c. field_list_rows c own offset (case_fields tag of arms other))
cases_made {a} {s = s} own offset tag of arms other answer making p q =
    described answer (λ c. field_list_rows c own offset (case_fields tag of arms other))
    (reshaped answer (field_shapes (case_fields tag of arms other)) (sym (cases_apart tag of arms other))
    (then_after (λ c. tag_made c own offset tag of) (λ v c. behind_tag_rows c v arms other) answer (tag_no_types tag) making p q))
    (λ hand in_hand told same. cases_given own offset tag of arms other (context_of a.frame hand s))
