-- The rows of pointers, after their targets.
use Rattle.std.specs.Prelude.{◌≡◌, ℕ, List, [], ◌∷◌, ◌++◌, Option, None, Some, Result, Ok, Err}
use Rattle.std.proofs.Common.{refl, sym, ap, ◌∙◌, subst, arith, inl}
use Rattle.m2_base.specs.Gives.{Gives}
use Rattle.m2_base.specs.Rows.{pointer_kind}
use Rattle.m2_base.specs.States.{Frame, State}
use Rattle.m2_base.specs.Statics.Contexts.{Context}
use Rattle.m2_base.specs.Statics.Makes.{Makes, make_then, makes_row, only_gives, with_rows}
use Rattle.m2_base.specs.Statics.Shapes.{Shape, form_shapes, nameless, type_shapes}
use Rattle.m2_base.specs.Statics.Targets.{layout_target, target_by_name, target_name, target_or}
use Rattle.m2_base.specs.Statics.TypeRows.{form_rows, type_rows}
use Rattle.m2_base.specs.Trees.{TypeExpr, pointer_type}
use Rattle.m2_base.specs.declared.memory.Memory.{Memory}
use Rattle.m2_base.specs.declared.notes.Notes.{Notes}
use Rattle.m2_base.specs.declared.replies.Ask.{Ask}
use Rattle.m2_base.specs.declared.replies.Ask.TheVariants.{DontKnowYet, Known}
use Rattle.m2_base.specs.declared.replies.Head.{Head}
use Rattle.m2_base.specs.declared.rows.Place.{Place}
use Rattle.m2_base.specs.declared.rows.RowMeaning.TheVariants.{Pointer}
use Rattle.m2_base.specs.declared.sites.Named.{Named}
use Rattle.m2_base.specs.declared.sites.Site.{Site}
use Rattle.m2_base.specs.declared.trees.types as code
use Rattle.m2_base.specs.Views.{type_view}
use Rattle.m2_base.specs.Asks.{IfKnown}
use Rattle.std.specs.Option.{IfSome}
use Rattle.type_rules.specs.Sites.{context_of}
use Rattle.const_eval.specs.Analyses.{Analysed}
use Rattle.decl_sem.specs.Making.{next_ordinal}
use Rattle.decl_sem.specs.Pieces.{AreAliasesBefore, Declares, IsBehind, IsMaking, IsNewMeaning}
use Rattle.decl_sem.specs.Targets.{IsOptionTarget, IsTarget, optional}
use Rattle.decl_sem.specs.declared.making.Made.{Made}
use Rattle.decl_sem.proofs.Hands.{hand_none}
use Rattle.decl_sem.proofs.Pieces.{analysed, described, failed, in_behind, making_on, reshaped, then_after, waiting}
use Rattle.decl_sem.proofs.TypeForms.{type_no_types}
use Rattle.decl_sem.proofs.Uses.{first_known}

-- ** Targets

-- an analysis that gives a value gives it where one may be absent
optionally : {a b : State} {x y : Notes} {s : Site} {v : Place} (g : Context → Gives Place) → Analysed a b x y s (Ok (Known v)) IsTarget g → Analysed a b x y s (Ok (Known (Some v))) (λ f t. IsOptionTarget f 0 t) (λ c. optional (Some (g c)))
optionally g p =
    record {
      works = p.works;
      waits = p.waits;
      told = λ made in_hand told of_site. let n = p.told made in_hand told of_site in record { value_is = ap Some n.value_is; diags = n.diags; answers = n.answers };
      there = p.there;
    }

-- the target that the layout gives
pub by_layout : {a b : State} (t : TypeExpr) (x : Made) (y : Notes) (s : Site) (at : ℕ) (named : Named) (v : Place) {result : Result (Ask Place) Memory} {asked : Ask Place} → IsMaking a.frame s x []
    → ((c : Context) → c.layout ≡ s.layout.now → target_by_name c (target_name c t) ≡ Some (layout_target c at named)) → result ≡ Ok asked → asked ≡ Known v
    → Analysed a b x.notes y s result IsTarget (λ c. layout_target c at named)
    → Declares a b x (record x { notes = y }) s (Ok (Known (Some v))) [] IsOptionTarget (λ c. only_gives (optional (target_by_name c (target_name c t))))
by_layout {a} {b} t x y s at named v making laid e f p =
    let known : Analysed a b x.notes y s (Ok (Known v)) IsTarget (λ c. layout_target c at named) = first_known a b x.notes y s IsTarget (λ c. layout_target c at named) e f p in
    described (Ok (Known (Some v))) (λ c. only_gives (optional (target_by_name c (target_name c t))))
    (analysed {y = record x { notes = y }} (Ok (Known (Some v))) {P = λ f t. IsOptionTarget f 0 t} {Q = IsOptionTarget} making refl refl (λ w h. same_target (next_ordinal (record x { notes = y })) w h) (optionally (λ c. layout_target c at named) known))
    (λ hand in_hand told same. ap (λ (o : Option (Gives Place)). only_gives (optional o)) (sym (laid (context_of a.frame hand s) refl)))
  where
    same_target : (n : ℕ) (w : Option Place) → IsOptionTarget a.frame 0 w → IsOptionTarget a.frame n w
    same_target n None h = tt
    same_target n (Some p) h = h

-- the aliases that the layout gives stand before the item of a pointer
pub aliases_of_pointer : {f : Frame} {s : Site} {x : Made} (at : ℕ) (of : TypeExpr) → IsMaking f s x (form_shapes at (pointer_type of)) → AreAliasesBefore s.layout.now x.first
aliases_of_pointer at of making = making.aliases (nameless pointer_kind at) (in_behind (nameless pointer_kind at) (type_shapes of) (nameless pointer_kind at ∷ []) (inl refl)) refl

-- ** Rows

-- a pointer's meaning
pub pointer_meaning : {f : Frame} {s : Site} {x : Made} {ss : List Shape} (of : Place) → IsMaking f s x ss → IsTarget f of → IsNewMeaning f s (next_ordinal x) (Pointer of)
pointer_meaning of making target =
    record { small = target.small; scopes = let n = making.small in let m = target.scope in omega arith; fits = target.scope; filled = tt; owned = tt }

-- what stands before can be a target
pub behind_target : {f : Frame} {next : ℕ} {p : Place} → IsBehind f next p → IsTarget f p
behind_target h = record { small = h.small; scope = h.scope }

-- the row of a pointer, after its target or without it
abbrev pub after_target : (at : ℕ) → TypeExpr → Option Place → Context → Makes Place
after_target at of (Some t) c = makes_row c at (Pointer t)
after_target at of None c = make_then c (type_rows c of) (λ d t. makes_row d at (Pointer t))

after_one : (at : ℕ) (of : TypeExpr) (c : Context) (g : Option (Gives Place)) → with_rows c [] ≡ c
    → make_then c (only_gives (optional g)) (λ e o. after_target at of o e) ≡ make_then c (target_or g (type_rows c of)) (λ d t. makes_row d at (Pointer t))
after_one at of c (Some g) same = refl
after_one at of c None same = ap (after_target at of None) same

module _ {a b d : State} {x y z : Made} {s : Site} (at : ℕ) (of : TypeExpr) (answer : Result (Ask Place) Memory) (making : IsMaking a.frame s x (form_shapes at (pointer_type of))) where
  pointer_then : (ts : List Shape) (target : Option Place) → form_shapes at (pointer_type of) ≡ ts → Declares a b x y s (Ok (Known target)) [] IsOptionTarget (λ c. only_gives (optional (target_by_name c (target_name c of))))
      → Declares b d y z s answer ts IsBehind (after_target at of target) → Declares a d x z s answer (form_shapes at (pointer_type of)) IsBehind (λ c. form_rows c at (pointer_type of))
  pointer_then ts target e p q =
      reshaped answer (form_shapes at (pointer_type of)) (sym e)
      (described answer (λ c. form_rows c at (pointer_type of))
      (then_after (λ c. only_gives (optional (target_by_name c (target_name c of)))) (after_target at of) answer tt (subst (λ (shapes : List Shape). IsMaking a.frame s x shapes) e making) p q)
      (λ hand in_hand told same. let c = context_of a.frame hand s in after_one at of c (target_by_name c (target_name c of)) (hand_none hand making.suits told)))

  -- the row of a pointer, whose target the layout gives
  pub pointer_by_layout : (t : Place) → type_shapes of ≡ [] → Declares a b x y s (Ok (Known (Some t))) [] IsOptionTarget (λ c. only_gives (optional (target_by_name c (target_name c of))))
      → Declares b d y z s answer (nameless pointer_kind at ∷ []) IsBehind (λ c. makes_row c at (Pointer t)) → Declares a d x z s answer (form_shapes at (pointer_type of)) IsBehind (λ c. form_rows c at (pointer_type of))
  pointer_by_layout t none p q = pointer_then (nameless pointer_kind at ∷ []) (Some t) (ap (λ (shapes : List Shape). shapes ++ nameless pointer_kind at ∷ []) none) p q

  -- the row of a pointer, after the rows of its target
  pub pointer_by_type : Declares a b x y s (Ok (Known None)) [] IsOptionTarget (λ c. only_gives (optional (target_by_name c (target_name c of))))
      → Declares b d y z s answer (form_shapes at (pointer_type of)) IsBehind (after_target at of None) → Declares a d x z s answer (form_shapes at (pointer_type of)) IsBehind (λ c. form_rows c at (pointer_type of))
  pointer_by_type p q = pointer_then (form_shapes at (pointer_type of)) None refl p q

-- ** After a target

-- a target that is known
pub target_known : {a b : State} {x y : Made} {s : Site} (t u : code.TypeExpr.TypeExpr) {result : Result (Ask (Option Place)) Memory} {asked : Ask (Option Place)} {v w : Option Place} → t ≡ u → result ≡ Ok asked → asked ≡ Known v → v ≡ w
    → Declares a b x y s result [] IsOptionTarget (λ c. only_gives (optional (target_by_name c (target_name c (type_view t)))))
    → Declares a b x y s (Ok (Known w)) [] IsOptionTarget (λ c. only_gives (optional (target_by_name c (target_name c (type_view u)))))
target_known {a} {b} {x} {y} {s} t u {result} {asked} {v} {w} same e f h p =
    let known : result ≡ Ok (Known w) = e ∙ ap (λ (k : Ask (Option Place)). Ok k) f ∙ ap (λ (o : Option Place). Ok (Known o)) h in
    let here : Declares a b x y s (Ok (Known w)) [] IsOptionTarget (λ c. only_gives (optional (target_by_name c (target_name c (type_view t))))) =
    subst (λ (r : Result (Ask (Option Place)) Memory). Declares a b x y s r [] IsOptionTarget (λ c. only_gives (optional (target_by_name c (target_name c (type_view t)))))) known p in
    subst (λ (z : code.TypeExpr.TypeExpr). Declares a b x y s (Ok (Known w)) [] IsOptionTarget (λ c. only_gives (optional (target_by_name c (target_name c (type_view z)))))) same here

-- what is known beside it
pub plain_known : {P : Type 0} {result : Result (Ask (Option Place)) Memory} {asked : Ask (Option Place)} {v : Option Place} {t : Place} → result ≡ Ok asked → asked ≡ Known v → v ≡ Some t → IfKnown result (λ o. IfSome o (λ p. P)) → P
plain_known {P} {result} {asked} {v} {t} e f h k =
    let known : result ≡ Ok (Known (Some t)) = e ∙ ap (λ (q : Ask (Option Place)). Ok q) f ∙ ap (λ (o : Option Place). Ok (Known o)) h in
    subst (λ (r : Result (Ask (Option Place)) Memory). IfKnown r (λ o. IfSome o (λ p. P))) known k

-- without one the target's rows are made
pub target_making : {a b : State} {x y : Made} {s : Site} (at : ℕ) (of : TypeExpr) → IsMaking a.frame s x (form_shapes at (pointer_type of))
    → Declares a b x y s (Ok (Known None)) [] IsOptionTarget (λ c. only_gives (optional (target_by_name c (target_name c of)))) → IsMaking b.frame s y (form_shapes at (pointer_type of))
target_making at of making p = making_on {ss = []} tt making p

module _ {a b d : State} {x y z : Made} {s : Site} (at : ℕ) (of : TypeExpr) (making : IsMaking a.frame s x (form_shapes at (pointer_type of)))
    (p : Declares a b x y s (Ok (Known None)) [] IsOptionTarget (λ c. only_gives (optional (target_by_name c (target_name c of))))) where
  -- they aren't known yet
  pub pointer_waits : {head : Head} {result : Result (Ask Place) Memory} {asked : Ask Place} → result ≡ Ok asked → asked ≡ DontKnowYet head → Declares b d y z s result (type_shapes of) IsBehind (λ c. type_rows c of)
      → Declares a d x z s (Ok (DontKnowYet head)) (form_shapes at (pointer_type of)) IsBehind (λ c. form_rows c at (pointer_type of))
  pointer_waits {head} {result} {asked} e f q =
      let known : result ≡ Ok (DontKnowYet head) = e ∙ ap (λ (k : Ask Place). Ok k) f in
      pointer_by_type at of (Ok (DontKnowYet head)) making p (waiting (subst (λ (r : Result (Ask Place) Memory). Declares b d y z s r (type_shapes of) IsBehind (λ c. type_rows c of)) known q))

  -- want of memory for them
  pub pointer_unmade : {m : Memory} {result : Result (Ask Place) Memory} → result ≡ Err m → Declares b d y z s result (type_shapes of) IsBehind (λ c. type_rows c of)
      → Declares a d x z s (Err m) (form_shapes at (pointer_type of)) IsBehind (λ c. form_rows c at (pointer_type of))
  pointer_unmade {m} {result} e q =
      pointer_by_type at of (Err m) making p (failed (subst (λ (r : Result (Ask Place) Memory). Declares b d y z s r (type_shapes of) IsBehind (λ c. type_rows c of)) e q) m)

-- the row after them
pub pointer_made : {a b d e : State} {x y z w : Made} {s : Site} {t : Place} (at : ℕ) (of : TypeExpr) (answer : Result (Ask Place) Memory) → IsMaking a.frame s x (form_shapes at (pointer_type of))
    → Declares a b x y s (Ok (Known None)) [] IsOptionTarget (λ c. only_gives (optional (target_by_name c (target_name c of))))
    → Declares b d y z s (Ok (Known t)) (type_shapes of) IsBehind (λ c. type_rows c of) → Declares d e z w s answer (nameless pointer_kind at ∷ []) IsBehind (λ c. makes_row c at (Pointer t))
    → Declares a e x w s answer (form_shapes at (pointer_type of)) IsBehind (λ c. form_rows c at (pointer_type of))
pointer_made at of answer making p q r =
    pointer_by_type at of answer making p (then_after (λ c. type_rows c of) (λ t c. makes_row c at (Pointer t)) answer (type_no_types of) (target_making at of making p) q r)
