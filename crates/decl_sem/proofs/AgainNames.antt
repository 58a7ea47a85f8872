-- Whether a name that an import has brought before is declared twice.
use Rattle.std.specs.Prelude.{◌≡◌, Bool, true, false, not, if◌then◌else◌, List, [], ◌∷◌, Result, Ok, Err}
use Rattle.std.proofs.Common.{refl, sym, ap, ◌∙◌, subst}
use Rattle.m2_base.specs.Asks.{IfKnown}
use Rattle.m2_base.specs.Rows.{alias_kind, is_same_place, row_of}
use Rattle.m2_base.specs.States.{Frame, State}
use Rattle.m2_base.specs.Statics.Makes.{Makes, one_row}
use Rattle.m2_base.specs.Statics.Shapes.{named}
use Rattle.m2_base.specs.declared.memory.Memory.{Memory}
use Rattle.m2_base.specs.declared.replies.Ask.{Ask}
use Rattle.m2_base.specs.declared.rows.RowMeaning.TheVariants.{Alias}
use Rattle.m2_base.specs.declared.sites.Site.{Site}
use Rattle.m2_base.proofs.Kept.{IsPrefixOf-refl, Works-kept, Works-trans}
use Rattle.type_rules.specs.Asks.{Reads}
use Rattle.type_rules.specs.Sites.{context_of}
use Rattle.decl_sem.specs.Making.{MakesAll, next_ordinal}
use Rattle.decl_sem.specs.Pieces.{Declares, Grown, IsBehind, WhereMaking}
use Rattle.decl_sem.specs.declared.making.Made.{Made}
use Rattle.decl_sem.proofs.Pieces.{waits_on}
use Rattle.m2_base.specs.Standard.{broken}
use Rattle.m2_base.specs.Statics.Contexts.{Context, diag}
use Rattle.m2_base.specs.Statics.Diagnostics.{declared_twice}
use Rattle.m2_base.specs.Statics.ImportRows.{again_diags}
use Rattle.m2_base.specs.Statics.ImportedConstants.{leads_elsewhere}
use Rattle.m2_base.specs.Statics.Lookup.{entry_in}
use Rattle.m2_base.specs.declared.notes.Diag.{Diag}
use Rattle.m2_base.specs.declared.rows.Place.{Place}
use Rattle.m2_base.specs.declared.trees.Ident.{Ident}

same_place : (a b : Bool) → a ≡ not b → a ≡ false → b ≡ true
same_place a true e f = refl
same_place a false e f = absurd (cc)

other_place : (a b : Bool) → a ≡ not b → a ≡ true → b ≡ false
other_place a false e f = refl
other_place a true e f = absurd (cc)

-- where it leads to a part in error, nothing is said
pub not_again : (c : Context) (i : Ident) (p : Place) (d : Bool) → d ≡ not (is_same_place p broken) → d ≡ false → again_diags c i p ≡ []
not_again c i p d is no_difference =
    ap (λ (b : Bool). if b then [] else if leads_elsewhere c.scene p (entry_in c.scene.tables c.scene.block.scope i.name) then diag c i.at declared_twice ∷ [] else []) (same_place d (is_same_place p broken) is no_difference)

-- otherwise it is declared twice where it leads elsewhere
pub again_here : (c : Context) (i : Ident) (p : Place) (d again : Bool) → d ≡ not (is_same_place p broken) → d ≡ true → again ≡ leads_elsewhere c.scene p (entry_in c.scene.tables c.scene.block.scope i.name)
    → again_diags c i p ≡ (if again then diag c i.at declared_twice ∷ [] else [])
again_here c i p d again is difference elsewhere =
    ap (λ (b : Bool). if b then [] else if leads_elsewhere c.scene p (entry_in c.scene.tables c.scene.block.scope i.name) then diag c i.at declared_twice ∷ [] else []) (other_place d (is_same_place p broken) is difference)
    ∙ ap (λ (b : Bool). if b then diag c i.at declared_twice ∷ [] else []) (sym elsewhere)

-- the alias, after that is asked
pub again_after : {a b : State} {x y : Made} {s : Site} (i : Ident) (target : Place) (again : Bool) (answer : Result (Ask Place) Memory) → Reads a b
    → WhereMaking a.frame x (λ hand. again_diags (context_of a.frame hand s) i target ≡ (if again then diag (context_of a.frame hand s) i.at declared_twice ∷ [] else []))
    → Declares b b x y s answer (named alias_kind i ∷ []) IsBehind (λ c. one_row c (row_of 0 i.at (Alias target)) (if again then diag c i.at declared_twice ∷ [] else []))
    → Declares a b x y s answer (named alias_kind i ∷ []) IsBehind (λ c. one_row c (row_of 0 i.at (Alias target)) (again_diags c i target))
again_after {a} {b} {x} {y} {s} i target again answer reads told p =
    let frame : b.frame ≡ a.frame = reads.keeps.frame in
    let works = Works-kept x.notes x.notes reads.keeps refl (IsPrefixOf-refl x.notes.diags.items) in
    record {
      works = Works-trans works p.works;
      waits = waits_on b answer works p.waits;
      first = p.first;
      grown = subst (λ (f : Frame). IfKnown answer (λ v. Grown f s x y (named alias_kind i ∷ []))) frame p.grown;
      told = λ hand in_hand t same.
          let c = context_of a.frame hand s in
          subst (λ (ds : List Diag). IfKnown answer (λ v. MakesAll x y (one_row c (row_of 0 i.at (Alias target)) ds) v)) (sym (told hand in_hand t same))
          ((subst (λ (f : Frame). WhereMaking f x (λ held. IfKnown answer (λ v. MakesAll x y (one_row (context_of f held s) (row_of 0 i.at (Alias target)) (if again then diag (context_of f held s) i.at declared_twice ∷ [] else [])) v))) frame p.told) hand in_hand t same);
      there = subst (λ (f : Frame). IfKnown answer (λ v. IsBehind f (next_ordinal y) v)) frame p.there;
    }
