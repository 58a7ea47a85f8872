-- Of the labels of a variant the values that are covered with them are kept.
use Rattle.std.specs.Prelude.{◌≡◌, List, [], Result}
use Rattle.std.proofs.Common.{Ok, ap}
use Rattle.m2_base.specs.Gives.{Gives}
use Rattle.m2_base.specs.States.{Frame, State}
use Rattle.m2_base.specs.Statics.CaseLabels.{CaseLabels}
use Rattle.m2_base.specs.Statics.Contexts.{Context}
use Rattle.m2_base.specs.Statics.Makes.{only_gives}
use Rattle.m2_base.specs.Statics.Ranges.{Range}
use Rattle.m2_base.specs.declared.memory.Memory.{Memory}
use Rattle.m2_base.specs.declared.notes.Notes.{Notes}
use Rattle.m2_base.specs.declared.replies.Ask.{Ask}
use Rattle.m2_base.specs.declared.replies.Ask.TheVariants.{Known}
use Rattle.m2_base.specs.declared.sites.Site.{Site}
use Rattle.case_labels.specs.Seen.{AreAny}
use Rattle.const_eval.specs.Analyses.{Analysed}
use Rattle.decl_sem.specs.Pieces.{Declares, IsAny, IsMaking}
use Rattle.decl_sem.specs.Records.{covered_of}
use Rattle.decl_sem.specs.declared.making.Made.{Made}
use Rattle.decl_sem.proofs.Pieces.{analysed}

-- any ranges may be covered
abbrev pub MayCover : Frame → List Range → Type 0
MayCover f ranges = Unit {0}

-- the values that are covered, alone
pub covered_alone : {a b : State} {x y : Notes} {s : Site} {g : Context → Gives CaseLabels} {v : CaseLabels} → Analysed a b x y s (Ok (Known v)) AreAny g → Analysed a b x y s (Ok (Known v.covered)) MayCover (λ c. covered_of (g c))
covered_alone p =
    record {
      works = p.works;
      waits = tt;
      told = λ made in_hand told of_site.
          let m = p.told made in_hand told of_site in
          record { value_is = ap (λ (v : CaseLabels). v.covered) m.value_is; diags = m.diags; answers = m.answers };
      there = tt;
    }

-- as a piece of an item
pub labels_covered : {a b : State} {x y : Made} {s : Site} (g : Context → Gives CaseLabels) (answer : Result (Ask (List Range)) Memory) → IsMaking a.frame s x [] → y.rows ≡ x.rows → y.first ≡ x.first
    → Analysed a b x.notes y.notes s answer MayCover (λ c. covered_of (g c)) → Declares a b x y s answer [] IsAny (λ c. only_gives (covered_of (g c)))
labels_covered g answer making rows first p = analysed answer {P = MayCover} {Q = IsAny} making rows first (λ v h. tt) p
