-- The definitions, computed for some outputs.
use Rattle.std.specs.Prelude.{◌≡◌, refl, ℕ, List, [], ◌∷◌, Some, None}
use Rattle.std.specs.List.{flat_map}
use Rattle.listings.specs.Ordering.{in_order}
use Rattle.m2_base.specs.declared.notes.Diag.{Diag}
use Rattle.m2_base.specs.declared.outputs.HeadingNote.{HeadingNote}
use Rattle.m2_base.specs.declared.outputs.Output.{Output}
use Rattle.m2_base.specs.declared.outputs.StreamFault.TheVariants.{Syntax, TooDeep}
use Rattle.unit_merge.specs.Earliest.{earliest}
use Rattle.unit_merge.specs.Objects.{exports_in, of_own, without_own}
use Rattle.unit_merge.specs.Outcome.{diagnostics, outcome_of_faults, too_deep}
use Rattle.unit_merge.specs.Outputs.{output_diags}

abbrev diag : (text at code : ℕ) → Diag
diag text at code = record { text = text; at = at; code = code }

-- two texts have faults: both are told, in the order of the texts, and none of a third
two_texts : outcome_of_faults (Some (Syntax (diag 0 9 1)) ∷ None ∷ Some (Syntax (diag 2 4 1)) ∷ []) ≡ Some (diagnostics (diag 0 9 1 ∷ diag 2 4 1 ∷ []))
two_texts = refl

-- a text that is nested too deep comes before a syntax fault, in whichever text that is
deep_behind : outcome_of_faults (Some (Syntax (diag 0 9 1)) ∷ Some (TooDeep 1 5) ∷ []) ≡ Some (too_deep 1 5)
deep_behind = refl

deep_before : outcome_of_faults (Some (TooDeep 0 7) ∷ Some (Syntax (diag 1 2 1)) ∷ []) ≡ Some (too_deep 0 7)
deep_before = refl

-- of two such texts the first is told
both_deep : outcome_of_faults (None ∷ Some (TooDeep 1 5) ∷ Some (TooDeep 2 3) ∷ []) ≡ Some (too_deep 1 5)
both_deep = refl

-- no text has one
no_faults : outcome_of_faults (None ∷ None ∷ []) ≡ None
no_faults = refl

-- of two streams of one text the earlier fault is kept, in whichever order they are told
earlier_kept : earliest 2 (Some (Syntax (diag 0 9 1)) ∷ None ∷ Some (TooDeep 0 4) ∷ Some (Syntax (diag 1 3 1)) ∷ []) ≡ Some (TooDeep 0 4) ∷ Some (Syntax (diag 1 3 1)) ∷ []
earlier_kept = refl

-- two streams have one diagnostic, and theirs interleave
interleaved : (o p : Output) → o.diags.items ≡ diag 1 5 30 ∷ diag 0 8 20 ∷ [] → p.diags.items ≡ diag 0 12 20 ∷ diag 0 8 20 ∷ diag 0 8 19 ∷ []
    → output_diags (o ∷ p ∷ []) ≡ diag 0 8 19 ∷ diag 0 8 20 ∷ diag 0 12 20 ∷ diag 1 5 30 ∷ []
interleaved o p e f = λ i. in_order (flat_map (λ (ds : List Diag). ds) (e i ∷ f i ∷ []))

-- an export has the number of the module's procedure of its name, in the order of the own definition
abbrev heading : (name number params result : ℕ) → HeadingNote
heading name number params result = record { name = name; number = number; params = params; result = result }

exported : exports_in (heading 70 3 2 0 ∷ heading 71 5 0 1 ∷ heading 72 6 1 0 ∷ []) (heading 72 1 1 0 ∷ heading 70 2 2 0 ∷ []) ≡ (6, 1, 0) ∷ (3, 2, 0) ∷ []
exported = refl

-- the own definition is the second of three: it isn't among the imports
others : without_own {A = ℕ} (Some 2) (10 ∷ 20 ∷ 30 ∷ []) ≡ 10 ∷ 30 ∷ []
others = refl

own : ◌≡◌ {A = ℕ} (of_own 0 (Some 2) (10 ∷ 20 ∷ 30 ∷ [])) 20
own = refl

-- a program has none, and imports all
none : ◌≡◌ {A = ℕ} (of_own 0 None (10 ∷ 20 ∷ [])) 0
none = refl

all_others : without_own {A = ℕ} None (10 ∷ 20 ∷ []) ≡ 10 ∷ 20 ∷ []
all_others = refl
