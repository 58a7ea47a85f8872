-- The text by its parts.
use Rattle.std.proofs.Common.{◌≡◌, ℕ, List, [], ◌∷◌, ◌++◌, map, refl, ap, ◌∙◌}
use Rattle.std.proofs.lemmas.List.Folds.{flat_map-map}
use Rattle.std.proofs.lemmas.Grind.{flat_map-append}
use Rattle.std.specs.List.{flat_map}
use Rattle.module_gen.specs.BigModule.{numbers, procedure_lines, call_line, ended, opening, between, closing, procedure_text, call_text, text_of}

abbrev pub text : List (List ℕ) → List ℕ
text lines = flat_map ended lines

procedures-text : (ns : List ℕ) → text (flat_map procedure_lines ns) ≡ flat_map procedure_text ns
procedures-text [] = refl
procedures-text (n ∷ ns) = flat_map-append ended (procedure_lines n) (flat_map procedure_lines ns) ∙ ap (λ t. procedure_text n ++ t) (procedures-text ns)

parts : (a b c d e : List (List ℕ)) → text (a ++ b ++ c ++ d ++ e) ≡ text a ++ text b ++ text c ++ text d ++ text e
parts a b c d e =
    flat_map-append ended (a ++ b ++ c ++ d) e
    ∙ ap (λ t. t ++ text e) (
    flat_map-append ended (a ++ b ++ c) d
    ∙ ap (λ t. t ++ text d) (flat_map-append ended (a ++ b) c ∙ ap (λ t. t ++ text c) (flat_map-append ended a b))
    )

pub by_parts : (n : ℕ)
    → text_of n ≡ text opening ++ flat_map procedure_text (numbers n) ++ text between ++ flat_map call_text (numbers n) ++ text closing
by_parts n =
    parts opening (flat_map procedure_lines (numbers n)) between (map call_line (numbers n)) closing
    ∙ (λ i. text opening ++ procedures-text (numbers n) i ++ text between ++ flat_map-map ended call_line (numbers n) i ++ text closing)
