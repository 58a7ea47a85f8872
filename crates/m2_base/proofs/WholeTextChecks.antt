-- The blocks of a text by hand: MODULE a; PROCEDURE b; PROCEDURE c; END c; END b; PROCEDURE d; END d; END a.
-- The names have the numbers 1 to 4, and so have the blocks.
use Rattle.std.proofs.Common.{◌≡◌, ℕ, List, [], ◌∷◌, None, false, refl}
use Rattle.m2_base.specs.declared.kind.TokenKind.{TokenKind}
use Rattle.m2_base.specs.declared.kind.TokenKind.TheVariants.{Identifier, Module, Procedure, End, Semicolon, Period, EndOfText}
use Rattle.m2_base.specs.declared.token.Token.{Token}
use Rattle.m2_base.specs.declared.trees.Ident.{Ident}
use Rattle.m2_base.specs.Grammar.{grammar, main, a, ident, body, declaration}
use Rattle.m2_base.specs.KindNumbers.{sample}
use Rattle.m2_base.specs.StreamsOf.{Block, main_tree, procedure_tree, heading_with}
use Rattle.m2_base.specs.Trees.{Decl, proc_decl, Heading}
use Rattle.m2_base.specs.WholeTexts.{main_blocks}
use Rattle.ll_grammar.specs.Derivations.{Tree, nothing, leaf, both, right, last, more, part, Derives, of_empty, of_token, of_then, of_right, of_last, of_more, of_sub}
use Rattle.ll_grammar.specs.Grammar.{Rule, sub, many, optional, ◌⨾◌}

abbrev word : TokenKind → Tree Token
word kind = leaf (sample kind)

abbrev name : ℕ → Tree Token
name n = leaf (record { kind = Identifier; value = n; at = 0; line = 0; column = 0 })

abbrev block : Tree Token → ℕ → Tree Token
block declarations n = both declarations (both (right nothing) (both (word End) (name n)))

abbrev procedure : ℕ → Tree Token → Tree Token
procedure n declarations =
    right (right (right (part (both (both (word Procedure) (both (name n) (right nothing))) (both (word Semicolon) (both (block declarations n) (word Semicolon)))))))

abbrev text : Tree Token
text =
    both (right nothing) (both (word Module) (both (name 1) (both (word Semicolon) (both last
    (both (block (more (procedure 2 (more (procedure 3 last) last)) (more (procedure 4 last) last)) 1) (both (word Period) (word EndOfText)))))))

pub text_is_main : Derives grammar (main sub) text
text_is_main =
    of_then no_part (of_then (of_token refl) (of_then (of_token refl) (of_then (of_token refl) (of_then of_last
    (of_then (of_then (of_more (is_procedure 2 (of_more (is_procedure 3 of_last) of_last)) (of_more (is_procedure 4 of_last) of_last)) is_end)
    (of_then (of_token refl) (of_token refl)))))))
  where
    no_part : {r : Rule} → Derives grammar (optional r) (right nothing)
    no_part = of_right of_empty

    is_end : {n : ℕ} → Derives grammar (body ⨾ a End ⨾ ident) (both (right nothing) (both (word End) (name n)))
    is_end = of_then (of_right of_empty) (of_then (of_token refl) (of_token refl))

    is_procedure : (n : ℕ) {declarations : Tree Token} → Derives grammar (many (declaration sub)) declarations
        → Derives grammar (declaration sub) (procedure n declarations)
    is_procedure n h =
        of_right (of_right (of_right (of_sub (of_then (of_then (of_token refl) (of_then (of_token refl) (of_right of_empty)))
        (of_then (of_token refl) (of_then (of_then h is_end) (of_token refl)))))))

abbrev ident_of_number : ℕ → Ident
ident_of_number n = record { name = n; at = 0 }

abbrev heading : ℕ → Heading
heading n = heading_with (ident_of_number n) ([], None)

abbrev procedures : List ℕ → List Decl
procedures [] = []
procedures (k ∷ ks) = proc_decl (heading k) k ∷ procedures ks

abbrev declared : List ℕ → ℕ → Block
declared numbers n = record { decls = procedures numbers; body = []; close = ident_of_number n }

pub text_has_blocks : main_blocks 1 text []
    ≡ main_tree false (ident_of_number 1) [] (declared (2 ∷ 4 ∷ []) 1)
    ∷ procedure_tree (heading 2) (declared (3 ∷ []) 2)
    ∷ procedure_tree (heading 3) (declared [] 3)
    ∷ procedure_tree (heading 4) (declared [] 4)
    ∷ []
text_has_blocks = refl
