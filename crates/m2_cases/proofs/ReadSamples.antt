-- A text that begins with a fault is read as a sample.
use Rattle.std.proofs.Common.{◌≡◌, ◌∙◌, ℕ, ◌≤◌, List, [], ◌∷◌, Some, length, drop, ap, refl, subst, sym}
use Rattle.std.specs.List.{slice_get}
use Rattle.m2_base.specs.Finished.{main_tokens, tokens_in}
use Rattle.m2_base.specs.Lists.{Each}
use Rattle.m2_base.specs.Names.{standard_names, with_name}
use Rattle.m2_base.specs.Statics.ReadTrees.{IsReadToken}
use Rattle.m2_base.specs.Trees.{Stream}
use Rattle.m2_base.specs.Units.{IsIdentifier, IsUnit, TextOf, UnitTexts}
use Rattle.m2_base.specs.declared.kind.TokenKind.TheVariants.{Bad}
use Rattle.m2_base.specs.declared.token.Token.{Token}
use Rattle.m2_base.specs.declared.trees.declarations.StreamKind.TheVariants.{Main}
use Rattle.m2_base.proofs.Numbers.{with_name-grows}
use Rattle.m2_base.proofs.ReadTrees.{items_are_read}
use Rattle.m2_lex.specs.LoneTexts.{IsLoneText}
use Rattle.m2_lex.proofs.ReadTokens.{tokens_read}
use Rattle.m2_parse.specs.Streams.{SpellsStream}
use Rattle.m2_cases.specs.Samples.{HasDeclarations, IsSample, first_kind}

-- the name of the text's file
pub file_name : IsIdentifier (77 ∷ [])
file_name = record { one = refl; spells = refl }

each_rest : {A : Type 0} (P : A → Type 0) (xs : List A) → Each P xs → Each P (drop 1 xs)
each_rest P [] h = tt
each_rest P (x ∷ xs) h = h.1

pub sample_read : {name text : List ℕ} {u : UnitTexts} {tree : Stream} {main : TextOf} {rest : List Token} → IsLoneText name text u → IsUnit u → length text ≤ 1048576 → slice_get u.list 0 ≡ Some main
    → first_kind main.tokens ≡ Bad → rest ≡ drop 1 main.tokens → SpellsStream Main tree rest → HasDeclarations tree → IsSample u tree
sample_read {name} {text} {u} {tree} {main} {rest} lone unit short at fault behind spelled items =
    let tokens : main_tokens u ≡ main.tokens = ap tokens_in at in
    let same : main.tokens ≡ lone.tokens = sym tokens ∙ ap main_tokens lone.alone in
    let all : Each (IsReadToken u.names) lone.tokens = tokens_read (with_name standard_names name) u.names text lone.tokens (let g = with_name-grows standard_names name in record { rest = g.0; joined = sym g.1 }) short lone.are_tokens in
    let read : Each (IsReadToken u.names) rest = subst (λ ts. Each (IsReadToken u.names) ts) (sym (behind ∙ ap (drop 1) same)) (each_rest (IsReadToken u.names) lone.tokens all) in
    record {
      unit = unit;
      faulty = ap first_kind tokens ∙ fault;
      items = items;
      read = items_are_read u.names Main tree rest spelled read;
      spelling = rest;
      spelled = spelled;
      tokens = read;
    }
