-- A unit whose text begins with a fault has no finished rows, so that any scopes suit it.
use Rattle.std.proofs.Common.{List, ◌≡◌, ◌∙◌, ℕ, ◌<◌, ◌≤◌, true, [], ◌∷◌, length, drop, None, sym, ap, subst, arith}
use Rattle.std.proofs.lemmas.Bool.{true≢false}
use Rattle.ll_grammar.specs.Derivations.{Derives, Tree, of_empty, of_left, of_right, of_then, of_token, tokens}
use Rattle.ll_grammar.specs.Grammar.{sub}
use Rattle.ll_grammar.specs.LookAhead.{member}
use Rattle.m2_base.specs.Finished.{IsFinished}
use Rattle.m2_base.specs.Grammar.{grammar, main}
use Rattle.m2_base.specs.KindNumbers.{kind_number}
use Rattle.m2_base.specs.Lists.{Each, IsPrefixOf}
use Rattle.m2_base.specs.Names.{standard_names}
use Rattle.m2_base.specs.States.{Frame}
use Rattle.m2_base.specs.Trees.{Stream}
use Rattle.m2_base.specs.Units.{UnitTexts}
use Rattle.m2_base.specs.declared.kind.TokenKind.{TokenKind}
use Rattle.m2_base.specs.declared.kind.TokenKind.TheVariants.{Bad, Implementation, Module}
use Rattle.m2_base.specs.declared.rows.Row.{Row}
use Rattle.m2_base.specs.declared.sites.Around.{Around}
use Rattle.m2_base.specs.declared.sites.Site.{Site}
use Rattle.type_rules.specs.Scenes.{Suits}
use Rattle.type_rules.specs.Sites.{SuitsSite}
use Rattle.m2_cases.specs.Filled.{IsFull, the_around}
use Rattle.m2_cases.specs.Samples.{IsSample, first_kind}

-- a main text begins with MODULE or IMPLEMENTATION
begins : {d : Tree _} → Derives grammar (main sub) d → first_kind (tokens d) ≡ Bad → ⊥
begins (of_then (of_left (of_token {t} g)) q) e = true≢false (sym g ∙ ap (λ (k : TokenKind). member (kind_number k) (kind_number Implementation ∷ [])) e)
begins (of_then (of_right of_empty) (of_then (of_token {t} g) q)) e = true≢false (sym g ∙ ap (λ (k : TokenKind). member (kind_number k) (kind_number Module ∷ [])) e)

-- a text that begins with a fault has no finished rows
pub not_finished : {u : UnitTexts} {tree : Stream} {tables : List (List Row)} → IsSample u tree → IsFinished u tables → ⊥
not_finished s h = begins h.read.main.sentence.derives (ap first_kind h.read.main.sentence.spells ∙ s.faulty)

-- nor have scopes with these texts
pub none_finished : {u v : UnitTexts} {tree : Stream} {tables : List (List Row)} → IsSample u tree → v ≡ u → IsFinished v tables → ⊥
none_finished {tables = tables} s e h = not_finished s (subst (λ (w : UnitTexts). IsFinished w tables) e h)

-- scopes that fill the block's scope suit the block, complete or not
suits : {u : UnitTexts} {tree : Stream} (f : Frame) → IsSample u tree → f.setting.texts ≡ u → f.setting.fills ≡ 1 → 1 < length f.setting.areas → Suits f the_around
suits {u} f s texts fills areas =
    record {
      fills = sym fills;
      inner = omega (arith, fills);
      exist = omega (arith, fills, areas);
      names = let e = ap (λ (v : UnitTexts). length v.names) texts in let c = s.unit.countable in omega (arith, e, c);
      standard = subst (λ (v : UnitTexts). IsPrefixOf standard_names v.names) (sym texts) s.unit.standard;
      home = omega (arith, fills);
      own = tt;
      told = λ tables h. absurd (none_finished s texts h);
    }

-- a site in the block
pub record IsSite (s : Site) (u : UnitTexts) : Type 0 where
  pub texts : s.texts.now ≡ u
  pub around : s.around.now ≡ the_around

pub site_at : {u : UnitTexts} {tree : Stream} (f : Frame) (s : Site) → IsSample u tree → IsSite s u → f.setting.texts ≡ u → f.setting.fills ≡ 1 → 1 < length f.setting.areas → (s.item ≡ None → f.closed ≡ true) → SuitsSite f s
site_at f s sample is texts fills areas done =
    record {
      around = subst (λ a. Suits f a) (sym is.around) (suits f sample texts fills areas);
      texts = is.texts ∙ sym texts;
      chain = subst (λ (a : Around). a.chain ≡ f.setting.fills ∷ drop 1 a.chain) (sym is.around) (ap (λ (n : ℕ). n ∷ []) (sym fills));
      short = subst (λ (a : Around). length a.chain ≤ 18) (sym is.around) (omega arith);
      down = subst (λ (a : Around). Each (λ k. k < f.setting.fills) (drop 1 a.chain)) (sym is.around) tt;
      done = done;
    }

-- a site in the statements of the block, whose scope is complete
pub site_full : {u : UnitTexts} {tree : Stream} {f : Frame} {s : Site} → IsSample u tree → IsFull f u → IsSite s u → SuitsSite f s
site_full {f = f} {s = s} sample full is = site_at f s sample is full.texts full.fills full.areas (λ none. full.closed)
