-- The front of a text has the name of the text's module.
use Rattle.std.proofs.Common.{◌≡◌, ◌∙◌, ℕ, Bool, true, false, List, [], ◌∷◌, ◌++◌, Some, refl, sym, ap, subst, append_assoc}
use Rattle.ll_grammar.specs.Derivations.{Tree, both, leaf, tokens, Derives, of_then, of_token}
use Rattle.ll_grammar.specs.Grammar.{Rule, sub, ◌⨾◌}
use Rattle.ll_grammar.specs.LookAhead.{IsRoot}
use Rattle.ll_grammar.specs.Sentences.{Begins}
use Rattle.ll_grammar.proofs.Beginnings.{begins_self, same_refl}
use Rattle.ll_grammar.proofs.Decided.{is_unambiguous}
use Rattle.m2_base.specs.ExpressionsOf.{ident_of}
use Rattle.m2_base.specs.Fronts.{BreaksOff, Front, IsFront, Opens, anything, head, head_of, named, nameless}
use Rattle.m2_base.specs.Grammar as rules
use Rattle.m2_base.specs.Grammar.{grammar}
use Rattle.m2_base.specs.StreamsOf as streams
use Rattle.m2_base.specs.Trees.{Stream}
use Rattle.m2_base.specs.WholeTexts.{SpellsDefinition, SpellsMain, main_blocks}
use Rattle.m2_base.specs.declared.token.Token.{Token}
use Rattle.m2_base.specs.declared.trees.Ident.{Ident}
use Rattle.m2_base.proofs.GrammarChecks.{is_ll1}
use Rattle.m2_parse.proofs.FrontLaws.{Anything, is_anything}

-- ** The head of a text

head_is_root : (definition : Bool) → IsRoot grammar (head definition ⨾ anything)
head_is_root true = refl
head_is_root false = refl

abbrev first_part : Tree Token → Tree Token
first_part (both d e) = d
first_part d = d

module _ {part : Rule} {ts rest : List Token} {d : Tree Token} (root : IsRoot grammar (part ⨾ anything)) (p : Opens part d rest ts) where
  -- a part that is whole isn't broken off
  never_both : BreaksOff part ts → ⊥
  never_both b = b.faulty.refusal (both d e.tree) (of_then p.derives e.derives) (subst (λ w. Begins b.faulty.before b.rest w) (sym whole) (begins_self b.faulty.before b.rest b.rest (same_refl b.rest)))
    where
      e : Anything rest
      e = is_anything rest

      whole : tokens (both d e.tree) ≡ b.faulty.before ++ b.rest
      whole = ap (λ w. tokens d ++ w) e.spells ∙ sym p.spells ∙ b.faulty.is

  -- and has one derivation
  one_part : {d' : Tree Token} {rest' : List Token} → Opens part d' rest' ts → d ≡ d'
  one_part {d'} {rest'} q =
      let e = is_anything rest in
      let e' = is_anything rest' in
      let same = is_unambiguous grammar (part ⨾ anything) is_ll1 root (both d e.tree) (both d' e'.tree) (of_then p.derives e.derives) (of_then q.derives e'.derives)
      (ap (λ w. tokens d ++ w) e.spells ∙ sym p.spells ∙ q.spells ∙ sym (ap (λ w. tokens d' ++ w) e'.spells)) in
      ap first_part same

-- the front of tokens that open with a head has its name
front_name : (definition : Bool) {d : Tree Token} {rest ts : List Token} → Opens (head definition) d rest ts → (f : Front) → IsFront definition ts f → f.name ≡ Some (head_of definition d).1
front_name definition p f (nameless b) = absurd (never_both (head_is_root definition) p b)
front_name definition p f (named q behind) = ap (λ (x : Tree Token). Some (head_of definition x).1) (sym (one_part (head_is_root definition) p q))

-- ** Definitions

-- the module's tree has the name of the front
pub record HasName (tree : Stream) (f : Front) : Type 0 where
  pub name : Ident
  pub of_tree : tree.name ≡ Some name
  pub of_front : f.name ≡ Some name

definition_head : {x : Tree Token} (f : Front) → Derives grammar rules.definition x → IsFront true (tokens x) f → HasName (streams.definition_of x []) f
definition_head f (of_then (of_token {t = d} gd) (of_then (of_token {t = m} gm) (of_then (of_token {t = i} gi) (of_then {d = s} {e = e} gs
    (of_then gis (of_then gx (of_then gds (of_then ge (of_then gc (of_then gp gn)))))))))) is =
    record {
      name = ident_of (leaf i);
      of_tree = refl;
      of_front = front_name true {d = both (leaf d) (both (leaf m) (leaf i))} (record { derives = of_then (of_token gd) (of_then (of_token gm) (of_token gi)); spells = refl }) f is;
    }

-- the tree of a definition text has the name of its front
pub definition_named : (tree : Stream) (ts : List Token) (f : Front) → SpellsDefinition (tree ∷ []) ts → IsFront true ts f → HasName tree f
definition_named tree ts f spelled is =
    let s = spelled.sentence in
    let same : streams.definition_of s.tree [] ≡ tree = let all = spelled.gives in cc in
    subst (λ (z : Stream). HasName z f) same (definition_head f s.derives (subst (λ (us : List Token). IsFront true us f) (sym s.spells) is))

-- ** Main texts

-- the module's tree comes first
abbrev pub IsNamedMain : List Stream → Front → Type 0
IsNamedMain [] f = ⊥
IsNamedMain (tree ∷ trees) f = HasName tree f

main_head : (m : ℕ) {x : Tree Token} (f : Front) → Derives grammar (rules.main sub) x → IsFront false (tokens x) f → IsNamedMain (main_blocks m x []) f
main_head m f (of_then {d = o} go (of_then (of_token {t = w} gw) (of_then (of_token {t = i} gi) (of_then {d = s} {e = e} gs (of_then gis (of_then gb (of_then gp gn))))))) is =
    record {
      name = ident_of (leaf i);
      of_tree = refl;
      of_front = front_name false {d = both o (both (leaf w) (leaf i))} {rest = tokens s ++ tokens e}
          (record { derives = of_then go (of_then (of_token gw) (of_token gi)); spells = sym (append_assoc (tokens o) (w ∷ i ∷ []) (tokens s ++ tokens e)) }) f is;
    }

-- the tree of the module has the name of its text's front
pub main_named : (m : ℕ) (trees : List Stream) (ts : List Token) (f : Front) → SpellsMain m trees ts → IsFront false ts f → IsNamedMain trees f
main_named m trees ts f spelled is =
    let s = spelled.sentence in
    subst (λ (z : List Stream). IsNamedMain z f) spelled.gives (main_head m f s.derives (subst (λ (us : List Token). IsFront false us f) (sym s.spells) is))
