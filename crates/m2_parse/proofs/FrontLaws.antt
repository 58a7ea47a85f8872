-- The front that is read is the front of the text, and a text has one.
use Rattle.std.proofs.Common.{◌≡◌, ℕ, zero, suc, ◌≤◌, Bool, true, false, List, [], ◌∷◌, ◌++◌, Result, Ok, Err, Some, None, refl, sym, ap, ◌∙◌, subst, true≢false, arith, length, cond, IfOk}
use Rattle.std.specs.Prelude.{◌&&◌, ◌==◌}
use Rattle.ll_grammar.specs.Grammar.{Rule, empty, token, then, or, many, deep, sub, ◌⨾◌}
use Rattle.ll_grammar.specs.Derivations.{Tree, leaf, both, last, more, tokens, Derives, of_empty, of_token, of_then, of_left, of_right, of_last, of_more, of_deep, of_sub, over}
use Rattle.ll_grammar.specs.LookAhead.{IsRoot}
use Rattle.ll_grammar.specs.Sentences.{Fault, Syntax, TooDeep, Begins, Faulty}
use Rattle.ll_grammar.specs.Reading.{refuse_then}
use Rattle.ll_grammar.proofs.Beginnings.{begins_self, same_refl}
use Rattle.ll_grammar.proofs.Decided.{is_unambiguous}
use Rattle.ll_grammar.proofs.FirstTokens.{rest_shorter}
use Rattle.ll_grammar.proofs.KindSets.{and_l, and_r}
use Rattle.ll_grammar.proofs.Link.{Reads, Is, IsLeaf, Accepted, Refused, Outcome, seq, final, a_kind}
use Rattle.ll_grammar.proofs.OneFault.{none_some, fault_of}
use Rattle.ll_grammar.proofs.Soundness.{none_both, accepts_derives}
use Rattle.m2_base.specs.declared.kind.TokenKind.TheVariants.{Semicolon}
use Rattle.m2_base.specs.declared.token.Token.{Token}
use Rattle.m2_base.specs.declared.trees.Ident.{Ident}
use Rattle.m2_base.specs.Fronts.{Front, anything, Opens, BreaksOff, head, head_of, modules_of, Imported, no_import, an_import, ImportedBehind, no_semicolon, semicolon, IsFront, nameless, named}
use Rattle.m2_base.specs.Grammar.{grammar, a, imported, levels}
use Rattle.m2_base.specs.KindNumbers.{kind_number}
use Rattle.m2_base.specs.StreamsOf.{import_of}
use Rattle.m2_base.specs.Trees as trees
use Rattle.m2_base.proofs.GrammarChecks.{is_ll1}
use Rattle.m2_parse.specs.declared.faults.Refusal.{Refusal}
use Rattle.m2_parse.specs.Fronts.{definition_head_at, main_head_at, head_at, modules_behind, modules_at, modules_after, imports_behind, front_with, front_of}
use Rattle.m2_parse.specs.declared.heads.Front as code
use Rattle.m2_parse.specs.FrontViews.{front_view}
use Rattle.m2_parse.specs.Reading.{tell, expect}
use Rattle.m2_parse.specs.ReadStreams.{import_at}
use Rattle.m2_parse.proofs.EachKind.{is_in_all}
use Rattle.m2_parse.proofs.NameLinks.{ident_read}
use Rattle.m2_parse.proofs.StreamLinks.{import_read, implementation_read}

-- One token of look-ahead tells where each part ends, whatever stands behind it.
head_is_root : (definition : Bool) → IsRoot grammar (head definition ⨾ anything)
head_is_root true = refl
head_is_root false = refl

imported_is_root : IsRoot grammar (imported ⨾ anything)
imported_is_root = refl

semicolon_is_root : IsRoot grammar (a Semicolon ⨾ anything)
semicolon_is_root = refl

-- No rule is one level deeper.
abbrev shallow : Rule → Bool
shallow empty = true
shallow (token ks) = true
shallow (then r s) = shallow r && shallow s
shallow (or r s) = shallow r && shallow s
shallow (many r) = shallow r
shallow (deep n) = false
shallow sub = false

never_deep : (n : ℕ) {r : Rule} {d : Tree Token} → Derives grammar r d → shallow r ≡ true → over n d ≡ None
never_deep n of_empty h = refl
never_deep n (of_token m) h = refl
never_deep n (of_then {r = r} {s = s} p q) h = none_both _ _ _ (never_deep n p (and_l (shallow r) (shallow s) h)) (never_deep n q (and_r (shallow r) (shallow s) h))
never_deep n (of_left {r = r} {s = s} p) h = never_deep n p (and_l (shallow r) (shallow s) h)
never_deep n (of_right {r = r} {s = s} p) h = never_deep n p (and_r (shallow r) (shallow s) h)
never_deep n of_last h = refl
never_deep n (of_deep p) h = absurd (true≢false (sym h))
never_deep n (of_sub p) h = absurd (true≢false (sym h))
never_deep n (of_more p q) h = none_both _ _ _ (never_deep n p h) (never_deep n q h)

-- so no token of it is too deep
is_syntax : (r : Rule) (f : Fault) (ts rest : List Token) → shallow r ≡ true → Faulty grammar levels r f ts rest → Faulty grammar levels r Syntax ts rest
is_syntax r Syntax ts rest h p = p
is_syntax r TooDeep ts rest h p =
    absurd (none_some p.before (sym (p.refusal.each p.refusal.tree p.refusal.derives p.refusal.begins) ∙ never_deep levels p.refusal.derives h))

module _ {X : Type 0} {part : Rule} {P : Tree Token → X → List Token → Type 0} {ts : List Token} where
  opens : {x : X × List Token} (p : Accepted grammar tell part P levels ts x) → Opens part p.tree x.1 ts
  opens p = record { derives = accepts_derives grammar p.by; spells = p.is }

breaks_off : {part : Rule} {ts : List Token} {e : Refusal} → IsRoot grammar (part ⨾ anything) → shallow (part ⨾ anything) ≡ true
    → Refused grammar tell part levels ts e → BreaksOff part ts
breaks_off {part} {ts} root flat p = record {
  rest = p.rest;
  faulty =
      is_syntax (part ⨾ anything) p.fault ts p.rest flat (fault_of grammar is_ll1 levels (part ⨾ anything) root p.fault p.before p.rest ts (refuse_then p.by) p.is);
}

-- The imports.
imported_at_end : (o : Result (trees.Import × List Token) Refusal) → Outcome grammar tell imported (Is import_of) levels [] o → Imported [] []
imported_at_end (Ok x) p = let l = rest_shorter grammar is_ll1 (accepts_derives grammar p.by) refl [] x.1 p.is in absurd (omega (arith, l))
imported_at_end (Err e) p = no_import (breaks_off imported_is_root refl p)

imported_on : (n : ℕ) (ts : List Token) → length ts ≤ suc n → ((rest : List Token) → length rest ≤ n → Imported rest (modules_at n rest))
    → (o : Result (trees.Import × List Token) Refusal) → Outcome grammar tell imported (Is import_of) levels ts o
    → Imported ts (modules_behind o (λ rest. modules_at n rest))
imported_on n ts h go (Ok x) p =
    let l = rest_shorter grammar is_ll1 (accepts_derives grammar p.by) refl ts x.1 p.is in
    subst (λ i. Imported ts (modules_of i ++ modules_at n x.1)) p.says (an_import (opens p) (go x.1 (omega (arith, l, h))))
imported_on n ts h go (Err e) p = no_import (breaks_off imported_is_root refl p)

is_imported : (n : ℕ) (ts : List Token) → length ts ≤ n → Imported ts (modules_at n ts)
unfolding modules_at
is_imported zero [] h = imported_at_end (import_at []) (import_read levels []).outcome
is_imported zero (t ∷ ts) h = absurd (omega arith)
is_imported (suc n) ts h = imported_on n ts h (λ rest l. is_imported n rest l) (import_at ts) (import_read levels ts).outcome

behind_on : (t : Token) (ts : List Token) (b : Bool) → Outcome grammar tell (a Semicolon) IsLeaf levels (t ∷ ts) (cond b (Ok (t, ts)) (Err (tell Syntax (t ∷ ts))))
    → ImportedBehind (t ∷ ts) (modules_after (cond b (Some ts) None))
behind_on t ts true p = semicolon (opens p) (is_imported (length ts) ts (omega arith))
behind_on t ts false p = no_semicolon (breaks_off semicolon_is_root refl p)

semicolon_read : (ts : List Token) → Reads grammar tell (a Semicolon) IsLeaf levels ts (expect Semicolon ts)
semicolon_read ts = a_kind 57 ts

is_behind : (ts : List Token) → ImportedBehind ts (imports_behind ts)
is_behind [] = no_semicolon (breaks_off semicolon_is_root refl (semicolon_read []).outcome)
is_behind (t ∷ ts) = behind_on t ts (kind_number t.kind == 57) (semicolon_read (t ∷ ts)).outcome

-- The head.
head_read : (definition : Bool) (ts : List Token) → Reads grammar tell (head definition) (Is (head_of definition)) levels ts (head_at definition ts)
unfolding definition_head_at main_head_at
head_read true ts =
    seq (a_kind 16 ts) (λ k dk ek.
    seq (a_kind 32 k.1) (λ m dm em.
    final (λ i. (false, i.0)) (ident_read levels m.1) (λ i di h. (λ j. (false, h j)))))
head_read false ts =
    seq (implementation_read levels ts) (λ k dk hk.
    seq (a_kind 32 k.1) (λ m dm em.
    final (λ i. (k.0, i.0)) (ident_read levels m.1) (λ i di h. (λ j. (hk j, h j)))))

front_on : (definition : Bool) (ts : List Token) (o : Result ((Bool × Ident) × List Token) Refusal)
    → Outcome grammar tell (head definition) (Is (head_of definition)) levels ts o → IsFront definition ts (front_with o)
front_on definition ts (Ok x) p =
    subst (λ h. IsFront definition ts (record { name = Some h.1; implementation = h.0; imports = imports_behind x.1 })) p.says
    (named (opens p) (is_behind x.1))
front_on true ts (Err e) p = nameless (breaks_off (head_is_root true) refl p)
front_on false ts (Err e) p = nameless (breaks_off (head_is_root false) refl p)

-- what is read is the front
is_front : (definition : Bool) (ts : List Token) (f : Front) → f ≡ front_of definition ts → IsFront definition ts f
is_front definition ts f h = subst (IsFront definition ts) (sym h) (front_on definition ts (head_at definition ts) (head_read definition ts).outcome)

pub returns_front : {E : Type 0} (definition : Bool) (ts : List Token) (result : Result code.Front E)
    → IfOk result (λ f. front_view f ≡ front_of definition ts) → IfOk result (λ f. IsFront definition ts (front_view f))
returns_front definition ts (Ok f) h = is_front definition ts (front_view f) h
returns_front definition ts (Err e) h = tt

-- A text has one front: each list of tokens is anything, so a part that is whole has one derivation, and is not refused.
pub record Anything (ts : List Token) : Type 0 where
  pub tree : Tree Token
  pub derives : Derives grammar anything tree
  pub spells : tokens tree ≡ ts

pub is_anything : (ts : List Token) → Anything ts
is_anything [] = record { tree = last; derives = of_last; spells = refl }
is_anything (t ∷ ts) =
    let q = is_anything ts in
    record { tree = more (leaf t) q.tree; derives = of_more (of_token (is_in_all t.kind)) q.derives; spells = ap (λ w. t ∷ w) q.spells }

abbrev first_part : Tree Token → Tree Token
first_part (both d e) = d
first_part d = d

abbrev behind_it : Tree Token → List Token
behind_it (both d e) = tokens e
behind_it d = []

module _ {part : Rule} {ts rest : List Token} {d : Tree Token} (root : IsRoot grammar (part ⨾ anything)) (p : Opens part d rest ts) where
  never_both : BreaksOff part ts → ⊥
  never_both b = b.faulty.refusal (both d e.tree) (of_then p.derives e.derives) (subst (λ w. Begins b.faulty.before b.rest w) (sym whole) (begins_self b.faulty.before b.rest b.rest (same_refl b.rest)))
    where
      e : Anything rest
      e = is_anything rest

      whole : tokens (both d e.tree) ≡ b.faulty.before ++ b.rest
      whole = ap (λ w. tokens d ++ w) e.spells ∙ sym p.spells ∙ b.faulty.is

  one_part : {d' : Tree Token} {rest' : List Token} → Opens part d' rest' ts → (d ≡ d') × (rest ≡ rest')
  one_part {d'} {rest'} q =
      let e = is_anything rest in
      let e' = is_anything rest' in
      let same = is_unambiguous grammar (part ⨾ anything) is_ll1 root (both d e.tree) (both d' e'.tree) (of_then p.derives e.derives) (of_then q.derives e'.derives)
      (ap (λ w. tokens d ++ w) e.spells ∙ sym p.spells ∙ q.spells ∙ sym (ap (λ w. tokens d' ++ w) e'.spells)) in
      (ap first_part same, sym e.spells ∙ ap behind_it same ∙ e'.spells)

one_imported : {ts : List Token} {xs ys : List Ident} → Imported ts xs → Imported ts ys → xs ≡ ys
one_imported (no_import b) (no_import c) = refl
one_imported (no_import b) (an_import q k) = absurd (never_both imported_is_root q b)
one_imported (an_import p h) (no_import c) = absurd (never_both imported_is_root p c)
one_imported (an_import p h) (an_import {modules = ys} q k) =
    let same = one_part imported_is_root p q in
    let rest = one_imported h (subst (λ w. Imported w ys) (sym same.1) k) in
    (λ i. modules_of (import_of (same.0 i)) ++ rest i)

one_behind : {ts : List Token} {xs ys : List Ident} → ImportedBehind ts xs → ImportedBehind ts ys → xs ≡ ys
one_behind (no_semicolon b) (no_semicolon c) = refl
one_behind (no_semicolon b) (semicolon q k) = absurd (never_both semicolon_is_root q b)
one_behind (semicolon p h) (no_semicolon c) = absurd (never_both semicolon_is_root p c)
one_behind (semicolon p h) (semicolon {modules = ys} q k) =
    let same = one_part semicolon_is_root p q in one_imported h (subst (λ w. Imported w ys) (sym same.1) k)

pub one_front : (definition : Bool) (ts : List Token) (f g : Front) → IsFront definition ts f → IsFront definition ts g → f ≡ g
one_front definition ts f g (nameless b) (nameless c) = refl
one_front definition ts f g (nameless b) (named q k) = absurd (never_both (head_is_root definition) q b)
one_front definition ts f g (named p h) (nameless c) = absurd (never_both (head_is_root definition) p c)
one_front definition ts f g (named p h) (named {modules = ys} q k) =
    let same = one_part (head_is_root definition) p q in
    let rest = one_behind h (subst (λ w. ImportedBehind w ys) (sym same.1) k) in
    (λ i. record { name = Some (head_of definition (same.0 i)).1; implementation = (head_of definition (same.0 i)).0; imports = rest i })
