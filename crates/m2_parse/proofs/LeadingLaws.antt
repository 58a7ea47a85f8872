-- What stands from the first string, cut or fault on has no part in a front.
use Rattle.std.proofs.Common.{◌≡◌, ℕ, Bool, true, false, List, [], ◌∷◌, ◌++◌, Result, Ok, Err, IfOk, map, refl, sym, ap, ◌∙◌, subst, true≢false, append_assoc, cond, suc, ◌≤◌, length, take, arith}
use Rattle.std.specs.Prelude.{◌&&◌, ◌||◌, ◌==◌, ◌^◌, nat_lt}
use Rattle.ll_grammar.specs.Grammar.{Rule, empty, token, then, or, many, deep, sub, ◌⨾◌}
use Rattle.ll_grammar.specs.Derivations.{Tree, both, tokens, Derives, of_empty, of_token, of_then, of_left, of_right, of_last, of_more, of_deep, of_sub}
use Rattle.ll_grammar.specs.LookAhead.{member, disjoint}
use Rattle.ll_grammar.specs.Sentences.{Begins}
use Rattle.ll_grammar.proofs.KindSets.{and_l, and_r, disjoint_not}
use Rattle.m2_base.specs.declared.kind.TokenKind.TheVariants.{Identifier, String, Bad, Cut}
use Rattle.m2_base.specs.declared.token.Token.{Token}
use Rattle.m2_base.specs.declared.trees.Ident.{Ident}
use Rattle.m2_base.specs.Fronts.{Front, anything, Opens, BreaksOff, Imported, no_import, an_import, ImportedBehind, no_semicolon, semicolon, IsFront, nameless, named}
use Rattle.m2_base.specs.Grammar.{grammar}
use Rattle.m2_base.specs.KindNumbers.{kind_number}
use Rattle.m2_parse.specs.Fitting.{fits, all_fit, name_fits, names_fit}
use Rattle.m2_parse.specs.Leading.{outside, is_outside, leading, leading_count}
use Rattle.m2_parse.specs.declared.heads.Front as code
use Rattle.m2_parse.specs.FrontViews.{front_view}
use Rattle.m2_parse.proofs.FrontLaws.{is_anything}

-- The list is empty or begins with a token that no front has.
abbrev Outside : List Token → Type 0
Outside [] = Unit {0}
Outside (t ∷ ts) = is_outside t ≡ true

-- No token is one of them.
abbrev Lacks : List Token → Type 0
Lacks [] = Unit {0}
Lacks (t ∷ ts) = (is_outside t ≡ false) × Lacks ts

lacks_both : (xs ys : List Token) → Lacks xs → Lacks ys → Lacks (xs ++ ys)
lacks_both [] ys h k = k
lacks_both (x ∷ xs) ys h k = (h.0, lacks_both xs ys h.1 k)

abbrev avoids : Rule → Bool
avoids empty = true
avoids (token ks) = disjoint ks (map kind_number outside)
avoids (then r s) = avoids r && avoids s
avoids (or r s) = avoids r && avoids s
avoids (many r) = avoids r
avoids (deep n) = false
avoids sub = false

not_outside : (ks : List ℕ) (t : Token) (b : Bool) → is_outside t ≡ b → disjoint ks (map kind_number outside) ≡ true
    → member (kind_number t.kind) ks ≡ true → is_outside t ≡ false
not_outside ks t true e h m = absurd (disjoint_not (kind_number t.kind) ks (map kind_number outside) h m e)
not_outside ks t false e h m = e

lacks : {r : Rule} {d : Tree Token} → Derives grammar r d → avoids r ≡ true → Lacks (tokens d)
lacks of_empty h = tt
lacks (of_token {ks = ks} {t = t} m) h = (not_outside ks t (is_outside t) refl h m, tt)
lacks (of_then {r = r} {s = s} p q) h = lacks_both _ _ (lacks p (and_l (avoids r) (avoids s) h)) (lacks q (and_r (avoids r) (avoids s) h))
lacks (of_left {r = r} {s = s} p) h = lacks p (and_l (avoids r) (avoids s) h)
lacks (of_right {r = r} {s = s} p) h = lacks p (and_r (avoids r) (avoids s) h)
lacks of_last h = tt
lacks (of_deep p) h = absurd (true≢false (sym h))
lacks (of_sub p) h = absurd (true≢false (sym h))
lacks (of_more p q) h = lacks_both _ _ (lacks p h) (lacks q h)

-- what follows the next token is not looked at
same_next : (u : List Token) (t : Token) (xs ys ts : List Token) → Begins u (t ∷ xs) ts → Begins u (t ∷ ys) ts
same_next [] t xs ys [] h = h
same_next [] t xs ys (z ∷ zs) h = h
same_next (a ∷ u) t xs ys [] h = h
same_next (a ∷ u) t xs ys (z ∷ zs) h = (h.0, same_next u t xs ys zs h.1)

-- a part that lacks the next token is whole before it
record Before (u xs : List Token) : Type 0 where
  behind : List Token
  is : u ≡ xs ++ behind

whole_before : (x : Token) (w : List Token) → is_outside x ≡ true → (u xs ys : List Token) → Lacks xs → Begins u (x ∷ w) (xs ++ ys) → Before u xs
whole_before x w out u [] ys l h = record { behind = u; is = refl }
whole_before x w out [] (y ∷ xs) ys l h = absurd (true≢false (sym out ∙ ap is_outside (sym h) ∙ l.0))
whole_before x w out (a ∷ u) (y ∷ xs) ys l h =
    let q = whole_before x w out u xs ys l.1 h.1 in record { behind = q.behind; is = (λ i. sym h.0 i ∷ q.is i) }

module _ (w : List Token) (out : Outside w) where
  opens_before : {part : Rule} {d : Tree Token} {rest ts : List Token} → Opens part d rest ts → Opens part d (rest ++ w) (ts ++ w)
  opens_before {d = d} {rest = rest} p = record { derives = p.derives; spells = ap (λ z. z ++ w) p.spells ∙ append_assoc (tokens d) rest w }

  no_sentence : (part : Rule) (v : List Token) → Outside v → avoids part ≡ true → (u rest : List Token)
      → ((d : Tree Token) → Derives grammar (part ⨾ anything) d → Begins u rest (tokens d) → ⊥)
      → (d : Tree Token) → Derives grammar (part ⨾ anything) d → Begins u (rest ++ v) (tokens d) → ⊥
  no_sentence part v o h u (t ∷ rest) refuses d k b = refuses d k (same_next u t (rest ++ v) rest (tokens d) b)
  no_sentence part [] o h u [] refuses d k b = refuses d k b
  no_sentence part (x ∷ v) o h u [] refuses _ (of_then {d = d} {e = e} p q) b =
      let s = whole_before x v o u (tokens d) (tokens e) (lacks p h) b in
      let f = is_anything s.behind in
      refuses (both d f.tree) (of_then p f.derives)
      (subst (λ z. Begins u [] z) (sym (ap (λ z. tokens d ++ z) f.spells ∙ sym s.is)) (whole_begins u))
    where
      whole_begins : (u : List Token) → Begins u [] u
      whole_begins [] = tt
      whole_begins (a ∷ u) = (refl, whole_begins u)

  breaks_before : {part : Rule} {ts : List Token} → avoids part ≡ true → BreaksOff part ts → BreaksOff part (ts ++ w)
  breaks_before {part} h b = record {
    rest = b.rest ++ w;
    faulty = record {
      before = b.faulty.before;
      is = ap (λ z. z ++ w) b.faulty.is ∙ append_assoc b.faulty.before b.rest w;
      beginning = b.faulty.beginning;
      refusal = no_sentence part w out h b.faulty.before b.rest b.faulty.refusal;
    };
  }

  imported_before : {ts : List Token} {modules : List Ident} → Imported ts modules → Imported (ts ++ w) modules
  imported_before (no_import b) = no_import (breaks_before refl b)
  imported_before (an_import p i) = an_import (opens_before p) (imported_before i)

  behind_before : {ts : List Token} {modules : List Ident} → ImportedBehind ts modules → ImportedBehind (ts ++ w) modules
  behind_before (no_semicolon b) = no_semicolon (breaks_before refl b)
  behind_before (semicolon p i) = semicolon (opens_before p) (imported_before i)

  front_before : (definition : Bool) {ts : List Token} {f : Front} → IsFront definition ts f → IsFront definition (ts ++ w) f
  front_before true (nameless b) = nameless (breaks_before refl b)
  front_before false (nameless b) = nameless (breaks_before refl b)
  front_before definition (named p i) = named (opens_before p) (behind_before i)

-- A list is what leads it and what stands behind that.
record Leads (ts : List Token) (front : List Token) : Type 0 where
  behind : List Token
  is : ts ≡ front ++ behind
  out : Outside behind

leads_on : (t : Token) (ts : List Token) (b : Bool) → is_outside t ≡ b → Leads ts (leading ts) → Leads (t ∷ ts) (cond b [] (t ∷ leading ts))
leads_on t ts true e q = record { behind = t ∷ ts; is = refl; out = e }
leads_on t ts false e q = record { behind = q.behind; is = ap (λ z. t ∷ z) q.is; out = q.out }

leads : (ts : List Token) → Leads ts (leading ts)
leads [] = record { behind = []; is = refl; out = tt }
leads (t ∷ ts) = leads_on t ts (is_outside t) refl (leads ts)

-- the front of what leads a list is the front of the list
front_of_leading : (definition : Bool) (ts : List Token) {f : Front} → IsFront definition (leading ts) f → IsFront definition ts f
front_of_leading definition ts {f} h = let q = leads ts in subst (λ z. IsFront definition z f) (sym q.is) (front_before q.behind q.out definition h)

-- where the names fit, all that leads fits
same_limit : (i s b c : Bool) (x y z : ℕ) → (s || (b || (c || false))) ≡ false → cond (i || (s || (c || false))) x (cond b y z) ≡ cond i x z
same_limit true s b c x y z h = refl
same_limit false true b c x y z h = absurd (true≢false h)
same_limit false false true c x y z h = absurd (true≢false h)
same_limit false false false true x y z h = absurd (true≢false h)
same_limit false false false false x y z h = refl

leading_on : (t : Token) (ts : List Token) (b : Bool) → is_outside t ≡ b → name_fits t ≡ true → all_fit (leading ts) ≡ true
    → all_fit (cond b [] (t ∷ leading ts)) ≡ true
leading_on t ts true e h k = refl
leading_on t ts false e h k =
    let n = kind_number t.kind in
    let same = same_limit (n == kind_number Identifier) (n == kind_number String) (n == kind_number Bad) (n == kind_number Cut) (2 ^ 32) 256 (2 ^ 64) e in
    (λ i. both_true (fits t) (all_fit (leading ts)) (ap (nat_lt t.value) same ∙ h) k i)
  where
    both_true : (a b : Bool) → a ≡ true → b ≡ true → (a && b) ≡ true
    both_true true true h k = refl
    both_true true false h k = k
    both_true false b h k = h

pub leading_fits : (ts : List Token) → names_fit ts ≡ true → all_fit (leading ts) ≡ true
leading_fits [] h = refl
leading_fits (t ∷ ts) h = leading_on t ts (is_outside t) refl (and_l (name_fits t) (names_fit ts) h) (leading_fits ts (and_r (name_fits t) (names_fit ts) h))

-- how many tokens lead
take_on : (t : Token) (ts : List Token) (b : Bool) → take (leading_count ts) ts ≡ leading ts
    → take (cond b 0 (suc (leading_count ts))) (t ∷ ts) ≡ cond b [] (t ∷ leading ts)
take_on t ts true h = refl
take_on t ts false h = ap (λ z. t ∷ z) h

pub take_leading : (ts : List Token) → take (leading_count ts) ts ≡ leading ts
take_leading [] = refl
take_leading (t ∷ ts) = take_on t ts (is_outside t) (take_leading ts)

count_on : (t : Token) (ts : List Token) (b : Bool) → leading_count ts ≤ length ts → cond b 0 (suc (leading_count ts)) ≤ length (t ∷ ts)
count_on t ts true h = omega (arith, h)
count_on t ts false h = omega (arith, h)

pub few_lead : (ts : List Token) → leading_count ts ≤ length ts
few_lead [] = omega arith
few_lead (t ∷ ts) = count_on t ts (is_outside t) (few_lead ts)

pub returns_front_of : {E : Type 0} (definition : Bool) (ts : List Token) (result : Result code.Front E)
    → IfOk result (λ f. IsFront definition (leading ts) (front_view f)) → IfOk result (λ f. IsFront definition ts (front_view f))
returns_front_of definition ts (Ok f) h = front_of_leading definition ts h
returns_front_of definition ts (Err e) h = tt
