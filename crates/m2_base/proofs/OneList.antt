-- A text has one list of tokens, and brings one list of names.
use Rattle.std.proofs.Common.{◌≡◌, ℕ, List, [], ◌∷◌, Some, refl, sym, ◌∙◌, ap, subst}
use Rattle.std.specs.List.{AllZip}
use Rattle.m2_base.specs.Meanings.{Meaning, blank, name, number, character, string, fixed, bad, meaning_of}
use Rattle.m2_base.specs.Names.{with_names}
use Rattle.m2_base.specs.Tokens.{AreTokens, IsToken, Means, Placed, placed, names_in}
use Rattle.m2_base.specs.declared.token.Token.{Token}
use Rattle.m2_base.proofs.OneReading.{one_list_of_lexemes}

some_of : {A : Type 0} (x y : A) → Some x ≡ Some y → x ≡ y
some_of x y e = cc

-- a meaning determines the kind and the value
same_saying : (names : List (List ℕ)) (meaning : Meaning) (this that : Token) → Means names meaning this → Means names meaning that → (this.kind ≡ that.kind) × (this.value ≡ that.value)
same_saying names blank this that p q = absurd p
same_saying names (name text) this that p q = (p.0 ∙ sym q.0, some_of this.value that.value (sym p.1 ∙ q.1))
same_saying names (number value) this that p q = (p.0 ∙ sym q.0, p.1 ∙ sym q.1)
same_saying names (character value) this that p q = (p.0 ∙ sym q.0, p.1 ∙ sym q.1)
same_saying names (string bytes) this that p q = (p.0 ∙ sym q.0, some_of this.value that.value (sym p.1 ∙ q.1))
same_saying names (fixed kind) this that p q = (p.0 ∙ sym q.0, p.1 ∙ sym q.1)
same_saying names (bad code) this that p q = (p.0 ∙ sym q.0, p.1 ∙ sym q.1)

-- a lexeme at its place is one token
same_token : (names : List (List ℕ)) (place : Placed) (this that : Token) → IsToken names place this → IsToken names place that → this ≡ that
same_token names place this that p q =
    let says = same_saying names (meaning_of place.lexeme) this that p.means q.means in
    let kind = says.0 in
    let value = says.1 in
    let at : this.at ≡ that.at = p.at ∙ sym q.at in
    let line : this.line ≡ that.line = p.line ∙ sym q.line in
    let column : this.column ≡ that.column = p.column ∙ sym q.column in
    (λ i. record { kind = kind i; value = value i; at = at i; line = line i; column = column i })

same_tokens : (names : List (List ℕ)) (places : List Placed) (these those : List Token) → AllZip (IsToken names) places these → AllZip (IsToken names) places those → these ≡ those
same_tokens names [] [] [] p q = refl
same_tokens names [] [] (y ∷ those) p q = absurd q
same_tokens names [] (x ∷ these) those p q = absurd p
same_tokens names (place ∷ places) [] those p q = absurd p
same_tokens names (place ∷ places) (x ∷ these) [] p q = absurd q
same_tokens names (place ∷ places) (x ∷ these) (y ∷ those) p q =
    let first : x ≡ y = same_token names place x y p.0 q.0 in
    let rest : these ≡ those = same_tokens names places these those p.1 q.1 in
    cc

pub one_list_of_names : (old new new' : List (List ℕ)) (text : List ℕ) (these those : List Token) → AreTokens old new text these → AreTokens old new' text those → new ≡ new'
one_list_of_names old new new' text these those p q =
    p.names ∙ ap (λ lexemes. with_names old (names_in lexemes)) (one_list_of_lexemes text p.lexemes q.lexemes p.split q.split) ∙ sym q.names

pub one_list_of_tokens : (old new new' : List (List ℕ)) (text : List ℕ) (these those : List Token) → AreTokens old new text these → AreTokens old new' text those → these ≡ those
one_list_of_tokens old new new' text these those p q =
    let lexemes = one_list_of_lexemes text p.lexemes q.lexemes p.split q.split in
    let names = one_list_of_names old new new' text these those p q in
    let renamed : AllZip (IsToken new) (placed q.lexemes) those = subst (λ n. AllZip (IsToken n) (placed q.lexemes) those) (sym names) q.each in
    let as_these : AllZip (IsToken new) (placed p.lexemes) those = subst (λ l. AllZip (IsToken new) (placed l) those) (sym lexemes) renamed in
    same_tokens new (placed p.lexemes) these those p.each as_these
