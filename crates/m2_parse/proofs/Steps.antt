-- The steps of reading: the one that fails, those before it, and the error that is handed on.
use Rattle.std.proofs.Common.{◌≡◌, Bool, true, false, List, Result, Ok, Err, Option, Some, None, ap, sym, subst, ◌∙◌}
use Rattle.std.proofs.lemmas.Bool.{false≢true}
use Rattle.std.specs.Prelude.{IsErrAnd, if◌then◌else◌}
use Rattle.ll_grammar.specs.Readers.{◌>>=◌, Ends}
use Rattle.m2_base.specs.declared.kind.TokenKind.{TokenKind}
use Rattle.m2_base.specs.declared.token.Token.{Token}
use Rattle.m2_parse.specs.declared.faults.ReadFault.{ReadFault}
use Rattle.m2_parse.specs.declared.faults.Refusal.{Refusal}
use Rattle.m2_parse.specs.Reading.{cause, expect, until, Gives}

-- the first step fails
pub fails : {A B F : Type 0} (read : Result A F) (k : A → Result B F) (o : Option F) → Ends o read → Ends o (read >>= k)
fails read k None h = tt
fails read k (Some f) h = ap (λ r. r >>= k) h

-- the first step gives x, and what is behind it fails
pub fails_behind : {A B F : Type 0} (read : Result A F) (k : A → Result B F) (o : Option F) {x : A} → read ≡ Ok x → Ends o (k x) → Ends o (read >>= k)
fails_behind read k o h j = subst (λ r. Ends o (r >>= k)) (sym h) j

-- the first step gives x, and what is behind it gives y
pub gives_behind : {A B F : Type 0} (read : Result A F) (k : A → Result B F) {x : A} {y : Result B F} → read ≡ Ok x → k x ≡ y → (read >>= k) ≡ y
gives_behind read k h j = ap (λ r. r >>= k) h ∙ j

-- a last step fails, whatever is made of it
last_fails : {A B C F : Type 0} (read : Result A F) (made : A → C) (k : A → Result B F) (o : Option F) → Ends o (read >>= λ a. Ok (made a)) → Ends o (read >>= k)
last_fails read made k None h = tt
last_fails (Ok a) made k (Some f) h = cc
last_fails (Err e) made k (Some f) h = cc

-- two steps, of which one fails
pub two_fail : {A B C D F : Type 0} (first : Result A F) (second : A → Result B F) (made : A → B → C) (k : A → B → Result D F) (o : Option F)
    → Ends o (first >>= λ x. second x >>= λ y. Ok (made x y)) → Ends o (first >>= λ x. second x >>= λ y. k x y)
two_fail first second made k None h = tt
two_fail (Ok x) second made k (Some f) h = last_fails (second x) (made x) (k x) (Some f) h
two_fail (Err e) second made k (Some f) h = cc

last_gives : {A B C F : Type 0} (read : Result A F) (made : A → C) (k : A → Result B F) {c : C} {out : Result B F}
    → (read >>= λ a. Ok (made a)) ≡ Ok c → ((a : A) → made a ≡ c → k a ≡ out) → (read >>= k) ≡ out
last_gives (Ok a) made k h j = j a cc
last_gives (Err e) made k h j = cc

-- two steps that give c
pub two_give : {A B C D F : Type 0} (first : Result A F) (second : A → Result B F) (made : A → B → C) (k : A → B → Result D F) {c : C} {out : Result D F}
    → (first >>= λ x. second x >>= λ y. Ok (made x y)) ≡ Ok c → ((x : A) (y : B) → made x y ≡ c → k x y ≡ out)
    → (first >>= λ x. second x >>= λ y. k x y) ≡ out
two_give (Ok x) second made k h j = last_gives (second x) (made x) (k x) h (j x)
two_give (Err e) second made k h j = cc

module _ {X Y : Type 0} (kind : TokenKind) (read : Result (X × List Token) Refusal) (k : X × List Token → Token × List Token → Result Y Refusal) where
  -- what is read up to a token fails
  pub until_fails : (o : Option Refusal) → Ends o (until kind read) → Ends o (read >>= λ x. expect kind x.1 >>= λ e. k x e)
  unfolding until
  until_fails o h = two_fail read (λ x. expect kind x.1) (λ x e. (x.0, e.1)) k o h

  -- what is read up to a token gives x
  pub until_gives : {x : X × List Token} {out : Result Y Refusal} → until kind read ≡ Ok x
      → ((mid : List Token) (t : Token) → k (x.0, mid) (t, x.1) ≡ out) → (read >>= λ x. expect kind x.1 >>= λ e. k x e) ≡ out
  unfolding until
  until_gives h j =
      two_give read (λ x. expect kind x.1) (λ x e. (x.0, e.1)) k h (λ x e is. ap (λ p. k (p.0, x.1) (e.0, p.1)) is ∙ j x.1 e.0)

  -- what is read up to a token gives x, and what is behind it fails
  pub until_behind : (o : Option Refusal) {x : X × List Token} → until kind read ≡ Ok x
      → ((mid : List Token) (t : Token) → Ends o (k (x.0, mid) (t, x.1))) → Ends o (read >>= λ x. expect kind x.1 >>= λ e. k x e)
  until_behind None h j = tt
  until_behind (Some f) h j = until_gives h j

-- What was read, seen otherwise.
pub seen_as : {X F : Type 0} {read : Result (X × List Token) F} {x y : X} {rest : List Token} → read ≡ Ok (x, rest) → y ≡ x → read ≡ Ok (y, rest)
seen_as {rest = rest} h is = h ∙ ap (λ z. Ok (z, rest)) (sym is)

-- An error that is handed on.
pub handed_on : {X Y : Type 0} (view : X → Y) (e : ReadFault) (read : Result Y Refusal) (r : Result X ReadFault) → IsErrAnd r (λ f. f ≡ e)
    → Ends (cause e) read → Gives view r read
handed_on view e read (Ok x) h j = absurd h
handed_on view e read (Err f) h j = subst (λ g. Ends (cause g) read) (sym h) j

-- The first step gives a, and the rest is what code returned.
pub goes_on : {X Y A : Type 0} (view : X → Y) (r : Result X ReadFault) (first : Result A Refusal) (k : A → Result Y Refusal) {a : A} → first ≡ Ok a
    → Gives view r (k a) → Gives view r (first >>= k)
goes_on view r first k is h = subst (λ f. Gives view r (f >>= k)) (sym is) h

-- The same, where the first step is taken.
pub where_taken : {X Y A : Type 0} {b : Bool} (view : X → Y) (r : Result X ReadFault) (first : Result A Refusal) (k : A → Result Y Refusal) (other : Result Y Refusal)
    {a : A} → b ≡ true → first ≡ Ok a → Gives view r (k a) → Gives view r (if b then (first >>= k) else other)
where_taken {b = true} view r first k other h is p = goes_on view r first k is p
where_taken {b = false} view r first k other h is p = absurd (false≢true h)

-- What was read, and then given as it is.
pub as_read : {X Y : Type 0} (view : X → Y × List Token) (r : Result X ReadFault) (read : Result (Y × List Token) Refusal) → Gives view r read
    → Gives view r (read >>= λ x. Ok (x.0, x.1))
as_read view r (Ok x) h = h
as_read view r (Err e) h = h
