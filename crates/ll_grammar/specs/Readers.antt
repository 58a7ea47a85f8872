-- Reading by descent, as functions: a value and the tokens behind it, or the fault.
use Rattle.std.specs.Prelude.{◌≡◌, ℕ, zero, suc, Bool, false, List, [], ◌∷◌, ◌++◌, Result, Ok, Err, Option, Some, None}
use Rattle.std.specs.Prelude.{if◌then◌else◌, ◌==◌, length}
use Rattle.ll_grammar.specs.LookAhead.{member}
use Rattle.ll_grammar.specs.Sentences.{Fault, Syntax, TooDeep}

-- A reader of tokens of the type T gives a value of the type X, and its faults are of the type F.
abbrev pub Reader : Type 0 → Type 0 → Type 0 → Type 0
Reader T F X = List T → Result (X × List T) F

-- one step, and then another unless the first is at fault
infixl 10 ◌>>=◌
abbrev pub ◌>>=◌ : {A B F : Type 0} → Result A F → (A → Result B F) → Result B F
(Ok x) >>= step = step x
(Err e) >>= step = Err e

module _ {T : Type 0} (kind : T → ℕ) where
  -- the next token is of this kind
  abbrev pub next_is : ℕ → List T → Bool
  next_is k [] = false
  next_is k (t ∷ ts) = kind t == k

  -- the next token is of one of these kinds
  abbrev pub next_in : List ℕ → List T → Bool
  next_in ks [] = false
  next_in ks (t ∷ ts) = member (kind t) ks

  -- what stands behind a token of this kind, where one stands there
  abbrev pub skip : ℕ → List T → Option (List T)
  skip k [] = None
  skip k (t ∷ ts) = if kind t == k then Some ts else None

-- goes on behind what was skipped
abbrev pub behind : {T X F : Type 0} → Option (List T) → (List T → Result X F) → Result X F → Result X F
behind None go stop = stop
behind (Some after) go stop = go after

-- What a reader says of a fault, by its reason and the list that begins with the refused token.
module _ {T F : Type 0} (tell : Fault → List T → F) where
  -- no token of a counted rule may stand here: too deep where one would begin
  abbrev pub at_depth : {X : Type 0} → Bool → Reader T F X
  at_depth begins ts = if begins then Err (tell TooDeep ts) else Err (tell Syntax ts)

  -- nothing may stand behind the whole
  abbrev pub whole : {X : Type 0} → X → List T → Result X F
  whole x [] = Ok x
  whole x (t ∷ ts) = Err (tell Syntax (t ∷ ts))

  -- what was read, where nothing stands behind it
  abbrev pub ended : {X : Type 0} → Result (X × List T) F → Result X F
  ended o = o >>= λ x. whole x.0 x.1

  module _ (kind : T → ℕ) where
    -- a token of this kind
    abbrev pub expect : ℕ → Reader T F T
    expect k [] = Err (tell Syntax [])
    expect k (t ∷ ts) = if kind t == k then Ok (t, ts) else Err (tell Syntax (t ∷ ts))

    -- a token of one of these kinds
    abbrev pub expect_in : List ℕ → Reader T F T
    expect_in ks [] = Err (tell Syntax [])
    expect_in ks (t ∷ ts) = if member (kind t) ks then Ok (t, ts) else Err (tell Syntax (t ∷ ts))

module _ {T F X Y : Type 0} where
  -- an item as long as one begins, at most n of them: { item }; `parts` is what an item adds to the list
  unfoldable pub repeat : (List T → Bool) → Reader T F X → (X → List Y) → ℕ → Reader T F (List Y)
  repeat begins item parts zero ts = Ok ([], ts)
  repeat begins item parts (suc n) ts =
      if begins ts then (item ts >>= λ x. repeat begins item parts n x.1 >>= λ ys. Ok (parts x.0 ++ ys.0, ys.1))
      else Ok ([], ts)

  -- an item behind each token of kind k, at most n of them: { k item }
  unfoldable pub separated : (T → ℕ) → ℕ → Reader T F X → (X → List Y) → ℕ → Reader T F (List Y)
  separated kind k item parts zero ts = Ok ([], ts)
  separated kind k item parts (suc n) ts =
      behind (skip kind k ts) (λ after. item after >>= λ x. separated kind k item parts n x.1 >>= λ ys.
      Ok (parts x.0 ++ ys.0, ys.1)) (Ok ([], ts))

  -- an item, and another behind each token of kind k: item { k item }
  abbrev pub listed : (T → ℕ) → ℕ → Reader T F X → (X → List Y) → Reader T F (List Y)
  listed kind k item parts ts = item ts >>= λ x. separated kind k item parts (length x.1) x.1 >>= λ ys.
      Ok (parts x.0 ++ ys.0, ys.1)

-- an item adds itself
abbrev pub itself : {X : Type 0} → X → List X
itself x = x ∷ []

-- an item that is a list adds its elements
abbrev pub all : {X : Type 0} → List X → List X
all xs = xs

-- Code that reads may also run out of memory: `cause` is the fault that an error tells of,
-- and None where memory is out.
abbrev pub Ends : {F Y : Type 0} → Option F → Result Y F → Type 0
Ends None read = Unit {0}
Ends (Some f) read = read ≡ Err f

module _ {E F : Type 0} (cause : E → Option F) where
  -- the error is the reader's fault, or memory is out
  abbrev pub Fails : {Y : Type 0} → E → Result Y F → Type 0
  Fails e read = Ends (cause e) read

  -- what code returned, seen by `view`, is what reading gives, unless memory is out
  abbrev pub Gives : {X Y : Type 0} → (X → Y) → Result X E → Result Y F → Type 0
  Gives view (Ok x) read = read ≡ Ok (view x)
  Gives view (Err e) read = Fails e read
