-- Reading again and again, as a loop of code does.
--
-- Such a loop goes `for _ in 0..count` over the rest of the tokens. Its invariant is `RepeatSoFar` or `SeparatedSoFar`
-- of what it has, its counter, the rest and what the whole reads; each goal of the loop is one of the lemmas below.
use Rattle.std.proofs.Common.{◌≡◌, ℕ, suc, ◌-◌, ◌+◌, ◌≤◌, ◌<◌, Bool, true, false, List, [], ◌++◌, length, Result, Ok, Err, Option, Some, None, refl, sym, ap, ◌∙◌, append_assoc, arith}
use Rattle.std.proofs.lemmas.List.{append-nil}
use Rattle.ll_grammar.specs.Readers.{◌>>=◌, Ends, Reader, skip, repeat, separated, listed}

-- what was read before, and what is still read
abbrev pub with_front : {T F Y : Type 0} → List Y → Result (List Y × List T) F → Result (List Y × List T) F
with_front front read = read >>= λ ys. Ok (front ++ ys.0, ys.1)

module _ {T F Y : Type 0} where
  no_front : (read : Result (List Y × List T) F) → with_front [] read ≡ read
  no_front (Ok x) = refl
  no_front (Err f) = refl

  regroup : (front part : List Y) (read : Result (List Y × List T) F)
      → with_front front (read >>= λ ys. Ok (part ++ ys.0, ys.1)) ≡ with_front (front ++ part) read
  regroup front part (Ok x) = ap (λ (ys : List Y). Ok (ys, x.1)) (simp append_assoc)
  regroup front part (Err f) = refl

  no_more : (front : List Y) (ts : List T) → with_front {F = F} front (Ok ([], ts)) ≡ Ok (front, ts)
  no_more front ts = ap (λ (ys : List Y). Ok (ys, ts)) (append-nil front)

-- A loop that reads { item }: `front` is what it has, i of `count` rounds are behind it, ts is still to be read, and `total` is what the whole reads.
pub record RepeatSoFar {T F X Y : Type 0} (begins : List T → Bool) (item : Reader T F X) (parts : X → List Y) (front : List Y)
    (count i : ℕ) (ts : List T) (total : Result (List Y × List T) F) : Type 0 where
  pub so_far : with_front front (repeat begins item parts (count - i) ts) ≡ total

module _ {T F X Y : Type 0} {begins : List T → Bool} {item : Reader T F X} {parts : X → List Y} where
  -- before the first round
  pub repeat_starts : {front : List Y} {count : ℕ} {ts : List T} {total : Result (List Y × List T) F} → front ≡ []
      → total ≡ repeat begins item parts count ts → RepeatSoFar begins item parts front count 0 ts total
  repeat_starts {count = count} {ts = ts} none h =
      let e : count - 0 ≡ count = omega arith in record { so_far = rw (none, e, h) (no_front (repeat begins item parts count ts)) }

  -- an item was read
  pub repeat_goes_on : {front new : List Y} {count i : ℕ} {ts after : List T} {total : Result (List Y × List T) F} {x : X} {b : Bool}
      → RepeatSoFar begins item parts front count i ts total → i < count → b ≡ true → b ≡ begins ts → item ts ≡ Ok (x, after) → new ≡ front ++ parts x → RepeatSoFar begins item parts new count (i + 1) after total
  unfolding repeat
  repeat_goes_on {front = front} {count = count} {i = i} {ts = ts} {after = after} {x = x} s lt b h k new =
      let e : count - i ≡ suc (count - (i + 1)) = omega arith in
      let same : with_front front (repeat begins item parts (count - i) ts) ≡ with_front (front ++ parts x) (repeat begins item parts (count - (i + 1)) after) = rw (e, ← h, b, k) (regroup front (parts x) (repeat begins item parts (count - (i + 1)) after)) in
      record { so_far = rw new (sym same ∙ s.so_far) }

  -- an item is at fault, or memory is out
  pub repeat_ends : {front : List Y} {count i : ℕ} {ts : List T} {total : Result (List Y × List T) F} {b : Bool} (f : Option F)
      → RepeatSoFar begins item parts front count i ts total → i < count → b ≡ true → b ≡ begins ts → Ends f (item ts) → Ends f total
  unfolding repeat
  repeat_ends None s lt b h k = tt
  repeat_ends {front = front} {count = count} {i = i} {ts = ts} (Some f) s lt b h k =
      let e : count - i ≡ suc (count - (i + 1)) = omega arith in
      let same : with_front front (repeat begins item parts (count - i) ts) ≡ Err f = rw (e, ← h, b, k) refl in
      sym s.so_far ∙ same

  -- no item begins
  pub repeat_stops : {front : List Y} {count i : ℕ} {ts : List T} {total : Result (List Y × List T) F} {b : Bool}
      → RepeatSoFar begins item parts front count i ts total → i < count → b ≡ false → b ≡ begins ts → total ≡ Ok (front, ts)
  unfolding repeat
  repeat_stops {front = front} {count = count} {i = i} {ts = ts} s lt b h =
      let e : count - i ≡ suc (count - (i + 1)) = omega arith in
      let same : with_front front (repeat begins item parts (count - i) ts) ≡ Ok (front, ts) = rw (e, ← h, b) (no_more front ts) in
      sym s.so_far ∙ same

  -- each round was gone
  pub repeat_is_done : {front : List Y} {count i : ℕ} {ts : List T} {total : Result (List Y × List T) F}
      → RepeatSoFar begins item parts front count i ts total → count ≤ i → total ≡ Ok (front, ts)
  unfolding repeat
  repeat_is_done {front = front} {count = count} {i = i} {ts = ts} s le =
      let e : count - i ≡ 0 = omega arith in
      let same : with_front front (repeat begins item parts (count - i) ts) ≡ Ok (front, ts) = rw e (no_more front ts) in
      sym s.so_far ∙ same

-- The same of a loop that reads { k item }.
pub record SeparatedSoFar {T F X Y : Type 0} (kind : T → ℕ) (k : ℕ) (item : Reader T F X) (parts : X → List Y) (front : List Y)
    (count i : ℕ) (ts : List T) (total : Result (List Y × List T) F) : Type 0 where
  pub so_far : with_front front (separated kind k item parts (count - i) ts) ≡ total

module _ {T F X Y : Type 0} {kind : T → ℕ} {k : ℕ} {item : Reader T F X} {parts : X → List Y} where
  pub separated_starts : {front : List Y} {count : ℕ} {ts : List T} {total : Result (List Y × List T) F} → front ≡ []
      → total ≡ separated kind k item parts count ts → SeparatedSoFar kind k item parts front count 0 ts total
  separated_starts {count = count} {ts = ts} none h =
      let e : count - 0 ≡ count = omega arith in record { so_far = rw (none, e, h) (no_front (separated kind k item parts count ts)) }

  -- before the first round of a loop that reads item { k item }, behind the first item
  pub listed_starts : {front : List Y} {rest : List T} {x : X} (ts : List T) → item ts ≡ Ok (x, rest) → front ≡ parts x
      → SeparatedSoFar kind k item parts front (length rest) 0 rest (listed kind k item parts ts)
  listed_starts {front = front} {rest = rest} {x = x} ts h first =
      let e : length rest - 0 ≡ length rest = omega arith in record { so_far = rw (e, h, first) refl }

  pub separated_goes_on : {front new : List Y} {count i : ℕ} {ts part after : List T} {total : Result (List Y × List T) F} {x : X}
      → SeparatedSoFar kind k item parts front count i ts total → i < count → Some part ≡ skip kind k ts → item part ≡ Ok (x, after) → new ≡ front ++ parts x → SeparatedSoFar kind k item parts new count (i + 1) after total
  unfolding separated
  separated_goes_on {front = front} {count = count} {i = i} {ts = ts} {after = after} {x = x} s lt h j new =
      let e : count - i ≡ suc (count - (i + 1)) = omega arith in
      let same : with_front front (separated kind k item parts (count - i) ts) ≡ with_front (front ++ parts x) (separated kind k item parts (count - (i + 1)) after) = rw (e, ← h, j) (regroup front (parts x) (separated kind k item parts (count - (i + 1)) after)) in
      record { so_far = rw new (sym same ∙ s.so_far) }

  pub separated_ends : {front : List Y} {count i : ℕ} {ts part : List T} {total : Result (List Y × List T) F} (f : Option F)
      → SeparatedSoFar kind k item parts front count i ts total → i < count → Some part ≡ skip kind k ts → Ends f (item part) → Ends f total
  unfolding separated
  separated_ends None s lt h j = tt
  separated_ends {front = front} {count = count} {i = i} {ts = ts} (Some f) s lt h j =
      let e : count - i ≡ suc (count - (i + 1)) = omega arith in
      let same : with_front front (separated kind k item parts (count - i) ts) ≡ Err f = rw (e, ← h, j) refl in
      sym s.so_far ∙ same

  pub separated_stops : {front : List Y} {count i : ℕ} {ts : List T} {total : Result (List Y × List T) F}
      → SeparatedSoFar kind k item parts front count i ts total → i < count → None ≡ skip kind k ts → total ≡ Ok (front, ts)
  unfolding separated
  separated_stops {front = front} {count = count} {i = i} {ts = ts} s lt h =
      let e : count - i ≡ suc (count - (i + 1)) = omega arith in
      let same : with_front front (separated kind k item parts (count - i) ts) ≡ Ok (front, ts) = rw (e, ← h) (no_more front ts) in
      sym s.so_far ∙ same

  pub separated_is_done : {front : List Y} {count i : ℕ} {ts : List T} {total : Result (List Y × List T) F}
      → SeparatedSoFar kind k item parts front count i ts total → count ≤ i → total ≡ Ok (front, ts)
  unfolding separated
  separated_is_done {front = front} {count = count} {i = i} {ts = ts} s le =
      let e : count - i ≡ 0 = omega arith in
      let same : with_front front (separated kind k item parts (count - i) ts) ≡ Ok (front, ts) = rw e (no_more front ts) in
      sym s.so_far ∙ same
