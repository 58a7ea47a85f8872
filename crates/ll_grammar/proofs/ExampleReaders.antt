-- Readers of the small language, and that they read what its grammar says.
use Rattle.std.proofs.Common.{◌≡◌, ℕ, zero, suc, Bool, List, [], ◌∷◌, ◌++◌, Result, Ok, Err, refl, sym, ap, ◌∙◌, length}
use Rattle.std.specs.Prelude.{if◌then◌else◌}
use Rattle.ll_grammar.specs.Grammar.{Rule, token, many, optional}
use Rattle.ll_grammar.specs.Derivations.{Tree, leaf, both, left, right, more, inner, tokens}
use Rattle.ll_grammar.specs.Sentences.{Fault, Syntax, TooDeep}
use Rattle.ll_grammar.specs.Readers as readers
use Rattle.ll_grammar.specs.Readers.{◌>>=◌, separated, listed, repeat, all, itself}
use Rattle.ll_grammar.specs.Texts.{Spells, IsAnswer}
use Rattle.ll_grammar.proofs.Link.{Reads, Is, IsAt, seq, seq_at, final, either, no_part, deeper, at_limit, a_token, a_kind, next_starts, next_in_starts}
use Rattle.ll_grammar.proofs.Repetitions.{loop, list_read}
use Rattle.ll_grammar.proofs.Answering.{answers, is_read}
use Rattle.ll_grammar.proofs.Example.{Kind, Stop, Name, Number, Becomes, Semicolon, Open, Close, End, While, Do, number, Word, kind_of, word, grammar, is_ll1, factor, statement, statements, text, text_is_root}

-- a fault is told by its reason and the number of words that are left
abbrev Told : Type 0
Told = Fault × ℕ

abbrev tell : Fault → List Word → Told
tell f rest = (f, length rest)

abbrev Read : Type 0 → Type 0
Read X = readers.Reader Word Told X

abbrev next_is : Kind → List Word → Bool
next_is k ts = readers.next_is kind_of (number k) ts

abbrev expect : Kind → Read Word
expect k ts = readers.expect tell kind_of (number k) ts

abbrev begins_factor : List Word → Bool
begins_factor ts = readers.next_in kind_of (2 ∷ 5 ∷ []) ts

abbrev begins_statement : List Word → Bool
begins_statement ts = readers.next_in kind_of (1 ∷ 9 ∷ []) ts

-- the value of the next word, or 0 at the end
abbrev place : List Word → ℕ
place [] = 0
place (t ∷ ts) = t.value

-- What a derivation means: the numbers that it has; an empty statement has the place behind it.
abbrev pub factor_of : Tree Word → ℕ
factor_of (inner (left (leaf t))) = t.value
factor_of (inner (right (both p (both d q)))) = factor_of d
factor_of _ = 0

abbrev mutual
  pub statement_of : Tree Word → List Word → List ℕ
  statement_of (inner (left (both (leaf t) (both b d)))) rest = t.value ∷ factor_of d ∷ []
  statement_of (inner (right (both w (both d (both o (both s e)))))) rest = factor_of d ∷ statements_of s (tokens e ++ rest)
  statement_of _ rest = []

  pub optional_of : Tree Word → List Word → List ℕ
  optional_of (left d) rest = statement_of d rest
  optional_of _ rest = place rest ∷ []

  pub more_of : Tree Word → List Word → List ℕ
  more_of (more (both s d) ds) rest = optional_of d (tokens ds ++ rest) ++ more_of ds rest
  more_of _ rest = []

  pub statements_of : Tree Word → List Word → List ℕ
  statements_of (both d ds) rest = optional_of d (tokens ds ++ rest) ++ more_of ds rest
  statements_of _ rest = []

abbrev pub text_of : Tree Word → List Word → List ℕ
text_of (both d e) rest = statements_of d (tokens e ++ rest)
text_of _ rest = []

-- Factor = number | "(" Factor ")"
inner_factor : Read ℕ → Read ℕ
inner_factor deeper_factor ts =
    if next_is Number ts then (do
      t ← expect Number ts
      Ok (t.0.value, t.1)) else (do
        p ← expect Open ts
        d ← deeper_factor p.1
        q ← expect Close d.1
        Ok (d.0, q.1))

factor_at : ℕ → Read ℕ
factor_at zero ts = readers.at_depth tell (begins_factor ts) ts
factor_at (suc n) ts = inner_factor (factor_at n) ts

factor_read : (n : ℕ) (ts : List Word) → Reads grammar tell factor (Is factor_of) n ts (factor_at n ts)
unfolding factor_at inner_factor
factor_read zero ts = at_limit (begins_factor ts) (next_in_starts grammar (2 ∷ 5 ∷ []) ts)
factor_read (suc n) ts = deeper (
    either (next_is Number ts) (next_starts grammar 2 ts)
    (final (λ t. t.0.value) (a_kind 2 ts) (λ t d e. ap (λ z. factor_of (inner (left z))) e))
    (seq (a_kind 5 ts) (λ p dp ep.
    seq (factor_read n p.1) (λ x d h.
    final (λ q. x.0) (a_kind 6 x.1) (λ q dq eq. h)))))

-- [Statement] and Statements = [Statement] {";" [Statement]}
module _ (statement_reader : Read (List ℕ)) where
  optional_with : Read (List ℕ)
  optional_with ts = if begins_statement ts then (do
    s ← statement_reader ts
    Ok (s.0, s.1)) else Ok (place ts ∷ [], ts)

  statements_with : Read (List ℕ)
  statements_with ts = listed kind_of (number Semicolon) optional_with all ts

  module _ (n : ℕ)
      (statement_reads : (ts : List Word) → Reads grammar tell statement (IsAt statement_of) n ts (statement_reader ts)) where
    optional_read : (ts : List Word) → Reads grammar tell (optional statement) (IsAt optional_of) n ts (optional_with ts)
    unfolding optional_with
    optional_read ts =
        either (begins_statement ts) (next_in_starts grammar (1 ∷ 9 ∷ []) ts)
        (final (λ s. s.0) (statement_reads ts) (λ s d h. h))
        (no_part refl)

    statements_read : (ts : List Word) → Reads grammar tell statements (IsAt statements_of) n ts (statements_with ts)
    unfolding statements_with
    statements_read ts =
        list_read is_ll1 4 statements_of more_of all (λ w. refl) (λ s d ds w. refl) (λ d ds w. refl) optional_read ts

-- Statement = name ":=" Factor | WHILE Factor DO Statements END
inner_statement : ℕ → Read (List ℕ) → Read (List ℕ)
inner_statement n deeper_statement ts =
    if next_is Name ts then (do
      t ← expect Name ts
      b ← expect Becomes t.1
      d ← factor_at n b.1
      Ok (t.0.value ∷ d.0 ∷ [], d.1)) else (do
        w ← expect While ts
        d ← factor_at n w.1
        o ← expect Do d.1
        s ← statements_with deeper_statement o.1
        e ← expect End s.1
        Ok (d.0 ∷ s.0, e.1))

statement_at : ℕ → Read (List ℕ)
statement_at zero ts = readers.at_depth tell (begins_statement ts) ts
statement_at (suc n) ts = inner_statement n (statement_at n) ts

statement_read : (n : ℕ) (ts : List Word) → Reads grammar tell statement (IsAt statement_of) n ts (statement_at n ts)
unfolding statement_at inner_statement
statement_read zero ts = at_limit (begins_statement ts) (next_in_starts grammar (1 ∷ 9 ∷ []) ts)
statement_read (suc n) ts = deeper (
    either (next_is Name ts) (next_starts grammar 1 ts)
    (seq (a_kind 1 ts) (λ t dt et.
    seq (a_kind 3 t.1) (λ b db eb.
    final (λ d. t.0.value ∷ d.0 ∷ []) (factor_read n b.1) (λ d dd h.
    ap (λ z. statement_of (inner (left (both z (both db dd)))) d.1) et ∙ ap (λ v. t.0.value ∷ v ∷ []) h))))
    (seq (a_kind 9 ts) (λ w dw ew.
    seq (factor_read n w.1) (λ x dx h.
    seq (a_kind 10 x.1) (λ o od eo.
    seq_at (statements_read (statement_at n) n (statement_read n) o.1) (λ s ds k.
    final (λ e. x.0 ∷ s.0) (a_kind 8 s.1) (λ e de ee is.
    (λ i. h i ∷ (ap (statements_of ds) (sym is) ∙ k) i))))))))

-- Text = Statements stop
before_end : ℕ → Read (List ℕ)
before_end n ts = do
  s ← statements_with (statement_at n) ts
  e ← expect Stop s.1
  Ok (s.0, e.1)

text_read : (n : ℕ) (ts : List Word) → Reads grammar tell text (IsAt text_of) n ts (before_end n ts)
unfolding before_end
text_read n ts =
    seq_at (statements_read (statement_at n) n (statement_read n) ts) (λ s d h.
    final (λ e. s.0) (a_kind 0 s.1) (λ e de ee is. ap (statements_of d) (sym is) ∙ h))

text_at : ℕ → List Word → Result (List ℕ) Told
text_at n ts = readers.ended tell (before_end n ts)

-- what is read is spelled, and a fault is the first
text_answers : (n : ℕ) (ts : List Word) → IsAnswer grammar n text text_of tell ts (text_at n ts)
unfolding text_at
text_answers n ts = answers grammar is_ll1 text text_is_root tell text_of n ts (before_end n ts) (text_read n ts)

-- what is spelled is read
text_is_read : (n : ℕ) (ts : List Word) (xs : List ℕ) → Spells grammar n text text_of xs ts → text_at n ts ≡ Ok xs
unfolding text_at
text_is_read n ts xs s = is_read grammar is_ll1 text text_is_root tell text_of n ts xs s (before_end n ts) (text_read n ts)

-- a word of this kind and value
abbrev valued : Kind → ℕ → Word
valued k v = record { kind = k; value = v }

-- name := ( 5 ) ; ; WHILE 6 DO END: the two empty statements have the places of ";" and END
reads_text : text_at 3 (valued Name 9 ∷ word Becomes ∷ word Open ∷ valued Number 5 ∷ word Close ∷ word Semicolon ∷ valued Semicolon 7 ∷ word While ∷ valued Number 6 ∷ word Do ∷ valued End 4 ∷ word Stop ∷ [])
    ≡ Ok (9 ∷ 5 ∷ 7 ∷ 6 ∷ 4 ∷ [])
unfolding text_at before_end statements_with optional_with statement_at inner_statement factor_at inner_factor separated
reads_text = refl

-- name := ( 5 ) ;: where two levels are left the number is too deep, the fourth word from the end
too_deep_text : text_at 2 (valued Name 9 ∷ word Becomes ∷ word Open ∷ valued Number 5 ∷ word Close ∷ word Semicolon ∷ word Stop ∷ []) ≡ Err (TooDeep, 4)
unfolding text_at before_end statements_with optional_with statement_at inner_statement factor_at inner_factor separated
too_deep_text = refl

-- name := name: a name is no factor
spoilt_text : text_at 3 (valued Name 9 ∷ word Becomes ∷ valued Name 9 ∷ word Stop ∷ []) ≡ Err (Syntax, 2)
unfolding text_at before_end statements_with optional_with statement_at inner_statement factor_at inner_factor separated
spoilt_text = refl

-- Atoms = {name | number}, a repetition with no separator
abbrev atom : Rule
atom = token (1 ∷ 2 ∷ [])

abbrev atom_of : Tree Word → ℕ
atom_of (leaf t) = t.value
atom_of _ = 0

abbrev atoms_of : Tree Word → List Word → List ℕ
atoms_of (more d ds) rest = atom_of d ∷ atoms_of ds rest
atoms_of _ rest = []

atom_at : Read ℕ
atom_at ts = readers.expect_in tell kind_of (1 ∷ 2 ∷ []) ts >>= λ t. Ok (t.0.value, t.1)

atom_read : (n : ℕ) (ts : List Word) → Reads grammar tell atom (Is atom_of) n ts (atom_at ts)
unfolding atom_at
atom_read n ts = final (λ t. t.0.value) (a_token (1 ∷ 2 ∷ []) ts) (λ t d e. ap atom_of e)

atoms_read : (n : ℕ) (ts : List Word)
    → Reads grammar tell (many atom) (IsAt atoms_of) n ts (repeat (readers.next_in kind_of (1 ∷ 2 ∷ [])) atom_at itself (length ts) ts)
atoms_read n ts =
    loop is_ll1 atoms_of itself refl (next_in_starts grammar (1 ∷ 2 ∷ [])) (λ w. refl) (λ d ds w h. refl) (atom_read n) ts
