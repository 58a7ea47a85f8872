-- A small language, on which the checks compute and the laws speak.
use Rattle.std.proofs.Common.{◌≡◌, ℕ, zero, suc, true, false, List, [], ◌∷◌, Some, map, refl}
use Rattle.ll_grammar.specs.Grammar.{Rule, or, many, deep, sub, Grammar, one, ◌⨾◌, optional, list}
use Rattle.ll_grammar.specs.Derivations.{Tree, nothing, leaf, both, left, right, last, more, inner, part, Derives, of_empty, of_token, of_then, of_left, of_right, of_last, of_more, of_deep, of_sub, over}
use Rattle.ll_grammar.specs.LookAhead.{clear, IsLL1, IsRoot, passes}
use Rattle.ll_grammar.specs.Sentences.{Fault, Sentence, Faulty}
use Rattle.ll_grammar.specs.Laws.{IsUnambiguous, IsDecided, HasOneFault}
use Rattle.ll_grammar.proofs.Decided.{is_unambiguous, is_decided, has_one_fault}

-- The kinds of word.
pub data Kind : Type 0 where
  Stop Name Number Becomes Semicolon Open Close Begin End While Do : Kind

abbrev pub kinds : List Kind
kinds = Stop ∷ Name ∷ Number ∷ Becomes ∷ Semicolon ∷ Open ∷ Close ∷ Begin ∷ End ∷ While ∷ Do ∷ []

abbrev pub number : Kind → ℕ
number Stop = 0
number Name = 1
number Number = 2
number Becomes = 3
number Semicolon = 4
number Open = 5
number Close = 6
number Begin = 7
number End = 8
number While = 9
number Do = 10

pub record Word : Type 0 where
  pub kind : Kind
  pub value : ℕ

abbrev pub kind_of : Word → ℕ
kind_of w = number w.kind

-- a word of this kind
abbrev pub a : Kind → Rule
a k = one (number k)

-- a factor and a statement lie one level deeper, a block does not
abbrev pub factor : Rule
factor = deep 2

abbrev pub statement : Rule
statement = deep 1

-- Statements = [Statement] {";" [Statement]}
abbrev pub statements : Rule
statements = list (optional statement) (number Semicolon)

abbrev pub rule : ℕ → Rule
-- Block = BEGIN {Block ";"} Statements END
rule zero = a Begin ⨾ many (sub ⨾ a Semicolon) ⨾ statements ⨾ a End
-- Statement = name ":=" Factor | WHILE Factor DO Statements END
rule (suc zero) = or (a Name ⨾ a Becomes ⨾ factor) (a While ⨾ factor ⨾ a Do ⨾ statements ⨾ a End)
-- Factor = number | "(" Factor ")"
rule (suc (suc zero)) = or (a Number) (a Open ⨾ factor ⨾ a Close)
-- no other number is used
rule (suc (suc (suc n))) = a Number

abbrev pub follows : ℕ → List Kind
follows zero = Semicolon ∷ Stop ∷ []
follows (suc zero) = Semicolon ∷ End ∷ Stop ∷ []
follows (suc (suc zero)) = Semicolon ∷ End ∷ Stop ∷ Close ∷ Do ∷ []
follows (suc (suc (suc n))) = []

abbrev pub word : Kind → Word
word k = record { kind = k; value = 0 }

abbrev pub grammar : Grammar Word
grammar = record { kind = kind_of; samples = map word kinds; rule = rule; follows = λ n. map number (follows n); rounds = 2 }

pub is_ll1 : IsLL1 grammar
is_ll1 = record { rules = rules; ends = refl }
  where
    rules : (n : ℕ) → passes grammar n ≡ true
    rules zero = refl
    rules (suc zero) = refl
    rules (suc (suc zero)) = refl
    rules (suc (suc (suc n))) = refl

-- Text = Statements stop, and Program = Block stop
abbrev pub text : Rule
text = statements ⨾ a Stop

abbrev pub program : Rule
program = sub ⨾ a Stop

pub text_is_root : IsRoot grammar text
text_is_root = refl

pub program_is_root : IsRoot grammar program
program_is_root = refl

-- a program has one derivation, is a sentence or has a first fault, and has one fault
pub program_is_unambiguous : IsUnambiguous grammar program
program_is_unambiguous = is_unambiguous grammar program is_ll1 program_is_root

pub program_is_decided : IsDecided grammar program
program_is_decided = is_decided grammar program is_ll1 program_is_root

pub program_has_one_fault : HasOneFault grammar program
program_has_one_fault = has_one_fault grammar program

-- Not clear: two alternatives that begin alike, an option before what begins as it does, and a repetition of what may be empty.
unclear_choice : clear grammar (or (a Name) (a Name ⨾ a Becomes)) [] ≡ false
unclear_choice = refl

unclear_option : clear grammar (optional statement ⨾ statement) (0 ∷ []) ≡ false
unclear_option = refl

unclear_repetition : clear grammar (many (optional (a Name))) [] ≡ false
unclear_repetition = refl

-- BEGIN BEGIN END ; name := ( number ) END: the blocks count nothing, the number lies three deep
abbrev nested : List Word
nested = map word (Begin ∷ Begin ∷ End ∷ Semicolon ∷ Name ∷ Becomes ∷ Open ∷ Number ∷ Close ∷ End ∷ Stop ∷ [])

abbrev empty_block : Tree Word
empty_block = both (leaf (word Begin)) (both last (both (both (right nothing) last) (leaf (word End))))

abbrev brackets : Tree Word
brackets = inner (right (both (leaf (word Open)) (both (inner (left (leaf (word Number)))) (leaf (word Close)))))

abbrev assignment : Tree Word
assignment = inner (left (both (leaf (word Name)) (both (leaf (word Becomes)) brackets)))

abbrev block : Tree Word
block =
    both (leaf (word Begin)) (both (more (both (part empty_block) (leaf (word Semicolon))) last) (both (both (left assignment) last) (leaf (word End))))

abbrev derivation : Tree Word
derivation = both (part block) (leaf (word Stop))

empty_block_derives : Derives grammar (rule 0) empty_block
empty_block_derives = of_then (of_token refl) (of_then of_last (of_then (of_then (of_right of_empty) of_last) (of_token refl)))

brackets_derives : Derives grammar factor brackets
brackets_derives = of_deep (of_right (of_then (of_token refl) (of_then (of_deep (of_left (of_token refl))) (of_token refl))))

assignment_derives : Derives grammar statement assignment
assignment_derives = of_deep (of_left (of_then (of_token refl) (of_then (of_token refl) brackets_derives)))

derivation_derives : Derives grammar program derivation
derivation_derives =
    of_then (of_sub (of_then (of_token refl) (of_then (of_more (of_then (of_sub empty_block_derives) (of_token refl)) of_last)
    (of_then (of_then (of_left assignment_derives) of_last) (of_token refl))))) (of_token refl)

-- it is a sentence where three levels are left
nested_is_sentence : Sentence grammar 3 program nested
nested_is_sentence = record { tree = derivation; derives = derivation_derives; spells = refl; within = refl }

-- and has no fault there
nested_has_no_fault : (f : Fault) (rest : List Word) → Faulty grammar 3 program f nested rest → ⊥
nested_has_no_fault f rest a = (program_has_one_fault 3 nested f rest a).0 nested_is_sentence

-- where two are left the number is the first that lies too deep
number_is_too_deep : over 2 derivation ≡ Some (map word (Begin ∷ Begin ∷ End ∷ Semicolon ∷ Name ∷ Becomes ∷ Open ∷ []))
number_is_too_deep = refl
