-- What the definition of limits asks of a kind of token, by its sort.
use Rattle.std.proofs.Common.{◌≡◌, ℕ, zero, suc, Bool, true, false, List, ◌∷◌, refl, ◌+◌, ◌-◌, ◌==◌, if◌then◌else◌}
use Rattle.m2_base.specs.declared.kind.TokenKind.{TokenKind}
use Rattle.m2_base.specs.declared.kind.TokenKind.TheVariants as kinds
use Rattle.m2_base.specs.Statics.BlockLimits.{Standing, in_block, in_heading, behind_end, is_identifier, is_procedure_word, heading_step, block_step, open_after}
use Rattle.stream_split.specs.declared.sorts.Sort.{Sort}
use Rattle.stream_split.specs.declared.sorts.Sort.TheVariants.{Word, Procedure, Opener, Closer, Left, Right, Semicolon}
use Rattle.stream_split.specs.Cut.{sort}

abbrev pub is_word : Sort → Bool
is_word Word = true
is_word z = false

abbrev pub is_procedure : Sort → Bool
is_procedure Procedure = true
is_procedure z = false

abbrev pub heading_by : ℕ → Sort → Standing
heading_by n Left = in_heading (n + 1)
heading_by n Right = in_heading (n - 1)
heading_by n Semicolon = if n == 0 then in_block else in_heading n
heading_by n z = in_heading n

-- at a token of a block in which nothing else is open
abbrev pub block_by : Sort → Standing
block_by Closer = behind_end
block_by z = in_block

-- where so many other constructs are open
abbrev pub step_by : ℕ → Sort → Standing
step_by zero z = block_by z
step_by (suc d) z = in_block

abbrev pub open_by : ℕ → List ℕ → Sort → List ℕ
open_by zero outer Closer = outer
open_by (suc n) outer Closer = n ∷ outer
open_by n outer Opener = (n + 1) ∷ outer
open_by n outer z = n ∷ outer

pub record ByStep (k : TokenKind) (z : Sort) : Type 0 where
  pub word : is_identifier k ≡ is_word z
  pub procedure : is_procedure_word k ≡ is_procedure z
  pub heading : (n : ℕ) → heading_step n k ≡ heading_by n z
  pub block : (outer : List ℕ) → block_step (zero ∷ outer) k ≡ block_by z
  pub none : (outer : List ℕ) → open_after (zero ∷ outer) k ≡ open_by zero outer z
  pub some : (n : ℕ) (outer : List ℕ) → open_after (suc n ∷ outer) k ≡ open_by (suc n) outer z

pub by_step : (k : TokenKind) → ByStep k (sort k)
by_step kinds.EndOfText = record { word = refl; procedure = refl; heading = λ n. refl; block = λ o. refl; none = λ o. refl; some = λ n o. refl }
by_step kinds.Identifier = record { word = refl; procedure = refl; heading = λ n. refl; block = λ o. refl; none = λ o. refl; some = λ n o. refl }
by_step kinds.Number = record { word = refl; procedure = refl; heading = λ n. refl; block = λ o. refl; none = λ o. refl; some = λ n o. refl }
by_step kinds.Character = record { word = refl; procedure = refl; heading = λ n. refl; block = λ o. refl; none = λ o. refl; some = λ n o. refl }
by_step kinds.String = record { word = refl; procedure = refl; heading = λ n. refl; block = λ o. refl; none = λ o. refl; some = λ n o. refl }
by_step kinds.Bad = record { word = refl; procedure = refl; heading = λ n. refl; block = λ o. refl; none = λ o. refl; some = λ n o. refl }
by_step kinds.Cut = record { word = refl; procedure = refl; heading = λ n. refl; block = λ o. refl; none = λ o. refl; some = λ n o. refl }
by_step kinds.StreamEnd = record { word = refl; procedure = refl; heading = λ n. refl; block = λ o. refl; none = λ o. refl; some = λ n o. refl }
by_step kinds.And = record { word = refl; procedure = refl; heading = λ n. refl; block = λ o. refl; none = λ o. refl; some = λ n o. refl }
by_step kinds.Array = record { word = refl; procedure = refl; heading = λ n. refl; block = λ o. refl; none = λ o. refl; some = λ n o. refl }
by_step kinds.Begin = record { word = refl; procedure = refl; heading = λ n. refl; block = λ o. refl; none = λ o. refl; some = λ n o. refl }
by_step kinds.By = record { word = refl; procedure = refl; heading = λ n. refl; block = λ o. refl; none = λ o. refl; some = λ n o. refl }
by_step kinds.Case = record { word = refl; procedure = refl; heading = λ n. refl; block = λ o. refl; none = λ o. refl; some = λ n o. refl }
by_step kinds.Const = record { word = refl; procedure = refl; heading = λ n. refl; block = λ o. refl; none = λ o. refl; some = λ n o. refl }
by_step kinds.Definition = record { word = refl; procedure = refl; heading = λ n. refl; block = λ o. refl; none = λ o. refl; some = λ n o. refl }
by_step kinds.Div = record { word = refl; procedure = refl; heading = λ n. refl; block = λ o. refl; none = λ o. refl; some = λ n o. refl }
by_step kinds.Do = record { word = refl; procedure = refl; heading = λ n. refl; block = λ o. refl; none = λ o. refl; some = λ n o. refl }
by_step kinds.Else = record { word = refl; procedure = refl; heading = λ n. refl; block = λ o. refl; none = λ o. refl; some = λ n o. refl }
by_step kinds.Elsif = record { word = refl; procedure = refl; heading = λ n. refl; block = λ o. refl; none = λ o. refl; some = λ n o. refl }
by_step kinds.End = record { word = refl; procedure = refl; heading = λ n. refl; block = λ o. refl; none = λ o. refl; some = λ n o. refl }
by_step kinds.Exit = record { word = refl; procedure = refl; heading = λ n. refl; block = λ o. refl; none = λ o. refl; some = λ n o. refl }
by_step kinds.Export = record { word = refl; procedure = refl; heading = λ n. refl; block = λ o. refl; none = λ o. refl; some = λ n o. refl }
by_step kinds.For = record { word = refl; procedure = refl; heading = λ n. refl; block = λ o. refl; none = λ o. refl; some = λ n o. refl }
by_step kinds.From = record { word = refl; procedure = refl; heading = λ n. refl; block = λ o. refl; none = λ o. refl; some = λ n o. refl }
by_step kinds.If = record { word = refl; procedure = refl; heading = λ n. refl; block = λ o. refl; none = λ o. refl; some = λ n o. refl }
by_step kinds.Implementation = record { word = refl; procedure = refl; heading = λ n. refl; block = λ o. refl; none = λ o. refl; some = λ n o. refl }
by_step kinds.Import = record { word = refl; procedure = refl; heading = λ n. refl; block = λ o. refl; none = λ o. refl; some = λ n o. refl }
by_step kinds.In = record { word = refl; procedure = refl; heading = λ n. refl; block = λ o. refl; none = λ o. refl; some = λ n o. refl }
by_step kinds.Loop = record { word = refl; procedure = refl; heading = λ n. refl; block = λ o. refl; none = λ o. refl; some = λ n o. refl }
by_step kinds.Mod = record { word = refl; procedure = refl; heading = λ n. refl; block = λ o. refl; none = λ o. refl; some = λ n o. refl }
by_step kinds.Module = record { word = refl; procedure = refl; heading = λ n. refl; block = λ o. refl; none = λ o. refl; some = λ n o. refl }
by_step kinds.Not = record { word = refl; procedure = refl; heading = λ n. refl; block = λ o. refl; none = λ o. refl; some = λ n o. refl }
by_step kinds.Of = record { word = refl; procedure = refl; heading = λ n. refl; block = λ o. refl; none = λ o. refl; some = λ n o. refl }
by_step kinds.Or = record { word = refl; procedure = refl; heading = λ n. refl; block = λ o. refl; none = λ o. refl; some = λ n o. refl }
by_step kinds.Pointer = record { word = refl; procedure = refl; heading = λ n. refl; block = λ o. refl; none = λ o. refl; some = λ n o. refl }
by_step kinds.Procedure = record { word = refl; procedure = refl; heading = λ n. refl; block = λ o. refl; none = λ o. refl; some = λ n o. refl }
by_step kinds.Qualified = record { word = refl; procedure = refl; heading = λ n. refl; block = λ o. refl; none = λ o. refl; some = λ n o. refl }
by_step kinds.Record = record { word = refl; procedure = refl; heading = λ n. refl; block = λ o. refl; none = λ o. refl; some = λ n o. refl }
by_step kinds.Repeat = record { word = refl; procedure = refl; heading = λ n. refl; block = λ o. refl; none = λ o. refl; some = λ n o. refl }
by_step kinds.Return = record { word = refl; procedure = refl; heading = λ n. refl; block = λ o. refl; none = λ o. refl; some = λ n o. refl }
by_step kinds.Set = record { word = refl; procedure = refl; heading = λ n. refl; block = λ o. refl; none = λ o. refl; some = λ n o. refl }
by_step kinds.Then = record { word = refl; procedure = refl; heading = λ n. refl; block = λ o. refl; none = λ o. refl; some = λ n o. refl }
by_step kinds.To = record { word = refl; procedure = refl; heading = λ n. refl; block = λ o. refl; none = λ o. refl; some = λ n o. refl }
by_step kinds.«Type» = record { word = refl; procedure = refl; heading = λ n. refl; block = λ o. refl; none = λ o. refl; some = λ n o. refl }
by_step kinds.Until = record { word = refl; procedure = refl; heading = λ n. refl; block = λ o. refl; none = λ o. refl; some = λ n o. refl }
by_step kinds.Var = record { word = refl; procedure = refl; heading = λ n. refl; block = λ o. refl; none = λ o. refl; some = λ n o. refl }
by_step kinds.While = record { word = refl; procedure = refl; heading = λ n. refl; block = λ o. refl; none = λ o. refl; some = λ n o. refl }
by_step kinds.With = record { word = refl; procedure = refl; heading = λ n. refl; block = λ o. refl; none = λ o. refl; some = λ n o. refl }
by_step kinds.Plus = record { word = refl; procedure = refl; heading = λ n. refl; block = λ o. refl; none = λ o. refl; some = λ n o. refl }
by_step kinds.Minus = record { word = refl; procedure = refl; heading = λ n. refl; block = λ o. refl; none = λ o. refl; some = λ n o. refl }
by_step kinds.Times = record { word = refl; procedure = refl; heading = λ n. refl; block = λ o. refl; none = λ o. refl; some = λ n o. refl }
by_step kinds.Slash = record { word = refl; procedure = refl; heading = λ n. refl; block = λ o. refl; none = λ o. refl; some = λ n o. refl }
by_step kinds.Becomes = record { word = refl; procedure = refl; heading = λ n. refl; block = λ o. refl; none = λ o. refl; some = λ n o. refl }
by_step kinds.Period = record { word = refl; procedure = refl; heading = λ n. refl; block = λ o. refl; none = λ o. refl; some = λ n o. refl }
by_step kinds.Comma = record { word = refl; procedure = refl; heading = λ n. refl; block = λ o. refl; none = λ o. refl; some = λ n o. refl }
by_step kinds.Semicolon = record { word = refl; procedure = refl; heading = λ n. refl; block = λ o. refl; none = λ o. refl; some = λ n o. refl }
by_step kinds.LeftParenthesis = record { word = refl; procedure = refl; heading = λ n. refl; block = λ o. refl; none = λ o. refl; some = λ n o. refl }
by_step kinds.LeftBracket = record { word = refl; procedure = refl; heading = λ n. refl; block = λ o. refl; none = λ o. refl; some = λ n o. refl }
by_step kinds.LeftBrace = record { word = refl; procedure = refl; heading = λ n. refl; block = λ o. refl; none = λ o. refl; some = λ n o. refl }
by_step kinds.Arrow = record { word = refl; procedure = refl; heading = λ n. refl; block = λ o. refl; none = λ o. refl; some = λ n o. refl }
by_step kinds.Equal = record { word = refl; procedure = refl; heading = λ n. refl; block = λ o. refl; none = λ o. refl; some = λ n o. refl }
by_step kinds.Unequal = record { word = refl; procedure = refl; heading = λ n. refl; block = λ o. refl; none = λ o. refl; some = λ n o. refl }
by_step kinds.Less = record { word = refl; procedure = refl; heading = λ n. refl; block = λ o. refl; none = λ o. refl; some = λ n o. refl }
by_step kinds.Greater = record { word = refl; procedure = refl; heading = λ n. refl; block = λ o. refl; none = λ o. refl; some = λ n o. refl }
by_step kinds.LessEqual = record { word = refl; procedure = refl; heading = λ n. refl; block = λ o. refl; none = λ o. refl; some = λ n o. refl }
by_step kinds.GreaterEqual = record { word = refl; procedure = refl; heading = λ n. refl; block = λ o. refl; none = λ o. refl; some = λ n o. refl }
by_step kinds.Ellipsis = record { word = refl; procedure = refl; heading = λ n. refl; block = λ o. refl; none = λ o. refl; some = λ n o. refl }
by_step kinds.Colon = record { word = refl; procedure = refl; heading = λ n. refl; block = λ o. refl; none = λ o. refl; some = λ n o. refl }
by_step kinds.RightParenthesis = record { word = refl; procedure = refl; heading = λ n. refl; block = λ o. refl; none = λ o. refl; some = λ n o. refl }
by_step kinds.RightBracket = record { word = refl; procedure = refl; heading = λ n. refl; block = λ o. refl; none = λ o. refl; some = λ n o. refl }
by_step kinds.RightBrace = record { word = refl; procedure = refl; heading = λ n. refl; block = λ o. refl; none = λ o. refl; some = λ n o. refl }
by_step kinds.Bar = record { word = refl; procedure = refl; heading = λ n. refl; block = λ o. refl; none = λ o. refl; some = λ n o. refl }
