-- The tokens of a text are as read.
use Rattle.std.specs.Prelude.{ℕ, ◌≤◌, List, length}
use Rattle.m2_base.specs.Lists.{Each, IsPrefixOf}
use Rattle.m2_base.specs.Names.{standard_names}
use Rattle.m2_base.specs.Statics.ReadTrees.{IsReadToken}
use Rattle.m2_base.specs.Tokens.{AreTokens}
use Rattle.m2_base.specs.declared.token.Token.{Token}
use Rattle.m2_base.proofs.ReadTokens as read
use Rattle.m2_lex.proofs.TextUnit.{names_grow, text_listed}

pub tokens_read : (before after : List (List ℕ)) (text : List ℕ) (tokens : List Token) → IsPrefixOf standard_names before → length text ≤ 1048576
    → AreTokens before after text tokens → Each (IsReadToken after) tokens
tokens_read before after text tokens standard short are =
    let listed = text_listed before after text tokens are short in
    read.tokens_read after (names_grow before after text tokens are short standard) 0 tokens listed.0 listed.1
