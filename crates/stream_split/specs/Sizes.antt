-- How many rows a scope has at most: scope 0 has the standard rows, a block one for each token before its BEGIN with
-- which a row may come, and those that its imports bring.
use Rattle.std.specs.Prelude.{ℕ, ◌+◌, Bool, true, false, not, List, ◌∷◌, drop, filter, length, map, take_while}
use Rattle.std.specs.List.{list_any}
use Rattle.m2_base.specs.declared.kind.TokenKind.{TokenKind}
use Rattle.m2_base.specs.declared.kind.TokenKind.TheVariants as kinds
use Rattle.m2_base.specs.declared.limits.TheConstants.{MOST_BROUGHT, STANDARD_ROWS}
use Rattle.m2_base.specs.declared.token.Token.{Token}
use Rattle.m2_base.specs.declared.trees.declarations.StreamKind.{StreamKind}
use Rattle.m2_base.specs.declared.trees.declarations.StreamKind.TheVariants.{Procedure}
use Rattle.stream_split.specs.Streams.{StreamOf}

-- the word BEGIN
abbrev pub is_begin : TokenKind → Bool
is_begin kinds.Begin = true
is_begin other = false

-- the tokens before the first word BEGIN, which is the block's own: of a procedure in it there is the heading alone
abbrev pub before_begin : List Token → List Token
before_begin ts = take_while (λ t. not (is_begin t.kind)) ts

-- a row may come with a token of this kind: a name, a comma, a semicolon (behind an opaque type), a bracket that
-- opens, or the first word of a type or heading
abbrev pub may_make_row : TokenKind → Bool
may_make_row kinds.Identifier = true
may_make_row kinds.Comma = true
may_make_row kinds.Semicolon = true
may_make_row kinds.LeftParenthesis = true
may_make_row kinds.LeftBracket = true
may_make_row kinds.Array = true
may_make_row kinds.Pointer = true
may_make_row kinds.Procedure = true
may_make_row kinds.Record = true
may_make_row kinds.Set = true
may_make_row other = false

-- with how many of these tokens a row may come
abbrev pub rows_with : List Token → ℕ
rows_with ts = length (filter (λ t. may_make_row t.kind) ts)

-- how many rows a stream declares at most, by its tokens before BEGIN: no row comes with the first three, which begin
-- a heading or a module
abbrev pub declared_room : List Token → ℕ
declared_room ts = rows_with (drop 3 ts)

-- the word FROM
abbrev pub is_from : TokenKind → Bool
is_from kinds.From = true
is_from other = false

-- it stands among these tokens
abbrev pub has_from : List Token → Bool
has_from ts = list_any (λ t. is_from t.kind) ts

-- how many rows the imports of a stream bring at most: only modules import, and only names of a module behind FROM
-- bring
abbrev pub brought_room : StreamKind → (from : Bool) → ℕ
brought_room Procedure from = 0
brought_room other false = 0
brought_room other true = MOST_BROUGHT

-- how many rows the scope of a stream has at most
abbrev pub room_of : StreamOf → ℕ
room_of s = declared_room (before_begin s.tokens) + brought_room s.kind (has_from (before_begin s.tokens))

abbrev pub sizes_of : List StreamOf → List ℕ
sizes_of streams = STANDARD_ROWS ∷ map room_of streams
