-- The trees of a main text's streams, by its derivation.
use Rattle.std.proofs.Common.{ℕ, suc, List, [], ◌∷◌, ◌++◌}
use Rattle.m2_base.specs.declared.token.Token.{Token}
use Rattle.ll_grammar.specs.Grammar.{Rule, empty, token, then, or, many, deep, sub, one}
use Rattle.ll_grammar.specs.Derivations.{Tree, nothing, leaf, both, left, right, last, more, inner, part, tokens}
use Rattle.stream_split.specs.Cut.{Event, to, cut_at, end_at}

-- in a stream a procedure is its heading, a semicolon and a Cut
abbrev pub stream_rule : Rule → Rule → Rule
stream_rule h empty = empty
stream_rule h (token ks) = token ks
stream_rule h (then r s) = then (stream_rule h r) (stream_rule h s)
stream_rule h (or r s) = or (stream_rule h r) (stream_rule h s)
stream_rule h (many r) = many (stream_rule h r)
stream_rule h (deep n) = deep n
stream_rule h sub = then h (then (one 57) (one 6))

-- the number of the next stream behind the tree, where c is the next before it
abbrev pub streams_after : ℕ → Tree Token → ℕ
streams_after c nothing = c
streams_after c (leaf t) = c
streams_after c (both x y) = streams_after (streams_after c x) y
streams_after c (left x) = streams_after c x
streams_after c (right x) = streams_after c x
streams_after c last = c
streams_after c (more x xs) = streams_after (streams_after c x) xs
streams_after c (inner x) = c
streams_after c (part (both h (both s (both b l)))) = streams_after (suc c) b
streams_after c (part _) = c

abbrev pub cut_leaf : ℕ → Tree Token → Tree Token
cut_leaf c (leaf t) = leaf (cut_at c t)
cut_leaf c _ = nothing

abbrev pub end_leaf : Tree Token → Tree Token
end_leaf (leaf t) = leaf (end_at t)
end_leaf _ = nothing

-- the tree of the text's own stream, where c is the number of the next one
abbrev pub own : ℕ → Tree Token → Tree Token
own c nothing = nothing
own c (leaf t) = leaf t
own c (both x y) = both (own c x) (own (streams_after c x) y)
own c (left x) = left (own c x)
own c (right x) = right (own c x)
own c last = last
own c (more x xs) = more (own c x) (own (streams_after c x) xs)
own c (inner x) = inner x
own c (part (both h (both s y))) = both h (both s (cut_leaf c s))
own c (part _) = nothing

-- the trees of the streams of its procedures, from number c on
abbrev pub parts : ℕ → Tree Token → List (Tree Token)
parts c nothing = []
parts c (leaf t) = []
parts c (both x y) = parts c x ++ parts (streams_after c x) y
parts c (left x) = parts c x
parts c (right x) = parts c x
parts c last = []
parts c (more x xs) = parts c x ++ parts (streams_after c x) xs
parts c (inner x) = []
parts c (part (both h (both s (both b l)))) = both h (both s (both (own (suc c) b) (both l (end_leaf l)))) ∷ parts (suc c) b
parts c (part _) = []

-- where the tokens of a sentence go: those of stream k, and of its procedures from number c on
abbrev pub sends : ℕ → ℕ → Tree Token → List Event
sends k c nothing = []
sends k c (leaf t) = (k, t) ∷ []
sends k c (both x y) = sends k c x ++ sends k (streams_after c x) y
sends k c (left x) = sends k c x
sends k c (right x) = sends k c x
sends k c last = []
sends k c (more x xs) = sends k c x ++ sends k (streams_after c x) xs
sends k c (inner x) = to k (tokens x)
sends k c (part (both h (both (leaf s) (both b (leaf l))))) =
    to k (tokens h) ++ (((k, s) ∷ (k, cut_at c s) ∷ to c (tokens h ++ (s ∷ []))) ++ (sends c (suc c) b ++ ((c, l) ∷ (c, end_at l) ∷ [])))
sends k c (part _) = []

-- the tokens of these trees, the first being stream c
abbrev pub spread : ℕ → List (Tree Token) → List Event
spread c [] = []
spread c (x ∷ xs) = to c (tokens x) ++ spread (suc c) xs
