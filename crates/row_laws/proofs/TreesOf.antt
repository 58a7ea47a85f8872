-- The trees of streams, by the rule of their kind.
use Rattle.std.specs.Prelude.{List, []}
use Rattle.std.proofs.Common.{refl, subst}
use Rattle.ll_grammar.specs.Derivations.{Tree, Derives, of_then}
use Rattle.ll_grammar.specs.Texts as texts
use Rattle.m2_base.specs.ExpressionsOf as expressions
use Rattle.m2_base.specs.Grammar as rules
use Rattle.m2_base.specs.Grammar.{grammar, levels}
use Rattle.m2_base.specs.StreamsOf as streams
use Rattle.m2_base.specs.declared.token.Token.{Token}
use Rattle.m2_base.specs.declared.trees.declarations.StreamKind.{StreamKind}
use Rattle.m2_base.specs.declared.trees.declarations.StreamKind.TheVariants.{Definition, Main, Procedure}
use Rattle.m2_base.specs.Trees.{Stream}
use Rattle.row_laws.specs.TextTrees.{IsTreeOf}

stream_tree : (kind : StreamKind) {d : Tree Token} (w : List Token) → Derives grammar (rules.stream kind) d → IsTreeOf kind (streams.stream_of kind d w)
stream_tree Main w (of_then implementation (of_then module_word (of_then {d = i} name (of_then semicolon (of_then is (of_then b (of_then period stop))))))) =
    record { kind_is = refl; name = expressions.ident_of i; named = refl; headless = refl }
stream_tree Definition w (of_then word (of_then module_word (of_then {d = i} name (of_then semicolon (of_then is (of_then export (of_then ds (of_then end (of_then close (of_then period stop)))))))))) =
    record { kind_is = refl; name = expressions.ident_of i; named = refl; headless = refl }
stream_tree Procedure w (of_then {d = h} heading (of_then semicolon (of_then b (of_then closing stop)))) =
    record { kind_is = refl; heading = streams.heading_of h; headed = refl; no_imports = refl }

pub tree_of_kind : (kind : StreamKind) (tree : Stream) (ts : List Token) → texts.Spells grammar levels (rules.stream kind) (streams.stream_of kind) tree ts → IsTreeOf kind tree
tree_of_kind kind tree ts spelled = subst (IsTreeOf kind) spelled.gives (stream_tree kind [] spelled.sentence.derives)
