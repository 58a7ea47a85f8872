use Rattle.std.proofs.Common.{◌∙◌, ap, not, rules, take, tests}
use Rattle.std.proofs.lemmas.Iterator.{YieldsList-from_slice}
use Rattle.std.proofs.lemmas.Iterator.Consumers.{count_from_yields_List}
use Rattle.std.proofs.lemmas.Iterator.Search.{YieldsList-from_take_while}
use Rattle.std.proofs.lemmas.List.Folds.{length-prefix_len}
use Rattle.m2_base.specs.declared.token.Token.{Token}
use Rattle.stream_split.specs.Sizes.{is_begin}
use Rattle.stream_split.proofs.extents.before_begin.Goals as goal

pub returns : goal.returns
returns c =
    ap (λ n. take n c.args.tokens.now)
    (count_from_yields_List c.take_while.result _ c.count-count.ensures.ran
    (YieldsList-from_take_while _ (λ (t : Token). not (is_begin t.kind)) (YieldsList-from_slice c.args.tokens.now cc) c.take_while.ensures.closure c.take_while.ensures.done (λ x b q k. search (rules, tests)))
    ∙ length-prefix_len (λ (t : Token). not (is_begin t.kind)) c.args.tokens.now)
