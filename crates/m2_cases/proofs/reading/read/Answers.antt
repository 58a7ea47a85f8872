use Rattle.std.proofs.Common.{◌≡◌, ◌∙◌, ◌≤◌, ap, drop, length, rules, sym}
use Rattle.m2_cases.specs.Samples.{first_kind}
use Rattle.m2_cases.proofs.ReadSamples.{sample_read}
use Rattle.m2_cases.proofs.reading.read.Goals as goal

pub returns : goal.returns
returns c =
    let tokens : c.deref.result.now ≡ c.main.result.now.tokens = search rules in
    let short : length c.args.text.now ≤ 1048576 = search rules in
    sample_read c.in-Ok.ensures.unit c.main.ensures.unit short c.main.ensures.text (ap first_kind (sym tokens) ∙ c.in-Some.ensures.fault) (c.in-Some.ensures.rest ∙ ap (drop 1) tokens)
    c.in_ok-tree.ensures.spelled c.in_ok-tree.ensures.items
