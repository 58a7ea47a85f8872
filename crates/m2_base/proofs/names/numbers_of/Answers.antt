use Rattle.std.proofs.Common.{◌≡◌, ◌∙◌, ap, subst, map, rules, take_all}
use Rattle.std.specs.Map.{lookup}
use Rattle.std.specs.Str.{bytes_eq}
use Rattle.m2_base.specs.Names.{AreNumbersOf}
use Rattle.m2_base.proofs.NameTexts.{numbered-more}
use Rattle.m2_base.proofs.names.numbers_of.Goals as goal

pub loop-number-init : goal.loop-number-init
loop-number-init c text = ap (lookup (λ k. bytes_eq text k.items)) c.in_ok-numbers.ensures.empty

pub loop-number-preserved : goal.loop-number-preserved
loop-number-preserved c =
    let here = c.index-texts-number.result in
    let text : c.in_ok-to_vec.field-0.items ≡ here.items = search rules in
    numbered-more (λ k. k.items) c.loop-number.numbers c.put_number.new.numbers c.args.texts.now c.loop-number.number here c.in_ok-to_vec.field-0.items c.loop-number-test.true c.requires.differ
    (text ∙ ap (λ k. k.items) c.index-texts-number.is) c.loop-number.invariant c.in_ok-put_number.ensures.put

pub returns : goal.returns
returns c = subst (λ ks. AreNumbersOf (λ k. k.items) c.loop-number.numbers (map (λ k. k.items) ks)) (take_all c.loop-number.number c.args.texts.now c.loop-number-test.false) c.loop-number.invariant
