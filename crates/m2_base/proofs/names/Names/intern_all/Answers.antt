use Rattle.std.proofs.Common.{List, [], ℕ, get_or, Bor, ◌≡◌, ◌∙◌, ap, sym, map, take, length, arith, length-take-le}
use Rattle.std.proofs.lemmas.List.{length-map}
use Rattle.m2_base.specs.Names.{with_name}
use Rattle.m2_base.proofs.Numbers.{length-with_names}
use Rattle.m2_base.proofs.NameTexts.{with_names-take}
use Rattle.m2_base.proofs.names.Names.intern_all.Goals as goal

-- what a read past the texts would give
abbrev no_text : Bor (List ℕ)
no_text = record { ref_ptr = (0, 0); now = [] }

pub intern-requires : goal.intern-requires
intern-requires c =
    let front = take c.loop-text.text-index c.args.texts.now in
    let most = length-with_names c.args.self.now (map (λ text. text.now) front) in
    let long = length-map front (λ text. text.now) in
    let short : length front ≡ c.loop-text.text-index = omega (arith, length-take-le c.loop-text.text-index c.args.texts.now) in
    omega (arith, ap length c.loop-text.invariant, most, long, short)

pub loop-text-preserved : goal.loop-text-preserved
loop-text-preserved c =
    c.in_ok-intern.ensures.names
    ∙ ap (λ names. with_name names (get_or c.args.texts.now c.loop-text.text-index no_text).now) c.loop-text.invariant
    ∙ sym (with_names-take (λ text. text.now) c.args.self.now c.args.texts.now c.loop-text.text-index no_text c.loop-text-test.true)
