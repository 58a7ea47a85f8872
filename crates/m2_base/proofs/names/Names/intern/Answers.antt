use Rattle.std.proofs.Common.{cond, ◌≡◌, ◌∙◌, ◌∷◌, ◌++◌, ◌-◌, ◌<◌, ◌^◌, [], ap, sym, subst, rules, None, Some, List, ℕ, length, map}
use Rattle.std.specs.Prelude.{option_copied}
use Rattle.std.specs.HashMap.{get_by}
use Rattle.std.specs.Str.{bytes_eq}
use Rattle.std.proofs.lemmas.List.{length-map, map-append}
use Rattle.m2_base.specs.Names.{AreIndexed, number_in, with_name}
use Rattle.m2_base.proofs.NameTexts.{indexed-more, number_in-new, with_name-new, with_name-there}
use Rattle.m2_base.proofs.names.Names.intern.Goals as goal
use Rattle.m2_base.proofs.names.Names.intern.Goals.{After-unwrap}

pub returns-in-Some-clause-names : goal.returns-in-Some-clause-names
returns-in-Some-clause-names c =
    let texts = map (λ k. k.items) c.self.inside.texts.items in
    sym c.self.view_is
    ∙ sym (with_name-there texts c.args.bytes.now c.in-Some.number.now (sym (c.self.invariant.found c.args.bytes.now) ∙ sym c.get.ensures.value ∙ ap option_copied c.in-Some.is))
    ∙ ap (λ names. with_name names c.args.bytes.now) c.self.view_is

module _ (c : After-unwrap) where
  -- the texts before
  abbrev texts : List (List ℕ)
  texts = map (λ k. k.items) c.self.inside.texts.items

  lacks : number_in texts c.args.bytes.now ≡ None
  lacks = sym (c.self.invariant.found c.args.bytes.now) ∙ sym c.get.ensures.value ∙ ap option_copied c.in_default.is

  -- the texts behind are these and the new one
  grown : map (λ k. k.items) c.push.new.self.items ≡ texts ++ c.args.bytes.now ∷ []
  grown =
      let text : c.in_ok-text.text.items ≡ c.args.bytes.now = search rules in
      ap (map (λ k. k.items)) (search rules) ∙ map-append (λ k. k.items) c.self.inside.texts.items (c.in_ok-text.text ∷ []) ∙ ap (λ t. texts ++ t ∷ []) text

  number : c.len-number.result ≡ length texts
  number =
      let kept : c.len-number.result ≡ length c.self.inside.texts.items = search rules in
      kept ∙ sym (length-map c.self.inside.texts.items (λ k. k.items))

pub invariant_of-self-2 : goal.invariant_of-self-2
invariant_of-self-2 c =
    let key : c.in_ok-key.key.items ≡ c.args.bytes.now = search rules in
    let few : length (texts c) < 2 ^ 32 - 1 = subst (λ names. length names < 2 ^ 32 - 1) (sym c.self.view_is) c.requires in
    subst (AreIndexed (λ k. k.items) c.put_number.new.numbers) (sym (grown c)) (indexed-more (λ k. k.items) c.self.inside.numbers c.put_number.new.numbers (texts c) c.args.bytes.now c.self.invariant few (lacks c)
    (λ b. c.in_ok-put_number.ensures.put b ∙ ap (λ k. cond (bytes_eq b k) (Some c.len-number.result) (get_by (λ x. bytes_eq b x.items) c.self.inside.numbers)) key
    ∙ ap (λ n. cond (bytes_eq b c.args.bytes.now) (Some n) (get_by (λ x. bytes_eq b x.items) c.self.inside.numbers)) (number c)))

pub returns-clause-number : goal.returns-clause-number
returns-clause-number c = ap (λ names. number_in names c.args.bytes.now) (grown c) ∙ number_in-new (texts c) c.args.bytes.now (lacks c) ∙ ap Some (sym (number c))

pub returns-clause-names : goal.returns-clause-names
returns-clause-names c = grown c ∙ sym (with_name-new (texts c) c.args.bytes.now (lacks c)) ∙ ap (λ names. with_name names c.args.bytes.now) c.self.view_is
