use Rattle.std.proofs.Common.{refl, ◌≡◌, ◌<◌, ◌≤◌, ◌^◌, [], ◌∷◌, List, Some, None, false, ap, subst, sym, ◌∙◌, arith, length}
use Rattle.std.proofs.lemmas.Result.{IfOk-from_err}
use Rattle.m2_base.specs.Names.{number_in, standard_names, with_name}
use Rattle.m2_base.specs.Tokens.{AreTokens}
use Rattle.m2_base.specs.Units.{IsUnit, TextOf, unit_of}
use Rattle.m2_lex.specs.LoneTexts.{IsLoneText}
use Rattle.m2_lex.proofs.FaultLaws.{err_not_ok, of_memory, ok_not_err, same_fault}
use Rattle.m2_lex.proofs.TextUnit.{few_with, is_lone, lone_unit, standard_few}
use Rattle.m2_lex.proofs.lone.lone_text.Goals as goal

pub intern-requires : goal.intern-requires
intern-requires c = omega (arith, ap length c.in_ok-names.ensures, standard_few)

pub lex-requires-clause-room : goal.lex-requires-clause-room
lex-requires-clause-room c =
    let name = c.args.name.now in
    let is : c.intern.new.self ≡ with_name standard_names name = c.in_ok-number.ensures.names ∙ ap (λ names. with_name names name) c.in_ok-names.ensures in
    omega (arith, ap length is, few_with name)

pub new-requires-3 : goal.new-requires-3
new-requires-3 c =
    let name = c.args.name.now in
    let text = c.args.text.now in
    let names = c.lex.new.names in
    let number = c.in_ok-number.number in
    let tokens = c.in_ok-tokens.tokens.items in
    let is : c.intern.new.self ≡ with_name standard_names name = c.in_ok-number.ensures.names ∙ ap (λ names. with_name names name) c.in_ok-names.ensures in
    let numbered : number_in (with_name standard_names name) name ≡ Some number = subst (λ all. number_in all name ≡ Some number) is c.in_ok-number.ensures.number in
    let are : AreTokens (with_name standard_names name) names text tokens = subst (λ all. AreTokens all names text tokens) is c.in_ok-tokens.ensures.tokens in
    let countable : length names < 2 ^ 32 = omega (arith, c.count-countable.ensures) in
    let few : length tokens ≤ 1048576 = omega (arith, c.in_ok-tokens.tokens.ok.0, c.in_ok-tokens.ensures.most) in
    let unit = lone_unit name text names number tokens numbered are c.requires.named c.requires.short_name c.requires.short (λ i. omega (arith, c.type_inv.name i)) (λ i. omega (arith, c.type_inv.text i)) few countable in
    subst (λ (list : List TextOf). IsUnit (unit_of names list c.new-2.result.items None)) (sym c.in_ok-list.ensures.items)
    (subst (λ order. IsUnit (unit_of names (record { name = number; definition = false; tokens = tokens } ∷ []) order None)) (sym c.new-2.ensures.items) unit)

pub returns-clause-unit : goal.returns-clause-unit
returns-clause-unit c =
    let name = c.args.name.now in
    let text = c.args.text.now in
    let names = c.lex.new.names in
    let number = c.in_ok-number.number in
    let tokens = c.in_ok-tokens.tokens.items in
    let is : c.intern.new.self ≡ with_name standard_names name = c.in_ok-number.ensures.names ∙ ap (λ names. with_name names name) c.in_ok-names.ensures in
    let numbered : number_in (with_name standard_names name) name ≡ Some number = subst (λ all. number_in all name ≡ Some number) is c.in_ok-number.ensures.number in
    let are : AreTokens (with_name standard_names name) names text tokens = subst (λ all. AreTokens all names text tokens) is c.in_ok-tokens.ensures.tokens in
    let whole : c.new-3.result ≡ unit_of names (record { name = number; definition = false; tokens = tokens } ∷ []) [] None =
    c.new-3.ensures ∙ ap (λ list. unit_of names list c.new-2.result.items None) c.in_ok-list.ensures.items
    ∙ ap (λ order. unit_of names (record { name = number; definition = false; tokens = tokens } ∷ []) order None) c.new-2.ensures.items in
    subst (IsLoneText name text) (sym whole) (is_lone name text names number tokens numbered are)

pub returns-clause-too_many : goal.returns-clause-too_many
returns-clause-too_many c = λ h. ok_not_err _ c.new-3.result _ refl h

pub returns-clause-not_too_many : goal.returns-clause-not_too_many
returns-clause-not_too_many c = c.in_ok-tokens.ensures.not_too_many

pub returns-in_err-list-clause-unit : goal.returns-in_err-list-clause-unit
returns-in_err-list-clause-unit c = IfOk-from_err c.from_residual-in_err-list.result _ c.from_residual-in_err-list.ensures.0

pub returns-in_err-list-clause-too_many : goal.returns-in_err-list-clause-too_many
returns-in_err-list-clause-too_many c = of_memory c.from_residual-in_err-list.result c.from_residual-in_err-list.ensures.1

pub returns-in_err-list-clause-not_too_many : goal.returns-in_err-list-clause-not_too_many
returns-in_err-list-clause-not_too_many c = err_not_ok c.from_residual-in_err-list.result c.from_residual-in_err-list.ensures.0

pub returns-in_err-tokens-clause-unit : goal.returns-in_err-tokens-clause-unit
returns-in_err-tokens-clause-unit c = IfOk-from_err c.from_residual-in_err-tokens.result _ c.from_residual-in_err-tokens.ensures.0

pub returns-in_err-tokens-clause-too_many : goal.returns-in_err-tokens-clause-too_many
returns-in_err-tokens-clause-too_many c = same_fault c.from_residual-in_err-tokens.result c.lex.result c.in_err-tokens.field-0.0 c.from_residual-in_err-tokens.ensures.1 c.in_err-tokens.was c.lex.ensures.too_many
