use Rattle.std.proofs.Common.{◌≡◌, ◌∙◌, ◌∷◌, ap, MatchOption, None, Some, map, rules, string_bytes, subst, sym}
use Rattle.command_words.specs.Parts.{Adds, nothing}
use Rattle.command_words.specs.Verbs.{verb_text}
use Rattle.command_words.specs.Words.{GivesNone, given_of}
use Rattle.command_words.proofs.Making.{no_verb_asked, not_given}
use Rattle.command_words.proofs.Reading.{made_asks}
use Rattle.command_words.proofs.command.read_command.Goals as goal

pub returns-in_default-verb_of : goal.returns-in_default-verb_of
returns-in_default-verb_of c =
    let others = map string_bytes c.in-Some.others.now in
    let parts : map string_bytes c.args.words.now ≡ c.as_str.result.now ∷ others = ap (map string_bytes) c.in-Some.ensures.cases.0 ∙ ap (λ v. v ∷ others) (sym c.as_str.ensures.value) in
    let none : c.verb_of.result ≡ None = first_of (search rules, cc) in
    no_verb_asked (map string_bytes c.args.words.now) c.as_str.result.now others c.verb_of.result parts none c.verb_of.ensures

pub returns-in-Some-2 : goal.returns-in-Some-2
returns-in-Some-2 c =
    let others = map string_bytes c.in-Some.others.now in
    let verb = verb_text c.in-Some-verb_of.verb in
    let parts : map string_bytes c.args.words.now ≡ verb ∷ others =
    ap (map string_bytes) c.in-Some.ensures.cases.0 ∙ ap (λ v. v ∷ others) (sym c.as_str.ensures.value ∙ c.in-Some-verb_of.ensures) in
    let is : c.in_ok-given.field-0 ≡ Some c.in-Some-2.given = first_of (search rules, cc) in
    let adds : Adds nothing others (given_of c.in-Some-2.given) =
    subst (λ o. MatchOption o (GivesNone c.in-Some-verb_of.verb others) (λ given. Adds nothing others (given_of given))) is c.in_ok-given.ensures in
    made_asks (map string_bytes c.args.words.now) verb others (given_of c.in-Some-2.given) c.made.result parts adds c.made.ensures

pub returns-in-None : goal.returns-in-None
returns-in-None c =
    let others = map string_bytes c.in-Some.others.now in
    let parts : map string_bytes c.args.words.now ≡ c.as_str.result.now ∷ others = ap (map string_bytes) c.in-Some.ensures.cases.0 ∙ ap (λ v. v ∷ others) (sym c.as_str.ensures.value) in
    let is : c.in_ok-given.field-0 ≡ None = first_of (search rules, cc) in
    let none : GivesNone c.in-Some-verb_of.verb others =
    subst (λ o. MatchOption o (GivesNone c.in-Some-verb_of.verb others) (λ given. Adds nothing others (given_of given))) is c.in_ok-given.ensures in
    not_given (map string_bytes c.args.words.now) c.as_str.result.now others c.in-Some-verb_of.verb parts c.in-Some-verb_of.ensures none
