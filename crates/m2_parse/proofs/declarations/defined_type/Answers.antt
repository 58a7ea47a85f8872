use Rattle.std.proofs.Common.{◌≡◌, List, Bool, true, Result, Ok, Err, Option, Some, refl, ap, sym, subst, ◌∙◌}
use Rattle.std.specs.Prelude.{if◌then◌else◌}
use Rattle.ll_grammar.specs.Readers.{◌>>=◌, Ends}
use Rattle.m2_base.specs.declared.token.Token.{Token}
use Rattle.m2_parse.specs.declared.faults.Refusal.{Refusal}
use Rattle.m2_parse.specs.ReadStreams.{defined_at, defined_type_at}
use Rattle.m2_parse.proofs.Steps.{fails_behind, gives_behind, handed_on, until_fails, until_gives}
use Rattle.m2_parse.proofs.declarations.defined_type.Goals as goal

module _ {X Y : Type 0} (first : Result (Token × List Token) Refusal) (read : Token × List Token → Result (X × List Token) Refusal)
    (k : Option X × List Token → Result Y Refusal) where
  as_some : (r : Result (X × List Token) Refusal) → ((r >>= λ d. Ok (Some d.0, d.1)) >>= k) ≡ (r >>= λ d. k (Some d.0, d.1))
  as_some (Ok x) = refl
  as_some (Err e) = refl

  -- a type stands there, and what is behind it
  stands : (b : Bool) (stop : Result (Option X × List Token) Refusal) {e : Token × List Token} → b ≡ true → first ≡ Ok e
      → ((if b then (first >>= λ t. read t >>= λ d. Ok (Some d.0, d.1)) else stop) >>= k) ≡ (read e >>= λ d. k (Some d.0, d.1))
  stands b stop {e} h j =
      ap (λ c. (if c then (first >>= λ t. read t >>= λ d. Ok (Some d.0, d.1)) else stop) >>= k) h
      ∙ (ap (λ r. (r >>= λ t. read t >>= λ d. Ok (Some d.0, d.1)) >>= k) j ∙ as_some (read e))

fails_alike : {Y : Type 0} (o : Option Refusal) {r s : Result Y Refusal} → r ≡ s → Ends o s → Ends o r
fails_alike o h j = subst (λ z. Ends o z) (sym h) j

pub returns-in_err-typ : goal.returns-in_err-typ
unfolding defined_type_at defined_at
returns-in_err-typ c =
    handed_on _ _ _ c.from_residual-in_err-typ.result c.from_residual-in_err-typ.ensures.1 (fails_behind _ _ _ c.in_ok-name.ensures
    (fails_alike _ (stands _ _ _ _ _ c.in-Some.ensures.0 c.in-Some.ensures.1) (until_fails _ _ _ _ c.in_err-typ.ensures)))

pub returns : goal.returns
unfolding defined_type_at defined_at
returns c =
    gives_behind _ _ c.in_ok-name.ensures (stands _ _ _ _ _ c.in-Some.ensures.0 c.in-Some.ensures.1
    ∙ until_gives _ _ _ c.in_ok-typ.ensures λ mid u. refl)
