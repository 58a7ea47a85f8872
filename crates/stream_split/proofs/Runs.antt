-- The cut of one list behind another.
use Rattle.std.proofs.Common.{◌≡◌, List, [], ◌∷◌, ◌++◌, refl, sym, ap, ◌∙◌, append_assoc}
use Rattle.m2_base.specs.declared.token.Token.{Token}
use Rattle.stream_split.specs.Cut.{State, next, goes, events, after, opens_by, opened, sort}

pub events_append : (s : State) (xs ys : List Token) → events s (xs ++ ys) ≡ events s xs ++ events (after s xs) ys
events_append s [] ys = refl
events_append s (x ∷ xs) ys = ap (λ z. goes s x ++ z) (events_append (next s x) xs ys) ∙ sym (append_assoc (goes s x) _ _)

pub after_append : (s : State) (xs ys : List Token) → after s (xs ++ ys) ≡ after (after s xs) ys
after_append s [] ys = refl
after_append s (x ∷ xs) ys = after_append (next s x) xs ys

pub opened_append : (s : State) (xs ys : List Token) → opened s (xs ++ ys) ≡ opened s xs ++ opened (after s xs) ys
opened_append s [] ys = refl
opened_append s (x ∷ xs) ys =
    ap (λ z. opens_by s (sort x.kind) ++ z) (opened_append (next s x) xs ys) ∙ sym (append_assoc (opens_by s (sort x.kind)) _ _)
