-- What a definition gives: its value, and beside it the diagnostics and the answers of the uses that it binds,
-- in text order.
use Rattle.std.specs.Prelude.{◌≡◌, List, [], ◌∷◌, ◌++◌}
use Rattle.m2_base.specs.declared.notes.Answer.{Answer}
use Rattle.m2_base.specs.declared.notes.Diag.{Diag}
use Rattle.m2_base.specs.declared.notes.Notes.{Notes}

pub record Gives (T : Type 0) : Type 0 where
  pub value : T
  pub diags : List Diag
  pub answers : List Answer

-- a value alone
abbrev pub gives : {T : Type 0} → T → Gives T
gives v = record { value = v; diags = []; answers = [] }

-- a value with one diagnostic
abbrev pub gives_with : {T : Type 0} → Diag → T → Gives T
gives_with d v = record { value = v; diags = d ∷ []; answers = [] }

-- a value with one answer
abbrev pub gives_answer : {T : Type 0} → Answer → T → Gives T
gives_answer a v = record { value = v; diags = []; answers = a ∷ [] }

-- what f gives of the value, after what a gives
abbrev pub and_then : {A B : Type 0} → Gives A → (A → Gives B) → Gives B
and_then a f =
    record {
      value = (f a.value).value;
      diags = a.diags ++ (f a.value).diags;
      answers = a.answers ++ (f a.value).answers;
    }

-- the value is the definition's, and the notes have grown by its diagnostics and answers
pub record Adds {T : Type 0} (before after : Notes) (given : Gives T) (value : T) : Type 0 where
  pub value_is : value ≡ given.value
  pub diags : after.diags.items ≡ before.diags.items ++ given.diags
  pub answers : after.answers.items ≡ before.answers.items ++ given.answers
