-- What is given by the words that clap found, from what the program read of them.
use Rattle.std.proofs.Common.{◌≡◌, ℕ, List, Option, Some, None, option_map, sym, ◌∙◌, ap}
use Rattle.std.specs.Borrow.{Bor}
use Rattle.clap.specs.Matches.{first_value}
use Rattle.clap.specs.Walk.{Row, first_of, rows_of}
use Rattle.clap.specs.declared.parser.matches.Found.{Found}
use Rattle.clap.proofs.WalkLemmas.{first_value-rows}
use Rattle.command_words.specs.Asking.{Finds, FindsNone, id_of, operand_found, operand_id, value_found, value_of}
use Rattle.command_words.specs.Parts.{Given}
use Rattle.command_words.specs.declared.setting.Setting.{Setting}
use Rattle.command_words.specs.declared.setting.Setting.TheVariants.{Workers, Steps, Cells}

none_some : {A : Type 0} (x : A) → None ≡ Some x → ⊥
none_some x e = cc

abbrev text_of : Option (Bor (List ℕ)) → Option (List ℕ)
text_of = option_map (λ s. s.now)

module _ (f : Found) (got : Option (Bor (List ℕ))) where
  pub operand_read : (r : Option (Option (Bor (List ℕ)))) → text_of got ≡ first_value f operand_id → option_map text_of r ≡ operand_found (text_of got) → operand_found (first_of operand_id (rows_of f)) ≡ option_map text_of r
  operand_read r is read = ap operand_found (sym (is ∙ first_value-rows f operand_id)) ∙ sym read

  pub value_read : (s : Setting) (r : Option (Option ℕ)) → text_of got ≡ first_value f (id_of s) → r ≡ value_found s (text_of got) → value_found s (first_of (id_of s) (rows_of f)) ≡ r
  value_read s r is read = ap (value_found s) (sym (is ∙ first_value-rows f (id_of s))) ∙ sym read

module _ (rows : List Row) where
  pub no_operand : (r : Option (Option (Bor (List ℕ)))) → operand_found (first_of operand_id rows) ≡ option_map text_of r → r ≡ None → FindsNone rows
  no_operand r is none g finds = none_some g.operand (ap (option_map text_of) (sym none) ∙ sym is ∙ finds.operand)

  pub no_value : (s : Setting) (r : Option (Option ℕ)) → value_found s (first_of (id_of s) rows) ≡ r → r ≡ None → FindsNone rows
  no_value s r is none g finds = none_some (value_of g s) (sym none ∙ sym is ∙ finds.values s)

  pub all_found : (g : Given) → operand_found (first_of operand_id rows) ≡ Some g.operand → value_found Workers (first_of (id_of Workers) rows) ≡ Some g.workers → value_found Steps (first_of (id_of Steps) rows) ≡ Some g.steps
      → value_found Cells (first_of (id_of Cells) rows) ≡ Some g.cells → Finds rows g
  all_found g operand workers steps cells = record { operand = operand; values = λ s. values s }
    where
      values : (s : Setting) → value_found s (first_of (id_of s) rows) ≡ Some (value_of g s)
      values Workers = workers
      values Steps = steps
      values Cells = cells
