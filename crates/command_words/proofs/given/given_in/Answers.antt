use Rattle.std.proofs.Common.{◌∙◌, ap, MatchOption, option_map, subst, sym}
use Rattle.clap.specs.Matches.{found_of}
use Rattle.clap.specs.Walk.{rows_of}
use Rattle.command_words.specs.Asking.{Finds, FindsNone}
use Rattle.command_words.specs.Words.{given_of}
use Rattle.command_words.specs.declared.setting.Setting.TheVariants.{Workers, Steps, Cells}
use Rattle.command_words.proofs.Found.{all_found, no_operand, no_value, operand_read, value_read}
use Rattle.command_words.proofs.given.given_in.Goals as goal

pub returns-in_err-operand : goal.returns-in_err-operand
returns-in_err-operand c =
    let f = found_of c.args.matches.now in
    subst (λ o. MatchOption o (FindsNone (rows_of f)) (λ given. Finds (rows_of f) (given_of given))) (sym c.from_residual.ensures)
    (no_operand (rows_of f) c.operand_found.result (operand_read f c.get_str.result c.operand_found.result c.get_str.ensures c.operand_found.ensures) c.in_err-operand.was)

pub returns-in_err-workers : goal.returns-in_err-workers
returns-in_err-workers c =
    let f = found_of c.args.matches.now in
    subst (λ o. MatchOption o (FindsNone (rows_of f)) (λ given. Finds (rows_of f) (given_of given))) (sym c.from_residual-in_err-workers.ensures)
    (no_value (rows_of f) Workers c.value_found.result (value_read f c.get_str-2.result Workers c.value_found.result c.get_str-2.ensures c.value_found.ensures) c.in_err-workers.was)

pub returns-in_err-steps : goal.returns-in_err-steps
returns-in_err-steps c =
    let f = found_of c.args.matches.now in
    subst (λ o. MatchOption o (FindsNone (rows_of f)) (λ given. Finds (rows_of f) (given_of given))) (sym c.from_residual-in_err-steps.ensures)
    (no_value (rows_of f) Steps c.value_found-2.result (value_read f c.get_str-3.result Steps c.value_found-2.result c.get_str-3.ensures c.value_found-2.ensures) c.in_err-steps.was)

pub returns-in_err-cells : goal.returns-in_err-cells
returns-in_err-cells c =
    let f = found_of c.args.matches.now in
    subst (λ o. MatchOption o (FindsNone (rows_of f)) (λ given. Finds (rows_of f) (given_of given))) (sym c.from_residual-in_err-cells.ensures)
    (no_value (rows_of f) Cells c.value_found-3.result (value_read f c.get_str-4.result Cells c.value_found-3.result c.get_str-4.ensures c.value_found-3.ensures) c.in_err-cells.was)

pub returns : goal.returns
returns c =
    let f = found_of c.args.matches.now in
    all_found (rows_of f) (given_of (record { operand = c.in_ok-operand.operand; workers = c.in_ok-workers.workers; steps = c.in_ok-steps.steps; cells = c.in_ok-cells.cells }))
    (operand_read f c.get_str.result c.operand_found.result c.get_str.ensures c.operand_found.ensures ∙ ap (option_map (option_map (λ s. s.now))) c.in_ok-operand.was)
    (value_read f c.get_str-2.result Workers c.value_found.result c.get_str-2.ensures c.value_found.ensures ∙ c.in_ok-workers.was)
    (value_read f c.get_str-3.result Steps c.value_found-2.result c.get_str-3.ensures c.value_found-2.ensures ∙ c.in_ok-steps.was)
    (value_read f c.get_str-4.result Cells c.value_found-3.result c.get_str-4.ensures c.value_found-3.ensures ∙ c.in_ok-cells.was)
