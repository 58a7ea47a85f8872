use Rattle.std.proofs.Common.{◌≡◌, arith, length, refl}
use Rattle.module_outcome.specs.Counts.{diagnostic_counts, object_counts}
use Rattle.module_outcome.proofs.Tellings.{same_counts, tells_diagnostics, tells_nesting, tells_object}
use Rattle.compile_command.proofs.telling.tell_merged.Goals as goal

pub returns-in_ok-code-in-Code : goal.returns-in_ok-code-in-Code
returns-in_ok-code-in-Code c =
    let unit = c.args.texts.now in
    let contents = c.in-Code.contents in
    let sizes = c.in_ok-code-in-Code.ensures in
    tells_object unit contents (rw c.in-Code.is at c.requires.comes) _
    (same_counts (object_counts unit contents) _ _ _ _ _ c.tokens_of-tokens.ensures.tokens c.requires.streams sizes.code sizes.object refl)

pub returns-in-Diags : goal.returns-in-Diags
returns-in-Diags c =
    let unit = c.args.texts.now in
    let diags = c.in-Diags.diags in
    let count : c.len-diags.result ≡ length diags.items = omega (arith, c.len-diags.ensures, diags.ok.0) in
    tells_diagnostics unit diags.items (rw c.in-Diags.is at c.requires.comes) _
    (same_counts (diagnostic_counts unit diags.items) _ _ _ _ _ c.tokens_of-tokens.ensures.tokens c.requires.streams refl refl count)

pub returns-in-TooDeep : goal.returns-in-TooDeep
returns-in-TooDeep c = tells_nesting c.args.texts.now c.in-TooDeep.text c.in-TooDeep.at (rw c.in-TooDeep.is at c.requires.comes)
