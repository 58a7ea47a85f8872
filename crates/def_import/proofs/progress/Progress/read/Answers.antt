use Rattle.std.proofs.Common.{◌+◌, ◌≤◌, length, sym, subst, arith}
use Rattle.std.proofs.lemmas.Result.{err_from_is_err_and}
use Rattle.def_import.specs.Closure.{IsKept, Progress, progress_of}
use Rattle.def_import.specs.Outcomes.{Passes, Reads}
use Rattle.def_import.specs.Views.{fault_of}
use Rattle.def_import.proofs.Limits.{same_fault, when_naming, when_unit}
use Rattle.def_import.proofs.OneMore.{reads_on, reads_one, too_many_named}
use Rattle.def_import.proofs.progress.Progress.read.Goals as goal

pub read_text-requires : goal.read_text-requires
read_text-requires c =
    let kept : IsKept (progress_of c.self.inside.parts.names c.self.inside.parts.found.items c.self.inside.parts.asked.items) c.self.inside.parts.modules.keys c.self.inside.parts.tokens = c.self.invariant in
    omega (arith, kept.few_names, kept.few_tokens)

pub returns-in_err-found-clause-limits : goal.returns-in_err-found-clause-limits
returns-in_err-found-clause-limits c =
    let p = err_from_is_err_and c.from_residual.result c.from_residual.ensures.1 in
    rw (p.1, p.2) (λ limit h. subst (λ (s : Progress). Passes s.names s.found c.args.definition c.args.name c.args.bytes.now limit) c.self.view_is
    (c.in_err-found.ensures.limits c.self.inside.parts.found.items limit (same_fault c.in_err-found.field-0.0 (fault_of limit) h)))

pub overflow_add-self : goal.overflow_add-self
overflow_add-self c =
    let kept : IsKept (progress_of c.self.inside.parts.names c.self.inside.parts.found.items c.self.inside.parts.asked.items) c.self.inside.parts.modules.keys c.self.inside.parts.tokens = c.self.invariant in
    omega (arith, kept.few_tokens, c.in_ok-found.ensures.read.few, c.count.ensures)

pub returns-then-self-gt-MOST_UNIT_TOKENS-clause-limits : goal.returns-then-self-gt-MOST_UNIT_TOKENS-clause-limits
returns-then-self-gt-MOST_UNIT_TOKENS-clause-limits c =
    let kept : IsKept (progress_of c.self.inside.parts.names c.self.inside.parts.found.items c.self.inside.parts.asked.items) c.self.inside.parts.modules.keys c.self.inside.parts.tokens = c.self.invariant in
    λ limit h. subst (λ (s : Progress). Passes s.names s.found c.args.definition c.args.name c.args.bytes.now limit) c.self.view_is
    (when_unit c.self.inside.parts.names c.self.inside.parts.found.items c.args.definition c.args.name c.args.bytes.now limit c.in_ok-found.ensures.read (omega (arith, kept.tokens, c.count.ensures, c.if-self-gt-MOST_UNIT_TOKENS.true)) h)

pub returns-in_err-name_modules-clause-limits : goal.returns-in_err-name_modules-clause-limits
returns-in_err-name_modules-clause-limits c =
    let kept : IsKept (progress_of c.self.inside.parts.names c.self.inside.parts.found.items c.self.inside.parts.asked.items) c.self.inside.parts.modules.keys c.self.inside.parts.tokens = c.self.invariant in
    let p = err_from_is_err_and c.from_residual-in_err-name_modules.result c.from_residual-in_err-name_modules.ensures.1 in
    rw (p.1, p.2) (λ limit h. subst (λ (s : Progress). Passes s.names s.found c.args.definition c.args.name c.args.bytes.now limit) c.self.view_is
    (when_naming c.self.inside.parts.names c.self.inside.parts.found.items c.args.definition c.args.name c.args.bytes.now c.in_err-name_modules.field-0.0 limit c.in_ok-found.ensures.read
    (omega (arith, kept.tokens, c.count.ensures, c.if-self-gt-MOST_UNIT_TOKENS.false))
    (λ e. too_many_named c.self.inside.parts.found.items c.self.inside.parts.modules.keys c.in_ok-found.found kept.modules (c.in_err-name_modules.ensures.too_many e))
    c.in_err-name_modules.ensures.fault h))

pub invariant_of-self : goal.invariant_of-self
invariant_of-self c =
    let kept : IsKept (progress_of c.self.inside.parts.names c.self.inside.parts.found.items c.self.inside.parts.asked.items) c.self.inside.parts.modules.keys c.self.inside.parts.tokens = c.self.invariant in
    let room : length c.self.inside.parts.found.items ≤ length c.self.inside.parts.asked.items = subst (λ (s : Progress). length s.found ≤ length s.asked) (sym c.self.view_is) c.requires in
    let fits : c.self.inside.parts.tokens + length c.in_ok-found.found.text.tokens ≤ 4194304 = omega (arith, c.count.ensures, c.if-self-gt-MOST_UNIT_TOKENS.false) in
    subst (λ n. IsKept (progress_of c.read_text.new.names c.push.new.self.items c.self.inside.parts.asked.items) c.name_modules.new.modules.keys (c.self.inside.parts.tokens + n)) (sym c.count.ensures)
    (reads_on (progress_of c.self.inside.parts.names c.self.inside.parts.found.items c.self.inside.parts.asked.items) c.self.inside.parts.modules.keys c.name_modules.new.modules.keys c.self.inside.parts.tokens c.args.definition
    c.args.name c.args.bytes.now c.read_text.new.names c.in_ok-found.found kept c.in_ok-found.ensures.read c.in_ok-name_modules.ensures.named room c.in_ok-name_modules.ensures.few fits c.push.new.self.items
    c.in_ok-push.ensures.items)

pub returns-clause-read : goal.returns-clause-read
returns-clause-read c =
    let kept : IsKept (progress_of c.self.inside.parts.names c.self.inside.parts.found.items c.self.inside.parts.asked.items) c.self.inside.parts.modules.keys c.self.inside.parts.tokens = c.self.invariant in
    let fits : c.self.inside.parts.tokens + length c.in_ok-found.found.text.tokens ≤ 4194304 = omega (arith, c.count.ensures, c.if-self-gt-MOST_UNIT_TOKENS.false) in
    subst (λ (s : Progress). Reads s c.args.definition c.args.name c.args.bytes.now (progress_of c.read_text.new.names c.push.new.self.items c.self.inside.parts.asked.items)) c.self.view_is
    (reads_one (progress_of c.self.inside.parts.names c.self.inside.parts.found.items c.self.inside.parts.asked.items) c.self.inside.parts.modules.keys c.name_modules.new.modules.keys c.self.inside.parts.tokens c.args.definition
    c.args.name c.args.bytes.now c.read_text.new.names c.in_ok-found.found kept c.in_ok-found.ensures.read c.in_ok-name_modules.ensures.named c.in_ok-name_modules.ensures.few fits c.push.new.self.items
    c.in_ok-push.ensures.items)
