use Rattle.std.proofs.Common.{◌∙◌, map, string_bytes}
use Rattle.clap.specs.Matches.{found_of}
use Rattle.clap.specs.Simple.{app_of}
use Rattle.clap.specs.Walk.{rows_of}
use Rattle.command_words.proofs.Reading.{refused_reads, taken_reads}
use Rattle.command_words.proofs.given.read.Goals as goal

pub returns-in-Ok : goal.returns-in-Ok
returns-in-Ok c =
    taken_reads c.args.verb (map string_bytes c.args.words.now) (app_of c.in_ok-command.command) c.in_ok-command.ensures (rows_of (found_of c.in-Ok.matches)) c.given_in.result c.in-Ok.ensures.kinds (λ h. (c.in-Ok.ensures.matches h).0) c.given_in.ensures

pub returns : goal.returns
returns c =
    refused_reads c.args.verb (map string_bytes c.args.words.now) (app_of c.in_ok-command.command) c.in_ok-command.ensures c.in-Err.error c.in-Err.ensures.kinds (λ e. c.in_default.not-OutOfMemory (c.kind.ensures ∙ e))
