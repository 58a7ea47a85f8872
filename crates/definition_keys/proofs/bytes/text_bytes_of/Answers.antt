use Rattle.definition_keys.proofs.TextBytes.{text_step}
use Rattle.definition_keys.proofs.TextFits.{fits_step}
use Rattle.definition_keys.proofs.bytes.text_bytes_of.Goals as goal

pub loop-token-preserved : goal.loop-token-preserved
loop-token-preserved c =
    let told =
    text_step c.args.names.now c.args.tokens.now c.loop-token.token-index _ c.loop-token.bytes.items c.push_token.new.bytes.items c.loop-token-test.true c.loop-token.invariant.told c.in_ok-push_token.ensures.bytes in
    let fits = fits_step c.args.tokens.now c.loop-token.token-index _ c.loop-token-test.true c.loop-token.invariant.fits c.push_token.ensures.fits in
    record { told = told; fits = fits }
