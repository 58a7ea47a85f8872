use Rattle.m2_base.proofs.StandingNotes.{places, texts}
use Rattle.block_laws.proofs.StandingBlocks.{block_in_text, block_stands}
use Rattle.block_laws.proofs.notes.blocks_stand_in_their_texts.Goals as goal

pub returns-clause-texts : goal.returns-clause-texts
returns-clause-texts c = λ source before all b. texts (block_in_text source before all b)

pub returns-clause-tokens : goal.returns-clause-tokens
returns-clause-tokens c = λ n source before all b h home made. places (block_stands n source before all b h home made)
