use Rattle.m2_base.proofs.LoneModules.{lone_read}
use Rattle.m2_base.proofs.static_laws.lone_modules_are_read.Goals as goal

pub returns : goal.returns
returns c = lone_read
