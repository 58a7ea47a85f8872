-- How an implementation module implements what its definition promises, as the code has it.
use Rattle.std.specs.Prelude.{Bool, ℕ, ◌+◌}
use Rattle.m2_base.specs.Statics.Closing as plain
use Rattle.m2_base.specs.declared.rows.Place.{Place}
use Rattle.m2_base.specs.declared.rows.RowMeaning.{RowMeaning}
use Rattle.decl_sem.specs.declared.implementing.Implemented.{Implemented}
use Rattle.decl_sem.specs.declared.implementing.Implemented.TheVariants.{Differs, Fully, Missing}

-- how a row is implemented, as the definitions see it
abbrev pub implemented_view : Implemented → plain.Implemented
implemented_view Fully = plain.is_implemented
implemented_view Missing = plain.is_missing
implemented_view (Differs at) = plain.differs_at at
