-- The import with a number.
use Rattle.std.proofs.Common.{◌≡◌, ℕ, zero, suc, ◌-◌, ◌<◌, sym, ap, arith}
use Rattle.std.specs.Prelude.{slice_get}
use Rattle.code_form.specs.Modules.{World}
use Rattle.code_form.specs.Valid.{import_of}

pub import_from_1 : (w : World) (m : ℕ) → 0 < m → import_of w m ≡ slice_get w.imports (m - 1)
import_from_1 w zero h = absurd (omega arith)
import_from_1 w (suc m) h = let n : suc m - 1 ≡ m = omega arith in ap (slice_get w.imports) (sym n)
