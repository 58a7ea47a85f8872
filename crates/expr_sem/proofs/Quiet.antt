-- Notes that have nothing: what holds whatever the notes, holds of these.
use Rattle.std.proofs.Common.{[], refl, arith}
use denote.RawPtr.{null_ptr}
use Rattle.m2_base.specs.declared.notes.Notes.{Notes}
use Rattle.expr_sem.specs.declared.fragments.Fragments.{Fragments}

pub no_notes : Fragments → Notes
no_notes f = record {
  diags = record { ptr = null_ptr; len = 0; cap = 0; alloc = f.nodes.alloc; items = []; ok = (refl, omega arith); small = omega arith };
  answers = record { ptr = null_ptr; len = 0; cap = 0; alloc = f.nodes.alloc; items = []; ok = (refl, omega arith); small = omega arith };
}
