-- What a module has that its code can name.
use Rattle.std.specs.Prelude.{ℕ, List}
use Rattle.code_form.specs.Heights.{Callee}

-- an imported definition as it was when the module was compiled: its cells, and what its headings take and leave
pub record Import : Type 0 where
  pub name : List ℕ
  pub cells : ℕ
  pub headings : List Callee

-- A procedure: the one that directly encloses it (0: none), the cells of its parameters, its result (0 or 1), its
-- cells, its greatest height, its data and its code. Procedure 0 is the module's body,
-- whose cells are its temporary cells.
pub record Procedure : Type 0 where
  pub outer : ℕ
  pub params : ℕ
  pub result : ℕ
  pub locals : ℕ
  pub high : ℕ
  pub bytes : List ℕ
  pub code : List ℕ

-- the module's own cells, its imports and its procedures
pub record World : Type 0 where
  pub cells : ℕ
  pub imports : List Import
  pub procedures : List Procedure
