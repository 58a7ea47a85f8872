use Rattle.type_rules.proofs.Reading.{Reads-trans, Waits_read}
use Rattle.decl_sem.proofs.ArrayCells.{cells_told, of_some_row}
use Rattle.decl_sem.proofs.Asking.{behind_read, making_read}
use Rattle.std.proofs.Common.{◌≡◌, ◌*◌, ◌<◌, ◌≤◌, ◌^◌, ℕ, arith, max}
use Rattle.m2_base.specs.Statics.Cells.{capped}
use Rattle.decl_sem.proofs.arrays.array_cells.Goals as goal

-- an array has a cell, and a number of 32 bits says how many
some_cell : (size n : ℕ) → size ≡ capped (max 1 n) → 1 ≤ size
some_cell size n is = omega (arith, is)

few_cells : (size n : ℕ) → size ≡ capped (max 1 n) → size < 2 ^ 32
few_cells size n is = omega (arith, is)

pub cells_of-requires-clause-making : goal.cells_of-requires-clause-making
cells_of-requires-clause-making g c = making_read c.in-Known.ensures.reads c.requires.making

pub cells_of-requires-clause-of : goal.cells_of-requires-clause-of
cells_of-requires-clause-of g c = behind_read c.in-Known.ensures.reads c.requires.of

pub returns-in-DontKnowYet-cells_of-clause-reads : goal.returns-in-DontKnowYet-cells_of-clause-reads
returns-in-DontKnowYet-cells_of-clause-reads g c = Reads-trans c.in-Known.ensures.reads c.in-DontKnowYet-cells_of.ensures.reads

pub returns-in-DontKnowYet-cells_of-clause-waits : goal.returns-in-DontKnowYet-cells_of-clause-waits
returns-in-DontKnowYet-cells_of-clause-waits g c = Waits_read c.in-Known.ensures.reads c.in-DontKnowYet-cells_of.ensures.waits

pub returns-clause-reads : goal.returns-clause-reads
returns-clause-reads g c = Reads-trans c.in-Known.ensures.reads c.in-Known-cells_of.ensures.reads

pub returns-clause-told : goal.returns-clause-told
returns-clause-told g c hand in_hand told same =
    cells_told c.args.made.now c.args.site.now c.args.index c.args.of c.in-Known.value c.in-Known-cells_of.value c.cells_by.result c.elements_by-elements.result c.stand_in.ensures.reads c.in-Known.ensures.told c.in-Known-cells_of.ensures.told
    c.elements_by-elements.ensures c.cells_by.ensures hand in_hand told same

pub stand_in-requires-clause-making : goal.stand_in-requires-clause-making
stand_in-requires-clause-making g c = c.requires.making

pub stand_in-requires-clause-there : goal.stand_in-requires-clause-there
stand_in-requires-clause-there g c = c.requires.index

pub elements_by-elements-requires : goal.elements_by-elements-requires
elements_by-elements-requires g c = of_some_row c.in-Known.ensures.said

pub returns-clause-some : goal.returns-clause-some
returns-clause-some g c = some_cell c.cells_by.result (c.elements_by-elements.result * c.in-Known-cells_of.value) c.cells_by.ensures

pub returns-clause-few : goal.returns-clause-few
returns-clause-few g c = few_cells c.cells_by.result (c.elements_by-elements.result * c.in-Known-cells_of.value) c.cells_by.ensures

pub returns-clause-waits : goal.returns-clause-waits
returns-clause-waits g c = tt

pub returns-in-DontKnowYet : goal.returns-in-DontKnowYet
returns-in-DontKnowYet g c = record { reads = c.in-DontKnowYet.ensures.reads; waits = c.in-DontKnowYet.ensures.waits; told = λ _ _ _ _. tt; some = tt; few = tt }

pub returns-in-DontKnowYet-cells_of-clause-told : goal.returns-in-DontKnowYet-cells_of-clause-told
returns-in-DontKnowYet-cells_of-clause-told g c hand in_hand told same = tt

pub returns-in-DontKnowYet-cells_of-clause-some : goal.returns-in-DontKnowYet-cells_of-clause-some
returns-in-DontKnowYet-cells_of-clause-some g c = tt

pub returns-in-DontKnowYet-cells_of-clause-few : goal.returns-in-DontKnowYet-cells_of-clause-few
returns-in-DontKnowYet-cells_of-clause-few g c = tt
