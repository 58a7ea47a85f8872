-- Objects have one code.
use Rattle.std.proofs.Common.{◌≡◌, ℕ, suc, ◌+◌, Bool, List, [], ◌∷◌, ◌++◌, length, sym, ◌∙◌, ap}
use Rattle.code_form.specs.declared.instr.Instr.{Instr}
use Rattle.code_form.specs.Modules.{Procedure}
use Rattle.object_file.specs.Contents.{Contents}
use Rattle.stack_machine.specs.Loading.{AreBlocks, AreBlocksOf, Block, IsBlock, IsLoaded, block_ops, block_origins, bodies_of, data_at, data_in, flat, frames_of, imports_in_out, routines_from}
use Rattle.stack_machine.specs.State.{Program}
use Rattle.stack_machine.specs.declared.code.Origin.{Origin}
use Rattle.stack_machine.specs.declared.code.Routine.{Routine}
use Rattle.stack_machine.specs.declared.op.Op.{Op}
use Rattle.stack_machine.proofs.ObjectFacts.{same_instrs}

abbrev block : (m : ℕ) → Contents → (k text : ℕ) → Procedure → List Instr → Block
block m o k text p is = record { «module» = m; object = o; number = k; text = text; procedure = p; instrs = is }

block_is : (m : ℕ) (o : Contents) (k text : ℕ) (p : Procedure) (b : Block) → IsBlock m o k text p b → b ≡ block m o k text p b.instrs
block_is m o k text p b h =
    ap (λ (x : ℕ). block x b.object b.number b.text b.procedure b.instrs) h.module_is
    ∙ ap (λ (x : Contents). block m x b.number b.text b.procedure b.instrs) h.object_is
    ∙ ap (λ (x : ℕ). block m o x b.text b.procedure b.instrs) h.number_is
    ∙ ap (λ (x : ℕ). block m o k x b.procedure b.instrs) h.text_is
    ∙ ap (λ (x : Procedure). block m o k text x b.instrs) h.procedure_is

one_block : (m : ℕ) (o : Contents) (k text : ℕ) (p : Procedure) (b c : Block) → IsBlock m o k text p b → IsBlock m o k text p c → b ≡ c
one_block m o k text p b c h g =
    block_is m o k text p b h ∙ ap (block m o k text p) (same_instrs p.code b.instrs c.instrs h.instrs g.instrs) ∙ sym (block_is m o k text p c g)

blocks_of_object : (m : ℕ) (o : Contents) (k text : ℕ) (ps : List Procedure) (bs cs : List Block) → AreBlocksOf m o k text ps bs → AreBlocksOf m o k text ps cs → bs ≡ cs
blocks_of_object m o k text [] bs cs h g = h ∙ sym g
blocks_of_object m o k text (p ∷ ps) bs cs h g =
    let one = one_block m o k text p h.0 g.0 h.3 g.3 in
    let more = blocks_of_object m o (suc k) (text + length p.bytes) ps h.1 g.1 h.4 g.4 in
    h.2 ∙ ap (λ (x : Block). x ∷ h.1) one ∙ ap (λ (xs : List Block). g.0 ∷ xs) more ∙ sym g.2

blocks_of_all : (m text : ℕ) (os : List Contents) (bs cs : List Block) → AreBlocks m text os bs → AreBlocks m text os cs → bs ≡ cs
blocks_of_all m text [] bs cs h g = h ∙ sym g
blocks_of_all m text (o ∷ os) bs cs h g =
    let own = blocks_of_object m o 0 text o.procedures h.0 g.0 h.3 g.3 in
    let more = blocks_of_all (suc m) (text + data_in o.procedures) os h.1 g.1 h.4 g.4 in
    h.2 ∙ ap (λ (xs : List Block). xs ++ h.1) own ∙ ap (λ (xs : List Block). g.0 ++ xs) more ∙ sym g.2

abbrev code_in : List Contents → List Block → Program
code_in os bs =
    record {
      ops = flat (block_ops os) 0 0 bs;
      origins = flat block_origins 0 0 bs;
      routines = routines_from os 0 bs;
      bodies = bodies_of os;
      frames_at = frames_of os;
      has_in_out = imports_in_out os;
    }

abbrev program : List Op → List Origin → List Routine → List ℕ → ℕ → Bool → Program
program ops origins routines bodies frames_at has_in_out =
    record { ops = ops; origins = origins; routines = routines; bodies = bodies; frames_at = frames_at; has_in_out = has_in_out }

code_is : (os : List Contents) (p : Program) (h : IsLoaded os p) → p ≡ code_in os h.blocks
code_is os p h =
    ap (λ (x : List Op). program x p.origins p.routines p.bodies p.frames_at p.has_in_out) h.ops
    ∙ ap (λ (x : List Origin). program (flat (block_ops os) 0 0 h.blocks) x p.routines p.bodies p.frames_at p.has_in_out) h.origins
    ∙ ap (λ (x : List Routine). program (flat (block_ops os) 0 0 h.blocks) (flat block_origins 0 0 h.blocks) x p.bodies p.frames_at p.has_in_out) h.routines
    ∙ ap (λ (x : List ℕ). program (flat (block_ops os) 0 0 h.blocks) (flat block_origins 0 0 h.blocks) (routines_from os 0 h.blocks) x p.frames_at p.has_in_out) h.bodies
    ∙ ap (λ (x : ℕ). program (flat (block_ops os) 0 0 h.blocks) (flat block_origins 0 0 h.blocks) (routines_from os 0 h.blocks) (bodies_of os) x p.has_in_out) h.frames_at
    ∙ ap (λ (x : Bool). program (flat (block_ops os) 0 0 h.blocks) (flat block_origins 0 0 h.blocks) (routines_from os 0 h.blocks) (bodies_of os) (frames_of os) x) h.has_in_out

pub one_code : (os : List Contents) (p q : Program) → IsLoaded os p → IsLoaded os q → p ≡ q
one_code os p q h g =
    code_is os p h ∙ ap (code_in os) (blocks_of_all 0 (data_at os) os h.blocks g.blocks h.are g.are) ∙ sym (code_is os q g)
