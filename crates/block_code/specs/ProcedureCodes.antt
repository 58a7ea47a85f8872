-- The code of a procedure as the program holds it.
use Rattle.m2_base.specs.declared.outputs.ProcCode.{ProcCode}
use Rattle.block_code.specs.BlockCode.{ProcedureCode}

-- as plain data
abbrev pub code_view : ProcCode → ProcedureCode
code_view p =
    record {
      outer = p.outer;
      params = p.params;
      result = p.result;
      locals = p.locals;
      high = p.high;
      bytes = p.bytes.items;
      code = p.code.items;
    }
