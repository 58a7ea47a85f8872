use Rattle.def_import.proofs.Beginning.{begun_kept, few_standard}
use Rattle.def_import.proofs.begin.begin.Goals as goal

pub intern-requires : goal.intern-requires
intern-requires c = few_standard c.in_ok-names.names c.in_ok-names.ensures

pub invariant_of-progress : goal.invariant_of-progress
invariant_of-progress c =
    begun_kept c.args.file.now c.in_ok-names.names c.intern.new.self c.new-2.result.items c.new-4.result.items c.new-3.result.keys c.in_ok-names.ensures c.in_ok-number.ensures.names c.new-2.ensures.items
    c.new-4.ensures.items c.new-3.ensures.empty
