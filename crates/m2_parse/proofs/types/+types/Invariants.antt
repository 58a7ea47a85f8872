use Rattle.std.proofs.Common.{◌+◌, ◌*◌, map}
use Rattle.ll_grammar.specs.Readers.{all}
use Rattle.ll_grammar.proofs.Loops.{SeparatedSoFar}
use Rattle.m2_base.specs.Grammar.{number_of_token}
use Rattle.m2_base.specs.Views.{field_list_view, variant_arm_view}
use Rattle.m2_parse.specs.ReadExpressions.{factor_at}
use Rattle.m2_parse.specs.ReadTypes.{type_at, field_at, optional_field_with, fields_with, variant_with, variants_with}
use Rattle.m2_parse.proofs.types.+types.Given as goal

abbrev pub decreases-type_expr : goal.decreases-type_expr
decreases-type_expr l = 7 * l.depth + 0

abbrev pub decreases-field : goal.decreases-field
decreases-field l = 7 * l.depth + 0

abbrev pub decreases-pointer : goal.decreases-pointer
decreases-pointer l = 7 * l.depth + 1

abbrev pub decreases-plain_fields : goal.decreases-plain_fields
decreases-plain_fields l = 7 * l.depth + 1

abbrev pub decreases-array : goal.decreases-array
decreases-array l = 7 * l.depth + 1

abbrev pub decreases-optional_field : goal.decreases-optional_field
decreases-optional_field l = 7 * l.depth + 1

abbrev pub decreases-fields : goal.decreases-fields
decreases-fields l = 7 * l.depth + 2

abbrev pub decreases-record_type : goal.decreases-record_type
decreases-record_type l = 7 * l.depth + 3

abbrev pub decreases-other_fields : goal.decreases-other_fields
decreases-other_fields l = 7 * l.depth + 3

abbrev pub decreases-variant : goal.decreases-variant
decreases-variant l = 7 * l.depth + 3

abbrev pub decreases-variants : goal.decreases-variants
decreases-variants l = 7 * l.depth + 4

abbrev pub decreases-case_fields : goal.decreases-case_fields
decreases-case_fields l = 7 * l.depth + 5

abbrev pub decreases-inner_field : goal.decreases-inner_field
decreases-inner_field l = 7 * l.depth + 6

abbrev pub decreases-inner_type : goal.decreases-inner_type
decreases-inner_type l = 7 * l.depth + 6

abbrev pub invariant-fields-loop : goal.invariant-fields-loop
invariant-fields-loop l =
    SeparatedSoFar number_of_token 57 (optional_field_with (factor_at l.depth) (type_at l.depth) (field_at l.depth)) all (map field_list_view l.items.items) l.end l.counter l.tokens.list.now (fields_with (factor_at l.depth) (type_at l.depth) (field_at l.depth) l.fn.tokens.list.now)

abbrev pub invariant-variants-loop : goal.invariant-variants-loop
invariant-variants-loop l =
    SeparatedSoFar number_of_token 73 (variant_with (factor_at l.depth) (type_at l.depth) (field_at l.depth)) all (map variant_arm_view l.items.items) l.end l.counter l.tokens.list.now (variants_with (factor_at l.depth) (type_at l.depth) (field_at l.depth) l.fn.tokens.list.now)
