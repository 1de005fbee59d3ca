-- The order of the values of arguments is total, and is that by which the program compares them.
use Rattle.std.specs.Cmp.{IsTotalOrder, bool_cmp_total, int_cmp_total, nat_cmp_total, on_total, then_total, Lexicographic.{nat_list_cmp_total, options_total}}
use Rattle.span_event.specs.{Args.{as_flag, as_text, as_whole}, Orders.{kind_place, value_cmp}}

-- the order of values is total
pub value_cmp_total : IsTotalOrder value_cmp
value_cmp_total = then_total (on_total kind_place nat_cmp_total) (then_total (on_total as_flag (options_total bool_cmp_total)) (then_total (on_total as_whole (options_total int_cmp_total)) (on_total as_text (options_total nat_list_cmp_total))))
