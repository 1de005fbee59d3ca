use Rattle.std.proofs.Common.{◌≡◌, ◌≤◌, ◌-◌, ◌++◌, length, replicate, string_bytes}
use Rattle.span_table_text.proofs.lines.put_right.Given as goal

-- the blanks so far, which are no more than there have to be
abbrev pub invariant-loop : goal.invariant-loop
invariant-loop l = record {
  written : string_bytes l.out ≡ string_bytes l.fn.out ++ replicate (l.counter - length l.text) 32;
  within : l.counter - length l.text ≤ l.width - length l.text;
}
