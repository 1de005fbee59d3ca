use Rattle.std.specs.List.{join_with_byte}
use Rattle.std.proofs.Common.{◌≡◌, ◌⊎◌, ◌++◌, ◌∷◌, [], drop, map, string_bytes}
use Rattle.span_page.specs.{AreAscending, folded_after, Coded.coded_after, Data.stack_json}
use Rattle.span_page.proofs.Appending.{with_frames}
use Rattle.span_page.proofs.stacks.put_each.Given as goal

-- what is appended, and then what the rest gives, is all
abbrev pub invariant-loop-frame : goal.invariant-loop-frame
invariant-loop-frame l = record {
  ascending : AreAscending (map (λ name. name.now) l.stack.items) (drop l.frame-index l.frames);
  comma : (l.comma ≡ []) ⊎ (l.comma ≡ 44 ∷ []);
  all : with_frames (string_bytes l.out) l.comma l.shared (map (λ name. name.now) l.stack.items) (drop l.frame-index l.frames)
      ≡ string_bytes l.fn.out ++ join_with_byte 44 (map stack_json (coded_after [] (folded_after [] l.frames)));
}
