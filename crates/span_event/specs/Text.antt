-- Texts as their bytes, and the bytes of a text, however it is held.
use Rattle.std.specs.{Arc.arc_str_bytes, Cmp.Lexicographic.{pointwise, slice_cmp}, Ordering.nat_cmp, Prelude.{ℕ, List, Bool, nat_eq}, declared.cmp.Ordering.Ordering}
use Rattle.span_event.specs.declared.text.Held.{Held, TheVariants.{Short, Long}}

-- a text, as its bytes
abbrev pub Bytes : Type 0
Bytes = List ℕ

-- by bytes
abbrev pub text_cmp : Bytes → Bytes → Ordering
text_cmp = slice_cmp nat_cmp

abbrev pub same_text : Bytes → Bytes → Bool
same_text = pointwise nat_eq

abbrev pub held_bytes : Held → Bytes
held_bytes (Short text) = text
held_bytes (Long text) = arc_str_bytes text
