-- The orders of ids, of reaches, of threads and of the values of arguments.
use Rattle.std.specs.{Option.{option_cmp, option_eq}, Ordering.{bool_cmp, nat_cmp, int_cmp, int_eq, on, ordering_then, then_cmp}, Prelude.{ℕ, Bool, ◌&&◌}, declared.cmp.Ordering.Ordering}
use Rattle.span_event.specs.{Args.{as_flag, as_text, as_whole}, Text.{text_cmp, same_text}, declared.{args.ArgValue.{ArgValue, TheVariants.{Nil, Flag, Whole, Words, Other}}, event.{IdKey.IdKey, Reach.{Reach, TheVariants.{Global, Process, Thread as OneThread}}}, thread.Thread.Thread}}

-- by home, none before any and then by number; and then by the bytes of the id
abbrev pub id_cmp : IdKey → IdKey → Ordering
id_cmp = then_cmp (on (λ k. k.home) (option_cmp int_cmp)) (on (λ k. k.id) text_cmp)

-- of one home, or of none, and of the same bytes
abbrev pub same_id : IdKey → IdKey → Bool
same_id a b = option_eq int_eq a.home b.home && same_text a.id b.id

abbrev pub place_of : Reach → ℕ
place_of Global = 0
place_of Process = 1
place_of OneThread = 2

-- the wider reach first
abbrev pub reach_cmp : Reach → Reach → Ordering
reach_cmp = on place_of nat_cmp

-- by process, and then by the number of the thread
abbrev pub thread_cmp : Thread → Thread → Ordering
thread_cmp a b = ordering_then (int_cmp a.pid b.pid) (int_cmp a.tid b.tid)

abbrev pub kind_place : ArgValue → ℕ
kind_place Nil = 0
kind_place (Flag b) = 1
kind_place (Whole n) = 2
kind_place (Words w) = 3
kind_place Other = 4

-- by kind, and then false before true, whole numbers by value, and texts by their bytes
abbrev pub value_cmp : ArgValue → ArgValue → Ordering
value_cmp = then_cmp (on kind_place nat_cmp) (then_cmp (on as_flag (option_cmp bool_cmp)) (then_cmp (on as_whole (option_cmp int_cmp)) (on as_text (option_cmp text_cmp))))
