-- The thread that an event is on.
use Rattle.std.specs.{Ordering.int_eq, Prelude.{Bool, ◌&&◌}}
use Rattle.span_event.specs.declared.{event.Event.Event, thread.Thread.Thread}

abbrev pub thread_of : Event → Thread
thread_of event = record { pid = event.pid; tid = event.tid }

abbrev pub same_thread : Thread → Thread → Bool
same_thread a b = int_eq a.pid b.pid && int_eq a.tid b.tid
