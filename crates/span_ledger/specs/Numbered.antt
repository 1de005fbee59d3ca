-- The events of a thread with each name in place of another, as a number in place of a text.
use Rattle.std.specs.Prelude.{List, map}
use Rattle.span_ledger.specs.{Span, map_step, Begin, ThreadEvent}

module _ {N M : Type 0} (rename : N → M) where
  abbrev pub renamed_begin : Begin N → Begin M
  renamed_begin b = record { name = rename b.name; ts = b.ts; at = b.at; args = b.args }

  abbrev pub renamed_span : Span N → Span M
  renamed_span s = record { name = rename s.name; start = s.start; until = s.until; at = s.at; args = s.args }

  abbrev pub renamed_event : ThreadEvent N → ThreadEvent M
  renamed_event e = map_step renamed_begin renamed_span e

  abbrev pub renamed : List (ThreadEvent N) → List (ThreadEvent M)
  renamed es = map renamed_event es
