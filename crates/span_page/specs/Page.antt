-- A page for a browser.
use Rattle.std.specs.Prelude.{ℕ, List, ◌++◌}
use Rattle.span_page.specs.{Unit, Entry, FileEnd, Input, SpanColumn, Data.data_of, Safe.safe, declared.fixed.TheConstants.{BEFORE, BEHIND}}

-- the fixed texts, which are too long for a proof to look into
unfoldable pub text_before : List ℕ
text_before = BEFORE.now

unfoldable pub text_behind : List ℕ
text_behind = BEHIND.now

-- A fixed text, the data in this unit, and another fixed text. Frames are labels by these columns, and the table of spans is this text.
unfoldable pub page_of : Unit → List SpanColumn → List ℕ → List Input → List FileEnd → List Entry → List ℕ
page_of unit labels table files ends journal = text_before ++ (safe (data_of unit labels table files ends journal) ++ text_behind)
