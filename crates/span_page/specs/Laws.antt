-- The facts that hold of every page.
use Rattle.std.specs.Prelude.{◌≡◌, ℕ, nat_eq, false, List, [], All}
use Rattle.span_page.specs.{Unit, Entry, AreAlike, FileEnd, Input, end_lines, refusals_of, SpanColumn, Folded, Coded.{coded_after, decoded_after}, Data.data_of, Page.page_of, Safe.safe}

-- no byte of the data is `<`, so that nothing in them ends the element in which they stand
abbrev pub DataEndNoElement : Type 0
DataEndNoElement = (unit : Unit) (labels : List SpanColumn) (table : List ℕ) (files : List Input) (ends : List FileEnd) (journal : List Entry) →
    All (λ byte. nat_eq byte 60 ≡ false) (safe (data_of unit labels table files ends journal))

-- decoding gives back the stacks that were coded
abbrev pub StacksAreHadBack : Type 0
StacksAreHadBack = (stacks : List Folded) → decoded_after [] (coded_after [] stacks) ≡ stacks

-- journals that have the same accepted acts on each topic, and as many entries of each kind, have the same page with a table, if the same
-- is said of what was refused, and of the files that failed
abbrev pub PagesFollowFromActs : Type 0
PagesFollowFromActs = (unit : Unit) (labels : List SpanColumn) (table : List ℕ) (files : List Input) (ends others : List FileEnd) (journal other : List Entry) → AreAlike journal other →
    refusals_of unit files ends journal ≡ refusals_of unit files others other → end_lines files ends ≡ end_lines files others → page_of unit labels table files ends journal ≡ page_of unit labels table files others other
