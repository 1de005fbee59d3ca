-- Which counts of a table have 64 bits.
use Rattle.std.specs.Prelude.{◌^◌, nat_lt, Bool, ◌&&◌}
use Rattle.span_table.specs.{CountRow, declared.counts.TableCounts.TableCounts}

-- the counts of entries have 64 bits
abbrev pub entry_counts_fit : CountRow → Bool
entry_counts_fit counts =
    nat_lt counts.accepted (2 ^ 64) && (nat_lt counts.refused (2 ^ 64) && (nat_lt counts.skipped (2 ^ 64) && (nat_lt counts.queries (2 ^ 64) && nat_lt counts.seals (2 ^ 64))))

-- the counts of a table have 64 bits
abbrev pub counts_fit : TableCounts → Bool
counts_fit counts = nat_lt counts.runs (2 ^ 64) && (nat_lt counts.files (2 ^ 64) && (nat_lt counts.unread (2 ^ 64) && entry_counts_fit counts.entries))
