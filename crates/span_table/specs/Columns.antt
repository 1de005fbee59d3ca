-- The columns by which spans are summed, and the value that a span has in each.
use Rattle.std.specs.{List.list_any, Option.{option_and_then, option_map}, Prelude.{ℕ, ◌==◌, nat_lt, Bool, true, false, not, ◌&&◌, ◌||◌, List, ◌++◌, length, Option, Some, None, codes}}
use Rattle.span_table.specs.{ArgValue, Whole, Words, Thread, Arguments, value_of, Bytes, AsyncKey, Holder, Entry, names_of, with_home, declared.{column.Column.{Column, TheVariants.{Pid, Tid, Process, Thread as OfThread, Name, File, Cat, Scope, Id, Argument, ParentName, ParentArgument}}, of.Of.{Of, TheVariants.{Spans, Async}}}}

-- what one ledger holds once it is closed, the number of its files, how many of them were refused as a whole, and the name of its only
-- file: None where it has not just one that has a name
pub record Run : Type 0 where
  pub journal : List Entry
  pub files : ℕ
  pub unread : ℕ
  pub file : Option Bytes

abbrev pub run_of : List Entry → ℕ → ℕ → Option Bytes → Run
run_of journal files unread file = record { journal = journal; files = files; unread = unread; file = file }

-- what a span has in a column, if it has anything there
abbrev pub Value : Type 0
Value = Option ArgValue

-- the name that a journal gives a process or a thread, if it gives one
abbrev pub holder_name : List Entry → Holder → Value
holder_name journal holder = option_map Words (names_of journal holder).name

-- what a span is called: its name and its arguments
pub record Called : Type 0 where
  pub name : Bytes
  pub args : Arguments

-- the value of a column at a closed span of a thread of a run, by what it is called, and what its parent is, if it has one
abbrev pub value_at : Run → Thread → Called → Option Called → Column → Value
value_at run thread span parent Pid = Some (Whole thread.pid)
value_at run thread span parent Tid = Some (Whole thread.tid)
value_at run thread span parent Process = holder_name run.journal (thread.pid, None)
value_at run thread span parent OfThread = holder_name run.journal (thread.pid, Some thread.tid)
value_at run thread span parent Name = Some (Words span.name)
value_at run thread span parent File = option_map Words run.file
value_at run thread span parent (Argument key) = value_of key span.args
value_at run thread span parent ParentName = option_map (λ (p : Called). Words p.name) parent
value_at run thread span parent (ParentArgument key) = option_and_then (λ (p : Called). value_of key p.args) parent
value_at run thread span parent column = None

-- the value of a column at an asynchronous key of a run: its id has the process before it that it belongs to
abbrev pub async_value_at : Run → AsyncKey → Column → Value
async_value_at run key Cat = Some (Words key.cat)
async_value_at run key Scope = Some (Words key.scope)
async_value_at run key Id = Some (Words (with_home key.id.home key.id.id))
async_value_at run key Name = Some (Words key.name)
async_value_at run key File = option_map Words run.file
async_value_at run key column = None

-- what a column is called
abbrev pub column_name : Column → Bytes
column_name Pid = codes "pid"
column_name Tid = codes "tid"
column_name Process = codes "process"
column_name OfThread = codes "thread"
column_name Name = codes "name"
column_name File = codes "file"
column_name Cat = codes "cat"
column_name Scope = codes "scope"
column_name Id = codes "id"
column_name (Argument key) = codes "args." ++ key
column_name ParentName = codes "parent.name"
column_name (ParentArgument key) = codes "parent.args." ++ key

-- the column is an argument
abbrev pub is_argument : Column → Bool
is_argument (Argument key) = true
is_argument column = false

-- the column is of the span's parent
abbrev pub is_of_parent : Column → Bool
is_of_parent ParentName = true
is_of_parent (ParentArgument key) = true
is_of_parent column = false

-- an argument's key has a byte, and no comma
abbrev pub is_key : Bytes → Bool
is_key key = nat_lt 0 (length key) && not (list_any (λ byte. byte == 44) key)

abbrev pub is_column : Column → Bool
is_column (Argument key) = is_key key
is_column (ParentArgument key) = is_key key
is_column column = true

-- only asynchronous spans have the column
abbrev pub is_of_async : Column → Bool
is_of_async Cat = true
is_of_async Scope = true
is_of_async Id = true
is_of_async column = false

-- whatever a table sums has the column
abbrev pub is_of_all : Column → Bool
is_of_all Name = true
is_of_all File = true
is_of_all column = false

-- what the table sums has the column
abbrev pub goes_with : Of → Column → Bool
goes_with Spans column = not (is_of_async column)
goes_with Async column = is_of_async column || is_of_all column
