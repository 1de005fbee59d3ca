-- What a request means.
use Rattle.std.specs.Prelude.{◌≡◌, ◌⊎◌, List, [], codes, string_bytes}
use Rattle.span_request.specs.declared.tasks.{Items.TheVariants.{Printed}, Request.{Request, TheVariants.{Refuse, Run, Show}}, TableText.TheVariants.{Changes, Repetitions, Table}, Task.{Task, TheVariants.{Collect, Pages, Stacks, Tabulate}}}
use Rattle.span_tasks.specs.{AsksFor, Bytes, Items, Listed, Name, Named, SourceBytes, SourceFolders, TableText, AreFilesOf, AreNamed, StopsListing, SaysOfNames, Outcome.{Ends}, Pages.{PrintsPage, StopsPage}, Stacks.{PrintsStacks, StopsStacks}, Tabulations.{StopsTabulating, Tabulates}, Together.{Collects, StopsCollecting}, declared.outcome.Outcome.Outcome}

-- the text that a task prints of files, and of those of a base, the fault lines that are said behind it, and the warnings behind these
abbrev pub Prints : SourceBytes → Task → Listed → Listed → Bytes → Bytes → Bytes → Type 0
Prints source (Collect settings view) base files text lines warnings = Collects source files.names.items settings view text lines warnings
Prints source (Pages settings jobs view) base files text lines warnings = PrintsPage source files settings view text lines warnings
Prints source (Stacks settings jobs labels) base files text lines warnings = PrintsStacks source files settings labels.items text lines warnings
Prints source (Tabulate task) base files text lines warnings = Tabulates source task base files text lines warnings

-- what is said where it prints nothing
abbrev pub Stops : SourceBytes → Task → Listed → Listed → Bytes → Type 0
Stops source (Collect settings view) base files lines = StopsCollecting source files.names.items settings view lines
Stops source (Pages settings jobs view) base files lines = StopsPage source files settings view lines
Stops source (Stacks settings jobs labels) base files lines = StopsStacks source files settings labels.items lines
Stops source (Tabulate task) base files lines = StopsTabulating source task base files lines

-- the names of the base of a text
abbrev pub base_in : TableText → List Name
base_in (Table form) = []
base_in (Changes asked) = asked.base.items
base_in (Repetitions asked) = asked.base.items

abbrev pub ending_in : Items → Bytes
ending_in Printed = codes ".jsonl"
ending_in items = codes ".json"

-- the names of a base
abbrev pub base_of : Task → List Name
base_of (Tabulate task) = base_in task.text
base_of task = []

-- how names end of files below a folder
abbrev pub ending_of : Task → Bytes
ending_of (Tabulate task) = ending_in task.items
ending_of task = codes ".json"

-- the text of the files that names stand for
pub record PrintsFiles (source : SourceBytes) (folders : SourceFolders) (task : Task) (names : List Name) (text lines warnings : Bytes) : Type 0 where
  pub base : Listed
  pub earlier : AreFilesOf folders (ending_of task) (base_of task) base
  pub files : Listed
  pub later : AreFilesOf folders (ending_of task) names files
  pub prints : Prints source task base files text lines warnings

-- What is said where there is none: of a folder, the base's first, or of the files.
abbrev pub StopsFiles : SourceBytes → SourceFolders → Task → List Name → Bytes → Type 0
StopsFiles source folders task names lines = StopsListing folders (ending_of task) (base_of task) lines
    ⊎ ((base : Listed) × AreFilesOf folders (ending_of task) (base_of task) base
    × (StopsListing folders (ending_of task) names lines ⊎ ((files : Listed) × AreFilesOf folders (ending_of task) names files × Stops source task base files lines)))

-- the text of what the words name, and what is said where there is none
abbrev pub PrintsNamed : SourceBytes → SourceFolders → Task → Named → Bytes → Bytes → Bytes → Type 0
PrintsNamed source folders task named text lines warnings = (names : List Name) × AreNamed source named names × PrintsFiles source folders task names text lines warnings

abbrev pub StopsNamed : SourceBytes → SourceFolders → Task → Named → Bytes → Type 0
StopsNamed source folders task named lines = SaysOfNames source named lines ⊎ ((names : List Name) × AreNamed source named names × StopsFiles source folders task names lines)

-- What may come of a request, over what the source holds: a task prints its text, or stops; help is printed, or the words are refused.
abbrev pub IsOutcome : SourceBytes → SourceFolders → Request → Outcome → Type 0
IsOutcome source folders (Run task named) outcome = Ends (PrintsNamed source folders task named) (StopsNamed source folders task named) outcome
IsOutcome source folders (Show help) outcome = Ends (λ text lines warnings. (text ≡ string_bytes help) × (lines ≡ []) × (warnings ≡ [])) (λ lines. ⊥) outcome
IsOutcome source folders (Refuse refusal) outcome = Ends (λ text lines warnings. ⊥) (λ lines. lines ≡ string_bytes refusal) outcome

-- what may come of words
abbrev pub IsAsked : SourceBytes → SourceFolders → List Bytes → Outcome → Type 0
IsAsked source folders words outcome = (request : Request) × AsksFor words request × IsOutcome source folders request outcome
