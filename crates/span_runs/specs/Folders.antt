-- Folders, and the files that names stand for where folders are among them.
use Rattle.std.specs.{List.AllZip, Prelude.{◌≡◌, ◌<◌, ◌⊎◌, ⊤, ℕ, ◌-◌, ◌==◌, if◌then◌else◌, Bool, false, List, [], ◌∷◌, ◌++◌, codes, flat_map, length, map, slice_get, Option, Some, None}}
use Rattle.span_runs.specs.{Bytes, FileCount, number_of, fault_line, unread_line, declared.{folders.Listed.Listed, source.{FolderFault.{FolderFault, TheVariants.{Memory, NotRead}}, Name.{Name, TheVariants.{Standard, File}}}}}

-- What is known of a path: nothing; that it is no folder; the wanted files below it, by their paths below it; or the path of the folder,
-- this one or one below, that can't be looked through.
pub data Folder : Type 0 where
  unknown : Folder
  no_folder : Folder
  has_files : List Bytes → Folder
  fails_at : Bytes → Folder

-- what is known of each path, for files whose names end so
abbrev pub SourceFolders : Type 0
SourceFolders = Bytes → Bytes → Folder

-- these are the files below the folder, or it is none
abbrev pub HasBelow : Folder → Option (List Bytes) → Type 0
HasBelow unknown found = ⊤
HasBelow no_folder None = ⊤
HasBelow (has_files paths) (Some found) = found ≡ paths
HasBelow known found = ⊥

-- this folder can't be looked through
abbrev pub FailsBelow : Folder → FolderFault → Type 0
FailsBelow known Memory = ⊤
FailsBelow unknown (NotRead at reason) = ⊤
FailsBelow (fails_at path) (NotRead at reason) = at ≡ path
FailsBelow known (NotRead at reason) = ⊥

abbrev pub is_slash : Option ℕ → Bool
is_slash None = false
is_slash (Some byte) = byte == 47

abbrev pub ends_in_slash : Bytes → Bool
ends_in_slash path = is_slash (slice_get path (length path - 1))

-- a folder as paths begin with it
abbrev pub beginning : Bytes → Bytes
beginning folder = if ends_in_slash folder then folder else folder ++ codes "/"

-- the files that a path stands for, where these are below it: itself, where it is no folder
abbrev pub files_at : Bytes → Option (List Bytes) → List Name
files_at path None = File path ∷ []
files_at path (Some below) = map (λ own. File (beginning path ++ own)) below

-- how many bytes of each path the column of files leaves out, where one path is named and nothing else: what paths below a folder begin with
abbrev pub cut_at : Bytes → Option (List Bytes) → ℕ
cut_at path None = 0
cut_at path (Some below) = length (beginning path)

-- these are the files that a path stands for, which are some
pub record AreFilesAt (known : Folder) (path : Bytes) (names : List Name) : Type 0 where
  pub found : Option (List Bytes)
  pub has : HasBelow known found
  pub some : 0 < length names
  pub are : names ≡ files_at path found

pub record CutsAt (known : Folder) (path : Bytes) (cut : ℕ) : Type 0 where
  pub found : Option (List Bytes)
  pub has : HasBelow known found
  pub is : cut ≡ cut_at path found

-- the files that a name stands for
abbrev pub StandsFor : SourceFolders → Bytes → Name → List Name → Type 0
StandsFor folders ending Standard names = names ≡ Standard ∷ []
StandsFor folders ending (File path) names = AreFilesAt (folders ending path) path names

-- how much is left out where these are named: nothing, where they are several
abbrev pub Cuts : SourceFolders → Bytes → List Name → ℕ → Type 0
Cuts folders ending (File path ∷ []) cut = CutsAt (folders ending path) path cut
Cuts folders ending names cut = cut ≡ 0

-- the files that names stand for, in their order
pub record AreFilesOf (folders : SourceFolders) (ending : Bytes) (names : List Name) (listed : Listed) : Type 0 where
  pub each : List (List Name)
  pub stand : AllZip (StandsFor folders ending) names each
  pub all : listed.names.items ≡ flat_map (λ own. own) each
  pub cut : Cuts folders ending names listed.cut

-- a name's files are put behind others, and of that name alone the column leaves out so much
pub record Puts (folders : SourceFolders) (ending : Bytes) (name : Name) (old new : List Name) (cut : ℕ) : Type 0 where
  pub own : List Name
  pub stands : StandsFor folders ending name own
  pub all : new ≡ old ++ own
  pub cuts : Cuts folders ending (name ∷ []) cut

-- this is said of a folder that has no such file, or can't be looked through
abbrev pub StopsAt : Folder → Bytes → Bytes → Type 0
StopsAt unknown path lines = (lines ≡ fault_line path (number_of FileCount)) ⊎ ((at : Bytes) × (lines ≡ unread_line at))
StopsAt (has_files []) path lines = lines ≡ fault_line path (number_of FileCount)
StopsAt (fails_at at) path lines = lines ≡ unread_line at
StopsAt known path lines = ⊥

-- this is said of a name
abbrev pub StopsAtName : SourceFolders → Bytes → Name → Bytes → Type 0
StopsAtName folders ending Standard lines = ⊥
StopsAtName folders ending (File path) lines = StopsAt (folders ending path) path lines

-- this is said of one of these names, behind some that stand for files
abbrev pub StopsListing : SourceFolders → Bytes → List Name → Bytes → Type 0
StopsListing folders ending [] lines = ⊥
StopsListing folders ending (name ∷ names) lines = StopsAtName folders ending name lines ⊎ (((own : List Name) × StandsFor folders ending name own) × StopsListing folders ending names lines)
