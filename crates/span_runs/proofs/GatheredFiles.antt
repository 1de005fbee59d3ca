-- Files that are gathered, one more, and those of two groups.
use Rattle.std.specs.Prelude.{flat_map}
use Rattle.std.proofs.{Common.{◌≡◌, ◌+◌, ◌<◌, ◌≤◌, ◌^◌, ℕ, suc, List, [], ◌∷◌, ◌++◌, length, map, take, drop, ap, ap₂, subst, sym, ◌∙◌, append-nil, arith}, Math.{ListN.get_or, Seq.drop-cons}, lemmas.{Grind.flat_map-append, List.{take-append-drop, length-map, map-append, map_push, Elements.{All-append, All-nil, All-push}}, Slice.Zip.AllZip-long}}
use Rattle.span_runs.specs.{Bytes, Input, Settings, Run, Warning, Apart.{AddsFile, AreGathered, GathersFiles, IsAccounted, run_alone}, Inputs.{AreInputs, IsInput}, Runs.{shorter, shortened}, Said.{IsBehind, SaysOfFiles, SaysMore, refusal_line, warnings_alone}, Source.SourceBytes, declared.{gathered.Gathered.Gathered, said.Said.Said, source.Name.Name}}

-- the names before one, that one, and those behind it are all
pub around-name : (names : List Name) (place : ℕ) (name : Name) → place < length names → name ≡ get_or names place name → take place names ++ name ∷ drop (suc place) names ≡ names
around-name names place name low is =
    ap (λ n. take place names ++ n ∷ drop (suc place) names) is ∙ ap (λ (ns : List Name). take place names ++ ns) (sym (drop-cons names place name low)) ∙ take-append-drop place names

-- inputs and others, read of names and others
pub AreInputs-append : (source : SourceBytes) (settings : Settings) (names more : List Name) (inputs others : List Input) → AreInputs source settings names inputs → AreInputs source settings more others → AreInputs source settings (names ++ more) (inputs ++ others)
AreInputs-append source settings [] more [] others one other = other
AreInputs-append source settings [] more (input ∷ inputs) others one other = absurd one
AreInputs-append source settings (name ∷ names) more [] others one other = absurd one
AreInputs-append source settings (name ∷ names) more (input ∷ inputs) others one other = (one.0, AreInputs-append source settings names more inputs others one.1 other)

-- one more input, read of one more name
pub AreInputs-push : (source : SourceBytes) (settings : Settings) (names : List Name) (inputs : List Input) (name : Name) (input : Input) → AreInputs source settings names inputs → IsInput source settings name input → AreInputs source settings (names ++ name ∷ []) (inputs ++ input ∷ [])
AreInputs-push source settings names inputs name input read is = AreInputs-append source settings names (name ∷ []) inputs (input ∷ []) read (is, tt)

-- what is said of one more file, in its place
flat_map-push : {A : Type 0} (own : Input → List A) (files : List Input) (file : Input) → flat_map own (files ++ file ∷ []) ≡ flat_map own files ++ own file
flat_map-push own files file = flat_map-append own files (file ∷ []) ∙ ap (λ (l : List _). flat_map own files ++ l) (append-nil (own file))

pub SaysOfFiles-push : (settings : Settings) (files : List Input) (file : Input) (old new : Said) → SaysOfFiles settings files old → SaysMore settings file old new → SaysOfFiles settings (files ++ file ∷ []) new
SaysOfFiles-push settings files file old new says more = record {
  lines = more.lines ∙ (λ i. says.lines i ++ refusal_line settings.format file) ∙ sym (flat_map-push (refusal_line settings.format) files file);
  warnings = more.warnings ∙ (λ i. says.warnings i ++ warnings_alone settings file) ∙ sym (flat_map-push (warnings_alone settings) files file);
}

-- what is said of files, and of others behind them
pub SaysOfFiles-append : (settings : Settings) (files others : List Input) (first second both : Said) → SaysOfFiles settings files first → SaysOfFiles settings others second → IsBehind first second both →
    SaysOfFiles settings (files ++ others) both
SaysOfFiles-append settings files others first second both one other behind = record {
  lines = behind.lines ∙ ap₂ (λ (xs ys : Bytes). xs ++ ys) one.lines other.lines ∙ sym (flat_map-append (refusal_line settings.format) files others);
  warnings = behind.warnings ∙ ap₂ (λ (xs ys : List Warning). xs ++ ys) one.warnings other.warnings ∙ sym (flat_map-append (warnings_alone settings) files others);
}

-- no files are gathered
abbrev pub AreGathered-none : (source : SourceBytes) (settings : Settings) (ComeTo : List Run → Type 0) (said : Said) → ComeTo [] → said.lines.items ≡ [] → said.warnings.items ≡ [] → AreGathered source [] settings ComeTo said
AreGathered-none source settings ComeTo said is no_lines no_warnings = record {
  files = [];
  read = tt;
  accounted = All-nil (IsAccounted settings);
  runs = is;
  says = record { lines = no_lines; warnings = no_warnings };
}

-- one more file is gathered, behind the others
abbrev pub AreGathered-push : {T : Type 0} (source : SourceBytes) (names : List Name) (name : Name) (settings : Settings) (ComeTo : List Run → T → Type 0) (old new : Gathered T) →
    GathersFiles source names settings ComeTo old → AddsFile source name settings ComeTo old new → GathersFiles source (names ++ name ∷ []) settings ComeTo new
AreGathered-push source names name settings ComeTo old new gathered adds = record {
  files = gathered.files ++ adds.file ∷ [];
  read = AreInputs-push source settings names gathered.files name adds.file gathered.read adds.read;
  accounted = All-push (IsAccounted settings) gathered.files adds.file gathered.accounted adds.accounted;
  runs = subst (λ (runs : List Run). ComeTo runs new.runs) (sym (map_push (run_alone settings) gathered.files adds.file)) (adds.runs (map (run_alone settings) gathered.files) gathered.runs);
  says = SaysOfFiles-push settings gathered.files adds.file old.said new.said gathered.says adds.says;
}

-- the files of two groups are gathered, where what these come to was joined
pub AreGathered-append : {T : Type 0} (source : SourceBytes) (names more : List Name) (settings : Settings) (ComeTo : List Run → T → Type 0) (first second both : Gathered T) →
    GathersFiles source names settings ComeTo first → GathersFiles source more settings ComeTo second →
    ((runs others : List Run) → ComeTo runs first.runs → ComeTo others second.runs → ComeTo (runs ++ others) both.runs) →
    IsBehind first.said second.said both.said → GathersFiles source (names ++ more) settings ComeTo both
AreGathered-append source names more settings ComeTo first second both one other joins behind = record {
  files = one.files ++ other.files;
  read = AreInputs-append source settings names more one.files other.files one.read other.read;
  accounted = All-append (IsAccounted settings) one.files other.files one.accounted other.accounted;
  runs = subst (λ (runs : List Run). ComeTo runs both.runs) (sym (map-append (run_alone settings) one.files other.files)) (joins (map (run_alone settings) one.files) (map (run_alone settings) other.files) one.runs other.runs);
  says = SaysOfFiles-append settings one.files other.files first.said second.said both.said one.says other.says behind;
}

-- there are as many runs as names
pub length-gathered : (source : SourceBytes) (names : List Name) (settings : Settings) (files : List Input) → AreInputs source settings names files → length (map (run_alone settings) files) ≡ length names
length-gathered source names settings files read = length-map files (run_alone settings) ∙ AllZip-long (IsInput source settings) names files read

module _ {T : Type 0} (cut : ℕ) (ComeTo : List Run → T → Type 0) (first second : T) where
  -- what is joined is joined where names are shorter
  pub joins-shortened : (both : T) → ((runs others : List Run) → ComeTo runs first → ComeTo others second → ComeTo (runs ++ others) both) → (runs others : List Run) → shortened cut ComeTo runs first
      → shortened cut ComeTo others second → shortened cut ComeTo (runs ++ others) both
  joins-shortened both joins runs others one other =
      subst (λ (all : List Run). ComeTo all both) (sym (map-append (shorter cut) runs others)) (joins (map (shorter cut) runs) (map (shorter cut) others) one other)

  -- and they are as many
  pub many-shortened : ((runs others : List Run) → ComeTo runs first → ComeTo others second → 2 ^ 32 ≤ length runs + length others) → (runs others : List Run) → shortened cut ComeTo runs first
      → shortened cut ComeTo others second → 2 ^ 32 ≤ length runs + length others
  many-shortened many runs others one other =
      omega (arith, many (map (shorter cut) runs) (map (shorter cut) others) one other, length-map runs (shorter cut), length-map others (shorter cut))
