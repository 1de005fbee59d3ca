-- The inputs of a run.
use Rattle.std.specs.{List.AllZip, Prelude.{◌≡◌, ◌+◌, List}}
use Rattle.span_runs.specs.{Input, Settings, Source.{AreFirst, SourceBytes, printed}, declared.source.Name.Name}

-- the input is what the name stands for, of which at most one byte more is read than a file may have
pub record IsInput (source : SourceBytes) (settings : Settings) (name : Name) (input : Input) : Type 0 where
  pub named : input.name ≡ printed name
  pub held : AreFirst (settings.format.most_bytes + 1) (source name) input.bytes.items

-- one input for each name, in order
abbrev pub AreInputs : SourceBytes → Settings → List Name → List Input → Type 0
AreInputs source settings names inputs = AllZip (IsInput source settings) names inputs
