-- How the instants of a thread are kept, and how the counts of a name change.
use Rattle.std.specs.Prelude.{ℕ, ◌+◌, [], ◌∷◌}
use Rattle.span_event.specs.declared.event.Reach.TheVariants.{Thread}
use Rattle.span_keyed_tracks.specs.{Reach, Global, Process, Instants.{NamesCounted, ReachCounts}, declared.meta_track.instants.Counted.{Counted, TheVariants.{Empty, One, Many}}}

-- how many instants have this reach
abbrev pub count_at : Reach → ReachCounts → ℕ
count_at Global counts = counts.global
count_at Process counts = counts.process
count_at Thread counts = counts.thread

-- one more instant
abbrev pub with_reach : ReachCounts → Reach → ReachCounts
with_reach counts Global = record { global = counts.global + 1; process = counts.process; thread = counts.thread }
with_reach counts Process = record { global = counts.global; process = counts.process + 1; thread = counts.thread }
with_reach counts Thread = record { global = counts.global; process = counts.process; thread = counts.thread + 1 }

-- the names with their counts, however they are kept
abbrev pub counted_names : Counted → NamesCounted
counted_names Empty = []
counted_names (One name reaches) = (name, reaches) ∷ []
counted_names (Many names) = names.value.entries
