-- How the names of a process or thread change.
use Rattle.std.specs.Prelude.{Some}
use Rattle.span_keyed_tracks.specs.{Keyed.Keyed, Meta.{Holder, Names, Setting, set_name, set_labels, set_sort_index}, declared.meta_track.setting.Setting.{Setting as Kept, TheVariants.{Name, Labels, SortIndex}}}

-- one more setting, which holds from now on
abbrev pub with_setting : Names → Setting → Names
with_setting names (set_name w) = record { name = Some w; labels = names.labels; sort_index = names.sort_index }
with_setting names (set_labels w) = record { name = names.name; labels = Some w; sort_index = names.sort_index }
with_setting names (set_sort_index n) = record { name = names.name; labels = names.labels; sort_index = Some n }

-- a setting of the program
abbrev pub setting : Kept → Setting
setting (Name w) = set_name w
setting (Labels w) = set_labels w
setting (SortIndex n) = set_sort_index n

-- the same with whose it is
abbrev pub keyed_setting : Holder × Kept → Keyed Holder Setting
keyed_setting s = record { key = s.0; step = setting s.1 }
