-- Which text the options ask for.
use Rattle.std.specs.{List.list_any, Prelude.{◌&&◌, ◌||◌, if◌then◌else◌, not, nat_lt, ℕ, Bool, List, [], ◌∷◌, is_some, length, Option, Some}}
use Rattle.span_request.specs.{Audience, Bytes, Options, People, Programs}

-- it is given once or more
abbrev pub are_given : List Bytes → Bool
are_given texts = nat_lt 0 (length texts)

-- one of them is given
abbrev pub is_any : List Bool → Bool
is_any given = list_any (λ one. one) given

-- the texts that are printed instead of the report; rows for other programs may be those of a comparison, whose first rows may be asked for
abbrev pub texts : Options → List Bool
texts options = (is_some options.top && not (are_given options.base.items)) ∷ options.refused ∷ options.folded ∷ options.page ∷ are_given options.base.items ∷ []

-- the options that say how a table is made
abbrev pub shapes : Options → List Bool
shapes options =
    is_some options.by ∷ is_some options.numbers ∷ is_some options.of ∷ is_some options.group_by ∷ are_given options.conditions.items ∷ options.merge_templates
    ∷ are_given options.only.items ∷ are_given options.skip.items ∷ options.apart ∷ options.add ∷ []

-- a table is wanted, and no text is named
abbrev pub leaves_text : Options → Bool
leaves_text options = is_any (shapes options) && not (options.json || is_any (texts options))

-- the most rows of a ranking; twenty, where none is named, nor another text of a table
abbrev pub most_rows : Options → Option ℕ
most_rows options = if leaves_text options then Some 20 else options.top

-- a table is printed
abbrev pub prints_table : Options → Bool
prints_table options = is_some (most_rows options) || options.json || are_given options.base.items

-- a table is printed, or shown on a page
abbrev pub has_table : Options → Bool
has_table options = prints_table options || options.page

-- whom its table is for: a page shows that for other programs
abbrev pub audience_of : Options → Audience
audience_of options = if options.json || options.page then Programs else People
