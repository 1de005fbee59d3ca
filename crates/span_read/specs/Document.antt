-- What the bytes of a file are: the items of a trace, or why the file is refused.
use Rattle.std.specs.{List.suffix_len, Option.option_or, Prelude.{ℕ, ◌-◌, ◌==◌, ◌||◌, List, [], ◌∷◌, ◌++◌, take, length, slice_index, Bool, false, Option, Some, None, option_and_then, Result, Ok, Err, nat_lt, codes, if◌then◌else◌}, Str.is_utf8}
use Rattle.serde_json.specs.{Data.{Data, array, object, Items, no_items, item}, Events.items_len, Find.{get_member, as_array}, Read.read}
use Rattle.span_read.specs.{Item, Unit, Element.item_of_data, declared.{error.ReadError.{ReadError, TheVariants.{TooLarge, NotJson, NotTrace, TooMany}}, format.Format.Format}}

-- the bounds of a file where nothing else is said, and those of a large one
abbrev pub format_of : Unit → Format
format_of unit = record { unit = unit; most_bytes = 67108864; most_elements = 4194304 }

abbrev pub large_format : Unit → Format
large_format unit = record { unit = unit; most_bytes = 4294967295; most_elements = 4294967295 }

-- blanks are space, tab, line feed and carriage return
abbrev pub is_blank : ℕ → Bool
is_blank b = b == 32 || b == 9 || b == 10 || b == 13

-- the first byte that is no blank is this one
abbrev pub opens_with : ℕ → List ℕ → Bool
opens_with mark [] = false
opens_with mark (b ∷ text) = if is_blank b then opens_with mark text else b == mark

abbrev pub without_trailing_blanks : List ℕ → List ℕ
without_trailing_blanks text = take (length text - suffix_len is_blank text) text

-- one comma at the end is left out
abbrev pub without_trailing_comma : List ℕ → List ℕ
without_trailing_comma text = if slice_index text (length text - 1) == 44 then take (length text - 1) text else text

-- an array without the blanks, the one comma and then the blanks at its end
abbrev pub cut_text : List ℕ → List ℕ
cut_text text = without_trailing_blanks (without_trailing_comma (without_trailing_blanks text))

-- the texts that are tried in turn: an array may lack its closing bracket, and may have a comma after its last element or after the bracket
abbrev pub candidates : List ℕ → List (List ℕ)
candidates text = text ∷ (if opens_with 91 text then cut_text text ∷ (cut_text text ++ 93 ∷ []) ∷ [] else [])

-- the value of the first text that reads
abbrev pub first_read : List (List ℕ) → Option Data
first_read [] = None
first_read (text ∷ texts) = option_or (read text) (first_read texts)

-- the value that the bytes are, which must be UTF-8
abbrev pub document : List ℕ → Option Data
document bytes = if is_utf8 bytes then first_read (candidates bytes) else None

-- the elements of a trace: the array itself, or the member `traceEvents` of an object
abbrev pub elements_of : Data → Option Items
elements_of (array ds) = Some ds
elements_of (object ms) = option_and_then as_array (get_member (codes "traceEvents") ms)
elements_of _ = None

abbrev pub items_of : Unit → Items → List Item
items_of unit no_items = []
items_of unit (item d ds) = item_of_data unit d ∷ items_of unit ds

abbrev pub doc_of_elements : Format → Option Items → Result (List Item) ReadError
doc_of_elements format None = Err NotTrace
doc_of_elements format (Some ds) = if nat_lt format.most_elements (items_len ds) then Err TooMany else Ok (items_of format.unit ds)

abbrev pub doc_of_document : Format → Option Data → Result (List Item) ReadError
doc_of_document format None = Err NotJson
doc_of_document format (Some d) = doc_of_elements format (elements_of d)

-- the items of a file's bytes in a run of that format, or the first reason why the file is refused
abbrev pub doc : Format → List ℕ → Result (List Item) ReadError
doc format bytes = if nat_lt format.most_bytes (length bytes) then Err TooLarge else doc_of_document format (document bytes)
