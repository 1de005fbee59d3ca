-- How long a page may be.
use Rattle.std.specs.Prelude.{◌≡◌, ◌<◌, ℕ, List, length}
use Rattle.span_page.specs.declared.fault.PageFault.{PageFault, TheVariants.{TooLarge}}

-- the most bytes of a page
abbrev pub most_bytes : ℕ
most_bytes = 268435456

-- the text has more
abbrev pub IsTooLong : List ℕ → Type 0
IsTooLong text = most_bytes < length text

-- of this text, or of one that begins with it, this fault may be said: unless memory was refused, it is too long
abbrev pub IsFaultOf : List ℕ → PageFault → Type 0
IsFaultOf text fault = fault ≡ TooLarge → IsTooLong text
