-- What options ask a table to sum.
use Rattle.std.specs.Prelude.{◌≡◌, List, Some}
use Rattle.span_request.specs.{Column, Condition, Number, Of, Options, Columns.AreAsked, Conditions.AreConditions, Numbers.{AreNumbersGiven, of_of}}

-- what is summed, by which columns, which numbers are named, and the conditions
pub record Asked : Type 0 where
  pub of : Of
  pub columns : List Column
  pub numbers : List Number
  pub conditions : List Condition

-- what the options say of it
pub record IsAskedBy (options : Options) (asked : Asked) : Type 0 where
  pub of : of_of options ≡ Some asked.of
  pub columns : AreAsked asked.of options asked.columns
  pub numbers : AreNumbersGiven options.numbers asked.numbers
  pub conditions : AreConditions options.conditions.items asked.conditions

-- they say something that is not known
abbrev pub AskNothing : Options → Type 0
AskNothing options = (asked : Asked) → IsAskedBy options asked → ⊥
