-- What is said of a value by a list that is kept in another form.
use Rattle.std.specs.Prelude.{◌≡◌, List}

module _ {K E A : Type 0} where
  -- the value is what this function gives for each list that stands in this relation to what is kept
  abbrev pub Gives : (K → List E → Type 0) → K → (List E → A) → A → Type 0
  Gives relates kept function value = (list : List E) → relates kept list → value ≡ function list
