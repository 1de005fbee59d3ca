-- The fields as a list with a place for each name; for private clauses.
use Rattle.std.specs.Prelude.{List, [], ◌∷◌, Option, Some, codes, if◌then◌else◌}
use Rattle.span_read.specs.{Bytes, same_text, declared.fields.{FieldValue.FieldValue, Fields.Fields}}

-- the names of the fields, and the fields in their order
abbrev pub names : List Bytes
names = codes "ph" ∷ codes "ts" ∷ codes "dur" ∷ codes "pid" ∷ codes "tid" ∷ codes "name" ∷ codes "cat" ∷ codes "id" ∷ codes "id2" ∷ codes "scope" ∷ codes "s" ∷ codes "args" ∷ []

abbrev pub slots : Fields → List (Option FieldValue)
slots f = f.ph ∷ f.ts ∷ f.dur ∷ f.pid ∷ f.tid ∷ f.name ∷ f.cat ∷ f.id ∷ f.id2 ∷ f.scope ∷ f.s ∷ f.args ∷ []

-- the places, with v in the one of that name, if there is one
abbrev pub put_at : Bytes → FieldValue → List Bytes → List (Option FieldValue) → List (Option FieldValue)
put_at name v [] os = []
put_at name v (n ∷ ns) [] = []
put_at name v (n ∷ ns) (o ∷ os) = (if same_text name n then Some v else o) ∷ put_at name v ns os
