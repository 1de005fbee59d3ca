use Rattle.std.proofs.Common.{[], ◌∷◌, ◌++◌, ap, subst, sym, ◌∙◌, arith, length}
use Rattle.json.specs.Token.{end_array, end_object}
use Rattle.span_parts.specs.{list_tokens, numbers_tokens, AreNumbers, Guess.{MayFollow, Remains}}
use Rattle.span_parts.proofs.Lists.{Some-pair}
use Rattle.span_parts.proofs.guess.first_line_of.Goals as goal

pub returns-in_default-2 : goal.returns-in_default-2
returns-in_default-2 c = λ schema unit rows counts may is.
    let none = c.new-columns.ensures.items in
    let kind = c.in-Some.ensures schema.of unit _ _ _ _ is in
    let started = c.in-Some-unit_after.ensures unit _ _ kind.1 in
    let rest = list_tokens schema (numbers_tokens rows counts ++ end_object ∷ []) in
    let columns = may.schema_fits.columns in
    let follow : MayFollow c.new-columns.result.items schema.columns = record { each = columns.each; few = omega (arith, ap length none, columns.few) } in
    let named = c.in_ok-rest.ensures schema.columns rest follow started.1 in
    subst (Remains (end_array ∷ rest)) c.in_default-2.is named.0

pub returns-in_default-after_one : goal.returns-in_default-after_one
returns-in_default-after_one c = λ schema unit rows counts may is.
    let none = c.new-columns.ensures.items in
    let kind = c.in-Some.ensures schema.of unit _ _ _ _ is in
    let started = c.in-Some-unit_after.ensures unit _ _ kind.1 in
    let rest = list_tokens schema (numbers_tokens rows counts ++ end_object ∷ []) in
    let columns = may.schema_fits.columns in
    let follow : MayFollow c.new-columns.result.items schema.columns = record { each = columns.each; few = omega (arith, ap length none, columns.few) } in
    let named = c.in_ok-rest.ensures schema.columns rest follow started.1 in
    c.in_default-after_one.ensures end_array rest (subst (Remains (end_array ∷ rest)) c.in-Some-2.is named.0)

pub returns-in_default-3 : goal.returns-in_default-3
returns-in_default-3 c = λ schema unit rows counts may is.
    let none = c.new-columns.ensures.items in
    let kind = c.in-Some.ensures schema.of unit _ _ _ _ is in
    let started = c.in-Some-unit_after.ensures unit _ _ kind.1 in
    let rest = list_tokens schema (numbers_tokens rows counts ++ end_object ∷ []) in
    let columns = may.schema_fits.columns in
    let follow : MayFollow c.new-columns.result.items schema.columns = record { each = columns.each; few = omega (arith, ap length none, columns.few) } in
    let named = c.in_ok-rest.ensures schema.columns rest follow started.1 in
    let after = c.in-Some-after_one.ensures end_array rest (subst (Remains (end_array ∷ rest)) c.in-Some-2.is named.0) in
    let list = c.in_ok-rest-2.ensures schema _ (sym kind.0) (subst (λ of. AreNumbers of schema.numbers) (sym kind.0) may.schema_fits.numbers) after in
    subst (Remains (numbers_tokens rows counts ++ end_object ∷ [])) c.in_default-3.is list.0

pub returns-in-Some-numbers_of : goal.returns-in-Some-numbers_of
returns-in-Some-numbers_of c = λ schema unit rows counts may is.
    let none = c.new-columns.ensures.items in
    let kind = c.in-Some.ensures schema.of unit _ _ _ _ is in
    let started = c.in-Some-unit_after.ensures unit _ _ kind.1 in
    let rest = list_tokens schema (numbers_tokens rows counts ++ end_object ∷ []) in
    let columns = may.schema_fits.columns in
    let follow : MayFollow c.new-columns.result.items schema.columns = record { each = columns.each; few = omega (arith, ap length none, columns.few) } in
    let named = c.in_ok-rest.ensures schema.columns rest follow started.1 in
    let after = c.in-Some-after_one.ensures end_array rest (subst (Remains (end_array ∷ rest)) c.in-Some-2.is named.0) in
    let list = c.in_ok-rest-2.ensures schema _ (sym kind.0) (subst (λ of. AreNumbers of schema.numbers) (sym kind.0) may.schema_fits.numbers) after in
    let next = subst (Remains (numbers_tokens rows counts ++ end_object ∷ [])) c.in-Some-3.is list.0 in
    let found = c.in-Some-numbers_of.ensures rows counts (end_object ∷ []) may.few may.counts_fit next in
    let same = Some-pair c.in-Some-numbers_of.rows rows c.in-Some-numbers_of.counts counts found in
    ((λ i. record { of = kind.0 i; columns = (named.1 ∙ ap (λ l. l ++ schema.columns) none) i; numbers = list.1 i }), started.0, same.0, same.1)

pub returns-in-None : goal.returns-in-None
returns-in-None c = λ schema unit rows counts may is.
    let none = c.new-columns.ensures.items in
    let kind = c.in-Some.ensures schema.of unit _ _ _ _ is in
    let started = c.in-Some-unit_after.ensures unit _ _ kind.1 in
    let rest = list_tokens schema (numbers_tokens rows counts ++ end_object ∷ []) in
    let columns = may.schema_fits.columns in
    let follow : MayFollow c.new-columns.result.items schema.columns = record { each = columns.each; few = omega (arith, ap length none, columns.few) } in
    let named = c.in_ok-rest.ensures schema.columns rest follow started.1 in
    let after = c.in-Some-after_one.ensures end_array rest (subst (Remains (end_array ∷ rest)) c.in-Some-2.is named.0) in
    let list = c.in_ok-rest-2.ensures schema _ (sym kind.0) (subst (λ of. AreNumbers of schema.numbers) (sym kind.0) may.schema_fits.numbers) after in
    let next = subst (Remains (numbers_tokens rows counts ++ end_object ∷ [])) c.in-Some-3.is list.0 in
    let found = c.in-None.ensures rows counts (end_object ∷ []) may.few may.counts_fit next in
    absurd cc

pub returns-in_default-unit_after : goal.returns-in_default-unit_after
returns-in_default-unit_after c = λ schema unit rows counts may is.
    let kind = c.in-Some.ensures schema.of unit _ _ _ _ is in
    c.in_default-unit_after.ensures unit _ _ kind.1
