use Rattle.std.specs.Prelude.{filter}
use Rattle.std.proofs.{Common.{◌≡◌, ◌+◌, Bool, true, false, cond, List, ◌∷◌, [], ◌++◌, get_or, map, take, refl, sym, ap, subst, ◌∙◌, append_assoc, arith}, lemmas.List.{map-append, take_all, take_more, Elements.filter-append}}
use Rattle.span_comparisons.specs.{Row, Changed.{Classifies, base_keys, from_other, is_new, new_key}, Changes.{Change, compared_at}}
use Rattle.span_comparisons.proofs.Compared.{Classifies-few, from_other-is}
use Rattle.span_comparisons.proofs.changes.classify_new.Goals as goal

pub classify_if_new-requires-clause-same : goal.classify_if_new-requires-clause-same
classify_if_new-requires-clause-same c =
    let keys = base_keys c.args.base.now c.args.other.now ++ map (λ (row : Row). compared_at c.args.base.now c.args.other.now row.key) (filter (is_new c.args.base.now) (take c.loop-row.row-index c.args.other.now)) in
    let few = Classifies-few c.args.shown.now keys c.loop-row.found.changes.items c.loop-row.found.same c.loop-row.found.all c.loop-row.invariant.classified in
    omega (arith, few, c.loop-row.invariant.few)

pub classify_if_new-requires-clause-all : goal.classify_if_new-requires-clause-all
classify_if_new-requires-clause-all c = omega (arith, c.loop-row.invariant.few)

pub loop-row-preserved : goal.loop-row-preserved
loop-row-preserved c =
    let base = c.args.base.now in
    let other = c.args.other.now in
    let at = c.loop-row.row-index in
    let row = c.row.result.now in
    let stands = c.row.ensures ∙ c.row-item.is ∙ ap (get_or other at) (sym c.row.ensures) in
    let make = λ (r : Row). compared_at base other r.key in
    let news = λ (rows : List Row). map make (filter (is_new base) rows) in
    let is = from_other-is base other c.requires.base c.requires.other row at c.loop-row-test.true (sym stands) in
    let one : new_key base row ≡ news (row ∷ []) = by make row (is_new base row) is in
    let more : take (at + 1) other ≡ take at other ++ row ∷ [] = take_more other at row c.loop-row-test.true ∙ ap (λ r. take at other ++ r ∷ []) (sym stands) in
    let passed : news (take (at + 1) other) ≡ news (take at other) ++ news (row ∷ []) =
    ap news more ∙ ap (map make) (filter-append (is_new base) (take at other) (row ∷ [])) ∙ map-append make (filter (is_new base) (take at other)) (filter (is_new base) (row ∷ [])) in
    record {
      few = omega (arith, c.in_ok-classify_if_new.ensures.few, c.loop-row.invariant.few);
      classified = subst (λ keys. Classifies c.args.shown.now keys c.classify_if_new.new.found.changes.items c.classify_if_new.new.found.same c.classify_if_new.new.found.all)
          (append_assoc (base_keys base other) (news (take at other)) (new_key base row) ∙ ap (λ l. base_keys base other ++ (news (take at other) ++ l)) one ∙ ap (λ l. base_keys base other ++ l) (sym passed))
          (c.in_ok-classify_if_new.ensures.classified (base_keys base other ++ news (take at other)) c.loop-row.invariant.classified);
    }
  where
    by : (make : Row → Change) (row : Row) (b : Bool) → (b ≡ true → from_other row ≡ make row) → cond b (from_other row ∷ []) [] ≡ map make (cond b (row ∷ []) [])
    by make row true is = ap (λ c. c ∷ []) (is refl)
    by make row false is = refl

pub returns-clause-classified : goal.returns-clause-classified
returns-clause-classified c =
    let base = c.args.base.now in
    let other = c.args.other.now in
    let keys = λ (rows : List Row). base_keys base other ++ map (λ (row : Row). compared_at base other row.key) (filter (is_new base) rows) in
    let passed = take_all c.loop-row.row-index other c.loop-row-test.false in
    subst (λ (rows : List Row). Classifies c.args.shown.now (keys rows) c.loop-row.found.changes.items c.loop-row.found.same c.loop-row.found.all) passed c.loop-row.invariant.classified
