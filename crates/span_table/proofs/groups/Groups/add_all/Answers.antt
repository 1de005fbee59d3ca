use Rattle.std.proofs.{Common.{◌≡◌, ◌++◌, ◌∷◌, [], map, rules, refl, sym, ap, subst, ◌∙◌, append_assoc}, lemmas.List.{append-nil, map-append}}
use Rattle.span_table.specs.{in_key_order, Adding.{keyed_row, keyed_rows}, Collected.Takes, Keys.{TableKey, key_cmp}, Tables.{SumsByKey, row_of}, declared.{sums.Sums.Sums}}
use Rattle.span_table.proofs.{AddedTables.AddUpAlike-rows, Kept.{Takes-none, Takes-same, Takes-then}, Mixed.{AreRowsOf-entries, AreRowsOf-permutation}}
use Rattle.span_table.proofs.groups.Groups.add_all.Goals as goal

pub loop-key-init : goal.loop-key-init
loop-key-init c = ([], refl, Takes-none c.args.self.now)

pub loop-key-preserved : goal.loop-key-preserved
loop-key-preserved c =
    let before = c.loop-key.invariant in
    let done = before.0 in
    let e : TableKey × Sums = (c.in-Some.key, c.in-Some.sums) in
    let went : c.loop-key.key-iterator ≡ e ∷ c.next.new.self = search rules in
    let taken = ap keyed_rows (map-append row_of done (e ∷ [])) ∙ map-append keyed_row (map row_of done) (row_of e ∷ []) in (
      done ++ e ∷ [],
      append_assoc done (e ∷ []) c.next.new.self ∙ ap (λ l. done ++ l) (sym went) ∙ before.1,
      subst (Takes c.args.self.now c.add.new.self) (sym taken) (Takes-then c.args.self.now c.loop-key.self c.add.new.self (keyed_rows (map row_of done)) (keyed_row (row_of e) ∷ []) before.2 c.in_ok-add.ensures.takes),
    )

pub returns : goal.returns
returns c =
    let before = c.loop-key.invariant in
    let es = c.others.inside.kept.entries in
    let ended : c.loop-key.key-iterator ≡ [] = search rules in
    let begun : c.into_iter-key-iterator.result ≡ es = search rules in
    let all : before.0 ≡ es = sym (append-nil before.0) ∙ ap (λ l. before.0 ++ l) (sym ended) ∙ before.1 ∙ begun in
    let rows = subst (λ (done : SumsByKey). Takes c.args.self.now c.loop-key.self (keyed_rows (map row_of done))) all before.2 in
    let kept = in_key_order key_cmp es in
    let moved = AreRowsOf-permutation (map row_of kept) (map row_of es) (AreRowsOf-entries es c.others.invariant) in
    subst (λ (kept : SumsByKey). Takes c.args.self.now c.loop-key.self (keyed_rows (map row_of kept))) c.others.view_is
    (Takes-same c.args.self.now c.loop-key.self (keyed_rows (map row_of es)) (keyed_rows (map row_of kept)) (AddUpAlike-rows (map row_of es) (map row_of kept) moved) rows)
