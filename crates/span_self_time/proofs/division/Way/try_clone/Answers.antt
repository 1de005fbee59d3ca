use Rattle.std.proofs.{Common.{◌≡◌, ℕ, ℤ, rules, sym, subst}, lemmas.{List.Elements.same_from_all_zip, Map.Entries.entries_from_clone}}
use Rattle.span_self_time.specs.Division.{TimeMap.IsTimeMap, Ways.IsWay}
use Rattle.span_self_time.proofs.division.Way.try_clone.Goals as goal

pub returns-in_ok-new-in-Searched : goal.returns-in_ok-new-in-Searched
returns-in_ok-new-in-Searched c =
    let old = c.deref-in-Searched.result.now in
    let new = c.in_ok-copy-in-Searched.copy in
    let same = c.in_ok-copy-in-Searched.ensures.cases in
    let stretches : new.stretches.map.entries ≡ old.stretches.map.entries = entries_from_clone (λ (x y : ℤ). y ≡ x) _ (λ x y h. h) (search rules) _ _ same.0 in
    let ends : new.ties.ends.keys ≡ old.ties.ends.keys = same_from_all_zip (λ (x y : ℤ × ℤ). (y.0 ≡ x.0) × (y.1 ≡ x.1)) _ _ same.1.0 (λ x y h i. (h.0 i, h.1 i)) in
    let own : new.times.names.entries ≡ old.times.names.entries = entries_from_clone (λ (x y : ℕ). y ≡ x) (λ (x y : ℕ). y ≡ x) (λ x y h. h) (λ x y h. h) _ _ same.1.1.0 in
    λ owners is.
    let held : IsTimeMap owners old = subst (IsTimeMap owners) (sym c.deref-in-Searched.ensures) (subst (IsWay owners) c.in-Searched.is is) in
    subst (IsTimeMap owners) (sym c.in_ok-new-in-Searched.ensures.ok) (record {
      divided = rw stretches held.divided;
      whole = rw stretches held.whole;
      times = record { of_names = rw own held.times.of_names; of_all = rw same.1.1.1 held.times.of_all };
      barred = rw ends held.barred;
    })
