use Rattle.std.proofs.Common.{rules, ◌≡◌, sym, ap, ◌∙◌, subst, w64, to_z, of_z, inl, inr}
use Rattle.span_self_time.specs.Division.{Owners, TimeMap.Stretches.{at, Starts, IsDivided, IsEnd, AreWhole}}
use Rattle.span_self_time.proofs.TimeMap.Searching.{on_err}
use Rattle.span_self_time.proofs.division.time_map.stretches.Stretches.split_both.Goals as goal

pub returns-in_err-split-clause-divided : goal.returns-in_err-split-clause-divided
returns-in_err-split-clause-divided c = λ owners are.
    let same : at c.args.self.now ≡ at c.split.new.self = λ i q. sym (c.in_err-split.ensures.err q) i in
    subst (λ (m : Starts). IsDivided owners m) same are

pub returns-in_err-split-clause-err : goal.returns-in_err-split-clause-err
returns-in_err-split-clause-err c =
    let same : at c.args.self.now ≡ at c.split.new.self = λ i q. sym (c.in_err-split.ensures.err q) i in
    let still : (owners : Owners) → IsDivided owners (at c.args.self.now) → AreWhole owners (at c.args.self.now) → AreWhole owners (at c.split.new.self) = λ owners are whole. subst (λ (m : Starts). AreWhole owners m) same whole in
    on_err c.from_residual.result still

pub returns-in-Err-clause-divided : goal.returns-in-Err-clause-divided
returns-in-Err-clause-divided c = λ owners are.
    let same : at c.split.new.self ≡ at c.split-2.new.self = λ i q. sym (c.in-Err.ensures.err q) i in
    c.join.ensures.divided owners (subst (λ (m : Starts). IsDivided owners m) same (c.in_ok-split.ensures.divided owners are))

pub returns-in-Err-clause-err : goal.returns-in-Err-clause-err
returns-in-Err-clause-err c = λ owners are whole t o end here.
    let from : to_z w64 (of_z w64 c.args.from) ≡ c.args.from = search rules in
    let same : at c.split.new.self ≡ at c.split-2.new.self = λ i q. sym (c.in-Err.ensures.err q) i in
    let divided = c.in_ok-split.ensures.divided owners are in
    let again = subst (λ (m : Starts). IsDivided owners m) same divided in
    let before = subst (λ (m : Starts). IsEnd m t o) (sym same) (c.join.ensures.ends owners t o again end) in
    elim (c.in_ok-split.ensures.ends owners t o are before) [
      | inl at_from ↦
          let joined = subst (λ x. IsEnd (at c.join.new.self) x o) at_from end in
          c.join.ensures.apart owners o again joined (ap owners (sym at_from) ∙ here)
      | inr old ↦ whole t o old here
    ]
