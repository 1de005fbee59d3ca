use Rattle.std.proofs.{Common.{rules, ◌≡◌, w64, to_z, of_z, sym, subst, All, ℤ, List}, lemmas.Map.Views.All-insert_key}
use Rattle.span_self_time.specs.Division.TimeMap.Ties.{IsBarred}
use Rattle.span_self_time.proofs.division.time_map.ties.Ties.note.Goals as goal

pub returns-in-Ok : goal.returns-in-Ok
returns-in-Ok c = λ owners are barred.
    let start : to_z w64 (of_z w64 c.args.start) ≡ c.args.start = search rules in
    let end : to_z w64 (of_z w64 c.args.end) ≡ c.args.end = search rules in
    let keys = rw (start, end) at c.in-Ok.ensures.keys in
    subst (λ (l : List (ℤ × ℤ)). All (λ b. IsBarred owners b.0 b.1) l) (sym keys) (All-insert_key _ (c.args.start, c.args.end) (λ b. IsBarred owners b.0 b.1) c.args.self.now.ends.keys are barred)
