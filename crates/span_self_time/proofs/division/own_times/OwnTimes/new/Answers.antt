use Rattle.std.specs.Option.{is_some}
use Rattle.std.proofs.Common.{rules, ◌≡◌, sym, ◌∙◌, refl}
use Rattle.span_self_time.specs.Division.{own_in, OwnTimes.has_name}
use Rattle.span_self_time.proofs.Times.{time_of-none}
use Rattle.span_self_time.proofs.division.own_times.OwnTimes.new.Goals as goal

pub returns : goal.returns
returns c = record {
  of_names = λ name. let none : own_in c.new.result name ≡ 0 = search rules in none ∙ sym (time_of-none (has_name name) refl);
  of_all = sym (time_of-none is_some refl);
}
