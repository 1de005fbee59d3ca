use Rattle.std.specs.Option.{is_some}
use Rattle.std.proofs.{Common.{◌≡◌, Some, eq-eqb, refl, rules, w64, to_z, of_z}}
use Rattle.span_self_time.specs.{distance, Division.{owner_of, OwnTimes.has_name}}
use Rattle.span_self_time.proofs.{Times.{held-length, charged-small, is_some-owner, AreTimes-charged}, division.own_times.OwnTimes.charge.Goals.After-distance}
use Rattle.span_self_time.proofs.division.own_times.OwnTimes.charge.Goals as goal

length : (c : After-distance) → c.distance.result ≡ distance c.args.from c.args.until
length c =
    let from : to_z w64 (of_z w64 c.args.from) ≡ c.args.from = search rules in
    let until : to_z w64 (of_z w64 c.args.until) ≡ c.args.until = search rules in
    rw (from, until) at c.distance.ensures

pub shift-requires-clause-small : goal.shift-requires-clause-small
shift-requires-clause-small c =
    let name = c.args.span.now.segment.name in
    charged-small (has_name name) c.args.held.now (owner_of c.args.span.now) _ _ c.args.from c.args.until _ _ c.requires.change.change (eq-eqb name name refl) (c.requires.change.are.of_names name) (length (goal.at.shift-requires-clause-small c).After-distance)

pub shift-requires-clause-busy : goal.shift-requires-clause-busy
shift-requires-clause-busy c =
    rw (is_some-owner c.args.held.now) at (charged-small is_some c.args.held.now (owner_of c.args.span.now) _ _ c.args.from c.args.until _ _ c.requires.change.change refl c.requires.change.are.of_all (length (goal.at.shift-requires-clause-busy c).After-distance))

pub shift-requires-clause-held : goal.shift-requires-clause-held
shift-requires-clause-held c =
    held-length c.args.held.now c.args.self.now _ _ c.args.from c.args.until (Some (owner_of c.args.span.now)) _ c.requires.change.are c.requires.change.change (length (goal.at.shift-requires-clause-held c).After-distance)

pub returns-clause-times : goal.returns-clause-times
returns-clause-times c = λ old new are change.
    AreTimes-charged c.args.held.now (owner_of c.args.span.now) c.args.self.now c.shift.new.self old new c.args.from c.args.until _ change are (length (goal.at.returns-clause-times c).After-distance) c.shift.ensures.own c.shift.ensures.busy
