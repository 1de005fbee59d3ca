use Rattle.std.proofs.Common.{◌≡◌, ℕ, List, [], ◌∷◌, ◌++◌, map, sym, ap, subst}
use Rattle.span_self_time.specs.{Closed.span_of, Division.{bare, owner_of, taken, owners_of, IsNew, CanAdd, Adds, Ways.IsWay}, Spans.Span}
use Rattle.span_self_time.proofs.{Owners.{owners_of-append, owners_of-apart}, SpanTimes.AreSettled-owners_of, TimeMap.Searching.on_err, division.Division.add.Goals.After-suit}
use Rattle.span_self_time.proofs.division.Division.add.Goals as goal

owners_of-push : (spans : List (Span ℕ)) (s : Span ℕ) → owners_of (spans ++ s ∷ []) ≡ taken (bare s) (owners_of spans)
owners_of-push spans s = λ i u. owners_of-append spans s u i

-- the segment of a whole span is of that span
own : (c : After-suit) → owner_of c.whole-owned.result ≡ bare (span_of c.args.span.now)
own c = ap owner_of c.whole-owned.ensures

new : (c : After-suit) → IsNew (bare (span_of c.args.span.now)) (owners_of (map span_of c.args.others.now))
new c = owners_of-apart (map span_of c.args.others.now) c.args.span.now.at c.requires.apart

pub add-requires : goal.add-requires
add-requires c =
    let at = (goal.at.add-requires c).After-suit in
    let others = map span_of c.args.others.now in
    subst (λ (s : Span ℕ). CanAdd IsWay s c.suit.new.self.way) (sym (own at)) (record {
      is = record { owners = owners_of others; holds = (c.suit.ensures c.requires.division, new at, AreSettled-owners_of others) };
      forward = c.requires.forward;
      in_time = c.requires.in_time;
    })

pub returns-clause-ok : goal.returns-clause-ok
returns-clause-ok c =
    let at = (goal.at.returns-clause-ok c).After-suit in
    let others = map span_of c.args.others.now in
    let added : Adds IsWay (bare (span_of c.args.span.now)) c.suit.new.self.way c.add.new.self = subst (λ (s : Span ℕ). Adds IsWay s c.suit.new.self.way c.add.new.self) (own at) c.in_ok-add.ensures.ok in
    rw (owners_of-push others (span_of c.args.span.now)) (added (owners_of others) (c.suit.ensures c.requires.division) (new at) (AreSettled-owners_of others))

pub returns-in_err-add-clause-err : goal.returns-in_err-add-clause-err
returns-in_err-add-clause-err c =
    let at = (goal.at.returns-in_err-add-clause-err c).After-suit in
    on_err c.from_residual-in_err-add.result (c.in_err-add.ensures.err (owners_of (map span_of c.args.others.now)) (at.suit.ensures at.requires.division))
