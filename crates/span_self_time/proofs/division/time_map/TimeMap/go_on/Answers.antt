use Rattle.std.specs.Option.{option_map}
use Rattle.std.proofs.{Common.{rules, ◌≡◌, false, true, Some, sym, ap, ◌∙◌, w64, to_z, of_z, ◌<ℤ◌, arith}, lemmas.Int.{ints, by_lt_z}}
use Rattle.span_self_time.specs.Division.{Owners, owner_of, claims, taken_to, TimeMap.{IsEntrant, IsTaking}}
use Rattle.span_self_time.proofs.{Owners.taken_to-after, TimeMap.Advancing.{IsTaking-over, claimed-starts, claims-covered, covers-start, covers-until}}
use Rattle.span_self_time.proofs.division.time_map.TimeMap.go_on.Goals as goal

pub take-requires-clause-held : goal.take-requires-clause-held
take-requires-clause-held c =
    let s = owner_of c.args.span.now in
    let t = c.args.time in
    let time : to_z w64 (of_z w64 t) ≡ t = search rules in
    let owners = c.requires.taking.owners in
    let is = c.requires.taking.holds.1 in
    let owned : option_map owner_of c.segment_at-held.result ≡ owners t = (rw time at (c.segment_at-held.ensures.owner (taken_to s t owners) is.divided)) ∙ taken_to-after s t owners t (omega (arith, ints)) in
    let claimed : claims s (owners t) ≡ true = ap (claims s) (sym owned) ∙ sym c.claims.ensures ∙ c.if-claims.true in
    c.segment_at-held.ensures.starts (rw time (claimed-starts s t c.args.self.now owners is claimed))

pub returns-then-claims-clause-taking : goal.returns-then-claims-clause-taking
returns-then-claims-clause-taking c = λ owners enter is.
    let time : to_z w64 (of_z w64 c.args.time) ≡ c.args.time = search rules in
    let result : to_z w64 (of_z w64 c.take.result) ≡ c.take.result = search rules in
    rw result (c.take.ensures.taking owners enter (rw time is))

-- the owner of the time is the segment's
owned : (c : goal.After-over) (owners : Owners) → IsTaking (owner_of c.args.span.now) c.args.time c.args.self.now owners → owners c.args.time ≡ Some (owner_of c.in-Some.owned)
owned c owners is =
    let s = owner_of c.args.span.now in
    let t = c.args.time in
    let time : to_z w64 (of_z w64 t) ≡ t = search rules in
    sym (taken_to-after s t owners t (omega (arith, ints))) ∙ sym (rw time at (c.segment_at-held.ensures.owner (taken_to s t owners) is.divided)) ∙ ap (option_map owner_of) c.in-Some.is

below : (c : goal.After-over) → claims (owner_of c.args.span.now) (Some (owner_of c.in-Some.owned)) ≡ false
below c = ap (λ x. claims (owner_of c.args.span.now) (option_map owner_of x)) (sym c.in-Some.is) ∙ sym c.claims.ensures ∙ c.if-claims.false

later : (c : goal.After-over) (owners : Owners) → IsEntrant (owner_of c.args.span.now) owners → IsTaking (owner_of c.args.span.now) c.args.time c.args.self.now owners → c.args.time <ℤ c.over.result
later c owners enter is =
    let until = covers-until (owner_of c.in-Some.owned) c.args.time (enter.settled.own c.args.time (owner_of c.in-Some.owned) (owned c owners is)) in
    omega (arith, ints, until, c.over.ensures.on)

pub returns-clause-taking : goal.returns-clause-taking
returns-clause-taking c = λ owners enter is.
    let s = owner_of c.args.span.now in
    let o = owner_of c.in-Some.owned in
    let t = c.args.time in
    let result : to_z w64 (of_z w64 c.over.result) ≡ c.over.result = search rules in
    let own = owned c owners is in
    let first = covers-start o t (enter.settled.own t o own) in
    rw result (IsTaking-over s t c.over.result c.args.self.now owners is (later c owners enter is) (λ u from before.
    by_lt_z u c.in-Some.owned.span_until (λ h. claims-covered s o t u owners enter own (below c) from h)
    (λ h. c.over.ensures.barred owners u is.barred (omega (arith, ints, first)) h before)))

pub returns-clause-on : goal.returns-clause-on
returns-clause-on c =
    let result : to_z w64 (of_z w64 c.over.result) ≡ c.over.result = search rules in
    rw result (later c c.requires.taking.owners c.requires.taking.holds.0 c.requires.taking.holds.1)
