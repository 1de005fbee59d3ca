use Rattle.std.proofs.{Common.{rules, ◌≡◌, ◌≤ℤ◌, subst, w64, to_z, of_z, arith}, lemmas.Int.ints}
use Rattle.span_self_time.specs.{Division.{Owners, owner_of, taken, IsNew, AreSettled, TimeMap.{IsTimeMap, IsEntrant, IsTaking, Stretches.IsJoining}}, declared.division.time_map.TimeMap.TimeMap}
use Rattle.span_self_time.proofs.{Owners.taken-empty, TimeMap.{Barring.IsBarred-own, Charging.{IsTaking-start, IsTimeMap-taken}, Searching.on_err}, division.time_map.TimeMap.add.Goals.{Else-span, In_ok-split_both}}
use Rattle.span_self_time.proofs.division.time_map.TimeMap.add.Goals as goal

pub returns-then-span-clause-ok : goal.returns-then-span-clause-ok
returns-then-span-clause-ok c = λ owners is new settled.
    subst (λ (x : Owners). IsTimeMap x c.args.self.now) (taken-empty (owner_of c.args.span.now) owners (omega (arith, ints, c.if-span.true))) is

pub returns-in_err-keep-clause-err : goal.returns-in_err-keep-clause-err
returns-in_err-keep-clause-err c =
    on_err c.from_residual.result (λ owners is. record { divided = is.divided; whole = is.whole; times = c.keep.ensures.same owners is.times; barred = is.barred })

pub returns-in_err-split_both-clause-err : goal.returns-in_err-split_both-clause-err
returns-in_err-split_both-clause-err c =
    let still : (owners : Owners) → IsTimeMap owners c.args.self.now → IsTimeMap owners (record { stretches = c.split_both.new.self; ties = c.args.self.now.ties; times = c.keep.new.self }) = λ owners is. record {
      divided = c.split_both.ensures.divided owners is.divided;
      whole = c.in_err-split_both.ensures.err owners is.divided is.whole;
      times = c.keep.ensures.same owners is.times;
      barred = is.barred;
    } in
    on_err c.from_residual-in_err-split_both.result still

entrant : (c : Else-span) (owners : Owners) → IsNew (owner_of c.args.span.now) owners → AreSettled owners → IsEntrant (owner_of c.args.span.now) owners
entrant c owners new settled =
    let forward : c.args.span.now.span_start ≤ℤ c.args.span.now.span_until = c.requires.forward in
    record {
      new = new;
      settled = settled;
      in_time = c.requires.in_time;
      lasts = omega (arith, ints, c.if-span.false, forward);
    }

-- the map of which the span takes its own
abbrev ready : In_ok-split_both → TimeMap
ready c = record { stretches = c.split_both.new.self; ties = c.args.self.now.ties; times = c.keep.new.self }

start : (c : In_ok-split_both) (owners : Owners) → IsTimeMap owners c.args.self.now → IsTaking (owner_of c.args.span.now) c.args.span.now.span_start (ready c) owners
start c owners is =
    let first : to_z w64 (of_z w64 c.args.span.now.span_start) ≡ c.args.span.now.span_start = search rules in
    let until : to_z w64 (of_z w64 c.args.span.now.span_until) ≡ c.args.span.now.span_until = search rules in
    IsTaking-start (owner_of c.args.span.now) c.args.self.now c.split_both.new.self c.keep.new.self owners is
    c.split_both.ensures.divided
    (rw first at (c.in_ok-split_both.ensures.from owners is.divided))
    (rw until at c.in_ok-split_both.ensures.until)
    (rw (first, until) at c.in_ok-split_both.ensures.ends)
    c.keep.ensures.same c.in_ok-keep.ensures.kept

pub go_through-requires : goal.go_through-requires
go_through-requires c =
    let at = goal.at.go_through-requires c in
    let is = c.requires.is in
    record { owners = is.owners; holds = (entrant at.Else-span is.owners is.holds.1 is.holds.2, start at.In_ok-split_both is.owners is.holds.0) }

pub returns-clause-ok : goal.returns-clause-ok
returns-clause-ok c = λ owners is new settled.
    let at = goal.at.returns-clause-ok c in
    let first : to_z w64 (of_z w64 c.args.span.now.span_start) ≡ c.args.span.now.span_start = search rules in
    let until : to_z w64 (of_z w64 c.args.span.now.span_until) ≡ c.args.span.now.span_until = search rules in
    let taking = c.go_through.ensures owners (entrant at.Else-span owners new settled) (start at.In_ok-split_both owners is) in
    let once : IsJoining c.args.span.now.span_until c.go_through.new.self.stretches c.join.new.self = subst (λ t. IsJoining t c.go_through.new.self.stretches c.join.new.self) until c.join.ensures in
    let twice : IsJoining c.args.span.now.span_start c.join.new.self c.join-2.new.self = subst (λ t. IsJoining t c.join.new.self c.join-2.new.self) first c.join-2.ensures in
    c.note.ensures (taken (owner_of c.args.span.now) owners) (IsBarred-own (owner_of c.args.span.now) owners) (IsTimeMap-taken (owner_of c.args.span.now) c.go_through.new.self c.join.new.self c.join-2.new.self owners taking once twice)
