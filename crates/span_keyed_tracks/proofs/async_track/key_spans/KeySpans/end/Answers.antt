use Rattle.std.specs.Prelude.{nat_abs, int_lt, max}
use Rattle.std.proofs.{Common.{rules, ◌≡◌, ◌-◌, ◌-ℤ◌, ℤ, true, false, List, length, take, slice_get, Some, refl, sym, ap, ap₂, ◌∙◌, w64, to_z, of_z, arith}, lemmas.Int.ints}
use Rattle.span_keyed_tracks.specs.{IsTime, distance, Async.AsyncSpans, AsyncKept.with_end, Last.{last_of, without_last}}
use Rattle.span_keyed_tracks.proofs.{Async.{AreBounded-with_end, nat_abs-distance}, Lists.Last.{slice_get-last, take-without_last, All-last_of}}
use Rattle.span_keyed_tracks.proofs.async_track.key_spans.KeySpans.end.Goals as goal

last_of-read : (items : List ℤ) (begin : ℤ) → Some begin ≡ slice_get items (length items - 1) → last_of items ≡ Some begin
last_of-read items begin read = sym (slice_get-last items) ∙ sym read

-- a time in range is itself as a number of 64 bits
same_time : (t : ℤ) → IsTime t → to_z w64 (of_z w64 t) ≡ t
same_time t in_time = omega (arith, ints, in_time.0, in_time.1)

pub returns-then-ts-begin-clause-refusal : goal.returns-then-ts-begin-clause-refusal
returns-then-ts-begin-clause-refusal c =
    let found = last_of-read c.self.inside.opened.items c.in-Some.begin.now (search rules) in
    let ts = same_time c.args.ts c.requires.in_time in
    let begin = same_time c.in-Some.begin.now (All-last_of IsTime c.self.inside.opened.items c.self.invariant.in_time c.in-Some.begin.now found) in
    let earlier : int_lt c.args.ts c.in-Some.begin.now ≡ true = sym (ap₂ int_lt ts begin) ∙ c.if-ts-begin.true in
    rw (← c.self.view_is, found, earlier, c.code-then-ts-begin.ensures) refl

pub invariant_of-self : goal.invariant_of-self
invariant_of-self c =
    let found = last_of-read c.self.inside.opened.items c.in-Some.begin.now (search rules) in
    let ts = same_time c.args.ts c.requires.in_time in
    let begin = same_time c.in-Some.begin.now (All-last_of IsTime c.self.inside.opened.items c.self.invariant.in_time c.in-Some.begin.now found) in
    let later : int_lt c.args.ts c.in-Some.begin.now ≡ false = sym (ap₂ int_lt ts begin) ∙ c.if-ts-begin.false in
    let lasts : c.abs_diff-length.result ≡ distance c.in-Some.begin.now c.args.ts = c.abs_diff-length.ensures ∙ ap₂ (λ a b. nat_abs (a -ℤ b)) ts begin ∙ nat_abs-distance c.in-Some.begin.now c.args.ts later in
    let added : c.from.result ≡ distance c.in-Some.begin.now c.args.ts = c.from.ensures ∙ lasts in
    let longest : c.max-self-inside.result ≡ max c.self.inside.longest (distance c.in-Some.begin.now c.args.ts) = c.max-self-inside.ensures ∙ ap (max c.self.inside.longest) lasts in
    let fewer : c.pop.new.self.items ≡ take (length c.self.inside.opened.items - 1) c.self.inside.opened.items = search rules in
    let popped : c.pop.new.self.items ≡ without_last c.self.inside.opened.items = fewer ∙ take-without_last c.self.inside.opened.items in
    rw (popped, added, longest) (AreBounded-with_end _ c.in-Some.begin.now c.args.ts c.self.invariant found c.requires.in_time)

pub returns-clause-refusal : goal.returns-clause-refusal
returns-clause-refusal c =
    let found = last_of-read c.self.inside.opened.items c.in-Some.begin.now (search rules) in
    let ts = same_time c.args.ts c.requires.in_time in
    let begin = same_time c.in-Some.begin.now (All-last_of IsTime c.self.inside.opened.items c.self.invariant.in_time c.in-Some.begin.now found) in
    let later : int_lt c.args.ts c.in-Some.begin.now ≡ false = sym (ap₂ int_lt ts begin) ∙ c.if-ts-begin.false in
    rw (← c.self.view_is, found, later) refl

pub returns-clause-ends : goal.returns-clause-ends
returns-clause-ends c =
    let found = last_of-read c.self.inside.opened.items c.in-Some.begin.now (search rules) in
    let ts = same_time c.args.ts c.requires.in_time in
    let begin = same_time c.in-Some.begin.now (All-last_of IsTime c.self.inside.opened.items c.self.invariant.in_time c.in-Some.begin.now found) in
    let later : int_lt c.args.ts c.in-Some.begin.now ≡ false = sym (ap₂ int_lt ts begin) ∙ c.if-ts-begin.false in
    let lasts : c.abs_diff-length.result ≡ distance c.in-Some.begin.now c.args.ts = c.abs_diff-length.ensures ∙ ap₂ (λ a b. nat_abs (a -ℤ b)) ts begin ∙ nat_abs-distance c.in-Some.begin.now c.args.ts later in
    let fewer : c.pop.new.self.items ≡ take (length c.self.inside.opened.items - 1) c.self.inside.opened.items = search rules in
    let popped : c.pop.new.self.items ≡ without_last c.self.inside.opened.items = fewer ∙ take-without_last c.self.inside.opened.items in
    let added : c.from.result ≡ distance c.in-Some.begin.now c.args.ts = c.from.ensures ∙ lasts in
    let longest : c.max-self-inside.result ≡ max c.self.inside.longest (distance c.in-Some.begin.now c.args.ts) = c.max-self-inside.ensures ∙ ap (max c.self.inside.longest) lasts in
    record {
      begin = c.in-Some.begin.now;
      matched = ap (λ (s : AsyncSpans). last_of s.opened) (sym c.self.view_is) ∙ found;
      lasts = lasts;
      becomes = rw (popped, added, longest) (ap (λ (s : AsyncSpans). with_end s c.in-Some.begin.now c.args.ts) c.self.view_is);
    }
