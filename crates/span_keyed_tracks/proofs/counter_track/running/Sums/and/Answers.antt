use Rattle.std.specs.{Int.{int_min, int_max}, Prelude.{int_lt, if◌then◌else◌}}
use Rattle.std.proofs.Common.{rules, ◌≡◌, sym, ap, ap₂, ◌∙◌, w64, to_z, of_z, to_z-of_z, refl}
use Rattle.span_keyed_tracks.proofs.counter_track.running.Sums.and.Goals.{then-ts-self, else-ts-self}
use Rattle.span_keyed_tracks.proofs.counter_track.running.Sums.and.Goals as goal

pub returns : goal.returns
returns c =
    let sums = c.args.self.now in
    let ts : to_z w64 (of_z w64 c.args.ts) ≡ c.args.ts = to_z-of_z c.ranges.ts in
    let value : to_z w64 (of_z w64 c.args.value) ≡ c.args.value = to_z-of_z c.ranges.value in
    let least : to_z w64 (of_z w64 sums.totals.least) ≡ sums.totals.least = search rules in
    let greatest : to_z w64 (of_z w64 sums.totals.greatest) ≡ sums.totals.greatest = search rules in
    let latest : to_z w64 (of_z w64 sums.latest) ≡ sums.latest = search rules in
    let of_min : to_z w64 (of_z w64 c.min.result) ≡ c.min.result = search rules in
    let of_max : to_z w64 (of_z w64 c.max.result) ≡ c.max.result = search rules in
    let of_max_time : to_z w64 (of_z w64 c.max-2.result) ≡ c.max-2.result = search rules in
    let kept : to_z w64 (of_z w64 sums.totals.last) ≡ sums.totals.last = search rules in
    let min : to_z w64 (of_z w64 c.min.result) ≡ int_min sums.totals.least c.args.value = of_min ∙ c.min.ensures.value ∙ ap₂ int_min least value in
    let max : to_z w64 (of_z w64 c.max.result) ≡ int_max sums.totals.greatest c.args.value = of_max ∙ c.max.ensures.value ∙ ap₂ int_max greatest value in
    let until : to_z w64 (of_z w64 c.max-2.result) ≡ int_max sums.latest c.args.ts = of_max_time ∙ c.max-2.ensures.value ∙ ap₂ int_max latest ts in
    let last : to_z w64 c.if-ts-self.last-bits ≡ if int_lt c.args.ts sums.latest then sums.totals.last else c.args.value = elim c.if-ts-self.branch [
      | then-ts-self w ↦ w.last-is ∙ kept ∙ sym (ap (λ b. if b then sums.totals.last else c.args.value) (sym (ap₂ int_lt ts latest) ∙ w.if-ts-self.true))
      | else-ts-self w ↦ w.last-is ∙ value ∙ sym (ap (λ b. if b then sums.totals.last else c.args.value) (sym (ap₂ int_lt ts latest) ∙ w.if-ts-self.false))
    ] in
    rw (min, max, until, last) refl
