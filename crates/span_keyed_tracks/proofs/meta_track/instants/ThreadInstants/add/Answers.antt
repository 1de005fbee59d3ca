use Rattle.std.specs.Cmp.Lexicographic.{bytes_decides}
use Rattle.std.proofs.Common.{rules, ◌≡◌, ◌-◌, ◌<◌, ◌^◌, ◌∷◌, [], cond, true, sym, ap, ap₂, subst, ◌∙◌}
use Rattle.span_keyed_tracks.specs.{text_cmp, same_text, Instants.counts_of, InstantsKept.{count_at, with_reach}, Keyed.kept_at}
use Rattle.span_keyed_tracks.proofs.Instants.{TakesName-first, TakesName-only, few_reaches, kept_at-only}
use Rattle.span_keyed_tracks.proofs.meta_track.instants.ThreadInstants.add.Goals as goal

pub add-requires-in-One : goal.add-requires-in-One
add-requires-in-One c =
    let only = c.in-One.only in
    let name = c.args.name.now in
    let view : c.args.self.now ≡ (only, c.in-One.reaches) ∷ [] = search rules in
    let same : same_text only name ≡ true = sym c.eq.ensures ∙ c.if-eq.true in
    let kept = ap (λ k. kept_at text_cmp (counts_of []) k name) view ∙ kept_at-only only name c.in-One.reaches (counts_of []) ∙ ap (λ b. cond b c.in-One.reaches (counts_of [])) same in
    subst (λ counts. count_at c.args.reach counts < 2 ^ 32 - 1) kept (few_reaches c.args.self.now name c.args.reach c.requires)

pub returns-in-Ok-clause-takes : goal.returns-in-Ok-clause-takes
returns-in-Ok-clause-takes c = λ ss stands.
    let view : c.args.self.now ≡ [] = search rules in
    ap₂ (λ name counts. (name, counts) ∷ []) c.in-Ok.ensures (c.add.ensures ∙ ap (λ counts. with_reach counts c.args.reach) c.new-reaches.ensures)
    ∙ TakesName-first c.args.name.now c.args.reach ss (sym view ∙ stands)

pub returns-in-One-clause-takes : goal.returns-in-One-clause-takes
returns-in-One-clause-takes c = λ ss stands.
    let only = c.in-One.only in
    let name = c.args.name.now in
    let view : c.args.self.now ≡ (only, c.in-One.reaches) ∷ [] = search rules in
    let same : only ≡ name = (bytes_decides only name).0 (sym c.eq.ensures ∙ c.if-eq.true) in
    ap₂ (λ n counts. (n, counts) ∷ []) same c.add-in-One.ensures
    ∙ TakesName-only name c.in-One.reaches c.args.reach ss (sym (ap (λ n. (n, c.in-One.reaches) ∷ []) same) ∙ sym view ∙ stands)
