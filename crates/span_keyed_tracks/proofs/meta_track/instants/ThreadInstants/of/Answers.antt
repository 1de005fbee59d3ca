use Rattle.std.proofs.Common.{rules, ◌≡◌, ◌∷◌, [], cond, true, false, sym, ap, ◌∙◌}
use Rattle.span_keyed_tracks.specs.{text_cmp, same_text, Instants.counts_of, InstantsKept.count_at, Keyed.kept_at}
use Rattle.span_keyed_tracks.proofs.Instants.{count_at-counts_of, kept_at-only}
use Rattle.span_keyed_tracks.proofs.meta_track.instants.ThreadInstants.of.Goals as goal

pub returns-in-One : goal.returns-in-One
returns-in-One c =
    let only = c.in-One.only in
    let name = c.args.name.now in
    let view : c.args.self.now ≡ (only, c.in-One.reaches) ∷ [] = search rules in
    let same : same_text only name ≡ true = sym c.eq.ensures ∙ c.if-eq.true in
    c.of.ensures ∙ ap (count_at c.args.reach) (sym (ap (λ kept. kept_at text_cmp (counts_of []) kept name) view ∙ kept_at-only only name c.in-One.reaches (counts_of []) ∙ ap (λ b. cond b c.in-One.reaches (counts_of [])) same))

pub returns-in_default : goal.returns-in_default
returns-in_default c =
    let only = c.in-One.only in
    let name = c.args.name.now in
    let view : c.args.self.now ≡ (only, c.in-One.reaches) ∷ [] = search rules in
    let apart : same_text only name ≡ false = sym c.eq.ensures ∙ c.if-eq.false in
    sym (ap (count_at c.args.reach) (ap (λ kept. kept_at text_cmp (counts_of []) kept name) view ∙ kept_at-only only name c.in-One.reaches (counts_of []) ∙ ap (λ b. cond b c.in-One.reaches (counts_of [])) apart)
    ∙ count_at-counts_of c.args.reach [])
