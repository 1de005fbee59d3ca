use Rattle.std.proofs.Common.{sym, ◌∙◌}
use Rattle.span_keyed_tracks.proofs.InKeyOrder.{lookup-in_key_order, lookup-matches}
use Rattle.span_keyed_tracks.proofs.hashed.find.Goals as goal

pub returns : goal.returns
returns g c =
    c.get.ensures.value ∙ lookup-matches g.met.K.Ord.total c.requires.same g.met.K.Ord.matches_eq c.args.key.now c.args.kept.now.entries
    ∙ sym (lookup-in_key_order g.met.K.Ord.total c.requires.same c.args.kept.now.entries c.args.key.now c.requires.distinct)
