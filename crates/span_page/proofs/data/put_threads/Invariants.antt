use Rattle.std.specs.Prelude.{flat_map}
use Rattle.std.proofs.Common.{◌≡◌, ◌++◌, ◌∷◌, drop, string_bytes}
use Rattle.span_page.specs.Data.{graphs_json, left_behind}
use Rattle.span_page.proofs.data.put_threads.Given as goal

-- the graphs so far, and then what the frames that are left give of the others, are all; and so many are left behind the others
abbrev pub invariant-loop-thread : goal.invariant-loop-thread
invariant-loop-thread l = record {
  json :
      string_bytes l.out ++ flat_map (λ text. 44 ∷ text) (graphs_json l.labels l.ledger.journal l.rest (drop l.thread-index l.later))
      ≡ string_bytes l.initial.out ++ flat_map (λ text. 44 ∷ text) (graphs_json l.labels l.ledger.journal l.initial.rest l.later);
  left : left_behind l.labels l.ledger.journal l.rest (drop l.thread-index l.later) ≡ left_behind l.labels l.ledger.journal l.initial.rest l.later;
}
