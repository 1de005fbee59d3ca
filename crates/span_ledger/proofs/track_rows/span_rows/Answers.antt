use Rattle.std.specs.Prelude.{flat_map}
use Rattle.std.proofs.{Common.{rules, ◌≡◌, List, [], ◌∷◌, ◌++◌, map, Bor, sym, ap, ◌∙◌, append_assoc, append-nil}, lemmas.List.map_push}
use Rattle.span_ledger.specs.{Thread, SpanRow, TrackRows.track_span_rows}
use Rattle.span_ledger.proofs.track_rows.span_rows.Goals as goal

flat_map-push : {A B : Type 0} (f : A → List B) (xs : List A) (x : A) → flat_map f (xs ++ x ∷ []) ≡ flat_map f xs ++ f x
flat_map-push f [] x = append-nil (f x)
flat_map-push f (y ∷ xs) x = ap (λ ys. f y ++ ys) (flat_map-push f xs x) ∙ sym (append_assoc (f y) (flat_map f xs) (f x))

-- the rows of one more thread
flat_map-passed : (f : Thread → List SpanRow) (passed : List (Bor Thread)) (thread : Bor Thread) → flat_map f (map (λ x. x.now) (passed ++ thread ∷ [])) ≡ flat_map f (map (λ x. x.now) passed) ++ f thread.now
flat_map-passed f passed thread = ap (flat_map f) (map_push (λ x. x.now) passed thread) ∙ flat_map-push f (map (λ x. x.now) passed) thread.now

pub loop-thread-preserved : goal.loop-thread-preserved
loop-thread-preserved c =
    let kept = c.args.tracks.now.phases.spans in
    let rows = track_span_rows kept in
    let added : c.add_span_rows.new.rows.items ≡ c.loop-thread.rows.items ++ track_span_rows kept c.in-Some.thread.now = search rules in
    added ∙ ap (λ xs. xs ++ track_span_rows kept c.in-Some.thread.now) c.loop-thread.invariant ∙ sym (flat_map-passed rows c.loop-thread.yielded c.in-Some.thread)
