use Rattle.std.specs.List.{join_with_byte}
use Rattle.std.proofs.{Common.{◌++◌, ◌∷◌, [], ℕ, suc, pos, List, append-nil, flat_map, string_bytes, drop, get_or, rules, sym, ap, subst, ◌∙◌, append_assoc, ◌≡◌}, Math.Seq.drop-cons, lemmas.List.drop_all}
use Rattle.span_page.specs.{Thread, Bounds.{IsFaultOf, IsTooLong}, Data.{graph_json, graphs_json, left_after, left_behind}}
use Rattle.span_page.proofs.{Joined.{join_with_byte_cons}, LongTexts.{fails, long-beginning}}
use Rattle.span_page.proofs.data.put_threads.Goals as goal

-- the graph of the first thread, and those of each other with a comma before them
pub returns-clause-json : goal.returns-clause-json
returns-clause-json c =
    let before = string_bytes c.args.out.now in
    let out = string_bytes c.loop-thread.out in
    let labels = c.args.labels.now in
    let journal = c.args.ledger.now.journal in
    let later = c.in-Some.later.now in
    let thread = c.in-Some.first.now in
    let first = graph_json labels journal c.args.left thread in
    let behind = left_after labels journal c.args.left thread in
    let commas = λ (left : ℕ) (threads : List Thread). flat_map (λ (text : List ℕ). 44 ∷ text) (graphs_json labels journal left threads) in
    let none : drop c.loop-thread.thread-index later ≡ [] = drop_all c.loop-thread.thread-index later c.loop-thread-test.false in
    sym (append-nil out)
    ∙ ap (λ (others : List Thread). out ++ commas c.loop-thread.rest others) (sym none)
    ∙ c.loop-thread.invariant.json
    ∙ ap (λ text. text ++ commas c.in_ok-rest.rest later) c.in_ok-rest.ensures.json
    ∙ ap (λ left. (before ++ first) ++ commas left later) c.in_ok-rest.ensures.left
    ∙ append_assoc before first (commas behind later)
    ∙ ap (λ text. before ++ text) (sym (join_with_byte_cons first (graphs_json labels journal behind later)))
    ∙ ap (λ (threads : List Thread). before ++ join_with_byte 44 (graphs_json labels journal c.args.left threads)) (sym c.in-Some.ensures.cases.0)

pub returns-clause-left : goal.returns-clause-left
returns-clause-left c =
    let labels = c.args.labels.now in
    let journal = c.args.ledger.now.journal in
    let later = c.in-Some.later.now in
    let none : drop c.loop-thread.thread-index later ≡ [] = drop_all c.loop-thread.thread-index later c.loop-thread-test.false in
    ap (left_behind labels journal c.loop-thread.rest) (sym none)
    ∙ c.loop-thread.invariant.left
    ∙ ap (λ left. left_behind labels journal left later) c.in_ok-rest.ensures.left
    ∙ ap (left_behind labels journal c.args.left) (sym c.in-Some.ensures.cases.0)

-- of the threads so far and this one there is too much already
pub returns-in_err-rest-2-clause-full : goal.returns-in_err-rest-2-clause-full
unfolding lib.Utf8.encode
returns-in_err-rest-2-clause-full c =
    let before = string_bytes c.args.out.now in
    let out = string_bytes c.loop-thread.out in
    let labels = c.args.labels.now in
    let journal = c.args.ledger.now.journal in
    let later = c.in-Some.later.now in
    let rest = c.loop-thread.rest in
    let first = graph_json labels journal c.args.left c.in-Some.first.now in
    let behind = left_after labels journal c.args.left c.in-Some.first.now in
    let commas = λ (left : ℕ) (threads : List Thread). flat_map (λ (text : List ℕ). 44 ∷ text) (graphs_json labels journal left threads) in
    let whole = before ++ join_with_byte 44 (graphs_json labels journal c.args.left c.args.threads.now) in
    let none : Thread = record { pid = pos 0; tid = pos 0 } in
    let thread = get_or later c.loop-thread.thread-index none in
    let more = drop (suc c.loop-thread.thread-index) later in
    let graph = graph_json labels journal rest thread in
    let others = commas (left_after labels journal rest thread) more in
    let all : ((out ++ 44 ∷ []) ++ graph) ++ others ≡ whole =
    append_assoc (out ++ 44 ∷ []) graph others
    ∙ append_assoc out (44 ∷ []) (graph ++ others)
    ∙ ap (λ (threads : List Thread). out ++ commas rest threads) (sym (drop-cons later c.loop-thread.thread-index none c.loop-thread-test.true))
    ∙ c.loop-thread.invariant.json
    ∙ ap (λ text. text ++ commas c.in_ok-rest.rest later) c.in_ok-rest.ensures.json
    ∙ ap (λ left. (before ++ first) ++ commas left later) c.in_ok-rest.ensures.left
    ∙ append_assoc before first (commas behind later)
    ∙ ap (λ text. before ++ text) (sym (join_with_byte_cons first (graphs_json labels journal behind later)))
    ∙ ap (λ (threads : List Thread). before ++ join_with_byte 44 (graphs_json labels journal c.args.left threads)) (sym c.in-Some.ensures.cases.0) in
    fails (IsFaultOf whole) c.from_residual-in_err-rest-2.result c.in_err-rest-2.field-0.0 (search rules)
    (λ large. long-beginning ((out ++ 44 ∷ []) ++ graph) others whole all (subst (λ (t : List ℕ). IsTooLong (t ++ graph)) c.in_ok-push.ensures.bytes (c.in_err-rest-2.ensures.full large)))
