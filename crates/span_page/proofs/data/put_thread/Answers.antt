use Rattle.std.specs.Prelude.{Err}
use Rattle.std.proofs.Common.{◌≡◌, ◌≤◌, ◌<◌, ◌-◌, ◌++◌, [], ℕ, List, arith, length, string_bytes, sym, ap, ◌∙◌, rules}
use Rattle.span_page.specs.{TooLarge, frame_count, thread_frame_count, Folded, folded_stacks, Framed, folded_after, Data.stacks_json}
use Rattle.span_page.proofs.Graphs.{graph-none, graph-stands, left-none, left-stands}
use Rattle.span_page.proofs.data.put_thread.Goals as goal

-- the stacks that are put are the thread's, whose frames fit
pub returns-in-Ok-clause-json : goal.returns-in-Ok-clause-json
returns-in-Ok-clause-json c =
    let labels = c.args.labels.now in
    let journal = c.args.ledger.now.journal in
    let thread = c.args.thread.now in
    let stacks = ap (λ (frames : List Framed). folded_after [] frames) c.deref.ensures.value ∙ c.in-Ok.ensures.stacks
    ∙ ap folded_stacks c.in_ok-spans.ensures in
    let count = c.in-Ok.ensures.count ∙ ap frame_count c.in_ok-spans.ensures in
    let within : thread_frame_count labels journal thread ≤ c.args.left = omega (arith, c.in-Ok.ensures.fits, count) in
    c.in_ok-put_stacks-in-Ok.ensures.json
    ∙ ap (λ (stacks : List Folded). string_bytes c.args.out.now ++ stacks_json stacks) stacks
    ∙ ap (λ (json : List ℕ). string_bytes c.args.out.now ++ json) (sym (graph-stands labels journal c.args.left thread within))

pub returns-in-Ok-clause-left : goal.returns-in-Ok-clause-left
returns-in-Ok-clause-left c =
    let labels = c.args.labels.now in
    let journal = c.args.ledger.now.journal in
    let thread = c.args.thread.now in
    let count = c.in-Ok.ensures.count ∙ ap frame_count c.in_ok-spans.ensures in
    let within : thread_frame_count labels journal thread ≤ c.args.left = omega (arith, c.in-Ok.ensures.fits, count) in
    let many : length c.in-Ok.frames.items ≡ c.len.result = search rules in
    ap (λ n. c.args.left - n) (sym many ∙ count) ∙ sym (left-stands labels journal c.args.left thread within)

-- they are more than are left
pub returns-in-Err-TooLarge-clause-json : goal.returns-in-Err-TooLarge-clause-json
returns-in-Err-TooLarge-clause-json c =
    let labels = c.args.labels.now in
    let journal = c.args.ledger.now.journal in
    let thread = c.args.thread.now in
    let failed : c.framed_stacks.result ≡ Err TooLarge = search rules in
    let more : c.args.left < thread_frame_count labels journal thread = rw c.in_ok-spans.ensures at (c.framed_stacks.ensures.full failed) in
    c.in_ok-push_str-in-Err-TooLarge.ensures.bytes ∙ ap (λ (json : List ℕ). string_bytes c.args.out.now ++ json) (sym (graph-none labels journal c.args.left thread more))

pub returns-in-Err-TooLarge-clause-left : goal.returns-in-Err-TooLarge-clause-left
returns-in-Err-TooLarge-clause-left c =
    let labels = c.args.labels.now in
    let journal = c.args.ledger.now.journal in
    let thread = c.args.thread.now in
    let failed : c.framed_stacks.result ≡ Err TooLarge = search rules in
    let more : c.args.left < thread_frame_count labels journal thread = rw c.in_ok-spans.ensures at (c.framed_stacks.ensures.full failed) in
    sym (left-none labels journal c.args.left thread more)
