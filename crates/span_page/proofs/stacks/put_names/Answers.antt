use Rattle.std.specs.List.{join_with_byte}
use Rattle.std.proofs.{Common.{◌++◌, ◌∷◌, List, Bor, flat_map, map, string_bytes, sym, ap, ◌∙◌, append_assoc}, lemmas.List.take_all}
use Rattle.span_page.specs.{Bytes, json_text_of}
use Rattle.span_page.proofs.Joined.{join_with_byte_cons}
use Rattle.span_page.proofs.stacks.put_names.Goals as goal

-- the first name, and each other with a comma before it
pub returns : goal.returns
returns c =
    let before = string_bytes c.args.out.now in
    let later = c.in-Some.later.now in
    let first = json_text_of c.in-Some.first.now.now in
    let commas = flat_map (λ text. 44 ∷ text) (map json_text_of (map (λ name. name.now) later)) in
    (rw (take_all c.loop-name.name-index later c.loop-name-test.false) at c.loop-name.invariant)
    ∙ ap (λ text. text ++ commas) (c.in_ok-push_str.ensures.bytes ∙ ap (λ text. before ++ text) (c.as_str.ensures.value ∙ c.in_ok-json_text.ensures))
    ∙ append_assoc before first commas
    ∙ ap (λ text. before ++ text) (sym (join_with_byte_cons first (map json_text_of (map (λ name. name.now) later))))
    ∙ ap (λ (names : List (Bor Bytes)). before ++ join_with_byte 44 (map json_text_of (map (λ name. name.now) names))) (sym c.in-Some.ensures.cases.0)
